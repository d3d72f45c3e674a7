use Rattle.std.proofs.lemmas.List.FromFn.{length-map-range_with_len}
use Rattle.lossy_net.specs.declared.net.Net.TheInside.{Inside}
use Rattle.lossy_net.proofs.Lists.{nothing_yet}
use Rattle.lossy_net.proofs.net.Net.new.Goals as goal

pub returns-clause-circuits : goal.returns-clause-circuits
returns-clause-circuits c = length-map-range_with_len _ 0 c.args.circuits

pub returns-clause-empty : goal.returns-clause-empty
returns-clause-empty c = λ circuit dir.
    let made : Inside = record { circuits = c.args.circuits; quota = c.args.quota; packets = c.in_ok-packets.packets; rings = c.in_ok-rings.rings } in
    nothing_yet made _ circuit dir c.in_ok-rings.ensures
