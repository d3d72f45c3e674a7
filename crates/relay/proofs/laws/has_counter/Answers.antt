use Rattle.std.proofs.lemmas.Option.{slice_get_within}
use Rattle.relay.proofs.laws.has_counter.Goals as goal

pub returns : goal.returns
returns c = slice_get_within c.args.relays.now.discarded c.args.circuit c.discarded.result c.discarded.ensures
