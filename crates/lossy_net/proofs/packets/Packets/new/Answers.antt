use Rattle.std.proofs.Common.{◌∙◌, sym}
use Rattle.std.proofs.lemmas.List.FromFn.{length-map-range_with_len}
use Rattle.lossy_net.proofs.packets.Packets.new.Goals as goal

pub returns : goal.returns
returns c = length-map-range_with_len _ 0 _ ∙ sym c.in-Ok.heads.ok.0 ∙ c.in-Ok.ensures.len
