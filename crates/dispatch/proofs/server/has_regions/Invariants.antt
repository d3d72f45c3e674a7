use Rattle.std.proofs.Common.{◌<◌, take}
use Rattle.std.specs.Prelude.{All}
use Rattle.config.specs.CircuitPart.{CircuitPart}
use Rattle.dispatch.proofs.server.has_regions.Given as goal

abbrev pub invariant-circuits : goal.invariant-circuits
invariant-circuits l = All (λ (part : CircuitPart). part.region < l.count) (take l.part-index l.parts)
