use Rattle.std.proofs.Common.{◌≡◌, length}
use Rattle.events.specs.Batch.{are_apart}
use Rattle.events.proofs.batch.are_apart.Given as goal

-- the parts that were not compared yet are apart exactly where all are
abbrev pub invariant-parts : goal.invariant-parts
invariant-parts l = are_apart l.rest ≡ are_apart l.fn.parts

abbrev pub decreases-parts : goal.decreases-parts
decreases-parts l = length l.rest
