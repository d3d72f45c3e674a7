use Rattle.std.proofs.Common.{length}
use Rattle.std.specs.Prelude.{option_map}
use Rattle.lab_text.specs.FieldsAfter.{fields_after}
use Rattle.lab_text.proofs.BatchLemmas.{PartsSoFar}
use Rattle.lab_text.proofs.batches.parse_parts.Given as goal

abbrev pub invariant-fields : goal.invariant-fields
invariant-fields l = PartsSoFar l.config (fields_after (option_map (λ line. line.now) l.fn.rest)) (fields_after (option_map (λ line. line.now) l.rest)) l.parts

abbrev pub decreases-fields : goal.decreases-fields
decreases-fields l = length (fields_after (option_map (λ line. line.now) l.rest))
