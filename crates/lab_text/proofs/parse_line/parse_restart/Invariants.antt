use Rattle.std.proofs.Common.{◌≡◌, length}
use Rattle.std.specs.Prelude.{option_map}
use Rattle.lab_text.specs.FieldsAfter.{fields_after}
use Rattle.lab_text.proofs.RestartLemmas.{NamedSoFar}
use Rattle.lab_text.proofs.parse_line.parse_restart.Given as goal

abbrev pub invariant-fields : goal.invariant-fields
invariant-fields l = record {
  marks : length l.named ≡ 1024;
  places : length l.comebacks ≡ 1024;
  so_far : NamedSoFar l.config (fields_after (option_map (λ line. line.now) l.fn.rest)) (fields_after (option_map (λ line. line.now) l.rest)) l.named l.comebacks;
}

abbrev pub decreases-fields : goal.decreases-fields
decreases-fields l = length (fields_after (option_map (λ line. line.now) l.rest))
