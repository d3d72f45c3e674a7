use Rattle.std.proofs.Common.{◌≡◌, ◌++◌, length, take}
use Rattle.std.specs.Prelude.{option_map}
use Rattle.lab_text.specs.FieldsAfter.{fields_after, texts}
use Rattle.lab_text.proofs.fields.Fields.of.Given as goal

abbrev pub invariant-fields : goal.invariant-fields
invariant-fields l = record {
  places : length l.fields ≡ 5;
  so_far : texts (take l.count l.fields) ++ fields_after (option_map (λ line. line.now) l.rest) ≡ fields_after (option_map (λ line. line.now) l.fn.rest);
}
