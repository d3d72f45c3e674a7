use Rattle.std.proofs.Common.{◌≤◌, arith}
use Rattle.std.specs.Prelude.{option_map}
use Rattle.lab_text.specs.FieldsAfter.{fields_after}
use Rattle.lab_text.proofs.FieldLemmas.{all_split}
use Rattle.lab_text.proofs.fields.Fields.of.Goals as goal

pub returns-in_default : goal.returns-in_default
returns-in_default c =
    let few : c.fields.count ≤ 5 = omega arith in
    all_split c.fields.fields c.fields.count (fields_after (option_map (λ line. line.now) c.fields.rest)) _ few c.in_default.ensures c.fields.invariant.so_far
