use Rattle.std.proofs.Common.{◌≡◌, length, arith}
use Rattle.std.proofs.lemmas.List.{length-map}
use Rattle.lab_text.specs.FieldsAfter.{texts}
use Rattle.lab_text.specs.declared.form.Form.TheVariants as form
use Rattle.lab_text.proofs.FormLemmas.{count_of, other_count}
use Rattle.lab_text.proofs.forms.parse_up.Goals as goal

pub returns-in_default-clause-value : goal.returns-in_default-clause-value
returns-in_default-clause-value c = λ plans bytes.
    other_count c.args.config.now plans form.Up (texts c.args.fields.now) (λ (same : length (texts c.args.fields.now) ≡ count_of form.Up). grind (arith, length-map))
