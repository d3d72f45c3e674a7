use Rattle.std.proofs.Common.{◌≡◌, length, arith}
use Rattle.std.proofs.lemmas.List.{length-map}
use Rattle.lab_text.specs.FieldsAfter.{texts}
use Rattle.lab_text.specs.declared.form.Form.TheVariants as form
use Rattle.lab_text.proofs.FormLemmas.{count_of, other_count}
use Rattle.lab_text.proofs.forms.parse_load.Goals as goal

pub returns-in_default-clause-value : goal.returns-in_default-clause-value
returns-in_default-clause-value c = λ plans.
    other_count c.args.config.now plans form.Load (texts c.args.fields.now) (λ (same : length (texts c.args.fields.now) ≡ count_of form.Load). grind (arith, length-map))
