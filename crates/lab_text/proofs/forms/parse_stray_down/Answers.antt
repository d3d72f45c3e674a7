use Rattle.std.proofs.Common.{◌≡◌, length, arith}
use Rattle.std.proofs.lemmas.List.{length-map}
use Rattle.lab_text.specs.FieldsAfter.{texts}
use Rattle.lab_text.specs.Line.{line_of_form}
use Rattle.lab_text.specs.declared.form.Form.TheVariants as form
use Rattle.lab_text.proofs.FormLemmas.{by_three, count_of, other_count}
use Rattle.lab_text.proofs.forms.parse_stray_down.Goals as goal

pub returns-in-len3-clause-value : goal.returns-in-len3-clause-value
returns-in-len3-clause-value c = λ plans.
    by_three (line_of_form c.args.config.now plans form.StrayDown) c.args.fields.now _ (omega (arith, c.in-len3.len_at_least, c.in-len3.len_below)) (c.stray_down.ensures.value plans)

pub returns-in_default-clause-value : goal.returns-in_default-clause-value
returns-in_default-clause-value c = λ plans.
    other_count c.args.config.now plans form.StrayDown (texts c.args.fields.now) (λ (same : length (texts c.args.fields.now) ≡ count_of form.StrayDown). grind (arith, length-map))
