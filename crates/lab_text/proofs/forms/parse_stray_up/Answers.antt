use Rattle.std.proofs.Common.{◌≡◌, length, arith}
use Rattle.std.proofs.lemmas.List.{length-map}
use Rattle.lab_text.specs.FieldsAfter.{texts}
use Rattle.lab_text.specs.Line.{line_of_form}
use Rattle.lab_text.specs.declared.form.Form.TheVariants as form
use Rattle.lab_text.proofs.FormLemmas.{by_four, count_of, other_count}
use Rattle.lab_text.proofs.forms.parse_stray_up.Goals as goal

pub returns-in-len4-clause-value : goal.returns-in-len4-clause-value
returns-in-len4-clause-value c = λ plans.
    by_four (line_of_form c.args.config.now plans form.StrayUp) c.args.fields.now _ (omega (arith, c.in-len4.len_at_least, c.in-len4.len_below)) (c.stray_up.ensures.value plans)

pub returns-in_default-clause-value : goal.returns-in_default-clause-value
returns-in_default-clause-value c = λ plans.
    other_count c.args.config.now plans form.StrayUp (texts c.args.fields.now) (λ (same : length (texts c.args.fields.now) ≡ count_of form.StrayUp). grind (arith, length-map))
