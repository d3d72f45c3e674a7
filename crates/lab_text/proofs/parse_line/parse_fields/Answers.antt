use Rattle.std.proofs.Common.{ap, ◌∙◌}
use Rattle.std.specs.Prelude.{option_map}
use Rattle.lab_text.specs.FieldsAfter.{fields_after}
use Rattle.lab_text.specs.Line.{line_of_form, line_of_found}
use Rattle.lab_text.proofs.FormLemmas.{first_five}
use Rattle.lab_text.proofs.parse_line.parse_fields.Goals as goal

pub returns-clause-value : goal.returns-clause-value
returns-clause-value c =
    let settings = c.args.config.now in
    let plans = c.args.plans in
    let rest = fields_after (option_map (λ line. line.now) c.args.rest) in
    c.parse_form.ensures.value
    ∙ ap (line_of_form settings plans c.in_ok-form.form) (c.as_slice.ensures ∙ c.of-fields.ensures)
    ∙ first_five settings plans c.in_ok-form.form rest
    ∙ ap (λ known. line_of_found settings plans known rest) c.in_ok-form.ensures
