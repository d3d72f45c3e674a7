use Rattle.std.proofs.Common.{◌+◌, ◌∷◌, take, sym, ap, ◌∙◌, eqb-true, arith}
use Rattle.std.proofs.lemmas.List.{take_rest}
use Rattle.lab_text.specs.Fields.{fields_of}
use Rattle.lab_text.proofs.CutLemmas.{field_before, field_alone}
use Rattle.streams.proofs.AheadLemmas.{lacks_nowhere, lacks_everywhere}
use Rattle.lab_text.proofs.fields.first_field.Goals as goal

pub returns-in-Some : goal.returns-in-Some
returns-in-Some c =
    let line = c.args.line.now in
    let i = c.in-Some.i in
    let found = c.in-Some.ensures in
    field_before line i found.0.high (eqb-true _ _ found.1) (lacks_nowhere 32 line i (let h = found.0.high in omega arith) found.0.before)
    ∙ ap (λ rest. take i line ∷ fields_of rest) (sym (take_rest line (i + 1)))

pub returns-in-None : goal.returns-in-None
returns-in-None c = field_alone c.args.line.now (lacks_everywhere 32 c.args.line.now c.in-None.ensures)
