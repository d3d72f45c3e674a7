use Rattle.std.proofs.Common.{◌+◌, take, sym, ap, ◌∙◌, eq-eqb, arith}
use Rattle.std.specs.Prelude.{Some}
use Rattle.std.proofs.lemmas.List.{take_rest}
use Rattle.lab_text.proofs.PartLemmas.{is_parted, not_parted}
use Rattle.lab_text.proofs.parting.parted_last.Goals as goal

pub returns-in-Some : goal.returns-in-Some
returns-in-Some c =
    let text = c.args.text.now in
    let at = c.in-Some.at in
    let found = c.in-Some.ensures in
    ap (λ rest. Some (take at text, rest)) (take_rest text (at + 1))
    ∙ sym (is_parted c.args.byte text at found.0.high found.1 (λ k more less is. found.0.after k (omega arith) less (eq-eqb _ _ is)))

pub returns-in-None : goal.returns-in-None
returns-in-None c = sym (not_parted c.args.byte c.args.text.now (λ k less is. c.in-None.ensures k (omega arith) less (eq-eqb _ _ is)))
