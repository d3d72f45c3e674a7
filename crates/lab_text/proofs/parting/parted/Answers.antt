use Rattle.std.proofs.Common.{◌+◌, List, ℕ, take, drop, ap, ◌∙◌}
use Rattle.std.specs.Prelude.{Some, option_map}
use Rattle.std.proofs.lemmas.List.{take_rest}
use Rattle.lab_text.proofs.parting.parted.Goals as goal

pub returns : goal.returns
returns c =
    let text = c.args.text.now in
    let at = c.in-Some.at in
    let parts : ℕ → List ℕ × List ℕ = λ i. (take i text, drop (i + 1) text) in
    ap (λ rest. Some (take at text, rest)) (take_rest text (at + 1)) ∙ ap (option_map parts) c.in-Some.ensures.value
