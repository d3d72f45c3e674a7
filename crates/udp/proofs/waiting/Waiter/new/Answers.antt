use Rattle.std.proofs.Common.{◌*◌, ◌<◌, ◌∙◌, ap, get_or, length, subst}
use Rattle.std.proofs.lemmas.List.{get_or-replicate, length-replicate}
use Rattle.udp.specs.Waiting.{bit_of}
use Rattle.udp.proofs.WordLemmas.{filled}
use Rattle.udp.proofs.waiting.Waiter.new.Goals as goal

pub returns : goal.returns
returns g c role =
    let n = 3 * c.max-words.result in
    let items = c.in_ok-from_elem.ensures.items_if_clones_equal (λ y same. same) in
    filled c.in_ok-from_elem.field-0.items
    (λ k within. ap (λ xs. get_or xs k 0) items ∙ get_or-replicate n k _ 0 (subst (λ m. k < m) (ap length items ∙ length-replicate n _) within))
    (bit_of role)
