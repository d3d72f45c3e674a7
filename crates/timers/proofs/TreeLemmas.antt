-- The tree above some numbers: its root is the least of them.
use Rattle.std.proofs.Common.{◌≡◌, ℕ, zero, suc, ◌+◌, ◌-◌, ◌*◌, ◌/◌, ◌<◌, ◌≤◌, List, length, get_or, drop, ap, sym, subst, ◌∙◌, set, arith, inl, inr, get_or-drop, length-drop}
use Rattle.std.proofs.lemmas.Bool.{cases_eq}
use Rattle.std.proofs.lemmas.List.{drop-set-add}
use Rattle.timers.specs.Tree.{IsLesser, AreLesser, IsTree}

-- a node is at most the two below it
above_is_lesser : (k : ℕ) (nodes : List ℕ) → IsLesser nodes (k / 2) → get_or nodes (k / 2) 0 ≤ get_or nodes k 0
above_is_lesser k nodes lesser =
    let P : ℕ → Type 0 = λ j. get_or nodes (k / 2) 0 ≤ get_or nodes j 0 in
    elim (cases_eq k (2 * (k / 2))) [
      | inl left ↦ subst P (sym left) (omega arith)
      | inr other ↦ let right : k ≡ 2 * (k / 2) + 1 = omega arith in subst P (sym right) (omega arith)
    ]

-- so the root is at most each node
least_up_to : (leaves : ℕ) (nodes : List ℕ) → AreLesser leaves nodes → (bound k : ℕ) → k ≤ bound → 1 ≤ k → k < 2 * leaves → get_or nodes 1 0 ≤ get_or nodes k 0
least_up_to leaves nodes all zero k within low high = absurd (omega arith)
least_up_to leaves nodes all (suc bound) k within low high = elim (cases_eq k 1) [
  | inl root ↦ let same = ap (λ j. get_or nodes j 0) root in omega arith
  | inr below ↦
      let above = least_up_to leaves nodes all bound (k / 2) (omega arith) (omega arith) (omega arith) in
      omega (arith, above_is_lesser k nodes (all.each (k / 2) (omega arith) (omega arith)))
]

pub root_least : (leaves k : ℕ) (nodes : List ℕ) → AreLesser leaves nodes → 1 ≤ k → k < 2 * leaves → get_or nodes 1 0 ≤ get_or nodes k 0
root_least leaves k nodes all low high = least_up_to leaves nodes all k k (omega arith) low high

-- no number is less than the root
pub root_below : (leaves : ℕ) (nodes numbers : List ℕ) → IsTree leaves nodes → drop leaves nodes ≡ numbers → (k : ℕ) → k < length numbers → get_or nodes 1 0 ≤ get_or numbers k 0
root_below leaves nodes numbers tree view k low =
    let P : List ℕ → Type 0 = λ r. k < length r → get_or nodes 1 0 ≤ get_or r k 0 in
    let some = tree.some in
    subst P view (λ within.
    let count = length-drop leaves nodes in
    let whole = tree.whole in
    rw get_or-drop (root_least leaves (leaves + k) nodes tree.lesser (omega arith) (omega arith))) low

-- a leaf that is as low as the root, as one of the numbers
pub least_leaf : (leaves node : ℕ) (nodes lent numbers : List ℕ) → drop leaves nodes ≡ numbers → lent ≡ nodes → leaves ≤ node → get_or lent node 0 ≡ get_or lent 1 0 → get_or numbers (node - leaves) 0 ≡ get_or nodes 1 0
least_leaf leaves node nodes lent numbers view same within least =
    ap (λ r. get_or r (node - leaves) 0) (sym view)
    ∙ get_or-drop leaves nodes (node - leaves) 0
    ∙ ap (λ k. get_or nodes k 0) (omega arith)
    ∙ ap (λ l. get_or l node 0) (sym same)
    ∙ least
    ∙ ap (λ l. get_or l 1 0) same

-- a written leaf, once the nodes above it were made right
pub leaf_written : (leaves leaf number : ℕ) (nodes written after numbers : List ℕ) → drop leaves nodes ≡ numbers → written ≡ set nodes (leaves + leaf) number → drop leaves after ≡ drop leaves written → drop leaves after ≡ set numbers leaf number
leaf_written leaves leaf number nodes written after numbers view write kept =
    kept ∙ ap (drop leaves) write ∙ drop-set-add leaves nodes leaf number ∙ ap (λ r. set r leaf number) view
