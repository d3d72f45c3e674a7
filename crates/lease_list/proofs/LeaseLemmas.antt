-- Leases that are found one slot after the other.
use Rattle.std.proofs.Common.{◌≡◌, ℕ, ◌+◌, ◌<◌, ◌≤◌, List, [], ◌∷◌, ◌++◌, length, drop, get_or, Option, Some, None, refl, sym, ap, ◌∙◌, arith, append_assoc}
use Rattle.std.proofs.lemmas.List.{append-nil, drop_all, drop_more}
use Rattle.types.specs.Addr.{addr4, addr6}
use Rattle.types.specs.Slots.{live4, live6}
use Rattle.types.specs.declared.slot4.Slot4.{Slot4}
use Rattle.types.specs.declared.slot6.Slot6.{Slot6}
use Rattle.lease_list.specs.declared.lease.Lease.{Lease}
use Rattle.lease_list.specs.Lease.{lease4, lease6, leases4, leases6, with_lease}

-- one more at the end, if there is one
pub added : List Lease → Option Lease → List Lease
added found None = found
added found (Some lease) = found ++ lease ∷ []

put : (found : List Lease) (o : Option Lease) (rest : List Lease) → added found o ++ rest ≡ found ++ with_lease o rest
unfolding added
put found None rest = refl
put found (Some lease) rest = append_assoc found (lease ∷ []) rest

pub added_none : (found : List Lease) → added found None ≡ found
unfolding added
added_none found = refl

pub added_some : (found : List Lease) (lease : Lease) → added found (Some lease) ≡ found ++ lease ∷ []
unfolding added
added_some found lease = refl

pub more4 : (moment n i : ℕ) (slots : List Slot4) (x : Slot4) (found whole : List Lease) → i < length slots → x ≡ get_or slots i x
    → found ++ leases4 moment (n + i) (drop i slots) ≡ whole
    → added found (lease4 (addr4 (n + i)) (live4 moment x)) ++ leases4 moment (n + (i + 1)) (drop (i + 1) slots) ≡ whole
more4 moment n i slots x found whole lt is h =
    let o = lease4 (addr4 (n + i)) (live4 moment x) in
    let next : n + (i + 1) ≡ n + i + 1 = omega arith in
    let here : drop i slots ≡ x ∷ drop (i + 1) slots = drop_more slots i x lt ∙ ap (λ y. y ∷ drop (i + 1) slots) (sym is) in
    put found o (leases4 moment (n + (i + 1)) (drop (i + 1) slots))
    ∙ ap (λ k. found ++ with_lease o (leases4 moment k (drop (i + 1) slots))) next
    ∙ ap (λ xs. found ++ leases4 moment (n + i) xs) (sym here)
    ∙ h

pub more6 : (moment n i : ℕ) (slots : List Slot6) (x : Slot6) (found whole : List Lease) → i < length slots → x ≡ get_or slots i x
    → found ++ leases6 moment (n + i) (drop i slots) ≡ whole
    → added found (lease6 (addr6 (n + i)) (live6 moment x)) ++ leases6 moment (n + (i + 1)) (drop (i + 1) slots) ≡ whole
more6 moment n i slots x found whole lt is h =
    let o = lease6 (addr6 (n + i)) (live6 moment x) in
    let next : n + (i + 1) ≡ n + i + 1 = omega arith in
    let here : drop i slots ≡ x ∷ drop (i + 1) slots = drop_more slots i x lt ∙ ap (λ y. y ∷ drop (i + 1) slots) (sym is) in
    put found o (leases6 moment (n + (i + 1)) (drop (i + 1) slots))
    ∙ ap (λ k. found ++ with_lease o (leases6 moment k (drop (i + 1) slots))) next
    ∙ ap (λ xs. found ++ leases6 moment (n + i) xs) (sym here)
    ∙ h

pub done4 : (moment n i : ℕ) (slots : List Slot4) (found whole : List Lease) → length slots ≤ i → found ++ leases4 moment (n + i) (drop i slots) ≡ whole → found ≡ whole
done4 moment n i slots found whole le h = sym (append-nil found) ∙ ap (λ xs. found ++ leases4 moment (n + i) xs) (sym (drop_all i slots le)) ∙ h

pub done6 : (moment n i : ℕ) (slots : List Slot6) (found whole : List Lease) → length slots ≤ i → found ++ leases6 moment (n + i) (drop i slots) ≡ whole → found ≡ whole
done6 moment n i slots found whole le h = sym (append-nil found) ∙ ap (λ xs. found ++ leases6 moment (n + i) xs) (sym (drop_all i slots le)) ∙ h
