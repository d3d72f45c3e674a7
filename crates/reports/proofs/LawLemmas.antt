-- What holds over whole lists: what is told once, full pools, bars.
use Rattle.std.proofs.Common.{◌≡◌, ◌∙◌, ◌+◌, ◌≤◌, ℕ, suc, Bool, true, false, not, ◌&&◌, cond, List, [], ◌∷◌, length, take, refl, sym, ap, arith}
use Rattle.std.specs.Prelude.{count_by, ◌==◌, if◌then◌else◌}
use Rattle.std.specs.List.{list_all, list_any, zip}
use Rattle.std.proofs.lemmas.List.Sums.{sum_by-cons, count_by-le-length}
use Rattle.std.proofs.lemmas.List.{length-take-le}
use Rattle.std.proofs.lemmas.Bool.Decides.{nat_tests}
use Rattle.types.specs.declared.slot4.Slot4.{Slot4}
use Rattle.types.specs.declared.slot4.Slot4.TheVariants as S4
use Rattle.types.specs.declared.slot6.Slot6.{Slot6}
use Rattle.types.specs.declared.slot6.Slot6.TheVariants as S6
use Rattle.types.specs.declared.slots.Slots.{Slots}
use Rattle.reports.specs.Declined.{declined4, declined6, declined_between, is_declined4, is_declined6}
use Rattle.reports.specs.Once.{once, told_at}

-- what was so before is never told
pub never : (looks : List Bool) → count_by (λ told. told) (told_at (once true) looks) ≡ 0
never [] = refl
never (true ∷ later) = let rest = never later in let first = sum_by-cons (λ (b : Bool). cond b 1 0) false (told_at (once true) later) in omega (arith, rest, first)
never (false ∷ later) = let rest = never later in let first = sum_by-cons (λ (b : Bool). cond b 1 0) false (told_at (once true) later) in omega (arith, rest, first)

-- once, where it is so at some look
pub once_if_ever : (looks : List Bool) → count_by (λ told. told) (told_at (once false) looks) ≡ (if list_any (λ is_so. is_so) looks then 1 else 0)
once_if_ever [] = refl
once_if_ever (true ∷ later) = let rest = never later in let first = sum_by-cons (λ (b : Bool). cond b 1 0) true (told_at (once true) later) in omega (arith, rest, first)
once_if_ever (false ∷ later) = let rest = once_if_ever later in let first = sum_by-cons (λ (b : Bool). cond b 1 0) false (told_at (once false) later) in omega (arith, rest, first)

-- as many pass as there are exactly where each does
more_yes : (c l : ℕ) → (1 + c == suc l) ≡ (c == l)
more_yes c l = grind (arith, nat_tests)

more_no : (c l : ℕ) → c ≤ l → (0 + c == suc l) ≡ false
more_no c l few = grind (arith, nat_tests)

one_more : (b all : Bool) (c l : ℕ) → c ≤ l → (c == l) ≡ all → (cond b 1 0 + c == suc l) ≡ (b && all)
one_more true all c l few rest = more_yes c l ∙ rest
one_more false all c l few rest = more_no c l few

counted : {X : Type 0} (p : X → Bool) (xs : List X) → (count_by p xs == length xs) ≡ list_all p xs
counted p [] = refl
counted p (x ∷ xs) =
    ap (λ n. n == suc (length xs)) (sum_by-cons (λ y. cond (p y) 1 0) x xs)
    ∙ one_more (p x) (list_all p xs) (count_by p xs) (length xs) (count_by-le-length p xs) (counted p xs)

pub counts_all : {X : Type 0} (p : X → Bool) (xs : List X) (n : ℕ) → n ≤ length xs → (count_by p (take n xs) == n) ≡ list_all p (take n xs)
counts_all p xs n inside = ap (λ k. count_by p (take n xs) == k) (sym (length-take-le n xs inside)) ∙ counted p (take n xs)

-- no slot gets a bar that it has
eqb_same : (n : ℕ) → not (n == n) ≡ false
eqb_same n = grind (arith, nat_tests)

same4 : (slot : Slot4) → is_declined4 slot slot ≡ false
same4 S4.Free = refl
same4 (S4.Bound client until) = refl
same4 (S4.Barred until) = eqb_same until

same6 : (slot : Slot6) → is_declined6 slot slot ≡ false
same6 S6.Free = refl
same6 (S6.Bound client until) = refl
same6 (S6.Barred until) = eqb_same until

none_counted : {X : Type 0} (p : X → X → Bool) (same : (x : X) → p x x ≡ false) (xs : List X) → count_by (λ (pair : X × X). p pair.0 pair.1) (zip xs xs) ≡ 0
none_counted p same [] = refl
none_counted {X} p same (x ∷ xs) =
    let rest = none_counted p same xs in
    let first = sum_by-cons (λ (pair : X × X). cond (p pair.0 pair.1) 1 0) (x, x) (zip xs xs) in
    let here : ◌≡◌ {A = ℕ} (cond (p x x) 1 0) 0 = ap (λ b. cond b 1 0) (same x) in
    omega (arith, rest, first, here)

pub none_declined : (slots : Slots) → declined_between slots slots ≡ 0
none_declined slots =
    let four : declined4 slots.four slots.four ≡ 0 = none_counted is_declined4 same4 slots.four in
    let six : declined6 slots.six slots.six ≡ 0 = none_counted is_declined6 same6 slots.six in
    omega (arith, four, six)
