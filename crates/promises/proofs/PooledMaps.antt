-- Leases that all satisfy a condition: in maps from clients, and as slots show them. A client's key is any
-- that has an order.
use Rattle.std.proofs.Common.{◌≡◌, ℕ, zero, suc, ◌+◌, ◌<◌, ◌≤◌, Bool, true, false, ◌&&◌, cond, List, [], ◌∷◌, get_or, refl, sym, subst, arith}
use Rattle.std.specs.Prelude.{Option, Some, None, IfSome, nat_le, nat_lt}
use Rattle.std.specs.declared.cmp.Ordering.{Ordering}
use Rattle.std.specs.List.{find}
use Rattle.std.specs.FinMap.{get, insert, remove, get-insert, get-remove}
use Rattle.std.proofs.lemmas.Bool.Decides.{nat_tests}
use Rattle.std.specs.Option.{option_or}
use Rattle.slots.specs.declared.holder.Holder.{Holder}
use Rattle.slots.specs.Key.{IsKey}
use Rattle.slots.specs.Maps.{Lease, Clients, live_clients, in_range, address_of}
use Rattle.slots.specs.Slots.{leases}
use Rattle.slots.proofs.ShownLemmas.{Slots, Lessee, not_true, at, hit, got, get-leases, keep, get-live_clients}

pub and_left : (x y : Bool) → (x && y) ≡ true → x ≡ true
and_left true y e = refl
and_left false y e = e

pub and_right : (x y : Bool) → (x && y) ≡ true → y ≡ true
and_right true y e = e
and_right false y e = absurd (not_true e)

pub if_cond : (P : Lease → Type 0) (b : Bool) (one other : Option Lease) → IfSome one P → IfSome other P → IfSome (cond b one other) P
if_cond P true one other first second = first
if_cond P false one other first second = second

if_wider : (P Q : Lease → Type 0) → ((l : Lease) → P l → Q l) → (o : Option Lease) → IfSome o P → IfSome o Q
if_wider P Q on None p = tt
if_wider P Q on (Some l) p = on l p

-- ---- an address, where there is one

module _ (P : ℕ → Type 0) where
  pub of_address : (o : Option Lease) → IfSome o (λ lease. P lease.address) → IfSome (address_of o) P
  of_address None p = tt
  of_address (Some lease) p = p

  pub of_either : (o other : Option ℕ) → IfSome o P → IfSome other P → IfSome (option_or o other) P
  of_either None other first second = second
  of_either (Some a) other first second = first

  pub of_test : (a : ℕ) (r : Bool) → (r ≡ true → P a) → IfSome (cond r (Some a) None) P
  of_test a true fits = fits refl
  of_test a false fits = tt

  pub of_find : (test : ℕ → Bool) → ((a : ℕ) → test a ≡ true → P a) → (xs : List ℕ) → IfSome (find test xs) P
  of_find test fits [] = tt
  of_find test fits (x ∷ xs) = by (test x) refl (of_find test fits xs) where
    by : (r : Bool) → test x ≡ r → IfSome (find test xs) P → IfSome (cond r (Some x) (find test xs)) P
    by true is rest = fits x is
    by false is rest = rest

-- ---- maps of which every lease satisfies a condition

abbrev pub Every : {K : Type 0} {cmpk : K → K → Ordering} → (Lease → Type 0) → Clients cmpk → Type 0
Every {K} P m = (client : K) → IfSome (get m client) P

module _ {K : Type 0} {eqk : K → K → Bool} {cmpk : K → K → Ordering} (lawk : IsKey eqk cmpk) (P : Lease → Type 0) where
  pub every_insert : (m : Clients cmpk) (k : K) (l : Lease) → Every P m → P l → Every P (insert m k l)
  every_insert m k l old new q =
      subst (λ (o : Option Lease). IfSome o P) (sym (get-insert lawk.total m k l q)) (if_cond P _ (Some l) (get m q) new (old q))

  pub every_remove : (m : Clients cmpk) (k : K) → Every P m → Every P (remove m k)
  every_remove m k old q =
      subst (λ (o : Option Lease). IfSome o P) (sym (get-remove lawk.total m k q)) (if_cond P _ None (get m q) tt (old q))

  if_kept : (t : ℕ) (o : Option Lease) → IfSome o P → IfSome (keep t o) P
  if_kept t None p = tt
  if_kept t (Some l) p = if_cond P _ (Some l) None p tt

  pub every_live : (t : ℕ) (m : Clients cmpk) → Every P m → Every P (live_clients t m)
  every_live t m old q = subst (λ (o : Option Lease). IfSome o P) (sym (get-live_clients lawk t m q)) (if_kept t (get m q) (old q))

-- ---- the slots of a pool

-- the address is one of n from a on
abbrev pub Between : ℕ → ℕ → ℕ → Type 0
Between a n address = (a ≤ address) × (address < a + n)

pub between : (a n address : ℕ) → in_range a n address ≡ true → Between a n address
between a n address e = by (and_left _ _ e) (and_right _ _ e) where
  by : nat_le a address ≡ true → nat_lt address (a + n) ≡ true → Between a n address
  by lower upper =
      let from : a ≤ address = grind (arith, nat_tests) in
      let below : address < a + n = grind (arith, nat_tests) in
      (from, below)

abbrev Within : ℕ → ℕ → Lease → Type 0
Within a n lease = Between a n lease.address

module _ {K : Type 0} (eqk : K → K → Bool) where
  hit_inside : (a n : ℕ) (q : K) (l : Lessee K) (rest : Option Lease) → IfSome rest (Within a (suc n)) → IfSome (hit eqk q a l rest) (Within a (suc n))
  hit_inside a n q None rest p = p
  hit_inside a n q (Some l) rest p =
      let from : a ≤ a = omega arith in
      let below : a < a + suc n = omega arith in
      if_cond (Within a (suc n)) (eqk q l.0) (Some (at a l.1)) rest (from, below) p

  missed_inside : (P : Lease → Type 0) (a : ℕ) (q : K) (l : Lessee K) (rest : Option Lease) → l ≡ None → IfSome rest P → IfSome (hit eqk q a l rest) P
  missed_inside P a q None rest none p = p
  missed_inside P a q (Some l) rest none p = absurd cc

  got_inside : (f : Option (Holder K) → Lessee K) (q : K) (a n : ℕ) (ss : Slots K) → ((i : ℕ) → n ≤ i → f (get_or ss i None) ≡ None) → IfSome (got eqk f q a ss) (Within a n)
  got_inside f q a n [] past = tt
  got_inside f q a zero (s ∷ ss) past =
      missed_inside (Within a zero) a q (f s) (got eqk f q (a + 1) ss) (past zero (omega arith))
      (if_wider (Within (a + 1) zero) (Within a zero) (λ l p. let lo = p.0 in let hi = p.1 in (omega (arith, lo), omega (arith, lo, hi))) (got eqk f q (a + 1) ss)
      (got_inside f q (a + 1) zero ss (λ i h. past (suc i) (omega arith))))
  got_inside f q a (suc n) (s ∷ ss) past =
      hit_inside a n q (f s) (got eqk f q (a + 1) ss)
      (if_wider (Within (a + 1) n) (Within a (suc n)) (λ l p. let lo = p.0 in let hi = p.1 in (omega (arith, lo), omega (arith, hi))) (got eqk f q (a + 1) ss)
      (got_inside f q (a + 1) n ss (λ i h. past (suc i) (omega (arith, h)))))

-- what slots show is in the pool of their addresses, where the slots past it are nobody's
pub leases_inside : {K : Type 0} {eqk : K → K → Bool} {cmpk : K → K → Ordering} (lawk : IsKey eqk cmpk) (P : ℕ → Type 0) (f : Option (Holder K) → Lessee K) (a n : ℕ) (ss : Slots K)
    → ((address : ℕ) → Between a n address → P address) → ((i : ℕ) → n ≤ i → f (get_or ss i None) ≡ None) → Every (λ lease. P lease.address) (leases cmpk f a ss)
leases_inside {eqk} lawk P f a n ss fits past q =
    subst (λ (o : Option Lease). IfSome o (λ lease. P lease.address)) (sym (get-leases lawk f q a ss))
    (if_wider (Within a n) (λ lease. P lease.address) (λ l p. fits l.address p) (got eqk f q a ss) (got_inside eqk f q a n ss past))
