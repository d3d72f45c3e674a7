-- Look-ups by client, and the addresses that are free, by slots.
use Rattle.std.proofs.Common.{◌≡◌, ◌≢◌, ℕ, zero, suc, ◌+◌, ◌-◌, ◌<◌, ◌≤◌, Bool, true, false, ◌||◌, cond, eqb, List, [], ◌∷◌, map, length, get_or, refl, sym, ap, ◌∙◌, arith, eq-eqb}
use Rattle.std.specs.Prelude.{Option, Some, None, ◌==◌, is_some, option_map}
use Rattle.std.specs.Option.{option_or}
use Rattle.std.specs.declared.cmp.Ordering.{Ordering}
use Rattle.std.specs.declared.cmp.Ordering.TheVariants.{Less, Equal, Greater}
use Rattle.std.specs.List.{list_any, find, range_with_len, position, position_from}
use Rattle.std.specs.Ordering.{is_eq}
use Rattle.std.specs.FinMap.{get, empty, entries, values, put, get-entries, entries-insert, len-entries, len-empty}
use Rattle.std.specs.FinMap.Entries.{by_order}
use Rattle.std.specs.FinMap.Entries as entry
use Rattle.std.proofs.lemmas.Bool.Decides.{nat_tests}
use Rattle.std.proofs.lemmas.Iterator.Adapters.{position_from-zero}
use Rattle.slots.specs.declared.holder.Holder.{Holder}
use Rattle.slots.specs.declared.holder.Holder.TheVariants.{Bound, Offered, Barred}
use Rattle.slots.specs.Key.{IsKey}
use Rattle.slots.specs.Lookup.{live, is_vacant, is_bound_to, is_offered_to, slot_in, where_vacant}
use Rattle.slots.specs.Maps.{Lease, Clients, is_live, names, in_range, address_of}
use Rattle.slots.specs.Slots.{bound_to, offered_to, with_lease, leases, AreDistinct}
use Rattle.slots.proofs.ShownLemmas.{Slots, Lessee, at, both_same, of_cond, itself, live_slots, hits, IsSort, hit, got, get-leases, got_none}

-- ---- a slot's number as an address

abbrev pub from : ℕ → Option ℕ → Option ℕ
from a o = option_map (λ i. a + i) o

from_cond : (b : Bool) (a j x : ℕ) (o : Option ℕ) → x ≡ a + j → cond b (Some x) (from a o) ≡ from a (cond b (Some j) o)
from_cond true a j x o e = ap Some e
from_cond false a j x o e = refl

pub from_or : (a : ℕ) (x y : Option ℕ) → from a (option_or x y) ≡ option_or (from a x) (from a y)
from_or a None y = refl
from_or a (Some i) y = refl

pub or_either : (x y z : Option ℕ) → option_or (option_or x y) z ≡ option_or x (option_or y z)
or_either None y z = refl
or_either (Some i) y z = refl

or_swap : (a b c : Bool) → (a || (b || c)) ≡ (b || (a || c))
or_swap true true c = refl
or_swap true false c = refl
or_swap false true c = refl
or_swap false false c = refl

not_equal : (a x : ℕ) → a ≢ x → eqb a x ≡ false
not_equal a x h = grind (arith, nat_tests)

or_none : (b c : Bool) → c ≡ false → (b || c) ≡ b
or_none true c e = refl
or_none false c e = e

shifted : (b : Bool) (a x i : ℕ) → x ≡ a + i → cond b (Some x) None ≡ from a (cond b (Some i) None)
shifted true a x i e = ap Some e
shifted false a x i e = refl

pub within : (a n x : ℕ) → in_range a n x ≡ true → (x ≡ a + (x - a)) × (x - a < n)
within a n x is =
    let low : a ≤ x = grind (arith, nat_tests) in
    let high : x < a + n = grind (arith, nat_tests) in
    (omega (arith, low), omega (arith, low, high))

pub inside : (a n i : ℕ) → i < n → in_range a n (a + i) ≡ true
inside a n i h = grind (arith, nat_tests)

module _ {K : Type 0} where
  -- the first slot that passes, as an address
  abbrev first_at : (Option (Holder K) → Bool) → ℕ → Slots K → Option ℕ
  first_at test a [] = None
  first_at test a (s ∷ ss) = cond (test s) (Some a) (first_at test (a + 1) ss)

  first_from : (test : Option (Holder K) → Bool) (a j x : ℕ) (ss : Slots K) → x ≡ a + j → first_at test x ss ≡ from a (position_from test j ss)
  first_from test a j x [] e = refl
  first_from test a j x (s ∷ ss) e =
      ap (cond (test s) (Some x)) (first_from test a (j + 1) (x + 1) ss (omega (arith, e))) ∙ from_cond (test s) a j x (position_from test (j + 1) ss) e

  first_slot : (test : Option (Holder K) → Bool) (a : ℕ) (ss : Slots K) → first_at test a ss ≡ from a (position test ss)
  first_slot test a ss = first_from test a 0 a ss (omega arith) ∙ ap (from a) (sym (position_from-zero test ss))

  find_lowest : (free : ℕ → Bool) (test : Option (Holder K) → Bool) (a : ℕ) (ss : Slots K) → ((i : ℕ) → i < length ss → free (a + i) ≡ test (get_or ss i None))
      → find free (range_with_len a (length ss)) ≡ first_at test a ss
  find_lowest free test a [] h = refl
  find_lowest free test a (s ∷ ss) h =
      ap (λ b. cond b (Some a) (find free (range_with_len (a + 1) (length ss)))) (ap free (omega arith) ∙ h 0 (omega arith))
      ∙ ap (cond (test s) (Some a)) (find_lowest free test (a + 1) ss (λ i below. ap free (omega arith) ∙ h (suc i) (omega (arith, below))))

  -- addresses are free where their slots are vacant, and none is outside the slots
  pub record IsFreeBySlots (t a : ℕ) (ss : Slots K) (free : ℕ → Bool) : Type 0 where
    pub at : (i : ℕ) → i < length ss → free (a + i) ≡ is_vacant t (get_or ss i None)
    pub outside : (x : ℕ) → in_range a (length ss) x ≡ false → free x ≡ false

  pub lowest_is : (t a : ℕ) (ss : Slots K) (free : ℕ → Bool) → IsFreeBySlots t a ss free → find free (range_with_len a (length ss)) ≡ from a (position (is_vacant t) ss)
  lowest_is t a ss free is = find_lowest free (is_vacant t) a ss is.at ∙ first_slot (is_vacant t) a ss

  -- an address, where it is free
  pub vacant_is : (t a x : ℕ) (ss : Slots K) (free : ℕ → Bool) → IsFreeBySlots t a ss free → cond (free x) (Some x) None ≡ from a (where_vacant t ss (slot_in a (length ss) (Some x)))
  vacant_is t a x ss free is = by (in_range a (length ss) x) refl where
    by : (b : Bool) → in_range a (length ss) x ≡ b → cond (free x) (Some x) None ≡ from a (where_vacant t ss (cond b (Some (x - a)) None))
    by true inside =
        let p = within a (length ss) x inside in
        ap (λ f. cond f (Some x) None) (ap free p.0 ∙ is.at (x - a) p.1) ∙ shifted (is_vacant t (get_or ss (x - a) None)) a x (x - a) p.0
    by false outside = ap (λ f. cond f (Some x) None) (is.outside x outside)

module _ {K : Type 0} {eqk : K → K → Bool} {cmpk : K → K → Ordering} (lawk : IsKey eqk cmpk) where
  -- ---- a client's lease

  pub bound_test : (t : ℕ) (k : K) (s : Option (Holder K)) → hits eqk k (bound_to (live t s)) ≡ is_bound_to eqk t k s
  bound_test t k None = refl
  bound_test t k (Some (Bound key u)) = of_cond (λ s. hits eqk k (bound_to s)) (is_live t u) (Some (Bound key u)) None
  bound_test t k (Some (Offered key u)) = of_cond (λ s. hits eqk k (bound_to s)) (is_live t u) (Some (Offered key u)) None ∙ both_same (is_live t u) false
  bound_test t k (Some (Barred u)) = of_cond (λ s. hits eqk k (bound_to s)) (is_live t u) (Some (Barred u)) None ∙ both_same (is_live t u) false

  pub offered_test : (t : ℕ) (k : K) (s : Option (Holder K)) → hits eqk k (offered_to (live t s)) ≡ is_offered_to eqk t k s
  offered_test t k None = refl
  offered_test t k (Some (Bound key u)) = of_cond (λ s. hits eqk k (offered_to s)) (is_live t u) (Some (Bound key u)) None ∙ both_same (is_live t u) false
  offered_test t k (Some (Offered key u)) = of_cond (λ s. hits eqk k (offered_to s)) (is_live t u) (Some (Offered key u)) None
  offered_test t k (Some (Barred u)) = of_cond (λ s. hits eqk k (offered_to s)) (is_live t u) (Some (Barred u)) None ∙ both_same (is_live t u) false

  found_by : (k : K) (a : ℕ) (l : K × ℕ) (rest : Option Lease) (b : Bool) → address_of (cond b (Some (at a l.1)) rest) ≡ cond b (Some a) (address_of rest)
  found_by k a l rest true = refl
  found_by k a l rest false = refl

  found : (k : K) (a : ℕ) (l : Lessee K) (rest : Option Lease) → address_of (hit eqk k a l rest) ≡ cond (hits eqk k l) (Some a) (address_of rest)
  found k a None rest = refl
  found k a (Some l) rest = found_by k a l rest (eqk k l.0)

  lease_first : (f : Option (Holder K) → Lessee K) (test : Option (Holder K) → Bool) (t : ℕ) (k : K) (a : ℕ) (ss : Slots K) → ((s : Option (Holder K)) → hits eqk k (f (live t s)) ≡ test s)
      → address_of (got eqk f k a (live_slots t ss)) ≡ first_at test a ss
  lease_first f test t k a [] is = refl
  lease_first f test t k a (s ∷ ss) is =
      found k a (f (live t s)) (got eqk f k (a + 1) (live_slots t ss)) ∙ ap (λ b. cond b (Some a) (address_of (got eqk f k (a + 1) (live_slots t ss)))) (is s)
      ∙ ap (cond (test s) (Some a)) (lease_first f test t k (a + 1) ss is)

  -- a client's binding and its offer, by slots
  pub binding_is : (t : ℕ) (k : K) (a : ℕ) (ss : Slots K) → address_of (get (leases cmpk bound_to a (live_slots t ss)) k) ≡ from a (position (is_bound_to eqk t k) ss)
  binding_is t k a ss = ap address_of (get-leases lawk bound_to k a (live_slots t ss)) ∙ lease_first bound_to (is_bound_to eqk t k) t k a ss (bound_test t k) ∙ first_slot (is_bound_to eqk t k) a ss

  pub offer_is : (t : ℕ) (k : K) (a : ℕ) (ss : Slots K) → address_of (get (leases cmpk offered_to a (live_slots t ss)) k) ≡ from a (position (is_offered_to eqk t k) ss)
  offer_is t k a ss = ap address_of (get-leases lawk offered_to k a (live_slots t ss)) ∙ lease_first offered_to (is_offered_to eqk t k) t k a ss (offered_test t k) ∙ first_slot (is_offered_to eqk t k) a ss

  -- ---- which addresses have a client

  abbrev second : List (K × Lease) → List Lease
  second es = map (λ (e : K × Lease). e.1) es

  -- a new entry is one more
  any_step : (p : Lease → Bool) (k : K) (v : Lease) (e : K × Lease) (es more : List (K × Lease)) (r : Ordering) (rest : Option Lease)
      → cond (is_eq r) (Some e.1) rest ≡ None → list_any p (second more) ≡ (p v || list_any p (second es))
      → list_any p (second (by_order r ((k, v) ∷ e ∷ es) ((e.0, v) ∷ es) (e ∷ more))) ≡ (p v || (p e.1 || list_any p (second es)))
  any_step p k v e es more Less rest none ih = refl
  any_step p k v e es more Equal rest none ih = absurd cc
  any_step p k v e es more Greater rest none ih = ap (λ b. p e.1 || b) ih ∙ or_swap (p e.1) (p v) (list_any p (second es))

  after : (r : Ordering) (x : Lease) (rest : Option Lease) → cond (is_eq r) (Some x) rest ≡ None → rest ≡ None
  after Less x rest e = e
  after Equal x rest e = absurd cc
  after Greater x rest e = e

  any_put : (p : Lease → Bool) (k : K) (v : Lease) (es : List (K × Lease)) → entry.find cmpk k es ≡ None
      → list_any p (second (put cmpk k v es)) ≡ (p v || list_any p (second es))
  any_put p k v [] none = refl
  any_put p k v (e ∷ es) none =
      any_step p k v e es (put cmpk k v es) (cmpk k e.0) (entry.find cmpk k es) none
      (any_put p k v es (after (cmpk k e.0) e.1 (entry.find cmpk k es) none))

  nothing : {A : Type 0} (xs : List A) → length xs ≡ 0 → xs ≡ []
  nothing [] e = refl
  nothing (x ∷ xs) e = absurd cc

  no_entries : entries (empty {X = Lease} {R = cmpk}) ≡ []
  no_entries = nothing _ (sym (len-entries empty) ∙ len-empty (cmpk) Lease)

  no_values : values (empty {X = Lease} {R = cmpk}) ≡ []
  no_values = ap second no_entries

  abbrev any_lessee : (Lease → Bool) → ℕ → Lessee K → Bool
  any_lessee p a None = false
  any_lessee p a (Some l) = p (at a l.1)

  any_with_lease : (p : Lease → Bool) (a : ℕ) (l : Lessee K) (m : Clients cmpk) → ((k : K) → hits eqk k l ≡ true → get m k ≡ None)
      → list_any p (values (with_lease a l m)) ≡ (any_lessee p a l || list_any p (values m))
  any_with_lease p a None m none = refl
  any_with_lease p a (Some l) m none =
      ap (λ es. list_any p (second es)) (entries-insert lawk.total m l.0 (at a l.1)) ∙ any_put p l.0 (at a l.1) (entries m) (sym (get-entries m l.0) ∙ none l.0 (itself lawk l.0))

  any_leases : (p : Lease → Bool) (f : Option (Holder K) → Lessee K) → IsSort eqk f → (a : ℕ) (s : Option (Holder K)) (ss : Slots K) → AreDistinct eqk (s ∷ ss)
      → list_any p (values (leases cmpk f a (s ∷ ss))) ≡ (any_lessee p a (f s) || list_any p (values (leases cmpk f (a + 1) ss)))
  any_leases p f sort a s ss d =
      any_with_lease p a (f s) (leases cmpk f (a + 1) ss) (λ k h. get-leases lawk f k (a + 1) ss ∙ got_none lawk f sort k (a + 1) ss (d.0 k (sort.own k s h)))

  lessee_not : (x a : ℕ) (l : Lessee K) → a ≢ x → any_lessee (λ lease. lease.address == x) a l ≡ false
  lessee_not x a None h = refl
  lessee_not x a (Some l) h = not_equal a x h

  lessee_there : (x a : ℕ) (l : Lessee K) → a ≡ x → any_lessee (λ lease. lease.address == x) a l ≡ is_some l
  lessee_there x a None e = refl
  lessee_there x a (Some l) e = eq-eqb a x e

  names_below : (f : Option (Holder K) → Lessee K) → IsSort eqk f → (x a : ℕ) (ss : Slots K) → AreDistinct eqk ss → x < a → names x (leases cmpk f a ss) ≡ false
  names_below f sort x a [] d h = ap (list_any (λ (lease : Lease). lease.address == x)) no_values
  names_below f sort x a (s ∷ ss) d h =
      any_leases (λ lease. lease.address == x) f sort a s ss d ∙ ap (λ b. b || names x (leases cmpk f (a + 1) ss)) (lessee_not x a (f s) (λ e. omega (arith, e, h)))
      ∙ names_below f sort x (a + 1) ss d.1 (omega (arith, h))

  -- an address is a client's where its slot is
  pub names_at : (f : Option (Holder K) → Lessee K) → IsSort eqk f → (a i : ℕ) (ss : Slots K) → AreDistinct eqk ss → names (a + i) (leases cmpk f a ss) ≡ is_some (f (get_or ss i None))
  names_at f sort a i [] d = ap (list_any (λ (lease : Lease). lease.address == a + i)) no_values ∙ ap is_some (sym sort.none)
  names_at f sort a zero (s ∷ ss) d =
      any_leases (λ lease. lease.address == a + 0) f sort a s ss d
      ∙ or_none (any_lessee (λ lease. lease.address == a + 0) a (f s)) (names (a + 0) (leases cmpk f (a + 1) ss)) (names_below f sort (a + 0) (a + 1) ss d.1 (omega arith))
      ∙ lessee_there (a + 0) a (f s) (omega arith)
  names_at f sort a (suc i) (s ∷ ss) d =
      any_leases (λ lease. lease.address == a + suc i) f sort a s ss d
      ∙ ap (λ b. b || names (a + suc i) (leases cmpk f (a + 1) ss)) (lessee_not (a + suc i) a (f s) (λ e. omega (arith, e)))
      ∙ ap (λ x. names x (leases cmpk f (a + 1) ss)) (omega arith) ∙ names_at f sort (a + 1) i ss d.1
