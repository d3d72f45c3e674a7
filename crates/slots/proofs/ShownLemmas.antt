-- What a look-up finds in the maps that slots show, and what a clock leaves of them.
use Rattle.std.proofs.Common.{◌≡◌, ℕ, zero, suc, ◌+◌, ◌-◌, ◌<◌, ◌≤◌, Bool, true, false, cond, List, [], ◌∷◌, map, get_or, ltb, ltb-false, refl, sym, ap, ◌∙◌, arith}
use borrow.Author.Tests.{ltb-true}
use Rattle.std.specs.Prelude.{Option, Some, None}
use Rattle.std.specs.declared.cmp.Ordering.{Ordering}
use Rattle.std.specs.declared.cmp.Ordering.TheVariants.{Less, Equal, Greater}
use Rattle.std.specs.Ordering.{nat_cmp, eq_by_cmp, is_eq, ordering_reverse}
use Rattle.std.specs.Cmp.{nat_cmp_total}
use Rattle.std.specs.FinMap.{get, nat_cmp-IsAntisymmetric, same_map, get-empty, get-insert, get-retain_keys}
use Rattle.std.proofs.lemmas.Bool.Decides.{nat_tests}
use Rattle.std.proofs.Math.ListN.{get_or-map}
use Rattle.std.specs.Option.{option_map_or}
use Rattle.slots.specs.declared.holder.Holder.{Holder}
use Rattle.slots.specs.declared.holder.Holder.TheVariants.{Bound, Offered, Barred}
use Rattle.slots.specs.Key.{IsKey}
use Rattle.slots.specs.Lookup.{until_of, live}
use Rattle.slots.specs.Maps.{Lease, Clients, Bars, is_live, live_clients, live_bars}
use Rattle.slots.specs.Slots.{bound_to, offered_to, barred_until, with_lease, leases, with_bar, bars_of, is_clients, IsWithout, AreDistinct}

abbrev pub at : ℕ → ℕ → Lease
at address until = record { address = address; until = until }

pub not_true : false ≡ true → ⊥
not_true e = cc

pub both_same : {A : Type 0} (b : Bool) (x : A) → cond b x x ≡ x
both_same true x = refl
both_same false x = refl

pub of_cond : {A B : Type 0} (f : A → B) (b : Bool) (x y : A) → f (cond b x y) ≡ cond b (f x) (f y)
of_cond f true x y = refl
of_cond f false x y = refl

-- ---- what is live of a lease

-- what of it is live
abbrev pub keep : ℕ → Option Lease → Option Lease
keep t o = cond (option_map_or (λ (lease : Lease). is_live t lease.until) o false) o None

keep_live : (t : ℕ) (x : Lease) (live : Bool) → is_live t x.until ≡ live → keep t (Some x) ≡ cond live (Some x) None
keep_live t x live is = ap (λ b. cond b (Some x) None) is

-- ---- bars by address

abbrev pub bar : ℕ → ℕ → Option ℕ → Option ℕ → Option ℕ
bar x a None rest = rest
bar x a (Some u) rest = cond (eq_by_cmp nat_cmp x a) (Some u) rest

get-with_bar : (x a : ℕ) (o : Option ℕ) (m : Bars) → get (with_bar a o m) x ≡ bar x a o (get m x)
get-with_bar x a None m = refl
get-with_bar x a (Some u) m = get-insert nat_cmp_total m a u x

bar_same : (x a : ℕ) (o rest : Option ℕ) → x ≡ a → rest ≡ None → bar x a o rest ≡ o
bar_same x a None rest e none = none
bar_same x a (Some u) rest e none =
    let is : eq_by_cmp nat_cmp x a ≡ true = grind (arith, nat_tests) in ap (λ b. cond b (Some u) rest) is

pub bar_other : (x a : ℕ) (o rest : Option ℕ) → (x ≡ a → ⊥) → bar x a o rest ≡ rest
bar_other x a None rest e = refl
bar_other x a (Some u) rest e =
    let is : eq_by_cmp nat_cmp x a ≡ false = grind (arith, nat_tests) in ap (λ b. cond b (Some u) rest) is

pub split : (a x : ℕ) → ltb x a ≡ false → x ≡ a + (x - a)
split a x is = let h : a ≤ x = ltb-false x a is in omega arith

-- maps of bars are one where they say the same of each address below a pool and of each from it on
pub same_bars : (a : ℕ) (m n : Bars) → ((x : ℕ) → x < a → get m x ≡ get n x) → ((i : ℕ) → get m (a + i) ≡ get n (a + i)) → m ≡ n
same_bars a m n below above = same_map nat_cmp_total nat_cmp-IsAntisymmetric m n (λ x. by x (ltb x a) refl) where
  by : (x : ℕ) (b : Bool) → ltb x a ≡ b → get m x ≡ get n x
  by x true is = below x (ltb-true x a is)
  by x false is = ap (get m) (split a x is) ∙ above (x - a) ∙ ap (get n) (sym (split a x is))

pub get-live_bars : (t : ℕ) (m : Bars) (q : ℕ) → get (live_bars t m) q ≡ cond (option_map_or (is_live t) (get m q) false) (get m q) None
get-live_bars t m q =
    let test : ℕ → Bool = λ key. option_map_or (is_live t) (get m key) false in
    get-retain_keys m test q (λ x e. ap test (sym (nat_cmp-IsAntisymmetric q x e)))

-- ---- a later clock

pub lasts : (t later u : ℕ) → t ≤ later → is_live later u ≡ true → is_live t u ≡ true
lasts t later u h is = grind (arith, nat_tests)

keep_later : (t later u : ℕ) → t ≤ later → (now then : Bool) → is_live t u ≡ now → is_live later u ≡ then
    → {X : Type 0} (x : X) (test : X → Bool) → test x ≡ then → cond (option_map_or test (cond now (Some x) None) false) (cond now (Some x) None) None ≡ cond then (Some x) None
keep_later t later u h true then is is_then x test e = ap (λ b. cond b (Some x) None) e
keep_later t later u h false true is is_then x test e = absurd (not_true (sym is ∙ lasts t later u h is_then))
keep_later t later u h false false is is_then x test e = refl

later_lease : (t later : ℕ) → t ≤ later → (o : Option Lease) → keep later (keep t o) ≡ keep later o
later_lease t later h None = refl
later_lease t later h (Some x) = keep_later t later x.until h (is_live t x.until) (is_live later x.until) refl refl x (λ lease. is_live later lease.until) refl

later_bar : (t later : ℕ) → t ≤ later → (o : Option ℕ)
    → cond (option_map_or (is_live later) (cond (option_map_or (is_live t) o false) o None) false) (cond (option_map_or (is_live t) o false) o None) None ≡ cond (option_map_or (is_live later) o false) o None
later_bar t later h None = refl
later_bar t later h (Some u) = keep_later t later u h (is_live t u) (is_live later u) refl refl u (is_live later) refl

pub later_bars : (t later : ℕ) → t ≤ later → (m : Bars) → live_bars later (live_bars t m) ≡ live_bars later m
later_bars t later h m =
    same_map nat_cmp_total nat_cmp-IsAntisymmetric _ _ (λ q.
    get-live_bars later (live_bars t m) q ∙ ap (λ o. cond (option_map_or (is_live later) o false) o None) (get-live_bars t m q) ∙ later_bar t later h (get m q) ∙ sym (get-live_bars later m q))

-- ---- slots and whom they are for

abbrev pub Slots : Type 0 → Type 0
Slots K = List (Option (Holder K))

-- a client, and until when
abbrev pub Lessee : Type 0 → Type 0
Lessee K = Option (K × ℕ)

module _ {K : Type 0} where
  abbrev pub live_slots : ℕ → Slots K → Slots K
  live_slots t ss = map (live t) ss

  abbrev pub alive : ℕ → Lessee K → Lessee K
  alive t None = None
  alive t (Some l) = cond (is_live t l.1) (Some l) None

  bound_live : (t : ℕ) (s : Option (Holder K)) → bound_to (live t s) ≡ alive t (bound_to s)
  bound_live t None = refl
  bound_live t (Some (Bound k u)) = of_cond bound_to (is_live t u) (Some (Bound k u)) None
  bound_live t (Some (Offered k u)) = of_cond bound_to (is_live t u) (Some (Offered k u)) None ∙ both_same (is_live t u) None
  bound_live t (Some (Barred u)) = of_cond bound_to (is_live t u) (Some (Barred u)) None ∙ both_same (is_live t u) None

  offered_live : (t : ℕ) (s : Option (Holder K)) → offered_to (live t s) ≡ alive t (offered_to s)
  offered_live t None = refl
  offered_live t (Some (Bound k u)) = of_cond offered_to (is_live t u) (Some (Bound k u)) None ∙ both_same (is_live t u) None
  offered_live t (Some (Offered k u)) = of_cond offered_to (is_live t u) (Some (Offered k u)) None
  offered_live t (Some (Barred u)) = of_cond offered_to (is_live t u) (Some (Barred u)) None ∙ both_same (is_live t u) None

  pub barred_live : (t : ℕ) (s : Option (Holder K)) → barred_until (live t s) ≡ cond (option_map_or (is_live t) (barred_until s) false) (barred_until s) None
  barred_live t None = refl
  barred_live t (Some (Bound k u)) = of_cond barred_until (is_live t u) (Some (Bound k u)) None ∙ both_same (is_live t u) None
  barred_live t (Some (Offered k u)) = of_cond barred_until (is_live t u) (Some (Offered k u)) None ∙ both_same (is_live t u) None
  barred_live t (Some (Barred u)) = of_cond barred_until (is_live t u) (Some (Barred u)) None

  pub bars_below : (x a : ℕ) (ss : Slots K) → x < a → get (bars_of a ss) x ≡ None
  bars_below x a [] h = get-empty nat_cmp x
  bars_below x a (s ∷ ss) h =
      get-with_bar x a (barred_until s) (bars_of (a + 1) ss) ∙ bar_other x a (barred_until s) _ (λ e. omega (arith, e, h)) ∙ bars_below x (a + 1) ss (omega (arith, h))

  pub bars_at : (a i : ℕ) (ss : Slots K) → get (bars_of a ss) (a + i) ≡ barred_until (get_or ss i None)
  bars_at a i [] = get-empty nat_cmp (a + i)
  bars_at a zero (s ∷ ss) =
      get-with_bar (a + 0) a (barred_until s) (bars_of (a + 1) ss) ∙ bar_same (a + 0) a (barred_until s) _ (omega arith) (bars_below (a + 0) (a + 1) ss (omega arith))
  bars_at a (suc i) (s ∷ ss) =
      get-with_bar (a + suc i) a (barred_until s) (bars_of (a + 1) ss) ∙ bar_other (a + suc i) a (barred_until s) _ (λ e. omega (arith, e))
      ∙ ap (get (bars_of (a + 1) ss)) (omega arith) ∙ bars_at (a + 1) i ss

  pub live_bars_of : (a t : ℕ) (ss : Slots K) → live_bars t (bars_of a ss) ≡ bars_of a (live_slots t ss)
  live_bars_of a t ss =
      same_bars a _ _
      (λ x h. get-live_bars t (bars_of a ss) x ∙ ap (λ o. cond (option_map_or (is_live t) o false) o None) (bars_below x a ss h) ∙ sym (bars_below x a (live_slots t ss) h))
      (λ i.
      get-live_bars t (bars_of a ss) (a + i) ∙ ap (λ o. cond (option_map_or (is_live t) o false) o None) (bars_at a i ss)
      ∙ sym (barred_live t (get_or ss i None)) ∙ ap barred_until (sym (get_or-map (live t) ss i None)) ∙ sym (bars_at a i (live_slots t ss)))

module _ {K : Type 0} (eqk : K → K → Bool) where
  abbrev pub hits : K → Lessee K → Bool
  hits q None = false
  hits q (Some l) = eqk q l.0

  -- a sort of lessee: those that a slot is bound to, or is offered to
  pub record IsSort (f : Option (Holder K) → Lessee K) : Type 0 where
    pub none : f None ≡ None
    pub live : (t : ℕ) (s : Option (Holder K)) → f (live t s) ≡ alive t (f s)
    pub own : (q : K) (s : Option (Holder K)) → hits q (f s) ≡ true → is_clients eqk q s ≡ true
    pub other : (q : K) (s : Option (Holder K)) → is_clients eqk q s ≡ false → hits q (f s) ≡ false

  abbrev pub hit : K → ℕ → Lessee K → Option Lease → Option Lease
  hit q a None rest = rest
  hit q a (Some l) rest = cond (eqk q l.0) (Some (at a l.1)) rest

  -- what the first slot of a client says
  abbrev pub got : (Option (Holder K) → Lessee K) → K → ℕ → Slots K → Option Lease
  got f q a [] = None
  got f q a (s ∷ ss) = hit q a (f s) (got f q (a + 1) ss)

module _ {K : Type 0} {eqk : K → K → Bool} {cmpk : K → K → Ordering} (lawk : IsKey eqk cmpk) where
  if_eq : (r : Ordering) → is_eq r ≡ true → r ≡ Equal
  if_eq Less e = absurd (not_true e)
  if_eq Equal e = refl
  if_eq Greater e = absurd (not_true e)

  pub same_is : (q k : K) → eqk q k ≡ true → q ≡ k
  same_is q k e = lawk.exact q k (if_eq (cmpk q k) (lawk.agrees q k ∙ e))

  ties_back : (r : Ordering) → r ≡ ordering_reverse r → is_eq r ≡ true
  ties_back Less e = absurd cc
  ties_back Equal e = refl
  ties_back Greater e = absurd cc

  pub itself : (k : K) → eqk k k ≡ true
  itself k = sym (lawk.agrees k k) ∙ ties_back (cmpk k k) (lawk.total.antisymm k k)

  bound_own : (q : K) (s : Option (Holder K)) → hits eqk q (bound_to s) ≡ true → is_clients eqk q s ≡ true
  bound_own q None e = e
  bound_own q (Some (Bound k u)) e = e
  bound_own q (Some (Offered k u)) e = absurd (not_true e)
  bound_own q (Some (Barred u)) e = e

  bound_other : (q : K) (s : Option (Holder K)) → is_clients eqk q s ≡ false → hits eqk q (bound_to s) ≡ false
  bound_other q None e = e
  bound_other q (Some (Bound k u)) e = e
  bound_other q (Some (Offered k u)) e = refl
  bound_other q (Some (Barred u)) e = e

  pub bound_sort : IsSort eqk bound_to
  bound_sort = record { none = refl; live = bound_live; own = bound_own; other = bound_other }

  offered_own : (q : K) (s : Option (Holder K)) → hits eqk q (offered_to s) ≡ true → is_clients eqk q s ≡ true
  offered_own q None e = e
  offered_own q (Some (Bound k u)) e = absurd (not_true e)
  offered_own q (Some (Offered k u)) e = e
  offered_own q (Some (Barred u)) e = e

  offered_other : (q : K) (s : Option (Holder K)) → is_clients eqk q s ≡ false → hits eqk q (offered_to s) ≡ false
  offered_other q None e = e
  offered_other q (Some (Bound k u)) e = refl
  offered_other q (Some (Offered k u)) e = e
  offered_other q (Some (Barred u)) e = e

  pub offered_sort : IsSort eqk offered_to
  offered_sort = record { none = refl; live = offered_live; own = offered_own; other = offered_other }

  -- a holder that is live is the client's where the holder is
  pub live_clients_only : (t : ℕ) (q : K) (s : Option (Holder K)) → is_clients eqk q s ≡ false → is_clients eqk q (live t s) ≡ false
  live_clients_only t q None e = e
  live_clients_only t q (Some h) e = of_cond (is_clients eqk q) (is_live t (until_of h)) (Some h) None ∙ ap (λ b. cond (is_live t (until_of h)) b false) e ∙ both_same (is_live t (until_of h)) false

  pub without_live : (t : ℕ) (q : K) (ss : Slots K) → IsWithout eqk q ss → IsWithout eqk q (live_slots t ss)
  without_live t q [] w = tt
  without_live t q (s ∷ ss) w = (live_clients_only t q s w.0, without_live t q ss w.1)

  pub live_clients_own : (t : ℕ) (q : K) (s : Option (Holder K)) → is_clients eqk q (live t s) ≡ true → is_clients eqk q s ≡ true
  live_clients_own t q s e = by (is_clients eqk q s) refl where
    by : (b : Bool) → is_clients eqk q s ≡ b → is_clients eqk q s ≡ true
    by true is = is
    by false is = absurd (not_true (sym (live_clients_only t q s is) ∙ e))

  pub distinct_live : (t : ℕ) (ss : Slots K) → AreDistinct eqk ss → AreDistinct eqk (live_slots t ss)
  distinct_live t [] d = tt
  distinct_live t (s ∷ ss) d = (λ q e. without_live t q ss (d.0 q (live_clients_own t q s e)), distinct_live t ss d.1)

  get-with_lease : (q : K) (a : ℕ) (l : Lessee K) (m : Clients cmpk) → get (with_lease a l m) q ≡ hit eqk q a l (get m q)
  get-with_lease q a None m = refl
  get-with_lease q a (Some l) m =
      get-insert lawk.total m l.0 (at a l.1) q ∙ ap (λ b. cond b (Some (at a l.1)) (get m q)) (lawk.agrees q l.0)

  pub get-leases : (f : Option (Holder K) → Lessee K) (q : K) (a : ℕ) (ss : Slots K) → get (leases cmpk f a ss) q ≡ got eqk f q a ss
  get-leases f q a [] = get-empty cmpk q
  get-leases f q a (s ∷ ss) = get-with_lease q a (f s) (leases cmpk f (a + 1) ss) ∙ ap (hit eqk q a (f s)) (get-leases f q (a + 1) ss)

  pub missed : (q : K) (a : ℕ) (l : Lessee K) (rest : Option Lease) → hits eqk q l ≡ false → hit eqk q a l rest ≡ rest
  missed q a None rest e = refl
  missed q a (Some l) rest e = ap (λ b. cond b (Some (at a l.1)) rest) e

  pub got_none : (f : Option (Holder K) → Lessee K) → IsSort eqk f → (q : K) (a : ℕ) (ss : Slots K) → IsWithout eqk q ss → got eqk f q a ss ≡ None
  got_none f sort q a [] w = refl
  got_none f sort q a (s ∷ ss) w = missed q a (f s) _ (sort.other q s w.0) ∙ got_none f sort q (a + 1) ss w.1

  expire_one : (q : K) (a t : ℕ) (l : K × ℕ) (rest : Option Lease) (live same : Bool) → is_live t l.1 ≡ live → eqk q l.0 ≡ same → (same ≡ true → rest ≡ None)
      → hit eqk q a (cond live (Some l) None) (keep t rest) ≡ keep t (cond same (Some (at a l.1)) rest)
  expire_one q a t l rest true true is same none = ap (λ b. cond b (Some (at a l.1)) (keep t rest)) same ∙ sym (keep_live t (at a l.1) true is)
  expire_one q a t l rest true false is same none = ap (λ b. cond b (Some (at a l.1)) (keep t rest)) same
  expire_one q a t l rest false true is same none = ap (keep t) (none refl) ∙ sym (keep_live t (at a l.1) false is)
  expire_one q a t l rest false false is same none = refl

  expire_first : (q : K) (a t : ℕ) (l : Lessee K) (rest : Option Lease) → (hits eqk q l ≡ true → rest ≡ None) → hit eqk q a (alive t l) (keep t rest) ≡ keep t (hit eqk q a l rest)
  expire_first q a t None rest none = refl
  expire_first q a t (Some l) rest none = expire_one q a t l rest (is_live t l.1) (eqk q l.0) refl refl none

  expire : (f : Option (Holder K) → Lessee K) → IsSort eqk f → (q : K) (a t : ℕ) (ss : Slots K) → AreDistinct eqk ss → got eqk f q a (live_slots t ss) ≡ keep t (got eqk f q a ss)
  expire f sort q a t [] d = refl
  expire f sort q a t (s ∷ ss) d =
      ap (λ l. hit eqk q a l (got eqk f q (a + 1) (live_slots t ss))) (sort.live t s)
      ∙ ap (hit eqk q a (alive t (f s))) (expire f sort q (a + 1) t ss d.1)
      ∙ expire_first q a t (f s) (got eqk f q (a + 1) ss) (λ h. got_none f sort q (a + 1) ss (d.0 q (sort.own q s h)))

  -- what a client has of the entries that are live
  pub get-live_clients : (t : ℕ) (m : Clients cmpk) (q : K) → get (live_clients t m) q ≡ keep t (get m q)
  get-live_clients t m q =
      let test : K → Bool = λ key. option_map_or (λ (lease : Lease). is_live t lease.until) (get m key) false in
      get-retain_keys m test q (λ x e. ap test (sym (lawk.exact q x e)))

  pub live_leases : (f : Option (Holder K) → Lessee K) → IsSort eqk f → (a t : ℕ) (ss : Slots K) → AreDistinct eqk ss → live_clients t (leases cmpk f a ss) ≡ leases cmpk f a (live_slots t ss)
  live_leases f sort a t ss d =
      same_map lawk.total lawk.exact _ _ (λ q.
      get-live_clients t (leases cmpk f a ss) q ∙ ap (keep t) (get-leases f q a ss) ∙ sym (expire f sort q a t ss d) ∙ sym (get-leases f q a (live_slots t ss)))

  pub later_clients : (t later : ℕ) → t ≤ later → (m : Clients cmpk) → live_clients later (live_clients t m) ≡ live_clients later m
  later_clients t later h m =
      same_map lawk.total lawk.exact _ _ (λ q.
      get-live_clients later (live_clients t m) q ∙ ap (keep later) (get-live_clients t m q) ∙ later_lease t later h (get m q) ∙ sym (get-live_clients later m q))
