-- What is kept of slots, and which slots begin a book.
use Rattle.std.proofs.Common.{◌≡◌, ℕ, zero, suc, ◌+◌, ◌-◌, ◌<◌, ◌≤◌, Bool, true, false, not, ◌&&◌, ◌||◌, cond, List, [], ◌∷◌, ◌++◌, length, map, take, replicate, set, get_or, ltb, ltb-false, refl, sym, ap, subst, ◌∙◌, arith}
use borrow.Author.Tests.{ltb-true}
use Rattle.std.specs.Prelude.{Option, Some, None, All}
use Rattle.std.specs.declared.cmp.Ordering.{Ordering}
use Rattle.std.specs.List.{list_any, position}
use Rattle.std.proofs.lemmas.List.{get_or_past}
use Rattle.types.specs.Slots.{none_twice}
use Rattle.slots.specs.declared.holder.Holder.{Holder}
use Rattle.slots.specs.declared.holder.Holder.TheVariants.{Bound, Offered, Barred}
use Rattle.slots.specs.Kept.{unoffered, kept, kept_slots, same_client, IsWithin, AreWithin, IsOfferedWithin, AreOffersWithin}
use Rattle.slots.specs.Key.{IsKey}
use Rattle.slots.specs.Lookup.{until_of, live}
use Rattle.slots.specs.Maps.{is_live}
use Rattle.slots.specs.Slots.{bound_to, offered_to, barred_until, leases, with_lease, bars_of, is_clients, IsWithout, AreDistinct, with_vacancy, without_lessee, client_of, with_slot}
use Rattle.slots.proofs.ShownLemmas.{Slots, Lessee, not_true, live_clients_only, same_is, itself, of_cond, both_same, lasts, bars_below, bars_at, same_bars}

pub get_or_any : {X : Type 0} (xs : List X) (i : ℕ) (d e : X) → i < length xs → get_or xs i d ≡ get_or xs i e
get_or_any [] i d e h = absurd (omega (arith, h))
get_or_any (x ∷ xs) zero d e h = refl
get_or_any (x ∷ xs) (suc i) d e h = get_or_any xs i d e (omega (arith, h))

neither : (a b : Bool) → a ≡ false → b ≡ false → (a || b) ≡ false
neither true b e f = absurd (not_true (sym e))
neither false b e f = f

both_true : (a b : Bool) → (not a && b) ≡ true → (a ≡ false) × (b ≡ true)
both_true true b e = absurd (not_true e)
both_true false b e = (refl, e)

both_false : (a b : Bool) → (a || b) ≡ false → (a ≡ false) × (b ≡ false)
both_false true b e = absurd (not_true (sym e))
both_false false b e = (refl, e)

pub map_take : {A B : Type 0} (f : A → B) (n : ℕ) (xs : List A) → map f (take n xs) ≡ take n (map f xs)
map_take f zero xs = refl
map_take f (suc n) [] = refl
map_take f (suc n) (x ∷ xs) = ap (λ ys. f x ∷ ys) (map_take f n xs)

pub length_take : {A : Type 0} (i : ℕ) (ss : List A) → i ≤ length ss → length (take i ss) ≡ i
length_take zero ss h = refl
length_take (suc i) [] h = absurd (omega (arith, h))
length_take (suc i) (s ∷ ss) h = ap suc (length_take i ss (omega (arith, h)))

module _ {K : Type 0} where
  none_at : (n i : ℕ) → get_or {A = Option (Holder K)} (replicate n None) i None ≡ None
  none_at zero i = refl
  none_at (suc n) zero = refl
  none_at (suc n) (suc i) = none_at n i

  kept_from : (t n : ℕ) (ss : Slots K) (i : ℕ) → get_or (map (kept t) ss ++ replicate n None) i None ≡ kept t (get_or ss i None)
  kept_from t n [] i = none_at n i
  kept_from t n (s ∷ ss) zero = refl
  kept_from t n (s ∷ ss) (suc i) = kept_from t n ss i

  pub kept_at : (t : ℕ) (ss : Slots K) (i : ℕ) → get_or (kept_slots t ss) i None ≡ kept t (get_or ss i None)
  kept_at t ss i = kept_from t (16 - length ss) ss i

  -- ---- slots kept one after the other

  set_kept : (t n i : ℕ) (ss : Slots K) → i < length ss
      → set (map (kept t) (take i ss) ++ replicate (suc n) None) i (kept t (get_or ss i None)) ≡ map (kept t) (take (suc i) ss) ++ replicate n None
  set_kept t n i [] h = absurd (omega (arith, h))
  set_kept t n zero (s ∷ ss) h = refl
  set_kept t n (suc i) (s ∷ ss) h = ap (λ xs. kept t s ∷ xs) (set_kept t n i ss (omega (arith, h)))

  pub kept_more : (t : ℕ) (ss : Slots K) (i : ℕ) (s : Option (Holder K)) → i < length ss → length ss ≤ 16 → s ≡ get_or ss i s
      → set (kept_slots t (take i ss)) i (kept t s) ≡ kept_slots t (take (i + 1) ss)
  kept_more t ss i s below few is =
      let here : kept t s ≡ kept t (get_or ss i None) = ap (kept t) (is ∙ get_or_any ss i s None below) in
      let room : 16 - length (take i ss) ≡ suc (16 - suc i) = ap (λ n. 16 - n) (length_take i ss (omega (arith, below))) ∙ omega (arith, below, few) in
      let next : i + 1 ≡ suc i = omega arith in
      ap (λ n. set (map (kept t) (take i ss) ++ replicate n None) i (kept t s)) room
      ∙ ap (set (map (kept t) (take i ss) ++ replicate (suc (16 - suc i)) None) i) here
      ∙ set_kept t (16 - suc i) i ss below
      ∙ ap (λ n. map (kept t) (take (suc i) ss) ++ replicate (16 - n) None) (sym (length_take (suc i) ss (omega (arith, below))))
      ∙ ap (λ n. kept_slots t (take n ss)) (sym next)

  -- ---- what is kept is live and no offer

  pub unoffered_own : (s : Option (Holder K)) → unoffered (unoffered s) ≡ unoffered s
  unoffered_own None = refl
  unoffered_own (Some (Bound k u)) = refl
  unoffered_own (Some (Offered k u)) = refl
  unoffered_own (Some (Barred u)) = refl

  live_if : (t : ℕ) (h : Holder K) (b : Bool) → is_live t (until_of h) ≡ b → live t (cond b (Some h) None) ≡ cond b (Some h) None
  live_if t h true is = ap (λ b. cond b (Some h) None) is
  live_if t h false is = refl

  pub live_twice : (t : ℕ) (s : Option (Holder K)) → live t (live t s) ≡ live t s
  live_twice t None = refl
  live_twice t (Some h) = live_if t h (is_live t (until_of h)) refl

  pub live_unoffered : (t : ℕ) (s : Option (Holder K)) → live t (unoffered s) ≡ unoffered (live t s)
  live_unoffered t None = refl
  live_unoffered t (Some (Bound k u)) = sym (of_cond unoffered (is_live t u) (Some (Bound k u)) None)
  live_unoffered t (Some (Offered k u)) = sym (of_cond unoffered (is_live t u) (Some (Offered k u)) None ∙ both_same (is_live t u) None)
  live_unoffered t (Some (Barred u)) = sym (of_cond unoffered (is_live t u) (Some (Barred u)) None)

  pub kept_live : (t : ℕ) (s : Option (Holder K)) → live t (kept t s) ≡ kept t s
  kept_live t s = live_unoffered t (live t s) ∙ ap unoffered (live_twice t s)

  -- ---- what a later clock leaves

  live_later : (t later : ℕ) → t ≤ later → (s : Option (Holder K)) → live later (live t s) ≡ live later s
  live_later t later h None = refl
  live_later t later h (Some holder) = by (is_live t (until_of holder)) (is_live later (until_of holder)) refl refl where
    by : (now then : Bool) → is_live t (until_of holder) ≡ now → is_live later (until_of holder) ≡ then → live later (cond now (Some holder) None) ≡ cond then (Some holder) None
    by true then is is_then = ap (λ b. cond b (Some holder) None) is_then
    by false true is is_then = absurd (not_true (sym is ∙ lasts t later (until_of holder) h is_then))
    by false false is is_then = refl

  pub kept_later : (t later : ℕ) → t ≤ later → (s : Option (Holder K)) → live later (kept t s) ≡ kept later s
  kept_later t later h s = live_unoffered later (live t s) ∙ ap unoffered (live_later t later h s)

  -- ---- what is kept is within the limit

  within_if : (b : Bool) (s : Option (Holder K)) → IsWithin s → IsWithin (cond b s None)
  within_if true s h = h
  within_if false s h = tt

  pub live_within : (t : ℕ) (s : Option (Holder K)) → IsWithin s → IsWithin (live t s)
  live_within t None h = tt
  live_within t (Some holder) h = within_if (is_live t (until_of holder)) (Some holder) h

  unoffered_within : (s : Option (Holder K)) → IsWithin s → IsWithin (unoffered s)
  unoffered_within None h = tt
  unoffered_within (Some (Bound k u)) h = h
  unoffered_within (Some (Offered k u)) h = tt
  unoffered_within (Some (Barred u)) h = h

  pub kept_within : (t : ℕ) (s : Option (Holder K)) → IsWithin s → IsWithin (kept t s)
  kept_within t s h = unoffered_within (live t s) (live_within t s h)

  -- ---- what holds of every slot, held or not

  module _ (P : Option (Holder K) → Type 0) (none : P None) where
    -- also past the end
    abbrev EachAt : Slots K → Type 0
    EachAt ss = (i : ℕ) → P (get_or ss i None)

    pub at_each : (ss : Slots K) → All P ss → EachAt ss
    at_each ss w i = by (ltb i (length ss)) refl where
      by : (b : Bool) → ltb i (length ss) ≡ b → P (get_or ss i None)
      by true is = w i None (ltb-true i (length ss) is)
      by false is = subst P (sym (get_or_past ss i None (ltb-false i (length ss) is))) none

    pub all_at : (ss : Slots K) → EachAt ss → All P ss
    all_at ss w i d h = subst P (get_or_any ss i None d h) (w i)

    each_set : (ss : Slots K) (i : ℕ) (new : Option (Holder K)) → EachAt ss → P new → EachAt (set ss i new)
    each_set [] i new w h k = w k
    each_set (s ∷ ss) zero new w h zero = h
    each_set (s ∷ ss) zero new w h (suc k) = w (suc k)
    each_set (s ∷ ss) (suc i) new w h zero = w 0
    each_set (s ∷ ss) (suc i) new w h (suc k) = each_set ss i new (λ j. w (suc j)) h k

    each_vacated : (found : Option ℕ) (ss : Slots K) → EachAt ss → EachAt (with_vacancy found ss)
    each_vacated None ss w = w
    each_vacated (Some i) ss w = each_set ss i None w none

    each_without : (eqk : K → K → Bool) (client : Option K) (ss : Slots K) → EachAt ss → EachAt (without_lessee eqk client ss)
    each_without eqk None ss w = w
    each_without eqk (Some client) ss w = each_vacated (position (is_clients eqk client) ss) ss w

    pub all_with : (eqk : K → K → Bool) (i : ℕ) (new : Option (Holder K)) (ss : Slots K) → All P ss → P new → All P (with_slot eqk i new ss)
    all_with eqk i new ss w h =
        all_at (with_slot eqk i new ss) (each_set (without_lessee eqk (client_of new) ss) i new (each_without eqk (client_of new) ss (at_each ss w)) h)

  pub slot_within : (eqk : K → K → Bool) (i : ℕ) (new : Option (Holder K)) (ss : Slots K) → AreWithin ss → IsWithin new → AreWithin (with_slot eqk i new ss)
  slot_within eqk i new ss w h = all_with IsWithin tt eqk i new ss w h

  -- ---- offers end within the limit

  pub slot_offered_within : (eqk : K → K → Bool) (i : ℕ) (new : Option (Holder K)) (ss : Slots K) → AreOffersWithin ss → IsOfferedWithin new → AreOffersWithin (with_slot eqk i new ss)
  slot_offered_within eqk i new ss w h = all_with IsOfferedWithin tt eqk i new ss w h

  pub no_offer_within : (s : Option (Holder K)) → offered_to s ≡ None → IsOfferedWithin s
  no_offer_within None e = tt
  no_offer_within (Some (Bound k u)) e = tt
  no_offer_within (Some (Offered k u)) e = absurd cc
  no_offer_within (Some (Barred u)) e = tt

  pub no_offers_within : (ss : Slots K) → ((i : ℕ) → offered_to (get_or ss i None) ≡ None) → AreOffersWithin ss
  no_offers_within ss none = all_at IsOfferedWithin tt ss (λ i. no_offer_within (get_or ss i None) (none i))

  -- ---- slots that show the same maps

  pub bars_by : (a : ℕ) (xs ys : Slots K) → ((i : ℕ) → barred_until (get_or xs i None) ≡ barred_until (get_or ys i None)) → bars_of a xs ≡ bars_of a ys
  bars_by a xs ys same = same_bars a _ _ (λ x h. bars_below x a xs h ∙ sym (bars_below x a ys h)) (λ i. bars_at a i xs ∙ same i ∙ sym (bars_at a i ys))

  pub take_at : (n : ℕ) (ss : Slots K) → ((i : ℕ) → n ≤ i → get_or ss i None ≡ None) → (i : ℕ) → get_or (take n ss) i None ≡ get_or ss i None
  take_at zero ss past i = sym (past i (omega arith))
  take_at (suc n) [] past i = refl
  take_at (suc n) (s ∷ ss) past zero = refl
  take_at (suc n) (s ∷ ss) past (suc i) = take_at n ss (λ j h. past (suc j) (omega (arith, h))) i

module _ {K : Type 0} {eqk : K → K → Bool} {cmpk : K → K → Ordering} (lawk : IsKey eqk cmpk) where
  -- ---- no client has two

  none_alone : (n : ℕ) (s : Option (Holder K)) → list_any (same_client eqk s) (replicate n None) ≡ false
  none_alone zero s = refl
  none_alone (suc n) None = none_alone n None
  none_alone (suc n) (Some (Bound k u)) = none_alone n (Some (Bound k u))
  none_alone (suc n) (Some (Offered k u)) = none_alone n (Some (Offered k u))
  none_alone (suc n) (Some (Barred u)) = none_alone n (Some (Barred u))

  alone : (s : Option (Holder K)) → bound_to s ≡ None → (xs : Slots K) → list_any (same_client eqk s) xs ≡ false
  alone s e [] = refl
  alone None e (x ∷ xs) = alone None e xs
  alone (Some (Bound k u)) e (x ∷ xs) = absurd cc
  alone (Some (Offered k u)) e (x ∷ xs) = alone (Some (Offered k u)) e xs
  alone (Some (Barred u)) e (x ∷ xs) = alone (Some (Barred u)) e xs

  none_once : (n : ℕ) → none_twice (same_client eqk) (replicate n None) ≡ true
  none_once zero = refl
  none_once (suc n) = ap (λ b. not b && none_twice (same_client eqk) (replicate n None)) (none_alone n None) ∙ none_once n

  apart : (k : K) (u : ℕ) (s : Option (Holder K)) → is_clients eqk k s ≡ false → same_client eqk (Some (Bound k u)) s ≡ false
  apart k u None e = refl
  apart k u (Some (Bound key v)) e = e
  apart k u (Some (Offered key v)) e = refl
  apart k u (Some (Barred v)) e = refl

  unoffered_clients : (k : K) (s : Option (Holder K)) → is_clients eqk k s ≡ false → is_clients eqk k (unoffered s) ≡ false
  unoffered_clients k None e = refl
  unoffered_clients k (Some (Bound key v)) e = e
  unoffered_clients k (Some (Offered key v)) e = refl
  unoffered_clients k (Some (Barred v)) e = refl

  kept_alone : (k : K) (u t n : ℕ) (ss : Slots K) → IsWithout eqk k ss → list_any (same_client eqk (Some (Bound k u))) (map (kept t) ss ++ replicate n None) ≡ false
  kept_alone k u t n [] w = none_alone n (Some (Bound k u))
  kept_alone k u t n (s ∷ ss) w =
      neither _ _ (apart k u (kept t s) (unoffered_clients k (live t s) (live_clients_only lawk t k s w.0))) (kept_alone k u t n ss w.1)

  first_alone : (t n : ℕ) (s : Option (Holder K)) (ss : Slots K) → ((client : K) → is_clients eqk client s ≡ true → IsWithout eqk client ss)
      → list_any (same_client eqk (kept t s)) (map (kept t) ss ++ replicate n None) ≡ false
  first_alone t n None ss d = alone None refl (map (kept t) ss ++ replicate n None)
  first_alone t n (Some (Bound k u)) ss d = by (is_live t u) where
    by : (b : Bool) → list_any (same_client eqk (unoffered (cond b (Some (Bound k u)) None))) (map (kept t) ss ++ replicate n None) ≡ false
    by true = kept_alone k u t n ss (d k (itself lawk k))
    by false = alone None refl (map (kept t) ss ++ replicate n None)
  first_alone t n (Some (Offered k u)) ss d = by (is_live t u) where
    by : (b : Bool) → list_any (same_client eqk (unoffered (cond b (Some (Offered k u)) None))) (map (kept t) ss ++ replicate n None) ≡ false
    by true = alone None refl (map (kept t) ss ++ replicate n None)
    by false = alone None refl (map (kept t) ss ++ replicate n None)
  first_alone t n (Some (Barred u)) ss d = by (is_live t u) where
    by : (b : Bool) → list_any (same_client eqk (unoffered (cond b (Some (Barred u)) None))) (map (kept t) ss ++ replicate n None) ≡ false
    by true = alone (Some (Barred u)) refl (map (kept t) ss ++ replicate n None)
    by false = alone None refl (map (kept t) ss ++ replicate n None)

  once_from : (t n : ℕ) (ss : Slots K) → AreDistinct eqk ss → none_twice (same_client eqk) (map (kept t) ss ++ replicate n None) ≡ true
  once_from t n [] d = none_once n
  once_from t n (s ∷ ss) d =
      ap (λ b. not b && none_twice (same_client eqk) (map (kept t) ss ++ replicate n None)) (first_alone t n s ss d.0) ∙ once_from t n ss d.1

  pub kept_once : (t : ℕ) (ss : Slots K) → AreDistinct eqk ss → none_twice (same_client eqk) (kept_slots t ss) ≡ true
  kept_once t ss d = once_from t (16 - length ss) ss d

  -- ---- and so bindings of which no client has two are distinct

  bound_apart : (k q : K) (u : ℕ) (z : Option (Holder K)) → offered_to z ≡ None → q ≡ k → same_client eqk (Some (Bound k u)) z ≡ false → is_clients eqk q z ≡ false
  bound_apart k q u None bare is e = refl
  bound_apart k q u (Some (Bound key v)) bare is e = ap (λ p. eqk p key) is ∙ e
  bound_apart k q u (Some (Offered key v)) bare is e = absurd cc
  bound_apart k q u (Some (Barred v)) bare is e = refl

  -- no slot is offered
  abbrev pub AreUnoffered : Slots K → Type 0
  AreUnoffered [] = Unit {0}
  AreUnoffered (s ∷ ss) = (offered_to s ≡ None) × AreUnoffered ss

  bound_without : (q : K) (y : Option (Holder K)) (xs : Slots K) → offered_to y ≡ None → AreUnoffered xs → is_clients eqk q y ≡ true → list_any (same_client eqk y) xs ≡ false → IsWithout eqk q xs
  bound_without q None xs bare bares own e = absurd (not_true own)
  bound_without q (Some (Barred u)) xs bare bares own e = absurd (not_true own)
  bound_without q (Some (Offered k u)) xs bare bares own e = absurd cc
  bound_without q (Some (Bound k u)) [] bare bares own e = tt
  bound_without q (Some (Bound k u)) (x ∷ xs) bare bares own e =
      let p = both_false (same_client eqk (Some (Bound k u)) x) (list_any (same_client eqk (Some (Bound k u))) xs) e in
      (bound_apart k q u x bares.0 (same_is lawk q k own) p.0, bound_without q (Some (Bound k u)) xs bare bares.1 own p.1)

  pub once_distinct : (xs : Slots K) → AreUnoffered xs → none_twice (same_client eqk) xs ≡ true → AreDistinct eqk xs
  once_distinct [] bare e = tt
  once_distinct (x ∷ xs) bare e =
      let p = both_true (list_any (same_client eqk x) xs) (none_twice (same_client eqk) xs) e in
      (λ q own. bound_without q x xs bare.0 bare.1 own p.0, once_distinct xs bare.1 p.1)

  take_without : (q : K) (n : ℕ) (ss : Slots K) → IsWithout eqk q ss → IsWithout eqk q (take n ss)
  take_without q zero ss w = tt
  take_without q (suc n) [] w = tt
  take_without q (suc n) (s ∷ ss) w = (w.0, take_without q n ss w.1)

  pub take_distinct : (n : ℕ) (ss : Slots K) → AreDistinct eqk ss → AreDistinct eqk (take n ss)
  take_distinct zero ss d = tt
  take_distinct (suc n) [] d = tt
  take_distinct (suc n) (s ∷ ss) d = (λ q own. take_without q n ss (d.0 q own), take_distinct n ss d.1)

  pub leases_by : (f : Option (Holder K) → Lessee K) → f None ≡ None → (a : ℕ) (xs ys : Slots K) → ((i : ℕ) → f (get_or xs i None) ≡ f (get_or ys i None)) → leases cmpk f a xs ≡ leases cmpk f a ys
  leases_by f none a [] [] same = refl
  leases_by f none a [] (y ∷ ys) same =
      leases_by f none (a + 1) [] ys (λ i. same (suc i)) ∙ ap (λ l. with_lease a l (leases cmpk f (a + 1) ys)) (sym none ∙ same 0)
  leases_by f none a (x ∷ xs) [] same =
      ap (λ l. with_lease a l (leases cmpk f (a + 1) xs)) (same 0 ∙ none) ∙ leases_by f none (a + 1) xs [] (λ i. same (suc i))
  leases_by f none a (x ∷ xs) (y ∷ ys) same =
      ap (λ l. with_lease a l (leases cmpk f (a + 1) xs)) (same 0) ∙ ap (with_lease a (f y)) (leases_by f none (a + 1) xs ys (λ i. same (suc i)))
