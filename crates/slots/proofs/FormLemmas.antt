-- What a region's slots hold, whatever a protocol's form of a slot is.
use Rattle.std.proofs.Common.{◌≡◌, ℕ, zero, suc, ◌+◌, ◌-◌, ◌<◌, ◌≤◌, Bool, true, not, ◌&&◌, ◌||◌, List, [], ◌∷◌, ◌++◌, length, map, take, replicate, set, get_or, refl, sym, ap, subst, ◌∙◌, arith}
use Rattle.std.specs.Prelude.{Option, None, All}
use Rattle.std.specs.declared.cmp.Ordering.{Ordering}
use Rattle.std.specs.List.{list_any}
use Rattle.std.proofs.lemmas.List.{map-set, length-map, length-append, length-replicate, get_or_past}
use Rattle.std.proofs.lemmas.List.Folds.{map_fixed}
use Rattle.std.proofs.Math.ListN.{get_or-map}
use Rattle.types.specs.Slots.{none_twice}
use Rattle.slots.specs.declared.holder.Holder.{Holder}
use Rattle.slots.specs.Kept.{unoffered, kept, kept_slots, same_client, IsWithin, AreWithin, AreOffersWithin}
use Rattle.slots.specs.Key.{IsKey}
use Rattle.slots.specs.Lookup.{live}
use Rattle.slots.specs.Slots.{offered_to, AreDistinct, without_client}
use Rattle.slots.proofs.KeptLemmas.{unoffered_own, get_or_any, kept_at, kept_more, kept_live, kept_later, live_twice, kept_within, live_within, at_each, all_at, no_offers_within, kept_once, AreUnoffered, once_distinct, take_distinct, map_take}
use Rattle.slots.proofs.KeptWrites.{kept_set, IsClear, kept_given}
use Rattle.slots.proofs.ShownLemmas.{Slots, live_slots}

-- a slot of a region is a holder without an offer
pub record IsForm {K C : Type 0} (eqk : K → K → Bool) (holder_of : C → Option (Holder K)) (slot_of : Option (Holder K) → C) (live_at : ℕ → C → C) (same : C → C → Bool) : Type 0 where
  pub holder_back : (h : Option (Holder K)) → holder_of (slot_of h) ≡ unoffered h
  pub slot_back : (c : C) → slot_of (holder_of c) ≡ c
  pub held_is : (t : ℕ) (c : C) → holder_of (live_at t c) ≡ live t (holder_of c)
  pub never_offered : (c : C) → offered_to (holder_of c) ≡ None
  pub same_holders : (x y : C) → same x y ≡ same_client eqk (holder_of x) (holder_of y)

-- slots that are live as they are have no client twice at their clock
pub live_once : {C : Type 0} (live_at : ℕ → C → C) (same : C → C → Bool) (t : ℕ) (xs : List C) → All (λ c. live_at t c ≡ c) xs → none_twice same xs ≡ true → none_twice same (map (live_at t) xs) ≡ true
live_once live_at same t xs live once = ap (none_twice same) (map_fixed (live_at t) xs live) ∙ once

module _ {K C : Type 0} {eqk : K → K → Bool} {holder_of : C → Option (Holder K)} {slot_of : Option (Holder K) → C} {live_at : ℕ → C → C} {same : C → C → Bool}
    (form : IsForm eqk holder_of slot_of live_at same) where
  -- the holder of a slot at a clock
  abbrev pub held : ℕ → C → Option (Holder K)
  held t c = holder_of (live_at t c)

  kept_back : (t : ℕ) (h : Option (Holder K)) → holder_of (slot_of (kept t h)) ≡ kept t h
  kept_back t h = form.holder_back (kept t h) ∙ unoffered_own (live t h)

  -- ---- slots by index

  kept_any : (t : ℕ) (ss : Slots K) (xs : List C) → xs ≡ map slot_of (kept_slots t ss) → (i : ℕ) (d : C) → i < length xs → get_or xs i d ≡ slot_of (kept t (get_or ss i None))
  kept_any t ss xs e i d h =
      get_or_any xs i d (slot_of None) h ∙ ap (λ ys. get_or ys i (slot_of None)) e ∙ get_or-map slot_of (kept_slots t ss) i None ∙ ap slot_of (kept_at t ss i)

  pub kept_next : (t : ℕ) (ss : Slots K) (i : ℕ) (s : Option (Holder K)) (xs : List C) (slot : C) → i < length ss → length ss ≤ 16 → s ≡ get_or ss i s → slot ≡ slot_of (kept t s)
      → xs ≡ map slot_of (kept_slots t (take i ss)) → set xs i slot ≡ map slot_of (kept_slots t (take (i + 1) ss))
  kept_next t ss i s xs slot below few is made so_far =
      ap (λ ys. set ys i slot) so_far ∙ ap (set (map slot_of (kept_slots t (take i ss))) i) made ∙ sym (map-set slot_of (kept_slots t (take i ss)) i (kept t s))
      ∙ ap (map slot_of) (kept_more t ss i s below few is)

  pub past_free : (t : ℕ) (ss : Slots K) (xs : List C) → xs ≡ map slot_of (kept_slots t ss) → (i : ℕ) → length ss ≤ i → get_or xs i (slot_of None) ≡ slot_of None
  past_free t ss xs e i h =
      ap (λ ys. get_or ys i (slot_of None)) e ∙ get_or-map slot_of (kept_slots t ss) i None ∙ ap slot_of (kept_at t ss i ∙ ap (kept t) (get_or_past ss i None h))

  -- ---- what is kept is live, and within the limit

  kept_stays : (t : ℕ) (s : Option (Holder K)) → live_at t (slot_of (kept t s)) ≡ slot_of (kept t s)
  kept_stays t s =
      sym (form.slot_back (live_at t (slot_of (kept t s)))) ∙ ap slot_of (form.held_is t (slot_of (kept t s)))
      ∙ ap (λ h. slot_of (live t h)) (kept_back t s) ∙ ap slot_of (kept_live t s)

  pub all_live : (t : ℕ) (ss : Slots K) (xs : List C) → xs ≡ map slot_of (kept_slots t ss) → All (λ c. live_at t c ≡ c) xs
  all_live t ss xs e i d h = subst (λ c. live_at t c ≡ c) (sym (kept_any t ss xs e i d h)) (kept_stays t (get_or ss i None))

  pub all_within : (P : C → Type 0) → ((h : Option (Holder K)) → IsWithin h → P (slot_of h)) → (t : ℕ) (ss : Slots K) (xs : List C) → xs ≡ map slot_of (kept_slots t ss) → AreWithin ss → All P xs
  all_within P slot_within t ss xs e w i d h =
      subst P (sym (kept_any t ss xs e i d h)) (slot_within (kept t (get_or ss i None)) (kept_within t (get_or ss i None) (at_each IsWithin tt ss w i)))

  pub kept_length : (t : ℕ) (ss : Slots K) → length ss ≤ 16 → length (map slot_of (kept_slots t ss)) ≡ 16
  kept_length t ss few =
      length-map (kept_slots t ss) slot_of ∙ length-append (map (kept t) ss) (replicate (16 - length ss) None)
      ∙ omega (arith, few, length-map ss (kept t), length-replicate {A = Option (Holder K)} (16 - length ss) None)

  -- ---- a slot that is written

  pub form_set : (t i : ℕ) (new : Option (Holder K)) (ss : Slots K) (c : C) → i < length ss → slot_of (kept t new) ≡ c → map slot_of (kept_slots t (set ss i new)) ≡ set (map slot_of (kept_slots t ss)) i c
  form_set t i new ss c below is =
      ap (map slot_of) (kept_set t i new ss below) ∙ map-set slot_of (kept_slots t ss) i (kept t new) ∙ ap (set (map slot_of (kept_slots t ss)) i) is

  -- ---- what a later clock leaves

  later_slot : (t later : ℕ) → t ≤ later → (s : Option (Holder K)) → slot_of (kept later s) ≡ live_at later (slot_of (kept t s))
  later_slot t later h s =
      sym (ap slot_of (form.held_is later (slot_of (kept t s)) ∙ ap (live later) (kept_back t s) ∙ kept_later t later h s)) ∙ form.slot_back (live_at later (slot_of (kept t s)))

  later_from : (t later n : ℕ) → t ≤ later → (ss : Slots K) → map slot_of (map (kept later) ss ++ replicate n None) ≡ map (live_at later) (map slot_of (map (kept t) ss ++ replicate n None))
  later_from t later zero h [] = refl
  later_from t later (suc n) h [] =
      ap (λ c. c ∷ map slot_of (replicate n None)) (later_slot t later h None) ∙ ap (λ cs. live_at later (slot_of None) ∷ cs) (later_from t later n h [])
  later_from t later n h (s ∷ ss) =
      ap (λ c. c ∷ map slot_of (map (kept later) ss ++ replicate n None)) (later_slot t later h s) ∙ ap (λ cs. live_at later (slot_of (kept t s)) ∷ cs) (later_from t later n h ss)

  pub form_later : (t later : ℕ) → t ≤ later → (ss : Slots K) → map slot_of (kept_slots later ss) ≡ map (live_at later) (map slot_of (kept_slots t ss))
  form_later t later h ss = later_from t later (16 - length ss) h ss

  -- ---- no client has two

  any_holder : (x : C) (xs : List C) → list_any (same x) xs ≡ list_any (same_client eqk (holder_of x)) (map holder_of xs)
  any_holder x [] = refl
  any_holder x (y ∷ ys) =
      ap (λ b. b || list_any (same x) ys) (form.same_holders x y) ∙ ap (λ b. same_client eqk (holder_of x) (holder_of y) || b) (any_holder x ys)

  once_is : (xs : List C) → none_twice same xs ≡ none_twice (same_client eqk) (map holder_of xs)
  once_is [] = refl
  once_is (x ∷ xs) =
      ap (λ b. not b && none_twice same xs) (any_holder x xs) ∙ ap (λ b. not (list_any (same_client eqk (holder_of x)) (map holder_of xs)) && b) (once_is xs)

  back_from : (t n : ℕ) (ss : Slots K) → map holder_of (map slot_of (map (kept t) ss ++ replicate n None)) ≡ map (kept t) ss ++ replicate n None
  back_from t zero [] = refl
  back_from t (suc n) [] = ap (λ h. h ∷ map holder_of (map slot_of (replicate n None))) (form.holder_back None) ∙ ap (λ xs. None ∷ xs) (back_from t n [])
  back_from t n (s ∷ ss) = ap (λ h. h ∷ map holder_of (map slot_of (map (kept t) ss ++ replicate n None))) (kept_back t s) ∙ ap (λ xs. kept t s ∷ xs) (back_from t n ss)

  map_twice : (t : ℕ) (xs : List C) → map holder_of (map (live_at t) xs) ≡ map (held t) xs
  map_twice t [] = refl
  map_twice t (x ∷ xs) = ap (λ ys. held t x ∷ ys) (map_twice t xs)

  pub held_none : (t i : ℕ) (xs : List C) → offered_to (get_or (map (held t) xs) i None) ≡ None
  held_none t i [] = refl
  held_none t zero (x ∷ xs) = form.never_offered (live_at t x)
  held_none t (suc i) (x ∷ xs) = held_none t i xs

  module _ {cmpk : K → K → Ordering} (lawk : IsKey eqk cmpk) where
    pub kept_twice : (t : ℕ) (ss : Slots K) (xs : List C) → xs ≡ map slot_of (kept_slots t ss) → AreDistinct eqk ss → none_twice same xs ≡ true
    kept_twice t ss xs e d =
        ap (none_twice same) e ∙ once_is (map slot_of (kept_slots t ss)) ∙ ap (none_twice (same_client eqk)) (back_from t (16 - length ss) ss) ∙ kept_once lawk t ss d

    unoffered_all : (t : ℕ) (xs : List C) → AreUnoffered lawk (map (held t) xs)
    unoffered_all t [] = tt
    unoffered_all t (x ∷ xs) = (form.never_offered (live_at t x), unoffered_all t xs)

    pub held_distinct : (t : ℕ) (xs : List C) → none_twice same (map (live_at t) xs) ≡ true → AreDistinct eqk (map (held t) xs)
    held_distinct t xs once =
        once_distinct lawk (map (held t) xs) (unoffered_all t xs) (ap (none_twice (same_client eqk)) (sym (map_twice t xs)) ∙ sym (once_is (map (live_at t) xs)) ∙ once)

    -- ---- a slot that a client gets

    pub form_given : (t : ℕ) (k : K) (i : ℕ) (new : Option (Holder K)) (ss : Slots K) (c : C) → AreDistinct eqk ss → i < length ss → IsClear lawk t k ss i → slot_of (kept t new) ≡ c
        → map slot_of (kept_slots t (set (without_client eqk k ss) i new)) ≡ set (map slot_of (kept_slots t ss)) i c
    form_given t k i new ss c d below clear is =
        ap (map slot_of) (kept_given lawk t k i new ss d below clear) ∙ map-set slot_of (kept_slots t ss) i (kept t new) ∙ ap (set (map slot_of (kept_slots t ss)) i) is

    -- ---- slots that were kept, again

    pub again_distinct : (t : ℕ) (ss : Slots K) → AreDistinct eqk ss → AreDistinct eqk (map (held t) (map slot_of (kept_slots t ss)))
    again_distinct t ss d =
        let xs = map slot_of (kept_slots t ss) in held_distinct t xs (live_once live_at same t xs (all_live t ss xs refl) (kept_twice t ss xs refl d))

  pub again_at : (t : ℕ) (ss : Slots K) (i : ℕ) → get_or (live_slots t (map (held t) (map slot_of (kept_slots t ss)))) i None ≡ kept t (get_or ss i None)
  again_at t ss i =
      let s = get_or ss i None in
      let xs = map slot_of (kept_slots t ss) in
      get_or-map (live t) (map (held t) xs) i None ∙ ap (live t) (here xs i s (get_or-map slot_of (kept_slots t ss) i None ∙ ap slot_of (kept_at t ss i))) ∙ kept_live t s where
        here : (xs : List C) (i : ℕ) (s : Option (Holder K)) → get_or xs i (slot_of None) ≡ slot_of (kept t s) → get_or (map (held t) xs) i None ≡ kept t s
        here xs i s e =
            let none : held t (slot_of None) ≡ None = ap holder_of (kept_stays t None) ∙ kept_back t None in
            ap (get_or (map (held t) xs) i) (sym none) ∙ get_or-map (held t) xs i (slot_of None) ∙ ap (held t) e ∙ ap holder_of (kept_stays t s) ∙ kept_back t s

  -- ---- a table begins from slots

  -- what is kept of a slot's holder is what the slot has at that clock
  held_stays : (t : ℕ) (c : C) → slot_of (kept t (held t c)) ≡ live_at t c
  held_stays t c =
      let h = held t c in
      let stays : live t h ≡ h = ap (live t) (form.held_is t c) ∙ live_twice t (holder_of c) ∙ sym (form.held_is t c) in
      ap (λ x. slot_of (unoffered x)) stays ∙ ap slot_of (sym (form.holder_back h)) ∙ form.slot_back (slot_of h) ∙ form.slot_back (live_at t c)

  free_from : (t : ℕ) (xs : List C) → ((i : ℕ) → get_or xs i (slot_of None) ≡ slot_of None) → map slot_of (replicate (length xs) None) ≡ map (live_at t) xs
  free_from t [] free = refl
  free_from t (x ∷ xs) free =
      ap (λ c. c ∷ map slot_of (replicate (length xs) None)) (sym (ap (live_at t) (free 0) ∙ kept_stays t None))
      ∙ ap (λ cs. live_at t x ∷ cs) (free_from t xs (λ i. free (suc i)))

  begun_from : (t n : ℕ) (xs : List C) → ((i : ℕ) → n ≤ i → get_or xs i (slot_of None) ≡ slot_of None)
      → map slot_of (map (kept t) (map (held t) (take n xs)) ++ replicate (length xs - n) None) ≡ map (live_at t) xs
  begun_from t zero xs past = ap (λ m. map slot_of (replicate m None)) (omega arith) ∙ free_from t xs (λ i. past i (omega arith))
  begun_from t (suc n) [] past = let none : 0 - suc n ≡ 0 = omega arith in ap (λ m. map slot_of (replicate m None)) none
  begun_from t (suc n) (x ∷ xs) past =
      let rest : ℕ → List C = λ m. map slot_of (map (kept t) (map (held t) (take n xs)) ++ replicate m None) in
      let room : suc (length xs) - suc n ≡ length xs - n = omega arith in
      ap (λ m. slot_of (kept t (held t x)) ∷ rest m) room ∙ ap (λ c. c ∷ rest (length xs - n)) (held_stays t x)
      ∙ ap (λ cs. live_at t x ∷ cs) (begun_from t n xs (λ i h. past (suc i) (omega (arith, h))))

  module _ (xs : List C) (now size t n : ℕ) (ss : Slots K) (clock : t ≡ now) (count : n ≡ size) (e : ss ≡ map (held t) (take n xs)) where
    pub begun_is : ss ≡ take size (map (held now) xs)
    begun_is = e ∙ map_take (held t) n xs ∙ ap (λ c. take n (map (held c) xs)) clock ∙ ap (λ m. take m (map (held now) xs)) count

    pub begun_distinct : {cmpk : K → K → Ordering} → IsKey eqk cmpk → none_twice same (map (live_at now) xs) ≡ true → AreDistinct eqk ss
    begun_distinct lawk once = subst (λ (ys : Slots K). AreDistinct eqk ys) (sym begun_is) (take_distinct lawk size _ (held_distinct lawk now xs once))

    -- what is kept of it is what the slots have at their clock
    pub begun_kept : length xs ≡ 16 → length ss ≡ n → ((i : ℕ) → size ≤ i → get_or xs i (slot_of None) ≡ slot_of None) → map slot_of (kept_slots now ss) ≡ map (live_at now) xs
    begun_kept long sized past =
        let room : 16 - length ss ≡ length xs - size = omega (arith, long, sized, count) in
        ap (λ m. map slot_of (map (kept now) ss ++ replicate m None)) room
        ∙ ap (λ ys. map slot_of (map (kept now) ys ++ replicate (length xs - size) None)) (e ∙ ap (λ c. map (held c) (take n xs)) clock ∙ ap (λ m. map (held now) (take m xs)) count)
        ∙ begun_from now size xs past

    pub begun_within : (P : C → Type 0) → ((c : C) → P c → IsWithin (holder_of c)) → All P xs → AreWithin ss
    begun_within P holder_within w = all_at IsWithin tt ss (λ i. subst (λ (ys : Slots K). IsWithin (get_or ys i None)) (sym e) (by i n xs w)) where
      by : (i n : ℕ) (xs : List C) → All P xs → IsWithin (get_or (map (held t) (take n xs)) i None)
      by i zero xs w = tt
      by i (suc n) [] w = tt
      by zero (suc n) (x ∷ xs) w =
          subst (λ (h : Option (Holder K)). IsWithin h) (sym (form.held_is t x)) (live_within t (holder_of x) (holder_within x (w 0 x (omega arith))))
      by (suc i) (suc n) (x ∷ xs) w = by i n xs (λ k d h. w (suc k) d (omega (arith, h)))

    -- nobody is offered a slot of it
    pub begun_offers : AreOffersWithin ss
    begun_offers = no_offers_within ss (λ i. ap (λ ys. offered_to (get_or ys i None)) e ∙ held_none t i (take n xs))
