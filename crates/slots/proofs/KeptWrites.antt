-- What a written slot makes of what is kept, and of what is live.
use Rattle.std.proofs.Common.{◌≡◌, ◌⊎◌, inl, inr, ℕ, zero, suc, ◌+◌, ◌-◌, ◌<◌, Bool, true, false, cond, [], ◌∷◌, ◌++◌, length, map, replicate, set, get_or, refl, sym, ap, ◌∙◌, arith}
use Rattle.std.specs.Prelude.{Option, Some, None}
use Rattle.std.specs.declared.cmp.Ordering.{Ordering}
use Rattle.std.specs.List.{position, position_from}
use Rattle.std.proofs.lemmas.Iterator.Adapters.{position_from-zero}
use Rattle.std.proofs.lemmas.List.{map-set, length-set, length-map, set-set, set-append_left}
use Rattle.std.proofs.lemmas.List.Quantifiers.{position-Some}
use lib.Seq.{map-set_same}
use Rattle.slots.specs.declared.holder.Holder.{Holder}
use Rattle.slots.specs.declared.holder.Holder.TheVariants.{Bound, Offered, Barred}
use Rattle.slots.specs.Kept.{unoffered, kept, kept_slots}
use Rattle.slots.specs.Key.{IsKey}
use Rattle.slots.specs.Lookup.{live, is_bound_to, is_offered_to}
use Rattle.slots.specs.Maps.{is_live}
use Rattle.slots.specs.Slots.{barred_until, is_clients, AreDistinct, with_vacancy, without_client}
use Rattle.slots.proofs.FitLemmas.{Fit, bound_own, bound_clients, offered_own, offered_clients}
use Rattle.slots.proofs.ShownLemmas.{Slots, not_true, same_is, itself, of_cond, both_same, live_clients_own}
use Rattle.slots.proofs.WriteLemmas.{IsOpen, cleared, first_other}

module _ {K : Type 0} where
  -- it changes where the slot is written
  pub kept_set : (t i : ℕ) (new : Option (Holder K)) (ss : Slots K) → i < length ss → kept_slots t (set ss i new) ≡ set (kept_slots t ss) i (kept t new)
  kept_set t i new ss below =
      ap (λ n. map (kept t) (set ss i new) ++ replicate (16 - n) None) (length-set ss i new)
      ∙ ap (λ xs. xs ++ replicate (16 - length ss) None) (map-set (kept t) ss i new)
      ∙ sym (set-append_left (map (kept t) ss) (replicate (16 - length ss) None) i (kept t new) (omega (arith, below, length-map ss (kept t))))

  -- and nowhere where as much is kept of the slot as before
  pub kept_same : (t i : ℕ) (new : Option (Holder K)) (ss : Slots K) → kept t new ≡ kept t (get_or ss i None) → kept_slots t (set ss i new) ≡ kept_slots t ss
  kept_same t i new ss e =
      ap (λ n. map (kept t) (set ss i new) ++ replicate (16 - n) None) (length-set ss i new)
      ∙ ap (λ xs. xs ++ replicate (16 - length ss) None) (map-set_same (kept t) ss i new None e)

  -- nothing is kept of an offer
  pub offer_unkept : (t : ℕ) (k : K) (u : ℕ) → kept t (Some (Offered k u)) ≡ None
  offer_unkept t k u = of_cond unoffered (is_live t u) (Some (Offered k u)) None ∙ both_same (is_live t u) None

  -- a slot that lasts is kept as it is
  pub kept_bound : (t : ℕ) (k : K) (u : ℕ) → is_live t u ≡ true → kept t (Some (Bound k u)) ≡ Some (Bound k u)
  kept_bound t k u lasts = ap (λ b. unoffered (cond b (Some (Bound k u)) None)) lasts

  pub kept_barred : (t u : ℕ) → is_live t u ≡ true → kept {K = K} t (Some (Barred u)) ≡ Some (Barred u)
  kept_barred t u lasts = ap (λ b. unoffered (cond b (Some (Barred u)) None)) lasts

  -- no slot passes where there is no first one
  none_passes : (test : Option (Holder K) → Bool) → test None ≡ false → (j : ℕ) (ss : Slots K) → position_from test j ss ≡ None → (i : ℕ) → test (get_or ss i None) ≡ false
  none_passes test none j [] e i = none
  none_passes test none j (s ∷ ss) e i = by (test s) refl e (none_passes test none (j + 1) ss) i where
    by : (b : Bool) → test s ≡ b → cond b (Some j) (position_from test (j + 1) ss) ≡ None → (position_from test (j + 1) ss ≡ None → (i : ℕ) → test (get_or ss i None) ≡ false)
        → (i : ℕ) → test (get_or (s ∷ ss) i None) ≡ false
    by true is e rest i = absurd cc
    by false is e rest zero = is
    by false is e rest (suc i) = rest e i

module _ {K : Type 0} {eqk : K → K → Bool} {cmpk : K → K → Ordering} (lawk : IsKey eqk cmpk) where
  -- ---- of a client's slots its live binding alone is kept

  unbound : (t : ℕ) (k : K) (ss : Slots K) → position (is_bound_to eqk t k) ss ≡ None → (i : ℕ) → is_bound_to eqk t k (get_or ss i None) ≡ false
  unbound t k ss none i = none_passes (is_bound_to eqk t k) refl 0 ss (sym (position_from-zero (is_bound_to eqk t k) ss) ∙ none) i

  clients_unkept : (t : ℕ) (k : K) (s : Option (Holder K)) → is_bound_to eqk t k s ≡ false → is_clients eqk k s ≡ true → kept t s ≡ None
  clients_unkept t k None free own = refl
  clients_unkept t k (Some (Bound key u)) free own = by (is_live t u) free where
    by : (b : Bool) → cond b (eqk k key) false ≡ false → unoffered (cond b (Some (Bound key u)) None) ≡ None
    by true free = absurd (not_true (sym free ∙ own))
    by false free = refl
  clients_unkept t k (Some (Offered key u)) free own = offer_unkept t key u
  clients_unkept t k (Some (Barred u)) free own = absurd (not_true own)

  pub offered_unkept : (t : ℕ) (k : K) (ss : Slots K) (i : ℕ) → position (is_offered_to eqk t k) ss ≡ Some i → kept t (get_or ss i None) ≡ None
  offered_unkept t k ss i e = by (get_or ss i None) (offered_own lawk t k ss i e).1 where
    by : (s : Option (Holder K)) → is_offered_to eqk t k s ≡ true → kept t s ≡ None
    by None own = refl
    by (Some (Bound key u)) own = absurd (not_true own)
    by (Some (Offered key u)) own = offer_unkept t key u
    by (Some (Barred u)) own = absurd (not_true own)

  other_way : (q k : K) → eqk k q ≡ false → eqk q k ≡ false
  other_way q k apart = by (eqk q k) refl where
    by : (b : Bool) → eqk q k ≡ b → eqk q k ≡ false
    by true is = absurd (not_true (sym apart ∙ ap (eqk k) (same_is lawk q k is) ∙ itself lawk k))
    by false is = is

  -- a client without a live binding may get a slot of which nothing is kept
  fit_unkept : (t : ℕ) (k : K) (ss : Slots K) (i : ℕ) → Fit lawk t k ss i → position (is_bound_to eqk t k) ss ≡ None → kept t (get_or ss i None) ≡ None
  fit_unkept t k ss i fit none = by (get_or ss i None) fit.mine fit.unbarred (unbound t k ss none i) where
    bound : (key : K) (u : ℕ) (b : Bool) → ((q : K) → eqk q k ≡ false → is_clients eqk q (cond b (Some (Bound key u)) None) ≡ false) → cond b (eqk k key) false ≡ false
        → unoffered (cond b (Some (Bound key u)) None) ≡ None
    bound key u true mine free = absurd (not_true (sym (mine key (other_way key k free)) ∙ itself lawk key))
    bound key u false mine free = refl

    barred : (u : ℕ) (b : Bool) → barred_until {K = K} (cond b (Some (Barred u)) None) ≡ None → unoffered {K = K} (cond b (Some (Barred u)) None) ≡ None
    barred u true bare = absurd cc
    barred u false bare = refl

    by : (s : Option (Holder K)) → IsOpen lawk t k s → barred_until (live t s) ≡ None → is_bound_to eqk t k s ≡ false → kept t s ≡ None
    by None mine bare free = refl
    by (Some (Bound key u)) mine bare free = bound key u (is_live t u) mine free
    by (Some (Offered key u)) mine bare free = offer_unkept t key u
    by (Some (Barred u)) mine bare free = barred u (is_live t u) bare

  -- ---- the slot that a client has

  place_from : (k : K) (j i : ℕ) (ss : Slots K) → AreDistinct eqk ss → is_clients eqk k (get_or ss i None) ≡ true → position_from (is_clients eqk k) j ss ≡ Some (j + i)
  place_from k j i [] d own = absurd (not_true own)
  place_from k j zero (s ∷ ss) d own = ap (λ b. cond b (Some j) (position_from (is_clients eqk k) (j + 1) ss)) own ∙ ap Some (omega arith)
  place_from k j (suc i) (s ∷ ss) d own =
      ap (λ b. cond b (Some j) (position_from (is_clients eqk k) (j + 1) ss)) (first_other lawk k i s ss d own) ∙ place_from k (j + 1) i ss d.1 own ∙ ap Some (omega arith)

  pub place_is : (k : K) (i : ℕ) (ss : Slots K) → AreDistinct eqk ss → is_clients eqk k (get_or ss i None) ≡ true → position (is_clients eqk k) ss ≡ Some i
  place_is k i ss d own = position_from-zero (is_clients eqk k) ss ∙ place_from k 0 i ss d own ∙ ap Some (omega arith)

  -- ---- a client gets a slot

  -- the slot is the client's, or no other slot of the client is kept
  abbrev pub IsClear : ℕ → K → Slots K → ℕ → Type 0
  IsClear t k ss i = (is_clients eqk k (get_or ss i None) ≡ true) ⊎ (position (is_bound_to eqk t k) ss ≡ None)

  pub clear_bound : (t : ℕ) (k : K) (ss : Slots K) (i : ℕ) → position (is_bound_to eqk t k) ss ≡ Some i → IsClear t k ss i
  clear_bound t k ss i e = let s = get_or ss i None in inl (live_clients_own lawk t k s (bound_clients lawk t k s (bound_own lawk t k ss i e).1))

  pub clear_offered : (t : ℕ) (k : K) (ss : Slots K) (i : ℕ) → position (is_offered_to eqk t k) ss ≡ Some i → IsClear t k ss i
  clear_offered t k ss i e = let s = get_or ss i None in inl (live_clients_own lawk t k s (offered_clients lawk t k s (offered_own lawk t k ss i e).1))

  vacated_same : (t : ℕ) (k : K) (ss : Slots K) → position (is_bound_to eqk t k) ss ≡ None → kept_slots t (without_client eqk k ss) ≡ kept_slots t ss
  vacated_same t k ss none = by (position (is_clients eqk k) ss) refl where
    by : (o : Option ℕ) → position (is_clients eqk k) ss ≡ o → kept_slots t (with_vacancy o ss) ≡ kept_slots t ss
    by None e = refl
    by (Some j) e = kept_same t j None ss (sym (clients_unkept t k (get_or ss j None) (unbound t k ss none j) (position-Some (is_clients eqk k) ss j None e).1))

  pub kept_given : (t : ℕ) (k : K) (i : ℕ) (new : Option (Holder K)) (ss : Slots K) → AreDistinct eqk ss → i < length ss → IsClear t k ss i
      → kept_slots t (set (without_client eqk k ss) i new) ≡ set (kept_slots t ss) i (kept t new)
  kept_given t k i new ss d below (inl own) =
      ap (λ o. kept_slots t (set (with_vacancy o ss) i new)) (place_is k i ss d own) ∙ ap (kept_slots t) (set-set ss i None new) ∙ kept_set t i new ss below
  kept_given t k i new ss d below (inr none) =
      kept_set t i new (without_client eqk k ss) (omega (arith, below, (cleared lawk k ss d).same_length)) ∙ ap (λ xs. set xs i (kept t new)) (vacated_same t k ss none)

  -- an offer changes nothing
  pub kept_offered : (t : ℕ) (k : K) (u i : ℕ) (ss : Slots K) → AreDistinct eqk ss → Fit lawk t k ss i → position (is_bound_to eqk t k) ss ≡ None
      → kept_slots t (set (without_client eqk k ss) i (Some (Offered k u))) ≡ kept_slots t ss
  kept_offered t k u i ss d fit none =
      kept_same t i (Some (Offered k u)) (without_client eqk k ss) (offer_unkept t k u ∙ sym (by ((cleared lawk k ss d).slot i))) ∙ vacated_same t k ss none where
        by : (get_or (without_client eqk k ss) i None ≡ None) ⊎ (get_or (without_client eqk k ss) i None ≡ get_or ss i None) → kept t (get_or (without_client eqk k ss) i None) ≡ None
        by (inl e) = ap (kept t) e
        by (inr e) = ap (kept t) e ∙ fit_unkept t k ss i fit none

  -- ---- a client that gets a slot loses no other one that is live

  -- the slot is the client's, or it has no live one
  abbrev pub IsOnly : ℕ → K → Slots K → ℕ → Type 0
  IsOnly t k ss i = (is_clients eqk k (get_or ss i None) ≡ true) ⊎ ((j : ℕ) → is_clients eqk k (get_or ss j None) ≡ true → live t (get_or ss j None) ≡ None)

  pub only_bound : (t : ℕ) (k : K) (ss : Slots K) (i : ℕ) → position (is_bound_to eqk t k) ss ≡ Some i → IsOnly t k ss i
  only_bound t k ss i e = let s = get_or ss i None in inl (live_clients_own lawk t k s (bound_clients lawk t k s (bound_own lawk t k ss i e).1))

  pub only_offered : (t : ℕ) (k : K) (ss : Slots K) (i : ℕ) → position (is_offered_to eqk t k) ss ≡ Some i → IsOnly t k ss i
  only_offered t k ss i e = let s = get_or ss i None in inl (live_clients_own lawk t k s (offered_clients lawk t k s (offered_own lawk t k ss i e).1))

  expired : (t : ℕ) (k : K) (s : Option (Holder K)) → is_bound_to eqk t k s ≡ false → is_offered_to eqk t k s ≡ false → is_clients eqk k s ≡ true → live t s ≡ None
  expired t k None bound offered own = refl
  expired t k (Some (Bound key u)) bound offered own = by (is_live t u) bound where
    by : (b : Bool) → cond b (eqk k key) false ≡ false → cond b (Some (Bound key u)) None ≡ None
    by true free = absurd (not_true (sym free ∙ own))
    by false free = refl
  expired t k (Some (Offered key u)) bound offered own = by (is_live t u) offered where
    by : (b : Bool) → cond b (eqk k key) false ≡ false → cond b (Some (Offered key u)) None ≡ None
    by true free = absurd (not_true (sym free ∙ own))
    by false free = refl
  expired t k (Some (Barred u)) bound offered own = absurd (not_true own)

  pub unoffered_at : (t : ℕ) (k : K) (ss : Slots K) → position (is_offered_to eqk t k) ss ≡ None → (i : ℕ) → is_offered_to eqk t k (get_or ss i None) ≡ false
  unoffered_at t k ss none i = none_passes (is_offered_to eqk t k) refl 0 ss (sym (position_from-zero (is_offered_to eqk t k) ss) ∙ none) i

  pub only_free : (t : ℕ) (k : K) (ss : Slots K) (i : ℕ) → position (is_bound_to eqk t k) ss ≡ None → ((j : ℕ) → is_offered_to eqk t k (get_or ss j None) ≡ false) → IsOnly t k ss i
  only_free t k ss i bound offered = inr (λ j own. expired t k (get_or ss j None) (unbound t k ss bound j) (offered j) own)

  live_vacated : (t : ℕ) (k : K) (ss : Slots K) → ((j : ℕ) → is_clients eqk k (get_or ss j None) ≡ true → live t (get_or ss j None) ≡ None) → map (live t) (without_client eqk k ss) ≡ map (live t) ss
  live_vacated t k ss none = by (position (is_clients eqk k) ss) refl where
    by : (o : Option ℕ) → position (is_clients eqk k) ss ≡ o → map (live t) (with_vacancy o ss) ≡ map (live t) ss
    by None e = refl
    by (Some j) e = map-set_same (live t) ss j None None (sym (none j (position-Some (is_clients eqk k) ss j None e).1))

  pub live_given : (t : ℕ) (k : K) (i : ℕ) (new : Option (Holder K)) (ss : Slots K) → AreDistinct eqk ss → IsOnly t k ss i
      → map (live t) (set (without_client eqk k ss) i new) ≡ map (live t) (set ss i new)
  live_given t k i new ss d (inl own) = ap (λ o. map (live t) (set (with_vacancy o ss) i new)) (place_is k i ss d own) ∙ ap (map (live t)) (set-set ss i None new)
  live_given t k i new ss d (inr none) =
      map-set (live t) (without_client eqk k ss) i new ∙ ap (λ xs. set xs i (live t new)) (live_vacated t k ss none) ∙ sym (map-set (live t) ss i new)
