-- What a written slot makes of the maps that slots show.
use Rattle.std.proofs.Common.{◌≡◌, ◌⊎◌, inl, inr, ℕ, zero, suc, ◌+◌, ◌<◌, Bool, true, false, cond, [], ◌∷◌, ◌++◌, length, take, drop, set, get_or, refl, sym, ap, subst, ◌∙◌, arith}
use Rattle.std.specs.Prelude.{Option, Some, None}
use Rattle.std.specs.declared.cmp.Ordering.{Ordering}
use Rattle.std.specs.List.{position, position_from, refill}
use Rattle.std.proofs.Math.Seq.{take-append_seam}
use Rattle.std.specs.Ordering.{nat_cmp, eq_by_cmp}
use Rattle.std.specs.Cmp.{nat_cmp_total}
use Rattle.std.specs.FinMap.{get, insert, remove, get-insert, get-remove, same_map}
use Rattle.std.proofs.lemmas.Bool.Decides.{nat_tests}
use Rattle.std.proofs.lemmas.Iterator.Adapters.{position_from-zero}
use Rattle.std.proofs.lemmas.List.{map-set, length-set, length-map, get_or-set_same, get_or-set_other}
use Rattle.std.proofs.lemmas.List.Quantifiers.{position-Some}
use Rattle.std.proofs.Math.ListN.{get_or-map}
use Rattle.slots.specs.declared.holder.Holder.{Holder}
use Rattle.slots.specs.declared.holder.Holder.TheVariants.{Bound, Offered, Barred}
use Rattle.slots.specs.Key.{IsKey}
use Rattle.slots.specs.Lookup.{live}
use Rattle.slots.specs.Maps.{is_live}
use Rattle.slots.specs.Slots.{barred_until, leases, bars_of, is_clients, IsWithout, AreDistinct, with_vacancy, without_client, with_slot}
use Rattle.slots.proofs.ShownLemmas.{Slots, Lessee, at, not_true, same_is, live_slots, distinct_live, without_live, live_clients_only, hits, IsSort, hit, missed, got, get-leases, got_none, bars_below, bars_at, bar_other, same_bars}

module _ {K : Type 0} where
  -- a slot of a list that is written
  slot_set : (ss : Slots K) (i j : ℕ) (new : Option (Holder K)) → (get_or (set ss j new) i None ≡ new) ⊎ (get_or (set ss j new) i None ≡ get_or ss i None)
  slot_set [] i j new = inr refl
  slot_set (s ∷ ss) zero zero new = inl refl
  slot_set (s ∷ ss) (suc i) zero new = inr refl
  slot_set (s ∷ ss) zero (suc j) new = inr refl
  slot_set (s ∷ ss) (suc i) (suc j) new = slot_set ss i j new

  bar_set : (f : Option (Holder K) → Option ℕ) (ss : Slots K) (i j : ℕ) (new : Option (Holder K)) → f new ≡ f (get_or ss j None) → f (get_or (set ss j new) i None) ≡ f (get_or ss i None)
  bar_set f [] i j new e = refl
  bar_set f (s ∷ ss) zero zero new e = e
  bar_set f (s ∷ ss) (suc i) zero new e = refl
  bar_set f (s ∷ ss) zero (suc j) new e = refl
  bar_set f (s ∷ ss) (suc i) (suc j) new e = bar_set f ss i j new e

  no_bar_live : (t : ℕ) (s : Option (Holder K)) → barred_until s ≡ None → barred_until (live t s) ≡ None
  no_bar_live t None e = refl
  no_bar_live t (Some (Bound k u)) e = by (is_live t u) where
    by : (b : Bool) → barred_until (cond b (Some (Bound k u)) None) ≡ None
    by true = refl
    by false = refl
  no_bar_live t (Some (Offered k u)) e = by (is_live t u) where
    by : (b : Bool) → barred_until (cond b (Some (Offered k u)) None) ≡ None
    by true = refl
    by false = refl
  no_bar_live t (Some (Barred u)) e = absurd cc

  -- slots with the same bars
  bars_by : (t a : ℕ) (xs ys : Slots K) → ((j : ℕ) → barred_until (live t (get_or xs j None)) ≡ barred_until (live t (get_or ys j None))) → bars_of a (live_slots t xs) ≡ bars_of a (live_slots t ys)
  bars_by t a xs ys same =
      same_bars a _ _
      (λ x h. bars_below x a (live_slots t xs) h ∙ sym (bars_below x a (live_slots t ys) h))
      (λ j.
      bars_at a j (live_slots t xs) ∙ ap barred_until (get_or-map (live t) xs j None) ∙ same j
      ∙ ap barred_until (sym (get_or-map (live t) ys j None)) ∙ sym (bars_at a j (live_slots t ys)))

  same_refill : (n : ℕ) (xs ys : Slots K) → n ≡ length ys → refill n xs ys ≡ ys
  same_refill n xs ys e = ap (λ m. take m (ys ++ drop (length ys) xs)) e ∙ take-append_seam ys (drop (length ys) xs)

module _ {K : Type 0} {eqk : K → K → Bool} {cmpk : K → K → Ordering} (lawk : IsKey eqk cmpk) where
  -- ---- one slot of a list

  -- who has neither the old holder nor the new one sees no change
  got_apart : (f : Option (Holder K) → Lessee K) (q : K) (a i : ℕ) (new : Option (Holder K)) (ss : Slots K) → hits eqk q (f (get_or ss i None)) ≡ false → hits eqk q (f new) ≡ false
      → got eqk f q a (set ss i new) ≡ got eqk f q a ss
  got_apart f q a i new [] old_apart new_apart = refl
  got_apart f q a zero new (s ∷ ss) old_apart new_apart =
      missed lawk q a (f new) (got eqk f q (a + 1) ss) new_apart ∙ sym (missed lawk q a (f s) (got eqk f q (a + 1) ss) old_apart)
  got_apart f q a (suc i) new (s ∷ ss) old_apart new_apart = ap (hit eqk q a (f s)) (got_apart f q (a + 1) i new ss old_apart new_apart)

  -- who has no slot has the new one alone
  got_own : (f : Option (Holder K) → Lessee K) → IsSort eqk f → (q : K) (a i : ℕ) (new : Option (Holder K)) (ss : Slots K) → i < length ss → IsWithout eqk q ss
      → got eqk f q a (set ss i new) ≡ hit eqk q (a + i) (f new) None
  got_own f sort q a i new [] there w = absurd (omega (arith, there))
  got_own f sort q a zero new (s ∷ ss) there w =
      ap (hit eqk q a (f new)) (got_none lawk f sort q (a + 1) ss w.1) ∙ ap (λ x. hit eqk q x (f new) None) (omega arith)
  got_own f sort q a (suc i) new (s ∷ ss) there w =
      missed lawk q a (f s) (got eqk f q (a + 1) (set ss i new)) (sort.other q s w.0) ∙ got_own f sort q (a + 1) i new ss (omega (arith, there)) w.1
      ∙ ap (λ x. hit eqk q x (f new) None) (omega arith)

  without_set : (q : K) (i : ℕ) (new : Option (Holder K)) (ss : Slots K) → IsWithout eqk q ss → is_clients eqk q new ≡ false → IsWithout eqk q (set ss i new)
  without_set q i new [] w apart = tt
  without_set q zero new (s ∷ ss) w apart = (apart, w.1)
  without_set q (suc i) new (s ∷ ss) w apart = (w.0, without_set q i new ss w.1 apart)

  without_at : (q : K) (i : ℕ) (ss : Slots K) → IsWithout eqk q ss → is_clients eqk q (get_or ss i None) ≡ false
  without_at q i [] w = refl
  without_at q zero (s ∷ ss) w = w.0
  without_at q (suc i) (s ∷ ss) w = without_at q i ss w.1

  -- a slot that nobody else's client gets
  distinct_set : (i : ℕ) (new : Option (Holder K)) (ss : Slots K) → AreDistinct eqk ss → ((q : K) → is_clients eqk q new ≡ true → IsWithout eqk q ss) → AreDistinct eqk (set ss i new)
  distinct_set i new [] d only = tt
  distinct_set zero new (s ∷ ss) d only = (λ q e. (only q e).1, d.1)
  distinct_set (suc i) new (s ∷ ss) d only =
      (λ q e. without_set q i new ss (d.0 q e) (by q e (is_clients eqk q new) refl), distinct_set i new ss d.1 (λ q e. (only q e).1)) where
        by : (q : K) → is_clients eqk q s ≡ true → (b : Bool) → is_clients eqk q new ≡ b → is_clients eqk q new ≡ false
        by q e true is = absurd (not_true (sym (only q is).0 ∙ e))
        by q e false is = is

  -- the slot before a client's is not the client's
  pub first_other : (q : K) (i : ℕ) (s : Option (Holder K)) (ss : Slots K) → AreDistinct eqk (s ∷ ss) → is_clients eqk q (get_or ss i None) ≡ true → is_clients eqk q s ≡ false
  first_other q i s ss d own = by (is_clients eqk q s) refl where
    by : (b : Bool) → is_clients eqk q s ≡ b → is_clients eqk q s ≡ false
    by true is = absurd (not_true (sym (without_at q i ss (d.0 q is)) ∙ own))
    by false is = is

  -- where a client's slot is vacated, it has none
  pub sole : (q : K) (i : ℕ) (new : Option (Holder K)) (ss : Slots K) → AreDistinct eqk ss → is_clients eqk q (get_or ss i None) ≡ true → is_clients eqk q new ≡ false → IsWithout eqk q (set ss i new)
  sole q i new [] d own apart = tt
  sole q zero new (s ∷ ss) d own apart = (apart, d.0 q own)
  sole q (suc i) new (s ∷ ss) d own apart = (first_other q i s ss d own, sole q i new ss d.1 own apart)

  -- a slot is at most one client's
  pub one_client : (q k : K) (s : Option (Holder K)) → is_clients eqk k s ≡ true → eqk q k ≡ false → is_clients eqk q s ≡ false
  one_client q k None own apart = refl
  one_client q k (Some (Bound key u)) own apart = ap (eqk q) (sym (same_is lawk k key own)) ∙ apart
  one_client q k (Some (Offered key u)) own apart = ap (eqk q) (sym (same_is lawk k key own)) ∙ apart
  one_client q k (Some (Barred u)) own apart = refl

  pub clients_no_bar : (k : K) (s : Option (Holder K)) → is_clients eqk k s ≡ true → barred_until s ≡ None
  clients_no_bar k None own = refl
  clients_no_bar k (Some (Bound key u)) own = refl
  clients_no_bar k (Some (Offered key u)) own = refl
  clients_no_bar k (Some (Barred u)) own = absurd (not_true own)

  -- ---- a client's slot is vacated

  pub record IsCleared (k : K) (ss cs : Slots K) : Type 0 where
    pub same_length : length cs ≡ length ss
    pub gone : IsWithout eqk k cs
    pub distinct : AreDistinct eqk cs
    pub slot : (i : ℕ) → (get_or cs i None ≡ None) ⊎ (get_or cs i None ≡ get_or ss i None)
    pub bar : (t i : ℕ) → barred_until (live t (get_or cs i None)) ≡ barred_until (live t (get_or ss i None))
    pub others : (f : Option (Holder K) → Lessee K) → IsSort eqk f → (t : ℕ) (q : K) (a : ℕ) → eqk q k ≡ false → got eqk f q a (live_slots t cs) ≡ got eqk f q a (live_slots t ss)

  nowhere : (k : K) (j : ℕ) (ss : Slots K) → position_from (is_clients eqk k) j ss ≡ None → IsWithout eqk k ss
  nowhere k j [] e = tt
  nowhere k j (s ∷ ss) e = by (is_clients eqk k s) refl e (nowhere k (j + 1) ss) where
    by : (b : Bool) → is_clients eqk k s ≡ b → cond b (Some j) (position_from (is_clients eqk k) (j + 1) ss) ≡ None
        → (position_from (is_clients eqk k) (j + 1) ss ≡ None → IsWithout eqk k ss) → (is_clients eqk k s ≡ false) × IsWithout eqk k ss
    by true is e rest = absurd cc
    by false is e rest = (is, rest e)

  pub cleared : (k : K) (ss : Slots K) → AreDistinct eqk ss → IsCleared k ss (without_client eqk k ss)
  cleared k ss d = by (position (is_clients eqk k) ss) refl where
    by : (o : Option ℕ) → position (is_clients eqk k) ss ≡ o → IsCleared k ss (with_vacancy o ss)
    by None e =
        record {
          same_length = refl;
          gone = nowhere k 0 ss (sym (position_from-zero (is_clients eqk k) ss) ∙ e);
          distinct = d;
          slot = λ i. inr refl;
          bar = λ t i. refl;
          others = λ f sort t q a apart. refl;
        }
    by (Some j) e =
        let own : is_clients eqk k (get_or ss j None) ≡ true = (position-Some (is_clients eqk k) ss j None e).1 in
        record {
          same_length = length-set ss j None;
          gone = sole k j None ss d own refl;
          distinct = distinct_set j None ss d (λ q h. absurd (not_true h));
          slot = λ i. slot_set ss i j None;
          bar = λ t i. bar_set (λ s. barred_until (live t s)) ss i j None (sym (no_bar_live t (get_or ss j None) (clients_no_bar k (get_or ss j None) own)));
          others = λ f sort t q a apart.
              ap (got eqk f q a) (map-set (live t) ss j None)
              ∙ got_apart f q a j None (live_slots t ss)
              (ap (λ s. hits eqk q (f s)) (get_or-map (live t) ss j None) ∙ sort.other q (live t (get_or ss j None)) (live_clients_only lawk t q (get_or ss j None) (one_client q k (get_or ss j None) own apart)))
              (sort.other q None refl);
        }

  -- what a map without the client's lease has
  removed : (f : Option (Holder K) → Lessee K) (k q : K) (a : ℕ) (ss : Slots K) → cond (eqk q k) None (got eqk f q a ss) ≡ get (remove (leases cmpk f a ss) k) q
  removed f k q a ss =
      ap (cond (eqk q k) None) (sym (get-leases lawk f q a ss)) ∙ ap (λ b. cond b None (get (leases cmpk f a ss) q)) (sym (lawk.agrees q k))
      ∙ sym (get-remove lawk.total (leases cmpk f a ss) k q)

  -- ---- a slot that is written keeps the slots a pool's

  abbrev Only : K → Option (Holder K) → Type 0
  Only k new = (q : K) → is_clients eqk q new ≡ true → q ≡ k

  distinct_new : (k : K) (i : ℕ) (new : Option (Holder K)) (ss : Slots K) → AreDistinct eqk ss → Only k new → AreDistinct eqk (set (without_client eqk k ss) i new)
  distinct_new k i new ss d only =
      let c = cleared k ss d in
      distinct_set i new (without_client eqk k ss) c.distinct (λ q e. subst (λ p. IsWithout eqk p (without_client eqk k ss)) (sym (only q e)) c.gone)

  pub distinct_slot : (i : ℕ) (new : Option (Holder K)) (ss : Slots K) → AreDistinct eqk ss → AreDistinct eqk (with_slot eqk i new ss)
  distinct_slot i None ss d = distinct_set i None ss d (λ q e. absurd (not_true e))
  distinct_slot i (Some (Bound k u)) ss d = distinct_new k i (Some (Bound k u)) ss d (λ q e. same_is lawk q k e)
  distinct_slot i (Some (Offered k u)) ss d = distinct_new k i (Some (Offered k u)) ss d (λ q e. same_is lawk q k e)
  distinct_slot i (Some (Barred u)) ss d = distinct_set i (Some (Barred u)) ss d (λ q e. absurd (not_true e))

  pub length_slot : (i : ℕ) (new : Option (Holder K)) (ss : Slots K) → AreDistinct eqk ss → length (with_slot eqk i new ss) ≡ length ss
  length_slot i None ss d = length-set ss i None
  length_slot i (Some (Bound k u)) ss d = length-set (without_client eqk k ss) i (Some (Bound k u)) ∙ (cleared k ss d).same_length
  length_slot i (Some (Offered k u)) ss d = length-set (without_client eqk k ss) i (Some (Offered k u)) ∙ (cleared k ss d).same_length
  length_slot i (Some (Barred u)) ss d = length-set ss i (Some (Barred u))

  -- what is written is written whole
  pub written_whole : (i : ℕ) (holder : Option (Holder K)) (ss new : Slots K) → AreDistinct eqk ss → new ≡ with_slot eqk i holder ss → refill (length ss) ss new ≡ new
  written_whole i holder ss new d e = same_refill (length ss) ss new (sym (ap length e ∙ length_slot i holder ss d))

  pub distinct_written : (i : ℕ) (holder : Option (Holder K)) (ss new : Slots K) → AreDistinct eqk ss → new ≡ with_slot eqk i holder ss → AreDistinct eqk (refill (length ss) ss new)
  distinct_written i holder ss new d e = subst (λ (xs : Slots K). AreDistinct eqk xs) (sym (written_whole i holder ss new d e ∙ e)) (distinct_slot i holder ss d)

  -- ---- a client gets a slot that nobody else has

  -- a slot that is not another client's
  abbrev pub IsOpen : ℕ → K → Option (Holder K) → Type 0
  IsOpen t k s = (q : K) → eqk q k ≡ false → is_clients eqk q (live t s) ≡ false

  module _ (t : ℕ) (k : K) (i : ℕ) (new : Option (Holder K)) (ss : Slots K) (d : AreDistinct eqk ss) (there : i < length ss) (mine : IsOpen t k (get_or ss i None))
      (only : (q : K) → eqk q k ≡ false → is_clients eqk q new ≡ false) where
    abbrev pub cs : Slots K
    cs = without_client eqk k ss

    open_cleared : (q : K) → eqk q k ≡ false → is_clients eqk q (live t (get_or cs i None)) ≡ false
    open_cleared q apart = by ((cleared k ss d).slot i) where
      by : (get_or cs i None ≡ None) ⊎ (get_or cs i None ≡ get_or ss i None) → is_clients eqk q (live t (get_or cs i None)) ≡ false
      by (inl e) = ap (λ s. is_clients eqk q (live t s)) e
      by (inr e) = ap (λ s. is_clients eqk q (live t s)) e ∙ mine q apart

    within : i < length (live_slots t cs)
    within = omega (arith, there, (cleared k ss d).same_length, length-map cs (live t))

    -- the client has the new lease, and all others what they had
    pub got_new : (f : Option (Holder K) → Lessee K) → IsSort eqk f → (q : K) (a : ℕ)
        → got eqk f q a (live_slots t (set cs i new)) ≡ cond (eqk q k) (hit eqk q (a + i) (f (live t new)) None) (got eqk f q a (live_slots t ss))
    got_new f sort q a =
        ap (got eqk f q a) (map-set (live t) cs i new) ∙ by (eqk q k) refl where
          by : (b : Bool) → eqk q k ≡ b → got eqk f q a (set (live_slots t cs) i (live t new)) ≡ cond b (hit eqk q (a + i) (f (live t new)) None) (got eqk f q a (live_slots t ss))
          by true is =
              let gone : IsWithout eqk q cs = subst (λ p. IsWithout eqk p cs) (sym (same_is lawk q k is)) (cleared k ss d).gone in
              got_own f sort q a i (live t new) (live_slots t cs) within (without_live lawk t q cs gone)
          by false is =
              got_apart f q a i (live t new) (live_slots t cs)
              (ap (λ s. hits eqk q (f s)) (get_or-map (live t) cs i None) ∙ sort.other q (live t (get_or cs i None)) (open_cleared q is))
              (sort.other q (live t new) (live_clients_only lawk t q new (only q is)))
              ∙ (cleared k ss d).others f sort t q a is

    -- a map of leases cmpk in which the client has none before and after
    pub leases_kept : (f : Option (Holder K) → Lessee K) → IsSort eqk f → (a : ℕ) → f (live t new) ≡ None → get (leases cmpk f a (live_slots t ss)) k ≡ None
        → leases cmpk f a (live_slots t (set cs i new)) ≡ leases cmpk f a (live_slots t ss)
    leases_kept f sort a none before =
        same_map lawk.total lawk.exact _ _ (λ q.
        get-leases lawk f q a (live_slots t (set cs i new)) ∙ got_new f sort q a ∙ ap (λ l. cond (eqk q k) (hit eqk q (a + i) l None) (got eqk f q a (live_slots t ss))) none
        ∙ by q (eqk q k) refl ∙ sym (get-leases lawk f q a (live_slots t ss))) where
          by : (q : K) (b : Bool) → eqk q k ≡ b → cond b None (got eqk f q a (live_slots t ss)) ≡ got eqk f q a (live_slots t ss)
          by q true is = sym (ap (λ p. got eqk f p a (live_slots t ss)) (same_is lawk q k is) ∙ sym (get-leases lawk f k a (live_slots t ss)) ∙ before)
          by q false is = refl

    -- one in which the client has the new lease
    pub leases_with : (f : Option (Holder K) → Lessee K) → IsSort eqk f → (a u : ℕ) → f (live t new) ≡ Some (k, u)
        → leases cmpk f a (live_slots t (set cs i new)) ≡ insert (leases cmpk f a (live_slots t ss)) k (at (a + i) u)
    leases_with f sort a u some =
        same_map lawk.total lawk.exact _ _ (λ q.
        get-leases lawk f q a (live_slots t (set cs i new)) ∙ got_new f sort q a ∙ ap (λ l. cond (eqk q k) (hit eqk q (a + i) l None) (got eqk f q a (live_slots t ss))) some
        ∙ by q (eqk q k) ∙ ap (cond (eqk q k) (Some (at (a + i) u))) (sym (get-leases lawk f q a (live_slots t ss)))
        ∙ ap (λ b. cond b (Some (at (a + i) u)) (get (leases cmpk f a (live_slots t ss)) q)) (sym (lawk.agrees q k))
        ∙ sym (get-insert lawk.total (leases cmpk f a (live_slots t ss)) k (at (a + i) u) q)) where
          by : (q : K) (b : Bool) → cond b (cond b (Some (at (a + i) u)) None) (got eqk f q a (live_slots t ss)) ≡ cond b (Some (at (a + i) u)) (got eqk f q a (live_slots t ss))
          by q true = refl
          by q false = refl

    -- one in which the client has none any more
    pub leases_gone : (f : Option (Holder K) → Lessee K) → IsSort eqk f → (a : ℕ) → f (live t new) ≡ None
        → leases cmpk f a (live_slots t (set cs i new)) ≡ remove (leases cmpk f a (live_slots t ss)) k
    leases_gone f sort a none =
        same_map lawk.total lawk.exact _ _ (λ q.
        get-leases lawk f q a (live_slots t (set cs i new)) ∙ got_new f sort q a ∙ ap (λ l. cond (eqk q k) (hit eqk q (a + i) l None) (got eqk f q a (live_slots t ss))) none
        ∙ removed f k q a (live_slots t ss))

    -- bars, where the slot had none and has none
    pub bars_kept : (a : ℕ) → barred_until (live t new) ≡ None → barred_until (live t (get_or ss i None)) ≡ None → bars_of a (live_slots t (set cs i new)) ≡ bars_of a (live_slots t ss)
    bars_kept a none before =
        bars_by t a (set cs i new) ss (λ j.
        bar_set (λ s. barred_until (live t s)) cs j i new (none ∙ sym ((cleared k ss d).bar t i ∙ before)) ∙ (cleared k ss d).bar t j)

  -- ---- a client loses its slot, and nobody gets it

  -- a client has one slot, and so no lease of another sort
  pub other_sort : (f : Option (Holder K) → Lessee K) → IsSort eqk f → (k : K) (a i : ℕ) (ss : Slots K) → AreDistinct eqk ss → is_clients eqk k (get_or ss i None) ≡ true → hits eqk k (f (get_or ss i None)) ≡ false
      → got eqk f k a ss ≡ None
  other_sort f sort k a i [] d own other = refl
  other_sort f sort k a zero (s ∷ ss) d own other = missed lawk k a (f s) (got eqk f k (a + 1) ss) other ∙ got_none lawk f sort k (a + 1) ss (d.0 k own)
  other_sort f sort k a (suc i) (s ∷ ss) d own other =
      missed lawk k a (f s) (got eqk f k (a + 1) ss) (sort.other k s (first_other k i s ss d own)) ∙ other_sort f sort k (a + 1) i ss d.1 own other

  module _ (t : ℕ) (k : K) (i : ℕ) (new : Option (Holder K)) (ss : Slots K) (d : AreDistinct eqk ss) (own : is_clients eqk k (live t (get_or ss i None)) ≡ true)
      (nobody : (q : K) → is_clients eqk q new ≡ false) where
    own_live : is_clients eqk k (get_or (live_slots t ss) i None) ≡ true
    own_live = ap (is_clients eqk k) (get_or-map (live t) ss i None) ∙ own

    pub got_without : (f : Option (Holder K) → Lessee K) → IsSort eqk f → (q : K) (a : ℕ) → got eqk f q a (live_slots t (set ss i new)) ≡ cond (eqk q k) None (got eqk f q a (live_slots t ss))
    got_without f sort q a =
        ap (got eqk f q a) (map-set (live t) ss i new) ∙ by (eqk q k) refl where
          by : (b : Bool) → eqk q k ≡ b → got eqk f q a (set (live_slots t ss) i (live t new)) ≡ cond b None (got eqk f q a (live_slots t ss))
          by true is =
              let w : IsWithout eqk k (set (live_slots t ss) i (live t new)) = sole k i (live t new) (live_slots t ss) (distinct_live lawk t ss d) own_live (live_clients_only lawk t k new (nobody k)) in
              got_none lawk f sort q a (set (live_slots t ss) i (live t new)) (subst (λ p. IsWithout eqk p (set (live_slots t ss) i (live t new))) (sym (same_is lawk q k is)) w)
          by false is =
              got_apart f q a i (live t new) (live_slots t ss)
              (ap (λ s. hits eqk q (f s)) (get_or-map (live t) ss i None) ∙ sort.other q (live t (get_or ss i None)) (one_client q k (live t (get_or ss i None)) own is))
              (sort.other q (live t new) (live_clients_only lawk t q new (nobody q)))

    -- the sort of its lease
    pub leases_without : (f : Option (Holder K) → Lessee K) → IsSort eqk f → (a : ℕ) → leases cmpk f a (live_slots t (set ss i new)) ≡ remove (leases cmpk f a (live_slots t ss)) k
    leases_without f sort a =
        same_map lawk.total lawk.exact _ _ (λ q.
        get-leases lawk f q a (live_slots t (set ss i new)) ∙ got_without f sort q a ∙ removed f k q a (live_slots t ss))

    -- the other sort
    pub leases_same : (f : Option (Holder K) → Lessee K) → IsSort eqk f → (a : ℕ) → hits eqk k (f (live t (get_or ss i None))) ≡ false → leases cmpk f a (live_slots t (set ss i new)) ≡ leases cmpk f a (live_slots t ss)
    leases_same f sort a other =
        same_map lawk.total lawk.exact _ _ (λ q.
        get-leases lawk f q a (live_slots t (set ss i new)) ∙ got_without f sort q a ∙ by q (eqk q k) refl ∙ sym (get-leases lawk f q a (live_slots t ss))) where
          by : (q : K) (b : Bool) → eqk q k ≡ b → cond b None (got eqk f q a (live_slots t ss)) ≡ got eqk f q a (live_slots t ss)
          by q true is =
              sym (ap (λ p. got eqk f p a (live_slots t ss)) (same_is lawk q k is)
              ∙ other_sort f sort k a i (live_slots t ss) (distinct_live lawk t ss d) own_live (ap (λ s. hits eqk k (f s)) (get_or-map (live t) ss i None) ∙ other))
          by q false is = refl

    pub bars_same : (a : ℕ) → barred_until (live t new) ≡ None → bars_of a (live_slots t (set ss i new)) ≡ bars_of a (live_slots t ss)
    bars_same a none =
        bars_by t a (set ss i new) ss (λ j.
        bar_set (λ s. barred_until (live t s)) ss j i new (none ∙ sym (clients_no_bar k (live t (get_or ss i None)) own)))

    pub bars_with : (a u : ℕ) → i < length ss → barred_until (live t new) ≡ Some u → bars_of a (live_slots t (set ss i new)) ≡ insert (bars_of a (live_slots t ss)) (a + i) u
    bars_with a u there some =
        same_bars a _ _
        (λ x h.
        bars_below x a (live_slots t (set ss i new)) h
        ∙ sym (get-insert nat_cmp_total (bars_of a (live_slots t ss)) (a + i) u x ∙ bar_other x (a + i) (Some u) _ (λ e. omega (arith, e, h)) ∙ bars_below x a (live_slots t ss) h))
        (λ j.
        bars_at a j (live_slots t (set ss i new)) ∙ ap barred_until (get_or-map (live t) (set ss i new) j None) ∙ by j (eq_by_cmp nat_cmp (a + j) (a + i)) refl
        ∙ sym (get-insert nat_cmp_total (bars_of a (live_slots t ss)) (a + i) u (a + j))) where
          by : (j : ℕ) (b : Bool) → eq_by_cmp nat_cmp (a + j) (a + i) ≡ b
              → barred_until (live t (get_or (set ss i new) j None)) ≡ cond b (Some u) (get (bars_of a (live_slots t ss)) (a + j))
          by j true is =
              let same : j ≡ i = grind (arith, nat_tests) in
              ap (λ n. barred_until (live t (get_or (set ss i new) n None))) same ∙ ap (λ s. barred_until (live t s)) (get_or-set_same ss i new None there) ∙ some
          by j false is =
              let other : j ≡ i → ⊥ = λ e. grind (arith, nat_tests) in
              ap (λ s. barred_until (live t s)) (get_or-set_other ss i j new None other)
              ∙ ap barred_until (sym (get_or-map (live t) ss j None)) ∙ sym (bars_at a j (live_slots t ss))
