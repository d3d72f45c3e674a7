-- A slot that a client may get is no other client's, and not barred.
use Rattle.std.proofs.Common.{◌≡◌, ℕ, ◌-◌, ◌<◌, Bool, true, false, not, cond, length, get_or, refl, ap, subst, ◌∙◌}
use Rattle.std.specs.Prelude.{Option, Some, None}
use Rattle.std.specs.declared.cmp.Ordering.{Ordering}
use Rattle.std.specs.List.{position}
use Rattle.std.proofs.lemmas.List.Quantifiers.{position-Some}
use Rattle.std.specs.Option.{option_or}
use Rattle.slots.specs.declared.holder.Holder.{Holder}
use Rattle.slots.specs.Key.{IsKey}
use Rattle.slots.specs.Lookup.{until_of, live, is_vacant, is_bound_to, is_offered_to, slot_in, where_vacant, picked_slot}
use Rattle.slots.specs.Maps.{is_live, in_range}
use Rattle.slots.specs.Slots.{barred_until, is_clients}
use Rattle.slots.proofs.FreeLemmas.{bound_test, offered_test, within}
use Rattle.slots.proofs.ShownLemmas.{Slots, bound_sort, offered_sort}
use Rattle.slots.proofs.WriteLemmas.{one_client, clients_no_bar, IsOpen}

module _ {K : Type 0} {eqk : K → K → Bool} {cmpk : K → K → Ordering} (lawk : IsKey eqk cmpk) where
  pub record Fit (t : ℕ) (k : K) (ss : Slots K) (i : ℕ) : Type 0 where
    pub below : i < length ss
    pub mine : IsOpen lawk t k (get_or ss i None)
    pub unbarred : barred_until (live t (get_or ss i None)) ≡ None

  -- ---- a slot that the client has

  fit_own : (t : ℕ) (k : K) (ss : Slots K) (i : ℕ) → i < length ss → is_clients eqk k (live t (get_or ss i None)) ≡ true → Fit t k ss i
  fit_own t k ss i below own =
      let s = live t (get_or ss i None) in
      record { below = below; mine = λ q apart. one_client lawk q k s own apart; unbarred = clients_no_bar lawk k s own }

  pub bound_own : (t : ℕ) (k : K) (ss : Slots K) (i : ℕ) → position (is_bound_to eqk t k) ss ≡ Some i → (i < length ss) × (is_bound_to eqk t k (get_or ss i None) ≡ true)
  bound_own t k ss i e = let p = position-Some (is_bound_to eqk t k) ss i None e in (p.0, p.1)

  pub offered_own : (t : ℕ) (k : K) (ss : Slots K) (i : ℕ) → position (is_offered_to eqk t k) ss ≡ Some i → (i < length ss) × (is_offered_to eqk t k (get_or ss i None) ≡ true)
  offered_own t k ss i e = let p = position-Some (is_offered_to eqk t k) ss i None e in (p.0, p.1)

  pub bound_clients : (t : ℕ) (k : K) (s : Option (Holder K)) → is_bound_to eqk t k s ≡ true → is_clients eqk k (live t s) ≡ true
  bound_clients t k s e = (bound_sort lawk).own k (live t s) (bound_test lawk t k s ∙ e)

  pub offered_clients : (t : ℕ) (k : K) (s : Option (Holder K)) → is_offered_to eqk t k s ≡ true → is_clients eqk k (live t s) ≡ true
  offered_clients t k s e = (offered_sort lawk).own k (live t s) (offered_test lawk t k s ∙ e)

  pub fit_bound : (t : ℕ) (k : K) (ss : Slots K) (i : ℕ) → position (is_bound_to eqk t k) ss ≡ Some i → Fit t k ss i
  fit_bound t k ss i e = let p = bound_own t k ss i e in fit_own t k ss i p.0 (bound_clients t k (get_or ss i None) p.1)

  pub fit_offered : (t : ℕ) (k : K) (ss : Slots K) (i : ℕ) → position (is_offered_to eqk t k) ss ≡ Some i → Fit t k ss i
  fit_offered t k ss i e = let p = offered_own t k ss i e in fit_own t k ss i p.0 (offered_clients t k (get_or ss i None) p.1)

  -- ---- a vacant slot

  vacant_live : (t : ℕ) (s : Option (Holder K)) → is_vacant t s ≡ true → live t s ≡ None
  vacant_live t None e = refl
  vacant_live t (Some h) e = by (is_live t (until_of h)) e where
    by : (b : Bool) → not b ≡ true → cond b (Some h) None ≡ None
    by true e = absurd cc
    by false e = refl

  fit_vacant : (t : ℕ) (k : K) (ss : Slots K) (i : ℕ) → i < length ss → is_vacant t (get_or ss i None) ≡ true → Fit t k ss i
  fit_vacant t k ss i below vacant =
      let e = vacant_live t (get_or ss i None) vacant in record { below = below; mine = λ q apart. ap (is_clients eqk q) e; unbarred = ap barred_until e }

  fit_first : (t : ℕ) (k : K) (ss : Slots K) (i : ℕ) → position (is_vacant t) ss ≡ Some i → Fit t k ss i
  fit_first t k ss i e = let p = position-Some (is_vacant t) ss i None e in fit_vacant t k ss i p.0 p.1

  fit_at : (t : ℕ) (k : K) (ss : Slots K) (i j : ℕ) → j < length ss → where_vacant t ss (Some j) ≡ Some i → Fit t k ss i
  fit_at t k ss i j below e = by (is_vacant t (get_or ss j None)) refl e where
    by : (b : Bool) → is_vacant t (get_or ss j None) ≡ b → cond b (Some j) None ≡ Some i → Fit t k ss i
    by true vacant e = let same : j ≡ i = cc in subst (λ n. Fit t k ss n) same (fit_vacant t k ss j below vacant)
    by false vacant e = absurd cc

  fit_wanted : (t a : ℕ) (k : K) (ss : Slots K) (wanted : Option ℕ) (i : ℕ) → where_vacant t ss (slot_in a (length ss) wanted) ≡ Some i → Fit t k ss i
  fit_wanted t a k ss None i e = absurd cc
  fit_wanted t a k ss (Some x) i e = by (in_range a (length ss) x) refl e where
    by : (b : Bool) → in_range a (length ss) x ≡ b → where_vacant t ss (cond b (Some (x - a)) None) ≡ Some i → Fit t k ss i
    by true inside e = fit_at t k ss i (x - a) (within a (length ss) x inside).1 e
    by false outside e = absurd cc

  -- ---- the pick

  pub fit_picked : (t a : ℕ) (k : K) (ss : Slots K) (held wanted : Option ℕ) (i : ℕ) → ((j : ℕ) → held ≡ Some j → Fit t k ss j)
      → picked_slot t ss held (slot_in a (length ss) wanted) ≡ Some i → Fit t k ss i
  fit_picked t a k ss (Some j) wanted i own e = own i e
  fit_picked t a k ss None wanted i own e = by (where_vacant t ss (slot_in a (length ss) wanted)) refl e where
    by : (w : Option ℕ) → where_vacant t ss (slot_in a (length ss) wanted) ≡ w → option_or w (position (is_vacant t) ss) ≡ Some i → Fit t k ss i
    by None is e = fit_first t k ss i e
    by (Some j) is e = fit_wanted t a k ss wanted i (is ∙ e)
