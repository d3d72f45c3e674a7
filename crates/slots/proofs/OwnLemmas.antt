-- A client's slot, and which tests it passes.
use Rattle.std.proofs.Common.{◌≡◌, ℕ, ◌<◌, ◌≤◌, Bool, true, false, cond, length, get_or, refl, sym, ap, ◌∙◌, arith}
use Rattle.std.specs.Prelude.{Option, Some, None}
use Rattle.std.specs.declared.cmp.Ordering.{Ordering}
use Rattle.std.specs.Bool.{then_some}
use Rattle.std.specs.List.{position, position_or_len}
use Rattle.std.proofs.lemmas.Grind.{common_steps}
use Rattle.std.proofs.lemmas.List.Quantifiers.{position-Some}
use Rattle.std.proofs.lemmas.List.Sums.{fails_before_first}
use Rattle.std.proofs.lemmas.Option.{same_Some, none-some}
use Rattle.slots.specs.declared.holder.Holder.{Holder}
use Rattle.slots.specs.declared.holder.Holder.TheVariants.{Bound, Offered, Barred}
use Rattle.slots.specs.Key.{IsKey}
use Rattle.slots.specs.Lookup.{is_bound, is_bound_to, is_offered, is_offered_to}
use Rattle.slots.specs.Maps.{is_live}
use Rattle.slots.specs.Slots.{is_clients, AreDistinct}
use Rattle.slots.proofs.ShownLemmas.{Slots, not_true}
use Rattle.slots.proofs.KeptWrites.{place_is}

pub where_true : (b : Bool) (i : ℕ) → then_some b i ≡ cond b (Some i) None
where_true true i = refl
where_true false i = refl

module _ {K : Type 0} where
  -- the slot, where it passes the test
  abbrev pub where_passes : (Option (Holder K) → Bool) → Slots K → Option ℕ → Option ℕ
  where_passes test ss None = None
  where_passes test ss (Some i) = cond (test (get_or ss i None)) (Some i) None

  -- none passes where no first one does
  nowhere : (test : Option (Holder K) → Bool) (ss : Slots K) (i : ℕ) → position test ss ≡ None → i < length ss → test (get_or ss i None) ≡ false
  nowhere test ss i none below =
      let past : length ss ≤ position_or_len test ss = grind (arith, common_steps) in
      fails_before_first test ss i None (omega arith)

module _ {K : Type 0} {eqk : K → K → Bool} {cmpk : K → K → Ordering} (lawk : IsKey eqk cmpk) where
  -- a test that only a client's slot passes is passed by the client's slot or by none
  pub own_slot : (test : Option (Holder K) → Bool) (k : K) (ss : Slots K) → ((s : Option (Holder K)) → test s ≡ true → is_clients eqk k s ≡ true) → AreDistinct eqk ss
      → (own : Option ℕ) → position (is_clients eqk k) ss ≡ own → position test ss ≡ where_passes test ss own
  own_slot test k ss implied distinct own is = by own is (position test ss) refl where
    there : (i : ℕ) → position test ss ≡ Some i → position (is_clients eqk k) ss ≡ Some i
    there i found = let at = position-Some test ss i None found in place_is lawk k i ss distinct (implied (get_or ss i None) at.1)

    missed : (i : ℕ) (b : Bool) → i < length ss → test (get_or ss i None) ≡ b → position test ss ≡ None → None ≡ cond b (Some i) None
    missed i true below passes none = absurd (not_true (sym (nowhere test ss i none below) ∙ passes))
    missed i false below fails none = refl

    by : (own : Option ℕ) → position (is_clients eqk k) ss ≡ own → (first : Option ℕ) → position test ss ≡ first → position test ss ≡ where_passes test ss own
    by None is None first = first
    by None is (Some j) first = absurd (none-some j (sym is ∙ there j first))
    by (Some i) is None first = first ∙ missed i (test (get_or ss i None)) (position-Some (is_clients eqk k) ss i None is).0 refl first
    by (Some i) is (Some j) first =
        let same : j ≡ i = same_Some j i (sym (there j first) ∙ is) in
        let passes : test (get_or ss i None) ≡ true = ap (λ n. test (get_or ss n None)) (sym same) ∙ (position-Some test ss j None first).1 in
        first ∙ ap Some same ∙ ap (λ b. cond b (Some i) None) (sym passes)

  -- of a client's slot nobody has to ask whose it is
  pub bound_own : (clock : ℕ) (k : K) (s : Option (Holder K)) → is_clients eqk k s ≡ true → is_bound clock s ≡ is_bound_to eqk clock k s
  bound_own clock k None e = refl
  bound_own clock k (Some (Bound key until)) e = by (is_live clock until) where
    by : (b : Bool) → b ≡ cond b (eqk k key) false
    by true = sym e
    by false = refl
  bound_own clock k (Some (Offered key until)) e = refl
  bound_own clock k (Some (Barred until)) e = refl

  pub offered_own : (clock : ℕ) (k : K) (s : Option (Holder K)) → is_clients eqk k s ≡ true → is_offered clock s ≡ is_offered_to eqk clock k s
  offered_own clock k None e = refl
  offered_own clock k (Some (Bound key until)) e = refl
  offered_own clock k (Some (Offered key until)) e = by (is_live clock until) where
    by : (b : Bool) → b ≡ cond b (eqk k key) false
    by true = sym e
    by false = refl
  offered_own clock k (Some (Barred until)) e = refl

  pub bound_is_clients : (clock : ℕ) (k : K) (s : Option (Holder K)) → is_bound_to eqk clock k s ≡ true → is_clients eqk k s ≡ true
  bound_is_clients clock k None e = absurd (not_true e)
  bound_is_clients clock k (Some (Bound key until)) e = by (is_live clock until) e where
    by : (b : Bool) → cond b (eqk k key) false ≡ true → eqk k key ≡ true
    by true e = e
    by false e = absurd (not_true e)
  bound_is_clients clock k (Some (Offered key until)) e = absurd (not_true e)
  bound_is_clients clock k (Some (Barred until)) e = absurd (not_true e)

  pub offered_is_clients : (clock : ℕ) (k : K) (s : Option (Holder K)) → is_offered_to eqk clock k s ≡ true → is_clients eqk k s ≡ true
  offered_is_clients clock k None e = absurd (not_true e)
  offered_is_clients clock k (Some (Bound key until)) e = absurd (not_true e)
  offered_is_clients clock k (Some (Offered key until)) e = by (is_live clock until) e where
    by : (b : Bool) → cond b (eqk k key) false ≡ true → eqk k key ≡ true
    by true e = e
    by false e = absurd (not_true e)
  offered_is_clients clock k (Some (Barred until)) e = absurd (not_true e)
