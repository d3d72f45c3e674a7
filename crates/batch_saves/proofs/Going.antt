-- The writes of a step, part by part.
use Rattle.std.proofs.Common.{◌≡◌, ◌≢◌, ℕ, ◌+◌, ◌<◌, ◌≤◌, ◌==◌, if◌then◌else◌, Bool, true, false, List, count_by, length, length-set, nat_lt, set, take, refl, sym, ap, ◌∙◌, subst, arith}
use Rattle.std.proofs.lemmas.Grind.{get_or-set_at}
use Rattle.std.proofs.lemmas.List.{get_or-set_other}
use Rattle.std.proofs.lemmas.List.Sums.{count_by_more_no, count_by_more_yes}
use Rattle.lease_disk.specs.declared.format2.steps.SaveStep.{SaveStep}
use Rattle.lease_disk.specs.declared.saving.Saving.{Saving}
use Rattle.lease_disk.specs.Device.{Device}
use Rattle.batch_saves.specs.Batch.{AreApart, no_part, part_at}
use Rattle.batch_saves.specs.Seen.{KeepsBeside, Seen, seen}
use Rattle.batch_saves.specs.Steps.{IsWrittenPart, KeepsOthers, is_saving}

pub differ : (parts : List Saving) → AreApart parts → (i j : ℕ) → i < length parts → j < length parts → i ≢ j → (part_at parts i).region ≢ (part_at parts j).region
differ parts apart i j first second other same = by (nat_lt i j) refl where
  by : (b : Bool) → nat_lt i j ≡ b → ⊥
  by true below = apart i j (grind (arith, below)) second same
  by false above = apart j i (let not_same = other in grind (arith, above, not_same)) first (sym same)

module _ (tells : Bool) (step : SaveStep) (first : List Saving) (old : Device) where
  -- the parts before this one are written, those from it on are as they were
  pub record IsGoing (now : List Saving) (new : Device) (i : ℕ) : Type 0 where
    pub size : length now ≡ length first
    pub done : (k : ℕ) → k < i → k < length first → IsWrittenPart tells step (part_at first k) (part_at now k) (seen tells old (part_at first k).region) (seen tells new (part_at first k).region)
    pub ahead : (k : ℕ) → i ≤ k → k < length first → part_at now k ≡ part_at first k
    pub still : (k : ℕ) → i ≤ k → k < length first → seen tells new (part_at first k).region ≡ seen tells old (part_at first k).region
    pub frame : KeepsOthers tells first old new

  pub going_none : IsGoing first old 0
  going_none = record {
    size = refl;
    done = λ k below. absurd (omega (arith, below));
    ahead = λ k from within. refl;
    still = λ k from within. refl;
    frame = record { count = refl; reads = refl; others = λ q none. refl };
  }

  module _ (apart : AreApart first) (now : List Saving) (mid new : Device) (i : ℕ) (within : i < length first) (going : IsGoing now mid i)
      (x p : Saving) (is : x ≡ part_at now i)
      (write : IsWrittenPart tells step x p (seen tells mid x.region) (seen tells new x.region)) (beside : KeepsBeside tells x.region mid new) where
    was : x ≡ part_at first i
    was = is ∙ going.ahead i (omega arith) within

    there : i < length now
    there = subst (λ n. i < n) (sym going.size) within

    -- another part's region
    other_region : (k : ℕ) → k < length first → k ≢ i → seen tells new (part_at first k).region ≡ seen tells mid (part_at first k).region
    other_region k inside other = beside.others (part_at first k).region (λ same. differ first apart k i inside within other (same ∙ ap (λ (y : Saving). y.region) was))

    other_part : (k : ℕ) → k ≢ i → part_at (set now i p) k ≡ part_at now k
    other_part k other = get_or-set_other now i k p no_part other

    here : IsWrittenPart tells step (part_at first i) (part_at (set now i p) i) (seen tells old (part_at first i).region) (seen tells new (part_at first i).region)
    here =
        subst (λ (t : Saving). IsWrittenPart tells step (part_at first i) t (seen tells old (part_at first i).region) (seen tells new (part_at first i).region)) (sym (get_or-set_at now i i p no_part refl there))
        (subst (λ (s : Seen). IsWrittenPart tells step (part_at first i) p s (seen tells new (part_at first i).region)) (going.still i (omega arith) within)
        (subst (λ (y : Saving). IsWrittenPart tells step y p (seen tells mid y.region) (seen tells new y.region)) was write))

    done_at : (k : ℕ) → k < i + 1 → k < length first → (b : Bool) → (k == i) ≡ b
        → IsWrittenPart tells step (part_at first k) (part_at (set now i p) k) (seen tells old (part_at first k).region) (seen tells new (part_at first k).region)
    done_at k below inside true same =
        let e : k ≡ i = grind (arith, same) in
        subst (λ j. IsWrittenPart tells step (part_at first j) (part_at (set now i p) j) (seen tells old (part_at first j).region) (seen tells new (part_at first j).region)) (sym e) here
    done_at k below inside false differs =
        let other : k ≢ i = λ e. absurd (grind (arith, differs, e)) in
        let before : k < i = grind (arith, differs, below) in
        subst (λ (t : Saving). IsWrittenPart tells step (part_at first k) t (seen tells old (part_at first k).region) (seen tells new (part_at first k).region)) (sym (other_part k other))
        (subst (λ (s : Seen). IsWrittenPart tells step (part_at first k) (part_at now k) (seen tells old (part_at first k).region) s) (sym (other_region k inside other)) (going.done k before inside))

    pub going_next : IsGoing (set now i p) new (i + 1)
    going_next = record {
      size = length-set now i p ∙ going.size;
      done = λ k below inside. done_at k below inside (k == i) refl;
      ahead = λ k from inside. other_part k (λ e. absurd (omega (arith, e, from))) ∙ going.ahead k (omega (arith, from)) inside;
      still = λ k from inside. other_region k inside (λ e. absurd (omega (arith, e, from))) ∙ going.still k (omega (arith, from)) inside;
      frame = record {
        count = beside.count ∙ going.frame.count;
        reads = beside.reads ∙ going.frame.reads;
        others = λ q none. beside.others q (λ same. none i within (sym (same ∙ ap (λ (y : Saving). y.region) was))) ∙ going.frame.others q none;
      };
    }

-- how many writes there were
pub one_more : (parts : List Saving) (i : ℕ) → i < length parts → (f : ℕ) → f ≡ (part_at parts i).failed → (a b m : ℕ) → b ≡ (if f == 0 then a + 1 else a)
    → a ≡ m + count_by is_saving (take i parts) → b ≡ m + count_by is_saving (take (i + 1) parts)
one_more parts i within f is a b m writes same = by (f == 0) refl where
  by : (t : Bool) → (f == 0) ≡ t → b ≡ m + count_by is_saving (take (i + 1) parts)
  by true e =
      let now : b ≡ a + 1 = writes ∙ ap (λ t. if t then a + 1 else a) e in
      let count = count_by_more_yes is_saving parts i no_part within (sym (ap (λ n. n == 0) is) ∙ e) in
      omega (arith, now, same, count)
  by false e =
      let now : b ≡ a = writes ∙ ap (λ t. if t then a + 1 else a) e in
      let count = count_by_more_no is_saving parts i no_part within (sym (ap (λ n. n == 0) is) ∙ e) in
      omega (arith, now, same, count)
