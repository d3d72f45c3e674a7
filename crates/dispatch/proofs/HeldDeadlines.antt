-- That the table has the deadlines of all circuits.
use Rattle.std.proofs.Common.{◌≡◌, ℕ, zero, suc, ◌+◌, ◌*◌, ◌<◌, ◌≤◌, ◌==◌, nat_le, nat_lt, Bool, true, false, List, [], ◌∷◌, length, map, set, get_or, refl, sym, ap, subst, ◌∙◌, arith, inl, inr}
use Rattle.std.specs.Prelude.{Option, Some, None, Result, slice_get, slice_set, if◌then◌else◌, ◌⊎◌}
use Rattle.std.proofs.lemmas.List.{length-set}
use Rattle.timers.specs.Deadlines.{DeadlinesValue, deadline, entry_after_sweep}
use Rattle.types.specs.declared.discard.Discard.{Discard}
use Rattle.lease_disk.specs.declared.device.Fault.{Fault}
use Rattle.lease_disk.specs.declared.marks.Marks.{Marks}
use Rattle.config.specs.CircuitPart.{CircuitPart}
use Rattle.circuit_server.specs.Deadlines.{UnchangedOrUntilHeld, HasDeadlines, OtherEntriesUnchanged, held_in}
use Rattle.circuit_server.specs.Prepared.{IsSettled}
use Rattle.circuit_server.specs.Ticked.{server_state}
use Rattle.circuit_server.specs.declared.prepared.Prepared.{Prepared}
use Rattle.circuit_server.proofs.DeadlineLemmas.{after_sweep_at}
use Rattle.circuit_server.proofs.PreparedLemmas.{answered_own}
use Rattle.dispatch.specs.Deadlines.{AllUnchangedOrUntilHeld, AreSetAnew, KeepsDeadlines}
use Rattle.dispatch.specs.ServerValue.{HoldsDeadlines}
use Rattle.circuit_server.specs.CircuitServerValue.{OpenCircuitValue}
use Rattle.std.proofs.lemmas.Option.{get_or_from_slice_get, same_Some, slice_get-get_or, slice_get_within}

get_set_same : {X : Type 0} (xs : List X) (i : ℕ) (y : X) → i < length xs → slice_get (set xs i y) i ≡ Some y
get_set_same [] i y within = absurd (omega (arith, within))
get_set_same (x ∷ xs) zero y within = refl
get_set_same (x ∷ xs) (suc i) y within = get_set_same xs i y (omega (arith, within))

pub get_set_other : {X : Type 0} (xs : List X) (i c : ℕ) (y : X) → (c ≡ i → ⊥) → slice_get (set xs i y) c ≡ slice_get xs c
get_set_other [] i c y other = refl
get_set_other (x ∷ xs) zero zero y other = absurd (other refl)
get_set_other (x ∷ xs) zero (suc c) y other = refl
get_set_other (x ∷ xs) (suc i) zero y other = refl
get_set_other (x ∷ xs) (suc i) (suc c) y other = get_set_other xs i c y (λ same. other (ap suc same))

-- another circuit's deadlines stay
pub still_has : (first other : ℕ) (old new : DeadlinesValue) (state : Option OpenCircuitValue) → OtherEntriesUnchanged first old new → (other + 32 ≤ first) ⊎ (first + 32 ≤ other) → HasDeadlines old other state → HasDeadlines new other state
still_has first other old new None same apart has = λ s below. same.beside (other + s) (outside first other s below apart) ∙ has s below where
  outside : (first other s : ℕ) → s < 32 → (other + 32 ≤ first) ⊎ (first + 32 ≤ other) → (other + s < first) ⊎ (first + 32 ≤ other + s)
  outside first other s below (inl h) = inl (omega (arith, below, h))
  outside first other s below (inr h) = inr (omega (arith, h))
still_has first other old new (Some o) same apart has = λ s below. ap (entry_after_sweep o.clock) (same.beside (other + s) (outside first other s below apart)) ∙ has s below where
  outside : (first other s : ℕ) → s < 32 → (other + 32 ≤ first) ⊎ (first + 32 ≤ other) → (other + s < first) ⊎ (first + 32 ≤ other + s)
  outside first other s below (inl h) = inl (omega (arith, below, h))
  outside first other s below (inr h) = inr (omega (arith, h))

pub sides : (c k : ℕ) → (c ≡ k → ⊥) → (32 * c + 32 ≤ 32 * k) ⊎ (32 * k + 32 ≤ 32 * c)
sides c k other = at (nat_lt c k) refl where
  at : (b : Bool) → nat_lt c k ≡ b → (32 * c + 32 ≤ 32 * k) ⊎ (32 * k + 32 ≤ 32 * c)
  at true less = let below : c < k = grind arith in inl (omega (arith, below))
  at false less = let above : k < c = grind (arith, other) in inr (omega (arith, above))

-- a slot of another circuit is outside of this one's
pub aside : (c k s : ℕ) → (c ≡ k → ⊥) → s < 32 → (32 * c + s < 32 * k) ⊎ (32 * k + 32 ≤ 32 * c + s)
aside c k s other below = by (sides c k other) where
  by : (32 * c + 32 ≤ 32 * k) ⊎ (32 * k + 32 ≤ 32 * c) → (32 * c + s < 32 * k) ⊎ (32 * k + 32 ≤ 32 * c + s)
  by (inl h) = inl (omega (arith, h, below))
  by (inr h) = inr (omega (arith, h))

-- ---- the deadlines of other circuits

pub kept_beside : (k : ℕ) (among : ℕ → Bool) (old new : DeadlinesValue) → ((c : ℕ) → among c ≡ false → c ≡ k → ⊥) → OtherEntriesUnchanged (32 * k) old new → KeepsDeadlines among old new
kept_beside k among old new apart same = record { examined = same.examined; others = λ c s is below. same.beside (32 * c + s) (aside c k s (apart c is) below) }

pub kept_wider : (among wide : ℕ → Bool) (old new : DeadlinesValue) → ((c : ℕ) → wide c ≡ false → among c ≡ false) → KeepsDeadlines among old new → KeepsDeadlines wide old new
kept_wider among wide old new narrower keeps = record { examined = keeps.examined; others = λ c s is below. keeps.others c s (narrower c is) below }

pub kept_both : (among : ℕ → Bool) (old middle new : DeadlinesValue) → KeepsDeadlines among old middle → KeepsDeadlines among middle new → KeepsDeadlines among old new
kept_both among old middle new one other = record { examined = other.examined ∙ one.examined; others = λ c s is below. other.others c s is below ∙ one.others c s is below }

pub kept_all : (among : ℕ → Bool) (table : DeadlinesValue) → KeepsDeadlines among table table
kept_all among table = record { examined = refl; others = λ c s is below. refl }

-- ---- what was so before, or is held now

-- one circuit's are so, and those of the others stay
pub held_all : (k : ℕ) (states : List (Option OpenCircuitValue)) (own : Option OpenCircuitValue) (old new : DeadlinesValue) → own ≡ server_state states k → OtherEntriesUnchanged (32 * k) old new → UnchangedOrUntilHeld (32 * k) old new own
    → AllUnchangedOrUntilHeld old new states
held_all k states own old new is same one c state there s below = by (c == k) refl where
  by : (b : Bool) → (c == k) ≡ b → (deadline new (32 * c + s) ≡ deadline old (32 * c + s)) ⊎ (deadline new (32 * c + s) ≡ held_in state s)
  by true e =
      let at : c ≡ k = grind arith in
      let own_is : own ≡ state = is ∙ ap (server_state states) (sym at) ∙ get_or_from_slice_get states c state None there in
      subst (λ n. (deadline new (32 * n + s) ≡ deadline old (32 * n + s)) ⊎ (deadline new (32 * n + s) ≡ held_in state s)) (sym at)
      (subst (λ (x : Option OpenCircuitValue). (deadline new (32 * k + s) ≡ deadline old (32 * k + s)) ⊎ (deadline new (32 * k + s) ≡ held_in x s)) own_is (one s below))
  by false e = let other : c ≡ k → ⊥ = λ at. grind arith in inl (same.beside (32 * c + s) (aside c k s other below))

pub then_held : (before middle later held : Option ℕ) → (middle ≡ before) ⊎ (middle ≡ held) → (later ≡ middle) ⊎ (later ≡ held) → (later ≡ before) ⊎ (later ≡ held)
then_held before middle later held first (inr is) = inr is
then_held before middle later held (inl same) (inl still) = inl (still ∙ same)
then_held before middle later held (inr was) (inl still) = inr (still ∙ was)

-- one circuit is settled, and the others stay
pub settled_all : (k : ℕ) (states left : List (Option OpenCircuitValue)) (own : Option OpenCircuitValue) (before old new : DeadlinesValue) (part : CircuitPart) (prepared : Prepared) (saved : Result (Option Marks) Fault)
    (result : Result (Unit {0}) Discard) (out : List ℕ) → left ≡ slice_set states k own → k < length states → OtherEntriesUnchanged (32 * k) old new → IsSettled part prepared saved (server_state states k) own result out → UnchangedOrUntilHeld (32 * k) old new own
    → HasDeadlines new (32 * k) own → AllUnchangedOrUntilHeld before old states → AllUnchangedOrUntilHeld before new left
settled_all k states left own before old new part prepared saved result out is within same settled one has was c state there = by (c == k) refl where
  by : (b : Bool) → (c == k) ≡ b → UnchangedOrUntilHeld (32 * c) before new state
  by true e =
      let at : c ≡ k = grind arith in
      let own_is : own ≡ state = same_Some own state (sym (get_set_same states k own within) ∙ ap (λ (xs : List (Option OpenCircuitValue)). slice_get xs k) (sym is) ∙ ap (slice_get left) (sym at) ∙ there) in
      let its = was k (server_state states k) (slice_get-get_or states k None within) in
      subst (λ n. UnchangedOrUntilHeld (32 * n) before new state) (sym at)
      (subst (UnchangedOrUntilHeld (32 * k) before new) own_is (answered_own part prepared saved (32 * k) before old new (server_state states k) own result out settled its one has))
  by false e =
      let other : c ≡ k → ⊥ = λ at. grind arith in
      let still = sym (get_set_other states k c own other) ∙ ap (λ (xs : List (Option OpenCircuitValue)). slice_get xs c) (sym is) ∙ there in
      λ s below. then_held (deadline before (32 * c + s)) (deadline old (32 * c + s)) (deadline new (32 * c + s)) (held_in state s) (was c state still s below) (inl (same.beside (32 * c + s) (aside c k s other below)))

-- ---- all circuits anew, one after the other

pub record SetFirst (count : ℕ) (table : DeadlinesValue) (states : List (Option OpenCircuitValue)) : Type 0 where
  pub each : (c s : ℕ) (state : Option OpenCircuitValue) → c < count → slice_get states c ≡ Some state → s < 32 → deadline table (32 * c + s) ≡ held_in state s

pub none_set : (table : DeadlinesValue) (states : List (Option OpenCircuitValue)) → SetFirst 0 table states
none_set table states = record { each = λ c s state below there small. absurd (omega (arith, below)) }

pub set_more : (count : ℕ) (table after : DeadlinesValue) (states : List (Option OpenCircuitValue)) (new : Option OpenCircuitValue) → count < length states → SetFirst count table states
    → ((s : ℕ) → s < 32 → deadline after (32 * count + s) ≡ held_in new s) → OtherEntriesUnchanged (32 * count) table after → SetFirst (count + 1) after (set states count new)
set_more count table after states new within firsts own same = record { each = λ c s state below there small. by c s state below there small (c == count) refl } where
  by : (c s : ℕ) (state : Option OpenCircuitValue) → c < count + 1 → slice_get (set states count new) c ≡ Some state → s < 32 → (b : Bool) → (c == count) ≡ b → deadline after (32 * c + s) ≡ held_in state s
  by c s state below there small true e =
      let is : c ≡ count = grind arith in
      let new_is : new ≡ state = same_Some new state (sym (get_set_same states count new within) ∙ ap (slice_get (set states count new)) (sym is) ∙ there) in
      ap (λ n. deadline after (32 * n + s)) is ∙ own s small ∙ ap (λ x. held_in x s) new_is
  by c s state below there small false e =
      let other : c ≡ count → ⊥ = λ is. grind arith in
      let less : c < count = grind arith in
      same.beside (32 * c + s) (aside c count s other small) ∙ firsts.each c s state less (sym (get_set_other states count c new other) ∙ there) small

pub all_set : (table : DeadlinesValue) (states : List (Option OpenCircuitValue)) (count : ℕ) → length states ≤ count → SetFirst count table states → AreSetAnew table states
all_set table states count whole firsts = record { each = λ c s state there small. firsts.each c s state (let inside = slice_get_within states c state there in omega (arith, whole, inside)) there small }

has_own : (first : ℕ) (table : DeadlinesValue) (state : Option OpenCircuitValue) → ((s : ℕ) → s < 32 → deadline table (first + s) ≡ held_in state s) → HasDeadlines table first state
has_own first table None own = own
has_own first table (Some o) own = λ s below. ap (entry_after_sweep o.clock) (own s below)

pub all_held : (table : DeadlinesValue) (states : List (Option OpenCircuitValue)) → length table.slots ≡ 32 * length states → AreSetAnew table states → HoldsDeadlines table states
all_held table states size anew = record { size = size; each = λ c state there. has_own (32 * c) table state (λ s below. anew.each c s state there below) }

-- ---- what is held, after a change

-- one circuit's are changed, of all that have theirs
pub one_held : (c : ℕ) (table after : DeadlinesValue) (states : List (Option OpenCircuitValue)) (new : Option OpenCircuitValue) → c < length states → HoldsDeadlines table states
    → HasDeadlines after (32 * c) new → OtherEntriesUnchanged (32 * c) table after → HoldsDeadlines after (set states c new)
one_held k table after states new within holds own same =
    record {
      size = same.size ∙ holds.size ∙ ap (λ n. 32 * n) (sym (length-set states k new));
      each = λ c state there. by c state there (c == k) refl;
    } where
      by : (c : ℕ) (state : Option OpenCircuitValue) → slice_get (set states k new) c ≡ Some state → (b : Bool) → (c == k) ≡ b → HasDeadlines after (32 * c) state
      by c state there true e =
          let is : c ≡ k = grind arith in
          let new_is : new ≡ state = same_Some new state (sym (get_set_same states k new within) ∙ ap (slice_get (set states k new)) (sym is) ∙ there) in
          subst (λ n. HasDeadlines after (32 * n) state) (sym is) (subst (HasDeadlines after (32 * k)) new_is own)
      by c state there false e =
          let other : c ≡ k → ⊥ = λ is. grind arith in
          still_has (32 * k) (32 * c) table after state same (sides c k other) (holds.each c state (sym (get_set_other states k c new other) ∙ there))

-- the count of looks is no part of it
has_same : (first : ℕ) (old new : DeadlinesValue) (state : Option OpenCircuitValue) → new.slots ≡ old.slots → HasDeadlines old first state → HasDeadlines new first state
has_same first old new None same has = λ s below. ap (λ slots. get_or slots (first + s) None) same ∙ has s below
has_same first old new (Some o) same has = λ s below. ap (λ slots. entry_after_sweep o.clock (get_or slots (first + s) None)) same ∙ has s below

pub same_slots : (old new : DeadlinesValue) (states : List (Option OpenCircuitValue)) → new.slots ≡ old.slots → HoldsDeadlines old states → HoldsDeadlines new states
same_slots old new states same holds =
    record { size = ap (λ (xs : List (Option ℕ)). length xs) same ∙ holds.size; each = λ c state there. has_same (32 * c) old new state same (holds.each c state there) }

-- what a sweep leaves is due later
left_later : (now until : ℕ) (entry : Option ℕ) → entry_after_sweep now entry ≡ Some until → now < until
left_later now until None e = absurd cc
left_later now until (Some u) e = by (nat_le u now) refl e where
  by : (b : Bool) → nat_le u now ≡ b → (if b then None else Some u) ≡ Some until → now < until
  by true due e = absurd cc
  by false later e =
      let is : u ≡ until = same_Some u until e in
      let after : now < u = grind arith in
      omega (arith, is, after)

pub later_left : (now : ℕ) (old new : DeadlinesValue) (n until : ℕ) → new.slots ≡ map (entry_after_sweep now) old.slots → deadline new n ≡ Some until → now < until
later_left now old new n until same there =
    left_later now until (get_or old.slots n None) (sym (after_sweep_at now old.slots n) ∙ sym (ap (λ slots. get_or slots n None) same) ∙ there)
