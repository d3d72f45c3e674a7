-- What restarts find after a save, and that what is saved is a book.
use Rattle.std.proofs.Common.{◌≡◌, ℕ, arith, ◌+◌, ◌-◌, ◌<◌, ◌≤◌, ◌==◌, ◌&&◌, ◌||◌, nat_le, nat_lt, Bool, true, false, cond, List, [], ◌∷◌, map, All, refl, sym, ap, subst, ◌∙◌, Ok, Err, Result, is_ok, OnOk, OnErr}
use Rattle.std.specs.Prelude.{Some, IfSome, Option, None, option_map, slice_set, if◌then◌else◌}
use Rattle.std.proofs.lemmas.Bool.{eqb-true, leb-true}
use Rattle.std.proofs.lemmas.List.Folds.{map_fixed}
use Rattle.types.specs.declared.slot4.Slot4.{Slot4}
use Rattle.types.specs.declared.slot6.Slot6.{Slot6}
use Rattle.types.specs.declared.slots.Slots.{Slots}
use Rattle.types.specs.Slots.{live4, live6}
use Rattle.config.specs.CircuitPart.{CircuitPart}
use Rattle.lease_disk.proofs.Entries.{live_later4, live_later6}
use Rattle.lease_disk.proofs.Fresh.{clean_image}
use Rattle.lease_disk.specs.Recovered.{recovered}
use Rattle.lease_disk.specs.Region.{Region, IsClean, IsCrash, image, effective}
use Rattle.lease_disk.specs.Save.{AreMarks, Fits, IsLeft, IsSaved}
use Rattle.lease_disk.specs.declared.device.Fault.{Fault}
use Rattle.std.proofs.lemmas.Option.{same_Some}
use Rattle.lease_disk.specs.declared.content.Content.{Content}
use Rattle.lease_disk.specs.declared.content.Content.TheVariants as content
use Rattle.bindings_v4.specs.Kept4.{kept_slots as kept_slots4, keep_in as keep_in4}
use Rattle.bindings_v4.specs.Decision4.{kept_slot}
use Rattle.bindings_v4.specs.Slots4 as slots4
use Rattle.bindings_v4.specs.declared.decision4.Decision4.{Decision4}
use Rattle.bindings_v4.specs.declared.decision4.KeptSlot.{KeptSlot as KeptSlot4}
use Rattle.bindings_v6.specs.Kept6.{kept_slots as kept_slots6, keep_in as keep_in6}
use Rattle.bindings_v6.specs.Slots6 as slots6
use Rattle.bindings_v6.specs.declared.decision6.Decision6.{Decision6}
use Rattle.bindings_v6.specs.declared.decision6.KeptSlot.{KeptSlot as KeptSlot6}
use Rattle.circuit_server.specs.declared.decision.CircuitDecision.{CircuitDecision}
use Rattle.circuit_server.specs.declared.decision.CircuitDecision.TheVariants.{V4, V6}
use Rattle.circuit_server.specs.CircuitDecision.{IsToSave, KeepsItsSlot, kept_in, with_decision}
use Rattle.circuit_server.specs.CircuitServerValue.{OpenCircuitValue, IsReadyFor, counts_in}
use Rattle.circuit_server.specs.Leases.{book_in, counts_of, recovered_book, restarts_of, restarts_after}
use Rattle.circuit_server.specs.Server.{Book, kept_book}

module _ (part : CircuitPart) (b : Book) (before slots : Slots) (old new : Region) (was : recovered (counts_of part) old.byte ≡ Some before) (means : book_in part slots ≡ kept_book b) where
  pub after_ok : IsSaved (counts_of part) slots new → restarts_of part new ≡ restarts_after 0 b (restarts_of part old)
  after_ok saved = λ j. λ byte.
      (ap (recovered_book part) (clean_image new saved.clean byte) ∙ ap (option_map (book_in part)) saved.kept ∙ ap Some means) j

  module _ (failing_call gate : ℕ) (clean : IsClean old) (left : IsLeft failing_call gate (Some before) (Some slots) (counts_of part) new) where
    crash : (byte : ℕ) → IsCrash new (image byte new)
    crash byte = record { same = λ i synced. ap (λ u. cond u byte (new.byte i)) synced }

    by_gate : (byte : ℕ) (late : Bool) → nat_le 5 failing_call ≡ late → (late && image byte new gate == 165) ≡ (late && byte == 165)
    by_gate byte false is = refl
    by_gate byte true is = ap (λ u. cond u byte (new.byte gate) == 165) (left.doubt (leb-true 5 failing_call is))

    either : (byte : ℕ) (there : Bool)
        → option_map (book_in part) (if there then Some slots else Some before) ≡ (if there then Some (kept_book b) else restarts_of part old byte)
    either byte true = ap Some means
    either byte false = ap (option_map (book_in part)) (sym was) ∙ ap (recovered_book part) (sym (clean_image old clean byte))

    left_at : (byte : ℕ) → restarts_of part new byte ≡ (if nat_le 5 failing_call && byte == 165 then Some (kept_book b) else restarts_of part old byte)
    left_at byte =
        ap (option_map (book_in part)) (left.crash (image byte new) (crash byte) ∙ ap (λ x. if x then Some slots else Some before) (by_gate byte (nat_le 5 failing_call) refl))
        ∙ either byte (nat_le 5 failing_call && byte == 165)

    pub after_err : (few : Bool) → nat_le failing_call 6 ≡ few → ((if few then failing_call else 0) == 0) ≡ false
        → restarts_of part new ≡ restarts_after (if few then failing_call else 0) b (restarts_of part old)
    after_err false is fails = absurd cc
    after_err true is fails = λ j. λ byte.
        (left_at byte ∙ sym (ap (λ zero. if zero || (nat_le 5 failing_call && byte == 165) then Some (kept_book b) else restarts_of part old byte) fails)) j

  pub after_save : (failing_call gate : ℕ) (result : Result (Unit {0}) Fault) → IsClean old
      → is_ok result ≡ (effective 6 failing_call == 0) → OnOk result (IsSaved (counts_of part) slots new)
      → OnErr result (IsLeft failing_call gate (Some before) (Some slots) (counts_of part) new)
      → restarts_of part new ≡ restarts_after (effective 6 failing_call) b (restarts_of part old)
  after_save failing_call gate (Ok done) clean answer saved left =
      subst (λ n. restarts_of part new ≡ restarts_after n b (restarts_of part old)) (sym (eqb-true (effective 6 failing_call) 0 (sym answer))) (after_ok saved)
  after_save failing_call gate (Err fault) clean answer saved left = after_err failing_call gate clean left (nat_le failing_call 6) refl (sym answer)

-- what is kept at a later clock, by what was kept

pub later_map4 : (b t : ℕ) (xs : List Slot4) → b ≤ t → map (live4 t) (map (live4 b) xs) ≡ map (live4 t) xs
later_map4 b t [] h = refl
later_map4 b t (x ∷ xs) h = λ j. live_later4 b t h x j ∷ later_map4 b t xs h j

pub later_map6 : (b t : ℕ) (xs : List Slot6) → b ≤ t → map (live6 t) (map (live6 b) xs) ≡ map (live6 t) xs
later_map6 b t [] h = refl
later_map6 b t (x ∷ xs) h = λ j. live_later6 b t h x j ∷ later_map6 b t xs h j

pub all_kept4 : (t : ℕ) (xs : List Slot4) → All (λ slot. live4 t slot ≡ slot) xs → map (live4 t) xs ≡ xs
all_kept4 t xs h = map_fixed (live4 t) xs h

pub all_kept6 : (t : ℕ) (xs : List Slot6) → All (λ slot. live6 t slot ≡ slot) xs → map (live6 t) xs ≡ xs
all_kept6 t xs h = map_fixed (live6 t) xs h

-- The slot that a decision keeps

in_pool4 : (s count : ℕ) (x : Bool) → s < count → count ≤ 16 → (if nat_lt s 16 then nat_lt s count else x) ≡ true
in_pool4 s count x h k =
    let few : nat_lt s 16 ≡ true = grind (arith, h, k) in
    let below : nat_lt s count ≡ true = grind (arith, h) in
    rw few below

in_pool6 : (s count : ℕ) (x : Bool) → s < count → count ≤ 16 → (if nat_lt (16 + s) 16 then x else nat_lt (16 + s) 32 && nat_lt (16 + s - 16) count) ≡ true
in_pool6 s count x h k =
    let past : nat_lt (16 + s) 16 ≡ false = grind arith in
    let few : nat_lt (16 + s) 32 ≡ true = grind (arith, h, k) in
    let back : 16 + s - 16 ≡ s = omega arith in
    let below : nat_lt s count ≡ true = grind (arith, h) in
    rw (past, few, back, below) refl

kept4 : (decision : Decision4) (o : OpenCircuitValue) (region : Region) (keep : Option KeptSlot4) → (kept_slot decision.change) ≡ keep
    → (kept_slots4 o.clock (slots4.with_decision decision o.four).slots ≡ keep_in4 keep (kept_slots4 o.clock o.four.slots)) → IfSome keep (λ kept. kept.slot < o.four.pool.count) → o.four.pool.count ≤ 16
    → IsReadyFor region (Some o) → (s : ℕ) (changed : Content) → option_map {U = ℕ × Content} (λ kept. (kept.slot, content.Four kept.content)) keep ≡ Some (s, changed)
    → IsToSave region s changed (record o { four = slots4.with_decision decision o.four })
kept4 decision o region None is kept below few ready s changed e = absurd cc
kept4 decision o region (Some k) is kept below few ready s changed e =
    let same : (k.slot, content.Four k.content) ≡ (s, changed) = same_Some _ _ e in
    let small : k.slot < 16 = omega (arith, below, few) in
    subst (λ x. IsToSave region x.0 x.1 (record o { four = slots4.with_decision decision o.four })) same
    (record {
      format = ready.3;
      clean = ready.0;
      marks = ready.1;
      below = in_pool4 k.slot o.four.pool.count _ below few;
      slots = ready.2.slots;
      recovers = ready.2.recovers;
      later = ready.2.later;
      kept = λ i. record { four = (ap (λ xs. slice_set xs k.slot k.content) ready.2.four ∙ sym kept) i; six = ready.2.six i; clock = o.clock };
    })

fits4 : (keep : Option KeptSlot4) (count : ℕ) → IfSome keep (λ kept. kept.slot < count) → count ≤ 16 → IfSome (option_map {U = ℕ × Content} (λ kept. (kept.slot, content.Four kept.content)) keep) (λ kept. (kept.0 < 32) × Fits kept.0 kept.1)
fits4 None count below few = tt
fits4 (Some k) count below few = (omega (arith, below, few), omega (arith, below, few))

fits6 : (keep : Option KeptSlot6) (count : ℕ) → IfSome keep (λ kept. kept.slot < count) → count ≤ 16 → IfSome (option_map {U = ℕ × Content} (λ kept. (16 + kept.slot, content.Six kept.content)) keep) (λ kept. (kept.0 < 32) × Fits kept.0 kept.1)
fits6 None count below few = tt
fits6 (Some k) count below few = (omega (arith, below, few), (omega arith, omega (arith, below, few)))

kept_fits : (d : CircuitDecision) (o : OpenCircuitValue) → KeepsItsSlot d o → IfSome (kept_in d) (λ kept. (kept.0 < 32) × Fits kept.0 kept.1)
kept_fits (V4 made) o keeps = fits4 (kept_slot made.decision.change) o.four.pool.count keeps.1 keeps.2
kept_fits (V6 made) o keeps = fits6 made.decision.keep o.six.pool.count keeps.1 keeps.2

pub is_fit : (d : CircuitDecision) (o : OpenCircuitValue) (s : ℕ) (changed : Content) → KeepsItsSlot d o → kept_in d ≡ Some (s, changed) → Fits s changed
is_fit d o s changed keeps e = (subst (λ (x : Option (ℕ × Content)). IfSome x (λ kept. (kept.0 < 32) × Fits kept.0 kept.1)) e (kept_fits d o keeps)).1

kept6 : (decision : Decision6) (o : OpenCircuitValue) (region : Region) (keep : Option KeptSlot6) → decision.keep ≡ keep
    → (kept_slots6 o.clock (slots6.with_decision decision o.six).slots ≡ keep_in6 keep (kept_slots6 o.clock o.six.slots)) → IfSome keep (λ kept. kept.slot < o.six.pool.count) → o.six.pool.count ≤ 16
    → IsReadyFor region (Some o) → (s : ℕ) (changed : Content) → option_map {U = ℕ × Content} (λ kept. (16 + kept.slot, content.Six kept.content)) keep ≡ Some (s, changed)
    → IsToSave region s changed (record o { six = slots6.with_decision decision o.six })
kept6 decision o region None is kept below few ready s changed e = absurd cc
kept6 decision o region (Some k) is kept below few ready s changed e =
    let same : (16 + k.slot, content.Six k.content) ≡ (s, changed) = same_Some _ _ e in
    let small : k.slot < 16 = omega (arith, below, few) in
    let back : 16 + k.slot - 16 ≡ k.slot = omega arith in
    subst (λ x. IsToSave region x.0 x.1 (record o { six = slots6.with_decision decision o.six })) same
    (record {
      format = ready.3;
      clean = ready.0;
      marks = ready.1;
      below = in_pool6 k.slot o.six.pool.count _ below few;
      slots = ready.2.slots;
      recovers = ready.2.recovers;
      later = ready.2.later;
      kept = λ i. record { four = ready.2.four i; six = (ap (λ n. slice_set (map (live6 o.clock) ready.2.slots.six) n k.content) back ∙ ap (λ xs. slice_set xs k.slot k.content) ready.2.six ∙ sym kept) i; clock = o.clock };
    })

pub is_to_save : (d : CircuitDecision) (o n : OpenCircuitValue) (region : Region) (s : ℕ) (changed : Content) → n ≡ with_decision d o → KeepsItsSlot d o → IsReadyFor region (Some o) → kept_in d ≡ Some (s, changed)
    → IsToSave region s changed n
is_to_save (V4 made) o n region s changed is keeps ready e =
    subst (λ x. IsToSave region s changed x) (sym is) (kept4 made.decision o region (kept_slot made.decision.change) refl keeps.0 keeps.1 keeps.2 ready s changed e)
is_to_save (V6 made) o n region s changed is keeps ready e =
    subst (λ x. IsToSave region s changed x) (sym is) (kept6 made.decision o region made.decision.keep refl keeps.0 keeps.1 keeps.2 ready s changed e)

-- of a decision that keeps none

none4 : (decision : Decision4) (o : OpenCircuitValue) (region : Region) (keep : Option KeptSlot4)
    → (kept_slots4 o.clock (slots4.with_decision decision o.four).slots ≡ keep_in4 keep (kept_slots4 o.clock o.four.slots))
    → IsReadyFor region (Some o) → option_map {U = ℕ × Content} (λ kept. (kept.slot, content.Four kept.content)) keep ≡ None → IsReadyFor region (Some (record o { four = slots4.with_decision decision o.four }))
none4 decision o region None kept ready e =
    (ready.0, ready.1, record { slots = ready.2.slots; recovers = ready.2.recovers; later = ready.2.later; four = ready.2.four ∙ sym kept; six = ready.2.six }, ready.3)
none4 decision o region (Some k) kept ready e = absurd cc

none6 : (decision : Decision6) (o : OpenCircuitValue) (region : Region) (keep : Option KeptSlot6)
    → (kept_slots6 o.clock (slots6.with_decision decision o.six).slots ≡ keep_in6 keep (kept_slots6 o.clock o.six.slots))
    → IsReadyFor region (Some o) → option_map {U = ℕ × Content} (λ kept. (16 + kept.slot, content.Six kept.content)) keep ≡ None → IsReadyFor region (Some (record o { six = slots6.with_decision decision o.six }))
none6 decision o region None kept ready e =
    (ready.0, ready.1, record { slots = ready.2.slots; recovers = ready.2.recovers; later = ready.2.later; four = ready.2.four; six = ready.2.six ∙ sym kept }, ready.3)
none6 decision o region (Some k) kept ready e = absurd cc

pub still_ready : (d : CircuitDecision) (o n : OpenCircuitValue) (region : Region) → n ≡ with_decision d o → KeepsItsSlot d o → IsReadyFor region (Some o) → kept_in d ≡ None → IsReadyFor region (Some n)
still_ready (V4 made) o n region is keeps ready e = subst (λ x. IsReadyFor region (Some x)) (sym is) (none4 made.decision o region (kept_slot made.decision.change) keeps.0 ready e)
still_ready (V6 made) o n region is keeps ready e = subst (λ x. IsReadyFor region (Some x)) (sym is) (none6 made.decision o region made.decision.keep keeps.0 ready e)

-- at a later moment
pub later_ready : (o n : OpenCircuitValue) (region : Region) → n.four ≡ o.four → n.six ≡ o.six → n.marks ≡ o.marks → o.clock ≤ n.clock
    → kept_slots4 n.clock o.four.slots ≡ map (live4 n.clock) (kept_slots4 o.clock o.four.slots)
    → kept_slots6 n.clock o.six.slots ≡ map (live6 n.clock) (kept_slots6 o.clock o.six.slots)
    → IsReadyFor region (Some o) → IsReadyFor region (Some n)
later_ready o n region four six marks later kept4 kept6 ready =
    let counts : counts_in n ≡ counts_in o = λ i. (four i).pool.count ∷ (six i).pool.count ∷ [] in
    let slots = ready.2.slots in (
      ready.0,
      (subst (λ m. AreMarks (counts_in n) region.byte m) (sym marks) (subst (λ cs. AreMarks cs region.byte o.marks) (sym counts) ready.1)),
      record {
        slots = slots;
        recovers = ap (λ cs. recovered cs region.byte) counts ∙ ready.2.recovers;
        later = omega (arith, ready.2.later, later);
        four = sym (later_map4 o.clock n.clock slots.four later) ∙ ap (map (live4 n.clock)) ready.2.four ∙ sym kept4 ∙ ap (λ v. kept_slots4 n.clock v.slots) (sym four);
        six = sym (later_map6 o.clock n.clock slots.six later) ∙ ap (map (live6 n.clock)) ready.2.six ∙ sym kept6 ∙ ap (λ v. kept_slots6 n.clock v.slots) (sym six);
      },
      ready.3,
    )
