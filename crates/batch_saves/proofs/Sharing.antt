-- Which shared sync fails, by the failing_calls before, and what is made of each part.
use Rattle.std.proofs.Common.{◌≡◌, ◌≢◌, ℕ, ◌+◌, ◌-◌, ◌<◌, ◌≤◌, ◌==◌, if◌then◌else◌, Bool, true, false, List, length, refl, sym, ap, ◌∙◌, subst, arith}
use Rattle.std.specs.List.{list_any}
use Rattle.std.proofs.lemmas.Bool.{false≢true}
use Rattle.lease_disk.specs.declared.content.Content.{Content}
use Rattle.lease_disk.specs.declared.content.Content.TheVariants.{Four, Six}
use Rattle.lease_disk.specs.declared.format2.steps.SaveStep.{SaveStep}
use Rattle.lease_disk.specs.declared.format2.steps.SaveStep.TheVariants.{Close, Fill, Open}
use Rattle.lease_disk.specs.declared.marks.Marks.{Marks}
use Rattle.lease_disk.specs.declared.saving.Saving.{Saving}
use Rattle.lease_disk.specs.Device.{Device, TouchesAll, is_in}
use Rattle.lease_disk.specs.Layout.{half2}
use Rattle.lease_disk.specs.Region.{Region, effective}
use Rattle.lease_disk.specs.Save.{Fits, IsSaveOf, mark_at, other}
use Rattle.lease_disk.specs.SaveSteps.{marks_after}
use Rattle.lease_disk.proofs.Halves.{counting_sequence}
use Rattle.batch_saves.specs.Batch.{IsReady, IsSavedPart, first_of, failing_calls_of, part_at, regions_of, shared_fault}
use Rattle.batch_saves.specs.Seen.{Seen, seen}
use Rattle.batch_saves.specs.Steps.{AreStepped, Change, IsTurned, KeepsOthers, call_of, change_of}
use Rattle.batch_saves.proofs.Ending.{Ends, IsGiven, ends, shared_of}
use Rattle.batch_saves.proofs.Parts.{any_part, none_of}
use Rattle.batch_saves.proofs.Passing.{Pass, Passed, pass_cases, pass_out}
use Rattle.batch_saves.proofs.Stepping.{kept_after}
use Rattle.batch_saves.proofs.Syncing.{seen_failures, seen_failing_call, seen_region}

either : (k : ℕ) (P : Type 0) → (k ≡ 0 → P) → (k ≢ 0 → P) → P
either k P at_zero elsewhere = by (k == 0) refl where
  by : (b : Bool) → (k == 0) ≡ b → P
  by true e = at_zero (grind (arith, e))
  by false e = elsewhere (λ z. absurd (grind (arith, e, z)))

slot_within : (s : ℕ) (content : Content) → Fits s content → s < 32
slot_within s (Four slot) below = omega (arith, below)
slot_within s (Six slot) within = within.1

-- ---- the failing_call of a region after a step that its part passed

module _ (tells : Bool) (c : Change) (step : SaveStep) (fails : Bool) (was now : ℕ) (old new : Seen) (pass : Pass tells c step fails was now old new) (saving : was ≡ 0) where
  pub failing_call_after : tells ≡ true → now ≡ 0 → new.failing_call ≡ old.failing_call - 2
  failing_call_after t zero = pass_cases tells c step fails was now old new pass saving (new.failing_call ≡ old.failing_call - 2)
      (λ w. absurd (not_zero now (w.failed) zero)) (λ y. absurd (not_zero_next now (y.failed) zero)) (λ x. x.failing_call t) where
        not_zero : (n : ℕ) → n ≡ call_of step → n ≡ 0 → ⊥
        not_zero n e z = by step e where
          by : (s : SaveStep) → n ≡ call_of s → ⊥
          by Close k = absurd (omega (arith, k, z))
          by Fill k = absurd (omega (arith, k, z))
          by Open k = absurd (omega (arith, k, z))

        not_zero_next : (n : ℕ) → n ≡ call_of step + 1 → n ≡ 0 → ⊥
        not_zero_next n e z = absurd (omega (arith, e, z))

  -- one whose failing_call is not 1 passes where the sync does not fail
  pub passes : tells ≡ true → old.failing_call ≢ 1 → fails ≡ false → Passed tells c step fails now old new
  passes t other fine = pass_cases tells c step fails was now old new pass saving (Passed tells c step fails now old new)
      (λ w. absurd (other (w.one t))) (λ y. absurd (false≢true (sym fine ∙ y.does_fail))) (λ x. x)

-- ---- the three steps of a batch

module _ (tells : Bool) (p0 p1 p2 p3 : List Saving) (d0 d1 d2 d3 : Device)
    (size1 : length p1 ≡ length p0) (size2 : length p2 ≡ length p1) (size3 : length p3 ≡ length p2)
    (close : AreStepped tells Close p0 p1 d0 d1) (fill : AreStepped tells Fill p1 p2 d1 d2) (open_gates : AreStepped tells Open p2 p3 d2 d3)
    (fresh : (i : ℕ) → i < length p0 → (part_at p0 i).failed ≡ 0) where
  in1 : (i : ℕ) → i < length p0 → i < length p1
  in1 i below = subst (λ n. i < n) (sym size1) below

  in2 : (i : ℕ) → i < length p0 → i < length p2
  in2 i below = subst (λ n. i < n) (sym (size2 ∙ size1)) below

  from1 : (i : ℕ) → i < length p1 → i < length p0
  from1 i below = subst (λ n. i < n) size1 below

  from2 : (i : ℕ) → i < length p2 → i < length p0
  from2 i below = subst (λ n. i < n) (size2 ∙ size1) below

  region_in : ℕ → ℕ
  region_in i = (part_at p0 i).region

  same1 : (i : ℕ) → i < length p0 → part_at p1 i ≡ record (part_at p0 i) { failed = (part_at p1 i).failed }
  same1 i below = (close.parts i below).part

  same2 : (i : ℕ) → i < length p0 → part_at p2 i ≡ record (part_at p0 i) { failed = (part_at p2 i).failed }
  same2 i below = (fill.parts i (in1 i below)).part ∙ ap (λ (p : Saving). record p { failed = (part_at p2 i).failed }) (same1 i below)

  same3 : (i : ℕ) → i < length p0 → part_at p3 i ≡ record (part_at p0 i) { failed = (part_at p3 i).failed }
  same3 i below = (open_gates.parts i (in2 i below)).part ∙ ap (λ (p : Saving). record p { failed = (part_at p3 i).failed }) (same2 i below)

  pass1 : (i : ℕ) → i < length p0 → Pass tells (change_of (part_at p0 i)) Close close.fails (part_at p0 i).failed (part_at p1 i).failed (seen tells d0 (part_at p0 i).region) (seen tells d1 (part_at p0 i).region)
  pass1 i below = let one = close.parts i below in record { failed = one.failed; between = one.between; write = one.write; sync = one.sync }

  pass2 : (i : ℕ) → i < length p0 → Pass tells (change_of (part_at p0 i)) Fill fill.fails (part_at p1 i).failed (part_at p2 i).failed (seen tells d1 (part_at p0 i).region) (seen tells d2 (part_at p0 i).region)
  pass2 i below = let one = fill.parts i (in1 i below) in
      subst (λ (p : Saving). Pass tells (change_of p) Fill fill.fails (part_at p1 i).failed (part_at p2 i).failed (seen tells d1 p.region) (seen tells d2 p.region)) (same1 i below)
      (record { failed = one.failed; between = one.between; write = one.write; sync = one.sync })

  pass3 : (i : ℕ) → i < length p0 → Pass tells (change_of (part_at p0 i)) Open open_gates.fails (part_at p2 i).failed (part_at p3 i).failed (seen tells d2 (part_at p0 i).region) (seen tells d3 (part_at p0 i).region)
  pass3 i below = let one = open_gates.parts i (in2 i below) in
      subst (λ (p : Saving). Pass tells (change_of p) Open open_gates.fails (part_at p2 i).failed (part_at p3 i).failed (seen tells d2 p.region) (seen tells d3 p.region)) (same2 i below)
      (record { failed = one.failed; between = one.between; write = one.write; sync = one.sync })

  quiet1 : (i : ℕ) → i < length p0 → tells ≡ true → close.fails ≡ false → (seen tells d0 (part_at p0 i).region).failing_call ≢ 2
  quiet1 i below t fine = close.quiet t fine i below (fresh i below)

  quiet2 : (i : ℕ) → i < length p0 → tells ≡ true → fill.fails ≡ false → (part_at p1 i).failed ≡ 0 → (seen tells d1 (part_at p0 i).region).failing_call ≢ 2
  quiet2 i below t fine zero = subst (λ (p : Saving). (seen tells d1 p.region).failing_call ≢ 2) (same1 i below) (fill.quiet t fine i (in1 i below) zero)

  quiet3 : (i : ℕ) → i < length p0 → tells ≡ true → open_gates.fails ≡ false → (part_at p2 i).failed ≡ 0 → (seen tells d2 (part_at p0 i).region).failing_call ≢ 2
  quiet3 i below t fine zero = subst (λ (p : Saving). (seen tells d2 p.region).failing_call ≢ 2) (same2 i below) (open_gates.quiet t fine i (in2 i below) zero)

  -- ---- how a part ends

  module _ (i : ℕ) (below : i < length p0) (given : tells ≡ true → IsGiven (part_at p0 i) (seen tells d0 (part_at p0 i).region).region) where
    pub ends_at : Ends tells (part_at p0 i) (seen tells d0 (part_at p0 i).region) given (shared_of close.fails fill.fails open_gates.fails) (part_at p3 i).failed (seen tells d3 (part_at p0 i).region)
    ends_at =
        ends tells (part_at p0 i) (seen tells d0 (part_at p0 i).region) given close.fails fill.fails open_gates.fails (part_at p0 i).failed (part_at p1 i).failed (part_at p2 i).failed (part_at p3 i).failed
        (seen tells d1 (part_at p0 i).region) (seen tells d2 (part_at p0 i).region) (seen tells d3 (part_at p0 i).region) (fresh i below) (pass1 i below) (pass2 i below) (pass3 i below)
        (quiet1 i below) (quiet2 i below) (quiet3 i below)

  -- ---- which shared sync fails

  module _ (t : tells ≡ true) where
    failing_call0 : (i : ℕ) → (seen tells d0 (part_at p0 i).region).failing_call ≡ d0.failing_call (part_at p0 i).region
    failing_call0 i = seen_failing_call tells d0 (part_at p0 i).region t

    has : (n i : ℕ) → i < length p0 → (seen tells d0 (part_at p0 i).region).failing_call ≡ n → list_any (λ f. f == n) (failing_calls_of d0 p0) ≡ true
    has n i below is = any_part (λ p. d0.failing_call p.region) n p0 i below (sym (failing_call0 i) ∙ is)

    lacks : (n : ℕ) → ((i : ℕ) → i < length p0 → (seen tells d0 (part_at p0 i).region).failing_call ≢ n) → list_any (λ f. f == n) (failing_calls_of d0 p0) ≡ false
    lacks n none = none_of (λ p. d0.failing_call p.region) n p0 (λ i below is. none i below (failing_call0 i ∙ is))

    -- a part that is still saving after the first step
    second : (i : ℕ) → i < length p0 → (part_at p1 i).failed ≡ 0 → (seen tells d1 (part_at p0 i).region).failing_call ≡ (seen tells d0 (part_at p0 i).region).failing_call - 2
    second i below zero = failing_call_after tells (change_of (part_at p0 i)) Close close.fails (part_at p0 i).failed (part_at p1 i).failed (seen tells d0 (part_at p0 i).region) (seen tells d1 (part_at p0 i).region) (pass1 i below) (fresh i below) t zero

    third : (i : ℕ) → i < length p0 → (part_at p1 i).failed ≡ 0 → (part_at p2 i).failed ≡ 0 → (seen tells d2 (part_at p0 i).region).failing_call ≡ (seen tells d1 (part_at p0 i).region).failing_call - 2
    third i below before zero = failing_call_after tells (change_of (part_at p0 i)) Fill fill.fails (part_at p1 i).failed (part_at p2 i).failed (seen tells d1 (part_at p0 i).region) (seen tells d2 (part_at p0 i).region) (pass2 i below) before t zero

    by_close : close.fails ≡ true → list_any (λ f. f == 2) (failing_calls_of d0 p0) ≡ true
    by_close fails = let found = close.cause t fails in has 2 found.0 found.1.0 found.1.2

    by_fill : fill.fails ≡ true → list_any (λ f. f == 4) (failing_calls_of d0 p0) ≡ true
    by_fill fails =
        let found = fill.cause t fails in
        let i = found.0 in
        let below = from1 i found.1.0 in
        let two : (seen tells d1 (part_at p0 i).region).failing_call ≡ 2 = sym (ap (λ (p : Saving). (seen tells d1 p.region).failing_call) (same1 i below)) ∙ found.1.2 in
        let burnt = second i below found.1.1 in
        has 4 i below (omega (arith, burnt, two))

    was_unsaved : (i : ℕ) → i < length p0 → (part_at p2 i).failed ≡ 0 → (part_at p1 i).failed ≡ 0
    was_unsaved i below zero = by ((part_at p1 i).failed == 0) refl where
      by : (b : Bool) → ((part_at p1 i).failed == 0) ≡ b → (part_at p1 i).failed ≡ 0
      by true e = grind (arith, e)
      by false e =
          let some : (part_at p1 i).failed ≢ 0 = λ z. absurd (grind (arith, e, z)) in
          absurd (some (sym (pass_out tells (change_of (part_at p0 i)) Fill fill.fails (part_at p1 i).failed (part_at p2 i).failed (seen tells d1 (part_at p0 i).region) (seen tells d2 (part_at p0 i).region) (pass2 i below) some).0 ∙ zero))

    by_open : open_gates.fails ≡ true → list_any (λ f. f == 6) (failing_calls_of d0 p0) ≡ true
    by_open fails =
        let found = open_gates.cause t fails in
        let i = found.0 in
        let below = from2 i found.1.0 in
        let two : (seen tells d2 (part_at p0 i).region).failing_call ≡ 2 = sym (ap (λ (p : Saving). (seen tells d2 p.region).failing_call) (same2 i below)) ∙ found.1.2 in
        let before = was_unsaved i below found.1.1 in
        let burnt = second i below before in
        let again = third i below before found.1.1 in
        has 6 i below (omega (arith, burnt, again, two))

    no_close : close.fails ≡ false → list_any (λ f. f == 2) (failing_calls_of d0 p0) ≡ false
    no_close fine = lacks 2 (λ i below. quiet1 i below t fine)

    -- a part whose failing_call is above 2 passes the first step
    after1 : close.fails ≡ false → (i : ℕ) → i < length p0 → (seen tells d0 (part_at p0 i).region).failing_call ≢ 1 → Passed tells (change_of (part_at p0 i)) Close close.fails (part_at p1 i).failed (seen tells d0 (part_at p0 i).region) (seen tells d1 (part_at p0 i).region)
    after1 fine i below other = passes tells (change_of (part_at p0 i)) Close close.fails (part_at p0 i).failed (part_at p1 i).failed (seen tells d0 (part_at p0 i).region) (seen tells d1 (part_at p0 i).region) (pass1 i below) (fresh i below) t other fine

    no_fill : close.fails ≡ false → fill.fails ≡ false → list_any (λ f. f == 4) (failing_calls_of d0 p0) ≡ false
    no_fill fine also = lacks 4 (λ i below four.
        let x = after1 fine i below (λ one. absurd (omega (arith, one, four))) in
        let burnt = x.failing_call t in
        quiet2 i below t also x.failed (omega (arith, burnt, four)))

    no_open : close.fails ≡ false → fill.fails ≡ false → open_gates.fails ≡ false → list_any (λ f. f == 6) (failing_calls_of d0 p0) ≡ false
    no_open fine also last = lacks 6 (λ i below six.
        let x = after1 fine i below (λ one. absurd (omega (arith, one, six))) in
        let burnt = x.failing_call t in
        let y = passes tells (change_of (part_at p0 i)) Fill fill.fails (part_at p1 i).failed (part_at p2 i).failed (seen tells d1 (part_at p0 i).region) (seen tells d2 (part_at p0 i).region) (pass2 i below) x.failed t (λ one. absurd (omega (arith, one, burnt, six))) also in
        let again = y.failing_call t in
        quiet3 i below t last y.failed (omega (arith, burnt, again, six)))

    faults : (a b c : Bool) → close.fails ≡ a → fill.fails ≡ b → open_gates.fails ≡ c → shared_of a b c ≡ shared_fault (failing_calls_of d0 p0)
    faults true b c e1 e2 e3 = sym (ap (λ x. shared_of x (list_any (λ f. f == 4) (failing_calls_of d0 p0)) (list_any (λ f. f == 6) (failing_calls_of d0 p0))) (by_close e1))
    faults false true c e1 e2 e3 =
        sym (ap (λ x. shared_of x (list_any (λ f. f == 4) (failing_calls_of d0 p0)) (list_any (λ f. f == 6) (failing_calls_of d0 p0))) (no_close e1)
        ∙ ap (λ x. shared_of false x (list_any (λ f. f == 6) (failing_calls_of d0 p0))) (by_fill e2))
    faults false false true e1 e2 e3 =
        sym (ap (λ x. shared_of x (list_any (λ f. f == 4) (failing_calls_of d0 p0)) (list_any (λ f. f == 6) (failing_calls_of d0 p0))) (no_close e1)
        ∙ ap (λ x. shared_of false x (list_any (λ f. f == 6) (failing_calls_of d0 p0))) (no_fill e1 e2)
        ∙ ap (λ x. shared_of false false x) (by_open e3))
    faults false false false e1 e2 e3 =
        sym (ap (λ x. shared_of x (list_any (λ f. f == 4) (failing_calls_of d0 p0)) (list_any (λ f. f == 6) (failing_calls_of d0 p0))) (no_close e1)
        ∙ ap (λ x. shared_of false x (list_any (λ f. f == 6) (failing_calls_of d0 p0))) (no_fill e1 e2)
        ∙ ap (λ x. shared_of false false x) (no_open e1 e2 e3))

    pub shared_is : shared_of close.fails fill.fails open_gates.fails ≡ shared_fault (failing_calls_of d0 p0)
    shared_is = faults close.fails fill.fails open_gates.fails refl refl refl

  -- ---- what is made of one part

  module _ (i : ℕ) (below : i < length p0) (ready : IsReady tells d0 (part_at p0 i)) (p4 : Saving) (turned : IsTurned (part_at p3 i) p4) where
    known : tells ≡ true → IsGiven (part_at p0 i) (seen tells d0 (part_at p0 i).region).region
    known t =
        let w = ((close.parts i below).write.still (fresh i below)).1 in
        subst (λ (r : Region). IsGiven (part_at p0 i) r) (sym (seen_region tells d0 (part_at p0 i).region t))
        (record { two = ready.save.format t; mark_is = ready.save.mark t; clean = ready.save.clean t; fits = ready.save.fits; key = w.key; small = w.clock; size = w.size })

    end : Ends tells (part_at p0 i) (seen tells d0 (part_at p0 i).region) known (shared_of close.fails fill.fails open_gates.fails) (part_at p3 i).failed (seen tells d3 (part_at p0 i).region)
    end = ends_at i below known

    k_is : p4.failed ≡ (part_at p3 i).failed
    k_is = ap (λ (p : Saving). p.failed) turned.part

    marks_stay : (part_at p3 i).marks ≡ (part_at p0 i).marks
    marks_stay = ap (λ (p : Saving). p.marks) (same3 i below)

    slot_stays : (part_at p3 i).slot ≡ (part_at p0 i).slot
    slot_stays = ap (λ (p : Saving). p.slot) (same3 i below)

    few_sequences : tells ≡ true → (mark_at (part_at p0 i).marks (part_at p0 i).slot).sequence ≤ 2
    few_sequences t = let mark = ready.save.mark t in
        subst (λ n. n ≤ 2) (sym mark.sequence)
        (counting_sequence (half2 (d0.region (part_at p0 i).region).byte (part_at p0 i).slot (mark_at (part_at p0 i).marks (part_at p0 i).slot).half)
        (half2 (d0.region (part_at p0 i).region).byte (part_at p0 i).slot (other (mark_at (part_at p0 i).marks (part_at p0 i).slot).half)) mark.counting)

    there : (part_at p3 i).failed ≡ 0 → (part_at p0 i).slot < length (part_at p0 i).marks.slots
    there zero =
        let all : length (part_at p0 i).marks.slots ≡ 32 = sym (ap (λ (m : Marks). length m.slots) marks_stay) ∙ turned.all zero in
        subst (λ n. (part_at p0 i).slot < n) (sym all) (slot_within (part_at p0 i).slot (part_at p0 i).content ready.save.fits)

    where_saved : tells ≡ true → (part_at p3 i).failed ≡ 0
        → IsSaveOf (part_at p3 i).failed (part_at p0 i).clock (part_at p0 i).slot (part_at p0 i).content (part_at p0 i).marks p4.marks (seen tells d0 (part_at p0 i).region).region (seen tells d3 (part_at p0 i).region).region
    where_saved t zero =
        let few = subst (λ (p : Saving). (mark_at p.marks p.slot).sequence ≤ 2) (sym (same3 i below)) (few_sequences t) in
        let marks : p4.marks ≡ marks_after (part_at p0 i).marks (part_at p0 i).slot = turned.after zero few ∙ ap (λ (p : Saving). marks_after p.marks p.slot) (same3 i below) in
        subst (λ k. IsSaveOf k (part_at p0 i).clock (part_at p0 i).slot (part_at p0 i).content (part_at p0 i).marks p4.marks (seen tells d0 (part_at p0 i).region).region (seen tells d3 (part_at p0 i).region).region) (sym zero)
        (subst (λ (m : Marks). IsSaveOf 0 (part_at p0 i).clock (part_at p0 i).slot (part_at p0 i).content (part_at p0 i).marks m (seen tells d0 (part_at p0 i).region).region (seen tells d3 (part_at p0 i).region).region) (sym marks)
        (end.done t zero (there zero)))

    where_failed : tells ≡ true → (part_at p3 i).failed ≢ 0
        → IsSaveOf (part_at p3 i).failed (part_at p0 i).clock (part_at p0 i).slot (part_at p0 i).content (part_at p0 i).marks p4.marks (seen tells d0 (part_at p0 i).region).region (seen tells d3 (part_at p0 i).region).region
    where_failed t some =
        subst (λ (m : Marks). IsSaveOf (part_at p3 i).failed (part_at p0 i).clock (part_at p0 i).slot (part_at p0 i).content (part_at p0 i).marks m (seen tells d0 (part_at p0 i).region).region (seen tells d3 (part_at p0 i).region).region) (sym (turned.kept some ∙ marks_stay))
        (end.left t some)

    pub saved_part : IsSavedPart tells (shared_fault (failing_calls_of d0 p0)) (part_at p0 i) p4 d0 d3
    saved_part = record {
      part = turned.part ∙ ap (λ (p : Saving). record p { marks = p4.marks }) (same3 i below) ∙ ap (λ n. record (part_at p0 i) { marks = p4.marks; failed = n }) (sym k_is);
      failed = λ t. k_is ∙ end.failed t ∙ ap (λ n. first_of (effective 6 n) (shared_of close.fails fill.fails open_gates.fails)) (seen_failing_call tells d0 (part_at p0 i).region t)
          ∙ ap (first_of (effective 6 (d0.failing_call (part_at p0 i).region))) (shared_is t);
      most = subst (λ n. n ≤ 6) (sym k_is) end.most;
      saved = λ t. subst (λ k. IsSaveOf k (part_at p0 i).clock (part_at p0 i).slot (part_at p0 i).content (part_at p0 i).marks p4.marks (d0.region (part_at p0 i).region) (d3.region (part_at p0 i).region)) (sym k_is)
          (subst (λ (r : Region). IsSaveOf (part_at p3 i).failed (part_at p0 i).clock (part_at p0 i).slot (part_at p0 i).content (part_at p0 i).marks p4.marks r (d3.region (part_at p0 i).region)) (seen_region tells d0 (part_at p0 i).region t)
          (subst (λ (r : Region). IsSaveOf (part_at p3 i).failed (part_at p0 i).clock (part_at p0 i).slot (part_at p0 i).content (part_at p0 i).marks p4.marks (seen tells d0 (part_at p0 i).region).region r) (seen_region tells d3 (part_at p0 i).region t)
          (either (part_at p3 i).failed _ (where_saved t) (where_failed t))));
      failing_call = λ t. sym (seen_failing_call tells d3 (part_at p0 i).region t) ∙ end.failing_call t ∙ ap (λ n. n - (if (part_at p3 i).failed == 0 then 6 else (part_at p3 i).failed)) (seen_failing_call tells d0 (part_at p0 i).region t)
          ∙ ap (λ k. d0.failing_call (part_at p0 i).region - (if k == 0 then 6 else k)) (sym k_is);
      kept = λ some. turned.kept (λ z. some (k_is ∙ z)) ∙ marks_stay;
      failures = sym (seen_failures tells d3 (part_at p0 i).region) ∙ end.failures ∙ ap (λ n. n + (if (part_at p3 i).failed == 0 then 0 else 1)) (seen_failures tells d0 (part_at p0 i).region)
          ∙ ap (λ k. d0.failures (part_at p0 i).region + (if k == 0 then 0 else 1)) (sym k_is);
    }

  -- ---- what is left alone

  module _ (keeps1 : KeepsOthers tells p0 d0 d1) (keeps2 : KeepsOthers tells p1 d1 d2) (keeps3 : KeepsOthers tells p2 d2 d3) where
    keeps : KeepsOthers tells p0 d0 d3
    keeps = kept_after p0 p2 (size2 ∙ size1) same2 tells d0 d2 d3 (kept_after p0 p1 size1 same1 tells d0 d1 d2 keeps1 keeps2) keeps3

    not_listed : (q : ℕ) → is_in (regions_of p0) q ≡ false → (i : ℕ) → i < length p0 → (part_at p0 i).region ≢ q
    not_listed q outside i below is = absurd (false≢true (sym outside ∙ any_part (λ p. p.region) q p0 i below is))

    pub touches : TouchesAll tells (regions_of p0) d0 d3
    touches = record {
      count = keeps.count;
      reads = keeps.reads;
      region = λ t q outside. sym (seen_region tells d3 q t) ∙ ap (λ (s : Seen). s.region) (keeps.others q (not_listed q outside)) ∙ seen_region tells d0 q t;
      failing_call = λ t q outside. sym (seen_failing_call tells d3 q t) ∙ ap (λ (s : Seen). s.failing_call) (keeps.others q (not_listed q outside)) ∙ seen_failing_call tells d0 q t;
    }

    pub counts_stay : (q : ℕ) → is_in (regions_of p0) q ≡ false → d3.failures q ≡ d0.failures q
    counts_stay q outside = sym (seen_failures tells d3 q) ∙ ap (λ (s : Seen). s.failures) (keeps.others q (not_listed q outside)) ∙ seen_failures tells d0 q
