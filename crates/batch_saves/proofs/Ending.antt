-- What the three steps make of one part and of its region.
use Rattle.std.proofs.Common.{◌≡◌, ◌≢◌, ℕ, ◌+◌, ◌-◌, ◌<◌, ◌≤◌, ◌==◌, if◌then◌else◌, Bool, true, false, List, length, drop, slice_index, refl, sym, ap, ◌∙◌, subst, arith}
use Rattle.lease_disk.specs.declared.format2.steps.SaveStep.TheVariants.{Close, Fill, Open}
use Rattle.lease_disk.specs.declared.saving.Saving.{Saving}
use Rattle.lease_disk.specs.Keys.{HasKey}
use Rattle.lease_disk.specs.Layout.{is_format2}
use Rattle.lease_disk.specs.Recovered.{next}
use Rattle.lease_disk.specs.Region.{IsClean, IsTorn, Region, effective, synced, written}
use Rattle.lease_disk.specs.Save.{Fits, IsMark, IsSaveOf, gate_at, mark_at, other}
use Rattle.lease_disk.specs.SaveSteps.{marks_after, saved_half}
use Rattle.lease_disk.proofs.Exits.{IsSave}
use Rattle.lease_disk.proofs.SaveExits.{save_closing, save_done, save_opening, save_writing}
use Rattle.batch_saves.specs.Batch.{first_of}
use Rattle.batch_saves.specs.Seen.{Seen}
use Rattle.batch_saves.specs.Steps.{bytes_in, change_of, place_in}
use Rattle.batch_saves.proofs.Passing.{Pass, Passed, SyncFailed, WriteFailed, pass_cases, pass_out}

-- ---- a write whose sync failed

torn_written : (at : ℕ) (bytes : List ℕ) (r new : Region) → new ≡ written at bytes r → IsTorn at (length bytes) r new
torn_written at bytes r new is = subst (λ (x : Region). IsTorn at (length bytes) r x) (sym is) (record {
  byte = λ i outside. ap (λ b. if b then slice_index bytes (i - at) else r.byte i) outside;
  unsynced = λ i. refl;
  readable = refl;
})

-- ---- which call failed

some_call : (k : ℕ) → 1 ≤ k → (k == 0) ≡ false
some_call k least = grind (arith, least)

calls : (k n : ℕ) → 1 ≤ k → n - k ≡ n - (if k == 0 then 6 else k)
calls k n least = ap (λ b. n - (if b then 6 else k)) (sym (some_call k least))

counted : (k n : ℕ) → 1 ≤ k → n + 1 ≡ n + (if k == 0 then 0 else 1)
counted k n least = ap (λ b. n + (if b then 0 else 1)) (sym (some_call k least))

-- ---- which call fails first

abbrev pub shared_of : Bool → Bool → Bool → ℕ
shared_of a b c = if a then 2 else if b then 4 else if c then 6 else 0

first_1 : (f : ℕ) (b c d : Bool) → f ≡ 1 → 1 ≡ first_of (effective 6 f) (shared_of b c d)
first_1 f true c d is = ap (λ n. first_of (effective 6 n) 2) (sym is)
first_1 f false true d is = ap (λ n. first_of (effective 6 n) 4) (sym is)
first_1 f false false true is = ap (λ n. first_of (effective 6 n) 6) (sym is)
first_1 f false false false is = ap (λ n. first_of (effective 6 n) 0) (sym is)

first_2 : (f : ℕ) (c d : Bool) → f ≢ 1 → 2 ≡ first_of (effective 6 f) 2
first_2 f c d other = grind (arith, other)

first_3 : (f : ℕ) (c d : Bool) → f ≡ 3 → 3 ≡ first_of (effective 6 f) (shared_of false c d)
first_3 f true d is = ap (λ n. first_of (effective 6 n) 4) (sym is)
first_3 f false true is = ap (λ n. first_of (effective 6 n) 6) (sym is)
first_3 f false false is = ap (λ n. first_of (effective 6 n) 0) (sym is)

first_4 : (f : ℕ) → f ≢ 1 → f ≢ 2 → f ≢ 3 → 4 ≡ first_of (effective 6 f) 4
first_4 f a b c = grind (arith, a, b, c)

first_5 : (f : ℕ) (d : Bool) → f ≡ 5 → 5 ≡ first_of (effective 6 f) (shared_of false false d)
first_5 f true is = ap (λ n. first_of (effective 6 n) 6) (sym is)
first_5 f false is = ap (λ n. first_of (effective 6 n) 0) (sym is)

first_6 : (f : ℕ) → f ≢ 1 → f ≢ 2 → f ≢ 3 → f ≢ 4 → f ≢ 5 → 6 ≡ first_of (effective 6 f) 6
first_6 f a b c d e = grind (arith, a, b, c, d, e)

first_none : (f : ℕ) → f ≢ 1 → f ≢ 2 → f ≢ 3 → f ≢ 4 → f ≢ 5 → f ≢ 6 → 0 ≡ first_of (effective 6 f) 0
first_none f a b c d e g = grind (arith, a, b, c, d, e, g)

-- ---- one part

-- what is known of a part and its region before
pub record IsGiven (p : Saving) (r : Region) : Type 0 where
  pub two : is_format2 r.byte ≡ true
  pub mark_is : IsMark r.byte p.slot (mark_at p.marks p.slot)
  pub clean : IsClean r
  pub fits : Fits p.slot p.content
  pub key : HasKey p.content
  pub small : p.clock ≤ 1099511627775
  pub size : length (saved_half (mark_at p.marks p.slot) p.clock p.content) ≡ 256

module _ (tells : Bool) (p : Saving) (s : Seen) (given : tells ≡ true → IsGiven p s.region) where
  whole : List ℕ
  whole = saved_half (mark_at p.marks p.slot) p.clock p.content

  at : ℕ
  at = gate_at p.slot (mark_at p.marks p.slot)

  is_save : tells ≡ true → IsSave p.slot (mark_at p.marks p.slot) (gate_at p.slot (mark_at p.marks p.slot)) (next (mark_at p.marks p.slot).sequence) p.clock p.content
      (saved_half (mark_at p.marks p.slot) p.clock p.content) (drop 1 (saved_half (mark_at p.marks p.slot) p.clock p.content)) s.region
  is_save t = let known = given t in record {
    at_is = refl;
    two = known.two;
    mark_is = known.mark_is;
    clean = known.clean;
    whole_is = refl;
    size = known.size;
    bytes_are = refl;
    n_is = λ small. refl;
    fits = known.fits;
    key = known.key;
    small = known.small;
  }

  -- what is left, where the k-th call failed, or none
  pub record Ends (shared k : ℕ) (new : Seen) : Type 0 where
    pub most : k ≤ 6
    pub failed : tells ≡ true → k ≡ first_of (effective 6 s.failing_call) shared
    pub failing_call : tells ≡ true → new.failing_call ≡ s.failing_call - (if k == 0 then 6 else k)
    pub failures : new.failures ≡ s.failures + (if k == 0 then 0 else 1)
    pub left : tells ≡ true → k ≢ 0 → IsSaveOf k p.clock p.slot p.content p.marks p.marks s.region new.region
    pub done : tells ≡ true → k ≡ 0 → p.slot < length p.marks.slots → IsSaveOf 0 p.clock p.slot p.content p.marks (marks_after p.marks p.slot) s.region new.region

  -- a call of the first step failed
  closing : (shared k : ℕ) (new : Seen) → 1 ≤ k → k ≤ 2
      → (tells ≡ true → k ≡ first_of (effective 6 s.failing_call) shared) → (tells ≡ true → new.failing_call ≡ s.failing_call - k) → new.failures ≡ s.failures + 1
      → (tells ≡ true → IsTorn (place_in Close (change_of p)) (length (bytes_in Close (change_of p))) s.region new.region)
      → (tells ≡ true → k ≡ 2 → new.region ≡ written (place_in Close (change_of p)) (bytes_in Close (change_of p)) s.region) → Ends shared k new
  closing shared k new least most failed failing_call failures torn reads = record {
    most = omega (arith, most);
    failed = failed;
    failing_call = λ t. failing_call t ∙ calls k s.failing_call least;
    failures = failures ∙ counted k s.failures least;
    left = λ t some. save_closing p.slot p.marks (gate_at p.slot (mark_at p.marks p.slot)) (next (mark_at p.marks p.slot).sequence) p.clock p.content (saved_half (mark_at p.marks p.slot) p.clock p.content) (drop 1 (saved_half (mark_at p.marks p.slot) p.clock p.content)) s.region
        (is_save t) k new.region some (grind (arith, least, most)) (torn t) (reads t);
    done = λ t zero. absurd (omega (arith, zero, least));
  }

  -- a call of the second
  filling : (shared k : ℕ) (mid new : Seen) → 3 ≤ k → k ≤ 4
      → (tells ≡ true → k ≡ first_of (effective 6 s.failing_call) shared) → (tells ≡ true → new.failing_call ≡ s.failing_call - k) → new.failures ≡ s.failures + 1
      → (tells ≡ true → mid.region ≡ synced (written (place_in Close (change_of p)) (bytes_in Close (change_of p)) s.region))
      → (tells ≡ true → IsTorn (place_in Fill (change_of p)) (length (bytes_in Fill (change_of p))) mid.region new.region)
      → (tells ≡ true → k ≡ 4 → new.region ≡ written (place_in Fill (change_of p)) (bytes_in Fill (change_of p)) mid.region) → Ends shared k new
  filling shared k mid new least most failed failing_call failures closed torn reads = record {
    most = omega (arith, most);
    failed = failed;
    failing_call = λ t. failing_call t ∙ calls k s.failing_call (omega (arith, least));
    failures = failures ∙ counted k s.failures (omega (arith, least));
    left = λ t some. save_writing p.slot p.marks (gate_at p.slot (mark_at p.marks p.slot)) (next (mark_at p.marks p.slot).sequence) p.clock p.content (saved_half (mark_at p.marks p.slot) p.clock p.content) (drop 1 (saved_half (mark_at p.marks p.slot) p.clock p.content)) s.region
        (is_save t) mid.region (closed t) k (k - 2) new.region some refl (grind (arith, least, most)) (torn t) (λ two. reads t (omega (arith, two, least)));
    done = λ t zero. absurd (omega (arith, zero, least));
  }

  -- a call of the third
  opening : (shared k : ℕ) (mid full new : Seen) → 5 ≤ k → k ≤ 6
      → (tells ≡ true → k ≡ first_of (effective 6 s.failing_call) shared) → (tells ≡ true → new.failing_call ≡ s.failing_call - k) → new.failures ≡ s.failures + 1
      → (tells ≡ true → mid.region ≡ synced (written (place_in Close (change_of p)) (bytes_in Close (change_of p)) s.region))
      → (tells ≡ true → full.region ≡ synced (written (place_in Fill (change_of p)) (bytes_in Fill (change_of p)) mid.region))
      → (tells ≡ true → IsTorn (place_in Open (change_of p)) 1 full.region new.region)
      → (tells ≡ true → k ≡ 6 → new.region ≡ written (place_in Open (change_of p)) (bytes_in Open (change_of p)) full.region) → Ends shared k new
  opening shared k mid full new least most failed failing_call failures closed filled torn reads = record {
    most = most;
    failed = failed;
    failing_call = λ t. failing_call t ∙ calls k s.failing_call (omega (arith, least));
    failures = failures ∙ counted k s.failures (omega (arith, least));
    left = λ t some. save_opening p.slot p.marks (gate_at p.slot (mark_at p.marks p.slot)) (next (mark_at p.marks p.slot).sequence) p.clock p.content (saved_half (mark_at p.marks p.slot) p.clock p.content) (drop 1 (saved_half (mark_at p.marks p.slot) p.clock p.content)) s.region
        (is_save t) mid.region (closed t) full.region (filled t) k (k - 2) (k - 2 - 2) new.region some refl refl (grind (arith, least, most)) (torn t) (λ two. reads t (omega (arith, two, least)));
    done = λ t zero. absurd (omega (arith, zero, least));
  }

  -- none failed
  saving : (shared : ℕ) (mid full new : Seen)
      → (tells ≡ true → 0 ≡ first_of (effective 6 s.failing_call) shared) → (tells ≡ true → new.failing_call ≡ s.failing_call - 6) → new.failures ≡ s.failures
      → (tells ≡ true → mid.region ≡ synced (written (place_in Close (change_of p)) (bytes_in Close (change_of p)) s.region))
      → (tells ≡ true → full.region ≡ synced (written (place_in Fill (change_of p)) (bytes_in Fill (change_of p)) mid.region))
      → (tells ≡ true → new.region ≡ synced (written (place_in Open (change_of p)) (bytes_in Open (change_of p)) full.region)) → Ends shared 0 new
  saving shared mid full new failed failing_call failures closed filled opened = record {
    most = omega arith;
    failed = failed;
    failing_call = failing_call;
    failures = omega (arith, failures);
    left = λ t some. absurd (some refl);
    done = λ t zero there. save_done p.slot p.marks (gate_at p.slot (mark_at p.marks p.slot)) (next (mark_at p.marks p.slot).sequence) p.clock p.content (saved_half (mark_at p.marks p.slot) p.clock p.content) (drop 1 (saved_half (mark_at p.marks p.slot) p.clock p.content)) s.region
        (is_save t) mid.region (closed t) full.region (filled t) new.region (opened t) (other (mark_at p.marks p.slot).half) refl there;
  }

  -- ---- the three steps, one after the other

  module _ (b1 b2 b3 : Bool) (f0 f1 f2 f3 : ℕ) (s1 s2 s3 : Seen) (zero : f0 ≡ 0)
      (pass1 : Pass tells (change_of p) Close b1 f0 f1 s s1) (pass2 : Pass tells (change_of p) Fill b2 f1 f2 s1 s2) (pass3 : Pass tells (change_of p) Open b3 f2 f3 s2 s3)
      (quiet1 : tells ≡ true → b1 ≡ false → s.failing_call ≢ 2) (quiet2 : tells ≡ true → b2 ≡ false → f1 ≡ 0 → s1.failing_call ≢ 2) (quiet3 : tells ≡ true → b3 ≡ false → f2 ≡ 0 → s2.failing_call ≢ 2) where
    first_is : (x y z : Bool) → b1 ≡ x → b2 ≡ y → b3 ≡ z → (k : ℕ) → k ≡ first_of (effective 6 s.failing_call) (shared_of x y z) → k ≡ first_of (effective 6 s.failing_call) (shared_of b1 b2 b3)
    first_is x y z e1 e2 e3 k is =
        is ∙ sym (ap (λ b. first_of (effective 6 s.failing_call) (shared_of b b2 b3)) e1 ∙ ap (λ b. first_of (effective 6 s.failing_call) (shared_of x b b3)) e2 ∙ ap (λ b. first_of (effective 6 s.failing_call) (shared_of x y b)) e3)

    ended : (k : ℕ) (t : Seen) (m : ℕ) (u : Seen) → m ≡ k → u ≡ t → Ends (shared_of b1 b2 b3) k t → Ends (shared_of b1 b2 b3) m u
    ended k t m u number place e = subst (λ n. Ends (shared_of b1 b2 b3) n u) (sym number) (subst (λ (x : Seen). Ends (shared_of b1 b2 b3) k x) (sym place) e)

    after2 : f2 ≢ 0 → Ends (shared_of b1 b2 b3) f2 s2 → Ends (shared_of b1 b2 b3) f3 s3
    after2 some e = let out = pass_out tells (change_of p) Open b3 f2 f3 s2 s3 pass3 some in ended f2 s2 f3 s3 out.0 out.1 e

    after1 : f1 ≢ 0 → Ends (shared_of b1 b2 b3) f1 s1 → Ends (shared_of b1 b2 b3) f3 s3
    after1 some e =
        let out = pass_out tells (change_of p) Fill b2 f1 f2 s1 s2 pass2 some in
        after2 (λ z. some (sym out.0 ∙ z)) (ended f1 s1 f2 s2 out.0 out.1 e)

    write1 : WriteFailed tells (change_of p) Close f1 s s1 → Ends (shared_of b1 b2 b3) f3 s3
    write1 w = after1 (λ z. absurd (omega (arith, z, w.failed))) (ended 1 s1 f1 s1 w.failed refl
        (closing (shared_of b1 b2 b3) 1 s1 (omega arith) (omega arith) (λ t. first_1 s.failing_call b1 b2 b3 (w.one t)) w.failing_call w.failures w.torn (λ t two. absurd (omega (arith, two)))))

    sync1 : SyncFailed tells (change_of p) Close b1 f1 s s1 → Ends (shared_of b1 b2 b3) f3 s3
    sync1 y = after1 (λ z. absurd (omega (arith, z, y.failed))) (ended 2 s1 f1 s1 y.failed refl
        (closing (shared_of b1 b2 b3) 2 s1 (omega arith) (omega arith) (λ t. first_is true b2 b3 y.does_fail refl refl 2 (first_2 s.failing_call b2 b3 (y.other t))) y.failing_call y.failures
        (λ t. torn_written (place_in Close (change_of p)) (bytes_in Close (change_of p)) s.region s1.region (y.region t)) (λ t two. y.region t)))

    module _ (x1 : Passed tells (change_of p) Close b1 f1 s s1) where
      not_2 : tells ≡ true → s.failing_call ≢ 2
      not_2 t = quiet1 t x1.does_not_fail

      write2 : WriteFailed tells (change_of p) Fill f2 s1 s2 → Ends (shared_of b1 b2 b3) f3 s3
      write2 w = after2 (λ z. absurd (omega (arith, z, w.failed))) (ended 3 s2 f2 s2 w.failed refl
          (filling (shared_of b1 b2 b3) 3 s1 s2 (omega arith) (omega arith)
          (λ t. first_is false b2 b3 x1.does_not_fail refl refl 3 (first_3 s.failing_call b2 b3 (let a = x1.failing_call t in let b = w.one t in omega (arith, a, b))))
          (λ t. let a = x1.failing_call t in let b = w.failing_call t in omega (arith, a, b)) (let a = x1.failures in let b = w.failures in omega (arith, a, b)) x1.region w.torn (λ t four. absurd (omega (arith, four)))))

      sync2 : SyncFailed tells (change_of p) Fill b2 f2 s1 s2 → Ends (shared_of b1 b2 b3) f3 s3
      sync2 y = after2 (λ z. absurd (omega (arith, z, y.failed))) (ended 4 s2 f2 s2 y.failed refl
          (filling (shared_of b1 b2 b3) 4 s1 s2 (omega arith) (omega arith)
          (λ t. first_is false true b3 x1.does_not_fail y.does_fail refl 4 (first_4 s.failing_call (x1.other t) (not_2 t) (λ three. let a = x1.failing_call t in y.other t (omega (arith, a, three)))))
          (λ t. let a = x1.failing_call t in let b = y.failing_call t in omega (arith, a, b)) (let a = x1.failures in let b = y.failures in omega (arith, a, b)) x1.region
          (λ t. torn_written (place_in Fill (change_of p)) (bytes_in Fill (change_of p)) s1.region s2.region (y.region t)) (λ t four. y.region t)))

      module _ (x2 : Passed tells (change_of p) Fill b2 f2 s1 s2) where
        not_3 : tells ≡ true → s.failing_call ≢ 3
        not_3 t three = let a = x1.failing_call t in x2.other t (omega (arith, a, three))

        not_4 : tells ≡ true → s.failing_call ≢ 4
        not_4 t four = let a = x1.failing_call t in quiet2 t x2.does_not_fail x1.failed (omega (arith, a, four))

        write3 : WriteFailed tells (change_of p) Open f3 s2 s3 → Ends (shared_of b1 b2 b3) f3 s3
        write3 w = ended 5 s3 f3 s3 w.failed refl
            (opening (shared_of b1 b2 b3) 5 s1 s2 s3 (omega arith) (omega arith)
            (λ t. first_is false false b3 x1.does_not_fail x2.does_not_fail refl 5 (first_5 s.failing_call b3 (let a = x1.failing_call t in let b = x2.failing_call t in let d = w.one t in omega (arith, a, b, d))))
            (λ t. let a = x1.failing_call t in let b = x2.failing_call t in let d = w.failing_call t in omega (arith, a, b, d)) (let a = x1.failures in let b = x2.failures in let d = w.failures in omega (arith, a, b, d)) x1.region x2.region w.torn (λ t six. absurd (omega (arith, six))))

        sync3 : SyncFailed tells (change_of p) Open b3 f3 s2 s3 → Ends (shared_of b1 b2 b3) f3 s3
        sync3 y = ended 6 s3 f3 s3 y.failed refl
            (opening (shared_of b1 b2 b3) 6 s1 s2 s3 (omega arith) (omega arith)
            (λ t. first_is false false true x1.does_not_fail x2.does_not_fail y.does_fail 6
            (first_6 s.failing_call (x1.other t) (not_2 t) (not_3 t) (not_4 t) (λ five. let a = x1.failing_call t in let b = x2.failing_call t in y.other t (omega (arith, a, b, five)))))
            (λ t. let a = x1.failing_call t in let b = x2.failing_call t in let d = y.failing_call t in omega (arith, a, b, d)) (let a = x1.failures in let b = x2.failures in let d = y.failures in omega (arith, a, b, d)) x1.region x2.region
            (λ t. torn_written (place_in Open (change_of p)) (bytes_in Open (change_of p)) s2.region s3.region (y.region t)) (λ t six. y.region t))

        none3 : Passed tells (change_of p) Open b3 f3 s2 s3 → Ends (shared_of b1 b2 b3) f3 s3
        none3 x3 = ended 0 s3 f3 s3 x3.failed refl
            (saving (shared_of b1 b2 b3) s1 s2 s3
            (λ t. first_is false false false x1.does_not_fail x2.does_not_fail x3.does_not_fail 0
            (first_none s.failing_call (x1.other t) (not_2 t) (not_3 t) (not_4 t) (λ five. let a = x1.failing_call t in let b = x2.failing_call t in x3.other t (omega (arith, a, b, five)))
            (λ six. let a = x1.failing_call t in let b = x2.failing_call t in quiet3 t x3.does_not_fail x2.failed (omega (arith, a, b, six)))))
            (λ t. let a = x1.failing_call t in let b = x2.failing_call t in let d = x3.failing_call t in omega (arith, a, b, d)) (let a = x1.failures in let b = x2.failures in let d = x3.failures in omega (arith, a, b, d)) x1.region x2.region x3.region)

        ends3 : Ends (shared_of b1 b2 b3) f3 s3
        ends3 = pass_cases tells (change_of p) Open b3 f2 f3 s2 s3 pass3 x2.failed (Ends (shared_of b1 b2 b3) f3 s3) write3 sync3 none3

      ends2 : Ends (shared_of b1 b2 b3) f3 s3
      ends2 = pass_cases tells (change_of p) Fill b2 f1 f2 s1 s2 pass2 x1.failed (Ends (shared_of b1 b2 b3) f3 s3) write2 sync2 ends3

    pub ends : Ends (shared_of b1 b2 b3) f3 s3
    ends = pass_cases tells (change_of p) Close b1 f0 f1 s s1 pass1 zero (Ends (shared_of b1 b2 b3) f3 s3) write1 sync1 ends2
