-- What a step does to a part that is still saving: its write fails, or the sync, or neither.
use Rattle.std.proofs.Common.{◌≡◌, ◌≢◌, ℕ, ◌+◌, ◌-◌, Bool, true, false, length, refl, sym, ap, ◌∙◌, subst, arith}
use Rattle.lease_disk.specs.declared.format2.steps.SaveStep.{SaveStep}
use Rattle.lease_disk.specs.declared.format2.steps.SaveStep.TheVariants.{Close, Fill, Open}
use Rattle.lease_disk.specs.Region.{IsTorn, synced, written}
use Rattle.batch_saves.specs.Seen.{Seen}
use Rattle.batch_saves.specs.Steps.{Change, IsSyncOf, IsSyncPart, IsWriteOf, IsWritePart, bytes_in, call_of, place_in}

call_some : (step : SaveStep) (n : ℕ) → n ≡ call_of step → n ≢ 0
call_some Close n e z = absurd (omega (arith, e, z))
call_some Fill n e z = absurd (omega (arith, e, z))
call_some Open n e z = absurd (omega (arith, e, z))

module _ (tells : Bool) (c : Change) where
  pub record Pass (step : SaveStep) (fails : Bool) (was now : ℕ) (old new : Seen) : Type 0 where
    pub failed : ℕ
    pub between : Seen
    pub write : IsWriteOf tells step c was failed old between
    pub sync : IsSyncOf tells step fails failed now between new

  pub record WriteFailed (step : SaveStep) (now : ℕ) (old new : Seen) : Type 0 where
    pub failed : now ≡ call_of step
    pub torn : tells ≡ true → IsTorn (place_in step c) (length (bytes_in step c)) old.region new.region
    pub one : tells ≡ true → old.failing_call ≡ 1
    pub failing_call : tells ≡ true → new.failing_call ≡ old.failing_call - 1
    pub failures : new.failures ≡ old.failures + 1

  pub record SyncFailed (step : SaveStep) (fails : Bool) (now : ℕ) (old new : Seen) : Type 0 where
    pub failed : now ≡ call_of step + 1
    pub does_fail : fails ≡ true
    pub region : tells ≡ true → new.region ≡ written (place_in step c) (bytes_in step c) old.region
    pub other : tells ≡ true → old.failing_call ≢ 1
    pub failing_call : tells ≡ true → new.failing_call ≡ old.failing_call - 2
    pub failures : new.failures ≡ old.failures + 1

  pub record Passed (step : SaveStep) (fails : Bool) (now : ℕ) (old new : Seen) : Type 0 where
    pub failed : now ≡ 0
    pub does_not_fail : fails ≡ false
    pub region : tells ≡ true → new.region ≡ synced (written (place_in step c) (bytes_in step c) old.region)
    pub other : tells ≡ true → old.failing_call ≢ 1
    pub failing_call : tells ≡ true → new.failing_call ≡ old.failing_call - 2
    pub failures : new.failures ≡ old.failures

  -- one that failed before is left alone
  pub pass_out : (step : SaveStep) (fails : Bool) (was now : ℕ) (old new : Seen) → Pass step fails was now old new → was ≢ 0 → (now ≡ was) × (new ≡ old)
  pass_out step fails was now old new pass some =
      let first = pass.write.out some in
      let second = pass.sync.out (λ zero. some (sym first.0 ∙ zero)) in
      (second.0 ∙ first.0, second.1 ∙ first.1)

  module _ (step : SaveStep) (fails : Bool) (was now : ℕ) (old new : Seen) (pass : Pass step fails was now old new) (zero : was ≡ 0) (Q : Type 0)
      (on_write : WriteFailed step now old new → Q) (on_sync : SyncFailed step fails now old new → Q) (on_none : Passed step fails now old new → Q) where
    by_sync : (b : Bool) → fails ≡ b → IsWritePart tells step c false pass.failed old pass.between → IsSyncPart tells step b now pass.between new → Q
    by_sync true is w y = on_sync (record {
      failed = y.failed;
      does_fail = is;
      region = λ t. y.region t ∙ w.ok t refl;
      other = λ t one. let answer = w.answer t in absurd (grind (arith, answer, one));
      failing_call = λ t. let a = y.failing_call t in let b = w.failing_call t in omega (arith, a, b);
      failures = y.failures ∙ ap (λ n. n + 1) w.failures;
    })
    by_sync false is w y = on_none (record {
      failed = y.failed;
      does_not_fail = is;
      region = λ t. y.region t ∙ ap synced (w.ok t refl);
      other = λ t one. let answer = w.answer t in absurd (grind (arith, answer, one));
      failing_call = λ t. let a = y.failing_call t in let b = w.failing_call t in omega (arith, a, b);
      failures = y.failures ∙ w.failures;
    })

    by_write : (b : Bool) → IsWritePart tells step c b pass.failed old pass.between → Q
    by_write true w =
        let rest = pass.sync.out (call_some step pass.failed w.failed) in
        on_write (record {
          failed = rest.0 ∙ w.failed;
          torn = λ t. subst (λ (s : Seen). IsTorn (place_in step c) (length (bytes_in step c)) old.region s.region) (sym rest.1) (w.err t refl);
          one = λ t. let answer = w.answer t in grind (arith, answer);
          failing_call = λ t. ap (λ (s : Seen). s.failing_call) rest.1 ∙ w.failing_call t;
          failures = ap (λ (s : Seen). s.failures) rest.1 ∙ w.failures;
        })
    by_write false w = by_sync fails refl w (pass.sync.still w.failed)

    pub pass_cases : Q
    pass_cases = by_write (pass.write.still zero).0 (pass.write.still zero).1
