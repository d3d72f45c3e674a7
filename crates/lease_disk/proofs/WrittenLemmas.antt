-- A write and the sync after it.
use Rattle.std.proofs.Common.{◌≡◌, ℕ, ◌+◌, ◌-◌, Bool, true, false, not, List, length, Result, Ok, Err, OnOk, OnErr, refl, sym, ap, ◌∙◌, subst, arith}
use Rattle.std.specs.Prelude.{◌==◌, is_ok, IsErr}
use Rattle.lease_disk.specs.Device.{Device, Touches, IsWritten}
use Rattle.lease_disk.specs.Region.{Region, written, synced, IsTorn, effective, faults_after, one_more_at}
use Rattle.lease_disk.proofs.Frames.{touches_then}

first_fails : (failing_call : ℕ) → false ≡ not (failing_call == 1) → false ≡ (effective 2 failing_call == 0)
first_fails failing_call e = grind (arith, e)

second_is : (b : Bool) (failing_call : ℕ) → true ≡ not (failing_call == 1) → b ≡ not (failing_call - 1 == 1) → b ≡ (effective 2 failing_call == 0)
second_is true failing_call e f = grind (arith, e, f)
second_is false failing_call e f = grind (arith, e, f)

torn : (at : ℕ) (bytes : List ℕ) (old : Region) → IsTorn at (length bytes) old (written at bytes old)
torn at bytes old = record { byte = λ i h. rw h refl; unsynced = λ i. refl; readable = refl }

is_first : (failing_call : ℕ) → false ≡ not (failing_call == 1) → failing_call ≡ 1
is_first failing_call e = grind (arith, e)

is_second : (failing_call : ℕ) → false ≡ not (failing_call - 1 == 1) → failing_call ≡ 2
is_second failing_call e = grind (arith, e)

not_second : (failing_call : ℕ) → true ≡ not (failing_call - 1 == 1) → failing_call ≡ 2 → ⊥
not_second failing_call e two = grind (arith, e, two)

two_calls : (failing_call middle new : ℕ) → middle ≡ failing_call - 1 → new ≡ middle - 1 → new ≡ failing_call - 2
two_calls failing_call middle new e f = omega arith

two_more : (old middle new : ℕ) → middle ≡ old + 1 → new ≡ middle + 1 → new ≡ old + 2
two_more old middle new e f = omega arith

-- the write did not fail
pub record IsWrite (tells : Bool) (r at : ℕ) (bytes : List ℕ) (old new : Device) : Type 0 where
  pub ok : tells ≡ true → new.region r ≡ written at bytes (old.region r)
  pub answer : tells ≡ true → true ≡ not (old.failing_call r == 1)
  pub failing_call : tells ≡ true → new.failing_call r ≡ old.failing_call r - 1
  pub frame : Touches tells r old new
  pub writes : new.writes ≡ old.writes + 1
  pub failures : new.failures ≡ old.failures

pub record IsSync {T E : Type 0} (tells : Bool) (r : ℕ) (result : Result T E) (old new : Device) : Type 0 where
  pub ok : tells ≡ true → OnOk result (new.region r ≡ synced (old.region r))
  pub err : tells ≡ true → OnErr result (new.region r ≡ old.region r)
  pub answer : tells ≡ true → is_ok result ≡ not (old.failing_call r == 1)
  pub failing_call : tells ≡ true → new.failing_call r ≡ old.failing_call r - 1
  pub frame : Touches tells r old new
  pub writes : new.writes ≡ old.writes + 1
  pub failures : new.failures ≡ faults_after r result old.failures

pub then_synced : {T E : Type 0} → (tells : Bool) (r at : ℕ) (bytes : List ℕ) (result : Result T E) (old middle new : Device)
    → IsWrite tells r at bytes old middle → IsSync tells r result middle new → IsWritten tells r at bytes result old new
then_synced tells r at bytes (Ok x) old middle new w s = record {
  ok = λ t. s.ok t ∙ ap synced (w.ok t);
  err = λ t. tt;
  reads = λ t two. absurd (not_second (old.failing_call r) (rw (w.failing_call t) at s.answer t) two);
  frame = touches_then tells r old middle new w.frame s.frame;
  calls = record {
    answer = λ t. second_is true (old.failing_call r) (w.answer t) (rw (w.failing_call t) at s.answer t);
    failing_call = λ t. two_calls (old.failing_call r) (middle.failing_call r) (new.failing_call r) (w.failing_call t) (s.failing_call t);
    writes = two_more old.writes middle.writes new.writes w.writes s.writes;
    most = omega (arith, w.writes, s.writes);
    last = λ t. tt;
    failures = s.failures ∙ w.failures;
  };
}
then_synced tells r at bytes (Err x) old middle new w s = record {
  ok = λ t. tt;
  err = λ t. subst (λ (region : Region). IsTorn at (length bytes) (old.region r) region) (sym (s.err t ∙ w.ok t)) (torn at bytes (old.region r));
  reads = λ t two. s.err t ∙ w.ok t;
  frame = touches_then tells r old middle new w.frame s.frame;
  calls = record {
    answer = λ t. second_is false (old.failing_call r) (w.answer t) (rw (w.failing_call t) at s.answer t);
    failing_call = λ t. tt;
    writes = tt;
    most = omega (arith, w.writes, s.writes);
    last = λ t. let failing_call : old.failing_call r ≡ 2 = is_second (old.failing_call r) (rw (w.failing_call t) at s.answer t) in omega (arith, w.writes, s.writes, failing_call);
    failures = s.failures ∙ ap (one_more_at r) w.failures;
  };
}

pub not_written : {T E : Type 0} → (tells : Bool) (r at : ℕ) (bytes : List ℕ) (result : Result T E) (old new : Device) → IsErr result
    → (tells ≡ true → IsTorn at (length bytes) (old.region r) (new.region r)) → (tells ≡ true → false ≡ not (old.failing_call r == 1))
    → Touches tells r old new → new.writes ≡ old.writes + 1 → new.failures ≡ one_more_at r old.failures
    → IsWritten tells r at bytes result old new
not_written tells r at bytes (Ok x) old new is torn answer frame writes failures = absurd cc
not_written tells r at bytes (Err e) old new is torn answer frame writes failures = record {
  ok = λ t. tt;
  err = torn;
  reads = λ t two. let one = is_first (old.failing_call r) (answer t) in absurd (omega (arith, one, two));
  frame = frame;
  calls = record {
    answer = λ t. first_fails (old.failing_call r) (answer t);
    failing_call = λ t. tt;
    writes = tt;
    most = omega (arith, writes);
    last = λ t. let failing_call : old.failing_call r ≡ 1 = is_first (old.failing_call r) (answer t) in omega (arith, writes, failing_call);
    failures = failures;
  };
}
