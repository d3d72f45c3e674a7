-- The calls of a function that makes those of two others.
use Rattle.std.proofs.Common.{◌≡◌, ℕ, ◌+◌, ◌-◌, ◌≤◌, Bool, true, false, Result, Ok, Err, ap, ◌∙◌, arith}
use Rattle.std.specs.Prelude.{◌==◌, IsErr}
use Rattle.lease_disk.specs.Device.{Device, MakesCalls}
use Rattle.lease_disk.specs.Region.{effective, one_more_at}

both_answer : (m n k k1 : ℕ) (b : Bool) → k1 ≡ k - m → true ≡ (effective m k == 0) → b ≡ (effective n k1 == 0) → b ≡ (effective (m + n) k == 0)
both_answer m n k k1 true f e e1 = grind (arith, f, e, e1)
both_answer m n k k1 false f e e1 = grind (arith, f, e, e1)

comes_past : (m n k k1 : ℕ) → k1 ≡ k - m → false ≡ (effective n k1 == 0) → k1 + m ≡ k
comes_past m n k k1 f e = grind (arith, f, e)

stops_within : (m n k : ℕ) → m ≤ n → false ≡ (effective m k == 0) → false ≡ (effective n k == 0)
stops_within m n k less e = grind (arith, less, e)

-- the first m did not fail
pub calls_then : {T E A B : Type 0} → (tells : Bool) (m n r : ℕ) (x : A) (result : Result T E) (old middle new : Device)
    → MakesCalls {T = A} {E = B} tells m r (Ok x) old middle → MakesCalls tells n r result middle new → MakesCalls tells (m + n) r result old new
calls_then tells m n r x (Ok y) old middle new f g = record {
  answer = λ t. both_answer m n (old.failing_call r) (middle.failing_call r) true (f.failing_call t) (f.answer t) (g.answer t);
  failing_call = λ t. let a = f.failing_call t in let b = g.failing_call t in omega (arith, a, b);
  writes = omega (arith, f.writes, g.writes);
  most = omega (arith, f.most, g.most);
  last = λ t. tt;
  failures = g.failures ∙ f.failures;
}
calls_then tells m n r x (Err e) old middle new f g = record {
  answer = λ t. both_answer m n (old.failing_call r) (middle.failing_call r) false (f.failing_call t) (f.answer t) (g.answer t);
  failing_call = λ t. tt;
  writes = tt;
  most = omega (arith, f.most, g.most);
  last = λ t. let past = comes_past m n (old.failing_call r) (middle.failing_call r) (f.failing_call t) (g.answer t) in let last = g.last t in omega (arith, past, last, f.writes);
  failures = g.failures ∙ ap (one_more_at r) f.failures;
}

-- one of the first m failed
pub calls_stop : {T E A B : Type 0} → (tells : Bool) (m n r : ℕ) (e : B) (result : Result T E) (old new : Device) → IsErr result → m ≤ n
    → MakesCalls {T = A} {E = B} tells m r (Err e) old new → MakesCalls tells n r result old new
calls_stop tells m n r e (Ok x) old new is less f = absurd cc
calls_stop tells m n r e (Err d) old new is less f = record {
  answer = λ t. stops_within m n (old.failing_call r) less (f.answer t);
  failing_call = λ t. tt;
  writes = tt;
  most = omega (arith, f.most, less);
  last = f.last;
  failures = f.failures;
}
