-- How often a save of one slot calls the device.
use Rattle.std.proofs.Common.{◌≡◌, ◌∙◌, ◌+◌, ◌≤◌, ◌==◌, ◌||◌, ◌&&◌, nat_lt, not, ℕ, Bool, true, false, refl, sym, ap, arith}
use Rattle.std.specs.Prelude.{Some, None, Result, Ok, Err, OnOk, is_ok, if◌then◌else◌}
use Rattle.std.proofs.lemmas.Bool.{eq-eqb, le-ltb, lt-ltb}
use Rattle.lease_disk.specs.Device.{Device, Touches}
use Rattle.lease_disk.specs.Region.{faults_after}
use Rattle.circuit_server.specs.Calls.{IsCalledToSaveAt}
use Rattle.circuit_server.proofs.AnswerLemmas.{counted, either_way}

-- nothing is saved
pub called_none : (old new : Device) → new ≡ old → IsCalledToSaveAt None old new
called_none old new same =
    let writes = ap (λ (d : Device). d.writes) same in
    record {
      reads = ap (λ (d : Device). d.reads) same;
      writes = λ held. omega (arith, writes);
      most = omega (arith, writes);
      failures = λ r. let failures = ap (λ (d : Device). d.failures r) same in omega (arith, failures);
    }

on_ok : {T E : Type 0} {P : Type 0} (result : Result T E) → not (is_ok result) ≡ false → OnOk result P → P
on_ok (Ok value) ok holds = holds
on_ok (Err fault) ok holds = absurd cc

or_false : (b : Bool) → b ≡ (b || false)
or_false true = refl
or_false false = refl

-- a count of failures that is one more, or is as it was
pub raised_by : (here ok : Bool) (before after : ℕ) → after ≡ (if ok then before else if here then before + 1 else before) → after ≡ before + (if here && nat_lt before after then 1 else 0)
raised_by false ok before after is = by ok is where
  by : (b : Bool) → after ≡ (if b then before else before) → after ≡ before + 0
  by true same = omega (arith, same)
  by false same = omega (arith, same)
raised_by true true before after is =
    let none : nat_lt before after ≡ false = le-ltb before after (omega (arith, is)) in
    let same : after ≡ before + 0 = omega (arith, is) in
    same ∙ sym (ap (λ b. before + (if b then 1 else 0)) none)
raised_by true false before after is =
    let more : nat_lt before after ≡ true = lt-ltb before after (omega (arith, is)) in
    is ∙ sym (ap (λ b. before + (if b then 1 else 0)) more)

faults_at : {T E : Type 0} (result : Result T E) (r q : ℕ) (before : ℕ → ℕ) → faults_after r result before q ≡ (if is_ok result then before q else if (r == q || false) then before q + 1 else before q)
faults_at (Ok value) r q before = refl
faults_at (Err fault) r q before = ap (λ b. if b then before q + 1 else before q) (either_way r q ∙ or_false (r == q))

-- a slot of a region is
pub called_one : {T E : Type 0} (tells : Bool) (r : ℕ) (result : Result T E) (old new : Device) → Touches tells r old new → OnOk result (new.writes ≡ old.writes + 6) → new.writes ≤ old.writes + 6
    → new.failures ≡ faults_after r result old.failures → IsCalledToSaveAt (Some r) old new
called_one tells r result old new touches writes most failures = record {
  reads = touches.reads;
  writes = λ held. on_ok result (sym (counted result r old.failures new.failures failures) ∙ held r (ap (λ b. b || false) (eq-eqb r r refl))) writes;
  most = most;
  failures = λ q. raised_by (r == q || false) (is_ok result) (old.failures q) (new.failures q) (ap (λ (f : ℕ → ℕ). f q) failures ∙ faults_at result r q old.failures);
}
