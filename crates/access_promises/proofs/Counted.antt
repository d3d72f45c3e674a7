-- The device's failed calls of a circuit's region, and which of the circuit's saves failed.
use Rattle.std.proofs.Common.{◌≡◌, ◌∙◌, ℕ, ◌≤◌, ◌||◌, Bool, true, false, List, [], ◌++◌, nat_lt, refl, sym, ap, ap₂, arith}
use Rattle.std.specs.Prelude.{Some, slice_get}
use Rattle.std.specs.List.{list_any}
use Rattle.std.proofs.lemmas.Bool.{le-ltb, lt-ltb, ltb-false, ltb-true}
use Rattle.std.proofs.lemmas.List.Folds.{list_any-append}
use Rattle.config.specs.CircuitPart.{CircuitPart}
use Rattle.config.specs.Topology.{Topology}
use Rattle.lease_disk.specs.Device.{Device, has_failed}
use Rattle.access_promises.specs.Exchanges.{Exchange, failed_saves}
use Rattle.access_promises.proofs.StepLemmas.{mapped}

-- A call of its region failed exactly if one of its saves did.
pub record Counts (topology : Topology) (c : ℕ) (part : CircuitPart) (xs : List Exchange) (was later : Device) : Type 0 where
  pub grows : was.failures part.region ≤ later.failures part.region
  pub failed : has_failed was later part.region ≡ list_any (λ f. f) (failed_saves topology c xs)

abbrev pub CountsEach : Topology → List Exchange → Device → Device → Type 0
CountsEach topology xs was later = (c : ℕ) (part : CircuitPart) → slice_get topology.circuits c ≡ Some part → Counts topology c part xs was later

pub counts_none : (topology : Topology) (was : Device) → CountsEach topology [] was was
counts_none topology was c part there = record { grows = omega arith; failed = le-ltb (was.failures part.region) (was.failures part.region) (omega arith) }

-- of two stretches one after the other
either : (a b c : ℕ) → a ≤ b → b ≤ c → nat_lt a c ≡ (nat_lt a b || nat_lt b c)
either a b c one two = by (nat_lt a b) (nat_lt b c) refl refl where
  by : (first second : Bool) → nat_lt a b ≡ first → nat_lt b c ≡ second → nat_lt a c ≡ (first || second)
  by true second is is_second = let less = ltb-true a b is in lt-ltb a c (omega (arith, less, two))
  by false true is is_second = let less = ltb-true b c is_second in lt-ltb a c (omega (arith, less, one))
  by false false is is_second =
      let first = ltb-false a b is in
      let second = ltb-false b c is_second in le-ltb a c (omega (arith, first, second))

pub counts_then : (topology : Topology) (xs ys : List Exchange) (old middle new : Device) → CountsEach topology xs old middle → CountsEach topology ys middle new → CountsEach topology (xs ++ ys) old new
counts_then topology xs ys old middle new first second c part there =
    let one = first c part there in
    let two = second c part there in
    let r = part.region in
    let grew = one.grows in
    let grows = two.grows in
    record {
      grows = omega (arith, grew, grows);
      failed = either (old.failures r) (middle.failures r) (new.failures r) grew grows
          ∙ (ap₂ (λ (a b : Bool). a || b) one.failed two.failed
          ∙ (sym (list_any-append (λ f. f) (failed_saves topology c xs) (failed_saves topology c ys)) ∙ ap (list_any (λ f. f)) (sym (mapped topology c part (λ (x : Exchange). x.failed) xs ys))));
    }
