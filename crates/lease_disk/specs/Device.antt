-- A device of regions as contracts see it, and what a call leaves as it was. What is said of regions
-- and failing_calls is said of a device that tells; of one that does not, the counts alone are.
use Rattle.std.specs.Prelude.{◌≡◌, ◌≢◌, ℕ, ◌+◌, ◌-◌, ◌==◌, ◌≤◌, Bool, true, false, List, length, nat_lt, Option, Some, None, Result, is_ok, OnOk, OnErr, if◌then◌else◌}
use Rattle.std.specs.List.{list_any}
use Rattle.lease_disk.specs.Region.{Region, written, synced, IsTorn, effective, faults_after}

pub record Device : Type 0 where
  -- how many regions there are; the first is 0
  pub count : ℕ
  pub region : ℕ → Region
  -- which of the writes and syncs of a region from now on fails: 1 the next one, 0 none
  pub failing_call : ℕ → ℕ
  -- how many reads there were
  pub reads : ℕ
  -- how many writes and syncs there were
  pub writes : ℕ
  -- how many calls of each region returned a fault
  pub failures : ℕ → ℕ

-- whether a call of a region failed between two moments
abbrev pub has_failed : Device → Device → ℕ → Bool
has_failed old new r = nat_lt (old.failures r) (new.failures r)

-- nothing but the counts of reads and of failures
pub record TouchesNothing (tells : Bool) (old new : Device) : Type 0 where
  pub count : new.count ≡ old.count
  pub writes : new.writes ≡ old.writes
  pub region : tells ≡ true → new.region ≡ old.region
  pub failing_call : tells ≡ true → new.failing_call ≡ old.failing_call

-- nothing but one region, and the counts of writes and of failures
pub record Touches (tells : Bool) (r : ℕ) (old new : Device) : Type 0 where
  pub count : new.count ≡ old.count
  pub reads : new.reads ≡ old.reads
  pub region : tells ≡ true → (q : ℕ) → q ≢ r → new.region q ≡ old.region q
  pub failing_call : tells ≡ true → (q : ℕ) → q ≢ r → new.failing_call q ≡ old.failing_call q

-- nothing but one region, and the counts
pub record ChangesOne (tells : Bool) (r : ℕ) (old new : Device) : Type 0 where
  pub count : new.count ≡ old.count
  pub region : tells ≡ true → (q : ℕ) → q ≢ r → new.region q ≡ old.region q
  pub failing_call : tells ≡ true → (q : ℕ) → q ≢ r → new.failing_call q ≡ old.failing_call q

-- one of these regions
abbrev pub is_in : List ℕ → ℕ → Bool
is_in regions r = list_any (λ q. q == r) regions

-- nothing but these regions, and the counts of writes and of failures
pub record TouchesAll (tells : Bool) (regions : List ℕ) (old new : Device) : Type 0 where
  pub count : new.count ≡ old.count
  pub reads : new.reads ≡ old.reads
  pub region : tells ≡ true → (q : ℕ) → is_in regions q ≡ false → new.region q ≡ old.region q
  pub failing_call : tells ≡ true → (q : ℕ) → is_in regions q ≡ false → new.failing_call q ≡ old.failing_call q

-- a fault of a call that names these regions raises the count of each by one, and nothing else does
abbrev pub set_faults : {T E : Type 0} → List ℕ → Result T E → (ℕ → ℕ) → ℕ → ℕ
set_faults regions result failures = if is_ok result then failures else (λ q. if is_in regions q then failures q + 1 else failures q)

-- ---- Whether what a read of a region gives may not be on the disk, although no write since would say so: a region is settled where
-- that can't be.

-- no settled region comes to be in doubt
abbrev pub StaySettled : (ℕ → Bool) → (ℕ → Bool) → Type 0
StaySettled old new = (q : ℕ) → old q ≡ false → new q ≡ false

-- but this one
abbrev pub OthersStaySettled : ℕ → (ℕ → Bool) → (ℕ → Bool) → Type 0
OthersStaySettled r old new = (q : ℕ) → q ≢ r → old q ≡ false → new q ≡ false

-- but these
abbrev pub RestStaysSettled : List ℕ → (ℕ → Bool) → (ℕ → Bool) → Type 0
RestStaysSettled regions old new = (q : ℕ) → is_in regions q ≡ false → old q ≡ false → new q ≡ false

-- these are settled
abbrev pub AreSettled : List ℕ → (ℕ → Bool) → Type 0
AreSettled regions doubt = (q : ℕ) → is_in regions q ≡ true → doubt q ≡ false

-- no settled region comes to be in doubt but this one, and it only by a fault
pub record KeepsSettled {T E : Type 0} (r : ℕ) (result : Result T E) (old new : ℕ → Bool) : Type 0 where
  pub settled : OnOk result (StaySettled old new)
  pub stay : OthersStaySettled r old new

-- after Ok this region is settled, and each other one that was settled still is
pub record SettlesItsRegion {T E : Type 0} (r : ℕ) (result : Result T E) (old new : ℕ → Bool) : Type 0 where
  pub settled : OnOk result (new r ≡ false)
  pub stay : OthersStaySettled r old new

-- ---- How often a device was called.

-- by so many reads at least and at most, and by so many writes and syncs at most
pub record IsCalledWithin (fewest most calls : ℕ) (old new : Device) : Type 0 where
  pub least : old.reads + fewest ≤ new.reads
  pub reads : new.reads ≤ old.reads + most
  pub writes : new.writes ≤ old.writes + calls

-- writes one region, or nothing at all
abbrev pub WritesAt : Bool → Option ℕ → Device → Device → Type 0
WritesAt tells None old new = new ≡ old
WritesAt tells (Some r) old new = Touches tells r old new

-- A function makes n writes and syncs of region r, and none after one that fails. It returns Ok where none does.
pub record MakesCalls {T E : Type 0} (tells : Bool) (n r : ℕ) (result : Result T E) (old new : Device) : Type 0 where
  pub answer : tells ≡ true → is_ok result ≡ (effective n (old.failing_call r) == 0)
  pub failing_call : tells ≡ true → OnOk result (new.failing_call r ≡ old.failing_call r - n)
  pub writes : OnOk result (new.writes ≡ old.writes + n)
  pub most : new.writes ≤ old.writes + n
  pub last : tells ≡ true → OnErr result (new.writes ≡ old.writes + old.failing_call r)
  pub failures : new.failures ≡ faults_after r result old.failures

-- Bytes of region r were written from an offset on and synced; after a fault the range is in doubt.
pub record IsWritten {T E : Type 0} (tells : Bool) (r at : ℕ) (bytes : List ℕ) (result : Result T E) (old new : Device) : Type 0 where
  pub ok : tells ≡ true → OnOk result (new.region r ≡ synced (written at bytes (old.region r)))
  pub err : tells ≡ true → OnErr result (IsTorn at (length bytes) (old.region r) (new.region r))
  -- where the sync failed, reads give them
  pub reads : tells ≡ true → old.failing_call r ≡ 2 → new.region r ≡ written at bytes (old.region r)
  pub frame : Touches tells r old new
  pub calls : MakesCalls tells 2 r result old new
