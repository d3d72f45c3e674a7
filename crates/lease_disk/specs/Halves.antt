-- The halves of all slots, one after the other, as both formats are read.
use Rattle.std.specs.Prelude.{◌≡◌, ◌<◌, ℕ, ◌+◌, ◌-◌, ◌/◌, ◌%◌, Bool, nat_lt, if◌then◌else◌, List, Option, Some}
use Rattle.lease_disk.specs.declared.half.Half.{Half}
use Rattle.lease_disk.specs.declared.half.Half.TheVariants.{First, Second}
use Rattle.lease_disk.specs.Layout.{bank_place, half, half2, with_halves}
use Rattle.lease_disk.specs.Recovered.{counting_clock}

-- they are those of a region, which may have its slots in banks
pub record AreHalves (halves : List ℕ) (region : ℕ → ℕ) : Type 0 where
  pub each : (s : ℕ) (h : Half) → s < 32 → half2 (with_halves halves) s h ≡ half region s h

-- where both banks keep the i-th byte of the halves
abbrev pub place : ℕ → ℕ
place i = if nat_lt (i % 512) 256 then bank_place (i / 512) (i % 512) else 4096 + bank_place (i / 512) (i % 512 - 256)

-- the clock of a region as a whole, by its format and halves
abbrev pub clock_by : Bool → List ℕ → Option ℕ
clock_by two halves = if two then Some 0 else counting_clock (half2 (with_halves halves) 0 First) (half2 (with_halves halves) 0 Second)
