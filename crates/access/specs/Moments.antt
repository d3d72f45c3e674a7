-- The moments of turns, which the system's clock gives, and of passes, which the service's clock does.
use Rattle.std.specs.Prelude.{◌≡◌, ◌/◌, ℕ, List, Option, Some, None, nat_le, if◌then◌else◌}
use Rattle.udp.specs.History.{Entry, Monotonic, Read, with_entry}
use Rattle.service_clock.specs.Shown.{Shown, after, moment_in}

-- the moment at so many seconds since 1970, or the one before where it is past the last
abbrev pub moment_of : ℕ → ℕ → ℕ
moment_of seconds before = if nat_le seconds 1099511627775 then seconds else before

-- the moment by a reading in nanoseconds, or the one before where the clock could not be read
abbrev pub moment_at : Option ℕ → ℕ → ℕ
moment_at None before = before
moment_at (Some nanoseconds) before = moment_of (nanoseconds / 1000000000) before

-- The clock was read once, and gave this moment.
pub record HasRead (before now : ℕ) (old new : List Entry) : Type 0 where
  pub reading : Option ℕ
  pub entry : new ≡ with_entry (Read reading) old
  pub moment : now ≡ moment_at reading before

-- Both clocks were read once, the system's first; the service's clock followed them, and shows this moment.
pub record HasReadClocks (now : ℕ) (clock followed : Shown) (old new : List Entry) : Type 0 where
  pub system : Option ℕ
  pub monotonic : Option ℕ
  pub entries : new ≡ with_entry (Monotonic monotonic) (with_entry (Read system) old)
  pub follows : followed ≡ after clock system monotonic
  pub moment : now ≡ moment_in followed
