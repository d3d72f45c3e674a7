-- The moment at which the leases are listed, in seconds since 1970.
use Rattle.std.specs.Prelude.{ℕ, ◌/◌, Option, Some, None}
use Rattle.std.specs.Duration.{as_nanos}
use Rattle.std.specs.declared.time.Duration.{Duration}

-- the one that is given; without one the whole seconds of what the clock says, if it says anything
abbrev pub moment_of : Option ℕ → Option Duration → Option ℕ
moment_of (Some given) since_1970 = Some given
moment_of None (Some since_1970) = Some (as_nanos since_1970 / 1_000_000_000)
moment_of None None = None
