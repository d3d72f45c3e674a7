-- What a service's clock shows, by readings of the system's clock and of a monotonic one. All times are in nanoseconds.
use Rattle.std.specs.Prelude.{ℕ, ◌+◌, ◌-◌, ◌/◌, min, Bool, ◌||◌, nat_lt, if◌then◌else◌, Option, Some, None, unwrap_or}
use Rattle.std.specs.Duration.{max_nanos}

pub record Shown : Type 0 where
  -- the time since 1970, once the system's clock was read
  pub time : Option ℕ
  -- the last reading of the monotonic clock
  pub monotonic : Option ℕ
  -- by how much the system's clock was ahead of it or behind it at the last reading; 0 where it was followed
  pub ahead : ℕ
  pub behind : ℕ

-- before the first reading
abbrev pub unset : Shown
unset = record { time = None; monotonic = None; ahead = 0; behind = 0 }

-- A time goes on by as much as the monotonic clock did since its last reading, if there was one.
abbrev pub later : ℕ → Option ℕ → Option ℕ → Option ℕ
later now (Some before) (Some time) = Some (min (time + (now - before)) max_nanos)
later now (Some before) None = None
later now None time = time

-- after a reading of the monotonic clock
abbrev pub gone_on : ℕ → Shown → Shown
gone_on now shown = record shown { time = later now shown.monotonic shown.time; monotonic = Some now }

-- two times are further apart than a minute
abbrev pub are_apart : ℕ → ℕ → Bool
are_apart one other = nat_lt 60000000000 (one - other) || nat_lt 60000000000 (other - one)

-- after a reading of the system's clock, of which the first is followed: it goes by its own time if the two are too far apart
abbrev pub beside : ℕ → Shown → Shown
beside system shown =
    if are_apart system (unwrap_or shown.time system)
    then record shown {
      time = Some (unwrap_or shown.time system);
      ahead = system - unwrap_or shown.time system;
      behind = unwrap_or shown.time system - system;
    }
    else record shown { time = Some system; ahead = 0; behind = 0 }

-- a clock that could not be read changes nothing
abbrev pub if_read : (ℕ → Shown → Shown) → Option ℕ → Shown → Shown
if_read step None shown = shown
if_read step (Some reading) shown = step reading shown

-- after a reading of both, the system's clock and the monotonic one
abbrev pub after : Shown → Option ℕ → Option ℕ → Shown
after shown system monotonic = if_read beside system (if_read gone_on monotonic shown)

abbrev pub seconds_in : Shown → ℕ
seconds_in shown = unwrap_or shown.time 0 / 1000000000

-- the moment that it shows, which is at most the last one
abbrev pub moment_in : Shown → ℕ
moment_in shown = min (seconds_in shown) 1099511627775

abbrev pub is_past_end : Shown → Bool
is_past_end shown = nat_lt 1099511627775 (seconds_in shown)

-- it does not go by the system's clock
abbrev pub is_apart : Shown → Bool
is_apart shown = nat_lt 0 shown.ahead || nat_lt 0 shown.behind
