-- When reports are due.
use Rattle.std.specs.Prelude.{ℕ, ◌+◌, Bool, false, nat_le, nat_lt, if◌then◌else◌, Option, Some, None}
use Rattle.reports.specs.declared.schedule.Schedule.{Schedule}

-- before the first look
abbrev pub no_report_yet : ℕ → Schedule
no_report_yet every = record { every = every; due = None }

-- the moment from which on the next one is due has come
abbrev pub has_come : Option ℕ → ℕ → Bool
has_come None now = false
has_come (Some due) now = nat_le due now

-- a report is due at a look: there are reports, and the moment of the next one has come; at the first look none is
abbrev pub is_due : Schedule → ℕ → Bool
is_due schedule now = if nat_lt 0 schedule.every then has_come schedule.due now else false

-- when the next one is due after a look: so many seconds after the first look, and after each look at which one was due
abbrev pub next_due : Option ℕ → ℕ → ℕ → Option ℕ
next_due None every now = Some (now + every)
next_due (Some due) every now = if nat_le due now then Some (now + every) else Some due

abbrev pub looked_at : Schedule → ℕ → Schedule
looked_at schedule now =
    record schedule { due = if nat_lt 0 schedule.every then next_due schedule.due schedule.every now else schedule.due }
