-- What was seen of a circuit, and what is told of it.
use Rattle.std.specs.Prelude.{ℕ, Bool, true, false, is_none, Option, if◌then◌else◌}
use Rattle.types.specs.declared.slots.Slots.{Slots}
use Rattle.reports.specs.declared.seen.Full.{Full}
use Rattle.reports.specs.declared.seen.Reopening.{Reopening}
use Rattle.reports.specs.declared.seen.Reopening.TheVariants.{Opened, StaysClosed, Nothing}
use Rattle.reports.specs.declared.seen.Seen.{Seen}
use Rattle.reports.specs.Declined.{declined_after}
use Rattle.reports.specs.Once.{is_told, once, once_told}
use Rattle.reports.specs.Used.{is_full4, is_full6}

-- before the first look; it is never told of a circuit that has no slots then that it is closed
abbrev pub not_seen_yet : Option Slots → Seen
not_seen_yet slots = record {
  closed = once (is_none slots);
  stays = once false;
  full4 = once false;
  full6 = once false;
  declined = 0;
  received = 0;
  slots = slots;
}

-- it is told that a circuit has closed: it is closed, and was not before
abbrev pub told_closed : Seen → Bool → Bool
told_closed seen is_closed = is_told seen.closed is_closed

abbrev pub with_closed : Seen → Bool → Seen
with_closed seen is_closed = record seen { closed = once_told seen.closed is_closed }

-- what is told of a closed circuit that was tried again: that it is open, or, once, that it stays closed
abbrev pub told_reopening : Seen → Bool → Reopening
told_reopening seen is_open = if is_open then Opened else if is_told seen.stays true then StaysClosed else Nothing

-- once it is open, it is told again when it closes, and then when it stays closed
abbrev pub with_reopening : Seen → Bool → Seen
with_reopening seen is_open =
    if is_open then record seen { closed = once false; stays = once false }
    else record seen { stays = once_told seen.stays true }

-- it is told of a pool that it is full: it is, and was not at any look before
abbrev pub told_full : Seen → ℕ → ℕ → Slots → Full
told_full seen count4 count6 new = record {
  four = is_told seen.full4 (is_full4 new.four count4);
  six = is_told seen.full6 (is_full6 new.six count6);
}

-- what was declined since the slots of the last look is counted, up to the greatest 64-bit number
abbrev pub noticed : Seen → ℕ → ℕ → Slots → Seen
noticed seen count4 count6 new = record seen {
  full4 = once_told seen.full4 (is_full4 new.four count4);
  full6 = once_told seen.full6 (is_full6 new.six count6);
  declined = declined_after seen.slots new seen.declined;
}

-- what the next look is compared with
abbrev pub kept : Seen → Option Slots → ℕ → Seen
kept seen slots received = record seen { received = received; slots = slots }
