-- A row of the table as a decision about slots: the one slot that is kept on the disk. Slot i is the pool's
-- address i; `first` is the address of slot 0.
use Rattle.std.specs.Prelude.{ℕ, ◌-◌, Option, Some, None}
use Rattle.types.specs.Key6.{Key6Value}
use Rattle.types.specs.declared.slot6.Slot6.TheVariants as content
use Rattle.exchange.specs.declared.request6.Reply6.{Reply6}
use Rattle.bindings_v6.specs.declared.decision6.Decision6.{Decision6}
use Rattle.bindings_v6.specs.declared.decision6.KeptSlot.{KeptSlot}
use Rattle.slots.specs.Row.{Change, Binds, Bars, Frees, Row}

abbrev pub keep_of : ℕ → Key6Value → Change → Option KeptSlot
keep_of first client (Binds address until) = Some (record { slot = address - first; content = content.Bound client until })
keep_of first client (Bars address until) = Some (record { slot = address - first; content = content.Barred until })
keep_of first client (Frees address) = Some (record { slot = address - first; content = content.Free })
keep_of first client change = None

abbrev pub decision_of : ℕ → ℕ → Key6Value → Row Reply6 → Decision6
decision_of first clock client row =
    record { clock = clock; answer = row.answer; keep = keep_of first client row.change }
