use Rattle.std.proofs.Common.{◌∙◌}
use Rattle.lease_disk.proofs.Reading.{entry_first, entry_second, entry_none}
use Rattle.lease_disk.proofs.entry.read_entry.Goals as goal

pub returns-then-counts_before : goal.returns-then-counts_before
returns-then-counts_before g c =
    c.read_held.ensures ∙ entry_first g.S.Slot.read _ _ _ _ c.half_of-first.ensures.bytes c.half_of-second.ensures.bytes c.if-counts_before.ensures

pub returns-then-counts_before-2 : goal.returns-then-counts_before-2
returns-then-counts_before-2 g c =
    c.read_held-then-counts_before-2.ensures ∙ entry_second g.S.Slot.read _ _ _ _ c.half_of-first.ensures.bytes c.half_of-second.ensures.bytes c.if-counts_before.ensures c.if-counts_before-2.ensures

pub returns : goal.returns
returns g c = entry_none g.S.Slot.read _ _ _ _ c.half_of-first.ensures.bytes c.half_of-second.ensures.bytes c.if-counts_before.ensures c.if-counts_before-2.ensures
