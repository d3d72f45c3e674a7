use Rattle.std.proofs.Common.{◌∙◌, length, ap}
use Rattle.std.specs.List.{refill}
use Rattle.slots.specs.Slots.{with_slot}
use Rattle.slots.proofs.UsedLemmas.{used_of_written}
use Rattle.slots.proofs.WriteLemmas.{distinct_written, written_whole}
use Rattle.slots.proofs.table.SlotTable.write.Goals as goal

pub invariant_of-self : goal.invariant_of-self
invariant_of-self g c =
    let ss = c.self.inside.slots.items in
    let new = c.write_slot.new.slots in
    let law = g.met.K.SlotKey.is_key in
    let e = c.write_slot.ensures ∙ ap (with_slot g.K.PartialEq.eq c.args.slot c.args.holder) c.as_mut_slice.ensures.value in
    let distinct = c.self.invariant.distinct in
    let whole = written_whole law c.args.slot c.args.holder ss new distinct e ∙ e in
    record {
      distinct = distinct_written law c.args.slot c.args.holder ss new distinct e;
      used = used_of_written g.K.PartialEq.eq c.self.inside.used c.args.slot c.len.result c.used_after-self-inside.result c.args.holder ss (refill (length ss) ss new) c.self.invariant.used whole c.len.ensures.value c.used_after-self-inside.ensures;
    }
