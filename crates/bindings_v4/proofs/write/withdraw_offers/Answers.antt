use Rattle.std.proofs.Common.{◌<◌, length, get_or, sym, ap, ◌∙◌, arith}
use Rattle.bindings_v4.proofs.OfferLemmas.{one_goes, one_stays}
use Rattle.bindings_v4.proofs.write.withdraw_offers.Goals as goal
use Rattle.bindings_v4.proofs.write.withdraw_offers.Goals.{then-is_offered, else-is_offered}

pub slots-preserved : goal.slots-preserved
slots-preserved c =
    let ss = c.args.slots.now in
    let s = c.index-slots-slot.result in
    let below : c.slots.slot < length ss = omega (arith, c.slots-test.true, c.slots.invariant.end) in
    let is = c.index-slots-slot.is ∙ ap (λ list. get_or list c.slots.slot s) c.slots-in-slots.ensures.value in
    record {
      end = c.slots.invariant.end;
      so_far = elim c.if-is_offered.branch [
        | then-is_offered w ↦
            w.slots-is ∙ w.write.ensures ∙ one_goes ss c.slots.slots c.slots.slot s below c.slots.invariant.so_far is (sym c.is_offered.ensures ∙ w.if-is_offered.true)
        | else-is_offered w ↦
            w.slots-is ∙ one_stays ss c.slots.slots c.slots.slot s below c.slots.invariant.so_far is (sym c.is_offered.ensures ∙ w.if-is_offered.false)
      ];
    }
