use Rattle.std.proofs.Common.{◌≡◌, ◌++◌, length, take, drop}
use Rattle.bindings_v4.specs.Slots4.{without_offers}
use Rattle.bindings_v4.proofs.write.withdraw_offers.Given as goal

abbrev pub invariant-slots : goal.invariant-slots
invariant-slots l = record {
  end : l.slot-end ≡ length l.fn.slots;
  so_far : l.slots ≡ without_offers (take l.slot l.fn.slots) ++ drop l.slot l.fn.slots;
}
