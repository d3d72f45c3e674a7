use Rattle.std.proofs.Common.{◌≡◌, map, take}
use Rattle.types.specs.Slots.{live6}
use Rattle.bindings_v6.specs.Slots6.{holder_of}
use Rattle.bindings_v6.proofs.kept.live_holders.Given as goal

abbrev pub invariant-loop-slot : goal.invariant-loop-slot
invariant-loop-slot l = l.holders.items ≡ map (λ slot. holder_of (live6 l.clock slot)) (take l.slot-index l.kept)
