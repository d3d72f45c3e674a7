use Rattle.std.proofs.Common.{◌≡◌, take}
use Rattle.config.proofs.union.copy_relays.Given as goal

abbrev pub invariant-loop-relay : goal.invariant-loop-relay
invariant-loop-relay l = l.copy.items ≡ take l.relay-index l.relays
