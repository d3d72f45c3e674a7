use Rattle.std.proofs.Common.{ℕ, ◌<◌}
use Rattle.settings.specs.Values.{IsNameAt}
use Rattle.settings.proofs.lists.relay_named.Given as goal

abbrev pub invariant-loop-i : goal.invariant-loop-i
invariant-loop-i l = (k : ℕ) → k < l.i → IsNameAt l.relays k l.name → ⊥
