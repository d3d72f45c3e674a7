use Rattle.std.proofs.Common.{◌≡◌, ℕ, true}
use Rattle.udp.specs.Waiting.{is_set}
use Rattle.udp.proofs.waiting.set_all.Given as goal

abbrev pub invariant-events : goal.invariant-events
invariant-events l = (bit : ℕ) → is_set l.fn.words bit ≡ true → is_set l.words bit ≡ true
