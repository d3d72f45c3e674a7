use Rattle.std.proofs.Common.{◌≡◌, ◌-◌, ◌≤◌, ◌<◌, ℕ, false}
use Rattle.udp.specs.Waiting.{is_told}
use Rattle.udp.specs.declared.history.Role.TheVariants as role
use Rattle.udp.proofs.waiting.Waiter.next_ready.Given as goal

abbrev pub invariant-words : goal.invariant-words
invariant-words l = (l.fn.from ≤ l.next) × ((c : ℕ) → l.fn.from ≤ c → c < l.next → is_told l.fn.self (role.Circuit c l.fn.proto) ≡ false)

abbrev pub decreases-words : goal.decreases-words
decreases-words l = l.end - l.next
