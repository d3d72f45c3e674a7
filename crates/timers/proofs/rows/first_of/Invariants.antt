use Rattle.std.proofs.Common.{◌≡◌, ◌-◌, ◌<◌, ◌≤◌, ℕ, length, get_or}
use Rattle.timers.proofs.rows.first_of.Given as goal

-- the number is at this place or after it
abbrev pub invariant-loop-place : goal.invariant-loop-place
invariant-loop-place l = (i : ℕ) × (l.place ≤ i) × (i < length l.numbers) × (get_or l.numbers i 0 ≡ l.number)

abbrev pub decreases-loop-place : goal.decreases-loop-place
decreases-loop-place l = length l.numbers - l.place
