-- A pool's addresses, by their slots.
use Rattle.std.proofs.Common.{◌≡◌, ℕ, ◌+◌, ◌-◌, ◌≤◌, ◌<◌, subst, arith}

-- what holds at each slot holds of each address
pub at_slots : (P : ℕ → Type 0) (first count : ℕ) → ((k : ℕ) → k < count → P (first + k)) → (n : ℕ) → first ≤ n → n < first + count → P n
at_slots P first count h n from below =
    let k : first + (n - first) ≡ n = omega arith in
    subst P k (h (n - first) (omega arith))
