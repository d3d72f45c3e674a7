use Rattle.std.proofs.Common.{◌≤◌, ℕ, ◌*◌, ◌%◌, ◌^◌, lit<, arith}
use Rattle.std.proofs.Math.Nat.{mod-le, pow-le-pow_right}
use Rattle.replies.proofs.reply4.mask.Goals as goal

-- Of 32 bits no more can be zeros than there are.
ones_left : (count : ℕ) → count ≤ 32 → (1 * 2 ^ count) % 18446744073709551616 ≤ 4294967296
ones_left count h =
    omega (arith, mod-le (1 * 2 ^ count) 18446744073709551616, pow-le-pow_right {n = 2} (lit< tt) {i = count} {j = 32} h)

pub overflow_sub-result : goal.overflow_sub-result
overflow_sub-result c = ones_left c.saturating_sub.result (omega arith)
