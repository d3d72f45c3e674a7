use Rattle.std.proofs.Common.{◌≡◌, ◌<◌, ℕ, slice_index_or, false}
use Rattle.lab_text.proofs.comebacks.clear_names.Given as goal

abbrev pub invariant-loop-name : goal.invariant-loop-name
invariant-loop-name l = (k : ℕ) → k < l.name-index → slice_index_or l.named k (false) ≡ false
