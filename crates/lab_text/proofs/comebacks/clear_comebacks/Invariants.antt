use Rattle.std.proofs.Common.{◌≡◌, ◌<◌, ℕ, slice_index_or}
use Rattle.lab_text.specs.Fields.{synced_at}
use Rattle.lab_text.proofs.comebacks.clear_comebacks.Given as goal

abbrev pub invariant-loop-comeback : goal.invariant-loop-comeback
invariant-loop-comeback l = (k : ℕ) → k < l.comeback-index → slice_index_or l.comebacks k (synced_at 0 0) ≡ synced_at 0 0
