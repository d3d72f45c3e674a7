use Rattle.std.proofs.Common.{ℕ, ◌≤◌, ◌<◌, get_or}
use Rattle.settings.specs.Settings.{Settings}
use Rattle.config.specs.Differences.{SharesServer}
use Rattle.config.proofs.differences.server_difference.Given as goal

abbrev pub invariant-loop-index : goal.invariant-loop-index
invariant-loop-index l = (k : ℕ) (d : Settings) → 1 ≤ k → k < l.index → SharesServer (get_or l.configs 0 d) (get_or l.configs k d)
