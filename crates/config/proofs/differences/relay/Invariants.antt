use Rattle.std.proofs.Common.{◌≡◌, ℕ, ◌<◌, get_or}
use Rattle.settings.specs.declared.settings.RelayConfig.{RelayConfig}
use Rattle.config.proofs.differences.relay.Given as goal

abbrev pub invariant-loop-index : goal.invariant-loop-index
invariant-loop-index l = (k : ℕ) (d : RelayConfig) → k < l.index → get_or l.other k d ≡ get_or l.first k d
