use Rattle.std.proofs.Common.{ℕ, ◌<◌, get_or}
use Rattle.settings.specs.Settings.{Settings}
use Rattle.config.specs.Differences.{CircuitsAgree}
use Rattle.config.proofs.differences.circuit_difference.Given as goal

abbrev pub invariant-loop-other : goal.invariant-loop-other
invariant-loop-other l = (i j : ℕ) (d : Settings) → i < j → j < l.other → CircuitsAgree (get_or l.configs i d) (get_or l.configs j d)
