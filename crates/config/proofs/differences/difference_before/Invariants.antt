use Rattle.std.proofs.Common.{ℕ, ◌<◌, get_or}
use Rattle.settings.specs.Settings.{Settings}
use Rattle.config.specs.Differences.{CircuitsAgree}
use Rattle.config.proofs.differences.difference_before.Given as goal

abbrev pub invariant-loop-one : goal.invariant-loop-one
invariant-loop-one l = (k : ℕ) (d : Settings) → k < l.one → CircuitsAgree (get_or l.configs k d) (get_or l.configs l.other d)
