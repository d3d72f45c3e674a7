-- What the words give the arguments, by clap's getters and by its rows.
use mathlib.Core.Path.{fun_ext}
use Rattle.std.proofs.Common.{◌≡◌}
use Rattle.std.specs.Prelude.{Option}
use Rattle.clap.specs.Words.{Text, first_value, rows_of}
use Rattle.clap.specs.declared.parser.matches.Found.{Found}
use Rattle.clap.proofs.WalkLemmas.{first_value-rows}
use Rattle.accessd.specs.Serving.{HasServing, IsBeside}
use Rattle.accessd.specs.Words.{given_by}
use Rattle.accessd.specs.declared.serving.Serving.{Serving}
use Rattle.accessd.specs.declared.serving.Serving.TheVariants.{Turns, Service}
use Rattle.accessd.specs.declared.serving.TurnsArgument.{TurnsArgument}

pub same_given : (found : Found) → first_value found ≡ given_by (rows_of found)
same_given found = fun_ext (first_value-rows found)

-- Where an argument for turns stands beside `--service`, that is no way to serve.
pub beside_serves_nothing : (given : Text → Option Text) (argument : TurnsArgument) (serving : Serving)
    → IsBeside given argument → ¬ HasServing given serving
beside_serves_nothing given argument (Turns turns pause batch) beside has = has.0 beside.0
beside_serves_nothing given argument Service beside has = has.1 argument beside
