use Rattle.std.proofs.Common.{◌≢◌, ℕ, Some, codes, refl}
use Rattle.std.specs.Prelude.{Option}
use Rattle.clap.specs.Words.{Text, found_of, first_value}
use Rattle.command_line.specs.CommandLine.{IsNumber}
use Rattle.accessd.specs.Serving.{HasServing}
use Rattle.accessd.specs.declared.serving.Serving.{Serving}
use Rattle.accessd.specs.declared.serving.Serving.TheVariants.{Turns, Service}
use Rattle.accessd.proofs.serving.turns_of.Goals as goal

-- turns have all their numbers
numbers : (given : Text → Option Text) (serving : Serving) → given (codes "service") ≢ Some (codes "true") → HasServing given serving
    → ((n : ℕ) × IsNumber (given (codes "turns")) 1 1000000 n) × ((n : ℕ) × IsNumber (given (codes "pause")) 0 1000 n)
    × ((n : ℕ) × IsNumber (given (codes "batch")) 1 16 n)
numbers given (Turns turns pause batch) asked has = ((turns, has.1), (pause, has.2), (batch, has.3))
numbers given Service asked has = absurd (asked has.0)

pub returns-in_err-turns-clause-none : goal.returns-in_err-turns-clause-none
returns-in_err-turns-clause-none c = λ _ serving has.
    let turns = (numbers (first_value (found_of c.args.matches.now)) serving c.requires has).0 in
    c.in_err-turns.ensures.none refl turns.0 turns.1

pub returns-in_err-pause-clause-none : goal.returns-in_err-pause-clause-none
returns-in_err-pause-clause-none c = λ _ serving has.
    let pause = (numbers (first_value (found_of c.args.matches.now)) serving c.requires has).1 in
    c.in_err-pause.ensures.none refl pause.0 pause.1

pub returns-in_err-batch-clause-none : goal.returns-in_err-batch-clause-none
returns-in_err-batch-clause-none c = λ _ serving has.
    let batch = (numbers (first_value (found_of c.args.matches.now)) serving c.requires has).2 in
    c.in_err-batch.ensures.none refl batch.0 batch.1
