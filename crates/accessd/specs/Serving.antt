-- How the program serves, and how the words of its command line say so.
use Rattle.std.specs.Prelude.{◌≡◌, ◌≢◌, ◌||◌, ℕ, Bool, false, List, [], ◌∷◌, Option, Some, None, codes, if◌then◌else◌}
use Rattle.std.specs.Str.{bytes_eq}
use Rattle.clap.specs.Words.{Text}
use Rattle.command_line.specs.CommandLine.{IsNumber}
use Rattle.accessd.specs.declared.serving.Serving.{Serving}
use Rattle.accessd.specs.declared.serving.Serving.TheVariants.{Turns, Service}
use Rattle.accessd.specs.declared.serving.TurnsArgument.{TurnsArgument}
use Rattle.accessd.specs.declared.serving.TurnsArgument.TheVariants as argument

-- how many circuits are served at most, and how many datagrams the server takes together
abbrev pub most_of : Serving → ℕ
most_of (Turns turns pause batch) = 16
most_of Service = 1024

abbrev pub batch_of : Serving → ℕ
batch_of (Turns turns pause batch) = batch
batch_of Service = 16

-- Words ask for the service: `--service` is one of them, before any `--`.
abbrev pub asks_for_service : List Text → Bool
asks_for_service [] = false
asks_for_service (word ∷ words) =
    if bytes_eq word (codes "--") then false else (bytes_eq word (codes "--service") || asks_for_service words)

-- the argument's name
abbrev pub name_of : TurnsArgument → Text
name_of argument.Turns = codes "turns"
name_of argument.Pause = codes "pause"
name_of argument.Batch = codes "batch"

-- By what the words give each argument, this one for turns stands beside `--service`.
abbrev pub IsBeside : (Text → Option Text) → TurnsArgument → Type 0
IsBeside given argument = (given (codes "service") ≡ Some (codes "true")) × (given (name_of argument) ≢ None)

-- It says that the program serves so: turns, with numbers within their limits, or the service, beside which no argument for turns
-- stands.
abbrev pub HasServing : (Text → Option Text) → Serving → Type 0
HasServing given (Turns turns pause batch) =
    (given (codes "service") ≢ Some (codes "true")) × IsNumber (given (codes "turns")) 1 1000000 turns
    × IsNumber (given (codes "pause")) 0 1000 pause × IsNumber (given (codes "batch")) 1 16 batch
HasServing given Service = (given (codes "service") ≡ Some (codes "true")) × ((argument : TurnsArgument) → ¬ IsBeside given argument)
