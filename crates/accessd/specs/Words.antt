-- The command line of `accessd`, and the values that its words spell.
use Rattle.std.specs.Prelude.{◌≡◌, ◌⊎◌, ◌↔◌, ℕ, Bool, pos, true, not, List, [], ◌∷◌, Option, Some, codes, if◌then◌else◌}
use Rattle.clap.specs.Words.{App, Row, Rule, Text, new_app, new_rule, with_rule, matches_of, first_of, fault_of}
use Rattle.clap.specs.Simple.{on_top}
use Rattle.clap.specs.declared.builder.ArgAction.TheVariants.{Set, SetTrue}
use Rattle.clap.specs.declared.builder.value_parser.ValueParser.TheVariants as parser
use Rattle.command_line.specs.CommandLine.{IsNumber, IsRefused, config_rule}
use Rattle.command_line.specs.Status.{IsRefusedWith}
use Rattle.accessd.specs.Serving.{HasServing, IsBeside, asks_for_service}
use Rattle.accessd.specs.declared.words.AccessWords.{AccessWords}
use Rattle.accessd.specs.declared.words.WordsFault.{WordsFault}
use Rattle.accessd.specs.declared.words.WordsFault.TheVariants.{Refused, Beside}

-- `--disk FILE`, which is required
abbrev pub disk_rule : Rule
disk_rule = record (new_rule (codes "disk")) { long = Some (codes "disk"); value_names = 1; action = Some Set; required = true }

-- `--turns N`, 1 to 1000000, which is required where the service is not asked for
abbrev pub turns_rule : Bool → Rule
turns_rule is_service = record (new_rule (codes "turns")) { long = Some (codes "turns"); value_names = 1; action = Some Set; required = not is_service; parser = Some (parser.Signed (pos 1) (pos 1000000)) }

-- `--service`, a flag
abbrev pub service_rule : Rule
service_rule = record (new_rule (codes "service")) { long = Some (codes "service"); action = Some SetTrue }

-- `--format`, a flag
abbrev pub format_rule : Rule
format_rule = record (new_rule (codes "format")) { long = Some (codes "format"); action = Some SetTrue }

-- `--port P`, 1024 to 65472, 20000 by default
abbrev pub port_rule : Rule
port_rule = record (new_rule (codes "port")) { long = Some (codes "port"); value_names = 1; action = Some Set; parser = Some (parser.Signed (pos 1024) (pos 65472)); defaults = codes "20000" ∷ [] }

-- `--pause MS`, 0 to 1000, 0 by default where the service is not asked for
abbrev pub pause_rule : Bool → Rule
pause_rule is_service = record (new_rule (codes "pause")) { long = Some (codes "pause"); value_names = 1; action = Some Set; parser = Some (parser.Signed (pos 0) (pos 1000)); defaults = if is_service then [] else codes "0" ∷ [] }

-- `--batch B`, 1 to 16, 1 by default where the service is not asked for
abbrev pub batch_rule : Bool → Rule
batch_rule is_service = record (new_rule (codes "batch")) { long = Some (codes "batch"); value_names = 1; action = Some Set; parser = Some (parser.Signed (pos 1) (pos 16)); defaults = if is_service then [] else codes "1" ∷ [] }

-- `--report S`, 0 to 86400, 0 by default
abbrev pub report_rule : Rule
report_rule = record (new_rule (codes "report")) { long = Some (codes "report"); value_names = 1; action = Some Set; parser = Some (parser.Signed (pos 0) (pos 86400)); defaults = codes "0" ∷ [] }

-- `--leases`, a flag
abbrev pub leases_rule : Rule
leases_rule = record (new_rule (codes "leases")) { long = Some (codes "leases"); action = Some SetTrue }

-- the command without its arguments; the program's name is not one of its words
abbrev pub bare_app : App
bare_app = on_top (λ s. record s { no_binary_name = true; has_version = true }) (new_app (codes "accessd"))

-- with the words that have to be there: one of `--turns` and `--service`
abbrev pub base_app : Bool → App
base_app is_service = with_rule (with_rule (with_rule (with_rule bare_app config_rule) disk_rule) (turns_rule is_service)) service_rule

-- with those that say how it serves
abbrev pub serving_app : Bool → App
serving_app is_service =
    with_rule (with_rule (with_rule (with_rule (base_app is_service) format_rule) port_rule) (pause_rule is_service)) (batch_rule is_service)

-- with those that say what it writes meanwhile
abbrev pub access_app : Bool → App
access_app is_service = with_rule (with_rule (serving_app is_service) report_rule) leases_rule

-- the command line by which words are read
abbrev pub app_for : List Text → App
app_for words = access_app (asks_for_service words)

-- what the words give the argument of this name
abbrev pub given_by : List Row → Text → Option Text
given_by given name = first_of name given

-- What the words give the arguments is these values.
pub record HasValues (given : List Row) (values : AccessWords) : Type 0 where
  pub config_is : first_of (codes "CONFIG") given ≡ Some values.config.now
  pub disk_is : first_of (codes "disk") given ≡ Some values.disk.now
  pub serving_is : HasServing (given_by given) values.serving
  pub format_is : (values.format ≡ true) ↔ (first_of (codes "format") given ≡ Some (codes "true"))
  pub port_is : IsNumber (first_of (codes "port") given) 1024 65472 values.port
  pub report_is : IsNumber (first_of (codes "report") given) 0 86400 values.report
  pub leases_are : (values.leases ≡ true) ↔ (first_of (codes "leases") given ≡ Some (codes "true"))

-- The words spell these values.
pub record Spells (words : List Text) (spelled : AccessWords) : Type 0 where
  -- clap finds no fault in them
  pub right : fault_of (app_for words) words ≡ []
  pub values : HasValues (matches_of (app_for words) words) spelled

-- The words spell values.
abbrev pub SpellsSomething : List Text → Type 0
SpellsSomething words = (values : AccessWords) × Spells words values

-- Why words are refused: as those of any program, or an argument for turns stands beside `--service`, and so they spell no values.
abbrev pub IsRefusedFor : List Text → WordsFault → Type 0
IsRefusedFor words (Refused why) = IsRefused (app_for words) SpellsSomething words why
IsRefusedFor words (Beside argument) = IsBeside (given_by (matches_of (app_for words) words)) argument × (¬ SpellsSomething words)

-- With which status that is shown: as for any program, or with 2, and with 6 where it could not be written.
abbrev pub IsShownWith : WordsFault → ℕ → Type 0
IsShownWith (Refused why) status = IsRefusedWith why status
IsShownWith (Beside argument) status = (status ≡ 2) ⊎ (status ≡ 6)
