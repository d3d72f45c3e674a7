-- The command line of `leases`, and the values that its words spell.
use Rattle.std.specs.Prelude.{◌≡◌, ◌↔◌, ℕ, pos, true, List, [], Option, Some, None, codes}
use Rattle.clap.specs.Words.{App, Row, Rule, Text, new_app, new_rule, with_rule, matches_of, first_of, fault_of}
use Rattle.clap.specs.Simple.{on_top}
use Rattle.clap.specs.declared.builder.ArgAction.TheVariants.{Set, SetTrue}
use Rattle.clap.specs.declared.builder.value_parser.ValueParser.TheVariants as parser
use Rattle.lease_list.specs.declared.form.Form.{Form}
use Rattle.lease_list.specs.declared.form.Form.TheVariants.{Json}
use Rattle.lease_list.specs.declared.form.What.{What}
use Rattle.lease_list.specs.declared.form.What.TheVariants.{Pools}
use Rattle.command_line.specs.CommandLine.{IsNumber, config_rule}

-- `--disk FILE`, which is required
abbrev pub disk_rule : Rule
disk_rule = record (new_rule (codes "disk")) { long = Some (codes "disk"); value_names = 1; action = Some Set; required = true }

-- `--at SECONDS`, 0 to 1099511627775
abbrev pub at_rule : Rule
at_rule = record (new_rule (codes "at")) { long = Some (codes "at"); value_names = 1; action = Some Set; parser = Some (parser.Signed (pos 0) (pos 1099511627775)) }

-- `--pools`, a flag
abbrev pub pools_rule : Rule
pools_rule = record (new_rule (codes "pools")) { long = Some (codes "pools"); action = Some SetTrue }

-- `--json`, a flag
abbrev pub json_rule : Rule
json_rule = record (new_rule (codes "json")) { long = Some (codes "json"); action = Some SetTrue }

-- the command without its arguments; the program's name is not one of its words
abbrev pub bare_app : App
bare_app = on_top (λ s. record s { no_binary_name = true; has_version = true }) (new_app (codes "leases"))

abbrev pub leases_app : App
leases_app = with_rule (with_rule (with_rule (with_rule (with_rule bare_app config_rule) disk_rule) at_rule) pools_rule) json_rule

-- The value that the words give an argument, if they give one, is this moment in seconds.
abbrev pub IsMoment : Option Text → Option ℕ → Type 0
IsMoment given None = given ≡ None
IsMoment given (Some seconds) = IsNumber given 0 1099511627775 seconds

-- What the words give the arguments is these values.
pub record HasValues (given : List Row) (config disk : List ℕ) (at : Option ℕ) (what : What) (form : Form) : Type 0 where
  pub config_is : first_of (codes "CONFIG") given ≡ Some config
  pub disk_is : first_of (codes "disk") given ≡ Some disk
  pub at_is : IsMoment (first_of (codes "at") given) at
  -- pools are listed exactly where `--pools` is there, and each line is JSON exactly where `--json` is
  pub what_is : (what ≡ Pools) ↔ (first_of (codes "pools") given ≡ Some (codes "true"))
  pub form_is : (form ≡ Json) ↔ (first_of (codes "json") given ≡ Some (codes "true"))

-- The words spell these values.
pub record Spells (words : List Text) (config disk : List ℕ) (at : Option ℕ) (what : What) (form : Form) : Type 0 where
  -- clap finds no fault in them
  pub right : fault_of leases_app words ≡ []
  pub values : HasValues (matches_of leases_app words) config disk at what form

-- The words spell values.
abbrev pub SpellsSomething : List Text → Type 0
SpellsSomething words = (config : List ℕ) × (disk : List ℕ) × (at : Option ℕ) × (what : What) × (form : Form) × Spells words config disk at what form
