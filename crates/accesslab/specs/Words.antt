-- The command line of `accesslab`, and the values that its words spell.
use Rattle.std.specs.Prelude.{◌≡◌, ℕ, pos, ◌≤◌, true, List, [], ◌∷◌, length, Some, codes}
use Rattle.clap.specs.Words.{App, Row, Rule, Text, new_app, new_rule, with_rule, matches_of, all_of, first_of, fault_of}
use Rattle.clap.specs.Simple.{on_top}
use Rattle.clap.specs.declared.builder.ArgAction.TheVariants.{Set}
use Rattle.clap.specs.declared.builder.value_parser.ValueParser.TheVariants as parser
use Rattle.command_line.specs.CommandLine.{IsNumber}

-- the paths of the configurations, 1 to 8, one of which at least is required
abbrev pub configs_rule : Rule
configs_rule = record (new_rule (codes "CONFIG")) { action = Some Set; range = Some (record { start_inclusive = 1; end_inclusive = 8 }); required = true }

-- `--quota Q`, 1 to 256, 16 by default
abbrev pub quota_rule : Rule
quota_rule = record (new_rule (codes "quota")) { long = Some (codes "quota"); action = Some Set; parser = Some (parser.Signed (pos 1) (pos 256)); defaults = codes "16" ∷ [] }

-- the command without its arguments; the program's name is not one of its words
abbrev pub bare_app : App
bare_app = on_top (λ s. record s { no_binary_name = true; has_version = true }) (new_app (codes "accesslab"))

abbrev pub lab_app : App
lab_app = with_rule (with_rule bare_app configs_rule) quota_rule

-- What the words give the arguments is these values.
pub record HasValues (given : List Row) (configs : List Text) (quota : ℕ) : Type 0 where
  -- each path, in order
  pub configs_are : all_of (codes "CONFIG") given ≡ Some configs
  pub some : 1 ≤ length configs
  pub few : length configs ≤ 8
  pub quota_is : IsNumber (first_of (codes "quota") given) 1 256 quota

-- The words spell these values.
pub record Spells (words configs : List Text) (quota : ℕ) : Type 0 where
  -- clap finds no fault in them
  pub right : fault_of lab_app words ≡ []
  pub values : HasValues (matches_of lab_app words) configs quota

-- The words spell values.
abbrev pub SpellsSomething : List Text → Type 0
SpellsSomething words = (configs : List Text) × (quota : ℕ) × Spells words configs quota
