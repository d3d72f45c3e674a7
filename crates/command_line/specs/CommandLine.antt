-- What the command line of any program means by its configuration, by a number, and by a refusal.
use Rattle.std.specs.Prelude.{◌≡◌, ℕ, ◌≤◌, true, List, Option, Some, codes, ⊤}
use Rattle.std.specs.Str.Parse.{IsNumeral, digits_value, without_leading_plus}
use Rattle.clap.specs.Words.{App, Rule, Text, new_rule, fault_of, HasKind}
use Rattle.clap.specs.declared.builder.ArgAction.TheVariants.{Set, SetTrue}
use Rattle.clap.specs.declared.builder.value_parser.ValueParser.{ValueParser}
use Rattle.command_line.specs.declared.refusal.Refusal.{Refusal}
use Rattle.command_line.specs.declared.refusal.Refusal.TheVariants.{Memory, Usage, BadValue}

-- the path of the configuration, which is required
abbrev pub config_rule : Rule
config_rule = record (new_rule (codes "CONFIG")) { action = Some Set; required = true }

-- `--NAME`, a flag
abbrev pub flag_rule : Text → Rule
flag_rule name = record (new_rule name) { long = Some name; action = Some SetTrue }

-- `--NAME VALUE`
abbrev pub option_rule : Text → Rule
option_rule name = record (new_rule name) { long = Some name; value_names = 1; action = Some Set }

-- `--NAME VALUE`, whose value clap checks by this parser
abbrev pub limited_rule : Text → ValueParser → Rule
limited_rule name limits = record (option_rule name) { parser = Some limits }

-- The value that the words give an argument is the number n, and n is within its limits.
pub record IsNumber (given : Option Text) (least most n : ℕ) : Type 0 where
  pub text : Text
  pub is_given : given ≡ Some text
  -- decimal digits, with or without a plus before them
  pub numeral : IsNumeral 10 (without_leading_plus text)
  pub value : digits_value 10 (without_leading_plus text) ≡ n
  pub at_least : least ≤ n
  pub at_most : n ≤ most

-- Why words are refused: out of memory, or clap finds this fault in them, or they spell no values.
abbrev pub IsRefused : App → (List Text → Type 0) → List Text → Refusal → Type 0
IsRefused app Spelled words Memory = ⊤
IsRefused app Spelled words (Usage error) = HasKind (fault_of app words) error
IsRefused app Spelled words BadValue = ¬ Spelled words
