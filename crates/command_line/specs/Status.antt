-- The exit status for words that are refused.
use Rattle.std.specs.Prelude.{◌≡◌, ◌⊎◌, ℕ}
use Rattle.clap.specs.Values.{kind_of}
use Rattle.clap.specs.declared.error.kind.ErrorKind.{ErrorKind}
use Rattle.clap.specs.declared.error.kind.ErrorKind.TheVariants as kind
use Rattle.command_line.specs.declared.refusal.Refusal.{Refusal}
use Rattle.command_line.specs.declared.refusal.Refusal.TheVariants.{Memory, Usage, BadValue}

-- Help or the version was asked for.
abbrev pub IsQuestion : ErrorKind → Type 0
IsQuestion why = (why ≡ kind.DisplayHelp) ⊎ (why ≡ kind.DisplayVersion)

-- 2; but 0 where help or the version was asked for, and 6 where the answer could not be written.
abbrev pub IsRefusedWith : Refusal → ℕ → Type 0
IsRefusedWith Memory status = status ≡ 2
IsRefusedWith (Usage error) status = (status ≡ 6) ⊎ (IsQuestion (kind_of error) × (status ≡ 0)) ⊎ (¬ IsQuestion (kind_of error) × (status ≡ 2))
IsRefusedWith BadValue status = status ≡ 2
