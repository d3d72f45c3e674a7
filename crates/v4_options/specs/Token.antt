-- The next token of a list, by the bytes. Only private functions cite this.
use Rattle.std.specs.Prelude.{◌≡◌, ℕ, ◌<◌, true, false, List, [], ◌∷◌, ◌++◌, length}
use Rattle.v4_options.specs.Codes.{PAD, END}
use Rattle.v4_options.specs.declared.token.Syntax.{Syntax}
use Rattle.v4_options.specs.declared.token.Token.{Token}
use Rattle.v4_options.specs.declared.token.Token.TheVariants.{Nothing, Pad, End, Cut, Whole}
use Rattle.v4_options.specs.Reading.{is_pad, is_end}
use Rattle.v4_options.specs.Spelling.{option, IsShort}

-- A code that a value follows, neither a pad nor an end.
abbrev pub IsCode : Syntax → ℕ → Type 0
IsCode syntax code = (is_pad syntax code ≡ false) × (is_end syntax code ≡ false)

-- By the token, for the bytes before and after it was taken. Where a list stops, the bytes after it do
-- not matter.
abbrev pub BeginsWith : Syntax → Token → List ℕ → List ℕ → Type 0
BeginsWith syntax Nothing old new = old ≡ []
BeginsWith syntax Pad old new = (old ≡ PAD ∷ new) × (is_pad syntax PAD ≡ true)
BeginsWith syntax End old new = (old ≡ END ∷ new) × (is_pad syntax END ≡ false) × (is_end syntax END ≡ true)
BeginsWith syntax Cut old new = (code : ℕ) × (rest : List ℕ) × (old ≡ code ∷ rest) × IsCode syntax code × IsShort rest
BeginsWith syntax (Whole code value) old new = (old ≡ option code value.now ++ new) × IsCode syntax code × (length value.now < 256)

-- The bytes `old` begin with this token, and taking it leaves `new`.
pub record Begins (syntax : Syntax) (token : Token) (old new : List ℕ) : Type 0 where
  pub here : BeginsWith syntax token old new
