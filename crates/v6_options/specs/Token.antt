-- The next token of a list, by the bytes. Of these a reader of messages needs `Begins`.
use Rattle.std.specs.Prelude.{◌≡◌, ◌^◌, ◌<◌, ℕ, List, [], ◌++◌, length}
use Rattle.v6_options.specs.declared.token.Token.{Token}
use Rattle.v6_options.specs.declared.token.Token.TheVariants.{Nothing, Cut, Whole}
use Rattle.v6_options.specs.Spelling.{option, IsCut}

-- By the token, for the bytes before and after it was taken. After a cut the bytes do not matter.
abbrev pub BeginsWith : Token → List ℕ → List ℕ → Type 0
BeginsWith Nothing old new = old ≡ []
BeginsWith Cut old new = IsCut old
BeginsWith (Whole code value) old new = (old ≡ option code value.now ++ new) × (code < 2 ^ 16) × (length value.now < 2 ^ 16)

-- The bytes `old` begin with this token, and taking it leaves `new`.
pub record Begins (token : Token) (old new : List ℕ) : Type 0 where
  pub here : BeginsWith token old new
