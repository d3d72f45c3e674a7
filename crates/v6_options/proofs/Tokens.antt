-- The result of reading, by the next token.
use Rattle.std.proofs.Common.{◌≡◌, ℕ, ◌⊎◌, inl, inr, Bool, true, false, List, [], ◌∷◌, refl, ap, ◌∙◌}
use Rattle.v6_options.specs.declared.token.Token.{Token}
use Rattle.v6_options.specs.declared.token.Token.TheVariants.{Nothing, Cut, Whole}
use Rattle.v6_options.specs.Token.{Begins}
use Rattle.v6_options.specs.Reading.{listed_from, cut_from}
use Rattle.v6_options.proofs.Steps.{listed_nothing, listed_cut, listed_whole, cut_nothing, cut_cut, cut_whole}

-- The list, and whether it is cut off, by the token and the bytes after it.
abbrev pub listed_at : Token → List ℕ → List (ℕ × List ℕ)
listed_at Nothing rest = []
listed_at Cut rest = []
listed_at (Whole code value) rest = (code, value.now) ∷ listed_from 0 rest

abbrev pub cut_at : Token → List ℕ → Bool
cut_at Nothing rest = false
cut_at Cut rest = true
cut_at (Whole code value) rest = cut_from 0 rest

pub listed_is : (token : Token) (old new : List ℕ) → Begins token old new → listed_from 0 old ≡ listed_at token new
listed_is Nothing old new b = ap (listed_from 0) b.here ∙ listed_nothing
listed_is Cut old new b = listed_cut old b.here
listed_is (Whole code value) old new b = ap (listed_from 0) b.here.0 ∙ listed_whole code value.now new b.here.1 b.here.2

pub cut_is : (token : Token) (old new : List ℕ) → Begins token old new → cut_from 0 old ≡ cut_at token new
cut_is Nothing old new b = ap (cut_from 0) b.here ∙ cut_nothing
cut_is Cut old new b = cut_cut old b.here
cut_is (Whole code value) old new b = ap (cut_from 0) b.here.0 ∙ cut_whole code value.now new b.here.2

-- A list stops at these tokens.
pub listed_stops : (token : Token) (old new : List ℕ) → (token ≡ Nothing) ⊎ (token ≡ Cut) → Begins token old new → listed_from 0 old ≡ []
listed_stops token old new (inl e) b = listed_is token old new b ∙ rw e refl
listed_stops token old new (inr e) b = listed_is token old new b ∙ rw e refl
