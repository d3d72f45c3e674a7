-- The result of reading, by the next token.
use Rattle.std.proofs.Common.{◌≡◌, ℕ, ◌⊎◌, inl, inr, Bool, cond, List, [], ◌∷◌, Option, Some, None, refl, ap, ◌∙◌}
use Rattle.v4_options.specs.declared.fault.OptFault.{OptFault}
use Rattle.v4_options.specs.declared.fault.OptFault.TheVariants as faults
use Rattle.v4_options.specs.declared.token.Syntax.{Syntax}
use Rattle.v4_options.specs.declared.token.Token.{Token}
use Rattle.v4_options.specs.declared.token.Token.TheVariants.{Nothing, Pad, End, Cut, Whole}
use Rattle.v4_options.specs.Token.{Begins}
use Rattle.v4_options.specs.Reading.{listed_from, fault_from, with_code}
use Rattle.v4_options.proofs.Steps.{listed_nothing, listed_pad, listed_end, listed_cut, listed_whole, fault_nothing, fault_pad, fault_end, fault_cut, fault_whole}

-- The list and the fault, by the token and the bytes after it.
abbrev pub listed_at : Syntax → Token → List ℕ → List (ℕ × List ℕ)
listed_at x Nothing rest = []
listed_at x Pad rest = listed_from x 0 rest
listed_at x End rest = []
listed_at x Cut rest = []
listed_at x (Whole code value) rest = (code, value.now) ∷ listed_from x 0 rest

abbrev pub fault_at : Syntax → (ℕ → Bool) → Token → List ℕ → Option OptFault
fault_at x seen Nothing rest = Some faults.NoEnd
fault_at x seen Pad rest = fault_from x seen 0 rest
fault_at x seen End rest = None
fault_at x seen Cut rest = Some faults.Cut
fault_at x seen (Whole code value) rest = cond (seen code) (Some faults.Twice) (fault_from x (with_code code seen) 0 rest)

pub listed_is : (x : Syntax) (token : Token) (old new : List ℕ) → Begins x token old new → listed_from x 0 old ≡ listed_at x token new
listed_is x Nothing old new b = ap (listed_from x 0) b.here ∙ listed_nothing x
listed_is x Pad old new b = ap (listed_from x 0) b.here.0 ∙ listed_pad x new b.here.1
listed_is x End old new b = ap (listed_from x 0) b.here.0 ∙ listed_end x new b.here.1 b.here.2
listed_is x Cut old new b = ap (listed_from x 0) b.here.2 ∙ listed_cut x b.here.0 b.here.1 b.here.3 b.here.4
listed_is x (Whole code value) old new b = ap (listed_from x 0) b.here.0 ∙ listed_whole x code value.now new b.here.1

pub fault_is : (x : Syntax) (seen : ℕ → Bool) (token : Token) (old new : List ℕ) → Begins x token old new → fault_from x seen 0 old ≡ fault_at x seen token new
fault_is x seen Nothing old new b = ap (fault_from x seen 0) b.here ∙ fault_nothing x seen
fault_is x seen Pad old new b = ap (fault_from x seen 0) b.here.0 ∙ fault_pad x seen new b.here.1
fault_is x seen End old new b = ap (fault_from x seen 0) b.here.0 ∙ fault_end x seen new b.here.1 b.here.2
fault_is x seen Cut old new b = ap (fault_from x seen 0) b.here.2 ∙ fault_cut x seen b.here.0 b.here.1 b.here.3 b.here.4
fault_is x seen (Whole code value) old new b = ap (fault_from x seen 0) b.here.0 ∙ fault_whole x seen code value.now new b.here.1

-- A list stops at these tokens.
pub listed_stops : (x : Syntax) (token : Token) (old new : List ℕ) → (token ≡ Nothing) ⊎ (token ≡ End) ⊎ (token ≡ Cut) → Begins x token old new → listed_from x 0 old ≡ []
listed_stops x token old new (inl e) b = listed_is x token old new b ∙ rw e refl
listed_stops x token old new (inr (inl e)) b = listed_is x token old new b ∙ rw e refl
listed_stops x token old new (inr (inr e)) b = listed_is x token old new b ∙ rw e refl
