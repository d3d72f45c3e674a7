-- No option has the code of the end.
use Rattle.std.proofs.Common.{◌≡◌, ℕ, zero, suc, Bool, true, false, cond, eqb, List, [], ◌∷◌, refl, ap}
use Rattle.v4_options.specs.Codes.{END, PAD}
use Rattle.v4_options.specs.Reading.{listed_from, is_cut, value}
use Rattle.v4_options.specs.Spelling.{without}
use Rattle.v4_options.specs.declared.token.Syntax.TheVariants as syntax

step : (p e k : Bool) (code : ℕ) (v : List ℕ) (a b : List (ℕ × List ℕ)) → eqb code END ≡ e → without END a ≡ a → without END b ≡ b
    → without END (cond p a (cond e [] (cond k [] ((code, v) ∷ b)))) ≡ cond p a (cond e [] (cond k [] ((code, v) ∷ b)))
step true e k code v a b code_is ha hb = ha
step false true k code v a b code_is ha hb = refl
step false false true code v a b code_is ha hb = refl
step false false false code v a b code_is ha hb = rw code_is (ap (λ (os : List (ℕ × List ℕ)). (code, v) ∷ os) hb)

pub none_ends : (skip : ℕ) (bytes : List ℕ) → without END (listed_from syntax.Options skip bytes) ≡ listed_from syntax.Options skip bytes
unfolding listed_from
none_ends skip [] = refl
none_ends (suc skip) (byte ∷ bytes) = none_ends skip bytes
none_ends zero (code ∷ bytes) = step (eqb code PAD) (eqb code END) (is_cut bytes) code (value bytes) _ _ refl (none_ends 0 bytes) (none_ends _ bytes)
