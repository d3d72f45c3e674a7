-- One step of reading: a pad, an end, an option that is cut off, and a whole one.
use Rattle.std.proofs.Common.{◌≡◌, ℕ, zero, suc, ◌≤◌, Bool, true, false, cond, List, [], ◌∷◌, ◌++◌, length, drop, Some, None, refl, arith}
use Rattle.std.proofs.Math.Seq.{take-append_seam, drop-append_seam}
use Rattle.std.proofs.lemmas.Bool.{le-leb, lt-leb}
use Rattle.std.proofs.lemmas.List.{length-append}
use Rattle.v4_options.specs.Codes.{PAD, END}
use Rattle.v4_options.specs.declared.fault.OptFault.TheVariants.{NoEnd, Cut, Twice}
use Rattle.v4_options.specs.declared.token.Syntax.{Syntax}
use Rattle.v4_options.specs.Spelling.{option, IsShort}
use Rattle.v4_options.specs.Reading.{listed_from, fault_from, is_cut, is_pad, is_end, with_code}
use Rattle.v4_options.specs.Token.{IsCode}

-- The bytes before are not read.
listed_drop : (x : Syntax) (n : ℕ) (bytes : List ℕ) → listed_from x n bytes ≡ listed_from x 0 (drop n bytes)
unfolding listed_from
listed_drop x zero bytes = refl
listed_drop x (suc n) [] = refl
listed_drop x (suc n) (byte ∷ bytes) = listed_drop x n bytes

fault_drop : (x : Syntax) (seen : ℕ → Bool) (n : ℕ) (bytes : List ℕ) → fault_from x seen n bytes ≡ fault_from x seen 0 (drop n bytes)
unfolding fault_from
fault_drop x seen zero bytes = refl
fault_drop x seen (suc n) [] = refl
fault_drop x seen (suc n) (byte ∷ bytes) = fault_drop x seen n bytes

is_cut-short : (bytes : List ℕ) → IsShort bytes → is_cut bytes ≡ true
is_cut-short [] h = refl
is_cut-short (len ∷ bytes) h = rw (lt-leb len (length bytes) h) refl

is_cut-whole : (v rest : List ℕ) → is_cut (length v ∷ v ++ rest) ≡ false
is_cut-whole v rest =
    let fits : length v ≤ length (v ++ rest) = omega (arith, length-append v rest) in
    rw (le-leb (length v) (length (v ++ rest)) fits) refl

pub listed_nothing : (x : Syntax) → listed_from x 0 [] ≡ []
unfolding listed_from
listed_nothing x = refl

pub listed_pad : (x : Syntax) (bytes : List ℕ) → is_pad x PAD ≡ true → listed_from x 0 (PAD ∷ bytes) ≡ listed_from x 0 bytes
unfolding listed_from
listed_pad x bytes pad = rw pad refl

pub listed_end : (x : Syntax) (bytes : List ℕ) → is_pad x END ≡ false → is_end x END ≡ true → listed_from x 0 (END ∷ bytes) ≡ []
unfolding listed_from
listed_end x bytes no_pad end = rw (no_pad, end) refl

pub listed_cut : (x : Syntax) (code : ℕ) (bytes : List ℕ) → IsCode x code → IsShort bytes → listed_from x 0 (code ∷ bytes) ≡ []
unfolding listed_from
listed_cut x code bytes is_code short = rw (is_code.0, is_code.1, is_cut-short bytes short) refl

pub listed_whole : (x : Syntax) (code : ℕ) (v rest : List ℕ) → IsCode x code → listed_from x 0 (option code v ++ rest) ≡ (code, v) ∷ listed_from x 0 rest
unfolding listed_from
listed_whole x code v rest is_code =
    rw (is_code.0, is_code.1, is_cut-whole v rest, take-append_seam v rest, listed_drop x (length v) (v ++ rest), drop-append_seam v rest) refl

pub fault_nothing : (x : Syntax) (seen : ℕ → Bool) → fault_from x seen 0 [] ≡ Some NoEnd
unfolding fault_from
fault_nothing x seen = refl

pub fault_pad : (x : Syntax) (seen : ℕ → Bool) (bytes : List ℕ) → is_pad x PAD ≡ true → fault_from x seen 0 (PAD ∷ bytes) ≡ fault_from x seen 0 bytes
unfolding fault_from
fault_pad x seen bytes pad = rw pad refl

pub fault_end : (x : Syntax) (seen : ℕ → Bool) (bytes : List ℕ) → is_pad x END ≡ false → is_end x END ≡ true → fault_from x seen 0 (END ∷ bytes) ≡ None
unfolding fault_from
fault_end x seen bytes no_pad end = rw (no_pad, end) refl

pub fault_cut : (x : Syntax) (seen : ℕ → Bool) (code : ℕ) (bytes : List ℕ) → IsCode x code → IsShort bytes → fault_from x seen 0 (code ∷ bytes) ≡ Some Cut
unfolding fault_from
fault_cut x seen code bytes is_code short = rw (is_code.0, is_code.1, is_cut-short bytes short) refl

pub fault_whole : (x : Syntax) (seen : ℕ → Bool) (code : ℕ) (v rest : List ℕ) → IsCode x code → fault_from x seen 0 (option code v ++ rest) ≡ cond (seen code) (Some Twice) (fault_from x (with_code code seen) 0 rest)
unfolding fault_from
fault_whole x seen code v rest is_code =
    rw (is_code.0, is_code.1, is_cut-whole v rest, take-append_seam v rest, fault_drop x (with_code code seen) (length v) (v ++ rest), drop-append_seam v rest) refl
