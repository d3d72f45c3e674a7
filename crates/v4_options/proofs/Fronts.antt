-- Reading over a front, and the longest front of some bytes.
use Rattle.std.proofs.Common.{◌≡◌, ℕ, zero, suc, ◌<◌, Bool, true, false, cond, List, [], ◌∷◌, ◌++◌, length, take, drop, Option, Some, None, refl, sym, ap, ◌∙◌, append_assoc}
use Rattle.std.specs.Prelude.{nat_le}
use Rattle.std.proofs.lemmas.Bool.{eqb-true, leb-true, leb-false}
use Rattle.std.proofs.lemmas.List.{length-take-le, take-append-drop}
use Rattle.v4_options.specs.Codes.{PAD, END}
use Rattle.v4_options.specs.declared.fault.OptFault.{OptFault}
use Rattle.v4_options.specs.declared.fault.OptFault.TheVariants.{NoEnd, Cut, Twice}
use Rattle.v4_options.specs.declared.token.Syntax.{Syntax}
use Rattle.v4_options.specs.declared.token.Syntax.TheVariants.{Options, Suboptions}
use Rattle.v4_options.specs.Spelling.{option, spelling, row, options, Piece, Pad, Whole, IsShort}
use Rattle.v4_options.specs.Reading.{listed_from, fault_from, is_cut, is_pad, is_end, value, no_code, with_code}
use Rattle.v4_options.specs.Token.{IsCode}
use Rattle.v4_options.proofs.Steps.{listed_pad, listed_whole, fault_nothing, fault_pad, fault_end, fault_cut, fault_whole}
use Rattle.v4_options.proofs.Distinct.{AreNew, after}

-- The pieces are allowed in this syntax.
abbrev pub IsFront : Syntax → List Piece → Type 0
IsFront x [] = Unit {0}
IsFront x (Pad ∷ front) = (is_pad x PAD ≡ true) × IsFront x front
IsFront x (Whole code v ∷ front) = IsCode x code × IsFront x front

pub fault_front : (x : Syntax) (seen : ℕ → Bool) (front : List Piece) (rest : List ℕ) → IsFront x front → AreNew seen (options front) → fault_from x seen 0 (row front ++ rest) ≡ fault_from x (after seen (options front)) 0 rest
fault_front x seen [] rest is new = refl
fault_front x seen (Pad ∷ front) rest is new = fault_pad x seen (row front ++ rest) is.0 ∙ fault_front x seen front rest is.1 new
fault_front x seen (Whole code v ∷ front) rest is new =
    ap (λ (t : List ℕ). fault_from x seen 0 (code ∷ length v ∷ t)) (append_assoc v (row front) rest)
    ∙ fault_whole x seen code v (row front ++ rest) is.0
    ∙ rw new.0 (fault_front x (with_code code seen) front rest is.1 new.1)

pub listed_front : (x : Syntax) (front : List Piece) (rest : List ℕ) → IsFront x front → listed_from x 0 (row front ++ rest) ≡ options front ++ listed_from x 0 rest
listed_front x [] rest is = refl
listed_front x (Pad ∷ front) rest is = listed_pad x (row front ++ rest) is.0 ∙ listed_front x front rest is.1
listed_front x (Whole code v ∷ front) rest is =
    ap (λ (t : List ℕ). listed_from x 0 (code ∷ length v ∷ t)) (append_assoc v (row front) rest)
    ∙ listed_whole x code v (row front ++ rest) is.0
    ∙ ap (λ (os : List (ℕ × List ℕ)). (code, v) ∷ os) (listed_front x front rest is.1)

-- What reading meets after a front, where `seen` has the codes before: an end, or a fault.
abbrev pub Ends : Syntax → (ℕ → Bool) → Option OptFault → List ℕ → Type 0
Ends x seen None rest = (more : List ℕ) × (rest ≡ END ∷ more) × (is_pad x END ≡ false) × (is_end x END ≡ true)
Ends x seen (Some NoEnd) rest = rest ≡ []
Ends x seen (Some Cut) rest = (code : ℕ) × (bytes : List ℕ) × (rest ≡ code ∷ bytes) × IsCode x code × IsShort bytes
Ends x seen (Some Twice) rest = (code : ℕ) × (v : List ℕ) × (more : List ℕ) × (rest ≡ option code v ++ more) × IsCode x code × (seen code ≡ true)

fault_ends : (x : Syntax) (seen : ℕ → Bool) (found : Option OptFault) (rest : List ℕ) → Ends x seen found rest → fault_from x seen 0 rest ≡ found
fault_ends x seen None rest h = ap (fault_from x seen 0) h.1 ∙ fault_end x seen h.0 h.2 h.3
fault_ends x seen (Some NoEnd) rest h = ap (fault_from x seen 0) h ∙ fault_nothing x seen
fault_ends x seen (Some Cut) rest h = ap (fault_from x seen 0) h.2 ∙ fault_cut x seen h.0 h.1 h.3 h.4
fault_ends x seen (Some Twice) rest h = ap (fault_from x seen 0) h.3 ∙ fault_whole x seen h.0 h.1 h.2 h.4 ∙ rw h.5 refl

-- The bytes are a front with new codes, and then what reading meets.
pub record Longest (x : Syntax) (seen : ℕ → Bool) (bytes : List ℕ) (found : Option OptFault) : Type 0 where
  pub front : List Piece
  pub rest : List ℕ
  pub whole : bytes ≡ row front ++ rest
  pub is_front : IsFront x front
  pub new : AreNew seen (options front)
  pub ends : Ends x (after seen (options front)) found rest

pub fault_longest : (x : Syntax) (bytes : List ℕ) (found : Option OptFault) → Longest x no_code bytes found → fault_from x no_code 0 bytes ≡ found
fault_longest x bytes found l =
    ap (fault_from x no_code 0) l.whole ∙ fault_front x no_code l.front l.rest l.is_front l.new ∙ fault_ends x (after no_code (options l.front)) found l.rest l.ends

-- ---- the longest front of any bytes

IsShort-is_cut : (bytes : List ℕ) → is_cut bytes ≡ true → IsShort bytes
IsShort-is_cut [] e = tt
IsShort-is_cut (len ∷ bytes) e = short (nat_le len (length bytes)) len bytes refl e
  where
    short : (b : Bool) (len : ℕ) (bytes : List ℕ) → nat_le len (length bytes) ≡ b → cond b false true ≡ true → length bytes < len
    short true len bytes e h = absurd cc
    short false len bytes e h = leb-false len (length bytes) e

-- The parts of an option that is not cut off.
parts : (code : ℕ) (bytes : List ℕ) → is_cut bytes ≡ false → code ∷ bytes ≡ option code (value bytes) ++ drop (suc (length (value bytes))) bytes
parts code [] e = absurd cc
parts code (len ∷ bytes) e = split (nat_le len (length bytes)) len refl e
  where
    split : (b : Bool) (len : ℕ) → nat_le len (length bytes) ≡ b → cond b false true ≡ false → code ∷ len ∷ bytes ≡ code ∷ length (take len bytes) ∷ take len bytes ++ drop (length (take len bytes)) bytes
    split true len e h = rw (length-take-le len bytes (leb-true len (length bytes) e), take-append-drop len bytes) refl
    split false len e h = absurd cc

pad_is : (x : Syntax) (code : ℕ) → is_pad x code ≡ true → code ≡ PAD
pad_is Options code e = eqb-true code PAD e
pad_is Suboptions code e = absurd cc

end_is : (x : Syntax) (code : ℕ) → is_end x code ≡ true → code ≡ END
end_is Options code e = eqb-true code END e
end_is Suboptions code e = absurd cc

-- A front with no piece.
at_once : (x : Syntax) (seen : ℕ → Bool) (bytes : List ℕ) (found : Option OptFault) → Ends x seen found bytes → Longest x seen bytes found
at_once x seen bytes found ends = record { front = []; rest = bytes; whole = refl; is_front = tt; new = tt; ends = ends }

abbrev Found : Syntax → (ℕ → Bool) → List ℕ → Type 0
Found x seen bytes = (found : Option OptFault) × Longest x seen bytes found

step : (x : Syntax) (seen : ℕ → Bool) (code : ℕ) (bytes : List ℕ) (p e k s : Bool) → is_pad x code ≡ p → is_end x code ≡ e → is_cut bytes ≡ k → seen code ≡ s → Found x seen bytes → Found x (with_code code seen) (drop (suc (length (value bytes))) bytes) → Found x seen (code ∷ bytes)
step x seen code bytes true e k s pad end cut met behind_pad behind =
    let l = behind_pad.1 in
    let is : code ≡ PAD = pad_is x code pad in (
      behind_pad.0,
      record {
        front = Pad ∷ l.front;
        rest = l.rest;
        whole = ap (λ (c : ℕ). c ∷ bytes) is ∙ ap (λ (t : List ℕ). PAD ∷ t) l.whole;
        is_front = (rw is at pad, l.is_front);
        new = l.new;
        ends = l.ends;
      },
    )
step x seen code bytes false true k s pad end cut met behind_pad behind =
    let is : code ≡ END = end_is x code end in
    (None, at_once x seen (code ∷ bytes) None (bytes, ap (λ (c : ℕ). c ∷ bytes) is, rw is at pad, rw is at end))
step x seen code bytes false false true s pad end cut met behind_pad behind =
    (Some Cut, at_once x seen (code ∷ bytes) (Some Cut) (code, bytes, refl, (pad, end), IsShort-is_cut bytes cut))
step x seen code bytes false false false true pad end cut met behind_pad behind =
    (Some Twice, at_once x seen (code ∷ bytes) (Some Twice) (code, value bytes, drop (suc (length (value bytes))) bytes, parts code bytes cut, (pad, end), met))
step x seen code bytes false false false false pad end cut met behind_pad behind =
    let l = behind.1 in (
      behind.0,
      record {
        front = Whole code (value bytes) ∷ l.front;
        rest = l.rest;
        whole = parts code bytes cut ∙ ap (λ (t : List ℕ). option code (value bytes) ++ t) l.whole ∙ sym (append_assoc (option code (value bytes)) (row l.front) l.rest);
        is_front = ((pad, end), l.is_front);
        new = (met, l.new);
        ends = l.ends;
      },
    )

pub longest : (x : Syntax) (seen : ℕ → Bool) (skip : ℕ) (bytes : List ℕ) → Found x seen (drop skip bytes)
longest x seen zero [] = (Some NoEnd, at_once x seen [] (Some NoEnd) refl)
longest x seen (suc skip) [] = (Some NoEnd, at_once x seen [] (Some NoEnd) refl)
longest x seen (suc skip) (byte ∷ bytes) = longest x seen skip bytes
longest x seen zero (code ∷ bytes) =
    step x seen code bytes (is_pad x code) (is_end x code) (is_cut bytes) (seen code) refl refl refl refl (longest x seen 0 bytes) (longest x (with_code code seen) (suc (length (value bytes))) bytes)

-- ---- a list as a front

abbrev pub pieces : List (ℕ × List ℕ) → List Piece
pieces [] = []
pieces (o ∷ os) = Whole o.0 o.1 ∷ pieces os

pub row-pieces : (os : List (ℕ × List ℕ)) → row (pieces os) ≡ spelling os
row-pieces [] = refl
row-pieces (o ∷ os) = ap (λ (t : List ℕ). option o.0 o.1 ++ t) (row-pieces os)

pub options-pieces : (os : List (ℕ × List ℕ)) → options (pieces os) ≡ os
options-pieces [] = refl
options-pieces (o ∷ os) = ap (λ (t : List (ℕ × List ℕ)). o ∷ t) (options-pieces os)
