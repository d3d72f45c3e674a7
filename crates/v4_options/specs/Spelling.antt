-- Which lists of options bytes spell (RFC 2132, section 2), and why others spell none.
use Rattle.std.specs.Prelude.{◌≡◌, ◌≢◌, ℕ, ◌<◌, ◌==◌, List, [], ◌∷◌, ◌++◌, length, None, IsSome, if◌then◌else◌}
use Rattle.std.specs.List.{flat_map}
pub use Rattle.wire.specs.Options.{look_up}
use Rattle.v4_options.specs.Codes.{PAD, END}
use Rattle.v4_options.specs.declared.fault.OptFault.{OptFault}
use Rattle.v4_options.specs.declared.fault.OptFault.TheVariants.{NoEnd, Cut, Twice}

-- The bytes of an option are its code, the length of its value, and its value.
abbrev pub option : ℕ → List ℕ → List ℕ
option code value = code ∷ length value ∷ value

-- The bytes of a list are those of its options, concatenated.
abbrev pub spelling : List (ℕ × List ℕ) → List ℕ
spelling list = flat_map (λ o. option o.0 o.1) list

-- A list without the options of this code.
abbrev pub without : ℕ → List (ℕ × List ℕ) → List (ℕ × List ℕ)
without code [] = []
without code (o ∷ os) = if o.0 == code then without code os else o ∷ without code os

-- No code is the pad or the end, and none appears twice.
abbrev pub AreOptions : List (ℕ × List ℕ) → Type 0
AreOptions [] = Unit {0}
AreOptions (o ∷ os) = (o.0 ≢ PAD) × (o.0 ≢ END) × (look_up o.0 os ≡ None) × AreOptions os

-- A front is a list of pieces, each a pad or a whole option.
pub data Piece : Type 0 where
  Pad : Piece
  Whole : ℕ → List ℕ → Piece

abbrev pub row : List Piece → List ℕ
row [] = []
row (Pad ∷ pieces) = PAD ∷ row pieces
row (Whole code value ∷ pieces) = option code value ++ row pieces

-- The options of a front, in order.
abbrev pub options : List Piece → List (ℕ × List ℕ)
options [] = []
options (Pad ∷ pieces) = options pieces
options (Whole code value ∷ pieces) = (code, value) ∷ options pieces

-- Bytes spell a list if they are a front with distinct codes, an end and any rest, and the list is the
-- front's options.
pub record Spells (bytes : List ℕ) (list : List (ℕ × List ℕ)) : Type 0 where
  pub front : List Piece
  pub rest : List ℕ
  pub whole : bytes ≡ row front ++ END ∷ rest
  pub distinct : AreOptions (options front)
  pub in_order : list ≡ options front

-- The bytes after a code have no length, or one that goes past the last byte.
abbrev pub IsShort : List ℕ → Type 0
IsShort [] = Unit {0}
IsShort (len ∷ bytes) = length bytes < len

-- What can follow the longest front, whose options these are, in place of an end: nothing, a code
-- without its whole length and value, or a whole option with a code of the front.
abbrev pub Stops : OptFault → List (ℕ × List ℕ) → List ℕ → Type 0
Stops NoEnd list rest = rest ≡ []
Stops Cut list rest = (code : ℕ) × (bytes : List ℕ) × (rest ≡ code ∷ bytes) × (code ≢ PAD) × (code ≢ END) × IsShort bytes
Stops Twice list rest = (code : ℕ) × (value : List ℕ) × (more : List ℕ) × (rest ≡ option code value ++ more) × (code ≢ PAD) × (code ≢ END) × IsSome (look_up code list)

-- Bytes have a fault if they are a front with distinct codes and then what that fault says.
pub record Fails (fault : OptFault) (bytes : List ℕ) : Type 0 where
  pub front : List Piece
  pub rest : List ℕ
  pub whole : bytes ≡ row front ++ rest
  pub distinct : AreOptions (options front)
  pub stops : Stops fault (options front) rest
