-- Which lists of suboptions the value of option 82 spells (RFC 3046, section 2.0), and why others
-- spell none. There is no pad and no end: every code is a suboption's.
use Rattle.std.specs.Prelude.{◌≡◌, ℕ, List, [], ◌∷◌, ◌++◌, None, IsSome}
use Rattle.v4_options.specs.declared.fault.SuboptFault.{SuboptFault}
use Rattle.v4_options.specs.declared.fault.SuboptFault.TheVariants.{Cut, Twice}
use Rattle.v4_options.specs.Spelling.{option, spelling, look_up, IsShort}

-- No code appears twice.
abbrev pub AreDistinct : List (ℕ × List ℕ) → Type 0
AreDistinct [] = Unit {0}
AreDistinct (o ∷ os) = (look_up o.0 os ≡ None) × AreDistinct os

-- Bytes spell a list if they are the bytes of the list, and its codes are distinct.
pub record SpellsSuboptions (bytes : List ℕ) (list : List (ℕ × List ℕ)) : Type 0 where
  pub whole : bytes ≡ spelling list
  pub distinct : AreDistinct list

-- What can follow the longest list of whole suboptions: a code without its whole length and value, or
-- a whole suboption with a code of the list.
abbrev pub StopsSub : SuboptFault → List (ℕ × List ℕ) → List ℕ → Type 0
StopsSub Cut list rest = (code : ℕ) × (bytes : List ℕ) × (rest ≡ code ∷ bytes) × IsShort bytes
StopsSub Twice list rest = (code : ℕ) × (value : List ℕ) × (more : List ℕ) × (rest ≡ option code value ++ more) × IsSome (look_up code list)

-- Bytes have a fault if they are whole suboptions with distinct codes and then what that fault says.
pub record FailsSuboptions (fault : SuboptFault) (bytes : List ℕ) : Type 0 where
  pub front : List (ℕ × List ℕ)
  pub rest : List ℕ
  pub whole : bytes ≡ spelling front ++ rest
  pub distinct : AreDistinct front
  pub stops : StopsSub fault front rest
