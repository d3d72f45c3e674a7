-- Which lists of DHCPv6 options bytes spell (RFC 8415, section 21.1), and why others spell none.
use Rattle.std.specs.Prelude.{◌≡◌, ℕ, ◌+◌, ◌^◌, ◌<◌, ◌≤◌, ◌⊎◌, List, [], ◌∷◌, ◌++◌, length, drop}
use Rattle.std.specs.Int.{w16, to_be_bytes, from_be_bytes}
use Rattle.std.specs.List.{flat_map}
pub use Rattle.wire.specs.Options.{look_up}
use Rattle.v6_options.specs.declared.fault.OptFault.{OptFault}
use Rattle.v6_options.specs.declared.fault.OptFault.TheVariants.{Cut}

-- The bytes of an option are its code, the length of its value, two bytes each, and its value.
abbrev pub option : ℕ → List ℕ → List ℕ
option code value = to_be_bytes w16 code ++ (to_be_bytes w16 (length value) ++ value)

-- The bytes of a list are those of its options, concatenated.
abbrev pub spelling : List (ℕ × List ℕ) → List ℕ
spelling list = flat_map (λ o. option o.0 o.1) list

-- Code and length are numbers of two bytes. A code may appear twice.
abbrev pub AreOptions : List (ℕ × List ℕ) → Type 0
AreOptions [] = Unit {0}
AreOptions (o ∷ os) = (o.0 < 2 ^ 16) × (length o.1 < 2 ^ 16) × AreOptions os

-- Bytes spell a list if they are the bytes of its options, up to the last byte.
pub record Spells (bytes : List ℕ) (list : List (ℕ × List ℕ)) : Type 0 where
  pub whole : bytes ≡ spelling list
  pub options : AreOptions list

-- Something is left and is no whole option: it has no code and length, or fewer bytes than the length.
abbrev pub IsCut : List ℕ → Type 0
IsCut rest = (1 ≤ length rest) × ((length rest < 4) ⊎ (length rest < 4 + from_be_bytes w16 (drop 2 rest)))

-- What can follow some whole options in place of the last byte.
abbrev pub Stops : OptFault → List ℕ → Type 0
Stops Cut rest = IsCut rest

-- Bytes have a fault if they are some whole options and then what that fault says.
pub record Fails (fault : OptFault) (bytes : List ℕ) : Type 0 where
  pub front : List (ℕ × List ℕ)
  pub rest : List ℕ
  pub whole : bytes ≡ spelling front ++ rest
  pub options : AreOptions front
  pub stops : Stops fault rest
