-- Which lists of options a message can have (RFC 8415, sections 8 and 9), and why others are refused.
use Rattle.std.specs.Prelude.{◌≡◌, ℕ, ◌+◌, ◌^◌, ◌<◌, ◌≤◌, ◌==◌, ◌⊎◌, List, [], ◌∷◌, ◌++◌, length, drop, if◌then◌else◌}
use Rattle.v6_options.specs.Codes.{CLIENT_ID, SERVER_ID, IA_NA, IA_ADDRESS, RELAY_MESSAGE, INTERFACE_ID}
use Rattle.v6_options.specs.Spelling.{option, spelling, AreOptions, Spells, IsCut}
use Rattle.v6_message.specs.declared.scan.Sender.{Sender}
use Rattle.v6_message.specs.declared.scan.Sender.TheVariants.{Client, Relay}
use Rattle.v6_message.specs.declared.scan.ListFault.{ListFault}
use Rattle.v6_message.specs.declared.scan.ListFault.TheVariants.{Cut, Twice}
use Rattle.v6_message.specs.Layout.{IA_OPTIONS, IA_ADDRESS_OPTIONS}

-- how many options have this code
abbrev pub count : ℕ → List (ℕ × List ℕ) → ℕ
count code [] = 0
count code (o ∷ os) = if o.0 == code then 1 + count code os else count code os

-- The two codes that appear once at most: the two DUIDs of a client's or server's message, the message
-- and the interface id of a relay's.
abbrev pub first_code : Sender → ℕ
first_code Client = CLIENT_ID
first_code Relay = RELAY_MESSAGE

abbrev pub second_code : Sender → ℕ
second_code Client = SERVER_ID
second_code Relay = INTERFACE_ID

-- Each address of an IA_NA has its two lifetimes. Any bytes follow them.
abbrev pub AreLong : List (ℕ × List ℕ) → Type 0
AreLong [] = Unit {0}
AreLong (o ∷ os) = ((o.0 ≡ IA_ADDRESS) → IA_ADDRESS_OPTIONS ≤ length o.1) × AreLong os

-- The value of an IA_NA: three numbers, then options up to its last byte.
pub record IsIa (value : List ℕ) : Type 0 where
  pub long : IA_OPTIONS ≤ length value
  pub list : List (ℕ × List ℕ)
  pub spelled : Spells (drop IA_OPTIONS value) list
  pub addresses : AreLong list

-- Only the value of an IA_NA matters.
abbrev pub IsFormed : Sender → ℕ → List ℕ → Type 0
IsFormed Client code value = (code ≡ IA_NA) → IsIa value
IsFormed Relay code value = Unit {0}

abbrev pub AreFormed : Sender → List (ℕ × List ℕ) → Type 0
AreFormed sender [] = Unit {0}
AreFormed sender (o ∷ os) = IsFormed sender o.0 o.1 × AreFormed sender os

pub record AreAllowed (sender : Sender) (list : List (ℕ × List ℕ)) : Type 0 where
  pub formed : AreFormed sender list
  pub first : count (first_code sender) list ≤ 1
  pub second : count (second_code sender) list ≤ 1

-- `rest` begins with this whole option.
pub record BeginsWith (code : ℕ) (value : List ℕ) (rest : List ℕ) : Type 0 where
  pub more : List ℕ
  pub whole : rest ≡ option code value ++ more
  pub code_fits : code < 2 ^ 16
  pub value_fits : length value < 2 ^ 16

-- What can follow allowed options in place of the last byte: what is no whole option, or an option that
-- is not formed, or one of the two codes once more.
abbrev pub Stops : Sender → ListFault → List (ℕ × List ℕ) → List ℕ → Type 0
Stops sender Cut front rest = IsCut rest ⊎ ((code : ℕ) × (value : List ℕ) × BeginsWith code value rest × (¬ IsFormed sender code value))
Stops sender Twice front rest =
    (code : ℕ) × (value : List ℕ) × BeginsWith code value rest × ((code ≡ first_code sender) ⊎ (code ≡ second_code sender)) × (1 ≤ count code front)

-- Bytes have a fault if they are allowed options and then what that fault says.
pub record FailsList (sender : Sender) (fault : ListFault) (bytes : List ℕ) : Type 0 where
  pub front : List (ℕ × List ℕ)
  pub rest : List ℕ
  pub whole : bytes ≡ spelling front ++ rest
  pub options : AreOptions front
  pub allowed : AreAllowed sender front
  pub stops : Stops sender fault front rest
