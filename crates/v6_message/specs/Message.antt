-- Which client's or server's message bytes spell (RFC 8415, section 8), and why others spell none.
use Rattle.std.specs.Prelude.{◌≡◌, ◌≢◌, ℕ, ◌<◌, ◌≤◌, List, ◌∷◌, ◌++◌, length, drop, Some}
use Rattle.v6_options.specs.Codes.{IA_NA, IA_ADDRESS}
use Rattle.v6_options.specs.Spelling.{spelling, look_up, AreOptions, Spells}
use Rattle.v6_message.specs.declared.fault.MessageFault.{MessageFault}
use Rattle.v6_message.specs.declared.fault.MessageFault.TheVariants.{Short, Cut, Twice, IaCount, AddrCount}
use Rattle.v6_message.specs.declared.scan.Sender.TheVariants.{Client}
use Rattle.v6_message.specs.declared.scan.ListFault.TheVariants as list
use Rattle.v6_message.specs.Layout.{MESSAGE_OPTIONS, IA_OPTIONS}
use Rattle.v6_message.specs.Lists.{count, AreAllowed, FailsList}

pub record MessageValue : Type 0 where
  pub kind : ℕ
  pub transaction_id : List ℕ
  pub options : List (ℕ × List ℕ)

-- The bytes of a message: its type, its transaction id and its options, in order.
abbrev pub message_bytes : MessageValue → List ℕ
message_bytes m = m.kind ∷ m.transaction_id ++ spelling m.options

-- These options have exactly one IA_NA, and `inside` are the options in it.
pub record HasIa (list inside : List (ℕ × List ℕ)) : Type 0 where
  pub one : count IA_NA list ≡ 1
  pub value : List ℕ
  pub found : look_up IA_NA list ≡ Some value
  pub spelled : Spells (drop IA_OPTIONS value) inside

-- An IA_NA among these options has at most so many addresses.
abbrev pub HasAtMost : ℕ → List (ℕ × List ℕ) → Type 0
HasAtMost most list = (value : List ℕ) (inside : List (ℕ × List ℕ)) → look_up IA_NA list ≡ Some value → Spells (drop IA_OPTIONS value) inside → count IA_ADDRESS inside ≤ most

-- Bytes spell a message if they are its bytes, and its options are allowed, with at most one IA_NA and
-- at most 5 addresses in it: those that a client lists, and the one that it gets.
pub record SpellsMessage (bytes : List ℕ) (m : MessageValue) : Type 0 where
  pub whole : bytes ≡ message_bytes m
  pub id : length m.transaction_id ≡ 3
  pub options : AreOptions m.options
  pub allowed : AreAllowed Client m.options
  pub one : count IA_NA m.options ≤ 1
  pub few : HasAtMost 5 m.options

-- The limits for reading: exactly one IA_NA, and at most 4 addresses in it.
pub record IsReadable (m : MessageValue) : Type 0 where
  pub inside : List (ℕ × List ℕ)
  pub ia : HasIa m.options inside
  pub few : count IA_ADDRESS inside ≤ 4

-- The bytes after the header spell this list, which is allowed.
pub record HasOptions (bytes : List ℕ) (list : List (ℕ × List ℕ)) : Type 0 where
  pub long : MESSAGE_OPTIONS ≤ length bytes
  pub spelled : Spells (drop MESSAGE_OPTIONS bytes) list
  pub allowed : AreAllowed Client list

-- Fewer bytes than a header come first, then the leftmost option's fault, then the counts.
abbrev pub FailsMessage : MessageFault → List ℕ → Type 0
FailsMessage Short bytes = length bytes < MESSAGE_OPTIONS
FailsMessage Cut bytes = (MESSAGE_OPTIONS ≤ length bytes) × FailsList Client list.Cut (drop MESSAGE_OPTIONS bytes)
FailsMessage Twice bytes = (MESSAGE_OPTIONS ≤ length bytes) × FailsList Client list.Twice (drop MESSAGE_OPTIONS bytes)
FailsMessage IaCount bytes = (options : List (ℕ × List ℕ)) × HasOptions bytes options × (count IA_NA options ≢ 1)
FailsMessage AddrCount bytes = (options : List (ℕ × List ℕ)) × (inside : List (ℕ × List ℕ)) × HasOptions bytes options × HasIa options inside × (4 < count IA_ADDRESS inside)
