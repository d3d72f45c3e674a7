-- Which relay message bytes spell (RFC 8415, section 9), and why others spell none.
use Rattle.std.specs.Prelude.{◌≡◌, ℕ, ◌<◌, ◌≤◌, List, ◌∷◌, ◌++◌, length, drop}
use Rattle.v6_options.specs.Spelling.{spelling, AreOptions}
use Rattle.v6_message.specs.declared.fault.RelayFault.{RelayFault}
use Rattle.v6_message.specs.declared.fault.RelayFault.TheVariants.{Short, Cut, Twice}
use Rattle.v6_message.specs.declared.scan.Sender.TheVariants.{Relay}
use Rattle.v6_message.specs.declared.scan.ListFault.TheVariants as list
use Rattle.v6_message.specs.Layout.{RELAY_OPTIONS}
use Rattle.v6_message.specs.Lists.{AreAllowed, FailsList}

pub record RelayValue : Type 0 where
  pub kind : ℕ
  pub hop_count : ℕ
  pub link_address : List ℕ
  pub peer_address : List ℕ
  pub options : List (ℕ × List ℕ)

-- The bytes of a relay message: its fields and its options, in order.
abbrev pub relay_header : ℕ → ℕ → List ℕ → List ℕ → List ℕ
relay_header kind hop_count link_address peer_address = kind ∷ hop_count ∷ link_address ++ peer_address

abbrev pub relay_bytes : RelayValue → List ℕ
relay_bytes m = relay_header m.kind m.hop_count m.link_address m.peer_address ++ spelling m.options

-- Bytes spell a relay message if they are its bytes, and its options are allowed.
pub record SpellsRelay (bytes : List ℕ) (m : RelayValue) : Type 0 where
  pub whole : bytes ≡ relay_bytes m
  pub link : length m.link_address ≡ 16
  pub peer : length m.peer_address ≡ 16
  pub options : AreOptions m.options
  pub allowed : AreAllowed Relay m.options

-- Fewer bytes than a header come first, then the leftmost option's fault.
abbrev pub FailsRelay : RelayFault → List ℕ → Type 0
FailsRelay Short bytes = length bytes < RELAY_OPTIONS
FailsRelay Cut bytes = (RELAY_OPTIONS ≤ length bytes) × FailsList Relay list.Cut (drop RELAY_OPTIONS bytes)
FailsRelay Twice bytes = (RELAY_OPTIONS ≤ length bytes) × FailsList Relay list.Twice (drop RELAY_OPTIONS bytes)
