-- Reading a relay message.
use Rattle.std.specs.Prelude.{ℕ, ◌≤◌, nat_le, List, length, drop, slice_index, Option, Some, None, Result, Ok, Err, if◌then◌else◌}
use Rattle.v6_options.specs.Reading.{listed}
use Rattle.v6_message.specs.declared.fault.RelayFault.{RelayFault}
use Rattle.v6_message.specs.declared.fault.RelayFault.TheVariants.{Short, Cut, Twice}
use Rattle.v6_message.specs.declared.scan.Sender.TheVariants.{Relay}
use Rattle.v6_message.specs.declared.scan.ListFault.{ListFault}
use Rattle.v6_message.specs.declared.scan.ListFault.TheVariants as list
use Rattle.wire.specs.Part.{part}
use Rattle.v6_message.specs.Layout.{RELAY_OPTIONS}
use Rattle.v6_message.specs.Reading.{first_fault}
use Rattle.v6_message.specs.Relay.{RelayValue, SpellsRelay}

-- The fields at their offsets.
abbrev pub relay_at : List ℕ → List (ℕ × List ℕ) → RelayValue
relay_at bytes options = record {
  kind = slice_index bytes 0;
  hop_count = slice_index bytes 1;
  link_address = part bytes 2 16;
  peer_address = part bytes 18 16;
  options = options;
}

abbrev pub relay_or : Option ListFault → List ℕ → Result RelayValue RelayFault
relay_or None bytes = Ok (relay_at bytes (listed (drop RELAY_OPTIONS bytes)))
relay_or (Some list.Cut) bytes = Err Cut
relay_or (Some list.Twice) bytes = Err Twice

-- The result of reading.
abbrev pub relay_of : List ℕ → Result RelayValue RelayFault
relay_of bytes = if nat_le RELAY_OPTIONS (length bytes) then relay_or (first_fault Relay (drop RELAY_OPTIONS bytes)) bytes else Err Short

-- What is known of a relay message that was read, by its bytes and its options.
pub record IsRead (bytes : List ℕ) (options : List (ℕ × List ℕ)) : Type 0 where
  pub long : RELAY_OPTIONS ≤ length bytes
  pub spelled : SpellsRelay bytes (relay_at bytes options)
