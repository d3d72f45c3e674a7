-- Reading a client's or server's message.
use Rattle.std.specs.Prelude.{◌≡◌, ℕ, ◌≤◌, nat_le, List, length, drop, slice_index, Option, Some, None, Result, Ok, Err, if◌then◌else◌}
use Rattle.std.specs.Option.{option_and_then}
use Rattle.v6_options.specs.Codes.{IA_NA, IA_ADDRESS}
use Rattle.v6_options.specs.Spelling.{look_up}
use Rattle.v6_options.specs.Reading.{listed}
use Rattle.v6_message.specs.declared.fault.MessageFault.{MessageFault}
use Rattle.v6_message.specs.declared.fault.MessageFault.TheVariants.{Short, Cut, Twice, IaCount, AddrCount}
use Rattle.v6_message.specs.declared.scan.Sender.TheVariants.{Client}
use Rattle.v6_message.specs.declared.scan.ListFault.{ListFault}
use Rattle.v6_message.specs.declared.scan.ListFault.TheVariants as list
use Rattle.wire.specs.Part.{part}
use Rattle.v6_message.specs.Layout.{MESSAGE_OPTIONS, IA_OPTIONS}
use Rattle.v6_message.specs.Lists.{count}
use Rattle.v6_message.specs.Reading.{first_fault}
use Rattle.v6_message.specs.Message.{MessageValue, SpellsMessage, IsReadable}
use Rattle.v6_message.specs.Ia.{IaValue, ia_of}

-- The fields at their offsets.
abbrev pub message_at : List ℕ → List (ℕ × List ℕ) → MessageValue
message_at bytes options = record { kind = slice_index bytes 0; transaction_id = part bytes 1 3; options = options }

abbrev pub with_ia : Option (List ℕ) → MessageValue → Result MessageValue MessageFault
with_ia None m = Err IaCount
with_ia (Some value) m = if nat_le (count IA_ADDRESS (listed (drop IA_OPTIONS value))) 4 then Ok m else Err AddrCount

abbrev pub counted : MessageValue → Result MessageValue MessageFault
counted m = if nat_le (count IA_NA m.options) 1 then with_ia (look_up IA_NA m.options) m else Err IaCount

abbrev pub message_or : Option ListFault → List ℕ → Result MessageValue MessageFault
message_or None bytes = counted (message_at bytes (listed (drop MESSAGE_OPTIONS bytes)))
message_or (Some list.Cut) bytes = Err Cut
message_or (Some list.Twice) bytes = Err Twice

-- The result of reading.
abbrev pub message_of : List ℕ → Result MessageValue MessageFault
message_of bytes = if nat_le MESSAGE_OPTIONS (length bytes) then message_or (first_fault Client (drop MESSAGE_OPTIONS bytes)) bytes else Err Short

-- What is known of a message that was read, by its bytes, its options and its IA_NA.
pub record IsRead (bytes : List ℕ) (options : List (ℕ × List ℕ)) (ia : IaValue) : Type 0 where
  pub long : MESSAGE_OPTIONS ≤ length bytes
  pub spelled : SpellsMessage bytes (message_at bytes options)
  pub limits : IsReadable (message_at bytes options)
  pub found : option_and_then ia_of (look_up IA_NA options) ≡ Some ia
  pub few : count IA_ADDRESS ia.options ≤ 4
