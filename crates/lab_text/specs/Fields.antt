-- The fields of a line, and the value of each: a number, a protocol, bytes, a circuit, a relay, an address and port, or how a region comes back.
use Rattle.std.specs.Prelude.{ℕ, ◌+◌, ◌-◌, ◌*◌, nat_le, ◌==◌, ◌||◌, Bool, true, false, if◌then◌else◌, List, [], ◌∷◌, length, take, drop, codes, position, Option, option_map, Some, None, Result, Ok, Err}
use Rattle.std.specs.Str.{bytes_eq}
use Rattle.std.specs.Char.{is_ascii_digit}
use Rattle.hex.specs.Hex.{decode_of}
use Rattle.hex.specs.declared.error.FromHexError.{FromHexError}
use Rattle.events.specs.Batch.{is_batch}
use Rattle.events.specs.declared.batch.BatchPart.{BatchPart}
use Rattle.events.specs.declared.comeback.Comeback.{Comeback}
use Rattle.batch_saves.specs.Batch.{is_sync_fault, is_write_fault}
use Rattle.lease_disk.specs.declared.image.Image.TheVariants.{Byte, Unreadable}
use Rattle.types.specs.declared.addr.Addr4.{Addr4}
use Rattle.types.specs.declared.addr.Source.{Source}
use Rattle.types.specs.declared.dest.Proto.{Proto}
use Rattle.types.specs.declared.dest.Proto.TheVariants.{V4, V6}
use Rattle.settings.specs.Settings.{Settings}
use Rattle.streams.specs.Lines.{with_byte}

-- The fields of a line, separated by exactly one space (32).
unfoldable pub fields_of : List ℕ → List (List ℕ)
fields_of [] = [] ∷ []
fields_of (b ∷ line) = if b == 32 then [] ∷ fields_of line else with_byte b (fields_of line)

-- the number with the digits of n followed by these; the digit `0` is 48
unfoldable pub digits_after : ℕ → List ℕ → Option ℕ
digits_after n [] = Some n
digits_after n (d ∷ ds) = if is_ascii_digit d then digits_after (10 * n + (d - 48)) ds else None

-- there is no digit, or a leading zero
abbrev pub lacks_first : List ℕ → Bool
lacks_first [] = true
lacks_first (d ∷ []) = false
lacks_first (d ∷ e ∷ ds) = d == 48

abbrev pub at_most : ℕ → Option ℕ → Option ℕ
at_most most None = None
at_most most (Some n) = if nat_le n most then Some n else None

-- the number that decimal digits spell, without a sign and without leading zeros
abbrev pub value_of : List ℕ → Option ℕ
value_of text = if lacks_first text then None else digits_after 0 text

abbrev pub number_to : ℕ → List ℕ → Option ℕ
number_to most text = at_most most (value_of text)

-- the protocol: `4` or `6`
abbrev pub proto_of : List ℕ → Option Proto
proto_of text = if bytes_eq text (codes "4") then Some V4 else if bytes_eq text (codes "6") then Some V6 else None

abbrev pub ok_of : Result (List ℕ) FromHexError → Option (List ℕ)
ok_of (Ok bytes) = Some bytes
ok_of (Err why) = None

-- The bytes of an even number of hexadecimal digits of either case, for at most 2048 bytes. A single `-` is no
-- bytes.
abbrev pub bytes_of : List ℕ → Option (List ℕ)
bytes_of [] = None
bytes_of (b ∷ digits) =
    if bytes_eq (b ∷ digits) (codes "-") then Some []
    else if nat_le (length (b ∷ digits)) (2 * 2048) then ok_of (decode_of (b ∷ digits))
    else None

-- the index of the circuit with exactly this id
unfoldable pub circuit_named : Settings → List ℕ → Option ℕ
circuit_named settings id = position (λ circuit. bytes_eq circuit.id id) settings.circuits

-- the index of the first relay with exactly this name
unfoldable pub relay_named : Settings → List ℕ → Option ℕ
relay_named settings name = position (λ relay. bytes_eq relay.name.items name) settings.relays

-- ---- an address and port

-- what a text has before and after the first of these bytes
abbrev pub parted : ℕ → List ℕ → Option (List ℕ × List ℕ)
parted byte text = option_map (λ i. (take i text, drop (i + 1) text)) (position (λ b. b == byte) text)

infixl 10 ◌>>=◌
abbrev pub ◌>>=◌ : {A B : Type 0} → Option A → (A → Option B) → Option B
None >>= f = None
Some a >>= f = f a

-- four numbers from 0 to 255 with points (46) between them
abbrev pub address_of : List ℕ → Option Addr4
address_of text = do
  one ← parted 46 text
  two ← parted 46 one.1
  three ← parted 46 two.1
  a ← number_to 255 one.0
  b ← number_to 255 two.0
  c ← number_to 255 three.0
  d ← number_to 255 three.1
  Some (record { 0 = a ∷ b ∷ c ∷ d ∷ [] })

abbrev pub at_least : ℕ → Option ℕ → Option ℕ
at_least least None = None
at_least least (Some n) = if nat_le least n then Some n else None

-- an address and a port from 1 to 65535 on both sides of a colon (58)
abbrev pub source_of : List ℕ → Option Source
source_of text = do
  parts ← parted 58 text
  addr ← address_of parts.0
  port ← at_least 1 (number_to 65535 parts.1)
  Some (record { addr = addr; port = port })

-- ---- the last of some bytes in a text

-- a byte in front of what stands before the mark
abbrev pub with_front : ℕ → List ℕ × List ℕ → List ℕ × List ℕ
with_front b parts = (b ∷ parts.0, parts.1)

abbrev pub or_here : Bool → ℕ → List ℕ → Option (List ℕ × List ℕ) → Option (List ℕ × List ℕ)
or_here here b text (Some parts) = Some (with_front b parts)
or_here here b text None = if here then Some ([], text) else None

-- what a text has before and after the last of these bytes
unfoldable pub parted_last : ℕ → List ℕ → Option (List ℕ × List ℕ)
parted_last byte [] = None
parted_last byte (b ∷ text) = or_here (b == byte) b text (parted_last byte text)

-- ---- how a circuit's region comes back

abbrev pub single : Option (List ℕ) → Option ℕ
single (Some (b ∷ [])) = Some b
single _ = None

-- the byte that two hexadecimal digits of either case spell
abbrev pub byte_of : List ℕ → Option ℕ
byte_of text = if length text == 2 then single (ok_of (decode_of text)) else None

-- Each unsynced byte of a region becomes this one, and this call of the device fails in its move.
abbrev pub synced_at : ℕ → ℕ → Comeback
synced_at byte fault = record { image = Byte byte; move_fault = fault }

-- the byte that two digits spell, and the call that fails, 0 to 4
abbrev pub with_fault : List ℕ × List ℕ → Option Comeback
with_fault parts = do
  fault ← number_to 4 parts.1
  byte ← byte_of parts.0
  Some (synced_at byte fault)

-- without a colon no call fails
abbrev pub synced_of : List ℕ → Option (List ℕ × List ℕ) → Option Comeback
synced_of text None = option_map (λ byte. synced_at byte 0) (byte_of text)
synced_of text (Some parts) = with_fault parts

-- `unreadable`, or `HH` or `HH:M`, parted at a colon (58)
abbrev pub comeback_of : List ℕ → Option Comeback
comeback_of text =
    if bytes_eq text (codes "unreadable") then Some (record { image = Unreadable; move_fault = 0 })
    else synced_of text (parted 58 text)

-- `CID=` and how the region comes back, parted at the last `=` (61)
abbrev pub named_comeback : Settings → List ℕ → Option (ℕ × Comeback)
named_comeback settings field = do
  parts ← parted_last 61 field
  c ← circuit_named settings parts.0
  comeback ← comeback_of parts.1
  Some (c, comeback)

-- these name circuit c
unfoldable pub is_named : ℕ → List (ℕ × Comeback) → Bool
is_named c [] = false
is_named c (named ∷ rest) = named.0 == c || is_named c rest

-- what is named for circuit c; where nothing is, each unsynced byte becomes 0 and no call fails
unfoldable pub comeback_in : ℕ → List (ℕ × Comeback) → Comeback
comeback_in c [] = synced_at 0 0
comeback_in c (named ∷ rest) = if named.0 == c then named.1 else comeback_in c rest

-- ---- the parts of a batch

-- where it is one of these numbers
abbrev pub one_of : (ℕ → Bool) → Option ℕ → Option ℕ
one_of known None = None
one_of known (Some n) = if known n then Some n else None

-- the shared sync that fails, 2, 4 or 6 as calls of a save count, or 0 for none
abbrev pub sync_fault_of : List ℕ → Option ℕ
sync_fault_of text = one_of is_sync_fault (number_to 6 text)

-- the write of a part's save that fails, 1, 3 or 5, or 0 for none
abbrev pub write_fault_of : List ℕ → Option ℕ
write_fault_of text = one_of is_write_fault (number_to 6 text)

-- `CID=J=FAULT`, parted at the last two `=` (61): J is 0 to 65535
abbrev pub batch_part : Settings → List ℕ → Option BatchPart
batch_part settings field = do
  parts ← parted_last 61 field
  named ← parted_last 61 parts.0
  c ← circuit_named settings named.0
  j ← number_to 65535 named.1
  fault ← write_fault_of parts.1
  Some (record { circuit = c; number = j; fault = fault })

-- each of the fields is a part
unfoldable pub each_part : Settings → List (List ℕ) → Option (List BatchPart)
each_part settings [] = Some []
each_part settings (field ∷ fields) = do
  part ← batch_part settings field
  parts ← each_part settings fields
  Some (part ∷ parts)

-- 1 to 16 parts, each of another circuit
abbrev pub parts_of : Settings → List (List ℕ) → Option (List BatchPart)
parts_of settings fields = do
  parts ← each_part settings fields
  if is_batch parts then Some parts else None
