-- Reading a message: the tests in their order, and the message.
use Rattle.std.specs.Prelude.{ℕ, Bool, true, ◌&&◌, ◌||◌, ◌==◌, nat_le, List, [], ◌∷◌, length, drop, slice_index, Option, Some, None, Result, Ok, Err, is_some, is_none, if◌then◌else◌}
use Rattle.std.specs.Str.{bytes_eq}
use Rattle.std.specs.Option.{option_map_or}
use Rattle.v4_options.specs.Codes.{REQUESTED_ADDRESS, OPTION_OVERLOAD, MESSAGE_TYPE, SERVER_IDENTIFIER}
use Rattle.v4_options.specs.declared.fault.OptFault.{OptFault}
use Rattle.v4_options.specs.Spelling.{look_up}
use Rattle.v4_options.specs.Reading.{options_of}
use Rattle.v4_message.specs.Layout.{MAGIC_COOKIE}
use Rattle.v4_message.specs.declared.fault.MessageFault.{MessageFault}
use Rattle.v4_message.specs.declared.fault.MessageFault.TheVariants.{Short, Cookie, Hardware, Options, Kind}
use Rattle.wire.specs.Part.{part}
use Rattle.v4_message.specs.Header.{header_at}
use Rattle.v4_message.specs.Spelling.{MessageValue}

-- The cookie stands after the 236 bytes of the header, and the options from 240 on.
abbrev pub has_cookie : List ℕ → Bool
has_cookie bytes = bytes_eq (part bytes 236 4) MAGIC_COOKIE

-- htype 1, hlen 6
abbrev pub is_ethernet : List ℕ → Bool
is_ethernet bytes = slice_index bytes 1 == 1 && slice_index bytes 2 == 6

-- An address, or absent.
abbrev pub may_be_addr : Option (List ℕ) → Bool
may_be_addr found = option_map_or (λ value. length value == 4) found true

abbrev pub are_allowed : List (ℕ × List ℕ) → Bool
are_allowed list = is_none (look_up OPTION_OVERLOAD list) && (may_be_addr (look_up REQUESTED_ADDRESS list) && may_be_addr (look_up SERVER_IDENTIFIER list))

-- The message type in option 53.
abbrev pub kind_in : Option (List ℕ) → Option ℕ
kind_in (Some (code ∷ [])) = if nat_le 1 code && nat_le code 8 then Some code else None
kind_in _ = None

-- Its op is a request's (1) or a reply's (2).
abbrev pub message_with : List ℕ → List (ℕ × List ℕ) → Result MessageValue MessageFault
message_with bytes list =
    if are_allowed list then
    (if (slice_index bytes 0 == 1 || slice_index bytes 0 == 2) && is_some (kind_in (look_up MESSAGE_TYPE list)) then Ok (record { header = header_at bytes; options = list }) else Err Kind)
    else Err Options

abbrev pub with_options : List ℕ → Result (List (ℕ × List ℕ)) OptFault → Result MessageValue MessageFault
with_options bytes (Ok list) = message_with bytes list
with_options bytes (Err fault) = Err Options

-- The result of reading.
abbrev pub message_of : List ℕ → Result MessageValue MessageFault
message_of bytes =
    if nat_le 240 (length bytes) then
    (if has_cookie bytes then
    (if is_ethernet bytes then with_options bytes (options_of (drop 240 bytes)) else Err Hardware)
    else Err Cookie)
    else Err Short
