-- Which message bytes spell (RFC 2131, section 2), and why others spell none.
use Rattle.std.specs.Prelude.{◌≡◌, ℕ, ◌<◌, ◌≤◌, ◌⊎◌, List, [], ◌∷◌, ◌++◌, length, drop, slice_index, Some, None, IfSome}
use Rattle.v4_options.specs.Codes.{REQUESTED_ADDRESS, OPTION_OVERLOAD, MESSAGE_TYPE, SERVER_IDENTIFIER, END}
use Rattle.v4_options.specs.Spelling.{look_up, spelling}
use Rattle.v4_options.specs.Spelling as lists
use Rattle.v4_message.specs.Layout.{MAGIC_COOKIE}
use Rattle.v4_message.specs.declared.fault.MessageFault.{MessageFault}
use Rattle.v4_message.specs.declared.fault.MessageFault.TheVariants.{Short, Cookie, Hardware, Options, Kind}
use Rattle.wire.specs.Part.{part}
use Rattle.v4_message.specs.Header.{HeaderValue, IsSized, header_bytes}

-- A header and a list of options, codes and values.
pub record MessageValue : Type 0 where
  pub header : HeaderValue
  pub options : List (ℕ × List ℕ)

-- op is a request (1) or a reply (2).
abbrev pub IsOp : ℕ → Type 0
IsOp op = (op ≡ 1) ⊎ (op ≡ 2)

-- Option 53 is one byte, a message type (RFC 2132, section 9.6).
abbrev pub HasKind : List (ℕ × List ℕ) → Type 0
HasKind list = (code : ℕ) × (look_up MESSAGE_TYPE list ≡ Some (code ∷ [])) × (1 ≤ code) × (code ≤ 8)

-- There is no overload (RFC 2132, section 9.3), and options 50 and 54 are addresses or absent (RFC
-- 2132, sections 9.1 and 9.7).
pub record AreAllowed (list : List (ℕ × List ℕ)) : Type 0 where
  pub overload : look_up OPTION_OVERLOAD list ≡ None
  pub requested : IfSome (look_up REQUESTED_ADDRESS list) (λ value. length value ≡ 4)
  pub server : IfSome (look_up SERVER_IDENTIFIER list) (λ value. length value ≡ 4)

pub record IsValid (m : MessageValue) : Type 0 where
  pub op : IsOp m.header.op
  pub kind : HasKind m.options
  pub allowed : AreAllowed m.options

-- Bytes spell a message if they are its header, the cookie, and bytes that spell its options, and
-- the message is valid.
pub record Spells (bytes : List ℕ) (m : MessageValue) : Type 0 where
  pub tail : List ℕ
  pub whole : bytes ≡ header_bytes m.header ++ (MAGIC_COOKIE ++ tail)
  pub options : lists.Spells tail m.options
  pub sized : IsSized m.header
  pub valid : IsValid m

-- The bytes of a written message: the header, the cookie, the options and their end.
abbrev pub message_bytes : MessageValue → List ℕ
message_bytes m = header_bytes m.header ++ (MAGIC_COOKIE ++ (spelling m.options ++ END ∷ []))

-- The cookie stands before the options.
abbrev pub HasCookie : List ℕ → Type 0
HasCookie bytes = part bytes 236 4 ≡ MAGIC_COOKIE

-- htype and hlen are those of an Ethernet address: 1 and 6.
abbrev pub IsEthernet : List ℕ → Type 0
IsEthernet bytes = (slice_index bytes 1 ≡ 1) × (slice_index bytes 2 ≡ 6)

-- The bytes after the cookie spell this list, which is allowed in a message.
pub record HasOptions (bytes : List ℕ) (list : List (ℕ × List ℕ)) : Type 0 where
  pub spelled : lists.Spells (drop 240 bytes) list
  pub allowed : AreAllowed list

-- A fault applies where none before it does: fewer bytes than a header and a cookie, another cookie,
-- other hardware than Ethernet, no options that are allowed in a message, or not both a known op and
-- a known type.
abbrev pub Fails : MessageFault → List ℕ → Type 0
Fails Short bytes = length bytes < 240
Fails Cookie bytes = (240 ≤ length bytes) × (¬ HasCookie bytes)
Fails Hardware bytes = (240 ≤ length bytes) × HasCookie bytes × (¬ IsEthernet bytes)
Fails Options bytes = (240 ≤ length bytes) × HasCookie bytes × IsEthernet bytes × ((list : List (ℕ × List ℕ)) → ¬ HasOptions bytes list)
Fails Kind bytes = (240 ≤ length bytes) × HasCookie bytes × IsEthernet bytes × ((list : List (ℕ × List ℕ)) × HasOptions bytes list × (¬ (IsOp (slice_index bytes 0) × HasKind list)))
