-- Where the parts of a message stand (RFC 8415, sections 8 and 9).
use Rattle.std.specs.Prelude.{ℕ}

-- A client's or server's message: type and transaction id, 1 and 3 bytes, then options.
abbrev pub MESSAGE_OPTIONS : ℕ
MESSAGE_OPTIONS = 4

-- A relay message: type and hop count, one byte each, link address and peer address, 16 bytes each,
-- then options.
abbrev pub RELAY_OPTIONS : ℕ
RELAY_OPTIONS = 34

-- An IA_NA: IAID, T1 and T2, 4 bytes each, then options (section 21.4).
abbrev pub IA_OPTIONS : ℕ
IA_OPTIONS = 12

-- An IA address: 16 bytes of address, two lifetimes of 4 bytes each, then options (section 21.6).
abbrev pub IA_ADDRESS_OPTIONS : ℕ
IA_ADDRESS_OPTIONS = 24
