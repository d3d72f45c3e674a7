-- The codes of the options that have a meaning here (RFC 8415, section 21).
use Rattle.std.specs.Prelude.{ℕ}

-- section 21.2
abbrev pub CLIENT_ID : ℕ
CLIENT_ID = 1

-- section 21.3
abbrev pub SERVER_ID : ℕ
SERVER_ID = 2

-- section 21.4
abbrev pub IA_NA : ℕ
IA_NA = 3

-- section 21.6
abbrev pub IA_ADDRESS : ℕ
IA_ADDRESS = 5

-- section 21.10
abbrev pub RELAY_MESSAGE : ℕ
RELAY_MESSAGE = 9

-- section 21.13
abbrev pub STATUS_CODE : ℕ
STATUS_CODE = 13

-- section 21.18
abbrev pub INTERFACE_ID : ℕ
INTERFACE_ID = 18
