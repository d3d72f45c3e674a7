-- The codes of the options and suboptions that have a meaning here.
use Rattle.std.specs.Prelude.{ℕ}

-- RFC 2132, section 3.1: a single byte, ignored
abbrev pub PAD : ℕ
PAD = 0

-- RFC 2132, section 3.2: a single byte, the last of a list
abbrev pub END : ℕ
END = 255

-- RFC 2132, section 9.1
abbrev pub REQUESTED_ADDRESS : ℕ
REQUESTED_ADDRESS = 50

-- RFC 2132, section 9.3
abbrev pub OPTION_OVERLOAD : ℕ
OPTION_OVERLOAD = 52

-- RFC 2132, section 9.6
abbrev pub MESSAGE_TYPE : ℕ
MESSAGE_TYPE = 53

-- RFC 2132, section 9.7
abbrev pub SERVER_IDENTIFIER : ℕ
SERVER_IDENTIFIER = 54

-- RFC 2132, section 9.14
abbrev pub CLIENT_IDENTIFIER : ℕ
CLIENT_IDENTIFIER = 61

-- RFC 3046, section 2.0
abbrev pub RELAY_AGENT_INFORMATION : ℕ
RELAY_AGENT_INFORMATION = 82

-- ---- suboptions of option 82

-- RFC 3046, section 3.1
abbrev pub CIRCUIT_ID : ℕ
CIRCUIT_ID = 1

-- RFC 5107, section 4
abbrev pub SERVER_IDENTIFIER_OVERRIDE : ℕ
SERVER_IDENTIFIER_OVERRIDE = 11
