-- Values that have a name of their own.
use Rattle.std.specs.Prelude.{ℕ, List, [], ◌∷◌}

-- RFC 2131, section 2, figure 2: the client cannot receive unicast yet
abbrev pub BROADCAST : ℕ
BROADCAST = 0x8000

-- RFC 2131, section 3
abbrev pub MAGIC_COOKIE : List ℕ
MAGIC_COOKIE = 99 ∷ 130 ∷ 83 ∷ 99 ∷ []
