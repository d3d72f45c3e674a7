-- Addresses and their numbers, the first byte the most significant.
use Rattle.std.specs.Prelude.{ℕ, Bool, ◌&&◌, ◌==◌, List, [], ◌∷◌}
use Rattle.std.specs.Int.{w32, w128, to_be_bytes, from_be_bytes}
use Rattle.std.specs.Str.{bytes_eq}
use Rattle.types.specs.declared.addr.Addr4.{Addr4}
use Rattle.types.specs.declared.addr.Addr6.{Addr6}
use Rattle.types.specs.declared.addr.Source.{Source}

abbrev pub number4 : Addr4 → ℕ
number4 a = from_be_bytes w32 a.0

abbrev pub addr4 : ℕ → Addr4
addr4 n = record { 0 = to_be_bytes w32 n }

-- an IPv6 address
abbrev pub number6 : Addr6 → ℕ
number6 a = from_be_bytes w128 a.0

abbrev pub addr6 : ℕ → Addr6
addr6 n = record { 0 = to_be_bytes w128 n }

-- the bytes of 0.0.0.0, an address that is not given
abbrev pub is_unspecified : List ℕ → Bool
is_unspecified address = bytes_eq address (0 ∷ 0 ∷ 0 ∷ 0 ∷ [])

-- one address and one port
abbrev pub same_source : Source → Source → Bool
same_source a b = bytes_eq a.addr.0 b.addr.0 && a.port == b.port
