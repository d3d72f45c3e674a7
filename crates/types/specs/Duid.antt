-- What a DUID is (RFC 8415, section 11.1).
use Rattle.std.specs.Prelude.{ℕ, ◌≤◌, List, length}

-- two bytes of type, then 1 to 128 bytes
pub record IsDuid (bytes : List ℕ) : Type 0 where
  pub least : 3 ≤ length bytes
  pub most : length bytes ≤ 130
