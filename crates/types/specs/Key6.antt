-- A DHCPv6 client, and how its DUID lies in 130 bytes: first, and zeros after it.
use Rattle.std.specs.Prelude.{◌≡◌, ℕ, Bool, ◌&&◌, ◌==◌, ◌-◌, ◌≤◌, List, ◌++◌, length, take, replicate}
use Rattle.std.specs.Str.{bytes_eq}
use Rattle.types.specs.declared.key6.Key6.TheInside.{Inside}

-- the values of a key
pub record Key6Value : Type 0 where
  pub duid : List ℕ
  pub iaid : ℕ

abbrev pub padded6 : List ℕ → List ℕ
padded6 xs = xs ++ replicate (130 - length xs) 0

-- 3 to 130 bytes (RFC 8415, section 11.1)
pub record IsKey6 (len : ℕ) (bytes : List ℕ) : Type 0 where
  pub least : 3 ≤ len
  pub most : len ≤ 130
  pub all : length (take len bytes) ≡ len
  pub zeros : padded6 (take len bytes) ≡ bytes

abbrev pub same_key6 : Key6Value → Key6Value → Bool
same_key6 a b = bytes_eq a.duid b.duid && a.iaid == b.iaid

-- the fields are those of the view
pub fields_again6 : (k : Inside) → IsKey6 k.len k.bytes → record { len = length (take k.len k.bytes); bytes = padded6 (take k.len k.bytes); iaid = k.iaid } ≡ k
fields_again6 k h = λ i. record { len = h.all i; bytes = h.zeros i; iaid = k.iaid }
