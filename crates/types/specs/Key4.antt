-- How a key's bytes lie in its 64: first, and zeros after them.
use Rattle.std.specs.Prelude.{◌≡◌, ℕ, ◌-◌, ◌≤◌, List, ◌++◌, length, take, replicate}
use Rattle.types.specs.declared.key4.Key4.TheInside.{Inside}

abbrev pub padded : List ℕ → List ℕ
padded xs = xs ++ replicate (64 - length xs) 0

pub record IsKey4 (len : ℕ) (bytes : List ℕ) : Type 0 where
  pub least : 2 ≤ len
  pub most : len ≤ 64
  pub all : length (take len bytes) ≡ len
  pub zeros : padded (take len bytes) ≡ bytes

-- the fields are those of the view
pub fields_again : (k : Inside) → IsKey4 k.len k.bytes → record { len = length (take k.len k.bytes); bytes = padded (take k.len k.bytes) } ≡ k
fields_again k h = λ i. record { len = h.all i; bytes = h.zeros i }
