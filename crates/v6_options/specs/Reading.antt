-- Reading options from the left: the list, and whether the last option is cut off.
use Rattle.std.specs.Prelude.{ℕ, zero, suc, ◌+◌, Bool, true, false, ◌&&◌, nat_le, List, [], ◌∷◌, length, take, drop, Result, Ok, Err, if◌then◌else◌}
use Rattle.std.specs.Int.{w16, from_be_bytes}
use Rattle.v6_options.specs.declared.fault.OptFault.{OptFault}
use Rattle.v6_options.specs.declared.fault.OptFault.TheVariants.{Cut}

-- The first option's code, the length of its value, and its value.
abbrev pub code_of : List ℕ → ℕ
code_of bytes = from_be_bytes w16 bytes

abbrev pub len_of : List ℕ → ℕ
len_of bytes = from_be_bytes w16 (drop 2 bytes)

abbrev pub value_of : List ℕ → List ℕ
value_of bytes = take (len_of bytes) (drop 4 bytes)

-- whether all of it is there
abbrev pub is_whole : List ℕ → Bool
is_whole bytes = nat_le 4 (length bytes) && nat_le (4 + len_of bytes) (length bytes)

-- The options up to the last byte, or to one that is cut off. The first `skip` bytes belong to the
-- option before.
unfoldable pub listed_from : ℕ → List ℕ → List (ℕ × List ℕ)
listed_from skip [] = []
listed_from (suc skip) (byte ∷ bytes) = listed_from skip bytes
listed_from zero (byte ∷ bytes) =
    if is_whole (byte ∷ bytes) then (code_of (byte ∷ bytes), value_of (byte ∷ bytes)) ∷ listed_from (3 + length (value_of (byte ∷ bytes))) bytes
    else []

abbrev pub listed : List ℕ → List (ℕ × List ℕ)
listed bytes = listed_from 0 bytes

unfoldable pub cut_from : ℕ → List ℕ → Bool
cut_from skip [] = false
cut_from (suc skip) (byte ∷ bytes) = cut_from skip bytes
cut_from zero (byte ∷ bytes) = if is_whole (byte ∷ bytes) then cut_from (3 + length (value_of (byte ∷ bytes))) bytes else true

-- The result of reading.
abbrev pub options_of : List ℕ → Result (List (ℕ × List ℕ)) OptFault
options_of bytes = if cut_from 0 bytes then Err Cut else Ok (listed bytes)
