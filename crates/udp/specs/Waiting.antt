-- Which sockets the system has told of, as the bits of a waiter's words.
use Rattle.std.specs.Prelude.{◌≡◌, ◌≢◌, ℕ, ◌+◌, ◌-◌, ◌*◌, ◌/◌, ◌%◌, ◌^◌, Bool, true, List, slice_index_or, ◌==◌}
use Rattle.std.specs.Int.{bit_at}
use Rattle.types.specs.declared.dest.Proto.TheVariants.{V4, V6}
use Rattle.udp.specs.declared.history.Role.{Role}
use Rattle.udp.specs.declared.history.Role.TheVariants.{Circuit, Server, Relay}
use Rattle.udp.specs.declared.waiting.Place.{Place}

-- a socket's row of words, and its number in that row
abbrev pub row_of : Role → ℕ
row_of (Circuit c V4) = 0
row_of (Circuit c V6) = 1
row_of (Server proto) = 2
row_of (Relay r) = 2

abbrev pub index_of : Role → ℕ
index_of (Circuit c proto) = c
index_of (Server V4) = 0
index_of (Server V6) = 1
index_of (Relay r) = 2 + r

-- the bit of a row with this number: word 3n + r of the waiter is word n of row r
abbrev pub bit_in : ℕ → ℕ → ℕ
bit_in row index = 64 * (3 * (index / 64) + row) + index % 64

abbrev pub bit_of : Role → ℕ
bit_of role = bit_in (row_of role) (index_of role)

-- whether this bit is set; one that no word has counts as set
unfoldable pub is_set : List ℕ → ℕ → Bool
is_set words bit = bit_at (slice_index_or words (bit / 64) (2 ^ 64 - 1)) (bit % 64) == 1

-- whether the system has told of a datagram at this socket, and no receive has found it empty since
abbrev pub is_told : List ℕ → Role → Bool
is_told words role = is_set words (bit_of role)

abbrev pub AllAreTold : List ℕ → Type 0
AllAreTold words = (role : Role) → is_told words role ≡ true

-- Each socket that was told of still is.
abbrev pub AllStayTold : List ℕ → List ℕ → Type 0
AllStayTold old new = (role : Role) → is_told old role ≡ true → is_told new role ≡ true

-- Each socket but this one is told of if it was.
abbrev pub OthersStay : Role → List ℕ → List ℕ → Type 0
OthersStay role old new = (other : Role) → other ≢ role → is_told new other ≡ is_told old other

-- the word of a bit, and the number that has this bit alone
pub record IsPlace (bit : ℕ) (place : Place) : Type 0 where
  pub word : place.word ≡ bit / 64
  pub mask : place.mask ≡ 2 ^ (bit % 64)
