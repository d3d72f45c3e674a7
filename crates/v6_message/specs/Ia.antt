-- An IA_NA (RFC 8415, section 21.4): its fields as values, its bytes, and reading them.
use Rattle.std.specs.Prelude.{◌≡◌, ℕ, ◌<◌, ◌≤◌, ◌^◌, ◌==◌, nat_le, true, List, [], ◌∷◌, ◌++◌, length, drop, Option, None, Some, if◌then◌else◌}
use Rattle.std.specs.Int.{w16, w32, from_be_bytes, to_be_bytes}
use Rattle.v6_options.specs.Codes.{IA_ADDRESS, STATUS_CODE}
use Rattle.v6_options.specs.Reading.{listed}
use Rattle.v6_options.specs.Spelling.{spelling, look_up, AreOptions}
use Rattle.wire.specs.Part.{part}
use Rattle.v6_message.specs.Layout.{IA_OPTIONS}
use Rattle.v6_message.specs.Lists.{AreLong}
use Rattle.v6_message.specs.Reading.{are_long, is_ia}

pub record IaValue : Type 0 where
  pub iaid : ℕ
  pub t1 : ℕ
  pub t2 : ℕ
  pub options : List (ℕ × List ℕ)

-- The bytes of its option's value: three numbers, and its options, in order.
abbrev pub ia_header : ℕ → ℕ → ℕ → List ℕ
ia_header iaid t1 t2 = to_be_bytes w32 iaid ++ (to_be_bytes w32 t1 ++ to_be_bytes w32 t2)

abbrev pub ia_bytes : IaValue → List ℕ
ia_bytes ia = ia_header ia.iaid ia.t1 ia.t2 ++ spelling ia.options

-- What can be written: numbers of 4 bytes, and options, each address with its two lifetimes.
pub record IsIaValue (ia : IaValue) : Type 0 where
  pub iaid : ia.iaid < 2 ^ 32
  pub t1 : ia.t1 < 2 ^ 32
  pub t2 : ia.t2 < 2 ^ 32
  pub options : AreOptions ia.options
  pub addresses : AreLong ia.options

-- The fields at their offsets in the option's value.
abbrev pub ia_at : List ℕ → List (ℕ × List ℕ) → IaValue
ia_at value options = record {
  iaid = from_be_bytes w32 (part value 0 4);
  t1 = from_be_bytes w32 (part value 4 4);
  t2 = from_be_bytes w32 (part value 8 4);
  options = options;
}

-- The result of reading a value.
abbrev pub ia_of : List ℕ → Option IaValue
ia_of value = if is_ia value then Some (ia_at value (listed (drop IA_OPTIONS value))) else None

-- What is known of an IA_NA that was read, by its option's value and its options.
pub record IsReadIa (value : List ℕ) (options : List (ℕ × List ℕ)) : Type 0 where
  pub long : IA_OPTIONS ≤ length value
  pub addresses : are_long options ≡ true

-- ---- its addresses (section 21.6)

pub record AddressValue : Type 0 where
  pub address : List ℕ
  pub preferred_lifetime : ℕ
  pub valid_lifetime : ℕ

-- The bytes of its option's value, without options.
abbrev pub address_bytes : AddressValue → List ℕ
address_bytes a = a.address ++ (to_be_bytes w32 a.preferred_lifetime ++ to_be_bytes w32 a.valid_lifetime)

-- What can be written: 16 bytes, and numbers of 4 bytes.
pub record IsAddressValue (a : AddressValue) : Type 0 where
  pub address : length a.address ≡ 16
  pub preferred : a.preferred_lifetime < 2 ^ 32
  pub valid : a.valid_lifetime < 2 ^ 32

abbrev pub address_at : List ℕ → AddressValue
address_at value = record {
  address = part value 0 16;
  preferred_lifetime = from_be_bytes w32 (part value 16 4);
  valid_lifetime = from_be_bytes w32 (part value 20 4);
}

-- The addresses among these options, in order.
abbrev pub addresses_in : List (ℕ × List ℕ) → List AddressValue
addresses_in [] = []
addresses_in (o ∷ os) = if o.0 == IA_ADDRESS then address_at o.1 ∷ addresses_in os else addresses_in os

-- ---- a status (section 21.13)

-- The first two bytes of the status option; a text follows them.
abbrev pub status_at : Option (List ℕ) → Option ℕ
status_at None = None
status_at (Some value) = if nat_le 2 (length value) then Some (from_be_bytes w16 (part value 0 2)) else None

abbrev pub status_in : List (ℕ × List ℕ) → Option ℕ
status_in options = status_at (look_up STATUS_CODE options)
