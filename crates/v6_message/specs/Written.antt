-- An address of an IA_NA as a value of the code (RFC 8415, section 21.6), and taking the next one.
use Rattle.std.specs.Prelude.{◌≡◌, List, [], ◌∷◌, Option, None, Some}
use Rattle.v6_message.specs.declared.ia_address.IaAddress.{IaAddress}
use Rattle.v6_message.specs.Ia.{AddressValue}

abbrev pub address_value : IaAddress → AddressValue
address_value a = record { address = a.address.0; preferred_lifetime = a.preferred_lifetime; valid_lifetime = a.valid_lifetime }

-- The step takes the first address; `None` where none is left.
abbrev pub GivesAddress : List AddressValue → Option IaAddress → List AddressValue → Type 0
GivesAddress old None new = (old ≡ []) × (new ≡ [])
GivesAddress old (Some a) new = old ≡ address_value a ∷ new
