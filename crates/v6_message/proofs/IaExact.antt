-- An IA_NA that was written reads back as the same, and so does an address.
use Rattle.std.proofs.Common.{◌≡◌, ℕ, List, ◌++◌, take, drop, Option, Some, refl, sym, ap, ◌∙◌, arith}
use Rattle.std.specs.Int.{w32, from_be_bytes, to_be_bytes}
use Rattle.std.proofs.lemmas.List.{take_at, drop_at, drop-drop}
use Rattle.std.proofs.lemmas.Nat.{from_be_bytes-to_be_bytes_4}
use Rattle.v6_message.specs.Ia.{AddressValue, IaValue, IsAddressValue, IsIaValue, address_at, address_bytes, ia_bytes, ia_of}
use Rattle.v6_message.specs.Layout.{IA_OPTIONS}
use Rattle.v6_message.specs.Lists.{IsIa}
use Rattle.v6_message.proofs.Decided.{ia_true}
use Rattle.v6_message.proofs.Lists.{listed_spells}

pub formed : (ia : IaValue) → IsIaValue ia → IsIa (ia_bytes ia)
formed ia h = record { long = omega arith; list = ia.options; spelled = record { whole = refl; options = h.options }; addresses = h.addresses }

abbrev some : IaValue → Option IaValue
some ia = Some ia

pub read : (ia : IaValue) → IsIaValue ia → ia_of (ia_bytes ia) ≡ some ia
read ia h =
    rw (ia_true (ia_bytes ia) (formed ia h), listed_spells (drop IA_OPTIONS (ia_bytes ia)) ia.options (record { whole = refl; options = h.options }))
    (λ i. Some (record { iaid = from_be_bytes-to_be_bytes_4 ia.iaid h.iaid i; t1 = from_be_bytes-to_be_bytes_4 ia.t1 h.t1 i; t2 = from_be_bytes-to_be_bytes_4 ia.t2 h.t2 i; options = ia.options }))

pub address : (a : AddressValue) → IsAddressValue a → address_at (address_bytes a) ≡ a
address a h =
    let preferred = to_be_bytes w32 a.preferred_lifetime in
    let valid = to_be_bytes w32 a.valid_lifetime in
    let front : take 16 (address_bytes a) ≡ a.address = take_at a.address (preferred ++ valid) 16 h.address in
    let behind : drop 16 (address_bytes a) ≡ preferred ++ valid = drop_at a.address (preferred ++ valid) 16 h.address in
    let last : drop 20 (address_bytes a) ≡ valid = sym (drop-drop 4 16 (address_bytes a)) ∙ ap (drop 4) behind in
    λ i. record {
      address = front i;
      preferred_lifetime = (ap (λ (t : List ℕ). from_be_bytes w32 (take 4 t)) behind ∙ from_be_bytes-to_be_bytes_4 a.preferred_lifetime h.preferred) i;
      valid_lifetime = (ap (λ (t : List ℕ). from_be_bytes w32 (take 4 t)) last ∙ from_be_bytes-to_be_bytes_4 a.valid_lifetime h.valid) i;
    }
