use Rattle.std.proofs.Common.{◌++◌, length, map, ap, ◌∙◌, arith}
use Rattle.types.specs.declared.addr.Addr6.{Addr6}
use Rattle.v6_message.specs.Ia.{AddressValue}
use Rattle.requests.proofs.RequestLemmas6.{length_addresses}
use Rattle.requests.proofs.request6.listed_in.Goals as goal

abbrev address_of : AddressValue → Addr6
address_of a = record { 0 = a.address }

pub addresses-init : goal.addresses-init
addresses-init c = record {
  all = ap (λ xs. xs ++ map address_of c.addresses-left.result) c.new-listed.ensures ∙ ap (map address_of) c.addresses-left.ensures.value;
  few = omega (arith, ap length c.new-listed.ensures, ap length c.addresses-left.ensures.value, length_addresses c.args.ia.now.options, c.requires);
}
