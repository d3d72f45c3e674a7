use Rattle.std.proofs.Common.{◌≡◌, ◌+◌, ◌≤◌, length, map, ◌++◌}
use Rattle.types.specs.declared.addr.Addr6.{Addr6}
use Rattle.v6_message.specs.Ia.{AddressValue, addresses_in}
use Rattle.requests.proofs.request6.listed_in.Given as goal

abbrev address_of : AddressValue → Addr6
address_of a = record { 0 = a.address }

abbrev pub invariant-addresses : goal.invariant-addresses
invariant-addresses l = record {
  all : l.listed.items ++ map address_of l.left ≡ map address_of (addresses_in l.ia.options);
  few : length l.listed.items + length l.left ≤ 4;
}

abbrev pub decreases-addresses : goal.decreases-addresses
decreases-addresses l = length l.left
