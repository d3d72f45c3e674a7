use Rattle.std.proofs.Common.{◌≡◌, true, length}
use Rattle.v6_message.specs.Ia.{addresses_in}
use Rattle.v6_message.specs.Reading.{are_long}
use Rattle.v6_message.proofs.ia_address.AddressesIterator.next.Given as goal

abbrev pub invariant-row : goal.invariant-row
invariant-row l = record {
  same : addresses_in l.self-inside.left ≡ l.fn.self;
  long : are_long l.self-inside.left ≡ true;
}

abbrev pub decreases-row : goal.decreases-row
decreases-row l = length l.self-inside.left
