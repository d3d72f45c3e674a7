use Rattle.std.proofs.Common.{◌≡◌, take}
use Rattle.config.proofs.circuits.copies_of.Given as goal

abbrev pub invariant-rows : goal.invariant-rows
invariant-rows l = l.copies.items ≡ take l.row-index l.members
