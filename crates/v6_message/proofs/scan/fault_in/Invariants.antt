use Rattle.std.proofs.Common.{◌≡◌, length}
use Rattle.v6_options.specs.Reading.{listed, cut_from}
use Rattle.v6_message.specs.Reading.{first_fault, fault_of}
use Rattle.v6_message.proofs.scan.fault_in.Given as goal

abbrev pub invariant-row : goal.invariant-row
invariant-row l = record {
  same : l.seen.sender ≡ l.sender;
  left : fault_of l.sender l.seen.first l.seen.second (cut_from 0 l.left) (listed l.left) ≡ first_fault l.sender l.bytes;
}

abbrev pub decreases-row : goal.decreases-row
decreases-row l = length l.left
