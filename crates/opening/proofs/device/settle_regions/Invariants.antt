use Rattle.std.proofs.Common.{◌≡◌, ◌≤◌, length}
use Rattle.opening.proofs.device.settle_regions.Given as goal

abbrev pub invariant-circuits : goal.invariant-circuits
invariant-circuits l = record {
  index : l.index ≤ l.count;
  end : l.count ≡ length l.config.circuits;
  few : l.count ≤ 1024;
}
