use Rattle.std.proofs.Common.{◌≡◌, ◌≤◌, ◌+◌, true, length, take}
use Rattle.lease_disk.specs.Device.{TouchesNothing}
use Rattle.opening.specs.Opening.{formats_of}
use Rattle.opening.proofs.opening.formats_of.Given as goal

abbrev pub invariant-circuits : goal.invariant-circuits
invariant-circuits g l = record {
  index : l.index ≤ l.index-end;
  end : l.index-end ≡ length l.config.circuits;
  few : l.index-end ≤ 1024;
  all : length l.found.items ≡ l.index;
  frame : TouchesNothing g.D.Disk.tells (g.D.Disk.device l.fn.disk) (g.D.Disk.device l.disk);
  least : (g.D.Disk.device l.fn.disk).reads ≤ (g.D.Disk.device l.disk).reads;
  reads : (g.D.Disk.device l.disk).reads ≤ (g.D.Disk.device l.fn.disk).reads + l.index;
  found : g.D.Disk.tells ≡ true → l.found.items ≡ formats_of (g.D.Disk.device l.fn.disk) (take l.index l.config.circuits);
}
