use Rattle.std.proofs.Common.{◌≡◌, ◌+◌, count_by, take}
use Rattle.batch_saves.specs.Steps.{is_saving}
use Rattle.batch_saves.proofs.Going.{IsGoing}
use Rattle.batch_saves.proofs.writes.write_parts.Given as goal

abbrev pub invariant-parts : goal.invariant-parts
invariant-parts g l = record {
  going : IsGoing g.D.Disk.tells l.step l.fn.parts (g.D.Disk.device l.fn.disk) l.parts (g.D.Disk.device l.disk) l.part-index;
  writes : (g.D.Disk.device l.disk).writes ≡ (g.D.Disk.device l.fn.disk).writes + count_by is_saving (take l.part-index l.fn.parts);
}
