use Rattle.std.proofs.Common.{◌≡◌, ◌≤◌, ◌+◌, ◌*◌, true, take, length}
use Rattle.std.specs.Prelude.{All}
use Rattle.circuit_server.specs.CircuitServerValue.{HasFoundBook, HasItsPools}
use Rattle.dispatch.specs.ServerValue.{with_states}
use Rattle.dispatch.proofs.HeldDeadlines.{SetFirst}
use Rattle.dispatch.proofs.RestartLemmas.{AreUp, FirstSettled}
use Rattle.dispatch.proofs.circuit_servers.restart_all.Given as goal

abbrev pub invariant-circuits : goal.invariant-circuits
invariant-circuits g l = record {
  up : g.D.Disk.tells ≡ true → AreUp l.parts l.index l.servers (g.D.Disk.device l.fn.disk) (g.D.Disk.device l.disk);
  pools : All HasItsPools (take l.index (with_states l.parts l.servers));
  found : All HasFoundBook (take l.index (with_states l.parts l.servers));
  count : (g.D.Disk.device l.disk).count ≡ (g.D.Disk.device l.fn.disk).count;
  settled : FirstSettled l.parts l.index l.servers (g.D.Disk.doubt l.disk);
  least : (g.D.Disk.device l.fn.disk).reads + l.index ≤ (g.D.Disk.device l.disk).reads;
  reads : (g.D.Disk.device l.disk).reads ≤ (g.D.Disk.device l.fn.disk).reads + 5 * l.index;
  writes : (g.D.Disk.device l.disk).writes ≤ (g.D.Disk.device l.fn.disk).writes + 4 * l.index;
  buffer : length l.buffer ≡ 16384;
  room : length l.table.slots ≡ 32 * length l.parts;
  deadlines : SetFirst l.index l.table l.servers;
  examined : l.table.examined ≡ l.fn.table.examined;
  size : length l.servers ≡ length l.fn.servers;
}
