use Rattle.std.proofs.Common.{◌≡◌, ℕ, [], length, nat_lt}
use Rattle.std.specs.Prelude.{◌&&◌, if◌then◌else◌}
use Rattle.lossy_net.specs.Net.{datagrams}
use Rattle.lossy_net.specs.declared.dir.Dir.{Dir}
use Rattle.world.specs.StepsAs.{turns_off}
use Rattle.world.proofs.world.clear_all.Given as goal

-- the circuits so far that are turned off are cleared
abbrev pub invariant-circuits : goal.invariant-circuits
invariant-circuits l = record {
  count : length l.net.circuits ≡ length l.fn.net.circuits;
  quota : l.net.quota ≡ l.fn.net.quota;
  queues : (c : ℕ) (way : Dir) → datagrams l.net c way ≡ (if nat_lt c l.index && turns_off l.relays.topology l.plan c then [] else datagrams l.fn.net c way);
}
