use Rattle.std.proofs.Common.{◌≡◌, ℕ, drop, length}
use Rattle.lossy_net.specs.Net.{datagrams}
use Rattle.lossy_net.specs.declared.dir.Dir.TheVariants as dir
use Rattle.world.specs.Batch.{downs_after}
use Rattle.world.proofs.world.batch.send_all.Given as goal

-- the replies to the parts so far are sent
abbrev pub invariant-parts : goal.invariant-parts
invariant-parts l = record {
  circuits : length l.net.circuits ≡ length l.fn.net.circuits;
  quota : l.net.quota ≡ l.fn.net.quota;
  ups : (c : ℕ) → datagrams l.net c dir.Up ≡ datagrams l.fn.net c dir.Up;
  downs : (c : ℕ) → downs_after l.fn.net.quota (drop l.index l.waiting) (drop l.index l.answers.answers) c (datagrams l.net c dir.Down)
      ≡ downs_after l.fn.net.quota l.waiting l.answers.answers c (datagrams l.fn.net c dir.Down);
}
