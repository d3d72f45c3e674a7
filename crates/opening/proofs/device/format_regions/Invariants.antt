use Rattle.std.proofs.Common.{◌≡◌, ◌≤◌, ◌<◌, ◌+◌, ◌*◌, ℕ, true, length}
use Rattle.std.specs.Prelude.{Some, slice_get}
use Rattle.config.specs.Rules.{IsSound}
use Rattle.settings.specs.declared.settings.CircuitConfig.{CircuitConfig}
use Rattle.lease_disk.specs.Crash.{IsFormatted}
use Rattle.opening.proofs.device.format_regions.Given as goal

abbrev pub invariant-circuits : goal.invariant-circuits
invariant-circuits g l = record {
  index : l.index ≤ l.index-end;
  end : l.index-end ≡ length l.config.circuits;
  sound : IsSound l.config;
  count : (g.D.Disk.device l.disk).count ≡ (g.D.Disk.device l.fn.disk).count;
  writes : (g.D.Disk.device l.disk).writes ≡ (g.D.Disk.device l.fn.disk).writes + 4 * l.index;
  formatted : g.D.Disk.tells ≡ true → (c : ℕ) (circuit : CircuitConfig) → c < l.index → slice_get l.config.circuits c ≡ Some circuit → IsFormatted ((g.D.Disk.device l.disk).region circuit.region);
}
