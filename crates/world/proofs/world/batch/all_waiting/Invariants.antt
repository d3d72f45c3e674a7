use Rattle.std.proofs.Common.{◌≡◌, ℕ, ◌≤◌, length, take}
use Rattle.std.specs.Prelude.{Some, slice_get}
use Rattle.std.specs.List.{filter_map}
use Rattle.wire.specs.Bytes.{AreBytes}
use Rattle.world.specs.Batch.{bytes_of, waiting_of}
use Rattle.world.specs.declared.world.batch.Waiting.{Waiting}
use Rattle.world.proofs.world.batch.all_waiting.Given as goal

-- what waits of the parts so far
abbrev pub invariant-parts : goal.invariant-parts
invariant-parts l = record {
  index : l.index ≤ length l.parts;
  few : length l.waiting.items ≤ l.index;
  items : l.waiting.items ≡ filter_map (waiting_of l.relays.topology l.net l.sync) (take l.index l.parts);
  bytes : (j : ℕ) (w : Waiting) → slice_get l.waiting.items j ≡ Some w → AreBytes (bytes_of l.net w);
}
