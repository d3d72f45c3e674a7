use Rattle.std.proofs.Common.{◌≡◌, ℕ, ◌≤◌, length, map, take}
use Rattle.types.specs.Delivery.{delivery}
use Rattle.world.specs.Batch.{delivered}
use Rattle.world.proofs.world.batch.datagrams_of.Given as goal

-- the datagrams of the parts so far
abbrev pub invariant-parts : goal.invariant-parts
invariant-parts l = record {
  index : l.index ≤ length l.waiting;
  size : length l.datagrams ≡ 16;
  done : (now : ℕ) → map (λ d. delivery d.0 d.1 now d.2.now) (take l.index l.datagrams) ≡ map (delivered l.net now) (take l.index l.waiting);
}
