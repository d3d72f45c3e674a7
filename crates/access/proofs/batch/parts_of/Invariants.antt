use Rattle.std.proofs.Common.{◌≡◌, ℕ, ◌≤◌, length, map, take}
use Rattle.types.specs.Delivery.{delivery}
use Rattle.access.specs.Taken.{all_delivered}
use Rattle.access.proofs.batch.parts_of.Given as goal

-- the datagrams so far
abbrev pub invariant-parts : goal.invariant-parts
invariant-parts l = record {
  index : l.index ≤ length l.taken;
  size : length l.parts ≡ 16;
  done : (now : ℕ) → map (λ d. delivery d.0 d.1 now d.2.now) (take l.index l.parts) ≡ all_delivered now (take l.index l.taken);
}
