use Rattle.std.proofs.Common.{◌≡◌, ◌≤◌, length}
use Rattle.config.specs.Rules.{IsSound}
use Rattle.dispatch.proofs.RegionLemmas.{Regions}
use Rattle.dispatch.proofs.regions.region_count.Given as goal

-- the regions of the circuits so far
abbrev pub invariant-loop-index : goal.invariant-loop-index
invariant-loop-index l = record {
  index : l.index ≤ l.index-end;
  end : l.index-end ≡ length l.config.circuits;
  sound : IsSound l.config;
  so_far : Regions l.config.circuits l.index l.regions;
}
