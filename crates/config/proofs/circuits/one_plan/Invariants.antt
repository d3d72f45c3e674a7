use Rattle.std.proofs.Common.{◌≡◌, [], ◌∷◌, length, map, replicate, true}
use Rattle.std.specs.Prelude.{All}
use Rattle.config.proofs.circuits.one_plan.Given as goal

abbrev pub invariant-circuits : goal.invariant-circuits
invariant-circuits l = record {
  rows : map (λ row. row.items) l.members.items ≡ replicate l.index (true ∷ []);
  each : All (λ row. length row.items ≡ 1) l.members.items;
}
