-- Which circuits each plan has.
use Rattle.std.proofs.Common.{◌≡◌, ℕ, ◌≤◌, Bool, List, length, map, arith}
use Rattle.std.specs.Prelude.{All}
use Rattle.std.proofs.lemmas.List.{length-map}
use Rattle.std.proofs.lemmas.List.Elements.{All-map}
use Rattle.config.specs.Membership.{IsMembership}

-- of the first of so many plans
pub is_membership : {R : Type 0} (f : R → List Bool) (rows : List R) (count : ℕ) → 1 ≤ count → count ≤ 8
    → All (λ row. length (f row) ≡ count) rows
    → IsMembership (length rows) (record { count = count; members = map f rows; plan = 0 })
is_membership f rows count some few each = record {
  few = few;
  there = omega (arith, some);
  each_circuit = length-map rows f;
  each_plan = All-map (λ row. length row ≡ count) f rows each;
}
