-- How often calls of a region failed.
use Rattle.std.specs.Prelude.{ℕ, List, [], ◌∷◌}
use Rattle.lease_disk.specs.Region.{one_more_at}

-- how often a region stands in a list
abbrev pub count_in : List ℕ → ℕ → ℕ
count_in [] = λ q. 0
count_in (r ∷ rs) = one_more_at r (count_in rs)
