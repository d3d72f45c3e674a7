-- Which circuits each of several plans has, and which plan is in force.
use Rattle.std.specs.Prelude.{◌≡◌, ℕ, ◌≤◌, ◌<◌, nat_lt, Bool, false, List, [], length, All, slice_index_or, if◌then◌else◌}

pub record MembershipValue : Type 0 where
  -- how many plans there are
  pub count : ℕ
  -- for each circuit, in order, whether each plan has it
  pub members : List (List Bool)
  -- the plan in force
  pub plan : ℕ

-- whether a plan has a circuit
abbrev pub has : MembershipValue → ℕ → ℕ → Bool
has m plan c = slice_index_or (slice_index_or m.members c []) plan false

-- another plan is in force, if there is such a plan
abbrev pub with_plan : ℕ → MembershipValue → MembershipValue
with_plan plan m = if nat_lt plan m.count then record m { plan = plan } else m

-- Each plan says of each of so many circuits whether it has it, and one of them is in force.
pub record IsMembership (circuits : ℕ) (m : MembershipValue) : Type 0 where
  pub few : m.count ≤ 8
  pub there : m.plan < m.count
  pub each_circuit : length m.members ≡ circuits
  pub each_plan : All (λ row. length row ≡ m.count) m.members
