-- The members of a pool's JSON stand in the order of their names, in whichever order they are put in.
use Rattle.std.proofs.Common.{◌≡◌, refl}
use Rattle.serde_json.specs.Data.{Data, object, no_members}
use Rattle.serde_json.proofs.OnLiterals.{serde_json_on_literals}
use Rattle.lease_list.specs.Pool.{PoolTexts, pool_data, with_pool, with_range, with_usage}

-- all members, put in one after the other
abbrev pub all_members : PoolTexts → Data
all_members t = object (with_usage t.usage (with_range t.first t.last (with_pool t.circuit t.proto no_members)))

pub members_stand : (t : PoolTexts) → all_members t ≡ pool_data t
unfolding serde_json_on_literals
members_stand t = refl
