-- A DHCPv4 pool and its limits.
use Rattle.std.specs.Prelude.{ℕ, ◌+◌, ◌^◌, ◌≤◌}
use Rattle.types.specs.declared.addr.Addr4.{Addr4}
use Rattle.types.specs.Addr.{number4}

pub record IsPool4 (first : Addr4) (count lease : ℕ) : Type 0 where
  -- 1 to 16 addresses
  pub least : 1 ≤ count
  pub most : count ≤ 16
  -- the last of them an IPv4 address still
  pub no_wrap : number4 first + count ≤ 2 ^ 32
  pub shortest : 60 ≤ lease
  pub longest : lease ≤ 604800

-- the values of a pool
pub record PoolValue : Type 0 where
  pub first : Addr4
  pub count : ℕ
  pub gateway : Addr4
  pub lease : ℕ
