-- A DHCPv6 pool and its limits.
use Rattle.std.specs.Prelude.{ℕ, ◌+◌, ◌^◌, ◌≤◌}
use Rattle.types.specs.declared.addr.Addr6.{Addr6}
use Rattle.types.specs.Addr.{number6}

pub record IsPool6 (first : Addr6) (count lease : ℕ) : Type 0 where
  -- 1 to 16 addresses
  pub least : 1 ≤ count
  pub most : count ≤ 16
  -- the last of them an IPv6 address still
  pub no_wrap : number6 first + count ≤ 2 ^ 128
  pub shortest : 60 ≤ lease
  pub longest : lease ≤ 604800

-- the values of a pool
pub record Pool6Value : Type 0 where
  pub first : Addr6
  pub count : ℕ
  pub lease : ℕ
