-- What a client's key has to have: an order in which only equal keys tie, and which agrees with `==`.
use Rattle.std.specs.Prelude.{◌≡◌, ℕ, Bool, List}
use Rattle.std.specs.declared.cmp.Ordering.{Ordering}
use Rattle.std.specs.Ordering.{nat_cmp, is_eq, on, then_cmp}
use Rattle.std.specs.Cmp.{IsTotalOrder}
use Rattle.std.specs.Cmp.Lexicographic.{slice_cmp}
use Rattle.std.specs.FinMap.{IsAntisymmetric}
use Rattle.types.specs.Key6.{Key6Value}

pub record IsKey {K : Type 0} (eqk : K → K → Bool) (cmpk : K → K → Ordering) : Type 0 where
  pub total : IsTotalOrder cmpk
  pub exact : IsAntisymmetric cmpk
  pub agrees : (a b : K) → is_eq (cmpk a b) ≡ eqk a b

-- DHCPv4 clients by their key's bytes
abbrev pub key4_cmp : List ℕ → List ℕ → Ordering
key4_cmp = slice_cmp nat_cmp

-- DHCPv6 clients by DUID, then by IAID
abbrev pub key6_cmp : Key6Value → Key6Value → Ordering
key6_cmp = then_cmp (on (λ (k : Key6Value). k.duid) (slice_cmp nat_cmp)) (on (λ (k : Key6Value). k.iaid) nat_cmp)
