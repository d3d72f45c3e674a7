use Rattle.std.proofs.Common.{◌≡◌, ◌+◌, ◌++◌, drop}
use Rattle.types.specs.Addr.{number4, number6}
use Rattle.lease_list.specs.Lease.{leases4, leases6}
use Rattle.lease_list.proofs.lease.add_leases.Given as goal

abbrev pub invariant-four : goal.invariant-four
invariant-four l =
    l.found.items ++ leases4 l.at (number4 l.first4 + l.i) (drop l.i l.four) ≡ l.initial.found.items ++ leases4 l.at (number4 l.first4) l.four

abbrev pub invariant-six : goal.invariant-six
invariant-six l =
    l.found.items ++ leases6 l.at (number6 l.first6 + l.i) (drop l.i l.six) ≡ l.initial.found.items ++ leases6 l.at (number6 l.first6) l.six
