-- Which leases the slots of a circuit hold at a moment.
use Rattle.std.specs.Prelude.{ℕ, ◌+◌, List, [], ◌∷◌, ◌++◌, take, Option, Some, None}
use Rattle.types.specs.Addr.{number4, addr4, number6, addr6}
use Rattle.types.specs.Slots.{live4, live6}
use Rattle.types.specs.declared.addr.Addr4.{Addr4}
use Rattle.types.specs.declared.addr.Addr6.{Addr6}
use Rattle.types.specs.declared.slot4.Slot4.{Slot4}
use Rattle.types.specs.declared.slot4.Slot4.TheVariants as S4
use Rattle.types.specs.declared.slot6.Slot6.{Slot6}
use Rattle.types.specs.declared.slot6.Slot6.TheVariants as S6
use Rattle.types.specs.declared.slots.Slots.{Slots}
use Rattle.config.specs.CircuitPart.{CircuitPart, pool4_of, pool6_of}
use Rattle.lease_list.specs.declared.lease.Lease.{Lease}
use Rattle.lease_list.specs.declared.lease.Lease.TheVariants.{V4, V6}

abbrev pub until_of : Lease → ℕ
until_of (V4 address client until) = until
until_of (V6 address client until) = until

-- what a slot says of its address; one that was declined has no client
abbrev pub lease4 : Addr4 → Slot4 → Option Lease
lease4 address S4.Free = None
lease4 address (S4.Bound key until) = Some (V4 address (Some key) until)
lease4 address (S4.Barred until) = Some (V4 address None until)

abbrev pub lease6 : Addr6 → Slot6 → Option Lease
lease6 address S6.Free = None
lease6 address (S6.Bound key until) = Some (V6 address (Some key) until)
lease6 address (S6.Barred until) = Some (V6 address None until)

abbrev pub with_lease : Option Lease → List Lease → List Lease
with_lease None leases = leases
with_lease (Some lease) leases = lease ∷ leases

-- the leases of consecutive addresses, by the number of the first one; what has expired at the moment is left out
abbrev pub leases4 : ℕ → ℕ → List Slot4 → List Lease
leases4 at first [] = []
leases4 at first (slot ∷ slots) = with_lease (lease4 (addr4 first) (live4 at slot)) (leases4 at (first + 1) slots)

abbrev pub leases6 : ℕ → ℕ → List Slot6 → List Lease
leases6 at first [] = []
leases6 at first (slot ∷ slots) = with_lease (lease6 (addr6 first) (live6 at slot)) (leases6 at (first + 1) slots)

-- a circuit's leases that are live at a moment: those of its DHCPv4 pool, then those of its DHCPv6 pool
abbrev pub leases_at : ℕ → CircuitPart → Slots → List Lease
leases_at at part slots =
    leases4 at (number4 (pool4_of part).first) (take part.count4 slots.four)
    ++ leases6 at (number6 (pool6_of part).first) (take part.count6 slots.six)
