-- What happened to the lease of one address, by what its slot held at the earlier look and what it holds now.
use Rattle.std.specs.Prelude.{ℕ, nat_le, if◌then◌else◌, Option, Some, None}
use Rattle.std.specs.Str.{bytes_eq}
use Rattle.types.specs.Key6.{same_key6}
use Rattle.types.specs.declared.addr.Addr4.{Addr4}
use Rattle.types.specs.declared.addr.Addr6.{Addr6}
use Rattle.types.specs.declared.slot4.Slot4.{Slot4}
use Rattle.types.specs.declared.slot4.Slot4.TheVariants as S4
use Rattle.types.specs.declared.slot6.Slot6.{Slot6}
use Rattle.types.specs.declared.slot6.Slot6.TheVariants as S6
use Rattle.lease_log.specs.declared.change.Change.{Change}
use Rattle.lease_log.specs.declared.change.Happened.{Happened}
use Rattle.lease_log.specs.declared.change.Happened.TheVariants.{Leased, Released, Declined, Ended}
use Rattle.lease_log.specs.declared.change.Holder.{Holder}
use Rattle.lease_log.specs.declared.change.Holder.TheVariants.{V4, V6}

abbrev pub change : ℕ → Holder → Happened → Change
change moment holder happened = record { moment = moment; holder = holder; happened = happened }

-- a lease that is no longer there: it ended when it ran out, unless that is still to come
abbrev pub gone : ℕ → Holder → ℕ → Change
gone now holder until = if nat_le until now then change until holder Ended else change now holder Released

-- the client that had the address, by the slot before and the slot now
abbrev pub end4 : ℕ → Addr4 → Slot4 → Slot4 → Option Change
end4 now address S4.Free slot = None
end4 now address (S4.Barred barred) slot = None
end4 now address (S4.Bound client until) S4.Free = Some (gone now (V4 address client) until)
end4 now address (S4.Bound client until) (S4.Barred barred) = Some (change now (V4 address client) (Declined barred))
end4 now address (S4.Bound client until) (S4.Bound other later) =
    if bytes_eq client other then None else Some (gone now (V4 address client) until)

abbrev pub end6 : ℕ → Addr6 → Slot6 → Slot6 → Option Change
end6 now address S6.Free slot = None
end6 now address (S6.Barred barred) slot = None
end6 now address (S6.Bound client until) S6.Free = Some (gone now (V6 address client) until)
end6 now address (S6.Bound client until) (S6.Barred barred) = Some (change now (V6 address client) (Declined barred))
end6 now address (S6.Bound client until) (S6.Bound other later) =
    if same_key6 client other then None else Some (gone now (V6 address client) until)

-- the client that has the address now, unless it had it before
abbrev pub start4 : ℕ → Addr4 → Slot4 → Slot4 → Option Change
start4 now address slot S4.Free = None
start4 now address slot (S4.Barred barred) = None
start4 now address S4.Free (S4.Bound client until) = Some (change now (V4 address client) (Leased until))
start4 now address (S4.Barred barred) (S4.Bound client until) = Some (change now (V4 address client) (Leased until))
start4 now address (S4.Bound other earlier) (S4.Bound client until) =
    if bytes_eq other client then None else Some (change now (V4 address client) (Leased until))

abbrev pub start6 : ℕ → Addr6 → Slot6 → Slot6 → Option Change
start6 now address slot S6.Free = None
start6 now address slot (S6.Barred barred) = None
start6 now address S6.Free (S6.Bound client until) = Some (change now (V6 address client) (Leased until))
start6 now address (S6.Barred barred) (S6.Bound client until) = Some (change now (V6 address client) (Leased until))
start6 now address (S6.Bound other earlier) (S6.Bound client until) =
    if same_key6 other client then None else Some (change now (V6 address client) (Leased until))
