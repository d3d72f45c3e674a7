-- The slots of a circuit at two looks: 0 to 15 are those of its DHCPv4 pool, 16 to 31 those of its DHCPv6 pool.
use Rattle.std.specs.Prelude.{ℕ, ◌+◌, ◌-◌, nat_lt, if◌then◌else◌, slice_get, Option, Some, None}
use Rattle.types.specs.Addr.{number4, addr4, number6, addr6}
use Rattle.types.specs.Slots.{live4, live6}
use Rattle.types.specs.declared.addr.Addr4.{Addr4}
use Rattle.types.specs.declared.addr.Addr6.{Addr6}
use Rattle.types.specs.declared.slot4.Slot4.{Slot4}
use Rattle.types.specs.declared.slot4.Slot4.TheVariants as S4
use Rattle.types.specs.declared.slot6.Slot6.{Slot6}
use Rattle.types.specs.declared.slot6.Slot6.TheVariants as S6
use Rattle.types.specs.declared.slots.Slots.{Slots}
use Rattle.config.specs.CircuitPart.{CircuitPart, pool4_of, pool6_of}
use Rattle.lease_log.specs.declared.change.Change.{Change}
use Rattle.lease_log.specs.Change.{end4, end6, start4, start6}

-- the address of a slot is the pool's first one plus the slot's number; past the pool's end there is none
abbrev pub address4 : CircuitPart → ℕ → Option Addr4
address4 part slot = if nat_lt slot part.count4 then Some (addr4 (number4 (pool4_of part).first + slot)) else None

abbrev pub address6 : CircuitPart → ℕ → Option Addr6
address6 part slot = if nat_lt slot part.count6 then Some (addr6 (number6 (pool6_of part).first + slot)) else None

-- what a slot holds at a moment; what has run out by then counts no longer
abbrev pub at4 : ℕ → Option Slot4 → Slot4
at4 moment None = S4.Free
at4 moment (Some slot) = live4 moment slot

abbrev pub at6 : ℕ → Option Slot6 → Slot6
at6 moment None = S6.Free
at6 moment (Some slot) = live6 moment slot

abbrev pub slot4 : Slots → ℕ → ℕ → Slot4
slot4 slots slot moment = at4 moment (slice_get slots.four slot)

abbrev pub slot6 : Slots → ℕ → ℕ → Slot6
slot6 slots slot moment = at6 moment (slice_get slots.six slot)

-- of a slot with an address
abbrev pub of_address : {A : Type 0} → (A → Option Change) → Option A → Option Change
of_address f None = None
of_address f (Some address) = f address

-- who had the slot at the earlier look, whose moment is the clock of its slots, and has it no longer
abbrev pub end_of : CircuitPart → ℕ → Slots → Slots → ℕ → Option Change
end_of part slot old new now =
    if nat_lt slot 16
    then of_address (λ address. end4 now address (slot4 old slot old.clock) (slot4 new slot now)) (address4 part slot)
    else of_address (λ address. end6 now address (slot6 old (slot - 16) old.clock) (slot6 new (slot - 16) now)) (address6 part (slot - 16))

-- who has the slot now, and did not have it at the earlier look
abbrev pub start_of : CircuitPart → ℕ → Slots → Slots → ℕ → Option Change
start_of part slot old new now =
    if nat_lt slot 16
    then of_address (λ address. start4 now address (slot4 old slot old.clock) (slot4 new slot now)) (address4 part slot)
    else of_address (λ address. start6 now address (slot6 old (slot - 16) old.clock) (slot6 new (slot - 16) now)) (address6 part (slot - 16))
