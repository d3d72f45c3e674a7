-- What shows of a circuit's server in the code.
use Rattle.std.specs.Prelude.{◌≡◌, ◌≤◌, ℕ, Bool, true, false, List, [], ◌∷◌, map, Option, Some, None, IfSome, option_map}
use Rattle.config.specs.CircuitPart.{CircuitPart, pool4_of, pool6_of}
use Rattle.lease_disk.specs.declared.marks.Marks.{Marks}
use Rattle.lease_disk.specs.Layout.{is_format2}
use Rattle.lease_disk.specs.Recovered.{recovered}
use Rattle.lease_disk.specs.Region.{Region, IsClean}
use Rattle.lease_disk.specs.Save.{AreMarks}
use Rattle.types.specs.Slots.{live4, live6}
use Rattle.types.specs.declared.slots.Slots.{Slots}
use Rattle.bindings_v4.specs.Kept4 as kept4
use Rattle.bindings_v4.specs.Slots4 as slots4
use Rattle.bindings_v6.specs.Kept6 as kept6
use Rattle.bindings_v6.specs.Slots6 as slots6
use Rattle.circuit_server.specs.Leases.{Leases, book_in, formats_of, restarts_of}
use Rattle.circuit_server.specs.Server.{Book}

-- of an open circuit: its clock, what the slots of its pools hold, and what the next save has to know
pub record OpenCircuitValue : Type 0 where
  pub clock : ℕ
  pub four : slots4.PoolSlots
  pub six : slots6.PoolSlots
  pub marks : Marks

-- of one circuit: its part of the configuration, and what it has while it is open
pub record CircuitServerValue : Type 0 where
  pub part : CircuitPart
  pub state : Option OpenCircuitValue

-- its book, by what the slots of its pools hold
abbrev pub open_book : OpenCircuitValue → Book
open_book o = record { clock = o.clock; four = slots4.book4_of o.clock o.four; six = slots6.book6_of o.clock o.six }

abbrev pub server_book : CircuitServerValue → Option Book
server_book s = option_map open_book s.state

abbrev pub part_of : CircuitServerValue → CircuitPart
part_of s = s.part

-- its leases, by its book and its region
abbrev pub leases_of : (ℕ → Region) → CircuitServerValue → Leases
leases_of regions s = record { book = server_book s; restarts = restarts_of s.part (regions s.part.region); is_new = formats_of (regions s.part.region) }

-- the slots of an open circuit are those of its pools
abbrev pub HasPools : CircuitPart → Option OpenCircuitValue → Type 0
HasPools part state = IfSome state (λ o. (o.four.pool ≡ pool4_of part) × (o.six.pool ≡ pool6_of part))

abbrev pub HasItsPools : CircuitServerValue → Type 0
HasItsPools s = HasPools s.part s.state

-- the book of an open circuit is what some slots of a region mean: at their clock, and without offers
abbrev pub HasFoundBook : CircuitServerValue → Type 0
HasFoundBook s = IfSome s.state (λ o. (slots : Slots) × (open_book o ≡ book_in s.part slots))

-- an open circuit's region is settled
abbrev pub HasSettledRegion : (ℕ → Bool) → CircuitServerValue → Type 0
HasSettledRegion doubt s = IfSome s.state (λ o. doubt s.part.region ≡ false)

-- how many addresses its pools have
abbrev pub counts_in : OpenCircuitValue → List ℕ
counts_in o = o.four.pool.count ∷ o.six.pool.count ∷ []

-- what a region keeps of an open circuit
abbrev pub kept_slots : OpenCircuitValue → Slots
kept_slots o = record { four = kept4.kept_slots o.clock o.four.slots; six = kept6.kept_slots o.clock o.six.slots; clock = o.clock }

-- the region recovers to slots that hold, at the circuit's clock, what is kept of it
pub record IsKeptIn (region : ℕ → ℕ) (o : OpenCircuitValue) : Type 0 where
  pub slots : Slots
  pub recovers : recovered (counts_in o) region ≡ Some slots
  pub later : slots.clock ≤ o.clock
  pub four : map (live4 o.clock) slots.four ≡ (kept_slots o).four
  pub six : map (live6 o.clock) slots.six ≡ (kept_slots o).six

-- an open circuit's region is of format 2, keeps it, and can be saved to
abbrev pub IsReadyFor : Region → Option OpenCircuitValue → Type 0
IsReadyFor region None = Unit {0}
IsReadyFor region (Some o) = IsClean region × AreMarks (counts_in o) region.byte o.marks × IsKeptIn region.byte o × (is_format2 region.byte ≡ true)

abbrev pub IsReady : (ℕ → Region) → CircuitServerValue → Type 0
IsReady regions s = IsReadyFor (regions s.part.region) s.state
