-- What a circuit's server and its region hold together, and what becomes of it. Whatever a decision
-- changes but offers is saved in the region before the reply leaves.
use Rattle.std.specs.Prelude.{◌≡◌, ℕ, ◌==◌, ◌&&◌, ◌||◌, nat_le, Bool, true, false, not, is_some, List, [], ◌∷◌, Option, Some, None, option_map, if◌then◌else◌}
use Rattle.types.specs.Delivery.{DeliveryValue}
use Rattle.types.specs.declared.slots.Slots.{Slots}
use Rattle.lease_disk.specs.declared.image.Image.{Image}
use Rattle.lease_disk.specs.declared.image.Image.TheVariants.{Byte, Unreadable}
use Rattle.lease_disk.specs.Layout.{gate_open, is_format2}
use Rattle.lease_disk.specs.Moving.{IsMigrated, moves}
use Rattle.lease_disk.specs.Recovered.{recovered}
use Rattle.lease_disk.specs.Region.{Region, image, effective}
use Rattle.config.specs.CircuitPart.{CircuitPart, pool4_of, pool6_of}
use Rattle.bindings_v4.specs.Kept4.{book4_in}
use Rattle.bindings_v6.specs.Kept6.{book6_in}
use Rattle.circuit_server.specs.Server.{Book, Served, book_at, kept_book, served}

pub record Leases : Type 0 where
  -- the server's book; None where the circuit is closed
  pub book : Option Book
  -- the book that a restart finds in the region, by the byte that each unsynced byte then has; None
  -- where the region is damaged
  pub restarts : ℕ → Option Book
  -- whether it then finds the region in format 2
  pub is_new : ℕ → Bool

-- ---- what a region means

-- how many addresses the DHCPv4 and the DHCPv6 pool have
abbrev pub counts_of : CircuitPart → List ℕ
counts_of part = part.count4 ∷ part.count6 ∷ []

abbrev pub book_in : CircuitPart → Slots → Book
book_in part slots = record { clock = slots.clock; four = book4_in (pool4_of part) slots; six = book6_in (pool6_of part) slots }

-- the book that the bytes of a circuit's region mean, with their clock and without offers
abbrev pub recovered_book : CircuitPart → (ℕ → ℕ) → Option Book
recovered_book part bytes = option_map (book_in part) (recovered (counts_of part) bytes)

abbrev pub restarts_of : CircuitPart → Region → ℕ → Option Book
restarts_of part region byte = recovered_book part (image byte region)

abbrev pub formats_of : Region → ℕ → Bool
formats_of region byte = is_format2 (image byte region)

-- what is found in a region that is read as it is
abbrev pub found_book : CircuitPart → Region → Option Book
found_book part region = if region.readable then recovered_book part region.byte else None

-- ---- a datagram of the circuit

-- What restarts find after a save of a book whose k-th call of the device failed, 0 where none did.
-- From the fifth call on the new book may be there: where the unsynced gate then reads open.
abbrev pub restarts_after : ℕ → Book → (ℕ → Option Book) → ℕ → Option Book
restarts_after k b restarts byte =
    if k == 0 || (nat_le 5 k && byte == gate_open) then Some (kept_book b) else restarts byte

-- A save that fails closes the circuit.
abbrev pub after_saving : ℕ → Book → Leases → Leases
after_saving k b l = record { book = if k == 0 then Some b else None; restarts = restarts_after k b l.restarts; is_new = l.is_new }

-- A decision that changes offers alone saves nothing. A save makes six calls, so that a fault of a later
-- one has no effect.
abbrev pub kept : ℕ → Served → Leases → Leases
kept fault done l = if done.is_kept then after_saving (effective 6 fault) done.book l else record l { book = Some done.book }

abbrev pub served_leases : CircuitPart → DeliveryValue → ℕ → Leases → Option Book → Leases
served_leases part d fault l None = l
served_leases part d fault l (Some b) = kept fault (served part d b) l

-- the leases of a circuit after one of its datagrams, where this call of the device fails in its save
abbrev pub after_datagram : CircuitPart → DeliveryValue → ℕ → Leases → Leases
after_datagram part d fault l = served_leases part d fault l l.book

-- ---- a moment, a restart, a reload

abbrev pub after_tick : ℕ → Leases → Leases
after_tick now l = record l { book = option_map (book_at now) l.book }

-- Whether a region is moved to format 2: it holds a book, and is not of format 2.
abbrev pub is_moved : Option Book → Bool → Bool
is_moved kept is_new = is_some kept && not is_new

-- Of a move whose k-th call failed, 0 where none did: the format is new, what it was until the third call, and from then
-- on new where the byte that says so, which is in doubt, becomes 2.
abbrev pub moved_format : ℕ → ℕ → Bool
moved_format k byte = k == 0 || nat_le 3 k && byte == 2

-- What a region holds that can be read: a book, or none where it is damaged. A region of format 1 is moved, by four calls
-- of the device; where one of them fails the circuit is closed, and the region holds the book all the same.
abbrev pub come_back : ℕ → Option Book → Bool → Leases
come_back fault kept is_new = record {
  book = if is_moved kept is_new && not (effective 4 fault == 0) then None else kept;
  restarts = λ any. kept;
  is_new = λ byte. if is_moved kept is_new then moved_format (effective 4 fault) byte else is_new;
}

-- A region that cannot be read closes its circuit, and keeps what it holds. `fault` says which call of a move fails.
abbrev pub after_restart : Image → ℕ → Leases → Leases
after_restart (Byte byte) fault l = come_back fault (l.restarts byte) (l.is_new byte)
after_restart Unreadable fault l = record l { book = None }

-- At a reload, by whether the circuit was served and whether it is now: one that is no longer served loses its offers, and keeps
-- its bindings, its bars, its clock and its region. Every other one stays as it is.
abbrev pub turned : Bool → Bool → Leases → Leases
turned true false l = record l { book = option_map kept_book l.book }
turned before now l = l

-- at opening, and after a restart over a region that is read as it is
abbrev pub region_leases : CircuitPart → ℕ → Region → Bool → Leases
region_leases part fault region true = come_back fault (recovered_book part region.byte) (is_format2 region.byte)
region_leases part fault region false = record { book = None; restarts = restarts_of part region; is_new = formats_of region }

-- over all regions, where `faults` says for each which of the device's next calls fails
abbrev pub found_leases : (ℕ → Region) → (ℕ → ℕ) → CircuitPart → Leases
found_leases regions faults part = region_leases part (faults part.region) (regions part.region) (regions part.region).readable

-- ---- the device

-- What a restart does to a circuit's region, where the device tells: one that can be read is moved where it is of format 1
-- and holds a book; any other stays as it is.
pub record IsRegionMigrated (counts : List ℕ) (fault : ℕ) (old new : Region) : Type 0 where
  pub still : moves counts old ≡ false → new ≡ old
  pub moved : old.readable ≡ true → IsMigrated counts fault old new
