-- A service: passes, and once a minute another try of each closed circuit. What a watch is shown of it.
use Rattle.std.specs.Prelude.{◌≡◌, ◌<◌, ◌≤◌, ◌+◌, ℕ, zero, suc, false, Option, Some, None, IfSome, slice_get}
use Rattle.types.specs.declared.slots.Slots.{Slots}
use Rattle.config.specs.CircuitPart.{CircuitPart}
use Rattle.lease_disk.specs.FileDisk.{device_of}
use Rattle.circuit_server.specs.CircuitServerValue.{OpenCircuitValue, open_book}
use Rattle.circuit_server.specs.Leases.{book_in}
use Rattle.circuit_server.specs.Server.{book_at}
use Rattle.circuit_server.specs.Ticked.{server_state}
use Rattle.dispatch.specs.Reopened.{IsCalledToReopen, IsReopened, KeepsOtherCircuits}
use Rattle.access.specs.Access.{AccessValue}
use Rattle.access.specs.Pass.{HasMadePasses}

-- ---- what a watch is shown

-- how many turns and passes, and the moment of the last one
pub record Watched : Type 0 where
  pub rounds : ℕ
  pub moment : ℕ

abbrev pub watched_once_more : ℕ → Watched → Watched
watched_once_more now watched = record { rounds = watched.rounds + 1; moment = now }

-- so many more, the last one at this moment
pub record IsWatched (rounds now : ℕ) (old new : Watched) : Type 0 where
  pub all : new.rounds ≡ old.rounds + rounds
  pub last : 1 ≤ rounds → new.moment ≡ now

-- ---- closed circuits

-- One circuit was opened again over the device: all others, and all else, stay.
pub record IsReopenedAlone (c : ℕ) (old new : AccessValue) : Type 0 where
  pub reopened : IfSome (slice_get old.server.topology.circuits c) (λ part. IsReopened false c part new.server (device_of old.disk) (device_of new.disk))
  pub others : KeepsOtherCircuits false c old.server new.server (device_of old.disk) (device_of new.disk)
  pub calls : IsCalledToReopen c old.server.topology (device_of old.disk) (device_of new.disk)
  pub served : new.server.topology ≡ old.server.topology
  pub regions : new.disk.regions ≡ old.disk.regions
  pub rest : new ≡ record old { server = new.server; disk = new.disk }

-- The circuit is closed, or has a book that slots of a region mean, at some moment and without offers.
abbrev pub IsFoundAgain : CircuitPart → Option OpenCircuitValue → Type 0
IsFoundAgain part state = IfSome state (λ o. (moment : ℕ) × (slots : Slots) × (open_book o ≡ book_at moment (book_in part slots)))

-- Each closed circuit was tried again: its region was read. Every open one keeps what it has: its bindings, its offers, its clock.
pub record HasReopened (old new : AccessValue) : Type 0 where
  pub kept : (c : ℕ) (o : OpenCircuitValue) → server_state old.server.states c ≡ Some o → server_state new.server.states c ≡ Some o
  pub found : (c : ℕ) (part : CircuitPart) → c < 1024 → slice_get old.server.topology.circuits c ≡ Some part
      → server_state old.server.states c ≡ None → IsFoundAgain part (server_state new.server.states c)
  pub tried : (c : ℕ) (part : CircuitPart) → c < 1024 → slice_get old.server.topology.circuits c ≡ Some part
      → server_state old.server.states c ≡ None → old.disk.reads + 1 ≤ new.disk.reads
  pub served : new.server.topology ≡ old.server.topology
  pub regions : new.disk.regions ≡ old.disk.regions
  pub rest : new ≡ record old { server = new.server; disk = new.disk }

-- ---- minutes

-- So many passes, the first one at this moment and the last one at that.
pub record IsStretch (passes first last : ℕ) (old new : AccessValue) : Type 0 where
  pub more : ℕ
  pub begun : AccessValue
  pub begins : HasMadePasses 1 first old begun
  pub goes_on : HasMadePasses more last begun new
  pub all : passes ≡ 1 + more

-- So many passes, of which the last one is a minute or more after the first; then closed circuits were tried again.
pub record IsMinute (passes : ℕ) (old new : AccessValue) : Type 0 where
  pub first : ℕ
  pub last : ℕ
  pub served : AccessValue
  pub passed : IsStretch passes first last old served
  pub minute : first + 60 ≤ last
  pub reopened : HasReopened served new

-- so many minutes with so many passes
abbrev pub AreMinutes : ℕ → ℕ → AccessValue → AccessValue → Type 0
AreMinutes zero passes old new = (passes ≡ 0) × (new ≡ old)
AreMinutes (suc n) passes old new =
    (before : ℕ) × (more : ℕ) × (middle : AccessValue) × AreMinutes n before old middle × IsMinute more middle new × (passes ≡ before + more)

-- So many passes: minutes, and the passes of another one that was not over.
pub record HasKeptServing (passes : ℕ) (old new : AccessValue) : Type 0 where
  pub minutes : ℕ
  pub before : ℕ
  pub middle : AccessValue
  pub are : AreMinutes minutes before old middle
  pub more : ℕ
  pub now : ℕ
  pub rest : HasMadePasses more now middle new
  pub all : passes ≡ before + more
