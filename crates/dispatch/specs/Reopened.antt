-- What the server makes of one circuit that it opens again, and of all others.
use Rattle.std.specs.Prelude.{◌≡◌, ◌≢◌, ◌<◌, ◌+◌, ◌*◌, ℕ, Bool, true, Some, IfSome, All, slice_get}
use Rattle.types.specs.declared.slots.Slots.{Slots}
use Rattle.lease_disk.specs.Device.{ChangesOne, Device, IsCalledWithin}
use Rattle.timers.specs.Deadlines.{deadline}
use Rattle.config.specs.CircuitPart.{CircuitPart}
use Rattle.circuit_server.specs.CircuitServerValue.{open_book}
use Rattle.circuit_server.specs.Deadlines.{held_in}
use Rattle.circuit_server.specs.Restarted.{SettlesOne}
use Rattle.config.specs.Topology.{Topology}
use Rattle.circuit_server.specs.Leases.{IsRegionMigrated, after_tick, book_in, counts_of, found_leases}
use Rattle.circuit_server.specs.Server.{book_at}
use Rattle.circuit_server.specs.Ticked.{IsLater, server_state}
use Rattle.dispatch.specs.ServerValue.{ServerValue, books_in, leases_in}

-- The circuit begins with what its region holds, at a moment that every open circuit's clock has reached.
pub record IsReopened (tells : Bool) (c : ℕ) (part : CircuitPart) (server : ServerValue) (old new : Device) : Type 0 where
  pub moment : ℕ
  pub reached : All (IsLater moment) server.states
  -- its book is what some slots of a region mean, at that moment and without offers
  pub found : IfSome (server_state server.states c) (λ o. (slots : Slots) × (open_book o ≡ book_at moment (book_in part slots)))
  pub leases : tells ≡ true → slice_get (leases_in new.region server) c ≡ Some (after_tick moment (found_leases old.region old.failing_call part))
  -- the deadline of each slot is until when it is held, live or expired
  pub deadlines : (s : ℕ) → s < 32 → deadline server.deadlines (32 * c + s) ≡ held_in (server_state server.states c) s
  -- no other region changes
  pub frame : ChangesOne tells part.region old new
  pub region : tells ≡ true → IsRegionMigrated (counts_of part) (old.failing_call part.region) (old.region part.region) (new.region part.region)

-- Every other circuit has what it had: its bindings, its offers, its clock, and what a restart finds in its region.
pub record KeepsOtherCircuits (tells : Bool) (c : ℕ) (server later : ServerValue) (old new : Device) : Type 0 where
  pub states : (d : ℕ) → d ≢ c → slice_get later.states d ≡ slice_get server.states d
  pub books : (d : ℕ) → d ≢ c → slice_get (books_in later) d ≡ slice_get (books_in server) d
  pub leases : tells ≡ true → (d : ℕ) → d ≢ c → slice_get (leases_in new.region later) d ≡ slice_get (leases_in old.region server) d

-- Where the circuit is open, its region is settled, and each other region that was settled still is.
abbrev pub IsSettledAlone : ℕ → ServerValue → (ℕ → Bool) → (ℕ → Bool) → Type 0
IsSettledAlone c server old new = IfSome (slice_get server.topology.circuits c) (λ part. SettlesOne part.region (server_state server.states c) old new)

-- The device is called for the circuit of this index, if there is one.
abbrev pub IsCalledToReopen : ℕ → Topology → Device → Device → Type 0
IsCalledToReopen c topology old new = IfSome (slice_get topology.circuits c) (λ part. IsCalledWithin 1 5 4 old new)
