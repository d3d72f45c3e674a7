-- What the server makes of several datagrams at one moment, whose saves share their syncs. The first one of each circuit is
-- received as if it came alone, any further one of the same circuit is refused.
use Rattle.std.specs.Prelude.{◌≡◌, ℕ, ◌==◌, Bool, false, List, [], ◌∷◌, ◌++◌, length, map, take, Option, Some, None, slice_get, Result, Ok, Err, if◌then◌else◌}
use Rattle.std.specs.List.{cons_option, list_any}
use Rattle.std.specs.Borrow.{Bor}
use Rattle.types.specs.Delivery.{DeliveryValue, delivery}
use Rattle.types.specs.declared.addr.Source.{Source}
use Rattle.types.specs.declared.dest.Proto.{Proto}
use Rattle.types.specs.declared.discard.Discard.{Discard}
use Rattle.types.specs.declared.discard.Discard.TheVariants.{BatchTwice}
use Rattle.lease_disk.specs.Device.{Device, TouchesAll}
use Rattle.lease_disk.specs.Region.{effective}
use Rattle.batch_saves.specs.Batch.{first_of, shared_fault}
use Rattle.config.specs.Topology.{Topology}
use Rattle.requests.specs.Addressee.{addressee}
use Rattle.circuit_server.specs.Leases.{Leases}
use Rattle.circuit_server.specs.Server.{Book}
use Rattle.dispatch.specs.Answers.{circuit_in}
use Rattle.dispatch.specs.Received.{Received, drop_all, received, received_leases, received_saves}

-- the datagrams of a batch at one moment, each with its protocol and its source
abbrev pub deliveries : ℕ → List (Proto × Source × Bor (List ℕ)) → List DeliveryValue
deliveries now parts = map (λ part. delivery part.0 part.1 now part.2.now) parts

-- ---- whose a part is

abbrev pub is_circuit : ℕ → Result ℕ Discard → Bool
is_circuit c (Ok circuit) = circuit == c
is_circuit c (Err why) = false

-- whether one of these is of circuit c
abbrev pub is_named : Topology → List DeliveryValue → ℕ → Bool
is_named topology parts c = list_any (λ d. is_circuit c (addressee topology d)) parts

-- whether one of these is of the circuit that a part is of
abbrev pub comes_again : Topology → List DeliveryValue → Result ℕ Discard → Bool
comes_again topology earlier (Ok c) = is_named topology earlier c
comes_again topology earlier (Err why) = false

-- of each the circuit that it is of, if it is of one
abbrev pub circuits_of : Topology → List DeliveryValue → List (Option ℕ)
circuits_of topology parts = map (λ d. circuit_in (addressee topology d)) parts

-- ---- one part, after these

abbrev pub part_received : Topology → List DeliveryValue → DeliveryValue → (ℕ → Bool) → List (Option Book) → Received
part_received topology earlier d fails books = if comes_again topology earlier (addressee topology d) then drop_all BatchTwice books else received topology d fails books

-- the region that its save writes to; None where nothing is saved
abbrev pub part_saves : Topology → List DeliveryValue → DeliveryValue → List (Option Book) → Option ℕ
part_saves topology earlier d books = if comes_again topology earlier (addressee topology d) then None else received_saves topology d books

-- ---- all parts

-- Each part is answered by the books before the batch, and each circuit's book is that after the part that is its own. `fails` says
-- of which regions a save fails.
pub record IsBatch (topology : Topology) (parts : List DeliveryValue) (fails : ℕ → Bool) (old new : List (Option Book)) (answers : List (Result (List ℕ) Discard)) : Type 0 where
  pub count : length answers ≡ length parts
  pub each : (j : ℕ) (d : DeliveryValue) → slice_get parts j ≡ Some d → slice_get answers j ≡ Some (part_received topology (take j parts) d fails old).answer
  pub books : (j c : ℕ) (d : DeliveryValue) → slice_get parts j ≡ Some d → addressee topology d ≡ Ok c → is_named topology (take j parts) c ≡ false
      → slice_get new c ≡ slice_get (received topology d fails old).books c
  pub others : (c : ℕ) → is_named topology parts c ≡ false → slice_get new c ≡ slice_get old c

-- the same of leases, where `faults` says for each region which call of its save fails
pub record IsBatchOfLeases (topology : Topology) (parts : List DeliveryValue) (faults : ℕ → ℕ) (old new : List Leases) : Type 0 where
  pub leases : (j c : ℕ) (d : DeliveryValue) → slice_get parts j ≡ Some d → addressee topology d ≡ Ok c → is_named topology (take j parts) c ≡ false
      → slice_get new c ≡ slice_get (received_leases topology d faults old) c
  pub others : (c : ℕ) → is_named topology parts c ≡ false → slice_get new c ≡ slice_get old c

-- ---- what is written

-- the regions that are saved, by the parts, after these
abbrev pub saved_after : Topology → List (Option Book) → List DeliveryValue → List DeliveryValue → List ℕ
saved_after topology books earlier [] = []
saved_after topology books earlier (d ∷ parts) = cons_option (part_saves topology earlier d books) (saved_after topology books (earlier ++ d ∷ []) parts)

abbrev pub batch_saves : Topology → List DeliveryValue → List (Option Book) → List ℕ
batch_saves topology parts books = saved_after topology books [] parts

-- Which call of a region's save fails, 0 for none: its own, or a shared sync, whichever comes first. `faults` says for each
-- region which of the device's next calls fails.
abbrev pub batch_fault : (ℕ → ℕ) → List ℕ → ℕ → ℕ
batch_fault faults regions r = first_of (effective 6 (faults r)) (shared_fault (map faults regions))

-- Only the regions that are saved are touched, and where none is, nothing is.
pub record IsWrittenTogether (tells : Bool) (regions : List ℕ) (old new : Device) : Type 0 where
  pub touches : TouchesAll tells regions old new
  pub nothing : regions ≡ [] → new ≡ old
