-- A batch in the world: which of its parts have a datagram for the server, what that makes of them, and what then comes of
-- each part. Only proofs need these.
use Rattle.std.specs.Prelude.{◌≡◌, ℕ, ◌==◌, ◌&&◌, not, Bool, true, false, List, [], ◌∷◌, map, Option, Some, None, Result, Ok, Err, slice_get, if◌then◌else◌, length}
use Rattle.types.specs.Delivery.{DeliveryValue, delivery}
use Rattle.types.specs.declared.dest.Proto.{Proto}
use Rattle.types.specs.declared.discard.Discard.{Discard}
use Rattle.config.specs.CircuitPart.{CircuitPart}
use Rattle.config.specs.Topology.{Topology, serves}
use Rattle.lease_disk.specs.Device.{is_in}
use Rattle.lease_disk.specs.Model.{ModelDiskValue, failing_call_of, disk_region}
use Rattle.lossy_net.specs.Net.{Datagram, NetValue, datagrams}
use Rattle.lossy_net.specs.declared.dir.Dir.TheVariants.{Up}
use Rattle.dispatch.specs.Batch.{IsBatch, IsBatchOfLeases, batch_fault, batch_saves}
use Rattle.dispatch.specs.ServerValue.{AreReady, ServerValue, books_in, leases_in}
use Rattle.events.specs.Batch.{part_fault}
use Rattle.events.specs.declared.batch.BatchPart.{BatchPart}
use Rattle.events.specs.declared.batch.PartOutcome.{PartOutcome}
use Rattle.events.specs.declared.batch.PartOutcome.TheVariants.{Gone, Dropped, SentDown}
use Rattle.world.specs.Alone.{with_newest}
use Rattle.world.specs.declared.world.batch.Waiting.{Waiting}

-- ---- before the server takes them

-- what waits of a part: its circuit is there, is served and has the datagram
abbrev pub waiting_at : ℕ → BatchPart → Option CircuitPart → Option Datagram → Option Waiting
waiting_at sync p (Some part) (Some d) =
    Some (record { circuit = p.circuit; number = p.number; proto = d.proto; source = part.relay; region = part.region; fault = part_fault sync p.fault })
waiting_at sync p part d = None

abbrev pub waiting_of : Topology → NetValue → ℕ → BatchPart → Option Waiting
waiting_of t net sync p =
    if serves t p.circuit then waiting_at sync p (slice_get t.circuits p.circuit) (slice_get (datagrams net p.circuit Up) p.number) else None

-- the bytes of a datagram that waits
abbrev pub bytes_in : Option Datagram → List ℕ
bytes_in None = []
bytes_in (Some d) = d.bytes

abbrev pub bytes_of : NetValue → Waiting → List ℕ
bytes_of net w = bytes_in (slice_get (datagrams net w.circuit Up) w.number)

-- as it reaches the server
abbrev pub delivered : NetValue → ℕ → Waiting → DeliveryValue
delivered net now w = delivery w.proto w.source now (bytes_of net w)

-- which call of each region fails, after the faults of these were set, or put out
abbrev pub faults_after : Bool → List Waiting → (ℕ → ℕ) → ℕ → ℕ
faults_after fails [] faults = faults
faults_after fails (w ∷ ws) faults = faults_after fails ws (λ r. if r == w.region then (if fails then w.fault else 0) else faults r)

-- ---- what the server makes of them

abbrev pub regions_of : List Waiting → List ℕ
regions_of ws = map (λ (w : Waiting). w.region) ws

-- The deliveries, and the regions that their saves write to.
abbrev pub all_delivered : NetValue → ℕ → List Waiting → List DeliveryValue
all_delivered net now ws = map (delivered net now) ws

abbrev pub all_saves : NetValue → ℕ → List Waiting → ServerValue → List ℕ
all_saves net now ws server = batch_saves server.topology (all_delivered net now ws) (books_in server)

-- which call of each region fails for it in the batch
abbrev pub all_faults : NetValue → ℕ → List Waiting → ServerValue → ModelDiskValue → ℕ → ℕ
all_faults net now ws server disk = batch_fault (faults_after true ws (failing_call_of disk)) (all_saves net now ws server)

pub record AreServed (now : ℕ) (ws : List Waiting) (net : NetValue) (old new : ServerValue) (disk later : ModelDiskValue) (answers : List (Result (List ℕ) Discard)) : Type 0 where
  pub topology : new.topology ≡ old.topology
  pub count : length later.regions ≡ length disk.regions
  pub fails : ℕ → Bool
  pub failing : (r : ℕ) → fails r ≡ (is_in (all_saves net now ws old) r && not (all_faults net now ws old disk r == 0))
  pub answered : IsBatch old.topology (all_delivered net now ws) fails (books_in old) (books_in new) answers
  pub leases : IsBatchOfLeases old.topology (all_delivered net now ws) (all_faults net now ws old disk) (leases_in (disk_region disk) old) (leases_in (disk_region later) new)
  pub ready : AreReady (disk_region later) new
  pub region : (r : ℕ) → is_in (all_saves net now ws old) r ≡ false → disk_region later r ≡ disk_region disk r
  pub failing_call : (r : ℕ) → is_in (all_saves net now ws old) r ≡ false → is_in (regions_of ws) r ≡ false → failing_call_of later r ≡ failing_call_of disk r
  pub cleared : (r : ℕ) → is_in (regions_of ws) r ≡ true → failing_call_of later r ≡ 0

-- ---- what then comes of each part

abbrev pub with_answer : ℕ → Proto → Option (Result (List ℕ) Discard) → List Datagram → List Datagram
with_answer quota proto (Some (Ok bytes)) downs = with_newest quota proto bytes downs
with_answer quota proto answer downs = downs

-- what the network keeps towards circuit c's relay, after these answers were sent
abbrev pub downs_after : ℕ → List Waiting → List (Result (List ℕ) Discard) → ℕ → List Datagram → List Datagram
downs_after quota [] answers c downs = downs
downs_after quota (w ∷ ws) [] c downs = downs
downs_after quota (w ∷ ws) (a ∷ answers) c downs = downs_after quota ws answers c (if w.circuit == c then with_answer quota w.proto (Some a) downs else downs)

abbrev pub answer_outcome : Option (Result (List ℕ) Discard) → PartOutcome
answer_outcome (Some (Ok bytes)) = SentDown (length bytes)
answer_outcome (Some (Err why)) = Dropped why
answer_outcome None = Gone

-- what came of the part of circuit c
abbrev pub outcome_for : ℕ → List Waiting → List (Result (List ℕ) Discard) → PartOutcome
outcome_for c [] answers = Gone
outcome_for c (w ∷ ws) [] = Gone
outcome_for c (w ∷ ws) (a ∷ answers) = if w.circuit == c then answer_outcome (Some a) else outcome_for c ws answers
