-- What the server makes of the parts of a batch that wait, over the device as their faults were set.
use Rattle.std.proofs.Common.{◌≡◌, ℕ, Bool, true, false, List, [], ◌∷◌, length, refl, sym, ap, subst, ◌∙◌, eq-eqb}
use Rattle.std.specs.Prelude.{◌==◌, ◌&&◌, ◌||◌, if◌then◌else◌, not, Result}
use Rattle.std.proofs.lemmas.Bool.{eqb-true}
use Rattle.types.specs.Delivery.{DeliveryValue}
use Rattle.types.specs.declared.discard.Discard.{Discard}
use Rattle.lease_disk.specs.Device.{is_in}
use Rattle.lease_disk.specs.Model.{ModelDiskValue, device_of, failing_call_of, disk_region}
use Rattle.lease_disk.specs.Region.{Region}
use Rattle.lossy_net.specs.Net.{NetValue}
use Rattle.dispatch.specs.Batch.{IsBatch, IsBatchOfLeases, IsWrittenTogether, batch_fault, batch_saves}
use Rattle.dispatch.specs.ServerValue.{AreReady, ServerValue, books_in, leases_in}
use Rattle.world.specs.Batch.{AreServed, all_delivered, faults_after, regions_of}
use Rattle.world.specs.declared.world.batch.Waiting.{Waiting}
use Rattle.world.proofs.BatchParts.{apart_back, neither}

pub none_served : (now : ℕ) (ws : List Waiting) (net : NetValue) (server : ServerValue) (disk : ModelDiskValue) → AreReady (disk_region disk) server → ws ≡ [] → AreServed now ws net server server disk disk []
none_served now [] net server disk ready none = record {
  topology = refl;
  count = refl;
  fails = λ r. false;
  failing = λ r. refl;
  answered = record { count = refl; each = λ j d at. absurd cc; books = λ j c d at. absurd cc; others = λ c unnamed. refl };
  leases = record { leases = λ j c d at. absurd cc; others = λ c unnamed. refl };
  ready = ready;
  region = λ r out_of. refl;
  failing_call = λ r out_of beside. refl;
  cleared = λ r there. absurd cc;
}
none_served now (w ∷ ws) net server disk ready none = absurd cc

-- ---- which call of each region fails

pub faults_beside : (fails : Bool) (ws : List Waiting) (faults : ℕ → ℕ) (r : ℕ) → is_in (regions_of ws) r ≡ false → faults_after fails ws faults r ≡ faults r
faults_beside fails [] faults r beside = refl
faults_beside fails (w ∷ ws) faults r beside =
    let apart = neither (w.region == r) (is_in (regions_of ws) r) beside in
    let other = apart_back w.region r apart.0 in
    faults_beside fails ws _ r apart.1 ∙ ap (λ b. if b then (if fails then w.fault else 0) else faults r) other

-- put out: of a region that is out already, and of one of these
out_stays : (ws : List Waiting) (faults : ℕ → ℕ) (r : ℕ) → faults r ≡ 0 → faults_after false ws faults r ≡ 0
out_stays [] faults r out = out
out_stays (w ∷ ws) faults r out = out_stays ws (λ q. if q == w.region then 0 else faults q) r (by (r == w.region)) where
  by : (b : Bool) → (if b then 0 else faults r) ≡ 0
  by true = refl
  by false = out

faults_out : (ws : List Waiting) (faults : ℕ → ℕ) (r : ℕ) → is_in (regions_of ws) r ≡ true → faults_after false ws faults r ≡ 0
faults_out [] faults r there = absurd cc
faults_out (w ∷ ws) faults r there = by (w.region == r) refl (faults_out ws later r) there where
  later : ℕ → ℕ
  later q = if q == w.region then 0 else faults q

  by : (b : Bool) → (w.region == r) ≡ b → (is_in (regions_of ws) r ≡ true → faults_after false ws later r ≡ 0) → (b || is_in (regions_of ws) r) ≡ true → faults_after false ws later r ≡ 0
  by true same rest there = out_stays ws later r (ap (λ b. if b then 0 else faults r) (eq-eqb r w.region (sym (eqb-true w.region r same))))
  by false other rest there = rest there

-- ---- the server's call, with the faults set before and put out after

module _ (now : ℕ) (ws : List Waiting) (net : NetValue) (server new : ServerValue) (disk set after later : ModelDiskValue) (answers : List (Result (List ℕ) Discard))
    (topology : new.topology ≡ server.topology)
    (set_states : disk_region set ≡ disk_region disk) (set_count : length set.regions ≡ length disk.regions) (set_faults : failing_call_of set ≡ faults_after true ws (failing_call_of disk))
    (out_states : disk_region later ≡ disk_region after) (out_count : length later.regions ≡ length after.regions) (out_faults : failing_call_of later ≡ faults_after false ws (failing_call_of after)) where
  abbrev saves : List DeliveryValue → List ℕ
  saves ds = batch_saves server.topology ds (books_in server)

  pub record IsTaken (ds : List DeliveryValue) (fails : ℕ → Bool) (states : ℕ → Region) (faults : ℕ → ℕ) (afterwards : ℕ → Region) : Type 0 where
    pub failing : (r : ℕ) → fails r ≡ (is_in (saves ds) r && not (batch_fault faults (saves ds) r == 0))
    pub answered : IsBatch server.topology ds fails (books_in server) (books_in new) answers
    pub leases : IsBatchOfLeases server.topology ds (batch_fault faults (saves ds)) (leases_in states server) (leases_in afterwards new)
    pub ready : AreReady afterwards new
    pub frame : IsWrittenTogether true (saves ds) (device_of set) (device_of after)

  pub are_served : (ds : List DeliveryValue) (fails : ℕ → Bool) → ds ≡ all_delivered net now ws → IsTaken ds fails (disk_region set) (failing_call_of set) (disk_region after) → AreServed now ws net server new disk later answers
  are_served ds fails is taken =
      let there = subst (λ ds. IsTaken ds fails (disk_region disk) (faults_after true ws (failing_call_of disk)) (disk_region later)) is
      (subst (λ states. IsTaken ds fails states (faults_after true ws (failing_call_of disk)) (disk_region later)) set_states
      (subst (λ faults. IsTaken ds fails (disk_region set) faults (disk_region later)) set_faults
      (subst (λ states. IsTaken ds fails (disk_region set) (failing_call_of set) states) (sym out_states) taken))) in
      record {
        topology = topology;
        count = out_count ∙ taken.frame.touches.count ∙ set_count;
        fails = fails;
        failing = there.failing;
        answered = there.answered;
        leases = there.leases;
        ready = there.ready;
        region = λ r out_of. ap (λ states. states r) out_states ∙ there.frame.touches.region refl r out_of ∙ ap (λ states. states r) set_states;
        failing_call = λ r out_of beside.
            ap (λ faults. faults r) out_faults ∙ faults_beside false ws (failing_call_of after) r beside ∙ there.frame.touches.failing_call refl r out_of
            ∙ ap (λ faults. faults r) set_faults ∙ faults_beside true ws (failing_call_of disk) r beside;
        cleared = λ r there. ap (λ faults. faults r) out_faults ∙ faults_out ws (failing_call_of after) r there;
      }
