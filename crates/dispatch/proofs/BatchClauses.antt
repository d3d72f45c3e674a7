-- What the server's value says after a batch.
use Rattle.std.proofs.Common.{◌≡◌, ◌∙◌, ◌+◌, ◌<◌, ◌==◌, ◌&&◌, nat_lt, not, ℕ, Bool, true, false, List, [], ◌∷◌, length, map, refl, sym, ap, subst, arith}
use Rattle.std.specs.Prelude.{Option, Some, None, option_map, Result, slice_get}
use Rattle.std.proofs.lemmas.List.{length-map}
use Rattle.std.proofs.lemmas.Option.{get_or_from_slice_get, slice_get-map, slice_get_past}
use Rattle.types.specs.Delivery.{DeliveryValue}
use Rattle.types.specs.declared.discard.Discard.{Discard}
use Rattle.lease_disk.specs.Device.{Device, is_in}
use Rattle.lease_disk.specs.Region.{effective}
use Rattle.batch_saves.specs.Batch.{AreApart, batch_calls, failed_of, first_of, failing_calls_of, regions_of, shared_fault}
use Rattle.batch_saves.specs.Batch as saves
use Rattle.lease_disk.specs.declared.saving.Saving.{Saving}
use Rattle.config.specs.CircuitPart.{CircuitPart}
use Rattle.config.specs.Topology.{IsTopology}
use Rattle.circuit_server.specs.Calls.{IsCalledToSave}
use Rattle.circuit_server.specs.CircuitServerValue.{CircuitServerValue, IsReady, IsReadyFor, OpenCircuitValue, server_book, leases_of}
use Rattle.circuit_server.specs.Ticked.{server_state}
use Rattle.circuit_server.specs.declared.prepared.Prepared.{Prepared}
use Rattle.dispatch.specs.Batch.{IsWrittenTogether, batch_fault, batch_saves}
use Rattle.dispatch.specs.Parts.{AreAnswered, AreDecided, AreSavedTogether, IsReceivedBatch, savings_of}
use Rattle.dispatch.specs.Regions.{HasRegions}
use Rattle.dispatch.specs.ServerValue.{AreReady, ServerValue, books_in, circuits_in, leases_in}
use Rattle.dispatch.proofs.BatchLemmas.{batch_answered, batch_failed, batch_leased, batch_ready, batch_written}
use Rattle.dispatch.proofs.CalledLemmas.{saved_called}
use Rattle.dispatch.proofs.SaverLemmas.{apart_savings, ready_savings, saves_are}
use Rattle.dispatch.proofs.TickLemmas.{own_state}
use Rattle.dispatch.proofs.WithStates.{at_index, server, size_with, there_is, there_with}
use Rattle.std.proofs.lemmas.Option.{slice_get_within}

abbrev Part : Type 0
Part = Result (ℕ × Prepared) Discard

-- ---- one circuit of a server

there_in : (s : ServerValue) → length s.states ≡ length s.topology.circuits → (c : ℕ) (part : CircuitPart) → slice_get s.topology.circuits c ≡ Some part → slice_get (circuits_in s) c ≡ Some (server part (server_state s.states c))
there_in s size c part there =
    let inside = slice_get_within s.topology.circuits c part there in
    let within : c < length s.states = omega (arith, inside, size) in
    there_with s.topology.circuits s.states c part (server_state s.states c) there within (own_state s.states c within)

module _ {B : Type 0} (f : CircuitServerValue → B) (s : ServerValue) where
  shown_in : length s.states ≡ length s.topology.circuits → (c : ℕ) (part : CircuitPart) → slice_get s.topology.circuits c ≡ Some part → slice_get (map f (circuits_in s)) c ≡ Some (f (server part (server_state s.states c)))
  shown_in size c part there = slice_get-map f (circuits_in s) c ∙ ap (option_map f) (there_in s size c part there)

  past_in : (c : ℕ) → slice_get s.topology.circuits c ≡ None → slice_get (map f (circuits_in s)) c ≡ None
  past_in c none = by (nat_lt c (length s.topology.circuits)) refl where
    by : (b : Bool) → nat_lt c (length s.topology.circuits) ≡ b → slice_get (map f (circuits_in s)) c ≡ None
    by true e = let one = there_is s.topology.circuits c (grind (arith, e)) in let never : Some one.0 ≡ None = sym one.1 ∙ none in absurd cc
    by false e =
        let size = length-map (circuits_in s) f in
        let all = size_with s.topology.circuits s.states in
        slice_get_past (map f (circuits_in s)) c (grind (arith, e, size, all))

-- ---- before anything is saved

exist : (s : ServerValue) (device : Device) → HasRegions s.topology.circuits device.count → (c : ℕ) (part : CircuitPart) → slice_get s.topology.circuits c ≡ Some part → part.region < device.count
exist s device regions c part there = at_index (λ (p : CircuitPart). p.region < device.count) s.topology.circuits c part there regions

ready_in : (tells : Bool) (s : ServerValue) (device : Device) → length s.states ≡ length s.topology.circuits → (tells ≡ true → AreReady device.region s) → (c : ℕ) (part : CircuitPart) → slice_get s.topology.circuits c ≡ Some part → tells ≡ true
    → IsReadyFor (device.region part.region) (server_state s.states c)
ready_in tells s device size ready c part there told = at_index (IsReady device.region) (circuits_in s) c (server part (server_state s.states c)) (there_in s size c part there) (ready told)

module _ (s : ServerValue) (ds : List DeliveryValue) (i : ℕ) (named : List ℕ) (middle : List (Option OpenCircuitValue)) (parts : List (Option Part)) (whole : length ds ≡ i) (made : AreDecided s.topology ds i named s.states middle parts)
    (sound : IsTopology s.topology) (size : length s.states ≡ length s.topology.circuits) where
  pub saves_apart : AreApart (savings_of parts)
  saves_apart = apart_savings s.topology ds i named s.states middle parts whole made sound

  pub saves_ready : (tells : Bool) (device : Device) → HasRegions s.topology.circuits device.count → (tells ≡ true → AreReady device.region s) → saves.AreReady tells device (savings_of parts)
  saves_ready tells device regions ready =
      ready_savings s.topology ds i named s.states middle parts whole made tells device (exist s device regions) (ready_in tells s device size ready)

  -- ---- after all

  module _ (later_s : ServerValue) (same : later_s.topology ≡ s.topology) (savings : List Saving) (tells : Bool) (was later : Device) (saved : AreSavedTogether tells (savings_of parts) savings was later)
      (calls : later.writes ≡ was.writes + batch_calls (failed_of savings)) (given : List (Result (List ℕ) Discard)) (ended : AreAnswered s.topology parts savings (length parts) middle later_s.states given) (ready : tells ≡ true → AreReady was.region s) where
    later_size : length later_s.states ≡ length later_s.topology.circuits
    later_size = ended.size ∙ made.size ∙ size ∙ sym (ap (λ t. length t.circuits) same)

    there_later : (c : ℕ) (part : CircuitPart) → slice_get s.topology.circuits c ≡ Some part → slice_get later_s.topology.circuits c ≡ Some part
    there_later c part there = ap (λ t. slice_get t.circuits c) same ∙ there

    both_past : {B : Type 0} (f g : CircuitServerValue → B) (c : ℕ) → slice_get s.topology.circuits c ≡ None → slice_get (map g (circuits_in later_s)) c ≡ slice_get (map f (circuits_in s)) c
    both_past f g c none = past_in g later_s c (ap (λ t. slice_get t.circuits c) same ∙ none) ∙ sym (past_in f s c none)

    regions_are : batch_saves s.topology ds (books_in s) ≡ regions_of (savings_of parts)
    regions_are = saves_are s.topology ds i named s.states middle parts (books_in s) whole made (shown_in server_book s size)

    map_twice : (f : ℕ → ℕ) (ss : List Saving) → map f (regions_of ss) ≡ map (λ (p : Saving). f p.region) ss
    map_twice f [] = refl
    map_twice f (p ∷ ss) = ap (λ ns. f p.region ∷ ns) (map_twice f ss)

    faults_are : (r : ℕ) → batch_fault was.failing_call (batch_saves s.topology ds (books_in s)) r ≡ first_of (effective 6 (was.failing_call r)) (shared_fault (failing_calls_of was (savings_of parts)))
    faults_are r = ap (λ regions. batch_fault was.failing_call regions r) regions_are ∙ ap (λ failing_calls. first_of (effective 6 (was.failing_call r)) (shared_fault failing_calls)) (map_twice was.failing_call (savings_of parts))

    pub received_batch : IsReceivedBatch tells ds given s later_s was later
    received_batch = record {
      answers =
          batch_answered s.topology ds i named s.states middle later_s.states parts whole made sound savings tells was later saved given ended (ready_in tells s was size ready)
          (books_in s) (books_in later_s) (shown_in server_book s size) (λ c part there. shown_in server_book later_s later_size c part (there_later c part there)) (both_past server_book server_book);
      frame =
          subst (λ regions. IsWrittenTogether tells regions was later) (sym regions_are)
          (batch_written s.topology ds i named s.states middle later_s.states parts whole made sound savings tells was later saved given ended (ready_in tells s was size ready));
      calls = subst (λ regions. IsCalledToSave regions was later) (sym regions_are) (saved_called tells (savings_of parts) savings was later saved calls);
      fails = λ told r.
          batch_failed s.topology ds i named s.states middle later_s.states parts whole made sound savings tells was later saved given ended (ready_in tells s was size ready) told
          (batch_fault was.failing_call (batch_saves s.topology ds (books_in s))) faults_are r
          ∙ ap (λ regions. is_in regions r && not (batch_fault was.failing_call (batch_saves s.topology ds (books_in s)) r == 0)) (sym regions_are);
      leases = λ told.
          batch_leased s.topology ds i named s.states middle later_s.states parts whole made sound savings tells was later saved given ended (ready_in tells s was size ready) told
          (batch_fault was.failing_call (batch_saves s.topology ds (books_in s))) faults_are (leases_in was.region s) (leases_in later.region later_s)
          (shown_in (leases_of was.region) s size) (λ c part there. shown_in (leases_of later.region) later_s later_size c part (there_later c part there)) (both_past (leases_of was.region) (leases_of later.region));
      ready = λ told k d inside.
          let count = size_with later_s.topology.circuits later_s.states in
          let one = there_is later_s.topology.circuits k (omega (arith, inside, count)) in
          let there = sym (ap (λ t. slice_get t.circuits k) same) ∙ one.1 in
          subst (IsReady later.region) (sym (get_or_from_slice_get (circuits_in later_s) k (server one.0 (server_state later_s.states k)) d (there_in later_s later_size k one.0 one.1)))
          (batch_ready s.topology ds i named s.states middle later_s.states parts whole made sound savings tells was later saved given ended (ready_in tells s was size ready) told
          (batch_fault was.failing_call (batch_saves s.topology ds (books_in s))) faults_are k one.0 there);
    }
