use Rattle.std.proofs.Common.{◌≡◌, inl, ◌<◌, ◌==◌, ℕ, false, List, map, set, length, sym, ap, subst, ◌∙◌, Err, refl}
use Rattle.std.specs.Prelude.{Option, Some, Result, Ok, slice_get, option_map, All}
use Rattle.std.proofs.lemmas.List.{map-set}
use Rattle.std.proofs.lemmas.Option.{slice_get-map}
use Rattle.types.specs.Delivery.{DeliveryValue}
use Rattle.types.specs.declared.discard.Discard.{Discard}
use Rattle.config.specs.CircuitPart.{CircuitPart}
use Rattle.config.specs.Topology.{Topology}
use Rattle.lease_disk.specs.Device.{WritesAt, has_failed}
use Rattle.requests.specs.Addressee.{addressee}
use Rattle.circuit_server.specs.Leases.{formats_of, restarts_of}
use Rattle.dispatch.specs.Batch.{is_circuit}
use Rattle.dispatch.specs.Deadlines.{AllUnchangedOrUntilHeld, KeepsDeadlines}
use Rattle.dispatch.specs.ReceivedAlone.{IsFound}
use Rattle.dispatch.specs.Received.{Received, addressee_answered, addressee_leases, addressee_saves, received, received_leases, received_saves}
use Rattle.circuit_server.specs.Answered.{IsAnswer, fails_at}
use Rattle.circuit_server.specs.Calls.{IsCalledToSaveAt}
use Rattle.circuit_server.specs.CircuitServerValue.{CircuitServerValue, IsReady, IsReadyFor, OpenCircuitValue, server_book, leases_of, part_of}
use Rattle.dispatch.specs.ServerValue.{ServerValue, books_in, circuits_in, leases_in, with_states}
use Rattle.circuit_server.specs.Served.{IsServed}
use Rattle.circuit_server.specs.Ticked.{state_at, server_state}
use Rattle.circuit_server.proofs.AnswerLemmas.{because_err, because_ok, not_more}
use Rattle.circuit_server.proofs.CalledLemmas.{called_none}
use Rattle.dispatch.proofs.HeldDeadlines.{held_all, kept_all, kept_beside}
use Rattle.dispatch.proofs.OneServer.{IsOne, after_call, its_entries, its_pools, its_ready, still_held, still_sound}
use Rattle.dispatch.proofs.PartLemmas.{not_both, same_number}
use Rattle.dispatch.proofs.ReceivedLemmas.{received_at, leases_at, saves_at}
use Rattle.dispatch.proofs.ServerLemmas.{all_moved, one_moved}
use Rattle.dispatch.proofs.TickLemmas.{own_state}
use Rattle.dispatch.proofs.WithStates.{at_index, parts_with, server, set_with, there_with}
use Rattle.dispatch.proofs.server.Server.receive_found.Given as given
use Rattle.dispatch.proofs.server.Server.receive_found.Goals as goal

-- ---- a datagram of no circuit

abbrev refused : (g : given.Over) (c : goal.In-Err g) → DeliveryValue
refused g c = c.args.delivery.now

none_of : (g : given.Over) (c : goal.In-Err g) → addressee c.args.self.now.topology (refused g c) ≡ Err c.in-Err.why
none_of g c = subst (IsFound c.args.self.now.topology (refused g c)) c.in-Err.is c.requires.found

-- ---- the server of the datagram's circuit, before

abbrev asks : (g : given.Over) (c : goal.After-self-1 g) → DeliveryValue
asks g c = c.args.delivery.now

abbrev topology : (g : given.Over) (c : goal.After-self-1 g) → Topology
topology g c = c.self.inside.circuits

-- the place of the datagram's circuit
abbrev place : (g : given.Over) (c : goal.After-self-1 g) → ℕ
place g c = c.in-Ok.found.0

-- the states that show of all, whose clocks the ticks have moved, before and after
abbrev states : (g : given.Over) (c : goal.After-self-1 g) → List (Option OpenCircuitValue)
states g c = map (state_at c.self.inside.ticked) c.self.inside.servers.items

abbrev after : (g : given.Over) (c : goal.After-self-1 g) → List (Option OpenCircuitValue)
after g c = map (state_at c.self.inside.ticked) (set c.self.inside.servers.items c.index.result c.answer.new.self)

its_one : (g : given.Over) (c : goal.After-self-1 g) → IsOne c.tick.new.self c.answer.new.self (place g c) (states g c) (after g c)
its_one g c =
    after_call c.self.inside.circuits c.self.inside.ticked c.self.inside.servers.items c.self.invariant.0 (place g c) c.index.result c.index.ensures.value c.part-part.result.now c.part-part.ensures
    c.index_mut-server.result.now c.tick.new.self c.index_mut-server.ensures.value c.tick.ensures c.answer.new.self c.answer.ensures.later

there_in : (g : given.Over) (c : goal.After-self-1 g) → slice_get (topology g c).circuits (place g c) ≡ Some c.part-part.result.now
there_in g c = c.part-part.ensures

within : (g : given.Over) (c : goal.After-self-1 g) → (place g c) < length (states g c)
within g c = (its_one g c).inside

abbrev before : (g : given.Over) (c : goal.After-self-1 g) → List CircuitServerValue
before g c = with_states (topology g c).circuits (states g c)

abbrev asked : (g : given.Over) (c : goal.After-self-1 g) → CircuitServerValue
asked g c = server c.part-part.result.now (server_state (states g c) (place g c))

its_server : (g : given.Over) (c : goal.After-self-1 g) → slice_get (before g c) (place g c) ≡ Some (asked g c)
its_server g c =
    there_with (topology g c).circuits (states g c) (place g c) c.part-part.result.now (server_state (states g c) (place g c)) (there_in g c) (within g c) (own_state (states g c) (place g c) (within g c))

-- what the answer does, to the state that is shown
done : (g : given.Over) (c : goal.After-self-1 g)
    → IsServed g.D.Disk.tells c.part-part.result.now (asks g c) (server_state (states g c) (place g c)) c.answer.new.self c.answer.result c.answer.new.out (g.D.Disk.device c.args.disk.now) (g.D.Disk.device c.answer.new.disk)
done g c =
    subst (λ was. IsServed g.D.Disk.tells c.part-part.result.now (asks g c) was c.answer.new.self c.answer.result c.answer.new.out (g.D.Disk.device c.args.disk.now) (g.D.Disk.device c.answer.new.disk))
    (sym (its_one g c).before) c.answer.ensures.served

written : (g : given.Over) (c : goal.After-self-1 g) → with_states (topology g c).circuits (after g c) ≡ set (before g c) (place g c) (server c.part-part.result.now c.answer.new.self)
written g c =
    ap (with_states (topology g c).circuits) (its_one g c).others
    ∙ set_with (topology g c).circuits (states g c) (place g c) c.part-part.result.now c.answer.new.self (there_in g c) (within g c)

its : {B : Type 0} (f : CircuitServerValue → B) (g : given.Over) (c : goal.After-self-1 g) → slice_get (map f (before g c)) (place g c) ≡ Some (f (asked g c))
its f g c = slice_get-map f (before g c) (place g c) ∙ ap (option_map f) (its_server g c)

found_in : (g : given.Over) (c : goal.After-self-1 g) → addressee c.args.self.now.topology (asks g c) ≡ Ok (place g c)
found_in g c = (subst (IsFound c.args.self.now.topology (asks g c)) c.in-Ok.is c.requires.found).0

found : (g : given.Over) (c : goal.After-self-1 g) → addressee (topology g c) (asks g c) ≡ Ok (place g c)
found g c = subst (λ (s : ServerValue). addressee s.topology (asks g c) ≡ Ok (place g c)) (sym c.self.view_is) (found_in g c)

-- another circuit's region is another one
elsewhere : (g : given.Over) (c : goal.After-self-1 g) (k : ℕ) (x : CircuitServerValue) → slice_get (before g c) k ≡ Some x → (k ≡ (place g c) → ⊥)
    → x.part.region ≡ c.part-part.result.now.region → ⊥
elsewhere g c k x there apart same =
    let of_part = ap (λ parts. slice_get parts k) (sym (parts_with (topology g c).circuits (states g c))) ∙ slice_get-map part_of (before g c) k ∙ ap (option_map part_of) there in
    apart (c.self.invariant.0.sound.regions k (place g c) x.part c.part-part.result.now of_part (there_in g c) same)

-- ---- what the answer requires

pub answer-requires-clause-exists : goal.answer-requires-clause-exists
answer-requires-clause-exists g c =
    let P : CircuitPart → Type 0 = λ part. part.region < (g.D.Disk.device c.args.disk.now).count in
    at_index P c.self.inside.circuits.circuits c.in-Ok.found.0 c.part-part.result.now c.part-part.ensures
    (subst (λ (s : ServerValue). All P s.topology.circuits) (sym c.self.view_is) c.requires.regions)

pub answer-requires-clause-entries : goal.answer-requires-clause-entries
answer-requires-clause-entries g c =
    its_entries c.self.inside.circuits c.self.inside.ticked c.self.inside.servers.items c.self.invariant.0 c.in-Ok.found.0 c.index.result c.index.ensures.value c.part-part.result.now c.part-part.ensures
    c.index_mut-server.result.now c.tick.new.self c.index_mut-server.ensures.value c.tick.ensures c.self.inside.deadlines c.self.invariant.1

pub answer-requires-clause-pools : goal.answer-requires-clause-pools
answer-requires-clause-pools g c =
    its_pools c.self.inside.circuits c.self.inside.ticked c.self.inside.servers.items c.self.invariant.0 c.in-Ok.found.0 c.index.result c.index.ensures.value c.part-part.result.now c.part-part.ensures
    c.index_mut-server.result.now c.tick.new.self c.index_mut-server.ensures.value c.tick.ensures

pub answer-requires-clause-ready : goal.answer-requires-clause-ready
answer-requires-clause-ready g c tells =
    its_ready c.self.inside.circuits c.self.inside.ticked c.self.inside.servers.items c.self.invariant.0 c.in-Ok.found.0 c.index.result c.index.ensures.value c.part-part.result.now c.part-part.ensures
    c.index_mut-server.result.now c.tick.new.self c.index_mut-server.ensures.value c.tick.ensures (g.D.Disk.device c.args.disk.now).region
    (subst (λ (s : ServerValue). All (IsReady (g.D.Disk.device c.args.disk.now).region) (circuits_in s)) (sym c.self.view_is) (c.requires.ready tells))

-- ---- after the answer

pub invariant_of-self : goal.invariant_of-self
invariant_of-self g c = (
  still_sound (topology g c) (states g c) (after g c) (place g c) c.part-part.result.now c.tick.new.self c.answer.new.self c.self.invariant.0 (its_one g c) (there_in g c) (done g c).pools,
  still_held (states g c) (after g c) (place g c) c.tick.new.self c.answer.new.self c.self.inside.deadlines c.answer.new.table (its_one g c) c.self.invariant.1 c.answer.ensures.entries,
  c.self.invariant.2,
)

pub returns-clause-topology : goal.returns-clause-topology
returns-clause-topology g c = ap (λ (s : ServerValue). s.topology) c.self.view_is

not_named : (c k : ℕ) (found : Result ℕ Discard) → found ≡ Ok c → is_circuit k found ≡ false → k ≡ c → ⊥
not_named c k found is none same = not_both (ap (λ n. c == n) same ∙ same_number c) (sym (ap (is_circuit k) is) ∙ none)

pub returns-in-Err-clause-received : goal.returns-in-Err-clause-received
returns-in-Err-clause-received g c = record {
  answer =
      let s = c.args.self.now in
      let device = g.D.Disk.device c.args.disk.now in
      subst (λ r. IsAnswer (addressee_answered s.topology (refused g c) (has_failed device device) (books_in s) r).answer (Err c.in-Err.why) c.args.out.now)
      (sym (none_of g c)) (refl, c.requires.empty);
  books =
      let s = c.args.self.now in
      let device = g.D.Disk.device c.args.disk.now in
      ap (λ r. (addressee_answered s.topology (refused g c) (has_failed device device) (books_in s) r).books) (sym (none_of g c));
  unchanged = because_err _ _ _ (none_of g c) (refl, refl, refl);
  deadlines = kept_all _ c.args.self.now.deadlines;
  held = λ k state there s below. inl refl;
  fails = λ tells q.
      let s = c.args.self.now in
      not_more _ ∙ ap (λ r. fails_at (g.D.Disk.device c.args.disk.now).failing_call (addressee_saves s.topology (refused g c) (books_in s) r) q) (sym (none_of g c));
  leases = λ tells.
      let s = c.args.self.now in
      let device = g.D.Disk.device c.args.disk.now in
      ap (addressee_leases s.topology (refused g c) device.failing_call (leases_in device.region s)) (sym (none_of g c));
  ready = c.requires.ready;
  frame =
      let s = c.args.self.now in
      let device = g.D.Disk.device c.args.disk.now in
      subst (λ r. WritesAt g.D.Disk.tells (addressee_saves s.topology (refused g c) (books_in s) r) device device) (sym (none_of g c)) refl;
  calls =
      let s = c.args.self.now in
      let device = g.D.Disk.device c.args.disk.now in
      subst (λ r. IsCalledToSaveAt (addressee_saves s.topology (refused g c) (books_in s) r) device device) (sym (none_of g c)) (called_none device device refl);
}

pub returns-clause-received : goal.returns-clause-received
returns-clause-received g c = record {
  answer =
      let fails = has_failed (g.D.Disk.device c.args.disk.now) (g.D.Disk.device c.answer.new.disk) in
      let x = asked g c in
      let P : ServerValue → Type 0 = λ s. IsAnswer (received s.topology (asks g c) fails (books_in s)).answer c.answer.result c.answer.new.out in
      let Q : Received → Type 0 = λ r. IsAnswer r.answer c.answer.result c.answer.new.out in
      subst P c.self.view_is
      (subst Q (sym (received_at (topology g c) (asks g c) (place g c) x.part (found g c) (there_in g c) fails (map server_book (before g c)) (server_book x) (its server_book g c)))
      (done g c).answer);
  books =
      let fails = has_failed (g.D.Disk.device c.args.disk.now) (g.D.Disk.device c.answer.new.disk) in
      let x = asked g c in
      let items = before g c in
      let k = place g c in
      let new = server x.part c.answer.new.self in
      let P : ServerValue → Type 0 = λ s. map server_book (set items k new) ≡ (received s.topology (asks g c) fails (books_in s)).books in
      ap (map server_book) (written g c)
      ∙ subst P c.self.view_is
      (map-set server_book items k new
      ∙ ap (set (map server_book items) k) (done g c).book
      ∙ ap (λ r. r.books) (sym (received_at (topology g c) (asks g c) k x.part (found g c) (there_in g c) fails (map server_book items) (server_book x) (its server_book g c))));
  unchanged = because_ok _ _ _ (found_in g c);
  deadlines =
      let k = place g c in
      let P : ServerValue → Type 0 = λ s. KeepsDeadlines (λ n. is_circuit n (addressee s.topology (asks g c))) s.deadlines c.answer.new.table in
      subst P c.self.view_is
      (kept_beside k (λ n. is_circuit n (addressee (topology g c) (asks g c))) c.self.inside.deadlines c.answer.new.table
      (λ n none. not_named k n (addressee (topology g c) (asks g c)) (found g c) none) c.answer.ensures.entries.others);
  held =
      let k = place g c in
      let P : ServerValue → Type 0 = λ v. AllUnchangedOrUntilHeld v.deadlines c.answer.new.table (after g c) in
      subst P c.self.view_is (held_all k (after g c) c.answer.new.self c.self.inside.deadlines c.answer.new.table (sym (its_one g c).after) c.answer.ensures.entries.others c.answer.ensures.entries.own);
  fails = λ tells q.
      let fails = has_failed (g.D.Disk.device c.args.disk.now) (g.D.Disk.device c.answer.new.disk) q in
      let faults = (g.D.Disk.device c.args.disk.now).failing_call in
      let x = asked g c in
      let items = before g c in
      let P : ServerValue → Type 0 = λ s. fails ≡ fails_at faults (received_saves s.topology (asks g c) (books_in s)) q in
      subst P c.self.view_is
      ((done g c).fails tells q
      ∙ sym (ap (λ (saved : Option ℕ). fails_at faults saved q) (saves_at (topology g c) (asks g c) (place g c) x.part (found g c) (there_in g c) (map server_book items) (server_book x) (its server_book g c))));
  leases = λ tells.
      let regions = (g.D.Disk.device c.args.disk.now).region in
      let later = (g.D.Disk.device c.answer.new.disk).region in
      let faults = (g.D.Disk.device c.args.disk.now).failing_call in
      let x = asked g c in
      let items = before g c in
      let k = place g c in
      let new = server x.part c.answer.new.self in
      let P : ServerValue → Type 0 = λ s. map (leases_of later) (set items k new) ≡ received_leases s.topology (asks g c) faults (leases_in regions s) in
      ap (map (leases_of later)) (written g c)
      ∙ subst P c.self.view_is
      (one_moved (leases_of regions) (leases_of later) items k new
      (λ n y there apart. λ i. let r = (done g c).frame.region tells y.part.region (elsewhere g c n y there apart) i in record { book = server_book y; restarts = restarts_of y.part r; is_new = formats_of r })
      ∙ ap (set (map (leases_of regions) items) k) ((done g c).leases tells)
      ∙ sym (leases_at (topology g c) (asks g c) k x.part (found g c) (there_in g c) faults (map (leases_of regions) items) (leases_of regions x) (its (leases_of regions) g c)));
  ready = λ tells.
      let regions = (g.D.Disk.device c.args.disk.now).region in
      let later = (g.D.Disk.device c.answer.new.disk).region in
      let was : All (IsReady regions) (before g c) = subst (λ (s : ServerValue). All (IsReady regions) (circuits_in s)) (sym c.self.view_is) (c.requires.ready tells) in
      subst (All (IsReady later)) (sym (written g c))
      (all_moved (IsReady regions) (IsReady later) (before g c) (place g c) (server c.part-part.result.now c.answer.new.self) ((done g c).ready tells) was
      (λ n y there apart. subst (λ r. IsReadyFor r y.state) (sym ((done g c).frame.region tells y.part.region (elsewhere g c n y there apart)))));
  frame =
      let old = g.D.Disk.device c.args.disk.now in
      let new = g.D.Disk.device c.answer.new.disk in
      let x = asked g c in
      let items = before g c in
      let P : ServerValue → Type 0 = λ s. WritesAt g.D.Disk.tells (received_saves s.topology (asks g c) (books_in s)) old new in
      let Q : Option ℕ → Type 0 = λ region. WritesAt g.D.Disk.tells region old new in
      subst P c.self.view_is
      (subst Q (sym (saves_at (topology g c) (asks g c) (place g c) x.part (found g c) (there_in g c) (map server_book items) (server_book x) (its server_book g c)))
      (done g c).writes);
  calls =
      let old = g.D.Disk.device c.args.disk.now in
      let new = g.D.Disk.device c.answer.new.disk in
      let x = asked g c in
      let items = before g c in
      let P : ServerValue → Type 0 = λ s. IsCalledToSaveAt (received_saves s.topology (asks g c) (books_in s)) old new in
      let Q : Option ℕ → Type 0 = λ region. IsCalledToSaveAt region old new in
      subst P c.self.view_is
      (subst Q (sym (saves_at (topology g c) (asks g c) (place g c) x.part (found g c) (there_in g c) (map server_book items) (server_book x) (its server_book g c)))
      (done g c).calls);
}
