-- The step of a batch: each circuit's state moves by its part alone, and the world stays one.
use Rattle.std.proofs.Common.{Bor, ◌≡◌, ◌≢◌, ℕ, ◌<◌, ◌≤◌, ◌⊎◌, inl, inr, Bool, true, false, List, [], ◌∷◌, length, take, refl, sym, ap, subst, ◌∙◌, arith}
use Rattle.std.specs.Prelude.{All, ◌&&◌, if◌then◌else◌, nat_le, Option, Some, None, Result, Ok, Err, slice_get, slice_index, slice_index_or}
use Rattle.std.specs.List.{filter_map}
use Rattle.std.proofs.lemmas.Option.{same_Some, slice_get_within, slice_get-get_or}
use Rattle.types.specs.Delivery.{DeliveryValue, delivery}
use Rattle.types.specs.declared.dest.Proto.{Proto}
use Rattle.types.specs.declared.dest.Proto.TheVariants.{V6}
use Rattle.types.specs.declared.discard.Discard.{Discard}
use Rattle.config.specs.CircuitPart.{CircuitPart, IsPart}
use Rattle.config.specs.Membership.{has}
use Rattle.config.specs.Topology.{Topology, listen, serves}
use Rattle.requests.specs.Addressee.{addressee}
use Rattle.circuit_server.specs.Answered.{IsAnswer}
use Rattle.circuit_server.specs.Leases.{Leases, after_datagram}
use Rattle.circuit_server.specs.Server.{Book, served}
use Rattle.dispatch.specs.Regions.{KeepsOthers}
use Rattle.lease_disk.specs.Model.{device_of, failing_call_of}
use Rattle.lossy_net.specs.Net.{Datagram, datagrams}
use Rattle.lossy_net.specs.declared.dir.Dir.TheVariants as dir
use Rattle.relay.specs.Relays.{for_circuit, relayed_down, relayed_down_in}
use Rattle.wire.specs.Bytes.{AreBytes}
use Rattle.events.specs.Batch.{are_apart, is_batch, is_named, outcome_of, part_fault, part_of}
use Rattle.events.specs.Seen.{Up, seen_part}
use Rattle.events.specs.declared.batch.BatchPart.{BatchPart}
use Rattle.events.specs.declared.batch.PartOutcome.{PartOutcome}
use Rattle.events.specs.declared.event.Event.{Event}
use Rattle.events.specs.declared.event.Event.TheVariants as event
use Rattle.events.specs.declared.outcome.Outcome.TheVariants as outcome
use Rattle.world.specs.Batch.{AreServed, answer_outcome, bytes_in, bytes_of, downs_after, outcome_for, waiting_of}
use Rattle.world.specs.Headline.{CircuitState, Steps, of_part}
use Rattle.world.specs.StepsAs.{Each, IsFor, IsWorld, Returns, StepsAs, under}
use Rattle.world.specs.World.{WorldValue, each_state, world_state, states}
use Rattle.world.specs.declared.world.batch.Waiting.{Waiting}
use Rattle.world.proofs.BatchLemmas.{IsServedPart, IsWaitingAt, as_alone, failing_call_stays, in_regions, leases_stay, no_circuit, not_waiting, seen_alike, of_its_part, region_stays, served_part, spare_stays, waits_at}
use Rattle.world.proofs.BatchParts.{AreApart, from_part, gone_outcome, has_part, is_waiting, its_downs, its_outcome, its_place, no_part, none_waits, of_its_circuit, one_waits, truth, outcome_is, same_downs, unnamed_waits, waits_apart}
use Rattle.world.proofs.BatchSaves.{MeetsEach}
use Rattle.world.proofs.CircuitSteps.{Moved, steps_of}
use Rattle.world.proofs.ShownLemmas.{its_answer, its_fails, reply_of}
use Rattle.world.proofs.StateLemmas.{is_state, leases_now, past_end, state_at, state_count}
use Rattle.world.proofs.WorldLemmas.{all_at, each_at, each_newest, each_same, is_part_at, same_circuit, states_count, still_world, up_dropped, up_gone, up_off, up_sent, whole}

apart_of : (a b c : Bool) → (a && b && c) ≡ true → c ≡ true
apart_of true true c h = h
apart_of true false c h = absurd cc
apart_of false b c h = absurd cc

-- what is said of each by its index
pub all_by : {X : Type 0} (P : X → Type 0) (xs : List X) → ((j : ℕ) (x : X) → slice_get xs j ≡ Some x → P x) → All P xs
all_by P xs each = λ k d within. each k (slice_index_or xs k d) (slice_get-get_or xs k d within)

-- ---- the parts that wait

module _ (w : WorldValue) (is : IsWorld w) (sync : ℕ) (ps : List BatchPart) where
  abbrev pub all_parts : List Waiting
  all_parts = filter_map (waiting_of w.relays.topology w.net sync) ps

  pub each_waits : (j : ℕ) (x : Waiting) → slice_get all_parts j ≡ Some x → IsWaitingAt w sync x
  each_waits j x at = let r = from_part (waiting_of w.relays.topology w.net sync) (of_its_part w.relays.topology w.net sync) ps j x at in waits_at w is sync r.part x r.waits

  pub have_regions : All (λ (x : Waiting). x.region < length w.disk.regions) all_parts
  have_regions = all_by (λ (x : Waiting). x.region < length w.disk.regions) all_parts (λ j x at.
      let a = each_waits j x at in
      let own = all_at (λ (part : CircuitPart). part.region < length w.disk.regions) w.relays.topology.circuits x.circuit a.the.part is.regions a.the.there in
      omega (arith, own, a.region))

  pub have_circuits : All (λ (x : Waiting). x.circuit < length w.net.circuits) all_parts
  have_circuits = all_by (λ (x : Waiting). x.circuit < length w.net.circuits) all_parts (λ j x at.
      let a = each_waits j x at in
      let within = slice_get_within w.relays.topology.circuits x.circuit a.the.part a.the.there in
      omega (arith, within, is.count))

-- what the law says of replies
abbrev RepliesCome : Type 0
RepliesCome = (topology : Topology) (relay c : ℕ) (part : CircuitPart) (d : DeliveryValue) (bytes : List ℕ) (b : Book)
    → slice_get topology.circuits c ≡ Some part → serves topology c ≡ true
    → ((d : ℕ) (other : CircuitPart) → slice_get topology.circuits d ≡ Some other → other.id ≡ part.id → d ≡ c)
    → slice_get topology.relays relay ≡ Some part.relay → IsPart part → AreBytes d.bytes
    → addressee topology (delivery d.proto part.relay d.moment d.bytes) ≡ Ok c → (served part d b).answer ≡ Ok bytes
    → (d.proto ≡ V6 → topology.listen4 ≢ topology.listen6)
    → relayed_down_in topology relay (listen topology d.proto) bytes ≡ for_circuit c (relayed_down part d.proto bytes)

-- ---- what is known after the server's call, and after the answers were sent

pub record IsTakenBatch (w new : WorldValue) (sync now : ℕ) (ps : List BatchPart) (outcomes : List (Option PartOutcome)) : Type 0 where
  pub is : IsWorld w
  pub batch : is_batch ps ≡ true
  pub answers : List (Result (List ℕ) Discard)
  pub served : AreServed now (all_parts w is sync ps) w.net w.server new.server w.disk new.disk answers
  pub relays : new.relays ≡ w.relays
  pub circuits : length new.net.circuits ≡ length w.net.circuits
  pub quota : new.net.quota ≡ w.net.quota
  pub ups : (c : ℕ) → datagrams new.net c dir.Up ≡ datagrams w.net c dir.Up
  pub downs : (c : ℕ) → datagrams new.net c dir.Down ≡ downs_after w.net.quota (all_parts w is sync ps) answers c (datagrams w.net c dir.Down)
  pub outcomes_are : (i : ℕ) (p : BatchPart) → slice_get ps i ≡ Some p → slice_get outcomes i ≡ Some (Some (outcome_for p.circuit (all_parts w is sync ps) answers))
  pub past_are : (i : ℕ) → length ps ≤ i → i < 16 → slice_get outcomes i ≡ Some None
  pub bytes : (j : ℕ) (x : Waiting) → slice_get (all_parts w is sync ps) j ≡ Some x → AreBytes (bytes_of w.net x)
  pub law : MeetsEach
  pub comes : RepliesCome

module _ (w new : WorldValue) (sync now : ℕ) (ps : List BatchPart) (outcomes : List (Option PartOutcome)) (b : IsTakenBatch w new sync now ps outcomes) where
  abbrev ws : List Waiting
  ws = all_parts w b.is sync ps

  abbrev f : BatchPart → Option Waiting
  f = waiting_of w.relays.topology w.net sync

  keeps : (p : BatchPart) (x : Waiting) → f p ≡ Some x → x.circuit ≡ p.circuit
  keeps = of_its_part w.relays.topology w.net sync

  parts_apart : are_apart ps ≡ true
  parts_apart = apart_of (nat_le 1 (length ps)) (nat_le (length ps) 16) (are_apart ps) b.batch

  apart : AreApart ws
  apart = waits_apart f keeps ps parts_apart

  all : (j : ℕ) (x : Waiting) → slice_get ws j ≡ Some x → IsWaitingAt w sync x
  all = each_waits w b.is sync ps

  topology : new.relays.topology ≡ w.relays.topology
  topology = ap (λ r. r.topology) b.relays

  parts_stay : new.server.topology.circuits ≡ w.server.topology.circuits
  parts_stay = ap (λ (t : Topology). t.circuits) b.served.topology

  state_in_new : (c : ℕ) (part : CircuitPart) (l : Leases) → slice_get w.server.topology.circuits c ≡ Some part → slice_get (leases_now new) c ≡ Some l → slice_get (states new) c ≡ Some (world_state new c part l)
  state_in_new c part l there its =
      ap (λ parts. slice_get (each_state (world_state new) parts (leases_now new)) c) parts_stay ∙ state_at (world_state new) w.server.topology.circuits (leases_now new) c part l there its

  -- ---- a circuit of which nothing waits

  module _ (c : ℕ) (none : is_waiting c ws ≡ false) where
    downs_stay : datagrams new.net c dir.Down ≡ datagrams w.net c dir.Down
    downs_stay = b.downs c ∙ same_downs w.net.quota c ws b.answers (datagrams w.net c dir.Down) none

    unchanged : (part : CircuitPart) (l : Leases) → slice_get w.relays.topology.circuits c ≡ Some part → world_state new c part l ≡ world_state w c part l
    unchanged part l there =
        same_circuit w new c part l topology b.quota (b.ups c) downs_stay (ap (λ r. slice_index r.discarded c) b.relays)
        (ap (λ region. region) (region_stays w b.is sync now ws all apart new b.answers b.law b.served c part there none)) (failing_call_stays w b.is sync now ws all apart new b.answers b.law b.served c part there none)

  its_outcome_is : (c : ℕ) (p : BatchPart) → part_of c ps ≡ Some p → of_part (outcome_of c ps outcomes) ≡ of_part (Some (outcome_for c ws b.answers))
  its_outcome_is c p its =
      ap of_part (outcome_is c ps outcomes (λ q. outcome_for q.circuit ws b.answers) p its b.outcomes_are)
      ∙ ap (λ n. of_part (Some (outcome_for n ws b.answers))) (of_its_circuit c ps p its)

  -- ---- a circuit whose part waits

  module _ (c : ℕ) (p : BatchPart) (its : part_of c ps ≡ Some p) (out : List ℕ) (empty : out ≡ []) where
    module _ (j : ℕ) (x : Waiting) (at : slice_get ws j ≡ Some x) (waits : f p ≡ Some x) where
      abbrev a : IsWaitingAt w sync x
      a = all j x at

      abbrev e : DeliveryValue
      e = as_alone w b.is sync now ws all apart x a

      abbrev done : IsServedPart w b.is sync now ws all apart new b.answers b.law b.served j x a
      done = served_part w b.is sync now ws all apart new b.answers b.law b.served j x at

      abbrev after : CircuitState
      after = world_state new x.circuit a.the.part (after_datagram a.the.part e x.fault a.the.leases)

      its_count : slice_index new.relays.discarded x.circuit ≡ slice_index w.relays.discarded x.circuit
      its_count = ap (λ r. slice_index r.discarded x.circuit) b.relays

      its_failing_call : failing_call_of new.disk a.the.part.region ≡ 0
      its_failing_call = subst (λ r. failing_call_of new.disk r ≡ 0) a.region (b.served.cleared x.region (in_regions ws j x at))

      steps_by_answer : (r : Result (List ℕ) Discard) → its_answer a.the.part e x.fault a.the.leases.book ≡ r
          → StepsAs x.circuit (Up x.number now x.fault) (world_state w x.circuit a.the.part a.the.leases) after (of_part (Some (answer_outcome (Some r)))) out
      steps_by_answer (Ok bytes) is =
          up_sent x.circuit w new a.the.part a.the.leases x.number now x.fault a.datagram (Ok tt) bytes a.kept (subst (λ r. IsAnswer r (Ok tt) bytes) (sym is) (refl, refl)) topology a.on b.quota (b.ups x.circuit) its_count its_failing_call
          (λ nothing. done.quiet w.net.quota (has w.relays.topology.plans 0 x.circuit) nothing) (length bytes) out refl
          (b.downs x.circuit ∙ its_downs w.net.quota ws b.answers j x (Ok bytes) (datagrams w.net x.circuit dir.Down) apart at (done.answer ∙ ap Some is)
          ∙ (λ i. take w.net.quota (record { proto = a.proto i; bytes = bytes } ∷ datagrams w.net x.circuit dir.Down))) refl empty
      steps_by_answer (Err why) is =
          subst (StepsAs x.circuit (Up x.number now x.fault) (world_state w x.circuit a.the.part a.the.leases) after (outcome.Dropped why)) (sym empty)
          (up_dropped x.circuit w new a.the.part a.the.leases x.number now x.fault a.datagram (Err why) [] a.kept (subst (λ r. IsAnswer r (Err why) []) (sym is) (refl, refl)) topology a.on b.quota (b.ups x.circuit) its_count its_failing_call
          (λ nothing. done.quiet w.net.quota (has w.relays.topology.plans 0 x.circuit) nothing) why refl
          (b.downs x.circuit ∙ its_downs w.net.quota ws b.answers j x (Err why) (datagrams w.net x.circuit dir.Down) apart at (done.answer ∙ ap Some is)))

      -- the circuit's own state, as its part leaves it
      waiting_moves : (before : CircuitState) → slice_get (states w) x.circuit ≡ Some before
          → Moved x.circuit (Some (Up p.number now (part_fault sync p.fault))) before (states new) (of_part (Some (outcome_for x.circuit ws b.answers))) out
      waiting_moves before there =
          let was = state_at (world_state w) w.server.topology.circuits (leases_now w) x.circuit a.the.part a.the.leases a.the.served a.the.its in
          let its_before : world_state w x.circuit a.the.part a.the.leases ≡ before = same_Some _ before (sym was ∙ there) in
          let O : PartOutcome → Type 0 = λ o. StepsAs x.circuit (Up x.number now x.fault) (world_state w x.circuit a.the.part a.the.leases) after (of_part (Some o)) out in
          let steps = subst O (sym (its_outcome ws b.answers j x (its_answer a.the.part e x.fault a.the.leases.book) apart at done.answer)) (steps_by_answer (its_answer a.the.part e x.fault a.the.leases.book) refl) in
          record {
            after = after;
            is = state_in_new x.circuit a.the.part (after_datagram a.the.part e x.fault a.the.leases) a.the.served done.leases;
            by = subst (λ s. StepsAs x.circuit s before after (of_part (Some (outcome_for x.circuit ws b.answers))) out) (seen_alike w.relays.topology w.net sync now p x waits)
                (subst (λ old. StepsAs x.circuit (Up x.number now x.fault) old after (of_part (Some (outcome_for x.circuit ws b.answers))) out) its_before steps);
          }

  -- ---- any circuit

  -- its state where nothing of it waits
  stays_there : (c : ℕ) (before : CircuitState) → slice_get (states w) c ≡ Some before → is_waiting c ws ≡ false → slice_get (states new) c ≡ Some before
  stays_there c before there none =
      let s = is_state (world_state w) w.server.topology.circuits (leases_now w) c before there in
      let known = ap (λ (t : Topology). slice_get t.circuits c) (sym b.is.served) ∙ s.there in
      state_in_new c s.part s.leases s.there (leases_stay w b.is sync now ws all apart new b.answers b.law b.served c none ∙ s.its) ∙ ap Some (unchanged c none s.part s.leases known ∙ sym s.is)

  module _ (out : List ℕ) (empty : out ≡ []) where
    gone_moves : (c : ℕ) (p : BatchPart) (before : CircuitState) → part_of c ps ≡ Some p → f p ≡ None → slice_get (states w) c ≡ Some before
        → Moved c (Some (Up p.number now (part_fault sync p.fault))) before (states new) (of_part (Some (outcome_for c ws b.answers))) out
    gone_moves c p before its none there =
        let nothing = none_waits f keeps c ps p parts_apart its none in
        let s = is_state (world_state w) w.server.topology.circuits (leases_now w) c before there in
        let known = ap (λ (t : Topology). slice_get t.circuits c) (sym b.is.served) ∙ s.there in
        let same = of_its_circuit c ps p its in
        let P : CircuitState → Type 0 = λ old. StepsAs c (Up p.number now (part_fault sync p.fault)) old old outcome.Gone out in
        record {
          after = before;
          is = stays_there c before there nothing;
          by = subst (λ o. StepsAs c (Up p.number now (part_fault sync p.fault)) before before (of_part (Some o)) out) (sym (gone_outcome c ws b.answers nothing))
              (subst P (sym s.is) (by_why s.part s.leases (not_waiting w.relays.topology w.net sync p s.part (ap (slice_get w.relays.topology.circuits) same ∙ known) none) same));
        }
      where
        by_why : (part : CircuitPart) (l : Leases) → (serves w.relays.topology p.circuit ≡ false) ⊎ ((serves w.relays.topology p.circuit ≡ true) × (slice_get (datagrams w.net p.circuit dir.Up) p.number ≡ None)) → p.circuit ≡ c
            → StepsAs c (Up p.number now (part_fault sync p.fault)) (world_state w c part l) (world_state w c part l) outcome.Gone out
        by_why part l (inl off) same = up_off c w part l out (ap (serves w.relays.topology) (sym same) ∙ off) empty p.number now (part_fault sync p.fault)
        by_why part l (inr on) same =
            up_gone c w part l p.number now (part_fault sync p.fault) out (ap (serves w.relays.topology) (sym same) ∙ on.0) (ap (λ n. slice_get (datagrams w.net n dir.Up) p.number) (sym same) ∙ on.1) empty

    part_moves : (c : ℕ) (p : BatchPart) (before : CircuitState) → part_of c ps ≡ Some p → slice_get (states w) c ≡ Some before
        → Moved c (Some (Up p.number now (part_fault sync p.fault))) before (states new) (of_part (Some (outcome_for c ws b.answers))) out
    part_moves c p before its there = by (f p) refl where
      by : (slot : Option Waiting) → f p ≡ slot → Moved c (Some (Up p.number now (part_fault sync p.fault))) before (states new) (of_part (Some (outcome_for c ws b.answers))) out
      by None none = gone_moves c p before its none there
      by (Some x) waits =
          let place = its_place f keeps c ps p x its waits in
          let same : x.circuit ≡ c = keeps p x waits ∙ of_its_circuit c ps p its in
          let P : ℕ → Type 0 = λ n. slice_get (states w) n ≡ Some before → Moved n (Some (Up p.number now (part_fault sync p.fault))) before (states new) (of_part (Some (outcome_for n ws b.answers))) out in
          subst P same (waiting_moves c p its out empty place.index x place.at waits before) there

    moves : (c : ℕ) (before : CircuitState) → slice_get (states w) c ≡ Some before → Moved c (seen_part now sync (part_of c ps)) before (states new) (of_part (outcome_of c ps outcomes)) out
    moves c before there = by (part_of c ps) refl where
      by : (slot : Option BatchPart) → part_of c ps ≡ slot → Moved c (seen_part now sync slot) before (states new) (of_part (outcome_of c ps outcomes)) out
      by None none = record { after = before; is = stays_there c before there (unnamed_waits f keeps c ps (no_part f keeps c ps none)); by = refl }
      by (Some p) its = subst (λ o. Moved c (Some (Up p.number now (part_fault sync p.fault))) before (states new) o out) (sym (its_outcome_is c p its)) (part_moves c p before its there)

    -- ---- the step

    count : length (states new) ≡ length (states w)
    count =
        let size = whole new ∙ ap length parts_stay in
        ap (λ parts. length (each_state (world_state new) parts (leases_now new))) parts_stay ∙ state_count (world_state new) w.server.topology.circuits (leases_now new) size
        ∙ sym (state_count (world_state w) w.server.topology.circuits (leases_now w) (whole w))

    is_gone : (c : ℕ) → is_named c ps ≡ true → length (states w) ≤ c → of_part (outcome_of c ps outcomes) ≡ outcome.Gone
    is_gone c named past =
        let p = has_part c ps named in
        let same = of_its_circuit c ps p.0 p.1 in
        let far : length w.relays.topology.circuits ≤ p.0.circuit = omega (arith, past, states_count w b.is, b.is.count, same) in
        let none = no_circuit w.relays.topology w.net sync p.0 (past_end w.relays.topology.circuits p.0.circuit far) in
        its_outcome_is c p.0 p.1 ∙ ap (λ o. of_part (Some o)) (gone_outcome c ws b.answers (none_waits f keeps c ps p.0 parts_apart p.1 none))

  -- of the event itself
  pub batch_steps : (lent : Bor (List BatchPart)) (out : List ℕ) → ps ≡ lent.now → out ≡ [] → (v : Event) → v ≡ event.Batch now sync lent → Steps v (states w) (states new) (outcome.Batched outcomes) out
  batch_steps lent out parts empty v is =
      let o = outcome.Batched outcomes in
      subst (λ u. Steps u (states w) (states new) o out) (sym is)
      (steps_of (event.Batch now sync lent) (states w) (states new) o out (count out empty)
      (λ c before there.
      let P : List BatchPart → Type 0 = λ parts. Moved c (if is_batch parts then seen_part now sync (part_of c parts) else None) before (states new) (of_part (outcome_of c parts outcomes)) out in
      let Q : Bool → Type 0 = λ z. Moved c (if z then seen_part now sync (part_of c ps) else None) before (states new) (of_part (outcome_of c ps outcomes)) out in
      subst P parts (subst Q (sym b.batch) (moves out empty c before there)))
      (record {
        away = λ c blind. refl;
        gone = λ c named far. absurd cc;
        ticked = λ moment tick. absurd cc;
        restarted = λ restart. absurd cc;
        reloaded = λ k reload. absurd cc;
        stray = λ stray. absurd cc;
      })
      (λ given its.
      let same : ps ≡ given = parts ∙ same_Some lent.now given its in
      record {
        gone = λ c batch named past. subst (λ ps. of_part (outcome_of c ps outcomes) ≡ outcome.Gone) parts (is_gone out empty c (ap (is_named c) same ∙ named) past);
        no_batch = λ none. absurd (truth (is_batch given) (ap is_batch (sym same) ∙ b.batch) none);
        listed = λ batch i past below. b.past_are i (subst (λ (xs : List BatchPart). length xs ≤ i) (sym same) past) below;
        silent = (refl, empty);
      }))

  -- ---- what stays

  pub batch_spares : KeepsOthers w.relays.topology.circuits (device_of w.disk) (device_of new.disk)
  batch_spares =
      let stays = λ (r : ℕ) (spare : All (λ (one : CircuitPart). one.region ≢ r) w.relays.topology.circuits).
      spare_stays w b.is sync now ws all apart new b.answers b.law b.served r (λ c part there. all_at (λ (one : CircuitPart). one.region ≢ r) w.relays.topology.circuits c part spare there) in
      record { region = λ r spare. (stays r spare).0; failing_call = λ r spare. (stays r spare).1 }

  -- a reply comes to its circuit
  reply_returns : (j : ℕ) (x : Waiting) (at : slice_get ws j ≡ Some x) (part : CircuitPart) → slice_get w.relays.topology.circuits x.circuit ≡ Some part
      → (bytes : List ℕ) → its_answer (all j x at).the.part (as_alone w b.is sync now ws all apart x (all j x at)) x.fault (all j x at).the.leases.book ≡ Ok bytes
      → Returns w.relays.topology x.circuit part (record { proto = x.proto; bytes = bytes })
  reply_returns j x at part there bytes answer plans relay served its =
      let a = all j x at in
      let e = as_alone w b.is sync now ws all apart x a in
      let t = w.relays.topology in
      let same : a.the.part ≡ part = same_Some a.the.part part (sym a.the.there ∙ there) in
      let reply = reply_of a.the.part e (its_fails a.the.part e x.fault a.the.leases.book) a.the.leases.book bytes answer in
      let P : CircuitPart → Type 0 = λ own. slice_get t.relays relay ≡ Some own.relay → relayed_down_in (under t plans) relay (listen t a.datagram.proto) bytes ≡ for_circuit x.circuit (relayed_down own a.datagram.proto bytes) in
      let Q : Proto → Type 0 = λ proto. relayed_down_in (under t plans) relay (listen t proto) bytes ≡ for_circuit x.circuit (relayed_down part proto bytes) in
      subst Q (sym a.proto) (subst P same (λ its.
      b.comes (under t plans) relay x.circuit a.the.part e bytes reply.book a.the.there served (b.is.sound.ids x.circuit a.the.part a.the.there) its (is_part_at w b.is x.circuit a.the.part a.the.there)
      (subst AreBytes (ap bytes_in a.kept) (b.bytes j x at))
      (each_at (IsFor t x.circuit a.the.part) (datagrams w.net x.circuit dir.Up) x.number a.datagram (b.is.addressed x.circuit a.the.part a.the.there) a.kept plans now served)
      reply.answer (λ six. b.is.sound.listens_differ)) its)

  its_returned : (j : ℕ) (x : Waiting) (at : slice_get ws j ≡ Some x) (part : CircuitPart) → slice_get w.relays.topology.circuits x.circuit ≡ Some part
      → Each (Returns w.relays.topology x.circuit part) (datagrams w.net x.circuit dir.Down) → Each (Returns w.relays.topology x.circuit part) (datagrams new.net x.circuit dir.Down)
  its_returned j x at part there old = by (its_answer a.the.part e x.fault a.the.leases.book) refl where
    a : IsWaitingAt w sync x
    a = all j x at

    e : DeliveryValue
    e = as_alone w b.is sync now ws all apart x a

    given : slice_get b.answers j ≡ Some (its_answer a.the.part e x.fault a.the.leases.book)
    given = (served_part w b.is sync now ws all apart new b.answers b.law b.served j x at).answer

    R : Datagram → Type 0
    R = Returns w.relays.topology x.circuit part

    by : (r : Result (List ℕ) Discard) → its_answer a.the.part e x.fault a.the.leases.book ≡ r → Each R (datagrams new.net x.circuit dir.Down)
    by (Ok bytes) is =
        each_newest R w.net.quota (record { proto = x.proto; bytes = bytes }) (datagrams w.net x.circuit dir.Down) (datagrams new.net x.circuit dir.Down)
        (b.downs x.circuit ∙ its_downs w.net.quota ws b.answers j x (Ok bytes) (datagrams w.net x.circuit dir.Down) apart at (given ∙ ap Some is)) (reply_returns j x at part there bytes is) old
    by (Err why) is =
        each_same R (datagrams w.net x.circuit dir.Down) (datagrams new.net x.circuit dir.Down)
        (b.downs x.circuit ∙ its_downs w.net.quota ws b.answers j x (Err why) (datagrams w.net x.circuit dir.Down) apart at (given ∙ ap Some is)) old

  returned : (c : ℕ) (part : CircuitPart) → slice_get w.relays.topology.circuits c ≡ Some part → Each (Returns w.relays.topology c part) (datagrams new.net c dir.Down)
  returned c part there = by (is_waiting c ws) refl where
    old : Each (Returns w.relays.topology c part) (datagrams w.net c dir.Down)
    old = b.is.returned c part there

    by : (z : Bool) → is_waiting c ws ≡ z → Each (Returns w.relays.topology c part) (datagrams new.net c dir.Down)
    by false none = each_same (Returns w.relays.topology c part) (datagrams w.net c dir.Down) (datagrams new.net c dir.Down) (downs_stay c none) old
    by true waits =
        let r = one_waits c ws waits in
        subst (λ n. slice_get w.relays.topology.circuits n ≡ Some part → Each (Returns w.relays.topology n part) (datagrams w.net n dir.Down) → Each (Returns w.relays.topology n part) (datagrams new.net n dir.Down)) r.its
        (λ there old. its_returned r.index r.waiting r.at part there old) there old

  pub batch_world : IsWorld new
  batch_world =
      still_world w new b.is topology b.served.topology b.circuits b.served.count b.served.ready
      (λ c part there. each_same (IsFor w.relays.topology c part) (datagrams w.net c dir.Up) (datagrams new.net c dir.Up) (b.ups c) (b.is.addressed c part there)) returned
