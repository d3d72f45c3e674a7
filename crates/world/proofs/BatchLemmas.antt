-- What a batch makes of each circuit of a world: of one whose part waits for the server what its datagram makes of it alone,
-- and of every other one nothing.
use Rattle.std.proofs.Common.{◌≡◌, ◌≢◌, ℕ, zero, suc, ◌⊎◌, inl, inr, Bool, true, false, List, [], ◌∷◌, take, refl, sym, ap, subst, ◌∙◌, arith, eq-eqb, ne_eqb}
use Rattle.std.specs.Prelude.{◌==◌, ◌&&◌, ◌||◌, if◌then◌else◌, not, Option, Some, None, option_map, Result, Ok, Err, slice_get}
use Rattle.std.proofs.lemmas.Bool.{eqb-true}
use Rattle.std.proofs.lemmas.Option.{same_Some, slice_get_within, slice_get-map}
use Rattle.types.specs.Delivery.{DeliveryValue}
use Rattle.types.specs.declared.discard.Discard.{Discard}
use Rattle.types.specs.declared.discard.Discard.TheVariants.{DiskFault, BatchTwice}
use Rattle.config.specs.CircuitPart.{CircuitPart}
use Rattle.config.specs.Topology.{Topology, serves}
use Rattle.requests.specs.Addressee.{addressee}
use Rattle.circuit_server.specs.Answered.{Answered, answered, circuit_saves}
use Rattle.circuit_server.specs.Leases.{Leases, after_datagram, after_saving, served_leases}
use Rattle.circuit_server.specs.Server.{Book, Served, served}
use Rattle.dispatch.specs.Batch.{batch_fault, comes_again, is_named}
use Rattle.dispatch.specs.Received.{Received, addressee_saves, drop_all, received, received_leases, received_saves}
use Rattle.dispatch.specs.ServerValue.{books_in}
use Rattle.lease_disk.specs.Device.{is_in}
use Rattle.lease_disk.specs.Model.{failing_call_of, disk_region}
use Rattle.lease_disk.specs.Region.{effective}
use Rattle.lossy_net.specs.Net.{Datagram, NetValue, datagrams}
use Rattle.lossy_net.specs.declared.dir.Dir.TheVariants as dir
use Rattle.events.specs.Batch.{part_fault}
use Rattle.events.specs.Seen.{Up}
use Rattle.events.specs.declared.batch.BatchPart.{BatchPart}
use Rattle.world.specs.Alone.{book_writes, delivery_of, setup_of}
use Rattle.world.specs.Batch.{AreServed, all_delivered, all_faults, all_saves, bytes_in, delivered, faults_after, regions_of, waiting_at, waiting_of}
use Rattle.world.specs.StepsAs.{IsFor, IsWorld}
use Rattle.world.specs.World.{WorldValue}
use Rattle.world.specs.declared.world.batch.Waiting.{Waiting}
use Rattle.world.proofs.BatchParts.{AreApart, elsewhere_waits, first_of_its, is_waiting, same_waiting, truth}
use Rattle.world.proofs.BatchSaves.{AreAddressed, IsOwn, MeetsEach, addressed_by, fault_stays, in_saves, is_shared, its_sync, named_before, named_is, out_of_saves, part_effective, part_is_own, saves_are, saves_by, saves_of}
use Rattle.world.proofs.ServedLemmas.{OneOf, leases_are, none_saved, received_is, saves_own}
use Rattle.world.proofs.ShownLemmas.{its_answer}
use Rattle.world.proofs.StateLemmas.{get_set, leases_now}
use Rattle.world.proofs.WorldLemmas.{TheCircuit, each_at, the_circuit}

-- ---- a part that waits

record Waits (t : Topology) (net : NetValue) (sync : ℕ) (p : BatchPart) (x : Waiting) : Type 0 where
  part : CircuitPart
  datagram : Datagram
  on : serves t p.circuit ≡ true
  there : slice_get t.circuits p.circuit ≡ Some part
  kept : slice_get (datagrams net p.circuit dir.Up) p.number ≡ Some datagram
  is : x ≡ record { circuit = p.circuit; number = p.number; proto = datagram.proto; source = part.relay; region = part.region; fault = part_fault sync p.fault }

waits : (t : Topology) (net : NetValue) (sync : ℕ) (p : BatchPart) (x : Waiting) → waiting_of t net sync p ≡ Some x → Waits t net sync p x
waits t net sync p x h = by (serves t p.circuit) (slice_get t.circuits p.circuit) (slice_get (datagrams net p.circuit dir.Up) p.number) refl refl refl h where
  by : (b : Bool) (part : Option CircuitPart) (d : Option Datagram) → serves t p.circuit ≡ b → slice_get t.circuits p.circuit ≡ part → slice_get (datagrams net p.circuit dir.Up) p.number ≡ d
      → (if b then waiting_at sync p part d else None) ≡ Some x → Waits t net sync p x
  by false part d on there kept h = absurd cc
  by true None d on there kept h = absurd cc
  by true (Some part) None on there kept h = absurd cc
  by true (Some part) (Some d) on there kept h = record { part = part; datagram = d; on = on; there = there; kept = kept; is = sym (same_Some _ x h) }

pub of_its_part : (t : Topology) (net : NetValue) (sync : ℕ) (p : BatchPart) (x : Waiting) → waiting_of t net sync p ≡ Some x → x.circuit ≡ p.circuit
of_its_part t net sync p x h = ap (λ (y : Waiting). y.circuit) (waits t net sync p x h).is

pub seen_alike : (t : Topology) (net : NetValue) (sync now : ℕ) (p : BatchPart) (x : Waiting) → waiting_of t net sync p ≡ Some x → Up x.number now x.fault ≡ Up p.number now (part_fault sync p.fault)
seen_alike t net sync now p x h = ap (λ (y : Waiting). Up y.number now y.fault) (waits t net sync p x h).is

pub no_circuit : (t : Topology) (net : NetValue) (sync : ℕ) (p : BatchPart) → slice_get t.circuits p.circuit ≡ None → waiting_of t net sync p ≡ None
no_circuit t net sync p none = (λ i. if serves t p.circuit then waiting_at sync p (none i) (slice_get (datagrams net p.circuit dir.Up) p.number) else None) ∙ by (serves t p.circuit) where
  nothing : Option Waiting
  nothing = None

  by : (b : Bool) → (if b then nothing else nothing) ≡ nothing
  by true = refl
  by false = refl

-- a part that does not wait, of a circuit that is there: it is off, or there is no such datagram
pub not_waiting : (t : Topology) (net : NetValue) (sync : ℕ) (p : BatchPart) (part : CircuitPart) → slice_get t.circuits p.circuit ≡ Some part → waiting_of t net sync p ≡ None
    → (serves t p.circuit ≡ false) ⊎ ((serves t p.circuit ≡ true) × (slice_get (datagrams net p.circuit dir.Up) p.number ≡ None))
not_waiting t net sync p part there h = by (serves t p.circuit) (slice_get (datagrams net p.circuit dir.Up) p.number) refl refl ((λ i. if serves t p.circuit then waiting_at sync p (sym there i) (slice_get (datagrams net p.circuit dir.Up) p.number) else None) ∙ h) where
  by : (b : Bool) (d : Option Datagram) → serves t p.circuit ≡ b → slice_get (datagrams net p.circuit dir.Up) p.number ≡ d → (if b then waiting_at sync p (Some part) d else None) ≡ None
      → (serves t p.circuit ≡ false) ⊎ ((serves t p.circuit ≡ true) × (slice_get (datagrams net p.circuit dir.Up) p.number ≡ None))
  by false d on kept h = inl on
  by true None on kept h = inr (on, kept)
  by true (Some d) on kept h = absurd cc

-- the circuit, its datagram and its fault
pub record IsWaitingAt (w : WorldValue) (sync : ℕ) (x : Waiting) : Type 0 where
  pub the : TheCircuit w x.circuit
  pub on : serves w.relays.topology x.circuit ≡ true
  pub datagram : Datagram
  pub kept : slice_get (datagrams w.net x.circuit dir.Up) x.number ≡ Some datagram
  pub proto : x.proto ≡ datagram.proto
  pub source : x.source ≡ the.part.relay
  pub region : x.region ≡ the.part.region
  pub fault : ℕ
  pub fault_is : x.fault ≡ part_fault sync fault

pub waits_at : (w : WorldValue) → IsWorld w → (sync : ℕ) (p : BatchPart) (x : Waiting) → waiting_of w.relays.topology w.net sync p ≡ Some x → IsWaitingAt w sync x
waits_at w is sync p x h =
    let v = waits w.relays.topology w.net sync p x h in
    let within = slice_get_within w.relays.topology.circuits p.circuit v.part v.there in
    let the = the_circuit w is p.circuit (omega (arith, within, is.count)) in
    subst (IsWaitingAt w sync) (sym v.is) (record {
      the = record { part = v.part; leases = the.leases; there = v.there; served = ap (λ (t : Topology). slice_get t.circuits p.circuit) is.served ∙ v.there; its = the.its; book = the.book };
      on = v.on;
      datagram = v.datagram;
      kept = v.kept;
      proto = refl;
      source = refl;
      region = refl;
      fault = p.fault;
      fault_is = refl;
    })

-- ---- an answer and leases, where the fault counts only for what is saved

module _ (part : CircuitPart) (e : DeliveryValue) where
  pub same_answer : (book : Option Book) (v : Bool) (fault : ℕ) → (circuit_saves e (Some part) (Some book) ≡ Some part.region → v ≡ not (effective 6 fault == 0))
      → (answered part e v book).answer ≡ its_answer part e fault book
  same_answer None v fault saves = refl
  same_answer (Some b) v fault saves = by done.is_kept refl where
    done : Served
    done = served part e b

    fails : Bool
    fails = not (effective 6 fault == 0)

    answer : Bool → Result (List ℕ) Discard
    answer z = (if◌then◌else◌ {A = Answered} z (record { answer = Err DiskFault; book = None }) (record { answer = done.answer; book = Some done.book })).answer

    by : (k : Bool) → done.is_kept ≡ k → answer (done.is_kept && v) ≡ answer (done.is_kept && (done.is_kept && fails))
    by true is = (λ i. answer (is i && v)) ∙ ap answer (saves (ap (λ k. if k then Some part.region else None) is)) ∙ sym (λ i. answer (is i && (is i && fails)))
    by false is = (λ i. answer (is i && v)) ∙ sym (λ i. answer (is i && (is i && fails)))

  pub same_leases : (book : Option Book) (l : Leases) (given fault : ℕ) → (circuit_saves e (Some part) (Some book) ≡ Some part.region → given ≡ fault) → served_leases part e given l book ≡ served_leases part e fault l book
  same_leases None l given fault saves = refl
  same_leases (Some b) l given fault saves = by done.is_kept refl where
    done : Served
    done = served part e b

    by : (k : Bool) → done.is_kept ≡ k → served_leases part e given l (Some b) ≡ served_leases part e fault l (Some b)
    by true is = ap (λ n. served_leases part e n l (Some b)) (saves (ap (λ k. if k then Some part.region else None) is))
    by false is =
        ap (λ (k : Bool). if k then after_saving (effective 6 given) done.book l else record l { book = Some done.book }) is
        ∙ sym (ap (λ (k : Bool). if k then after_saving (effective 6 fault) done.book l else record l { book = Some done.book }) is)

-- ---- the faults that were set

keeps_fault : (ws : List Waiting) (faults : ℕ → ℕ) (r v : ℕ) → ((j : ℕ) (y : Waiting) → slice_get ws j ≡ Some y → y.region ≡ r → y.fault ≡ v) → faults r ≡ v → faults_after true ws faults r ≡ v
keeps_fault [] faults r v each is = is
keeps_fault (y ∷ ws) faults r v each is = keeps_fault ws _ r v (λ j z at. each (suc j) z at) (by (r == y.region) refl) where
  by : (b : Bool) → (r == y.region) ≡ b → (if b then y.fault else faults r) ≡ v
  by true same = each 0 y refl (sym (eqb-true r y.region same))
  by false other = is

pub fault_set : (ws : List Waiting) (faults : ℕ → ℕ) (j : ℕ) (x : Waiting) → ((i : ℕ) (y : Waiting) → slice_get ws i ≡ Some y → y.region ≡ x.region → y.fault ≡ x.fault) → slice_get ws j ≡ Some x
    → faults_after true ws faults x.region ≡ x.fault
fault_set [] faults j x each at = absurd cc
fault_set (y ∷ ws) faults zero x each at =
    let same = same_Some y x at in
    keeps_fault ws _ x.region x.fault (λ i z at. each (suc i) z at)
    (ap (λ b. if b then y.fault else faults x.region) (eq-eqb x.region y.region (ap (λ (z : Waiting). z.region) (sym same))) ∙ ap (λ (z : Waiting). z.fault) same)
fault_set (y ∷ ws) faults (suc j) x each at = fault_set ws _ j x (λ i z at. each (suc i) z at) at

-- the region of each is one of theirs
pub in_regions : (ws : List Waiting) (j : ℕ) (x : Waiting) → slice_get ws j ≡ Some x → is_in (regions_of ws) x.region ≡ true
in_regions [] j x at = absurd cc
in_regions (y ∷ ws) zero x at = ap (λ b. b || is_in (regions_of ws) x.region) (eq-eqb y.region x.region (ap (λ (z : Waiting). z.region) (same_Some y x at)))
in_regions (y ∷ ws) (suc j) x at = by (y.region == x.region) (in_regions ws j x at) where
  by : (b : Bool) → is_in (regions_of ws) x.region ≡ true → (b || is_in (regions_of ws) x.region) ≡ true
  by true there = refl
  by false there = there

no_region : (ws : List Waiting) (r : ℕ) → ((j : ℕ) (y : Waiting) → slice_get ws j ≡ Some y → y.region ≡ r → ⊥) → is_in (regions_of ws) r ≡ false
no_region [] r none = refl
no_region (x ∷ ws) r none = λ i. ne_eqb x.region r (none 0 x refl) i || no_region ws r (λ j y at. none (suc j) y at) i

-- ---- the parts that wait, in a world

module _ (w : WorldValue) (is : IsWorld w) (sync now : ℕ) (ws : List Waiting) (all : (j : ℕ) (x : Waiting) → slice_get ws j ≡ Some x → IsWaitingAt w sync x) (apart : AreApart ws) where
  abbrev deliver : Waiting → DeliveryValue
  deliver x = delivered w.net now x

  abbrev topology : Topology
  topology = w.server.topology

  abbrev books : List (Option Book)
  books = books_in w.server

  module _ (x : Waiting) (a : IsWaitingAt w sync x) where
    abbrev pub as_alone : DeliveryValue
    as_alone = delivery_of a.the.part now a.datagram

    pub its_delivery : deliver x ≡ as_alone
    its_delivery = λ i. record { proto = a.proto i; source = a.source i; moment = now; bytes = bytes_in (a.kept i) }

    pub found : addressee topology as_alone ≡ Ok x.circuit
    found = ap (λ t. addressee t as_alone) is.served ∙ each_at (IsFor w.relays.topology x.circuit a.the.part) (datagrams w.net x.circuit dir.Up) x.number a.datagram (is.addressed x.circuit a.the.part a.the.there) a.kept w.relays.topology.plans now a.on

    its_addressee : addressee topology (deliver x) ≡ Ok x.circuit
    its_addressee = ap (addressee topology) its_delivery ∙ found

    its_saves : saves_of topology books deliver x ≡ circuit_saves as_alone (Some a.the.part) (Some a.the.leases.book)
    its_saves =
        ap (λ e. received_saves topology e books) its_delivery ∙ ap (addressee_saves topology as_alone books) found ∙ (λ i. circuit_saves as_alone (a.the.served i) (a.the.book i))

    saves_region : (r : ℕ) → saves_of topology books deliver x ≡ Some r → r ≡ x.region
    saves_region r saves = subst (OneOf a.the.part.region) (sym its_saves ∙ saves) (saves_own a.the.part as_alone a.the.leases.book) ∙ sym a.region

  -- no two have one region
  one_region : (i j : ℕ) (x y : Waiting) → slice_get ws i ≡ Some x → slice_get ws j ≡ Some y → x.region ≡ y.region → x ≡ y
  one_region i j x y at_x at_y same =
      let a = all i x at_x in
      let b = all j y at_y in
      same_waiting ws i j x y apart at_x at_y (is.sound.regions x.circuit y.circuit a.the.part b.the.part a.the.there b.the.there (sym a.region ∙ same ∙ b.region))

  addressed : AreAddressed topology books deliver ws
  addressed = addressed_by topology books deliver ws (λ j x at. its_addressee x (all j x at))

  all_saves_are : all_saves w.net now ws w.server ≡ saves_by topology books deliver ws
  all_saves_are = saves_are topology books deliver ws addressed apart

  abbrev faults : ℕ → ℕ
  faults = faults_after true ws (failing_call_of w.disk)

  its_fault : (j : ℕ) (x : Waiting) → slice_get ws j ≡ Some x → faults x.region ≡ x.fault
  its_fault j x at = fault_set ws (failing_call_of w.disk) j x (λ i y at_y same. ap (λ (z : Waiting). z.fault) (one_region i j y x at_y at same)) at

  own_fault : (j : ℕ) (x : Waiting) → slice_get ws j ≡ Some x → (r : ℕ) → saves_of topology books deliver x ≡ Some r → IsOwn (its_sync sync) (faults r)
  own_fault j x at r saves =
      let a = all j x at in
      subst (IsOwn (its_sync sync)) (sym (ap faults (saves_region x a r saves) ∙ its_fault j x at ∙ a.fault_is)) (part_is_own sync a.fault)

  -- a region of which nothing is saved
  pub unsaved : (r : ℕ) → ((j : ℕ) (y : Waiting) → slice_get ws j ≡ Some y → saves_of topology books deliver y ≡ Some r → ⊥) → is_in (all_saves w.net now ws w.server) r ≡ false
  unsaved r none = ap (λ saves. is_in saves r) all_saves_are ∙ out_of_saves topology books deliver ws r none

  module _ (new : WorldValue) (answers : List (Result (List ℕ) Discard)) (law : MeetsEach) (served : AreServed now ws w.net w.server new.server w.disk new.disk answers) where
    -- a part that waits: the answer and the leases are those of its circuit alone
    pub record IsServedPart (j : ℕ) (x : Waiting) (a : IsWaitingAt w sync x) : Type 0 where
      pub answer : slice_get answers j ≡ Some (its_answer a.the.part (as_alone x a) x.fault a.the.leases.book)
      pub leases : slice_get (leases_now new) x.circuit ≡ Some (after_datagram a.the.part (as_alone x a) x.fault a.the.leases)
      pub quiet : (quota : ℕ) (begins : Bool) → book_writes (setup_of quota a.the.part begins) now a.datagram a.the.leases.book ≡ false → disk_region new.disk a.the.part.region ≡ disk_region w.disk a.the.part.region

    module _ (j : ℕ) (x : Waiting) (at : slice_get ws j ≡ Some x) where
      abbrev a : IsWaitingAt w sync x
      a = all j x at

      abbrev region : ℕ
      region = a.the.part.region

      -- where it saves, its region's fault is its own
      saved_fault : circuit_saves (as_alone x a) (Some a.the.part) (Some a.the.leases.book) ≡ Some region → all_faults w.net now ws w.server w.disk region ≡ x.fault
      saved_fault saves =
          let there = in_saves topology books deliver ws j x region at (its_saves x a ∙ saves) in
          ap (λ all. batch_fault faults all region) all_saves_are
          ∙ fault_stays topology books deliver law (its_sync sync) (is_shared sync) faults ws own_fault region there ∙ ap faults (sym a.region) ∙ its_fault j x at

      saved_fails : circuit_saves (as_alone x a) (Some a.the.part) (Some a.the.leases.book) ≡ Some region → served.fails region ≡ not (effective 6 x.fault == 0)
      saved_fails saves =
          let there = ap (λ all. is_in all region) all_saves_are ∙ in_saves topology books deliver ws j x region at (its_saves x a ∙ saves) in
          served.failing region ∙ (λ i. there i && not (saved_fault saves i == 0))
          ∙ ap (λ n. not (n == 0)) (sym (ap (effective 6) a.fault_is ∙ part_effective sync a.fault ∙ sym a.fault_is))

      delivered_at : slice_get (all_delivered w.net now ws) j ≡ Some (deliver x)
      delivered_at = slice_get-map deliver ws j ∙ ap (option_map deliver) at

      first : is_named topology (take j (all_delivered w.net now ws)) x.circuit ≡ false
      first = named_before topology books deliver ws addressed j x.circuit ∙ first_of_its ws j x apart at

      pub served_part : IsServedPart j x a
      served_part = record {
        answer =
            served.answered.each j (deliver x) delivered_at
            ∙ ap (λ r. Some (if comes_again topology (take j (all_delivered w.net now ws)) r then drop_all BatchTwice books else received topology (deliver x) served.fails books).answer) (its_addressee x a)
            ∙ ap (λ b. Some (if b then drop_all BatchTwice books else received topology (deliver x) served.fails books).answer) first
            ∙ ap (λ e. Some (received topology e served.fails books).answer) (its_delivery x a)
            ∙ ap (λ (r : Received). Some r.answer) (received_is topology a.the.part (as_alone x a) books (leases_now w) (all_faults w.net now ws w.server w.disk) x.circuit a.the.leases (found x a) a.the.served a.the.book a.the.its served.fails)
            ∙ ap Some (same_answer a.the.part (as_alone x a) a.the.leases.book (served.fails region) x.fault saved_fails);
        leases =
            served.leases.leases j x.circuit (deliver x) delivered_at (its_addressee x a) first
            ∙ ap (λ e. slice_get (received_leases topology e (all_faults w.net now ws w.server w.disk) (leases_now w)) x.circuit) (its_delivery x a)
            ∙ ap (λ ls. slice_get ls x.circuit) (leases_are topology a.the.part (as_alone x a) books (leases_now w) (all_faults w.net now ws w.server w.disk) x.circuit a.the.leases (found x a) a.the.served a.the.book a.the.its)
            ∙ get_set (leases_now w) x.circuit _ (slice_get_within (leases_now w) x.circuit a.the.leases a.the.its)
            ∙ ap Some (same_leases a.the.part (as_alone x a) a.the.leases.book a.the.leases (all_faults w.net now ws w.server w.disk region) x.fault saved_fault);
        quiet = λ quota begins nothing.
            let none : saves_of topology books deliver x ≡ None = its_saves x a ∙ none_saved (setup_of quota a.the.part begins) now a.datagram a.the.leases.book nothing in
            served.region region (unsaved region (λ i y at_y saves.
            let same : y ≡ x = one_region i j y x at_y at (sym (saves_region y (all i y at_y) region saves) ∙ sym a.region) in
            let h : None ≡ Some region = sym none ∙ ap (saves_of topology books deliver) (sym same) ∙ saves in absurd cc));
      }

    -- a circuit of which nothing waits
    module _ (c : ℕ) (part : CircuitPart) (there : slice_get w.relays.topology.circuits c ≡ Some part) (none : is_waiting c ws ≡ false) where
      not_its : (j : ℕ) (y : Waiting) → slice_get ws j ≡ Some y → y.region ≡ part.region → ⊥
      not_its j y at same =
          let b = all j y at in
          let circuit = is.sound.regions y.circuit c b.the.part part b.the.there there (sym b.region ∙ same) in
          truth (y.circuit == c) (eq-eqb y.circuit c circuit) (elsewhere_waits ws c j y none at)

      not_saved : is_in (all_saves w.net now ws w.server) part.region ≡ false
      not_saved = unsaved part.region (λ j y at saves. not_its j y at (sym (saves_region y (all j y at) part.region saves)))

      pub region_stays : disk_region new.disk part.region ≡ disk_region w.disk part.region
      region_stays = served.region part.region not_saved

      pub failing_call_stays : failing_call_of new.disk part.region ≡ failing_call_of w.disk part.region
      failing_call_stays = served.failing_call part.region not_saved (no_region ws part.region not_its)

    pub leases_stay : (c : ℕ) → is_waiting c ws ≡ false → slice_get (leases_now new) c ≡ slice_get (leases_now w) c
    leases_stay c none = served.leases.others c (named_is topology books deliver ws addressed c ∙ none)

    -- and a region of no circuit
    pub spare_stays : (r : ℕ) → ((c : ℕ) (part : CircuitPart) → slice_get w.relays.topology.circuits c ≡ Some part → part.region ≢ r) → (disk_region new.disk r ≡ disk_region w.disk r) × (failing_call_of new.disk r ≡ failing_call_of w.disk r)
    spare_stays r spare =
        let other : (j : ℕ) (y : Waiting) → slice_get ws j ≡ Some y → y.region ≡ r → ⊥ = λ j y at same. spare y.circuit (all j y at).the.part (all j y at).the.there (sym (all j y at).region ∙ same) in
        let out = unsaved r (λ j y at saves. other j y at (sym (saves_region y (all j y at) r saves))) in
        (served.region r out, served.failing_call r out (no_region ws r other))
