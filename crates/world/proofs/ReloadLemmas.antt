-- What a reload does to the state of each circuit.
use Rattle.std.proofs.Common.{[], ◌≡◌, ℕ, Bool, true, false, List, length, refl, sym, ap, subst, ◌∙◌, arith}
use Rattle.std.specs.Prelude.{◌&&◌, not, if◌then◌else◌, nat_lt, Some, None, slice_get, slice_index, slice_index_or}
use Rattle.std.proofs.lemmas.Option.{slice_get_within, get_or_from_slice_get}
use Rattle.std.proofs.lemmas.Bool.{ltb-false}
use borrow.Author.Tests.{ltb-true}
use Rattle.config.specs.CircuitPart.{CircuitPart}
use Rattle.config.specs.Membership.{IsMembership, MembershipValue, has}
use Rattle.config.specs.Topology.{Topology, reloaded, serves}
use Rattle.circuit_server.specs.Leases.{Leases, turned}
use Rattle.dispatch.specs.Regions.{HasRegions}
use Rattle.dispatch.specs.ServerValue.{AreReady}
use Rattle.lease_disk.specs.Model.{ModelDiskValue}
use Rattle.lease_disk.specs.Model as disk
use Rattle.lossy_net.specs.Net.{Datagram, datagrams}
use Rattle.lossy_net.specs.declared.dir.Dir.{Dir}
use Rattle.lossy_net.specs.declared.dir.Dir.TheVariants as dir
use Rattle.world.specs.Alone.{setup_of, Setup, Alone, Done, alone_step}
use Rattle.world.specs.Alone as alone
use Rattle.world.specs.Headline.{CircuitState, MovesRest}
use Rattle.events.specs.Seen.{Turn, turn_to}
use Rattle.world.specs.StepsAs.{AllTurn, MovesBy, turns_off, StepsAs, Each, IsFor, Returns, IsWorldOf, IsWorld}
use Rattle.world.specs.World.{WorldValue, each_state, world_state, states}
use Rattle.world.proofs.ShownLemmas.{holds, holds_off, holds_on}
use Rattle.world.proofs.StateLemmas.{is_state, is_there, leases_now, past_end, state_at, state_count}
use Rattle.events.specs.declared.outcome.Outcome.TheVariants as outcome
use Rattle.world.proofs.WorldLemmas.{known_step, steps_by, shows_as, whole, all_at}

turn_is : (setup : Setup) (a : Alone) (on : Bool) → alone_step setup (Turn on) a ≡ record { effect = Done; next = alone.turned on a }
unfolding alone_step
turn_is setup a on = refl

-- A plan that there is comes into force: the network loses what it kept of each circuit that turns off, and so do their
-- servers their offers.
pub record IsReloading (w new : WorldValue) (plan : ℕ) : Type 0 where
  pub there : nat_lt plan w.relays.topology.plans.count ≡ true
  pub topology : new.relays.topology ≡ reloaded plan w.relays.topology
  pub served : new.server.topology ≡ reloaded plan w.server.topology
  pub discarded : new.relays.discarded ≡ w.relays.discarded
  pub disk : new.disk ≡ w.disk
  pub quota : new.net.quota ≡ w.net.quota
  pub count : length new.net.circuits ≡ length w.net.circuits
  pub queues : (c : ℕ) (way : Dir) → datagrams new.net c way ≡ (if turns_off w.relays.topology plan c then [] else datagrams w.net c way)
  pub size : length (leases_now new) ≡ length (leases_now w)
  pub leases : (c : ℕ) (l : Leases) → slice_get (leases_now w) c ≡ Some l
      → slice_get (leases_now new) c ≡ Some (turned (serves w.server.topology c) (serves new.server.topology c) l)

module _ (w new : WorldValue) (plan : ℕ) (is : IsWorld w) (r : IsReloading w new plan) (out : List ℕ) (empty : out ≡ []) where
  abbrev t : Topology
  t = w.relays.topology

  -- whether a circuit is served from now on
  abbrev served_later : ℕ → Bool
  served_later c = has t.plans plan c

  abbrev in_force : Bool → MembershipValue
  in_force there = if there then record t.plans { plan = plan } else t.plans

  is_served_later : (c : ℕ) → serves new.relays.topology c ≡ served_later c
  is_served_later c = ap (λ v. serves v c) r.topology ∙ ap (λ there. has (in_force there) (in_force there).plan c) r.there

  setup_stays : (c : ℕ) (p : CircuitPart) → setup_of new.net.quota p (has new.relays.topology.plans 0 c) ≡ setup_of w.net.quota p (has t.plans 0 c)
  setup_stays c p =
      (λ i. setup_of (r.quota i) p (has (r.topology i).plans 0 c)) ∙ ap (λ there. setup_of w.net.quota p (has (in_force there) 0 c)) r.there

  plans_stay : (c : ℕ) → slice_index_or new.relays.topology.plans.members c [] ≡ slice_index_or t.plans.members c []
  plans_stay c = ap (λ (v : Topology). slice_index_or v.plans.members c []) r.topology ∙ ap (λ there. slice_index_or (in_force there).members c []) r.there

  -- by whether it was served, and whether it is
  abbrev queue : Bool → Bool → ℕ → Dir → List Datagram
  queue old now c way = if old && not now then [] else datagrams w.net c way

  turned_leases : (c : ℕ) (l : Leases) → turned (serves w.server.topology c) (serves new.server.topology c) l ≡ turned (serves t c) (served_later c) l
  turned_leases c l = λ i. turned (serves (is.served i) c) (its_server i) l where
    its_server : serves new.server.topology c ≡ served_later c
    its_server = ap (λ v. serves v c) r.served ∙ ap (λ v. serves (reloaded plan v) c) is.served ∙ ap (λ there. has (in_force there) (in_force there).plan c) r.there

  its_rest : (c : ℕ) (p : CircuitPart) (on : Bool) (l after : Leases) → MovesRest (Turn on) (world_state w c p l) (world_state new c p after)
  its_rest c p on l after = record {
    discarded = ap (λ (counts : List ℕ). slice_index counts c) r.discarded;
    failing_call = λ none. ap (λ d. disk.failing_call_of d p.region) r.disk ∙ none;
    region = tt;
  }

  turn_off : (c : ℕ) (p : CircuitPart) (l : Leases) → serves t c ≡ true → served_later c ≡ false → StepsAs c (Turn false) (world_state w c p l) (world_state new c p (turned true false l)) outcome.Done out
  turn_off c p l on off =
      let was = world_state w c p l in
      let gone = world_state new c p (turned true false l) in
      steps_by c (Turn false) was gone outcome.Done out Done (refl, empty) (λ a shown.
      known_step was.setup (Turn false) a Done gone _ (turn_is was.setup a false) refl
      (shows_as gone was.setup (alone.turned false a) [] [] (setup_stays c p) (is_served_later c ∙ off)
      (r.queues c dir.Up ∙ (λ i. queue (on i) (off i) c dir.Up)) (r.queues c dir.Down ∙ (λ i. queue (on i) (off i) c dir.Down)) (holds_off l a (holds was was.setup a shown))))
      (λ a shown nothing. ap (λ d. disk.disk_region d p.region) r.disk) (plans_stay c) (is_served_later c ∙ off) (its_rest c p false l (turned true false l))

  turn_on : (c : ℕ) (p : CircuitPart) (l : Leases) → serves t c ≡ false → served_later c ≡ true → StepsAs c (Turn true) (world_state w c p l) (world_state new c p (turned false true l)) outcome.Done out
  turn_on c p l off on =
      let was = world_state w c p l in
      let back = world_state new c p (turned false true l) in
      steps_by c (Turn true) was back outcome.Done out Done (refl, empty) (λ a shown.
      known_step was.setup (Turn true) a Done back _ (turn_is was.setup a true) refl
      (shows_as back was.setup (alone.turned true a) a.up a.down (setup_stays c p) (is_served_later c ∙ on)
      (r.queues c dir.Up ∙ (λ i. queue (off i) (on i) c dir.Up) ∙ shown.up) (r.queues c dir.Down ∙ (λ i. queue (off i) (on i) c dir.Down) ∙ shown.down) (holds_on l a (holds was was.setup a shown))))
      (λ a shown nothing. ap (λ d. disk.disk_region d p.region) r.disk) (plans_stay c) (is_served_later c ∙ on) (its_rest c p true l (turned false true l))

  stays : (c : ℕ) (p : CircuitPart) (l : Leases) (b : Bool) → serves t c ≡ b → served_later c ≡ b → (n : Leases) → n ≡ l → world_state new c p n ≡ world_state w c p l
  stays c p l b was now n same =
      let kept : (way : Dir) → datagrams new.net c way ≡ datagrams w.net c way = λ way. r.queues c way ∙ (λ i. queue (was i) (now i) c way) ∙ neither b way in
      λ i. record {
        setup = setup_stays c p i;
        plans = plans_stay c i;
        on = (is_served_later c ∙ now ∙ sym was) i;
        up = kept dir.Up i;
        down = kept dir.Down i;
        discarded = slice_index (r.discarded i) c;
        leases = same i;
        region = disk.disk_region (r.disk i) p.region;
        failing_call = disk.failing_call_of (r.disk i) p.region;
      }
    where
      neither : (b : Bool) (way : Dir) → queue b b c way ≡ datagrams w.net c way
      neither true way = refl
      neither false way = refl

  moves_by : (c : ℕ) (p : CircuitPart) (l : Leases) (old now : Bool) → serves t c ≡ old → served_later c ≡ now → MovesBy c (turn_to old now) (world_state w c p l) (world_state new c p (turned old now l)) outcome.Done out
  moves_by c p l true false was is = turn_off c p l was is
  moves_by c p l false true was is = turn_on c p l was is
  moves_by c p l true true was is = stays c p l true was is l refl
  moves_by c p l false false was is = stays c p l false was is l refl

  circuits_stay : new.server.topology.circuits ≡ w.server.topology.circuits
  circuits_stay = ap (λ (v : Topology). v.circuits) r.served

  pub all_turn : AllTurn served_later (states w) (states new) outcome.Done out
  all_turn = record { count = count; each = each } where
    count : length (states new) ≡ length (states w)
    count =
        ap (λ ps. length (each_state (world_state new) ps (leases_now new))) circuits_stay ∙ state_count (world_state new) w.server.topology.circuits (leases_now new) (r.size ∙ whole w)
        ∙ sym (state_count (world_state w) w.server.topology.circuits (leases_now w) (whole w))

    each : (c : ℕ) (p : CircuitState) → slice_get (states w) c ≡ Some p → (q : CircuitState) × (slice_get (states new) c ≡ Some q) × MovesBy c (turn_to p.on (served_later c)) p q outcome.Done out
    each c p at =
        let its = is_state (world_state w) w.server.topology.circuits (leases_now w) c p at in
        let after = turned (serves t c) (served_later c) its.leases in
        let P : CircuitState → Type 0 = λ old. MovesBy c (turn_to old.on (served_later c)) old (world_state new c its.part after) outcome.Done out in (
          world_state new c its.part after,
          ap (λ ps. slice_get (each_state (world_state new) ps (leases_now new)) c) circuits_stay
              ∙ state_at (world_state new) w.server.topology.circuits (leases_now new) c its.part after its.there (r.leases c its.leases its.its ∙ ap Some (turned_leases c its.leases)),
          subst P (sym its.is) (moves_by c its.part its.leases (serves t c) (served_later c) refl refl),
        )

  -- which plan each circuit's plans say
  pub has_next : (c : ℕ) (p : CircuitState) → slice_get (states w) c ≡ Some p → slice_get p.plans plan ≡ Some (served_later c)
  has_next c p at =
      let its = is_state (world_state w) w.server.topology.circuits (leases_now w) c p at in
      let row = slice_index_or t.plans.members c [] in
      let within = slice_get_within w.server.topology.circuits c its.part its.there in
      let one = is_there t.plans.members c (omega (arith, within, is.sound.plans.each_circuit, ap (λ (v : Topology). length v.circuits) is.served)) in
      let its_row : row ≡ one.0 = get_or_from_slice_get t.plans.members c one.0 [] one.1 in
      let long : length one.0 ≡ t.plans.count = all_at (λ (row : List Bool). length row ≡ t.plans.count) t.plans.members c one.0 is.sound.plans.each_plan one.1 in
      let there = is_there row plan (omega (arith, ap length its_row, long, ltb-true plan t.plans.count r.there)) in
      ap (λ (s : CircuitState). slice_get s.plans plan) its.is ∙ there.1 ∙ ap Some (sym (get_or_from_slice_get row plan there.0 false there.1))

  pub still_reloaded : AreReady (disk.disk_region new.disk) new.server → IsWorld new
  still_reloaded ready = subst (λ v. IsWorldOf v new) (sym r.topology) (record {
    sound = record {
      few_relays = is.sound.few_relays;
      few_circuits = is.sound.few_circuits;
      parts = is.sound.parts;
      listens_differ = is.sound.listens_differ;
      listens = is.sound.listens;
      relay = is.sound.relay;
      ids = is.sound.ids;
      regions = is.sound.regions;
      plans = membership (nat_lt plan t.plans.count) refl;
    };
    served = r.served ∙ ap (reloaded plan) is.served;
    count = r.count ∙ is.count;
    regions = subst (HasRegions t.circuits) (ap (λ (d : ModelDiskValue). length d.regions) (sym r.disk)) is.regions;
    ready = ready;
    addressed = λ c part there. kept (IsFor t c part) c dir.Up (is.addressed c part there);
    returned = λ c part there. kept (Returns t c part) c dir.Down (is.returned c part there);
  })
    where
      membership : (there : Bool) → nat_lt plan t.plans.count ≡ there → IsMembership (length t.circuits) (in_force there)
      membership true there = record { few = is.sound.plans.few; there = ltb-true plan t.plans.count there; each_circuit = is.sound.plans.each_circuit; each_plan = is.sound.plans.each_plan }
      membership false there = is.sound.plans

      fewer : (P : Datagram → Type 0) (off : Bool) (ds : List Datagram) → Each P ds → Each P (if off then [] else ds)
      fewer P true ds all = tt
      fewer P false ds all = all

      kept : (P : Datagram → Type 0) (c : ℕ) (way : Dir) → Each P (datagrams w.net c way) → Each P (datagrams new.net c way)
      kept P c way all = subst (Each P) (sym (r.queues c way)) (fewer P (turns_off t plan c) (datagrams w.net c way) all)

-- where there is no such plan, no circuit's plans say it
pub no_next : (w : WorldValue) → IsWorld w → (plan : ℕ) → nat_lt plan w.relays.topology.plans.count ≡ false
    → (c : ℕ) (p : CircuitState) → slice_get (states w) c ≡ Some p → slice_get p.plans plan ≡ None
no_next w is plan none c p at =
    let m = w.relays.topology.plans in
    let its = is_state (world_state w) w.server.topology.circuits (leases_now w) c p at in
    let within = slice_get_within w.server.topology.circuits c its.part its.there in
    let one = is_there m.members c (omega (arith, within, is.sound.plans.each_circuit, ap (λ (v : Topology). length v.circuits) is.served)) in
    let its_row : slice_index_or m.members c [] ≡ one.0 = get_or_from_slice_get m.members c one.0 [] one.1 in
    let long : length one.0 ≡ m.count = all_at (λ (row : List Bool). length row ≡ m.count) m.members c one.0 is.sound.plans.each_plan one.1 in
    ap (λ (s : CircuitState). slice_get s.plans plan) its.is
    ∙ past_end (slice_index_or m.members c []) plan (omega (arith, ap length its_row, long, ltb-false plan m.count none))
