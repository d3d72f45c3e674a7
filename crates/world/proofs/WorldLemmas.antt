-- What an event does to the state of its circuit, as the circuit's machine's step.
use Rattle.std.proofs.Common.{[], ◌≡◌, ◌≢◌, ℕ, zero, suc, ◌+◌, ◌<◌, ◌≤◌, Bool, true, false, eqb, ltb, List, ◌∷◌, length, map, take, set, refl, sym, ap, subst, subst₂, ◌∙◌, arith}
use Rattle.std.specs.Prelude.{All, ◌&&◌, if◌then◌else◌, min, Option, Some, None, Result, Ok, Err, option_map, slice_get, slice_index, slice_index_or}
use Rattle.std.specs.Result.{is_err}
use Rattle.std.proofs.lemmas.Option.{slice_get-map, slice_get_within, get_or_from_slice_get, same_Some}
use Rattle.std.proofs.lemmas.Bool.{eqb-true, eqb-false, ltb-false}
use borrow.Author.Tests.{ltb-true}
use Rattle.std.proofs.lemmas.List.{length-map, get_or-set_other, get_or-set_same}
use Rattle.std.proofs.lemmas.List.Elements.{All-get_or}
use Rattle.types.specs.declared.dest.Dest.{Dest}
use Rattle.types.specs.declared.dest.Proto.{Proto}
use Rattle.types.specs.declared.discard.Discard.{Discard}
use Rattle.config.specs.CircuitPart.{CircuitPart, IsPart}
use Rattle.config.specs.Membership.{has}
use Rattle.config.specs.Topology.{Topology, is_relay, serves}
use Rattle.config.proofs.TopologyLemmas.{is_known}
use Rattle.circuit_server.specs.Leases.{IsRegionMigrated, Leases, counts_of, after_datagram, after_restart, after_tick, formats_of, found_leases, restarts_of}
use Rattle.dispatch.specs.Regions.{HasRegions}
use Rattle.circuit_server.specs.Answered.{IsAnswer}
use Rattle.circuit_server.specs.Server.{book_at, served}
use Rattle.circuit_server.specs.CircuitServerValue.{CircuitServerValue, server_book, leases_of, part_of}
use Rattle.dispatch.specs.ServerValue.{AreReady, books_in, circuits_in}
use Rattle.dispatch.proofs.WithStates.{parts_with, size_with}
use Rattle.lease_disk.specs.Crash.{crashed}
use Rattle.lease_disk.specs.Model as disk
use Rattle.lease_disk.specs.Region.{Region}
use Rattle.lossy_net.specs.Net.{Datagram, NetValue, datagrams}
use Rattle.lossy_net.specs.declared.dir.Dir.{Dir}
use Rattle.lossy_net.specs.declared.dir.Dir.TheVariants as dir
use Rattle.relay.specs.SentFrame.{SentFrame}
use Rattle.relay.specs.Relays.{CircuitFrame, RelaysValue, for_circuit, one_more, relayed_up, relayed_down}
use Rattle.world.specs.Alone.{if_on, setup_of, Setup, Alone, Effect, Step, Dropped, Gone, SentUp, SentDown, Framed, Done, alone_step, frame_step, up_step, answer_step, down_step, reply_step, delivery_of, book_writes, up_writes, writes}
use Rattle.world.specs.Alone as alone
use Rattle.world.specs.Headline.{CircuitState, IsOutcome, MovesRest, Shows, is_on_at, plans_at}
use Rattle.events.specs.declared.comeback.Comeback.{Comeback}
use Rattle.events.specs.Seen.{Seen, Frame, Up, Down, Tick, Restart}
use Rattle.world.specs.StepsAs.{on_by, StepsAs, Each, IsFor, Returns, IsWorldOf, IsWorld, AllMove}
use Rattle.world.specs.World.{WorldValue, each_state, world_state, states}
use Rattle.world.proofs.ShownLemmas.{Holds, after_up, down_stays, found_crashed, holds, holds_datagram, holds_restart, holds_tick, its_answer, on_is, on_stays, restart_downs, restart_on, restart_ups, up_stays, up_step_is}
use Rattle.world.proofs.StateLemmas.{is_on_in, is_state, is_there, leases_now, past_end, plans_in, state_at, state_count}
use Rattle.events.specs.declared.outcome.Outcome.{Outcome}
use Rattle.events.specs.declared.outcome.Outcome.TheVariants as outcome

-- ---- each datagram of a list

pub each_at : (P : Datagram → Type 0) (ds : List Datagram) (j : ℕ) (d : Datagram) → Each P ds → slice_get ds j ≡ Some d → P d
each_at P [] j d all there = absurd cc
each_at P (x ∷ ds) zero d all there = let same : x ≡ d = cc in subst P same all.0
each_at P (x ∷ ds) (suc j) d all there = each_at P ds j d all.1 there

each_take : (P : Datagram → Type 0) (n : ℕ) (ds : List Datagram) → Each P ds → Each P (take n ds)
each_take P zero ds all = tt
each_take P (suc n) [] all = tt
each_take P (suc n) (d ∷ ds) all = (all.0, each_take P n ds all.1)

-- a list with a newest datagram more, and one that stayed
pub each_newest : (P : Datagram → Type 0) (quota : ℕ) (d : Datagram) (old new : List Datagram) → new ≡ take quota (d ∷ old) → P d → Each P old → Each P new
each_newest P quota d old new is one all = subst (Each P) (sym is) (each_take P quota (d ∷ old) (one, all))

pub each_same : (P : Datagram → Type 0) (old new : List Datagram) → new ≡ old → Each P old → Each P new
each_same P old new same all = subst (Each P) (sym same) all

-- ---- a step that is known

pub record MachineSteps (setup : Setup) (s : Seen) (a : Alone) (effect : Effect) (q : CircuitState) : Type 0 where
  effect_is : (alone_step setup s a).effect ≡ effect
  next : Shows q setup (alone_step setup s a).next

pub known_step : (setup : Setup) (s : Seen) (a : Alone) (effect : Effect) (q : CircuitState) (step : Step) → alone_step setup s a ≡ step → step.effect ≡ effect → Shows q setup step.next
    → MachineSteps setup s a effect q
known_step setup s a effect q step is effect_is shows =
    let P : Step → Type 0 = λ st. Shows q setup st.next in
    record { effect_is = ap (λ st. st.effect) is ∙ effect_is; next = subst P (sym is) shows }

pub steps_by : (k : ℕ) (s : Seen) (p q : CircuitState) (o : Outcome) (out : List ℕ) (effect : Effect) → IsOutcome k effect o out
    → ((a : Alone) → Shows p p.setup a → MachineSteps p.setup s a effect q)
    → ((a : Alone) → Shows p p.setup a → writes p.setup s a ≡ false → q.region ≡ p.region) → q.plans ≡ p.plans → q.on ≡ on_by s p.on → MovesRest s p q → StepsAs k s p q o out
steps_by k s p q o out effect outcome each quiet plans turns rest = record {
  effect = effect;
  outcome = outcome;
  effect_is = λ setup a shown. (full setup a shown).effect_is;
  next = λ setup a shown. (full setup a shown).next;
  quiet = λ setup a shown nothing. quietly setup a shown nothing;
  plans = plans;
  turns = turns;
  rest = rest;
}
  where
    full : (setup : Setup) (a : Alone) → Shows p setup a → MachineSteps setup s a effect q
    full setup a shown =
        let P : Setup → Type 0 = λ u. Shows p u a → MachineSteps u s a effect q in
        subst P shown.setup_is (each a) shown

    quietly : (setup : Setup) (a : Alone) → Shows p setup a → writes setup s a ≡ false → q.region ≡ p.region
    quietly setup a shown nothing =
        let P : Setup → Type 0 = λ u. Shows p u a → writes u s a ≡ false → q.region ≡ p.region in
        subst P shown.setup_is (quiet a) shown nothing

pub shows_as : (q : CircuitState) (setup : Setup) (a : Alone) (ups downs : List Datagram) → q.setup ≡ setup → q.on ≡ a.on → q.up ≡ ups → q.down ≡ downs → Holds q.leases a
    → Shows q setup (record a { up = ups; down = downs })
shows_as q setup a ups downs set on up down h = record { setup_is = set; on = on; up = up; down = down; book = h.book; restarts = h.restarts; formats = h.formats; sure = h.sure }

-- ---- a frame at the relay

-- what a circuit's state has of the configuration, where that stays
module _ (k : ℕ) (w new : WorldValue) (p : CircuitPart) (topology : new.relays.topology ≡ w.relays.topology) where
  same_setup : new.net.quota ≡ w.net.quota → setup_of new.net.quota p (has new.relays.topology.plans 0 k) ≡ setup_of w.net.quota p (has w.relays.topology.plans 0 k)
  same_setup quota = λ i. setup_of (quota i) p (has (topology i).plans 0 k)

  same_plans : slice_index_or new.relays.topology.plans.members k [] ≡ slice_index_or w.relays.topology.plans.members k []
  same_plans = λ i. slice_index_or (topology i).plans.members k []

  same_on : serves new.relays.topology k ≡ serves w.relays.topology k
  same_on = λ i. serves (topology i) k

frame_is : (setup : Setup) (a : Alone) (proto : Proto) (frame : List ℕ) (r : Result (List ℕ) Discard) → a.on ≡ true → relayed_up setup.part proto frame ≡ r
    → alone_step setup (Frame proto frame) a ≡ frame_step setup a proto r
unfolding alone_step
frame_is setup a proto frame r on is = on_is a (frame_step setup a proto (relayed_up setup.part proto frame)) on ∙ ap (frame_step setup a proto) is

pub frame_sent : (k : ℕ) (w new : WorldValue) (p : CircuitPart) (l : Leases) (proto : Proto) (frame bytes : List ℕ) (len : ℕ) (out : List ℕ)
    → new.relays.topology ≡ w.relays.topology → serves w.relays.topology k ≡ true
    → relayed_up p proto frame ≡ Ok bytes → new.disk ≡ w.disk → new.net.quota ≡ w.net.quota
    → datagrams new.net k dir.Up ≡ take w.net.quota (record { proto = proto; bytes = bytes } ∷ datagrams w.net k dir.Up)
    → datagrams new.net k dir.Down ≡ datagrams w.net k dir.Down → len ≡ length bytes → out ≡ []
    → slice_index new.relays.discarded k ≡ slice_index w.relays.discarded k
    → StepsAs k (Frame proto frame) (world_state w k p l) (world_state new k p l) (outcome.SentUp len) out
frame_sent k w new p l proto frame bytes len out topology on sent same quota kept others size empty counts =
    let was = world_state w k p l in
    let is = world_state new k p l in
    let newest : List Datagram → List Datagram = λ ds. take w.net.quota (record { proto = proto; bytes = bytes } ∷ ds) in
    let rest : MovesRest (Frame proto frame) was is = record {
      discarded = counts ∙ sym (λ i. if on i && is_err (sent i) then min 4294967295 (was.discarded + 1) else was.discarded);
      failing_call = λ none. ap (λ d. disk.failing_call_of d p.region) same ∙ none;
      region = tt;
    } in
    steps_by k (Frame proto frame) was is (outcome.SentUp len) out (SentUp len) (refl, empty) (λ a shown.
    known_step was.setup (Frame proto frame) a (SentUp len) is _ (frame_is was.setup a proto frame (Ok bytes) (sym shown.on ∙ on) sent) (ap SentUp (sym size))
    (shows_as is was.setup a (newest a.up) a.down (same_setup k w new p topology quota) (same_on k w new p topology ∙ shown.on) (kept ∙ ap newest shown.up) (others ∙ shown.down) (holds was was.setup a shown)))
    (λ a shown nothing. ap (λ d. disk.disk_region d p.region) same) (same_plans k w new p topology) (same_on k w new p topology) rest

pub frame_dropped : (k : ℕ) (w new : WorldValue) (p : CircuitPart) (l : Leases) (proto : Proto) (frame : List ℕ) (why : Discard) (out : List ℕ)
    → new.relays.topology ≡ w.relays.topology → serves w.relays.topology k ≡ true
    → relayed_up p proto frame ≡ Err why → new.disk ≡ w.disk → new.net ≡ w.net → out ≡ []
    → k < length w.relays.discarded → new.relays.discarded ≡ one_more k w.relays.discarded
    → StepsAs k (Frame proto frame) (world_state w k p l) (world_state new k p l) (outcome.Dropped why) out
frame_dropped k w new p l proto frame why out topology on dropped same net empty within counts =
    let was = world_state w k p l in
    let is = world_state new k p l in
    let one = ap (λ ds. slice_index ds k) counts ∙ get_or-set_same w.relays.discarded k (min 4294967295 (was.discarded + 1)) 0 within in
    let rest : MovesRest (Frame proto frame) was is = record {
      discarded = one ∙ sym (λ i. if on i && is_err (dropped i) then min 4294967295 (was.discarded + 1) else was.discarded);
      failing_call = λ none. ap (λ d. disk.failing_call_of d p.region) same ∙ none;
      region = tt;
    } in
    steps_by k (Frame proto frame) was is (outcome.Dropped why) out (Dropped why) (refl, empty) (λ a shown.
    known_step was.setup (Frame proto frame) a (Dropped why) is _ (frame_is was.setup a proto frame (Err why) (sym shown.on ∙ on) dropped) refl
    (shows_as is was.setup a a.up a.down (same_setup k w new p topology (ap (λ (n : NetValue). n.quota) net)) (same_on k w new p topology ∙ shown.on) (ap (λ n. datagrams n k dir.Up) net ∙ shown.up)
    (ap (λ n. datagrams n k dir.Down) net ∙ shown.down) (holds was was.setup a shown)))
    (λ a shown nothing. ap (λ d. disk.disk_region d p.region) same) (same_plans k w new p topology) (same_on k w new p topology) rest

-- ---- while a circuit is off

module _ (k : ℕ) (w : WorldValue) (p : CircuitPart) (l : Leases) (out : List ℕ) (off : serves w.relays.topology k ≡ false) (empty : out ≡ []) where
  off_is : (a : Alone) (step : Step) → a.on ≡ false → if_on a step ≡ record { effect = Gone; next = a }
  off_is a step off = ap (λ b. if b then step else record { effect = Gone; next = a }) off

  off_gone : (s : Seen) → on_by s false ≡ false → MovesRest s (world_state w k p l) (world_state w k p l) → ((setup : Setup) (a : Alone) → a.on ≡ false → alone_step setup s a ≡ record { effect = Gone; next = a })
      → StepsAs k s (world_state w k p l) (world_state w k p l) outcome.Gone out
  off_gone s keeps rest gone =
      let was = world_state w k p l in
      steps_by k s was was outcome.Gone out Gone (refl, empty) (λ a shown. known_step was.setup s a Gone was _ (gone was.setup a (sym shown.on ∙ off)) refl shown)
      (λ a shown nothing. refl) refl (off ∙ sym keeps ∙ ap (on_by s) (sym off)) rest

  pub frame_off : (proto : Proto) (frame : List ℕ) → StepsAs k (Frame proto frame) (world_state w k p l) (world_state w k p l) outcome.Gone out
  unfolding alone_step
  frame_off proto frame =
      let was = world_state w k p l in
      let uncounted = sym (λ i. if off i && is_err (relayed_up p proto frame) then min 4294967295 (was.discarded + 1) else was.discarded) in
      off_gone (Frame proto frame) refl (record { discarded = uncounted; failing_call = λ none. none; region = tt }) (λ setup a off. off_is a _ off)

  pub up_off : (j now fault : ℕ) → StepsAs k (Up j now fault) (world_state w k p l) (world_state w k p l) outcome.Gone out
  unfolding alone_step
  up_off j now fault = off_gone (Up j now fault) refl (record { discarded = refl; failing_call = λ none. none; region = tt }) (λ setup a off. off_is a _ off)

  pub down_off : (j : ℕ) → StepsAs k (Down j) (world_state w k p l) (world_state w k p l) outcome.Gone out
  unfolding alone_step
  down_off j = off_gone (Down j) refl (record { discarded = refl; failing_call = λ none. none; region = tt }) (λ setup a off. off_is a _ off)

-- ---- a datagram at the server

up_is : (setup : Setup) (a : Alone) (j now fault : ℕ) (d : Option Datagram) → a.on ≡ true → slice_get a.up j ≡ d → alone_step setup (Up j now fault) a ≡ up_step setup now fault a d
unfolding alone_step
up_is setup a j now fault d on is = on_is a (up_step setup now fault a (slice_get a.up j)) on ∙ ap (up_step setup now fault a) is

pub up_gone : (k : ℕ) (w : WorldValue) (p : CircuitPart) (l : Leases) (j now fault : ℕ) (out : List ℕ) → serves w.relays.topology k ≡ true → slice_get (datagrams w.net k dir.Up) j ≡ None → out ≡ []
    → StepsAs k (Up j now fault) (world_state w k p l) (world_state w k p l) outcome.Gone out
up_gone k w p l j now fault out on none empty =
    let was = world_state w k p l in
    steps_by k (Up j now fault) was was outcome.Gone out Gone (refl, empty) (λ a shown.
    known_step was.setup (Up j now fault) a Gone was _ (up_is was.setup a j now fault None (sym shown.on ∙ on) (ap (λ ds. slice_get ds j) (sym shown.up) ∙ none)) refl shown)
    (λ a shown nothing. refl) refl refl (record { discarded = refl; failing_call = λ none. none; region = tt })

pub is_reply : (r : Result (List ℕ) Discard) (out : List ℕ) → IsAnswer r (Ok tt) out → r ≡ Ok out
is_reply (Ok bytes) out h = ap Ok (sym h.1)
is_reply (Err why) out h = let e : Ok tt ≡ Err why = h.0 in absurd cc

is_drop : (r : Result (List ℕ) Discard) (why : Discard) (out : List ℕ) → IsAnswer r (Err why) out → (r ≡ Err why) × (out ≡ [])
is_drop (Ok bytes) why out h = let e : Err why ≡ Ok tt = h.0 in absurd cc
is_drop (Err other) why out h = let same : why ≡ other = let e : Err why ≡ Err other = h.0 in cc in (ap Err (sym same), h.1)

module _ (k : ℕ) (w new : WorldValue) (p : CircuitPart) (l : Leases) (j now fault : ℕ) (d : Datagram) (result : Result (Unit {0}) Discard) (reply : List ℕ)
    (there : slice_get (datagrams w.net k dir.Up) j ≡ Some d) (answer : IsAnswer (its_answer p (delivery_of p now d) fault l.book) result reply)
    (topology : new.relays.topology ≡ w.relays.topology) (on : serves w.relays.topology k ≡ true)
    (quota : new.net.quota ≡ w.net.quota) (ups : datagrams new.net k dir.Up ≡ datagrams w.net k dir.Up)
    (counts : slice_index new.relays.discarded k ≡ slice_index w.relays.discarded k) (cleared : disk.failing_call_of new.disk p.region ≡ 0)
    (stays : book_writes (setup_of w.net.quota p (has w.relays.topology.plans 0 k)) now d l.book ≡ false → disk.disk_region new.disk p.region ≡ disk.disk_region w.disk p.region) where
  abbrev was : CircuitState
  was = world_state w k p l

  abbrev is : CircuitState
  is = world_state new k p (after_datagram p (delivery_of p now d) fault l)

  abbrev next : Alone → Alone
  next a = after_up p (delivery_of p now d) fault a a.book

  -- the machine's step, where the answer is known
  its_step : (r : Result (List ℕ) Discard) → its_answer p (delivery_of p now d) fault l.book ≡ r → (a : Alone) → Shows was was.setup a
      → alone_step was.setup (Up j now fault) a ≡ answer_step was.setup (next a) d.proto r
  its_step r is_r a shown =
      up_step_is was.setup a j now fault d (sym shown.on ∙ on) (ap (λ ds. slice_get ds j) (sym shown.up) ∙ there)
      ∙ ap (answer_step was.setup (next a) d.proto) (ap (its_answer p (delivery_of p now d) fault) (sym shown.book) ∙ is_r)

  its_leases : (a : Alone) → Shows was was.setup a → Holds is.leases (next a)
  its_leases a shown = holds_datagram p (delivery_of p now d) fault l a (holds was was.setup a shown)

  its_ups : (a : Alone) → Shows was was.setup a → is.up ≡ (next a).up
  its_ups a shown = ups ∙ shown.up ∙ sym (up_stays p (delivery_of p now d) fault a a.book)

  its_region : (a : Alone) → Shows was was.setup a → writes was.setup (Up j now fault) a ≡ false → is.region ≡ was.region
  its_region a shown nothing =
      stays ((λ i. sym (sym shown.on ∙ on) i && up_writes was.setup now (shown.book i) (sym (ap (λ ds. slice_get ds j) (sym shown.up) ∙ there) i)) ∙ nothing)

  its_on : (a : Alone) → Shows was was.setup a → is.on ≡ (next a).on
  its_on a shown = same_on k w new p topology ∙ shown.on ∙ sym (on_stays p (delivery_of p now d) fault a a.book)

  its_rest : MovesRest (Up j now fault) was is
  its_rest = record { discarded = counts; failing_call = λ none. cleared; region = tt }

  pub reply_is : result ≡ Ok tt → its_answer p (delivery_of p now d) fault l.book ≡ Ok reply
  reply_is ok =
      let P : Result (Unit {0}) Discard → Type 0 = λ r. IsAnswer (its_answer p (delivery_of p now d) fault l.book) r reply in
      is_reply (its_answer p (delivery_of p now d) fault l.book) reply (subst P ok answer)

  pub up_sent : (len : ℕ) (out : List ℕ) → result ≡ Ok tt
      → datagrams new.net k dir.Down ≡ take w.net.quota (record { proto = d.proto; bytes = reply } ∷ datagrams w.net k dir.Down) → len ≡ length reply → out ≡ []
      → StepsAs k (Up j now fault) was is (outcome.SentDown len) out
  up_sent len out ok kept size empty =
      let newest : List Datagram → List Datagram = λ ds. take w.net.quota (record { proto = d.proto; bytes = reply } ∷ ds) in
      steps_by k (Up j now fault) was is (outcome.SentDown len) out (SentDown len) (refl, empty) (λ a shown.
      known_step was.setup (Up j now fault) a (SentDown len) is _ (its_step (Ok reply) (reply_is ok) a shown) (ap SentDown (sym size))
      (shows_as is was.setup (next a) (next a).up (newest (next a).down) (same_setup k w new p topology quota) (its_on a shown) (its_ups a shown)
      (kept ∙ ap newest (shown.down ∙ sym (down_stays p (delivery_of p now d) fault a a.book))) (its_leases a shown)))
      its_region (same_plans k w new p topology) (same_on k w new p topology) its_rest

  pub up_dropped : (why : Discard) → result ≡ Err why → datagrams new.net k dir.Down ≡ datagrams w.net k dir.Down
      → StepsAs k (Up j now fault) was is (outcome.Dropped why) reply
  up_dropped why err downs =
      let P : Result (Unit {0}) Discard → Type 0 = λ r. IsAnswer (its_answer p (delivery_of p now d) fault l.book) r reply in
      let dropped = is_drop (its_answer p (delivery_of p now d) fault l.book) why reply (subst P err answer) in
      steps_by k (Up j now fault) was is (outcome.Dropped why) reply (Dropped why) (refl, dropped.1) (λ a shown.
      known_step was.setup (Up j now fault) a (Dropped why) is _ (its_step (Err why) dropped.0 a shown) refl
      (shows_as is was.setup (next a) (next a).up (next a).down (same_setup k w new p topology quota) (its_on a shown) (its_ups a shown)
      (downs ∙ shown.down ∙ sym (down_stays p (delivery_of p now d) fault a a.book)) (its_leases a shown)))
      its_region (same_plans k w new p topology) (same_on k w new p topology) its_rest

-- ---- a datagram at the relay

down_is : (setup : Setup) (a : Alone) (j : ℕ) (d : Option Datagram) → a.on ≡ true → slice_get a.down j ≡ d → alone_step setup (Down j) a ≡ down_step setup a d
unfolding alone_step
down_is setup a j d on is = on_is a (down_step setup a (slice_get a.down j)) on ∙ ap (down_step setup a) is

pub down_gone : (k : ℕ) (w : WorldValue) (p : CircuitPart) (l : Leases) (j : ℕ) (out : List ℕ) → serves w.relays.topology k ≡ true → slice_get (datagrams w.net k dir.Down) j ≡ None → out ≡ []
    → StepsAs k (Down j) (world_state w k p l) (world_state w k p l) outcome.Gone out
down_gone k w p l j out on none empty =
    let was = world_state w k p l in
    steps_by k (Down j) was was outcome.Gone out Gone (refl, empty) (λ a shown.
    known_step was.setup (Down j) a Gone was _ (down_is was.setup a j None (sym shown.on ∙ on) (ap (λ ds. slice_get ds j) (sym shown.down) ∙ none)) refl shown)
    (λ a shown nothing. refl) refl refl (record { discarded = refl; failing_call = λ none. none; region = tt })

for_ok : (k : ℕ) (r : Result SentFrame Discard) (sent : CircuitFrame) → for_circuit k r ≡ Ok sent → (sent.circuit ≡ k) × (r ≡ Ok sent.frame)
for_ok k (Ok frame) sent h =
    let same : record { circuit = k; frame = frame } ≡ sent = cc in
    (ap (λ (s : CircuitFrame). s.circuit) (sym same), ap (λ (s : CircuitFrame). Ok s.frame) same)
for_ok k (Err why) sent h = absurd cc

for_err : (k : ℕ) (r : Result SentFrame Discard) (why : Discard) → for_circuit k r ≡ Err why → r ≡ Err why
for_err k (Ok frame) why h = absurd cc
for_err k (Err other) why h = let same : other ≡ why = cc in ap Err same

module _ (k : ℕ) (w : WorldValue) (p : CircuitPart) (l : Leases) (j : ℕ) (d : Datagram) (on : serves w.relays.topology k ≡ true) (there : slice_get (datagrams w.net k dir.Down) j ≡ Some d) where
  pub down_framed : (found : ℕ) (dest : Dest) (out : List ℕ) → for_circuit k (relayed_down p d.proto d.bytes) ≡ Ok (record { circuit = found; frame = record { dest = dest; bytes = out } })
      → StepsAs k (Down j) (world_state w k p l) (world_state w k p l) (outcome.Framed found dest) out
  down_framed found dest out result =
      let was = world_state w k p l in
      let sent : SentFrame = record { dest = dest; bytes = out } in
      let frame = for_ok k (relayed_down p d.proto d.bytes) (record { circuit = found; frame = sent }) result in
      steps_by k (Down j) was was (outcome.Framed found dest) out (Framed sent) (ap (λ c. outcome.Framed c dest) frame.0, refl) (λ a shown.
      known_step was.setup (Down j) a (Framed sent) was _
      (down_is was.setup a j (Some d) (sym shown.on ∙ on) (ap (λ ds. slice_get ds j) (sym shown.down) ∙ there) ∙ ap (reply_step a) frame.1) refl shown)
      (λ a shown nothing. refl) refl refl (record { discarded = refl; failing_call = λ none. none; region = tt })

  pub down_dropped : (why : Discard) (out : List ℕ) → for_circuit k (relayed_down p d.proto d.bytes) ≡ Err why → out ≡ []
      → StepsAs k (Down j) (world_state w k p l) (world_state w k p l) (outcome.Dropped why) out
  down_dropped why out result empty =
      let was = world_state w k p l in
      let dropped = for_err k (relayed_down p d.proto d.bytes) why result in
      steps_by k (Down j) was was (outcome.Dropped why) out (Dropped why) (refl, empty) (λ a shown.
      known_step was.setup (Down j) a (Dropped why) was _
      (down_is was.setup a j (Some d) (sym shown.on ∙ on) (ap (λ ds. slice_get ds j) (sym shown.down) ∙ there) ∙ ap (reply_step a) dropped) refl shown)
      (λ a shown nothing. refl) refl refl (record { discarded = refl; failing_call = λ none. none; region = tt })

-- ---- a moment

tick_is : (setup : Setup) (a : Alone) (now : ℕ) → alone_step setup (Tick now) a ≡ record { effect = Done; next = record a { book = option_map (book_at now) a.book } }
unfolding alone_step
tick_is setup a now = refl

pub tick_done : (k : ℕ) (w new : WorldValue) (p : CircuitPart) (l : Leases) (now : ℕ) (out : List ℕ) → new.relays ≡ w.relays → new.disk ≡ w.disk → new.net ≡ w.net → out ≡ []
    → StepsAs k (Tick now) (world_state w k p l) (world_state new k p (after_tick now l)) outcome.Done out
tick_done k w new p l now out relays same net empty =
    let topology = ap (λ (r : RelaysValue). r.topology) relays in
    let was = world_state w k p l in
    let is = world_state new k p (after_tick now l) in
    steps_by k (Tick now) was is outcome.Done out Done (refl, empty) (λ a shown.
    known_step was.setup (Tick now) a Done is _ (tick_is was.setup a now) refl
    (shows_as is was.setup (record a { book = option_map (book_at now) a.book }) a.up a.down (same_setup k w new p topology (ap (λ (n : NetValue). n.quota) net)) (same_on k w new p topology ∙ shown.on)
    (ap (λ n. datagrams n k dir.Up) net ∙ shown.up) (ap (λ n. datagrams n k dir.Down) net ∙ shown.down) (holds_tick now l a (holds was was.setup a shown))))
    (λ a shown nothing. ap (λ d. disk.disk_region d p.region) same) (same_plans k w new p topology) (same_on k w new p topology)
    (record { discarded = ap (λ (r : RelaysValue). slice_index r.discarded k) relays; failing_call = λ none. ap (λ d. disk.failing_call_of d p.region) same ∙ none; region = tt })

-- ---- a restart

restart_is : (setup : Setup) (a : Alone) (comeback : Comeback) → alone_step setup (Restart comeback) a ≡ record { effect = Done; next = alone.after_restart comeback.move_fault comeback.image a }
unfolding alone_step
restart_is setup a comeback = refl

pub restart_done : (k : ℕ) (w new : WorldValue) (p : CircuitPart) (l : Leases) (comeback : Comeback) (out : List ℕ) → new.relays ≡ w.relays → new.net ≡ w.net → out ≡ []
    → disk.failing_call_of new.disk p.region ≡ 0 → IsRegionMigrated (counts_of p) comeback.move_fault (crashed comeback.image (disk.disk_region w.disk p.region)) (disk.disk_region new.disk p.region)
    → StepsAs k (Restart comeback) (world_state w k p l) (world_state new k p (after_restart comeback.image comeback.move_fault l)) outcome.Done out
restart_done k w new p l comeback out relays net empty cleared brought =
    let topology = ap (λ (r : RelaysValue). r.topology) relays in
    let was = world_state w k p l in
    let fault = comeback.move_fault in
    let is = world_state new k p (after_restart comeback.image fault l) in
    steps_by k (Restart comeback) was is outcome.Done out Done (refl, empty) (λ a shown.
    let next = alone.after_restart comeback.move_fault comeback.image a in
    known_step was.setup (Restart comeback) a Done is _ (restart_is was.setup a comeback) refl
    (shows_as is was.setup next next.up next.down (same_setup k w new p topology (ap (λ (n : NetValue). n.quota) net))
    (same_on k w new p topology ∙ shown.on ∙ sym (restart_on fault comeback.image a))
    (ap (λ n. datagrams n k dir.Up) net ∙ shown.up ∙ sym (restart_ups fault comeback.image a)) (ap (λ n. datagrams n k dir.Down) net ∙ shown.down ∙ sym (restart_downs fault comeback.image a))
    (holds_restart fault comeback.image l a (holds was was.setup a shown))))
    (λ a shown nothing. absurd cc) (same_plans k w new p topology) (same_on k w new p topology)
    (record { discarded = ap (λ (r : RelaysValue). slice_index r.discarded k) relays; failing_call = λ none. cleared; region = brought })

-- ---- one circuit of a world

-- its part of the configuration, its book and its leases
pub record TheCircuit (w : WorldValue) (k : ℕ) : Type 0 where
  pub part : CircuitPart
  pub leases : Leases
  pub there : slice_get w.relays.topology.circuits k ≡ Some part
  pub served : slice_get w.server.topology.circuits k ≡ Some part
  pub its : slice_get (leases_now w) k ≡ Some leases
  pub book : slice_get (books_in w.server) k ≡ Some leases.book

pub whole : (w : WorldValue) → length (leases_now w) ≡ length w.server.topology.circuits
whole w = length-map (circuits_in w.server) (leases_of (disk.disk_region w.disk)) ∙ size_with w.server.topology.circuits w.server.states

pub states_count : (w : WorldValue) → IsWorld w → length (states w) ≡ length w.net.circuits
states_count w is = state_count (world_state w) w.server.topology.circuits (leases_now w) (whole w) ∙ ap (λ (t : Topology). length t.circuits) is.served ∙ sym is.count

or_past : {A : Type 0} (xs : List A) (n : ℕ) (default : A) → length xs ≤ n → slice_index_or xs n default ≡ default
or_past [] n default past = refl
or_past (x ∷ xs) zero default past = absurd (omega (arith, past))
or_past (x ∷ xs) (suc n) default past = or_past xs n default (omega (arith, past))

-- which plans have a circuit, and whether it is served, is what its state says
module _ (w : WorldValue) (is : IsWorld w) (c : ℕ) where
  abbrev its_plans : List Bool
  its_plans = slice_index_or w.relays.topology.plans.members c []

  by_state : (b : Bool) → ltb c (length (states w)) ≡ b → (plans_at c (states w) ≡ its_plans) × (is_on_at c (states w) ≡ serves w.relays.topology c)
  by_state true within =
      let here = is_there (states w) c (ltb-true c (length (states w)) within) in
      let state = is_state (world_state w) w.server.topology.circuits (leases_now w) c here.0 here.1 in
      (ap plans_in here.1 ∙ ap (λ (s : CircuitState). s.plans) state.is, ap is_on_in here.1 ∙ ap (λ (s : CircuitState). s.on) state.is)
  by_state false past =
      let far = ltb-false c (length (states w)) past in
      let none = past_end (states w) c far in
      let out_of : its_plans ≡ [] = or_past w.relays.topology.plans.members c [] (omega (arith, far, states_count w is, is.count, is.sound.plans.each_circuit)) in
      (ap plans_in none ∙ sym out_of, ap is_on_in none ∙ sym (ap (λ row. slice_index_or row w.relays.topology.plans.plan false) out_of))

  pub plans_are : plans_at c (states w) ≡ slice_index_or w.relays.topology.plans.members c []
  plans_are = (by_state (ltb c (length (states w))) refl).0

  pub on_is_served : is_on_at c (states w) ≡ serves w.relays.topology c
  on_is_served = (by_state (ltb c (length (states w))) refl).1

pub the_circuit : (w : WorldValue) → IsWorld w → (k : ℕ) → k < length w.net.circuits → TheCircuit w k
the_circuit w is k within =
    let circuits = circuits_in w.server in
    let size = size_with w.server.topology.circuits w.server.states in
    let one = is_there circuits k (omega (arith, within, is.count, size, ap (λ (t : Topology). length t.circuits) is.served)) in
    let served : slice_get w.server.topology.circuits k ≡ Some (part_of one.0) =
    ap (λ parts. slice_get parts k) (sym (parts_with w.server.topology.circuits w.server.states)) ∙ slice_get-map part_of circuits k ∙ ap (option_map part_of) one.1 in
    let leases = leases_of (disk.disk_region w.disk) in
    record {
      part = part_of one.0;
      leases = leases one.0;
      there = ap (λ (t : Topology). slice_get t.circuits k) (sym is.served) ∙ served;
      served = served;
      its = slice_get-map leases circuits k ∙ ap (option_map leases) one.1;
      book = slice_get-map server_book circuits k ∙ ap (option_map server_book) one.1;
    }

-- what a restart finds is in the circuit's region
pub restarts_at : (regions : ℕ → Region) (circuits : List CircuitServerValue) (c : ℕ) (part : CircuitPart) (l : Leases) → slice_get (map part_of circuits) c ≡ Some part
    → slice_get (map (leases_of regions) circuits) c ≡ Some l → l.restarts ≡ restarts_of part (regions part.region)
restarts_at regions [] c part l there its = absurd cc
restarts_at regions (x ∷ xs) zero part l there its =
    ap (λ (m : Leases). m.restarts) (sym (same_Some (leases_of regions x) l its)) ∙ ap (λ p. restarts_of p (regions p.region)) (same_Some (part_of x) part there)
restarts_at regions (x ∷ xs) (suc c) part l there its = restarts_at regions xs c part l there its

pub formats_at : (regions : ℕ → Region) (circuits : List CircuitServerValue) (c : ℕ) (part : CircuitPart) (l : Leases) → slice_get (map part_of circuits) c ≡ Some part
    → slice_get (map (leases_of regions) circuits) c ≡ Some l → l.is_new ≡ formats_of (regions part.region)
formats_at regions [] c part l there its = absurd cc
formats_at regions (x ∷ xs) zero part l there its =
    ap (λ (m : Leases). m.is_new) (sym (same_Some (leases_of regions x) l its)) ∙ ap (λ (p : CircuitPart). formats_of (regions p.region)) (same_Some (part_of x) part there)
formats_at regions (x ∷ xs) (suc c) part l there its = formats_at regions xs c part l there its

-- ---- what the network keeps of every circuit

module _ (Q : ℕ → CircuitPart → Datagram → Type 0) (circuits : List CircuitPart) (way : Dir) (old new : NetValue)
    (all : (c : ℕ) (part : CircuitPart) → slice_get circuits c ≡ Some part → Each (Q c part) (datagrams old c way)) where
  pub each_kept : ((c : ℕ) → datagrams new c way ≡ datagrams old c way) → (c : ℕ) (part : CircuitPart) → slice_get circuits c ≡ Some part → Each (Q c part) (datagrams new c way)
  each_kept same c part there = each_same (Q c part) (datagrams old c way) (datagrams new c way) (same c) (all c part there)

  pub each_sent : (k : ℕ) (d : Datagram) → datagrams new k way ≡ take old.quota (d ∷ datagrams old k way) → ((c : ℕ) → eqb k c ≡ false → datagrams new c way ≡ datagrams old c way)
      → ((part : CircuitPart) → slice_get circuits k ≡ Some part → Q k part d)
      → (c : ℕ) (part : CircuitPart) → slice_get circuits c ≡ Some part → Each (Q c part) (datagrams new c way)
  each_sent k d kept others one c part there = by (eqb k c) refl where
    by : (b : Bool) → eqb k c ≡ b → Each (Q c part) (datagrams new c way)
    by false other = each_same (Q c part) (datagrams old c way) (datagrams new c way) (others c other) (all c part there)
    by true same =
        let P : ℕ → Type 0 = λ n. slice_get circuits n ≡ Some part → Each (Q n part) (datagrams new n way) in
        subst P (eqb-true k c same) (λ at. each_newest (Q k part) old.quota d (datagrams old k way) (datagrams new k way) kept (one part at) (all k part at)) there

-- every list of the other direction stays
pub other_way : (k : ℕ) (way : Dir) (old new : NetValue) → datagrams new k way ≡ datagrams old k way → ((c : ℕ) → eqb k c ≡ false → datagrams new c way ≡ datagrams old c way)
    → (c : ℕ) → datagrams new c way ≡ datagrams old c way
other_way k way old new own others c = by (eqb k c) refl where
  by : (b : Bool) → eqb k c ≡ b → datagrams new c way ≡ datagrams old c way
  by false other = others c other
  by true same = let P : ℕ → Type 0 = λ n. datagrams new n way ≡ datagrams old n way in subst P (eqb-true k c same) own

-- ---- what the world keeps

pub still_world : (w new : WorldValue) → IsWorld w → new.relays.topology ≡ w.relays.topology → new.server.topology ≡ w.server.topology
    → length new.net.circuits ≡ length w.net.circuits → length new.disk.regions ≡ length w.disk.regions → AreReady (disk.disk_region new.disk) new.server
    → ((c : ℕ) (part : CircuitPart) → slice_get w.relays.topology.circuits c ≡ Some part → Each (IsFor w.relays.topology c part) (datagrams new.net c dir.Up))
    → ((c : ℕ) (part : CircuitPart) → slice_get w.relays.topology.circuits c ≡ Some part → Each (Returns w.relays.topology c part) (datagrams new.net c dir.Down))
    → IsWorld new
still_world w new is topology served count regions ready addressed returned =
    subst (λ t. IsWorldOf t new) (sym topology) (record {
      sound = is.sound;
      served = served ∙ is.served;
      count = count ∙ is.count;
      regions = subst (HasRegions w.relays.topology.circuits) (sym regions) is.regions;
      ready = ready;
      addressed = addressed;
      returned = returned;
    })

-- the server's circuits have their regions
pub has_regions : (w : WorldValue) → IsWorld w → HasRegions w.server.topology.circuits (length w.disk.regions)
has_regions w is = subst (λ (t : Topology). HasRegions t.circuits (length w.disk.regions)) (sym is.served) is.regions

pub all_at : {A : Type 0} (P : A → Type 0) (xs : List A) (n : ℕ) (x : A) → All P xs → slice_get xs n ≡ Some x → P x
all_at P xs n x all at = subst P (get_or_from_slice_get xs n x x at) (All-get_or P xs n x (slice_get_within xs n x at) all)

-- a circuit's relay is known
pub is_known_at : (w : WorldValue) → IsWorld w → (c : ℕ) (part : CircuitPart) → slice_get w.relays.topology.circuits c ≡ Some part → is_relay w.relays.topology part.relay ≡ true
is_known_at w is c part there = let relay = is.sound.relay c part there in is_known w.relays.topology relay.0 part.relay relay.1

-- and its part keeps what it needs of the rules
pub is_part_at : (w : WorldValue) → IsWorld w → (c : ℕ) (part : CircuitPart) → slice_get w.relays.topology.circuits c ≡ Some part → IsPart part
is_part_at w is c part there = all_at IsPart w.relays.topology.circuits c part is.sound.parts there

-- ---- a state that another circuit's event leaves

pub same_circuit : (w new : WorldValue) (c : ℕ) (p : CircuitPart) (l : Leases) → new.relays.topology ≡ w.relays.topology → new.net.quota ≡ w.net.quota → datagrams new.net c dir.Up ≡ datagrams w.net c dir.Up
    → datagrams new.net c dir.Down ≡ datagrams w.net c dir.Down → slice_index new.relays.discarded c ≡ slice_index w.relays.discarded c
    → disk.disk_region new.disk p.region ≡ disk.disk_region w.disk p.region → disk.failing_call_of new.disk p.region ≡ disk.failing_call_of w.disk p.region
    → world_state new c p l ≡ world_state w c p l
same_circuit w new c p l topology quota ups downs counts region failing_call =
    λ i. record { setup = same_setup c w new p topology quota i; plans = same_plans c w new p topology i; on = same_on c w new p topology i; up = ups i; down = downs i; discarded = counts i; leases = l; region = region i; failing_call = failing_call i }

-- only circuit k's counter is counted up
pub other_count : (k c : ℕ) (counts : List ℕ) → eqb k c ≡ false → slice_index (one_more k counts) c ≡ slice_index counts c
other_count k c counts other = get_or-set_other counts k c _ 0 (λ same. eqb-false k c other (sym same))

pub apart : (k c : ℕ) → eqb k c ≡ false → c ≢ k
apart k c other same = eqb-false k c other (sym same)

-- ---- an event that moves every circuit's state

all_move : (w new : WorldValue) (s : ℕ → Seen) (after : ℕ → Leases → Leases) (out : List ℕ) → new.server.topology.circuits ≡ w.server.topology.circuits → length (leases_now new) ≡ length w.server.topology.circuits
    → ((c : ℕ) (part : CircuitPart) (l : Leases) → slice_get w.server.topology.circuits c ≡ Some part → slice_get (leases_now w) c ≡ Some l → slice_get (leases_now new) c ≡ Some (after c l))
    → ((c : ℕ) (part : CircuitPart) (l : Leases) → slice_get w.server.topology.circuits c ≡ Some part → StepsAs c (s c) (world_state w c part l) (world_state new c part (after c l)) outcome.Done out)
    → AllMove s (states w) (states new) outcome.Done out
all_move w new s after out parts size now steps = record { count = count; each = λ c p at. each c p at } where
  with_parts : List CircuitPart → List CircuitState
  with_parts ps = each_state (world_state new) ps (leases_now new)

  count : length (states new) ≡ length (states w)
  count =
      ap (λ ps. length (each_state (world_state new) ps (leases_now new))) parts ∙ state_count (world_state new) w.server.topology.circuits (leases_now new) size
      ∙ sym (state_count (world_state w) w.server.topology.circuits (leases_now w) (whole w))

  each : (c : ℕ) (p : CircuitState) → slice_get (states w) c ≡ Some p → (q : CircuitState) × (slice_get (states new) c ≡ Some q) × StepsAs c (s c) p q outcome.Done out
  each c p at =
      let is = is_state (world_state w) w.server.topology.circuits (leases_now w) c p at in
      let next = after c is.leases in
      let P : CircuitState → Type 0 = λ old. StepsAs c (s c) old (world_state new c is.part next) outcome.Done out in (
        world_state new c is.part next,
        ap (λ ps. slice_get (each_state (world_state new) ps (leases_now new)) c) parts
            ∙ state_at (world_state new) w.server.topology.circuits (leases_now new) c is.part next is.there (now c is.part is.leases is.there is.its),
        subst P (sym is.is) (steps c is.part is.leases is.there),
      )

pub all_tick : (w new : WorldValue) (now : ℕ) (out : List ℕ) → new.relays ≡ w.relays → new.disk ≡ w.disk → new.net ≡ w.net → out ≡ []
    → new.server.topology.circuits ≡ w.server.topology.circuits → leases_now new ≡ map (after_tick now) (leases_now w)
    → AllMove (λ c. Tick now) (states w) (states new) outcome.Done out
all_tick w new now out relays same net empty parts leases =
    all_move w new (λ c. Tick now) (λ c. after_tick now) out parts (ap length leases ∙ length-map (leases_now w) (after_tick now) ∙ whole w)
    (λ c part l there its. ap (λ ls. slice_get ls c) leases ∙ slice_get-map (after_tick now) (leases_now w) c ∙ ap (option_map (after_tick now)) its)
    (λ c part l there. tick_done c w new part l now out relays same net empty)

-- A restart, where each circuit's region comes back so.
pub all_restart : (w new : WorldValue) (comebacks : ℕ → Comeback) (regions : ℕ → Region) (faults : ℕ → ℕ) (out : List ℕ) → new.relays ≡ w.relays → new.net ≡ w.net → out ≡ []
    → new.server.topology.circuits ≡ w.server.topology.circuits → leases_now new ≡ map (found_leases regions faults) w.server.topology.circuits
    → ((c : ℕ) (part : CircuitPart) → slice_get w.server.topology.circuits c ≡ Some part → regions part.region ≡ crashed (comebacks c).image (disk.disk_region w.disk part.region))
    → ((c : ℕ) (part : CircuitPart) → slice_get w.server.topology.circuits c ≡ Some part → faults part.region ≡ (comebacks c).move_fault)
    → ((c : ℕ) (part : CircuitPart) → slice_get w.server.topology.circuits c ≡ Some part → disk.failing_call_of new.disk part.region ≡ 0)
    → All (λ (part : CircuitPart). IsRegionMigrated (counts_of part) (faults part.region) (regions part.region) (disk.disk_region new.disk part.region)) w.server.topology.circuits
    → AllMove (λ c. Restart (comebacks c)) (states w) (states new) outcome.Done out
all_restart w new comebacks regions faults out relays net empty parts leases crash fails cleared brought =
    all_move w new (λ c. Restart (comebacks c)) (λ c. after_restart (comebacks c).image (comebacks c).move_fault) out parts (ap length leases ∙ length-map w.server.topology.circuits (found_leases regions faults))
    (λ c part l there its.
    let found = found_crashed part (comebacks c).move_fault (comebacks c).image (disk.disk_region w.disk) regions faults l.book (crash c part there) (fails c part there) in
    let at = ap (λ parts. slice_get parts c) (parts_with w.server.topology.circuits w.server.states) ∙ there in
    let restarts = restarts_at (disk.disk_region w.disk) (circuits_in w.server) c part l at its in
    let formats = formats_at (disk.disk_region w.disk) (circuits_in w.server) c part l at its in
    ap (λ ls. slice_get ls c) leases ∙ slice_get-map (found_leases regions faults) w.server.topology.circuits c ∙ ap (option_map (found_leases regions faults)) there
    ∙ ap Some (found ∙ ap (after_restart (comebacks c).image (comebacks c).move_fault) (λ i. record { book = l.book; restarts = sym restarts i; is_new = sym formats i })))
    (λ c part l there. restart_done c w new part l (comebacks c) out relays net empty (cleared c part there) (its_region c part there))
  where
    its_region : (c : ℕ) (part : CircuitPart) → slice_get w.server.topology.circuits c ≡ Some part
        → IsRegionMigrated (counts_of part) (comebacks c).move_fault (crashed (comebacks c).image (disk.disk_region w.disk part.region)) (disk.disk_region new.disk part.region)
    its_region c part there =
        let P : CircuitPart → Type 0 = λ p. IsRegionMigrated (counts_of p) (faults p.region) (regions p.region) (disk.disk_region new.disk p.region) in
        let Q : ℕ → Region → Type 0 = λ fault region. IsRegionMigrated (counts_of part) fault region (disk.disk_region new.disk part.region) in
        subst₂ Q (fails c part there) (crash c part there) (all_at P w.server.topology.circuits c part brought there)
