-- A step of the world as the result of a line.
use Rattle.std.proofs.Common.{◌≡◌, ℕ, ◌<◌, ◌≤◌, ◌+◌, inr, Bool, true, false, cond, eqb, eqb-true, eq-eqb, le-ltb, lt-ltb, List, [], length, refl, ap, sym, subst, ◌∙◌, arith}
use Rattle.std.specs.Prelude.{Option, Some, None, nat_lt, slice_get, option_map}
use Rattle.std.specs.Io.KnownBytes.{Appends}
use Rattle.std.proofs.lemmas.List.{length-map}
use Rattle.std.proofs.lemmas.Option.{same_Some, slice_get-map}
use Rattle.config.specs.Membership.{MembershipValue}
use Rattle.config.specs.Plans.{PlansValue}
use Rattle.settings.specs.Settings.{Settings}
use Rattle.settings.specs.declared.settings.CircuitConfig.{CircuitConfig}
use Rattle.world.specs.Alone.{Alone, Setup, Effect, Dropped, Gone, SentUp, SentDown, Framed, Done, alone_step, setup_of}
use Rattle.config.specs.CircuitPart.{CircuitPart, part_in, part_of, source_at}
use Rattle.world.specs.Headline.{CircuitState, Represents, Steps, IsOutcome, Answers, after_seen, is_on_at, outcome_at, plans_at, seen_at, topology_after}
use Rattle.world.specs.Start.{begins_on, members_of, setup_in}
use Rattle.world.proofs.SetupLemmas.{setup_at}
use Rattle.std.specs.Option.{option_map_or, unwrap_or}
use Rattle.events.specs.Seen.{Seen, named_by, turn_to}
use Rattle.events.specs.declared.event.Event.{Event}
use Rattle.events.specs.declared.event.Event.TheVariants as event
use Rattle.events.specs.declared.outcome.Outcome.{Outcome}
use Rattle.events.specs.declared.outcome.Outcome.TheVariants as outcome
use Rattle.events.specs.Stray.{stray_up_outcome, stray_down_outcome}
use Rattle.config.specs.Topology.{Topology, topology_of, topology_with, is_relay, is_server}
use Rattle.config.specs.Topology as topology
use Rattle.types.specs.declared.addr.Source.{Source}
use Rattle.types.specs.declared.discard.Discard.TheVariants.{UnknownSource, NotServer}
use Rattle.std.specs.Borrow.{Bor}
use Rattle.events.specs.declared.comeback.Comeback.{Comeback}
use Rattle.events.specs.Seen as sees
use Rattle.lab_text.specs.Fields.{comeback_in}
use Rattle.lab_text.specs.ParsedLine.{IsRestart}
use Rattle.lab_engine.specs.Lab.{Applied, named_result, line_result, with_machine, reloaded, ticked, restarted}
use Rattle.lab_text.specs.Line.{Line, Bad, line_of_text, short_line}
use Rattle.streams.specs.Writing.{AppendsPrefix}
use Rattle.lab_engine.specs.Progress.{AllRepresent, HasResult, HasStatus, IsDoneBy, KnowsPlans, Names}
use Rattle.lab_engine.specs.Output.{effect_text, outcome_effect, with_newline}

-- the effect of the outcome
pub effect_is : (c : ℕ) (f : Effect) (o : Outcome) (out : List ℕ) → IsOutcome c f o out → outcome_effect o out ≡ f
effect_is c (Dropped why) o out h = ap (λ v. outcome_effect v out) h.0
effect_is c Gone o out h = ap (λ v. outcome_effect v out) h.0
effect_is c (SentUp len) o out h = ap (λ v. outcome_effect v out) h.0
effect_is c (SentDown len) o out h = ap (λ v. outcome_effect v out) h.0
effect_is c (Framed frame) o out h =
    ap (λ v. outcome_effect v out) h.0 ∙ ap (λ bytes. Framed (record { dest = frame.dest; bytes = bytes })) h.1
effect_is c Done o out h = ap (λ v. outcome_effect v out) h.0

-- how the circuit of this index and id is set up
pub record SetupAt (plans : PlansValue) (quota c : ℕ) (id : List ℕ) : Type 0 where
  pub setup : Setup
  pub is : setup_in plans quota c ≡ Some setup
  pub same : setup.part.id ≡ id

pub found_at : (plans : PlansValue) (quota c : ℕ) (circuit : CircuitConfig) → slice_get plans.union.circuits c ≡ Some circuit → SetupAt plans quota c circuit.id
found_at plans quota c circuit h =
    let values : CircuitConfig → CircuitPart = λ x. part_of x (source_at plans.union.relays x.relay) plans.union.server.listen4 plans.union.server.listen6 plans.union.server.duid.items in
    let there : part_in plans.union c ≡ Some (values circuit) = slice_get-map values plans.union.circuits c ∙ ap (option_map values) h in
    record { setup = setup_of quota (values circuit) (begins_on plans c); is = setup_at plans quota c (values circuit) there; same = refl }

-- circuit d's machine after circuit c saw something
represents_at : (c d : ℕ) (setup : Setup) (seen : Seen) (next : Alone) (states : List CircuitState) (machines : ℕ → Alone) (t : Bool)
    → eqb c d ≡ t → (c ≡ d → (alone_step setup seen (machines d)).next ≡ next)
    → Represents d states setup (after_seen setup (cond t (Some seen) None) (machines d)) → Represents d states setup (cond t next (machines d))
represents_at c d setup seen next states machines true e same h = subst (Represents d states setup) (same (eqb-true c d e)) h
represents_at c d setup seen next states machines false e same h = h

represents_named : (plans : PlansValue) (quota c : ℕ) (setup : Setup) (seen : Seen) (e : Event) (states new : List CircuitState) (o : Outcome) (out : List ℕ) (machines : ℕ → Alone)
    → setup_in plans quota c ≡ Some setup → Names c seen e → Steps e states new o out → AllRepresent plans quota states machines
    → AllRepresent plans quota new (with_machine c (alone_step setup seen (machines c)).next machines)
represents_named plans quota c setup seen e states new o out machines is names steps represents = record {
  each = λ d other h.
      let before = steps.each d other (machines d) (represents.each d other h) in
      let after : Represents d new other (after_seen other (cond (eqb c d) (Some seen) None) (machines d)) = subst (λ s. Represents d new other (after_seen other s (machines d))) (names.sees (plans_at d states) d (is_on_at d states)) before in
      let same = λ (k : c ≡ d).
      let one : other ≡ setup = same_Some _ _ (sym h ∙ ap (setup_in plans quota) (sym k) ∙ is) in
      ap (λ s. (alone_step s seen (machines d)).next) one ∙ ap (λ x. (alone_step setup seen (machines x)).next) (sym k) in
      represents_at c d other seen (alone_step setup seen (machines c)).next new machines (eqb c d) refl same after;
  members = λ d. steps.plans d ∙ represents.members d;
}

-- what came of an event of a circuit is the outcome
its_outcome : (c d : ℕ) (e : Event) (o : Outcome) → named_by e ≡ Some c → outcome_at d e o ≡ o
its_outcome c d (event.Frame circuit proto bytes) o h = refl
its_outcome c d (event.Up circuit j now fault) o h = refl
its_outcome c d (event.Down circuit j) o h = refl
its_outcome c d (event.Batch now sync parts) o h = absurd (cc)
its_outcome c d (event.Tick now) o h = refl
its_outcome c d (event.Restart comebacks) o h = refl
its_outcome c d (event.Reload plan) o h = refl
its_outcome c d (event.StrayUp proto source bytes now) o h = refl
its_outcome c d (event.StrayDown relay source bytes) o h = refl

-- the text of the effect
text_is : (c : ℕ) (setup : Setup) (id : List ℕ) (seen : Seen) (e : Event) (states new : List CircuitState) (o : Outcome) (out : List ℕ) (a : Alone)
    → setup.part.id ≡ id → named_by e ≡ Some c → seen_at c states e ≡ Some seen → Steps e states new o out → Represents c states setup a
    → with_newline (effect_text id (outcome_effect o out)) ≡ with_newline (effect_text setup.part.id (alone_step setup seen a).effect)
text_is c setup id seen e states new o out a is named sees steps represents =
    let answers : Answers c setup (Some seen) a o out = subst (λ (p : Outcome). Answers c setup (Some seen) a p out) (its_outcome c c e o named) (subst (λ s. Answers c setup s a (outcome_at c e o) out) sees (steps.answers c setup a represents)) in
    ap (λ f. with_newline (effect_text id f)) (effect_is c (alone_step setup seen a).effect o out answers) ∙ ap (λ v. with_newline (effect_text v (alone_step setup seen a).effect)) (sym is)

named_sees : (c : ℕ) (seen : Seen) (e : Event) (states : List CircuitState) → Names c seen e → seen_at c states e ≡ Some seen
named_sees c seen e states names = names.sees (plans_at c states) c (is_on_at c states) ∙ ap (λ t. cond t (Some seen) None) (eq-eqb c c refl)

-- an event of a circuit whose output was written
pub event_applied : (plans : PlansValue) (quota number c : ℕ) (id : List ℕ) (seen : Seen) (e : Event) (states new : List CircuitState) (o : Outcome) (out : List ℕ) (machines : ℕ → Alone) (held holds : Option (List ℕ))
    → SetupAt plans quota c id → Names c seen e → Steps e states new o out → AllRepresent plans quota states machines
    → Appends held holds (with_newline (effect_text id (outcome_effect o out)))
    → HasResult plans quota number (named_result c seen machines (setup_in plans quota c)) new held holds None
event_applied plans quota number c id seen e states new o out machines held holds at names steps represents h =
    subst (λ s. HasResult plans quota number (named_result c seen machines s) new held holds None) (sym at.is) (record {
      appended = subst (Appends held holds) (text_is c at.setup id seen e states new o out (machines c) at.same names.named (named_sees c seen e states names) steps (represents.each c at.setup at.is)) h;
      represents = represents_named plans quota c at.setup seen e states new o out machines at.is names steps represents;
    })

-- and one where the writer failed
pub event_not_written : (plans : PlansValue) (quota number c : ℕ) (id : List ℕ) (seen : Seen) (e : Event) (states new : List CircuitState) (o : Outcome) (out : List ℕ) (machines : ℕ → Alone) (held holds : Option (List ℕ))
    → SetupAt plans quota c id → Names c seen e → Steps e states new o out → AllRepresent plans quota states machines
    → AppendsPrefix held holds (with_newline (effect_text id (outcome_effect o out)))
    → HasResult plans quota number (named_result c seen machines (setup_in plans quota c)) new held holds (Some 6)
event_not_written plans quota number c id seen e states new o out machines held holds at names steps represents h =
    subst (λ s. HasResult plans quota number (named_result c seen machines s) new held holds (Some 6)) (sym at.is)
    (refl, subst (AppendsPrefix held holds) (text_is c at.setup id seen e states new o out (machines c) at.same names.named (named_sees c seen e states names) steps (represents.each c at.setup at.is)) h)

-- a moment that passes
pub represents_ticked : (plans : PlansValue) (quota now : ℕ) (states new : List CircuitState) (o : Outcome) (out : List ℕ) (machines : ℕ → Alone)
    → Steps (event.Tick now) states new o out → AllRepresent plans quota states machines
    → AllRepresent plans quota new (λ c. ticked now (machines c) (setup_in plans quota c))
represents_ticked plans quota now states new o out machines steps represents = record {
  each = λ c setup h. subst (λ s. Represents c new setup (ticked now (machines c) s)) (sym h) (steps.each c setup (machines c) (represents.each c setup h));
  members = λ c. steps.plans c ∙ represents.members c;
}

-- another plan in force
pub represents_reloaded : (plans : PlansValue) (quota plan : ℕ) (states new : List CircuitState) (o : Outcome) (out : List ℕ) (machines : ℕ → Alone)
    → Steps (event.Reload plan) states new o out → AllRepresent plans quota states machines
    → AllRepresent plans quota new (λ c. reloaded (members_of plans c) plan (machines c) (setup_in plans quota c))
represents_reloaded plans quota plan states new o out machines steps represents = record {
  each = λ c setup h.
      let before = represents.each c setup h in
      let on : is_on_at c states ≡ (machines c).on = ap (λ (slot : Option CircuitState). option_map_or (λ (state : CircuitState). state.on) slot false) before.there ∙ before.shows.on in
      let after : Represents c new setup (after_seen setup (turn_to (machines c).on (unwrap_or (slice_get (plans_at c states) plan) (machines c).on)) (machines c)) =
      subst (λ b. Represents c new setup (after_seen setup (turn_to b (unwrap_or (slice_get (plans_at c states) plan) b)) (machines c))) on (steps.each c setup (machines c) before) in
      subst (λ s. Represents c new setup (reloaded (members_of plans c) plan (machines c) s)) (sym h)
      (subst (λ has. Represents c new setup (after_seen setup (turn_to (machines c).on (unwrap_or (slice_get has plan) (machines c).on)) (machines c))) (represents.members c) after);
  members = λ c. steps.plans c ∙ represents.members c;
}

-- the server and the disk start again
represents_restarted : (plans : PlansValue) (quota : ℕ) (comebacks : Bor (List Comeback)) (line : Line) (states new : List CircuitState) (o : Outcome) (out : List ℕ) (machines : ℕ → Alone)
    → (is : IsRestart comebacks.now line) → Steps (event.Restart comebacks) states new o out → AllRepresent plans quota states machines
    → AllRepresent plans quota new (λ c. restarted (comeback_in c is.named) (machines c) (setup_in plans quota c))
represents_restarted plans quota comebacks line states new o out machines is steps represents = record {
  each = λ c setup h.
      subst (λ s. Represents c new setup (restarted (comeback_in c is.named) (machines c) s)) (sym h)
      (subst (λ comeback. Represents c new setup (alone_step setup (sees.Restart comeback) (machines c)).next) (is.each c)
      (steps.each c setup (machines c) (represents.each c setup h)));
  members = λ c. steps.plans c ∙ represents.members c;
}

-- the machines after an event of which `ok` is written
record DoneTo (plans : PlansValue) (quota : ℕ) (line : Line) (new : List CircuitState) (machines : ℕ → Alone) : Type 0 where
  next : ℕ → Alone
  is : line_result plans quota machines line ≡ Applied (with_newline (effect_text [] Done)) next
  represents : AllRepresent plans quota new next

done_to : (plans : PlansValue) (quota : ℕ) (line : Line) (e : Event) (states new : List CircuitState) (o : Outcome) (out : List ℕ) (machines : ℕ → Alone)
    → IsDoneBy plans line e → Steps e states new o out → AllRepresent plans quota states machines → DoneTo plans quota line new machines
done_to plans quota line (event.Tick now) states new o out machines is steps represents = record {
  next = λ c. ticked now (machines c) (setup_in plans quota c);
  is = ap (line_result plans quota machines) is;
  represents = represents_ticked plans quota now states new o out machines steps represents;
}
done_to plans quota line (event.Reload plan) states new o out machines is steps represents = record {
  next = λ c. reloaded (members_of plans c) plan (machines c) (setup_in plans quota c);
  is = ap (line_result plans quota machines) is.1;
  represents = represents_reloaded plans quota plan states new o out machines steps represents;
}
done_to plans quota line (event.Restart comebacks) states new o out machines is steps represents = record {
  next = λ c. restarted (comeback_in c is.named) (machines c) (setup_in plans quota c);
  is = ap (line_result plans quota machines) is.is;
  represents = represents_restarted plans quota comebacks line states new o out machines is steps represents;
}
done_to plans quota line (event.Frame circuit proto bytes) states new o out machines is steps represents = absurd is
done_to plans quota line (event.Up circuit j now fault) states new o out machines is steps represents = absurd is
done_to plans quota line (event.Batch now sync parts) states new o out machines is steps represents = absurd is
done_to plans quota line (event.Down circuit j) states new o out machines is steps represents = absurd is
done_to plans quota line (event.StrayUp proto source bytes now) states new o out machines is steps represents = absurd is
done_to plans quota line (event.StrayDown relay source bytes) states new o out machines is steps represents = absurd is

pub done_applied : (plans : PlansValue) (quota number : ℕ) (line : Line) (e : Event) (states new : List CircuitState) (o : Outcome) (out : List ℕ) (machines : ℕ → Alone) (held holds : Option (List ℕ))
    → IsDoneBy plans line e → Steps e states new o out → AllRepresent plans quota states machines → Appends held holds (with_newline (effect_text [] Done))
    → HasResult plans quota number (line_result plans quota machines line) new held holds None
done_applied plans quota number line e states new o out machines held holds is steps represents written =
    let done = done_to plans quota line e states new o out machines is steps represents in
    subst (λ r. HasResult plans quota number r new held holds None) (sym done.is) (record { appended = written; represents = done.represents })

pub done_not_written : (plans : PlansValue) (quota number : ℕ) (line : Line) (e : Event) (states new : List CircuitState) (o : Outcome) (out : List ℕ) (machines : ℕ → Alone) (held holds : Option (List ℕ))
    → IsDoneBy plans line e → Steps e states new o out → AllRepresent plans quota states machines → AppendsPrefix held holds (with_newline (effect_text [] Done))
    → HasResult plans quota number (line_result plans quota machines line) new held holds (Some 6)
done_not_written plans quota number line e states new o out machines held holds is steps represents written =
    let done = done_to plans quota line e states new o out machines is steps represents in
    subst (λ r. HasResult plans quota number r new held holds (Some 6)) (sym done.is) (refl, written)

-- whichever plan is in force after an event, relays and server are those of these plans
knows_reloaded : (plans : PlansValue) (plan : ℕ) (t : Topology) → KnowsPlans plans t → KnowsPlans plans (topology.reloaded plan t)
knows_reloaded plans plan t knows = subst (λ u. KnowsPlans plans (topology.reloaded plan u)) (sym knows.is) (by (nat_lt plan plans.count) refl) where
  at : ℕ → MembershipValue
  at k = record { count = plans.count; members = plans.members; plan = k }

  by : (b : Bool) → nat_lt plan plans.count ≡ b → KnowsPlans plans (topology.reloaded plan (topology_with plans.union (at knows.plan)))
  by true e = record { plan = plan; is = ap (λ b. topology_with plans.union (cond b (at plan) (at knows.plan))) e }
  by false e = record { plan = knows.plan; is = ap (λ b. topology_with plans.union (cond b (at plan) (at knows.plan))) e }

pub knows_after : (plans : PlansValue) (e : Event) (t : Topology) → KnowsPlans plans t → KnowsPlans plans (topology_after e t)
knows_after plans (event.Reload plan) t knows = knows_reloaded plans plan t knows
knows_after plans (event.Frame c proto bytes) t knows = knows
knows_after plans (event.Up c j now fault) t knows = knows
knows_after plans (event.Batch now sync parts) t knows = knows
knows_after plans (event.Down c j) t knows = knows
knows_after plans (event.Tick now) t knows = knows
knows_after plans (event.Restart comebacks) t knows = knows
knows_after plans (event.StrayUp proto source bytes now) t knows = knows
knows_after plans (event.StrayDown relay source bytes) t knows = knows

pub knows_next : (plans : PlansValue) (e : Event) (old new : Topology) → new ≡ topology_after e old → KnowsPlans plans old → KnowsPlans plans new
knows_next plans e old new is knows = subst (KnowsPlans plans) (sym is) (knows_after plans e old knows)

-- the status of a line whose event is done and written
pub status_done : (e : Event) (failures after : ℕ) (old new : Topology) → new ≡ topology_after e old → after ≡ failures → HasStatus None failures after old new
status_done e failures after old new is same = record {
  known = λ plans knows. knows_next plans e old new is knows;
  end = tt;
  quiet = λ fine. same;
  cause = λ failed. absurd (cc);
}

-- and where the writer failed
pub status_failed : (e : Event) (failures after : ℕ) (old new : Topology) → new ≡ topology_after e old → after ≡ failures + 1 → HasStatus (Some 6) failures after old new
status_failed e failures after old new is more = record {
  known = λ plans knows. knows_next plans e old new is knows;
  end = inr refl;
  quiet = λ fine. absurd (fine refl);
  cause = λ failed. more;
}

-- what comes of a stray whose source is not one of the plans'
pub stray_up_known : (t : Topology) (plans : PlansValue) (source : Source) → KnowsPlans plans t → is_relay (topology_of plans.union) source ≡ false
    → Some (stray_up_outcome t source) ≡ Some (outcome.Dropped UnknownSource)
stray_up_known t plans source knows apart =
    ap (λ u. Some (stray_up_outcome u source)) knows.is ∙ ap (λ b. Some (cond b outcome.NotAStray (outcome.Dropped UnknownSource))) apart

pub stray_down_known : (t : Topology) (plans : PlansValue) (relay : ℕ) (source : Source) → KnowsPlans plans t → relay < length plans.union.relays → is_server (topology_of plans.union) source ≡ false
    → Some (stray_down_outcome t relay source) ≡ Some (outcome.Dropped NotServer)
stray_down_known t plans relay source knows there apart =
    let within : relay < length (topology_of plans.union).relays = omega (arith, there, length-map plans.union.relays (λ r. r.source)) in
    ap (λ u. Some (stray_down_outcome u relay source)) knows.is
    ∙ ap (λ b. Some (cond b (cond (is_server (topology_of plans.union) source) outcome.NotAStray (outcome.Dropped NotServer)) outcome.Gone)) (lt-ltb relay (length (topology_of plans.union).relays) within)
    ∙ ap (λ b. Some (cond b outcome.NotAStray (outcome.Dropped NotServer))) apart

-- a line that is short enough
pub short_is : (settings : Settings) (count : ℕ) (line : List ℕ) → length line ≤ 8192 → short_line settings count line ≡ line_of_text settings count line
unfolding line_of_text
short_is settings count line h = sym (ap (λ t. cond t Bad (short_line settings count line)) (le-ltb 8192 (length line) h))

-- one that is too long
pub long_is : (settings : Settings) (count : ℕ) (line : List ℕ) → 8192 < length line → line_of_text settings count line ≡ Bad
unfolding line_of_text
long_is settings count line h = ap (λ t. cond t Bad (short_line settings count line)) (lt-ltb 8192 (length line) h)
