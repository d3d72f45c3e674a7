-- Steps of a world, from what happens to the states of its circuits.
use Rattle.std.proofs.Common.{◌≡◌, ℕ, ◌<◌, ◌≤◌, Bool, true, false, cond, eqb, List, [], length, refl, sym, ap, subst, ◌∙◌, arith, eq-eqb, ne_eqb, zero, suc, ◌∷◌}
use Rattle.std.specs.Prelude.{Option, Some, None, option_map, nat_lt, slice_get}
use Rattle.std.specs.Option.{unwrap_or}
use Rattle.std.proofs.lemmas.Bool.{eqb-true, ltb-false}
use Rattle.std.proofs.lemmas.Option.{same_Some, slice_get_within}
use Rattle.world.specs.Alone.{Setup, Alone, writes}
use Rattle.events.specs.Seen.{Seen, Frame, Up, Down, Tick, Turn, is_on_after, is_restart, named_by, reload_of, seen_of, seen_part, turn_to}
use Rattle.world.specs.Headline.{IsBatched, MovesRest, batch_of, outcome_at, CircuitState, Shows, Represents, frames_to, frame_of, IsOutcome, IsReloaded, Answers, after_seen, is_on_at, plans_at, region_at, seen_at, Steps, topology_after}
use Rattle.world.specs.StepsAs.{StepsAs, AllMove, AllTurn, MovesBy, on_by}
use Rattle.config.specs.Topology.{Topology}
use Rattle.events.specs.Stray.{is_stray}
use Rattle.world.proofs.Runs.{away_from, same_frames}
use Rattle.events.specs.Batch.{is_batch, part_of}
use Rattle.events.specs.declared.batch.BatchPart.{BatchPart}
use Rattle.world.proofs.StateLemmas.{is_on_in, past_end, plans_in}
use Rattle.events.specs.declared.event.Event.{Event}
use Rattle.events.specs.declared.event.Event.TheVariants as event
use Rattle.events.specs.declared.outcome.Outcome.{Outcome}
use Rattle.events.specs.declared.outcome.Outcome.TheVariants as outcome

-- there is no such circuit
pub missing : (k n : ℕ) (exists : Bool) → exists ≡ nat_lt k n → exists ≡ false → n ≤ k
missing k n exists value none = ltb-false k n (sym value ∙ none)

none_past : {A : Type 0} (xs : List A) (n : ℕ) → slice_get xs n ≡ None → length xs ≤ n
none_past [] n none = omega arith
none_past (x ∷ xs) zero none = absurd cc
none_past (x ∷ xs) (suc n) none = let rest = none_past xs n none in omega (arith, rest)

-- ---- what a circuit sees of an event, and whether it is on after it

turned_to : (on next : Bool) (s : Seen) → turn_to on next ≡ Some s → on_by s on ≡ next
turned_to true false s sees = ap (λ t. on_by t true) (sym (same_Some (Turn false) s sees))
turned_to false true s sees = ap (λ t. on_by t false) (sym (same_Some (Turn true) s sees))
turned_to true true s sees = absurd cc
turned_to false false s sees = absurd cc

stayed : (on next : Bool) → turn_to on next ≡ None → next ≡ on
stayed true false sees = absurd cc
stayed false true sees = absurd cc
stayed true true sees = refl
stayed false false sees = refl

-- an event that names a circuit, and turns none
module _ (on : Bool) (s : Seen) (keeps : on_by s on ≡ on) where
  named_turns : (named : Bool) (t : Seen) → cond named (Some s) None ≡ Some t → on_by t on ≡ on
  named_turns true t sees = ap (λ u. on_by u on) (sym (same_Some s t sees)) ∙ keeps
  named_turns false t sees = absurd cc

-- nor does a batch turn one
part_turns : (on : Bool) (now sync : ℕ) (part : Option BatchPart) (t : Seen) → seen_part now sync part ≡ Some t → on_by t on ≡ on
part_turns on now sync None t sees = absurd cc
part_turns on now sync (Some p) t sees = ap (λ u. on_by u on) (sym (same_Some _ t sees))

batch_turns : (on : Bool) (now sync : ℕ) (part : Option BatchPart) (is : Bool) (t : Seen) → cond is (seen_part now sync part) None ≡ Some t → on_by t on ≡ on
batch_turns on now sync part true t sees = part_turns on now sync part t sees
batch_turns on now sync part false t sees = absurd cc

sees_turn : (plans : List Bool) (c : ℕ) (on : Bool) (e : Event) (s : Seen) → seen_of plans c on e ≡ Some s → on_by s on ≡ is_on_after plans on e
sees_turn plans c on (event.Frame circuit proto bytes) s sees = named_turns on (Frame proto bytes.now) refl (eqb circuit c) s sees
sees_turn plans c on (event.Up circuit j now fault) s sees = named_turns on (Up j now fault) refl (eqb circuit c) s sees
sees_turn plans c on (event.Batch now sync parts) s sees = batch_turns on now sync (part_of c parts.now) (is_batch parts.now) s sees
sees_turn plans c on (event.Down circuit j) s sees = named_turns on (Down j) refl (eqb circuit c) s sees
sees_turn plans c on (event.Tick now) s sees = ap (λ t. on_by t on) (sym (same_Some (Tick now) s sees))
sees_turn plans c on (event.Restart comebacks) s sees = ap (λ t. on_by t on) (sym (same_Some _ s sees))
sees_turn plans c on (event.Reload plan) s sees = turned_to on (unwrap_or (slice_get plans plan) on) s sees
sees_turn plans c on (event.StrayUp proto source bytes now) s sees = absurd cc
sees_turn plans c on (event.StrayDown relay source bytes) s sees = absurd cc

sees_none : (plans : List Bool) (c : ℕ) (on : Bool) (e : Event) → seen_of plans c on e ≡ None → is_on_after plans on e ≡ on
sees_none plans c on (event.Frame circuit proto bytes) sees = refl
sees_none plans c on (event.Up circuit j now fault) sees = refl
sees_none plans c on (event.Batch now sync parts) sees = refl
sees_none plans c on (event.Down circuit j) sees = refl
sees_none plans c on (event.Tick now) sees = refl
sees_none plans c on (event.Restart comebacks) sees = refl
sees_none plans c on (event.Reload plan) sees = stayed on (unwrap_or (slice_get plans plan) on) sees
sees_none plans c on (event.StrayUp proto source bytes now) sees = refl
sees_none plans c on (event.StrayDown relay source bytes) sees = refl

-- a circuit that is not there is turned by nothing
not_there : (e : Event) → is_on_after [] false e ≡ false
not_there (event.Frame circuit proto bytes) = refl
not_there (event.Up circuit j now fault) = refl
not_there (event.Batch now sync parts) = refl
not_there (event.Down circuit j) = refl
not_there (event.Tick now) = refl
not_there (event.Restart comebacks) = refl
not_there (event.Reload plan) = refl
not_there (event.StrayUp proto source bytes now) = refl
not_there (event.StrayDown relay source bytes) = refl

-- ---- one circuit's state

-- by what it sees, if anything, the state of circuit c becomes this one
pub record Moved (c : ℕ) (v : Option Seen) (before : CircuitState) (new : List CircuitState) (o : Outcome) (out : List ℕ) : Type 0 where
  pub after : CircuitState
  pub is : slice_get new c ≡ Some after
  pub by : MovesBy c v before after o out

module _ (c : ℕ) (before : CircuitState) (new : List CircuitState) (o : Outcome) (out : List ℕ) where
  moved_each : (v : Option Seen) → Moved c v before new o out → (setup : Setup) (a : Alone) → Shows before setup a → Represents c new setup (after_seen setup v a)
  moved_each None m setup a shown = record { state = m.after; there = m.is; shows = subst (λ s. Shows s setup a) (sym m.by) shown }
  moved_each (Some s) m setup a shown = record { state = m.after; there = m.is; shows = m.by.next setup a shown }

  moved_answers : (v : Option Seen) → Moved c v before new o out → (v ≡ None → frames_to c (frame_of o out) ≡ []) → (setup : Setup) (a : Alone) → Shows before setup a → Answers c setup v a o out
  moved_answers None m away setup a shown = away refl
  moved_answers (Some s) m away setup a shown = subst (λ f. IsOutcome c f o out) (sym (m.by.effect_is setup a shown)) m.by.outcome

  moved_quiet : (v : Option Seen) → Moved c v before new o out → (setup : Setup) (a : Alone) (s : Seen) → Shows before setup a → v ≡ Some s → writes setup s a ≡ false
      → region_at c new ≡ Some before.region
  moved_quiet None m setup a s shown sees nothing = absurd cc
  moved_quiet (Some t) m setup a s shown sees nothing =
      let same : t ≡ s = same_Some t s sees in
      ap (option_map (λ (state : CircuitState). state.region)) m.is ∙ ap Some (m.by.quiet setup a shown (ap (λ u. writes setup u a) same ∙ nothing))

  moved_rest : (v : Option Seen) → Moved c v before new o out → (s : Seen) (after : CircuitState) → v ≡ Some s → slice_get new c ≡ Some after → MovesRest s before after
  moved_rest None m s after sees is = absurd cc
  moved_rest (Some t) m s after sees is =
      let same : t ≡ s = same_Some t s sees in
      let ends : m.after ≡ after = same_Some m.after after (sym m.is ∙ is) in
      subst (λ u. MovesRest u before after) same (subst (λ q. MovesRest t before q) ends m.by.rest)

  moved_stays : (v : Option Seen) → Moved c v before new o out → v ≡ None → slice_get new c ≡ Some before
  moved_stays None m none = m.is ∙ ap Some m.by
  moved_stays (Some s) m none = absurd cc

  moved_plans : (v : Option Seen) → Moved c v before new o out → plans_at c new ≡ before.plans
  moved_plans None m = ap plans_in m.is ∙ ap (λ (s : CircuitState). s.plans) m.by
  moved_plans (Some s) m = ap plans_in m.is ∙ m.by.plans

  moved_turns : (e : Event) (v : Option Seen) → Moved c v before new o out → seen_of before.plans c before.on e ≡ v → is_on_at c new ≡ is_on_after before.plans before.on e
  moved_turns e None m sees = ap is_on_in m.is ∙ ap (λ (s : CircuitState). s.on) m.by ∙ sym (sees_none before.plans c before.on e sees)
  moved_turns e (Some s) m sees = ap is_on_in m.is ∙ m.by.turns ∙ sees_turn before.plans c before.on e s sees

-- ---- what is no batch

pub plain : (e : Event) → batch_of e ≡ None → (c : ℕ) (o : Outcome) → outcome_at c e o ≡ o
plain (event.Frame circuit proto bytes) none c o = refl
plain (event.Up circuit j now fault) none c o = refl
plain (event.Batch now sync parts) none c o = absurd cc
plain (event.Down circuit j) none c o = refl
plain (event.Tick now) none c o = refl
plain (event.Restart comebacks) none c o = refl
plain (event.Reload plan) none c o = refl
plain (event.StrayUp proto source bytes now) none c o = refl
plain (event.StrayDown relay source bytes) none c o = refl

named_plain : (e : Event) (k : ℕ) → named_by e ≡ Some k → batch_of e ≡ None
named_plain (event.Frame circuit proto bytes) k named = refl
named_plain (event.Up circuit j now fault) k named = refl
named_plain (event.Batch now sync parts) k named = absurd cc
named_plain (event.Down circuit j) k named = refl
named_plain (event.Tick now) k named = refl
named_plain (event.Restart comebacks) k named = refl
named_plain (event.Reload plan) k named = refl
named_plain (event.StrayUp proto source bytes now) k named = refl
named_plain (event.StrayDown relay source bytes) k named = refl

stray_plain : (e : Event) → is_stray e ≡ true → batch_of e ≡ None
stray_plain (event.Frame circuit proto bytes) stray = refl
stray_plain (event.Up circuit j now fault) stray = refl
stray_plain (event.Batch now sync parts) stray = absurd cc
stray_plain (event.Down circuit j) stray = refl
stray_plain (event.Tick now) stray = refl
stray_plain (event.Restart comebacks) stray = refl
stray_plain (event.Reload plan) stray = refl
stray_plain (event.StrayUp proto source bytes now) stray = refl
stray_plain (event.StrayDown relay source bytes) stray = refl

-- ---- a step, by how each circuit's state moves

-- what is to be known of an event and its outcome besides
pub record Rest (e : Event) (old new : List CircuitState) (o : Outcome) (out : List ℕ) : Type 0 where
  pub away : (c : ℕ) → seen_at c old e ≡ None → frames_to c (frame_of o out) ≡ []
  pub gone : (c : ℕ) → named_by e ≡ Some c → length old ≤ c → (o ≡ outcome.Gone) × (out ≡ []) × (new ≡ old)
  pub ticked : (now : ℕ) → e ≡ event.Tick now → (o ≡ outcome.Done) × (out ≡ [])
  pub restarted : is_restart e ≡ true → (o ≡ outcome.Done) × (out ≡ [])
  pub reloaded : (k : ℕ) → reload_of e ≡ Some k → IsReloaded k old new o out
  pub stray : is_stray e ≡ true → (frame_of o out ≡ []) × (out ≡ []) × (new ≡ old)

module _ (e : Event) (old new : List CircuitState) (o : Outcome) (out : List ℕ) (count : length new ≡ length old)
    (moves : (c : ℕ) (before : CircuitState) → slice_get old c ≡ Some before → Moved c (seen_of before.plans c before.on e) before new (outcome_at c e o) out) (rest : Rest e old new o out)
    (batched : (parts : List BatchPart) → batch_of e ≡ Some parts → IsBatched e parts old new o out) where
  -- what a circuit sees is what its state says
  sees : (c : ℕ) (before : CircuitState) → slice_get old c ≡ Some before → seen_of before.plans c before.on e ≡ seen_at c old e
  sees c before there = λ i. seen_of (plans_in (sym there i)) c (is_on_in (sym there i)) e

  moved : (c : ℕ) (before : CircuitState) → slice_get old c ≡ Some before → Moved c (seen_at c old e) before new (outcome_at c e o) out
  moved c before there = subst (λ v. Moved c v before new (outcome_at c e o) out) (sees c before there) (moves c before there)

  plans : (c : ℕ) (slot : Option CircuitState) → slice_get old c ≡ slot → plans_at c new ≡ plans_in slot
  plans c None none = ap plans_in (past_end new c (subst (λ n. n ≤ c) (sym count) (none_past old c none)))
  plans c (Some before) there = moved_plans c before new (outcome_at c e o) out _ (moves c before there)

  turns : (c : ℕ) (slot : Option CircuitState) → slice_get old c ≡ slot → is_on_at c new ≡ is_on_after (plans_in slot) (is_on_in slot) e
  turns c None none = ap is_on_in (past_end new c (subst (λ n. n ≤ c) (sym count) (none_past old c none))) ∙ sym (not_there e)
  turns c (Some before) there = moved_turns c before new (outcome_at c e o) out e _ (moves c before there) refl

  others : (c : ℕ) (slot : Option CircuitState) → slice_get old c ≡ slot → seen_at c old e ≡ None → slice_get new c ≡ slot
  others c None none blind = past_end new c (subst (λ n. n ≤ c) (sym count) (none_past old c none))
  others c (Some before) there blind = moved_stays c before new (outcome_at c e o) out (seen_at c old e) (moved c before there) blind

  pub steps_of : Steps e old new o out
  steps_of = record {
    count = count;
    plans = λ c. plans c (slice_get old c) refl;
    turns = λ c. turns c (slice_get old c) refl;
    each = λ c setup a here. moved_each c here.state new (outcome_at c e o) out (seen_at c old e) (moved c here.state here.there) setup a here.shows;
    answers = λ c setup a here. moved_answers c here.state new (outcome_at c e o) out (seen_at c old e) (moved c here.state here.there) (λ blind. ap (frames_to c) (same_frames c e o out) ∙ rest.away c blind) setup a here.shows;
    quiet = λ c setup a s here seen nothing.
        moved_quiet c here.state new (outcome_at c e o) out (seen_at c old e) (moved c here.state here.there) setup a s here.shows seen nothing
        ∙ sym (ap (option_map (λ (state : CircuitState). state.region)) here.there);
    rest = λ c s p q seen there is. moved_rest c p new (outcome_at c e o) out (seen_at c old e) (moved c p there) s q seen is;
    others = λ c blind. others c (slice_get old c) refl blind;
    away = rest.away;
    gone = rest.gone;
    ticked = rest.ticked;
    restarted = rest.restarted;
    reloaded = rest.reloaded;
    batched = batched;
    stray = rest.stray;
  }

module _ (e : Event) (old new : List CircuitState) (o : Outcome) (out : List ℕ) (count : length new ≡ length old) (none : batch_of e ≡ None)
    (moves : (c : ℕ) (before : CircuitState) → slice_get old c ≡ Some before → Moved c (seen_of before.plans c before.on e) before new o out) (rest : Rest e old new o out) where
  plain_steps : Steps e old new o out
  plain_steps =
      steps_of e old new o out count
      (λ c before there. let P : Outcome → Type 0 = λ v. Moved c (seen_of before.plans c before.on e) before new v out in subst P (sym (plain e none c o)) (moves c before there)) rest
      (λ parts is. let h : None ≡ Some parts = sym none ∙ is in absurd cc)

-- a state that stays, where nothing is seen
stays : (c : ℕ) (v : Option Seen) (before : CircuitState) (old new : List CircuitState) (o : Outcome) (out : List ℕ) → v ≡ None → slice_get new c ≡ slice_get old c
    → slice_get old c ≡ Some before → Moved c v before new o out
stays c v before old new o out none same there = subst (λ v. Moved c v before new o out) (sym none) (record { after = before; is = same ∙ there; by = refl })

-- ---- strays

stray_unseen : (e : Event) → is_stray e ≡ true → (plans : List Bool) (c : ℕ) (on : Bool) → seen_of plans c on e ≡ None
stray_unseen (event.Frame circuit proto bytes) stray plans c on = absurd cc
stray_unseen (event.Up circuit j now fault) stray plans c on = absurd cc
stray_unseen (event.Batch now sync parts) stray plans c on = absurd cc
stray_unseen (event.Down circuit j) stray plans c on = absurd cc
stray_unseen (event.Tick now) stray plans c on = absurd cc
stray_unseen (event.Restart images) stray plans c on = absurd cc
stray_unseen (event.Reload plan) stray plans c on = absurd cc
stray_unseen (event.StrayUp proto source bytes now) stray plans c on = refl
stray_unseen (event.StrayDown relay source bytes) stray plans c on = refl

stray_unnamed : (e : Event) → is_stray e ≡ true → named_by e ≡ None
stray_unnamed (event.Frame circuit proto bytes) stray = absurd cc
stray_unnamed (event.Up circuit j now fault) stray = absurd cc
stray_unnamed (event.Batch now sync parts) stray = absurd cc
stray_unnamed (event.Down circuit j) stray = absurd cc
stray_unnamed (event.Tick now) stray = absurd cc
stray_unnamed (event.Restart images) stray = absurd cc
stray_unnamed (event.Reload plan) stray = absurd cc
stray_unnamed (event.StrayUp proto source bytes now) stray = refl
stray_unnamed (event.StrayDown relay source bytes) stray = refl

stray_reloads_none : (e : Event) → is_stray e ≡ true → reload_of e ≡ None
stray_reloads_none (event.Frame circuit proto bytes) stray = refl
stray_reloads_none (event.Up circuit j now fault) stray = refl
stray_reloads_none (event.Batch now sync parts) stray = refl
stray_reloads_none (event.Down circuit j) stray = refl
stray_reloads_none (event.Tick now) stray = refl
stray_reloads_none (event.Restart images) stray = refl
stray_reloads_none (event.Reload plan) stray = absurd cc
stray_reloads_none (event.StrayUp proto source bytes now) stray = refl
stray_reloads_none (event.StrayDown relay source bytes) stray = refl

restart_unnamed : (e : Event) → is_restart e ≡ true → named_by e ≡ None
restart_unnamed (event.Frame circuit proto bytes) restart = absurd cc
restart_unnamed (event.Up circuit j now fault) restart = absurd cc
restart_unnamed (event.Batch now sync parts) restart = absurd cc
restart_unnamed (event.Down circuit j) restart = absurd cc
restart_unnamed (event.Tick now) restart = absurd cc
restart_unnamed (event.Restart images) restart = refl
restart_unnamed (event.Reload plan) restart = absurd cc
restart_unnamed (event.StrayUp proto source bytes now) restart = absurd cc
restart_unnamed (event.StrayDown relay source bytes) restart = absurd cc

reload_unnamed : (e : Event) (k : ℕ) → reload_of e ≡ Some k → named_by e ≡ None
reload_unnamed (event.Frame circuit proto bytes) k reload = absurd cc
reload_unnamed (event.Up circuit j now fault) k reload = absurd cc
reload_unnamed (event.Batch now sync parts) k reload = absurd cc
reload_unnamed (event.Down circuit j) k reload = absurd cc
reload_unnamed (event.Tick now) k reload = refl
reload_unnamed (event.Restart images) k reload = refl
reload_unnamed (event.Reload plan) k reload = refl
reload_unnamed (event.StrayUp proto source bytes now) k reload = refl
reload_unnamed (event.StrayDown relay source bytes) k reload = refl

no_restart : (e : Event) → is_stray e ≡ true → is_restart e ≡ true → ⊥
no_restart (event.Frame circuit proto bytes) stray restart = absurd cc
no_restart (event.Up circuit j now fault) stray restart = absurd cc
no_restart (event.Batch now sync parts) stray restart = absurd cc
no_restart (event.Down circuit j) stray restart = absurd cc
no_restart (event.Tick now) stray restart = absurd cc
no_restart (event.Restart images) stray restart = absurd cc
no_restart (event.Reload plan) stray restart = absurd cc
no_restart (event.StrayUp proto source bytes now) stray restart = absurd cc
no_restart (event.StrayDown relay source bytes) stray restart = absurd cc

-- a stray changes nothing, and nothing leaves with it
pub stray_steps : (e : Event) (old new : List CircuitState) (o : Outcome) (out : List ℕ) → is_stray e ≡ true → frame_of o out ≡ [] → out ≡ [] → new ≡ old → Steps e old new o out
stray_steps e old new o out stray nothing empty same =
    plain_steps e old new o out (ap length same) (stray_plain e stray)
    (λ c before there. stays c _ before old new o out (stray_unseen e stray before.plans c before.on) (ap (λ states. slice_get states c) same) there)
    (record {
      away = λ c blind. ap (frames_to c) nothing;
      gone = λ c name far. let h : None ≡ Some c = sym (stray_unnamed e stray) ∙ name in absurd cc;
      ticked = λ now tick. let h : Some (Tick now) ≡ None = sym (ap (seen_of [] 0 false) tick) ∙ stray_unseen e stray [] 0 false in absurd cc;
      restarted = λ restart. absurd (no_restart e stray restart);
      reloaded = λ k reload. let h : None ≡ Some k = sym (stray_reloads_none e stray) ∙ reload in absurd cc;
      stray = λ is. (nothing, empty, same);
    })

-- ---- an event of circuit k, and what its circuit sees

abbrev pub IsSeenBy : Event → ℕ → Seen → Type 0
IsSeenBy e k s = (plans : List Bool) (c : ℕ) (on : Bool) → seen_of plans c on e ≡ cond (eqb k c) (Some s) None

module _ (e : Event) (k : ℕ) (s : Seen) (sees : IsSeenBy e k s) (named : named_by e ≡ Some k) where
  seen_by_it : (plans : List Bool) (on : Bool) → seen_of plans k on e ≡ Some s
  seen_by_it plans on = sees plans k on ∙ ap (λ b. cond b (Some s) None) (eq-eqb k k refl)

  unseen : (plans : List Bool) (c : ℕ) (on : Bool) → eqb k c ≡ false → seen_of plans c on e ≡ None
  unseen plans c on other = sees plans c on ∙ ap (λ b. cond b (Some s) None) other

  no_tick : (now : ℕ) → e ≡ event.Tick now → ⊥
  no_tick now tick = let h : Some k ≡ None = sym named ∙ ap named_by tick in absurd cc

  names_no_restart : is_restart e ≡ true → ⊥
  names_no_restart restart = let h : Some k ≡ None = sym named ∙ restart_unnamed e restart in absurd cc

  names_no_reload : (plan : ℕ) → reload_of e ≡ Some plan → ⊥
  names_no_reload plan reload = let h : Some k ≡ None = sym named ∙ reload_unnamed e plan reload in absurd cc

  -- what a circuit sees is no stray
  no_stray : is_stray e ≡ true → ⊥
  no_stray stray = let h : None ≡ Some s = sym (stray_unseen e stray [] k false) ∙ seen_by_it [] false in absurd cc

  names_it : (c : ℕ) → named_by e ≡ Some c → c ≡ k
  names_it c name = let h : Some k ≡ Some c = sym named ∙ name in cc

  -- what doesn't see it is another circuit
  sees_not : (old : List CircuitState) (c : ℕ) → seen_at c old e ≡ None → (b : Bool) → eqb k c ≡ b → b ≡ false
  sees_not old c blind false is = refl
  sees_not old c blind true is = let h : Some s ≡ None = sym (sees (plans_at c old) c (is_on_at c old) ∙ ap (λ b. cond b (Some s) None) is) ∙ blind in absurd cc

  module _ (old new : List CircuitState) (o : Outcome) (out : List ℕ) (count : length new ≡ length old)
      (others : (c : ℕ) → eqb k c ≡ false → slice_get new c ≡ slice_get old c) where
    -- the circuit exists, and its state moves by its machine's step
    pub named_steps : (p q : CircuitState) → slice_get old k ≡ Some p → slice_get new k ≡ Some q → StepsAs k s p q o out → Steps e old new o out
    named_steps p q was is steps =
        plain_steps e old new o out count (named_plain e k named) (λ c before there. move c before (eqb k c) refl there) (record {
          away = λ c blind. away_from k c steps.effect o out steps.outcome (sees_not old c blind (eqb k c) refl);
          gone = λ c name far. absurd (too_far c (names_it c name) far);
          ticked = λ now tick. absurd (no_tick now tick);
          restarted = λ restart. absurd (names_no_restart restart);
          reloaded = λ plan reload. absurd (names_no_reload plan reload);
          stray = λ is. absurd (no_stray is);
        })
      where
        move : (c : ℕ) (before : CircuitState) (b : Bool) → eqb k c ≡ b → slice_get old c ≡ Some before → Moved c (seen_of before.plans c before.on e) before new o out
        move c before false other there = stays c _ before old new o out (unseen before.plans c before.on other) (others c other) there
        move c before true same there =
            let P : ℕ → Type 0 = λ n. slice_get old n ≡ Some before → Moved n (seen_of before.plans n before.on e) before new o out in
            subst P (eqb-true k c same) (λ there.
            let its : p ≡ before = same_Some p before (sym was ∙ there) in
            subst (λ v. Moved k v before new o out) (sym (seen_by_it before.plans before.on))
            (record { after = q; is = is; by = subst (λ (p : CircuitState). StepsAs k s p q o out) its steps })) there

        too_far : (c : ℕ) → c ≡ k → length old ≤ c → ⊥
        too_far c is_k far = omega (arith, is_k, far, slice_get_within old k p was)

  -- the circuit doesn't exist, and nothing changes
  pub gone_steps : (states : List CircuitState) (o : Outcome) (out : List ℕ) → length states ≤ k → o ≡ outcome.Gone → out ≡ [] → Steps e states states o out
  gone_steps states o out past gone empty =
      plain_steps e states states o out refl (named_plain e k named) (λ c before there. stays c _ before states states o out (unseen before.plans c before.on (apart c before there)) refl there) (record {
        away = λ c blind. ap (λ v. frames_to c (frame_of v out)) gone;
        gone = λ c name far. (gone, empty, refl);
        ticked = λ now tick. absurd (no_tick now tick);
        restarted = λ restart. absurd (names_no_restart restart);
        reloaded = λ plan reload. absurd (names_no_reload plan reload);
        stray = λ is. absurd (no_stray is);
      })
    where
      apart : (c : ℕ) (before : CircuitState) → slice_get states c ≡ Some before → eqb k c ≡ false
      apart c before there = ne_eqb k c (λ same. omega (arith, same, past, slice_get_within states c before there))

-- ---- an event that every circuit sees, and that moves every state

pub all_steps : (e : Event) (s : ℕ → Seen) (old new : List CircuitState) (o : Outcome) (out : List ℕ) → ((plans : List Bool) (c : ℕ) (on : Bool) → seen_of plans c on e ≡ Some (s c))
    → named_by e ≡ None → reload_of e ≡ None → batch_of e ≡ None → AllMove s old new o out → o ≡ outcome.Done → out ≡ [] → Steps e old new o out
all_steps e s old new o out sees unnamed unloaded plain moves done empty =
    plain_steps e old new o out moves.count plain
    (λ c before there.
    let m = moves.each c before there in
    subst (λ v. Moved c v before new o out) (sym (sees before.plans c before.on)) (record { after = m.0; is = m.1; by = m.2 }))
    (record {
      away = λ c blind. let h : Some (s c) ≡ None = sym (sees (plans_at c old) c (is_on_at c old)) ∙ blind in absurd cc;
      gone = λ c name far. let h : None ≡ Some c = sym unnamed ∙ name in absurd cc;
      ticked = λ moment is. (done, empty);
      restarted = λ is. (done, empty);
      reloaded = λ k reload. let h : None ≡ Some k = sym unloaded ∙ reload in absurd cc;
      stray = λ is. let h : Some (s 0) ≡ None = sym (sees [] 0 false) ∙ stray_unseen e is [] 0 false in absurd cc;
    })

-- ---- a reload

-- There is such a plan: each circuit is turned by whether it has it.
pub reload_steps : (e : Event) (k : ℕ) (next : ℕ → Bool) (old new : List CircuitState) (o : Outcome) (out : List ℕ) → e ≡ event.Reload k
    → ((c : ℕ) (before : CircuitState) → slice_get old c ≡ Some before → slice_get before.plans k ≡ Some (next c))
    → AllTurn next old new o out → o ≡ outcome.Done → out ≡ [] → Steps e old new o out
reload_steps e k next old new o out is has moves done empty =
    plain_steps e old new o out moves.count (ap batch_of is)
    (λ c before there.
    let m = moves.each c before there in
    let sees : seen_of before.plans c before.on e ≡ turn_to before.on (next c) = ap (seen_of before.plans c before.on) is ∙ ap (λ p. turn_to before.on (unwrap_or p before.on)) (has c before there) in
    subst (λ v. Moved c v before new o out) (sym sees) (record { after = m.0; is = m.1; by = m.2 }))
    (record {
      away = λ c blind. ap (frames_to c) silent;
      gone = λ c name far. let h : None ≡ Some c = sym (ap named_by is) ∙ name in absurd cc;
      ticked = λ moment tick. (done, empty);
      restarted = λ restart. let h : false ≡ true = sym (ap is_restart is) ∙ restart in absurd cc;
      reloaded = λ plan reload. record {
        done = λ c has. λ there. done;
        no_plan = λ c within none. absurd (no_such plan (same_Some k plan (sym (ap reload_of is) ∙ reload)) c within none);
        silent = (silent, empty);
      };
      stray = λ stray. let h : false ≡ true = sym (ap is_stray is) ∙ stray in absurd cc;
    })
  where
    silent : frame_of o out ≡ []
    silent = ap (λ v. frame_of v out) done

    no_such : (plan : ℕ) → k ≡ plan → (c : ℕ) → c < length old → slice_get (plans_at c old) plan ≡ None → ⊥
    no_such plan same c within none = at (slice_get old c) refl where
      at : (slot : Option CircuitState) → slice_get old c ≡ slot → ⊥
      at None out_of = let past = none_past old c out_of in omega (arith, within, past)
      at (Some before) there =
          let h : Some (next c) ≡ None =
          sym (has c before there) ∙ ap (slice_get before.plans) same ∙ ap (λ slot. slice_get (plans_in slot) plan) (sym there) ∙ none in
          absurd cc

-- There is no such plan, and nothing changes.
pub no_plan_steps : (e : Event) (k : ℕ) (states : List CircuitState) (o : Outcome) (out : List ℕ) → e ≡ event.Reload k
    → ((c : ℕ) (before : CircuitState) → slice_get states c ≡ Some before → slice_get before.plans k ≡ None)
    → o ≡ outcome.NoPlan → out ≡ [] → Steps e states states o out
no_plan_steps e k states o out is none no_plan empty =
    plain_steps e states states o out refl (ap batch_of is) (λ c before there. stays c _ before states states o out (unseen c before there) refl there) (record {
      away = λ c blind. ap (frames_to c) silent;
      gone = λ c name far. let h : None ≡ Some c = sym (ap named_by is) ∙ name in absurd cc;
      ticked = λ moment tick. let h : event.Reload k ≡ event.Tick moment = sym is ∙ tick in absurd cc;
      restarted = λ restart. let h : false ≡ true = sym (ap is_restart is) ∙ restart in absurd cc;
      reloaded = λ plan reload. record {
        done = λ c has there. absurd (no_such plan (same_Some k plan (sym (ap reload_of is) ∙ reload)) c has there);
        no_plan = λ c within there. (no_plan, refl);
        silent = (silent, empty);
      };
      stray = λ stray. let h : false ≡ true = sym (ap is_stray is) ∙ stray in absurd cc;
    })
  where
    silent : frame_of o out ≡ []
    silent = ap (λ v. frame_of v out) no_plan

    same_turn : (on : Bool) → turn_to on on ≡ None
    same_turn true = refl
    same_turn false = refl

    unseen : (c : ℕ) (before : CircuitState) → slice_get states c ≡ Some before → seen_of before.plans c before.on e ≡ None
    unseen c before there = ap (seen_of before.plans c before.on) is ∙ ap (λ p. turn_to before.on (unwrap_or p before.on)) (none c before there) ∙ same_turn before.on

    no_such : (plan : ℕ) → k ≡ plan → (c : ℕ) (has : Bool) → slice_get (plans_at c states) plan ≡ Some has → ⊥
    no_such plan same c has found = at (slice_get states c) refl where
      at : (slot : Option CircuitState) → slice_get states c ≡ slot → ⊥
      at None out_of = let h : None ≡ Some has = ap (λ slot. slice_get (plans_in slot) plan) (sym out_of) ∙ found in absurd cc
      at (Some before) there =
          let h : None ≡ Some has =
          sym (none c before there) ∙ ap (slice_get before.plans) same ∙ ap (λ slot. slice_get (plans_in slot) plan) (sym there) ∙ found in
          absurd cc

-- ---- what relays and server know after an event

pub circuits_after : (e : Event) (t : Topology) → (topology_after e t).circuits ≡ t.circuits
circuits_after (event.Frame circuit proto bytes) t = refl
circuits_after (event.Up circuit j now fault) t = refl
circuits_after (event.Batch now sync parts) t = refl
circuits_after (event.Down circuit j) t = refl
circuits_after (event.Tick now) t = refl
circuits_after (event.Restart images) t = refl
circuits_after (event.Reload plan) t = refl
circuits_after (event.StrayUp proto source bytes now) t = refl
circuits_after (event.StrayDown relay source bytes) t = refl
