-- One more event at the end of a run.
use Rattle.std.proofs.Common.{◌≡◌, ℕ, ◌+◌, ◌<◌, ◌≤◌, Bool, true, false, cond, eqb, ltb, List, [], ◌∷◌, ◌++◌, length, take, drop, get_or, refl, sym, ap, subst, ◌∙◌, arith, append_assoc, length-append, append-nil, eq-eqb, ltb-false}
use borrow.Author.Tests.{ltb-true}
use Rattle.std.specs.Prelude.{◌==◌, if◌then◌else◌, Option, Some, None}
use Rattle.std.specs.List.{cons_option}
use Rattle.std.specs.Option.{option_to_list}
use Rattle.std.proofs.lemmas.List.{take_more, take_all, take-append-drop, take-append-le}
use Rattle.std.proofs.lemmas.List.Elements.{filter_map-append}
use Rattle.std.proofs.lemmas.Bool.{eqb-true}
use Rattle.std.proofs.Math.Seq.{take-append_seam, take-nil}
use Rattle.relay.specs.SentFrame.{SentFrame}
use Rattle.relay.specs.Relays.{CircuitFrame}
use Rattle.world.specs.Alone.{Setup, Alone, Effect, Dropped, Gone, SentUp, SentDown, Framed, Done, alone_step, sent_frame, after_all, frames}
use Rattle.events.specs.Seen.{Seen, Frame, Up, Down, is_on_after, seen_of, seen_by, named_by, is_restart, reload_of}
use Rattle.world.specs.Headline.{batch_of, of_part, outcome_at, CircuitState, Represents, frames_to, frame_of, IsOutcome, Answers, after_seen, is_on_at, plans_at, seen_at, seen_from, Steps, Reaches, AreFrames, Emits, EmitsAt}
use Rattle.events.specs.Stray.{is_stray}
use Rattle.events.specs.declared.event.Event.{Event}
use Rattle.events.specs.declared.event.Event.TheVariants as event
use Rattle.events.specs.declared.outcome.Outcome.{Outcome}
use Rattle.events.specs.declared.outcome.Outcome.TheVariants as outcome
use Rattle.events.specs.declared.batch.PartOutcome.{PartOutcome}
use Rattle.events.specs.declared.batch.PartOutcome.TheVariants as part
use Rattle.events.specs.Batch.{outcome_of}

-- whether a circuit is on after all events
abbrev pub is_on_after_all : List Bool → Bool → List Event → Bool
is_on_after_all plans on [] = on
is_on_after_all plans on (e ∷ events) = is_on_after_all plans (is_on_after plans on e) events

-- What a run reaches, and which circuits are on then.
pub record Turned (events : List Event) (start now : List CircuitState) : Type 0 where
  pub count : length now ≡ length start
  pub plans : (c : ℕ) → plans_at c now ≡ plans_at c start
  pub turns : (c : ℕ) → is_on_at c now ≡ is_on_after_all (plans_at c start) (is_on_at c start) events
  pub each : (c : ℕ) (setup : Setup) (a : Alone) → Represents c start setup a → Represents c now setup (after_all setup (seen_from c start events) a)

pub turned_reaches : (events : List Event) (start now : List CircuitState) → Turned events start now → Reaches events start now
turned_reaches events start now turned = record { count = turned.count; plans = turned.plans; each = turned.each }

-- the frames towards circuit c
abbrev towards : ℕ → CircuitFrame → Option SentFrame
towards c sent = if sent.circuit == c then Some sent.frame else None

seen_alone : (o : Option Seen) → cons_option o [] ≡ option_to_list o
seen_alone None = refl
seen_alone (Some s) = refl

seen_first : (o : Option Seen) (xs ys : List Seen) → cons_option o (xs ++ ys) ≡ cons_option o xs ++ ys
seen_first None xs ys = refl
seen_first (Some s) xs ys = refl

after_all-append : (setup : Setup) (xs ys : List Seen) (a : Alone) → after_all setup (xs ++ ys) a ≡ after_all setup ys (after_all setup xs a)
unfolding after_all
after_all-append setup [] ys a = refl
after_all-append setup (x ∷ xs) ys a = after_all-append setup xs ys _

frames-append : (setup : Setup) (xs ys : List Seen) (a : Alone) → frames setup (xs ++ ys) a ≡ frames setup xs a ++ frames setup ys (after_all setup xs a)
unfolding after_all frames
frames-append setup [] ys a = refl
frames-append setup (x ∷ xs) ys a =
    ap (λ fs. sent_frame (alone_step setup x a).effect ++ fs) (frames-append setup xs ys _) ∙ sym (append_assoc (sent_frame (alone_step setup x a).effect) _ _)

after_list : (setup : Setup) (o : Option Seen) (b : Alone) → after_all setup (option_to_list o) b ≡ after_seen setup o b
unfolding after_all
after_list setup None b = refl
after_list setup (Some s) b = refl

-- what a circuit sees of one event more
seen_more : (plans : List Bool) (c : ℕ) (on : Bool) (es : List Event) (e : Event)
    → seen_by plans c on (es ++ e ∷ []) ≡ seen_by plans c on es ++ option_to_list (seen_of plans c (is_on_after_all plans on es) e)
unfolding seen_by
seen_more plans c on [] e = seen_alone (seen_of plans c on e)
seen_more plans c on (x ∷ es) e =
    ap (cons_option (seen_of plans c on x)) (seen_more plans c (is_on_after plans on x) es e)
    ∙ seen_first (seen_of plans c on x) (seen_by plans c (is_on_after plans on x) es) _

on_more : (plans : List Bool) (on : Bool) (es : List Event) (e : Event) → is_on_after_all plans on (es ++ e ∷ []) ≡ is_on_after plans (is_on_after_all plans on es) e
on_more plans on [] e = refl
on_more plans on (x ∷ es) e = on_more plans (is_on_after plans on x) es e

-- from the state that a run reached
seen_next : (es : List Event) (e : Event) (start now : List CircuitState) → Turned es start now → (c : ℕ) → seen_from c start (es ++ e ∷ []) ≡ seen_from c start es ++ option_to_list (seen_at c now e)
seen_next es e start now reaches c =
    seen_more (plans_at c start) c (is_on_at c start) es e
    ∙ ap (λ s. seen_from c start es ++ option_to_list s) (λ i. seen_of (sym (reaches.plans c) i) c (sym (reaches.turns c) i) e)

-- the machine after one event more
after_one : (setup : Setup) (es : List Event) (e : Event) (start now : List CircuitState) → Turned es start now → (c : ℕ) (a : Alone)
    → after_all setup (seen_from c start (es ++ e ∷ [])) a ≡ after_seen setup (seen_at c now e) (after_all setup (seen_from c start es) a)
after_one setup es e start now reaches c a =
    ap (λ seen. after_all setup seen a) (seen_next es e start now reaches c)
    ∙ after_all-append setup (seen_from c start es) (option_to_list (seen_at c now e)) a ∙ after_list setup (seen_at c now e) (after_all setup (seen_from c start es) a)

-- a frame of circuit c goes towards c
frame_towards : (c : ℕ) (frame : SentFrame) → frames_to c (record { circuit = c; frame = frame } ∷ []) ≡ frame ∷ []
frame_towards c frame = rw (eq-eqb c c refl) refl

by_effect : (c : ℕ) (f : Effect) (o : Outcome) (out : List ℕ) → IsOutcome c f o out → frames_to c (frame_of o out) ≡ sent_frame f
by_effect c (Dropped reason) o out h = ap (λ v. frames_to c (frame_of v out)) h.0
by_effect c Gone o out h = ap (λ v. frames_to c (frame_of v out)) h.0
by_effect c (SentUp len) o out h = ap (λ v. frames_to c (frame_of v out)) h.0
by_effect c (SentDown len) o out h = ap (λ v. frames_to c (frame_of v out)) h.0
by_effect c (Framed frame) o out h =
    ap (λ v. frames_to c (frame_of v out)) h.0 ∙ ap (λ bytes. frames_to c (frame_of (outcome.Framed c frame.dest) bytes)) h.1 ∙ frame_towards c frame
by_effect c Done o out h = ap (λ v. frames_to c (frame_of v out)) h.0

-- no frame leaves with a batch
no_frame_with : (part : Option PartOutcome) (out : List ℕ) → frame_of (of_part part) out ≡ []
no_frame_with None out = refl
no_frame_with (Some part.Gone) out = refl
no_frame_with (Some (part.Dropped reason)) out = refl
no_frame_with (Some (part.SentDown len)) out = refl

batch_frames : (c now sync : ℕ) (parts : _) (o : Outcome) (out : List ℕ) → frame_of (outcome_at c (event.Batch now sync parts) o) out ≡ frame_of o out
batch_frames c now sync parts (outcome.Dropped reason) out = refl
batch_frames c now sync parts outcome.Gone out = refl
batch_frames c now sync parts (outcome.SentUp len) out = refl
batch_frames c now sync parts (outcome.SentDown len) out = refl
batch_frames c now sync parts (outcome.Framed circuit dest) out = refl
batch_frames c now sync parts outcome.Done out = refl
batch_frames c now sync parts (outcome.Batched outcomes) out = no_frame_with (outcome_of c parts.now outcomes) out
batch_frames c now sync parts outcome.NotABatch out = refl
batch_frames c now sync parts outcome.NotAStray out = refl
batch_frames c now sync parts outcome.NoPlan out = refl

pub same_frames : (c : ℕ) (e : Event) (o : Outcome) (out : List ℕ) → frame_of (outcome_at c e o) out ≡ frame_of o out
same_frames c (event.Frame circuit proto bytes) o out = refl
same_frames c (event.Up circuit j now fault) o out = refl
same_frames c (event.Batch now sync parts) o out = batch_frames c now sync parts o out
same_frames c (event.Down circuit j) o out = refl
same_frames c (event.Tick now) o out = refl
same_frames c (event.Restart images) o out = refl
same_frames c (event.Reload plan) o out = refl
same_frames c (event.StrayUp proto source bytes now) o out = refl
same_frames c (event.StrayDown relay source bytes) o out = refl

-- what leaves towards c with one event is what its machine lets leave
sent_with_one : (setup : Setup) (c : ℕ) (s : Option Seen) (b : Alone) (o : Outcome) (out : List ℕ) → Answers c setup s b o out → frames_to c (frame_of o out) ≡ frames setup (option_to_list s) b
unfolding frames
sent_with_one setup c None b o out h = h
sent_with_one setup c (Some s) b o out h = by_effect c (alone_step setup s b).effect o out h ∙ sym (append-nil (sent_frame (alone_step setup s b).effect))

pub reaches_more : (es : List Event) (e : Event) (start now new : List CircuitState) (o : Outcome) (out : List ℕ) → Turned es start now → Steps e now new o out → Turned (es ++ e ∷ []) start new
reaches_more es e start now new o out reaches steps = record {
  count = steps.count ∙ reaches.count;
  plans = λ c. steps.plans c ∙ reaches.plans c;
  turns = λ c. steps.turns c ∙ (λ i. is_on_after (reaches.plans c i) (reaches.turns c i) e) ∙ sym (on_more (plans_at c start) (is_on_at c start) es e);
  each = λ c setup a here.
      let P : Alone → Type 0 = λ b. Represents c new setup b in
      subst P (sym (after_one setup es e start now reaches c a)) (steps.each c setup _ (reaches.each c setup a here));
}

-- the frames with one event more
frames_more : (es : List Event) (e : Event) (start now new : List CircuitState) (o : Outcome) (out : List ℕ) → Turned es start now → Steps e now new o out
    → (c : ℕ) (setup : Setup) (a : Alone) → Represents c start setup a
    → frames setup (seen_from c start (es ++ e ∷ [])) a ≡ frames setup (seen_from c start es) a ++ frames_to c (frame_of o out)
frames_more es e start now new o out reaches steps c setup a here =
    ap (λ seen. frames setup seen a) (seen_next es e start now reaches c)
    ∙ frames-append setup (seen_from c start es) (option_to_list (seen_at c now e)) a
    ∙ ap (λ fs. frames setup (seen_from c start es) a ++ fs)
    (sym (sent_with_one setup c (seen_at c now e) _ (outcome_at c e o) out (steps.answers c setup _ (reaches.each c setup a here))) ∙ ap (frames_to c) (same_frames c e o out))

same_name : {k m : ℕ} → Some m ≡ Some k → eqb m k ≡ true
same_name {k} {m} h = eq-eqb m k cc

seen_answer : (k m : ℕ) (s : Seen) (setup : Setup) (b : Alone) (o : Outcome) (out : List ℕ) → eqb m k ≡ true
    → Answers k setup (cond (eqb m k) (Some s) None) b o out → (f : Effect) × IsOutcome k f o out
seen_answer k m s setup b o out is h = ((alone_step setup s b).effect, rw is at h)

-- a circuit sees the event that names it, so the outcome is its machine's
its_answer : (k : ℕ) (old : List CircuitState) (e : Event) (setup : Setup) (b : Alone) (o : Outcome) (out : List ℕ) → named_by e ≡ Some k → Answers k setup (seen_at k old e) b (outcome_at k e o) out → (f : Effect) × IsOutcome k f o out
its_answer k old (event.Frame circuit proto bytes) setup b o out named h = seen_answer k circuit (Frame proto bytes.now) setup b o out (same_name named) h
its_answer k old (event.Up circuit j now fault) setup b o out named h = seen_answer k circuit (Up j now fault) setup b o out (same_name named) h
its_answer k old (event.Down circuit j) setup b o out named h = seen_answer k circuit (Down j) setup b o out (same_name named) h
its_answer k old (event.Batch now sync parts) setup b o out named h = absurd cc
its_answer k old (event.Tick now) setup b o out named h = absurd cc
its_answer k old (event.Restart images) setup b o out named h = absurd cc
its_answer k old (event.Reload plan) setup b o out named h = absurd cc
its_answer k old (event.StrayUp proto source bytes now) setup b o out named h = absurd cc
its_answer k old (event.StrayDown relay source bytes) setup b o out named h = absurd cc

-- ---- towards a circuit that doesn't exist

-- towards another circuit the frame of circuit k's effect does not leave
pub away_from : (k c : ℕ) (f : Effect) (o : Outcome) (out : List ℕ) → IsOutcome k f o out → eqb k c ≡ false → frames_to c (frame_of o out) ≡ []
away_from k c (Framed frame) o out h other = ap (λ v. frames_to c (frame_of v out)) h.0 ∙ rw other refl
away_from k c (Dropped reason) o out h other = ap (λ v. frames_to c (frame_of v out)) h.0
away_from k c Gone o out h other = ap (λ v. frames_to c (frame_of v out)) h.0
away_from k c (SentUp len) o out h other = ap (λ v. frames_to c (frame_of v out)) h.0
away_from k c (SentDown len) o out h other = ap (λ v. frames_to c (frame_of v out)) h.0
away_from k c Done o out h other = ap (λ v. frames_to c (frame_of v out)) h.0

-- no frame leaves towards a circuit past the end
past_step : (e : Event) (old new : List CircuitState) (o : Outcome) (out : List ℕ) → Steps e old new o out → (c : ℕ) → length old ≤ c → frames_to c (frame_of o out) ≡ []
past_step e old new o out steps c past = by_name e refl where
  silent : (v : Outcome) → o ≡ v → frame_of v out ≡ [] → frames_to c (frame_of o out) ≡ []
  silent v is none = ap (λ w. frames_to c (frame_of w out)) is ∙ ap (frames_to c) none

  -- the event names c itself, which doesn't exist, or another circuit
  at_name : (k : ℕ) → named_by e ≡ Some k → (b : Bool) → eqb k c ≡ b → (eqb k c ≡ false → seen_at c old e ≡ None) → frames_to c (frame_of o out) ≡ []
  at_name k named true same blind = silent outcome.Gone (steps.gone k named (subst (λ n. length old ≤ n) (sym (eqb-true k c same)) past)).0 refl
  at_name k named false other blind = steps.away c (blind other)

  by_name : (v : Event) → e ≡ v → frames_to c (frame_of o out) ≡ []
  by_name (event.Frame circuit proto bytes) is = at_name circuit (ap named_by is) (eqb circuit c) refl (λ other. ap (seen_at c old) is ∙ rw other refl)
  by_name (event.Up circuit j now fault) is = at_name circuit (ap named_by is) (eqb circuit c) refl (λ other. ap (seen_at c old) is ∙ rw other refl)
  by_name (event.Down circuit j) is = at_name circuit (ap named_by is) (eqb circuit c) refl (λ other. ap (seen_at c old) is ∙ rw other refl)
  by_name (event.Batch now sync parts) is = ap (frames_to c) (steps.batched parts.now (ap batch_of is)).silent.0
  by_name (event.Tick now) is = silent outcome.Done (steps.ticked now is).0 refl
  by_name (event.Restart images) is = silent outcome.Done (steps.restarted (ap is_restart is)).0 refl
  by_name (event.Reload plan) is = ap (frames_to c) (steps.reloaded plan (ap reload_of is)).silent.0
  by_name (event.StrayUp proto source bytes now) is = ap (frames_to c) (steps.stray (ap is_stray is)).0
  by_name (event.StrayDown relay source bytes) is = ap (frames_to c) (steps.stray (ap is_stray is)).0

-- ---- the frames with one event more

-- The first of these frames are those of a run.
record BeginsWith (events : List Event) (start : List CircuitState) (sent : List CircuitFrame) : Type 0 where
  first : List CircuitFrame
  rest : List CircuitFrame
  split : sent ≡ first ++ rest
  are_frames : AreFrames events start first

-- the same by how many they are
begins_by : (events : List Event) (start : List CircuitState) (sent : List CircuitFrame) → (m : ℕ) × AreFrames events start (take m sent) → BeginsWith events start sent
begins_by events start sent (m, are) = record { first = take m sent; rest = drop m sent; split = sym (take-append-drop m sent); are_frames = are }

how_many : (events : List Event) (start : List CircuitState) (sent : List CircuitFrame) → BeginsWith events start sent → (m : ℕ) × AreFrames events start (take m sent)
how_many events start sent begins = (
  length begins.first,
  subst (AreFrames events start) (sym (ap (take (length begins.first)) begins.split ∙ take-append_seam begins.first begins.rest)) begins.are_frames,
)

module _ (es : List Event) (e : Event) (start now new : List CircuitState) (o : Outcome) (out : List ℕ) (reaches : Turned es start now) (steps : Steps e now new o out) where
  are_frames_more : (sent : List CircuitFrame) → AreFrames es start sent → AreFrames (es ++ e ∷ []) start (sent ++ frame_of o out)
  are_frames_more sent are = record {
    each = λ c setup a here.
        filter_map-append (towards c) sent (frame_of o out) ∙ ap (λ fs. fs ++ frames_to c (frame_of o out)) (are.each c setup a here)
        ∙ sym (frames_more es e start now new o out reaches steps c setup a here);
    past = λ c far.
        filter_map-append (towards c) sent (frame_of o out) ∙ ap (λ fs. fs ++ frames_to c (frame_of o out)) (are.past c far)
        ∙ past_step e now new o out steps c (subst (λ n. n ≤ c) (sym reaches.count) far);
  }

  -- the frames of the events before lead what is sent with one frame more
  begins_more : (sent : List CircuitFrame) (n : ℕ) → n ≤ length es → BeginsWith (take n es) start sent → BeginsWith (take n (es ++ e ∷ [])) start (sent ++ frame_of o out)
  begins_more sent n few begins = record {
    first = begins.first;
    rest = begins.rest ++ frame_of o out;
    split = ap (λ fs. fs ++ frame_of o out) begins.split ∙ append_assoc begins.first begins.rest (frame_of o out);
    are_frames = subst (λ events. AreFrames events start begins.first) (sym (take-append-le n es (e ∷ []) few)) begins.are_frames;
  }

  -- the frames of all events
  begins_all : (sent : List CircuitFrame) (n : ℕ) → length es < n → AreFrames es start sent → BeginsWith (take n (es ++ e ∷ [])) start (sent ++ frame_of o out)
  begins_all sent n all are = record {
    first = sent ++ frame_of o out;
    rest = [];
    split = sym (append-nil (sent ++ frame_of o out));
    are_frames = subst (λ events. AreFrames events start (sent ++ frame_of o out)) (sym (take_all n (es ++ e ∷ []) (whole all))) (are_frames_more sent are);
  }
    where
      whole : length es < n → length (es ++ e ∷ []) ≤ n
      whole all = subst (λ m. m ≤ n) (sym (length-append es (e ∷ []))) (omega (arith, all))

  begins : (sent : List CircuitFrame) → AreFrames es start sent → ((n : ℕ) → BeginsWith (take n es) start sent) → (n : ℕ) → BeginsWith (take n (es ++ e ∷ [])) start (sent ++ frame_of o out)
  begins sent are in_order n = by (ltb (length es) n) refl where
    by : (b : Bool) → ltb (length es) n ≡ b → BeginsWith (take n (es ++ e ∷ [])) start (sent ++ frame_of o out)
    by true all = begins_all sent n (ltb-true (length es) n all) are
    by false few = begins_more sent n (ltb-false (length es) n few) (in_order n)

pub emits_more : (es : List Event) (e : Event) (start now new : List CircuitState) (o : Outcome) (out : List ℕ) (before taken taken' : List CircuitFrame)
    → Emits es start before taken → Turned es start now → Steps e now new o out → taken' ≡ taken ++ frame_of o out → Emits (es ++ e ∷ []) start before taken'
emits_more es e start now new o out before taken taken' emits reaches steps more = record {
  sent = emits.sent ++ frame_of o out;
  taken = more ∙ ap (λ fs. fs ++ frame_of o out) emits.taken ∙ append_assoc before emits.sent (frame_of o out);
  are_frames = are_frames_more es e start now new o out reaches steps emits.sent emits.are_frames;
  in_order = λ n.
      how_many _ start _ (begins es e start now new o out reaches steps emits.sent emits.are_frames (λ k. begins_by _ start emits.sent (emits.in_order k)) n);
}

none_is_one : {n : ℕ} → n ≡ 0 → n ≡ 1 → ⊥
none_is_one h k = omega (arith, h, k)

-- a frame that left with circuit k's effect left towards k
counts_its : (k : ℕ) (f : Effect) (o : Outcome) (out : List ℕ) → IsOutcome k f o out → length (frame_of o out) ≡ 1 → length (frames_to k (frame_of o out)) ≡ 1
counts_its k (Framed frame) o out h one = ap length (by_effect k (Framed frame) o out h)
counts_its k (Dropped reason) o out h one = absurd (none_is_one (ap (λ v. length (frame_of v out)) h.0) one)
counts_its k Gone o out h one = absurd (none_is_one (ap (λ v. length (frame_of v out)) h.0) one)
counts_its k (SentUp len) o out h one = absurd (none_is_one (ap (λ v. length (frame_of v out)) h.0) one)
counts_its k (SentDown len) o out h one = absurd (none_is_one (ap (λ v. length (frame_of v out)) h.0) one)
counts_its k Done o out h one = absurd (none_is_one (ap (λ v. length (frame_of v out)) h.0) one)

-- one of the events, which `run` takes at n
module _ (events : List Event) (n : ℕ) (e : Event) (there : n < length events) (is : e ≡ get_or events n e) where
  one_more : take (n + 1) events ≡ take n events ++ e ∷ []
  one_more = take_more events n e there ∙ ap (λ x. take n events ++ x ∷ []) (sym is)

  pub reaches_next : (start now new : List CircuitState) (o : Outcome) (out : List ℕ) → Turned (take n events) start now → Steps e now new o out → Turned (take (n + 1) events) start new
  reaches_next start now new o out reaches steps =
      let P : List Event → Type 0 = λ es. Turned es start new in
      subst P (sym one_more) (reaches_more (take n events) e start now new o out reaches steps)

  pub emits_next : (start now new : List CircuitState) (o : Outcome) (out : List ℕ) (before taken taken' : List CircuitFrame)
      → Emits (take n events) start before taken → Turned (take n events) start now → Steps e now new o out → taken' ≡ taken ++ frame_of o out → Emits (take (n + 1) events) start before taken'
  emits_next start now new o out before taken taken' emits reaches steps more =
      let P : List Event → Type 0 = λ es. Emits es start before taken' in
      subst P (sym one_more) (emits_more (take n events) e start now new o out before taken taken' emits reaches steps more)

  -- the frame that left is the one of the circuit that the event names
  counted : (start now new : List CircuitState) (o : Outcome) (out : List ℕ) → Turned (take n events) start now → Steps e now new o out
      → (k : ℕ) → named_by e ≡ Some k → length (frame_of o out) ≡ 1 → (there : Bool) → ltb k (length start) ≡ there → EmitsAt n events start
  counted start now new o out reaches steps k named one true there = record {
    circuit = k;
    there = ltb-true k (length start) there;
    more = λ setup a here.
        let answer = its_answer k now e setup _ o out named (steps.answers k setup _ (reaches.each k setup a here)) in
        ap (λ es. length (frames setup (seen_from k start es) a)) one_more
        ∙ ap length (frames_more (take n events) e start now new o out reaches steps k setup a here)
        ∙ length-append (frames setup (seen_from k start (take n events)) a) (frames_to k (frame_of o out))
        ∙ ap (λ m. length (frames setup (seen_from k start (take n events)) a) + m) (counts_its k answer.0 o out answer.1 one);
  }
  counted start now new o out reaches steps k named one false there =
      let far : length start ≤ k = ltb-false k (length start) there in
      let gone : length now ≤ k = omega (arith, reaches.count) in
      absurd (none_is_one (ap (λ v. length (frame_of v out)) (steps.gone k named gone).0 ∙ refl) one)

  pub emits_at : (start now new : List CircuitState) (o : Outcome) (out : List ℕ) → Turned (take n events) start now → Steps e now new o out → length (frame_of o out) ≡ 1 → EmitsAt n events start
  emits_at start now new o out reaches steps one = by_event e refl where
    by_event : (v : Event) → e ≡ v → EmitsAt n events start
    by_event (event.Frame circuit proto bytes) is = counted start now new o out reaches steps circuit (ap named_by is) one (ltb circuit (length start)) refl
    by_event (event.Up circuit j moment fault) is = counted start now new o out reaches steps circuit (ap named_by is) one (ltb circuit (length start)) refl
    by_event (event.Down circuit j) is = counted start now new o out reaches steps circuit (ap named_by is) one (ltb circuit (length start)) refl
    by_event (event.Batch moment sync parts) is = absurd (none_is_one (ap length (steps.batched parts.now (ap batch_of is)).silent.0) one)
    by_event (event.Tick moment) is = absurd (none_is_one (ap (λ v. length (frame_of v out)) (steps.ticked moment is).0) one)
    by_event (event.Restart images) is = absurd (none_is_one (ap (λ v. length (frame_of v out)) (steps.restarted (ap is_restart is)).0) one)
    by_event (event.Reload plan) is = absurd (none_is_one (ap length (steps.reloaded plan (ap reload_of is)).silent.0) one)
    by_event (event.StrayUp proto source bytes moment) is = absurd (none_is_one (ap length (steps.stray (ap is_stray is)).0) one)
    by_event (event.StrayDown relay source bytes) is = absurd (none_is_one (ap length (steps.stray (ap is_stray is)).0) one)

pub reaches_nothing : (start : List CircuitState) → Turned [] start start
unfolding after_all seen_by
reaches_nothing start = record { count = refl; plans = λ c. refl; turns = λ c. refl; each = λ c setup a here. here }

pub emits_nothing : (start : List CircuitState) (taken : List CircuitFrame) → Emits [] start taken taken
unfolding frames seen_by
emits_nothing start taken = record { sent = []; taken = sym (append-nil taken); are_frames = no_frames; in_order = λ n. nothing n (take n []) (take-nil n) } where
  no_frames : AreFrames [] start []
  no_frames = record { each = λ c setup a here. refl; past = λ c far. refl }

  nothing : (n : ℕ) (events : List Event) → events ≡ [] → (m : ℕ) × AreFrames events start (take m [])
  nothing n events is = (0, subst (λ es. AreFrames es start []) (sym is) no_frames)
