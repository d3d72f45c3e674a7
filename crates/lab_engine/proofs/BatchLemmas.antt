-- A step of a batch as the result of its line.
use Rattle.std.proofs.Common.{◌≡◌, ℕ, zero, suc, ◌<◌, Bool, true, false, cond, eqb, eqb-true, eq-eqb, List, [], ◌∷◌, length, map, take, refl, ap, sym, subst, ◌∙◌, arith}
use Rattle.std.specs.Prelude.{Option, Some, None, not, ◌||◌, ◌&&◌, nat_le, slice_get}
use Rattle.std.specs.Borrow.{Bor}
use Rattle.std.specs.Io.KnownBytes.{Appends}
use Rattle.std.proofs.lemmas.Option.{same_Some}
use Rattle.settings.specs.declared.settings.CircuitConfig.{CircuitConfig}
use Rattle.config.specs.Plans.{PlansValue}
use Rattle.events.specs.Batch.{are_apart, is_named, outcome_of, part_of}
use Rattle.events.specs.Seen.{seen_part}
use Rattle.events.specs.declared.batch.BatchPart.{BatchPart}
use Rattle.events.specs.declared.batch.PartOutcome.{PartOutcome}
use Rattle.events.specs.declared.batch.PartOutcome.TheVariants as part
use Rattle.events.specs.declared.event.Event.TheVariants as event
use Rattle.events.specs.declared.outcome.Outcome.{Outcome}
use Rattle.events.specs.declared.outcome.Outcome.TheVariants as outcome
use Rattle.world.specs.Alone.{Alone, Effect, Dropped, Gone, SentUp, SentDown, Framed, Done, alone_step}
use Rattle.world.specs.Headline.{Answers, CircuitState, IsListed, IsOutcome, Represents, Steps, after_seen, of_part, seen_at}
use Rattle.world.specs.Start.{setup_in}
use Rattle.lab_text.specs.Line.{Batch}
use Rattle.lab_text.specs.ParsedLine.{IsBatchWithin}
use Rattle.streams.specs.Writing.{AppendsPrefix}
use Rattle.lab_engine.specs.Progress.{AllRepresent, HasResult}
use Rattle.lab_engine.specs.Lab.{batched, text_of_part, line_result, part_seen}
use Rattle.lab_engine.specs.Output.{batch_text, effect_text, joined, outcome_effect, part_text, with_newline}
use Rattle.lab_engine.proofs.LineResultLemmas.{effect_is, found_at}

-- ---- what came of a part

not_none : (c : ℕ) (f : Effect) (out : List ℕ) → IsOutcome c f outcome.NotABatch out → ⊥
not_none c (Dropped why) out h = let e = h.0 in cc
not_none c Gone out h = let e = h.0 in cc
not_none c (SentUp len) out h = let e = h.0 in cc
not_none c (SentDown len) out h = let e = h.0 in cc
not_none c (Framed frame) out h = let e = h.0 in cc
not_none c Done out h = let e = h.0 in cc

-- something came of it, and its text is this
abbrev HasText : List ℕ → Option PartOutcome → Type 0
HasText text None = ⊥
HasText text (Some o) = part_text (Some o) ≡ text

same_text : (id out : List ℕ) (o : PartOutcome) → part_text (Some o) ≡ effect_text id (outcome_effect (of_part (Some o)) out)
same_text id out (part.Dropped why) = refl
same_text id out part.Gone = refl
same_text id out (part.SentDown len) = refl

answered : (c : ℕ) (id out : List ℕ) (f : Effect) (o : Option PartOutcome) → IsOutcome c f (of_part o) out → HasText (effect_text id f) o
answered c id out f None h = not_none c f out h
answered c id out f (Some o) h = same_text id out o ∙ ap (effect_text id) (effect_is c f (of_part (Some o)) out h)

text_of : (text : List ℕ) (o : Option PartOutcome) → HasText text o → part_text o ≡ text
text_of text None h = absurd h
text_of text (Some o) h = h

-- ---- the part of a circuit

left : (a b : Bool) → (a && b) ≡ true → a ≡ true
left true b h = refl
left false b h = h

right : (a b : Bool) → (a && b) ≡ true → b ≡ true
right true b h = h
right false b h = absurd (cc)

own : (p : BatchPart) (parts : List BatchPart) → part_of p.circuit (p ∷ parts) ≡ Some p
own p parts = ap (λ t. cond t (Some p) (part_of p.circuit parts)) (eq-eqb p.circuit p.circuit refl)

named_at : (t again : Bool) (q p : BatchPart) (found : Option BatchPart) → cond t (Some q) found ≡ Some p → (found ≡ Some p → again ≡ true) → (t || again) ≡ true
named_at true again q p found h later = refl
named_at false again q p found h later = later h

named : (c : ℕ) (parts : List BatchPart) (p : BatchPart) → part_of c parts ≡ Some p → is_named c parts ≡ true
named c [] p h = absurd (cc)
named c (q ∷ parts) p h = named_at (eqb q.circuit c) (is_named c parts) q p (part_of c parts) h (named c parts p)

known_at : (t : Bool) (n : ℕ) (q p : BatchPart) (found : Option BatchPart) → cond t (Some q) found ≡ Some p → q.circuit < n → (found ≡ Some p → p.circuit < n) → p.circuit < n
known_at true n q p found h here later = subst (λ (r : BatchPart). r.circuit < n) (same_Some _ _ h) here
known_at false n q p found h here later = later h

known : (n c : ℕ) (parts : List BatchPart) (p : BatchPart) → ((i : ℕ) (q : BatchPart) → slice_get parts i ≡ Some q → q.circuit < n) → part_of c parts ≡ Some p → p.circuit < n
known n c [] p each h = absurd (cc)
known n c (q ∷ parts) p each h = known_at (eqb q.circuit c) n q p (part_of c parts) h (each 0 q refl) (known n c parts p (λ i r there. each (suc i) r there))

-- what is found after a part of another circuit
other_at : (t : Bool) (c d : ℕ) (again : Bool) → eqb c d ≡ t → (c ≡ d → again ≡ true) → not again ≡ true → t ≡ false
other_at true c d true e same fresh = absurd (cc)
other_at true c d false e same fresh = sym (same (eqb-true c d e))
other_at false c d again e same fresh = refl

other : (q p : BatchPart) (parts : List BatchPart) → not (is_named q.circuit parts) ≡ true → part_of p.circuit parts ≡ Some p → eqb q.circuit p.circuit ≡ false
other q p parts fresh h =
    other_at (eqb q.circuit p.circuit) q.circuit p.circuit (is_named q.circuit parts) refl (λ same. ap (λ c. is_named c parts) same ∙ named p.circuit parts p h) fresh

-- ---- the texts of all parts

texts_are : (text : BatchPart → List ℕ) (parts : List BatchPart) (outcomes : List (Option PartOutcome)) → are_apart parts ≡ true
    → ((p : BatchPart) → part_of p.circuit parts ≡ Some p → HasText (text p) (outcome_of p.circuit parts outcomes)) → map part_text (take (length parts) outcomes) ≡ map text parts
texts_are text [] outcomes apart each = refl
texts_are text (p ∷ parts) [] apart each = absurd (each p (own p parts))
texts_are text (p ∷ parts) (o ∷ outcomes) apart each =
    let fresh = left (not (is_named p.circuit parts)) (are_apart parts) apart in
    let here : HasText (text p) o = subst (λ t. HasText (text p) (cond t o (outcome_of p.circuit parts outcomes))) (eq-eqb p.circuit p.circuit refl) (each p (own p parts)) in
    ap (λ t. t ∷ map part_text (take (length parts) outcomes)) (text_of (text p) o here)
    ∙ ap (λ texts. text p ∷ texts) (texts_are text parts outcomes (right (not (is_named p.circuit parts)) (are_apart parts) apart) (λ q there.
    let apart_from = other p q parts fresh there in
    subst (λ t. HasText (text q) (cond t o (outcome_of q.circuit parts outcomes))) apart_from (each q (ap (λ t. cond t (Some p) (part_of q.circuit parts)) apart_from ∙ there))))

-- the element of an index that there is
pub record Found (circuits : List CircuitConfig) (i : ℕ) : Type 0 where
  pub circuit : CircuitConfig
  pub there : slice_get circuits i ≡ Some circuit

found_below : (circuits : List CircuitConfig) (i : ℕ) → i < length circuits → Found circuits i
found_below [] i h = absurd (omega arith)
found_below (circuit ∷ circuits) zero h = record { circuit = circuit; there = refl }
found_below (circuit ∷ circuits) (suc i) h = let at = found_below circuits i (omega arith) in record { circuit = at.circuit; there = at.there }

module _ (plans : PlansValue) (quota now sync : ℕ) (parts : Bor (List BatchPart)) (states new : List CircuitState) (out : List ℕ) (machines : ℕ → Alone) (within : IsBatchWithin plans.union parts.now) (represents : AllRepresent plans quota states machines) where
  abbrev text : BatchPart → List ℕ
  text p = text_of_part now sync p (machines p.circuit) (setup_in plans quota p.circuit)

  sees : (p : BatchPart) → part_of p.circuit parts.now ≡ Some p → seen_at p.circuit states (event.Batch now sync parts) ≡ Some (part_seen now sync p)
  sees p there = ap (λ t. cond t (seen_part now sync (part_of p.circuit parts.now)) None) within.batch ∙ ap (seen_part now sync) there

  part_is : (outcomes : List (Option PartOutcome)) → Steps (event.Batch now sync parts) states new (outcome.Batched outcomes) out → (p : BatchPart) → part_of p.circuit parts.now ≡ Some p
      → HasText (text p) (outcome_of p.circuit parts.now outcomes)
  part_is outcomes steps p there =
      let c = p.circuit in
      let circuit = found_below plans.union.circuits c (known (length plans.union.circuits) c parts.now p within.known there) in
      let at = found_at plans quota c circuit.circuit circuit.there in
      let answers : Answers c at.setup (Some (part_seen now sync p)) (machines c) (of_part (outcome_of c parts.now outcomes)) out =
      subst (λ s. Answers c at.setup s (machines c) (of_part (outcome_of c parts.now outcomes)) out) (sees p there) (steps.answers c at.setup (machines c) (represents.each c at.setup at.is)) in
      subst (λ s. HasText (text_of_part now sync p (machines c) s) (outcome_of c parts.now outcomes)) (sym at.is)
      (answered c at.setup.part.id out (alone_step at.setup (part_seen now sync p) (machines c)).effect (outcome_of c parts.now outcomes) answers)

  line_is : (o : Outcome) → IsListed (length parts.now) o → Steps (event.Batch now sync parts) states new o out → batch_text o (length parts.now) ≡ joined (map text parts.now)
  line_is (outcome.Batched outcomes) has steps =
      ap joined (texts_are text parts.now outcomes (right (nat_le 1 (length parts.now) && nat_le (length parts.now) 16) (are_apart parts.now) within.batch) (part_is outcomes steps))
  line_is (outcome.Dropped why) has steps = absurd has
  line_is outcome.Gone has steps = absurd has
  line_is (outcome.SentUp len) has steps = absurd has
  line_is (outcome.SentDown len) has steps = absurd has
  line_is (outcome.Framed c dest) has steps = absurd has
  line_is outcome.Done has steps = absurd has
  line_is outcome.NotABatch has steps = absurd has
  line_is outcome.NotAStray has steps = absurd has
  line_is outcome.NoPlan has steps = absurd has

  each_is : (o : Outcome) → Steps (event.Batch now sync parts) states new o out → AllRepresent plans quota new (λ c. batched now sync (part_of c parts.now) (machines c) (setup_in plans quota c))
  each_is o steps = record {
    each = λ c setup h.
        subst (λ s. Represents c new setup (batched now sync (part_of c parts.now) (machines c) s)) (sym h)
        (subst (λ t. Represents c new setup (after_seen setup (cond t (seen_part now sync (part_of c parts.now)) None) (machines c))) within.batch
        (steps.each c setup (machines c) (represents.each c setup h)));
    members = λ c. steps.plans c ∙ represents.members c;
  }

  -- a batch whose output was written
  pub batch_applied : (number : ℕ) (o : Outcome) (held holds : Option (List ℕ)) → Steps (event.Batch now sync parts) states new o out → Appends held holds (with_newline (batch_text o (length parts.now)))
      → HasResult plans quota number (line_result plans quota machines (Batch now sync parts.now)) new held holds None
  batch_applied number o held holds steps written = record {
    appended = subst (λ line. Appends held holds (with_newline line)) (line_is o ((steps.batched parts.now refl).listed within.batch) steps) written;
    represents = each_is o steps;
  }

  -- and one where the writer failed
  pub batch_not_written : (number : ℕ) (o : Outcome) (held holds : Option (List ℕ)) → Steps (event.Batch now sync parts) states new o out → AppendsPrefix held holds (with_newline (batch_text o (length parts.now)))
      → HasResult plans quota number (line_result plans quota machines (Batch now sync parts.now)) new held holds (Some 6)
  batch_not_written number o held holds steps written =
      (refl, subst (λ line. AppendsPrefix held holds (with_newline line)) (line_is o ((steps.batched parts.now refl).listed within.batch) steps) written)
