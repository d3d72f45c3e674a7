use Rattle.std.proofs.Common.{◌≡◌, ℕ, zero, suc, set, ◌<◌, ap, refl, length, length-set, ◌∙◌, arith, rules}
use Rattle.std.specs.Prelude.{None, Some, Option, replicate, slice_get}
use Rattle.std.proofs.lemmas.Option.{slice_get_within}
use Rattle.events.specs.declared.batch.PartOutcome.{PartOutcome}
use Rattle.events.specs.declared.batch.BatchPart.{BatchPart}
use Rattle.world.specs.Batch.{outcome_for}
use Rattle.world.proofs.BatchLoops.{done_set}
use Rattle.world.proofs.StateLemmas.{get_set_other}
use Rattle.world.proofs.world.batch.outcomes_of.Goals as goal

pub parts-preserved : goal.parts-preserved
parts-preserved c =
    let f : BatchPart → Option PartOutcome = λ part. Some (outcome_for part.circuit c.args.waiting.now c.args.answers.now.answers) in
    let n = c.parts.index in
    let d = c.index-parts-index.result in
    let loop = c.parts.invariant in
    let within : n < length c.parts.outcomes = omega (arith, c.parts-test.true, c.requires.few, loop.size) in
    record {
      size = length-set c.parts.outcomes n (Some c.outcome_for.result) ∙ loop.size;
      done = λ i part there less.
          ap (λ o. slice_get (set c.parts.outcomes n (Some o)) i) c.outcome_for.ensures.value
          ∙ done_set f c.args.parts.now c.parts.outcomes n d within loop.done i part there less;
      past = λ i after below. get_set_other c.parts.outcomes n i (Some c.outcome_for.result) (λ same. omega (arith, same, after)) ∙ loop.past i (omega (arith, after)) below;
    }

-- no outcome is there at first
blank : (n i : ℕ) → i < n → slice_get (replicate {A = Option PartOutcome} n None) i ≡ Some None
blank zero i below = absurd (omega (arith, below))
blank (suc n) zero below = refl
blank (suc n) (suc i) below = blank n i (omega (arith, below))

pub parts-init : goal.parts-init
parts-init c = record { size = search rules; done = λ i part there less. absurd (omega (arith, less)); past = λ i after below. blank 16 i below }

pub returns : goal.returns
returns c =
    record {
      value = λ i part there.
          let within = slice_get_within c.args.parts.now i part there in
          c.parts.invariant.done i part there (omega (arith, within, c.parts-test.false));
      past = λ i after. c.parts.invariant.past i (omega (arith, after, c.parts-test.false));
    }
