use Rattle.std.proofs.Common.{drop, ◌+◌, sym, ap, ◌∙◌}
use Rattle.std.specs.Prelude.{if◌then◌else◌, slice_get}
use Rattle.world.specs.Batch.{answer_outcome, outcome_for}
use Rattle.world.proofs.BatchLoops.{outcome_step}
use Rattle.world.proofs.world.batch.outcome_for.Goals as goal

pub returns-then-eq : goal.returns-then-eq
returns-then-eq c =
    let step = outcome_step c.args.circuit c.index-waiting-index.result c.args.waiting.now c.args.answers.now.answers c.parts.index c.parts-test.true in
    let answer = answer_outcome (slice_get c.args.answers.now.answers c.parts.index) in
    let rest = outcome_for c.args.circuit (drop (c.parts.index + 1) c.args.waiting.now) (drop (c.parts.index + 1) c.args.answers.now.answers) in
    record {
      value =
          c.answer_outcome.ensures.value ∙ ap answer_outcome c.get.ensures
          ∙ ap (λ b. if b then answer else rest) (sym (sym c.eq.ensures ∙ c.if-eq.true)) ∙ sym step ∙ c.parts.invariant.rest;
    }

pub parts-preserved : goal.parts-preserved
parts-preserved c =
    let step = outcome_step c.args.circuit c.index-waiting-index.result c.args.waiting.now c.args.answers.now.answers c.parts.index c.parts-test.true in
    let answer = answer_outcome (slice_get c.args.answers.now.answers c.parts.index) in
    let rest = outcome_for c.args.circuit (drop (c.parts.index + 1) c.args.waiting.now) (drop (c.parts.index + 1) c.args.answers.now.answers) in
    record { rest = ap (λ b. if b then answer else rest) (sym (sym c.eq.ensures ∙ c.if-eq.false)) ∙ sym step ∙ c.parts.invariant.rest }
