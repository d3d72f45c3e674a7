use Rattle.std.proofs.Common.{◌≤◌, ◌∙◌, refl, ap, sym, subst, length, arith}
use Rattle.std.specs.Prelude.{option_map}
use Rattle.events.specs.Batch.{is_batch}
use Rattle.lab_text.specs.FieldsAfter.{fields_after}
use Rattle.lab_text.proofs.BatchLemmas.{PartsSoFar, spells_none, spells_more, spells_part, all_spelled}
use Rattle.lab_text.proofs.batches.parse_parts.Goals as goal

pub returns-in_default-batch_part-clause-value : goal.returns-in_default-batch_part-clause-value
returns-in_default-batch_part-clause-value c =
    spells_none c.args.config.now _ (fields_after (option_map (λ line. line.now) c.in-Some.after)) c.in-Some.field.now c.fields.parts c.in_default-batch_part.ensures.value
    (subst (λ left. PartsSoFar c.args.config.now (fields_after (option_map (λ line. line.now) c.args.rest)) left c.fields.parts) c.in-Some.ensures c.fields.invariant)

pub returns-then-not-push-clause-value : goal.returns-then-not-push-clause-value
returns-then-not-push-clause-value c =
    let many : 16 ≤ length c.fields.parts = grind arith in
    spells_more c.args.config.now _ (fields_after (option_map (λ line. line.now) c.in-Some.after)) c.in-Some.field.now c.in-Some-batch_part.part c.fields.parts c.in-Some-batch_part.ensures.value many
    (subst (λ left. PartsSoFar c.args.config.now (fields_after (option_map (λ line. line.now) c.args.rest)) left c.fields.parts) c.in-Some.ensures c.fields.invariant)

pub fields-preserved : goal.fields-preserved
fields-preserved c =
    let all = fields_after (option_map (λ line. line.now) c.args.rest) in
    let left = fields_after (option_map (λ line. line.now) c.in-Some.after) in
    subst (PartsSoFar c.args.config.now all left) (sym (c.if-not-push.ensures.pushed refl))
    (spells_part c.args.config.now all left c.in-Some.field.now c.in-Some-batch_part.part c.fields.parts c.in-Some-batch_part.ensures.value c.in-Some-batch_part.ensures.within
    (subst (λ left. PartsSoFar c.args.config.now all left c.fields.parts) c.in-Some.ensures c.fields.invariant))

pub returns-clause-value : goal.returns-clause-value
returns-clause-value c =
    all_spelled c.args.config.now _ _ c.fields.parts c.is_batch.result c.in_default.ensures (c.is_batch.ensures ∙ ap is_batch c.as_slice.ensures.value) c.fields.invariant
