use Rattle.std.proofs.Common.{◌≤◌, [], ◌∷◌, ◌++◌, length, map, ap, subst, sym, ◌∙◌, arith}
use Rattle.std.specs.Prelude.{None, OnErr, slice_index_or, slice_range}
use Rattle.events.specs.declared.outcome.Outcome.{Outcome}
use Rattle.streams.specs.Writing.{AppendsPrefix}
use Rattle.streams.proofs.WriteLemmas.{front_longer, front_behind, err_behind}
use Rattle.lab_engine.specs.Output.{batch_text, with_marks, part_text, with_newline}
use Rattle.lab_engine.proofs.BatchOutputLemmas.{line_parts}
use Rattle.lab_engine.proofs.batch_output.write_batch.Goals as goal

pub returns-in-Err-clause-err : goal.returns-in-Err-clause-err
returns-in-Err-clause-err g c =
    let outcomes = c.in-Batched.outcomes in
    let count = c.args.count in
    let inside : 1 ≤ length outcomes = omega arith in
    let whole = ap (λ (o : Outcome). with_newline (batch_text o count)) c.in-Batched.is ∙ line_parts outcomes count c.requires.some inside in
    subst (AppendsPrefix (g.W.ByteWriter.contents c.args.writer.now) (g.W.ByteWriter.contents c.write_part.new.writer)) (sym whole)
    (front_longer _ _ (part_text (slice_index_or outcomes 0 None)) (with_marks (map part_text (slice_range outcomes 1 count)) ++ 10 ∷ []) c.in-Err.ensures.err)

pub returns-in-Err-write_rest-clause-err : goal.returns-in-Err-write_rest-clause-err
returns-in-Err-write_rest-clause-err g c =
    let outcomes = c.in-Batched.outcomes in
    let count = c.args.count in
    let inside : 1 ≤ length outcomes = omega arith in
    let whole = ap (λ (o : Outcome). with_newline (batch_text o count)) c.in-Batched.is ∙ line_parts outcomes count c.requires.some inside in
    let rest = with_marks (map part_text (slice_range outcomes 1 count)) in
    subst (AppendsPrefix (g.W.ByteWriter.contents c.args.writer.now) (g.W.ByteWriter.contents c.write_rest.new.writer)) (sym whole)
    (front_behind _ _ _ (part_text (slice_index_or outcomes 0 None)) (rest ++ 10 ∷ []) c.in_default-write_part.ensures.ok
    (front_longer _ _ rest (10 ∷ []) c.in-Err-write_rest.ensures.err))

pub returns-clause-err : goal.returns-clause-err
returns-clause-err g c =
    let outcomes = c.in-Batched.outcomes in
    let count = c.args.count in
    let inside : 1 ≤ length outcomes = omega arith in
    let whole = ap (λ (o : Outcome). with_newline (batch_text o count)) c.in-Batched.is ∙ line_parts outcomes count c.requires.some inside in
    let rest = with_marks (map part_text (slice_range outcomes 1 count)) in
    subst (λ text. OnErr c.write_all-2.result (AppendsPrefix (g.W.ByteWriter.contents c.args.writer.now) (g.W.ByteWriter.contents c.write_all-2.new.self) text)) (sym whole)
    (err_behind c.write_all-2.result _ _ _ (part_text (slice_index_or outcomes 0 None)) (rest ++ 10 ∷ []) c.in_default-write_part.ensures.ok
    (err_behind c.write_all-2.result _ _ _ rest (10 ∷ []) c.in_default-write_rest.ensures.ok c.write_all-2.ensures.err))
