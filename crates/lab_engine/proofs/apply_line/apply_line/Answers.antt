use Rattle.std.proofs.Common.{◌∙◌, ap, subst, sym}
use Rattle.lab_engine.specs.Lab.{line_result}
use Rattle.lab_text.specs.Line.{Batch, line_of_text}
use Rattle.lab_text.specs.ParsedLine.{IsBatchWithin}
use Rattle.lab_engine.specs.Progress.{HasResult}
use Rattle.lab_engine.proofs.apply_line.apply_line.Goals as goal

pub returns-in-Event-clause-follows : goal.returns-in-Event-clause-follows
returns-in-Event-clause-follows g c = λ quota machines represents knows.
    let plans = c.args.plans.now in
    subst (λ line. HasResult plans quota c.args.number (line_result plans quota machines line) (g.M.Machine.states c.apply.new.machine) (g.W.ByteWriter.contents c.args.writer.now) (g.W.ByteWriter.contents c.apply.new.writer) c.apply.result)
    c.in-Event.ensures.means (c.apply.ensures.follows quota c.args.number machines represents knows)

pub returns-in-Restart-clause-follows : goal.returns-in-Restart-clause-follows
returns-in-Restart-clause-follows g c = λ quota machines represents knows.
    let plans = c.args.plans.now in
    c.apply_done.ensures.follows plans quota c.args.number (line_of_text plans.union plans.count c.args.line.now) machines c.in-Restart.ensures.means represents

pub returns-in-Batch-clause-follows : goal.returns-in-Batch-clause-follows
returns-in-Batch-clause-follows g c = λ quota machines represents knows.
    let plans = c.args.plans.now in
    let within = subst (IsBatchWithin plans.union) (sym c.as_slice-parts.ensures.value) c.in-Batch.ensures.within in
    subst (λ line. HasResult plans quota c.args.number (line_result plans quota machines line) (g.M.Machine.states c.apply_batch.new.machine) (g.W.ByteWriter.contents c.args.writer.now) (g.W.ByteWriter.contents c.apply_batch.new.writer) c.apply_batch.result)
    (ap (Batch c.in-Batch.now c.in-Batch.sync) c.as_slice-parts.ensures.value ∙ c.in-Batch.ensures.means) (c.apply_batch.ensures.follows plans quota c.args.number machines within represents)
