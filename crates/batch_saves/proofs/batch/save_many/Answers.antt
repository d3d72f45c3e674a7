use Rattle.std.proofs.Common.{◌<◌, ◌∙◌, sym, subst, arith}
use Rattle.lease_disk.specs.declared.format2.steps.SaveStep.TheVariants.{Close, Fill}
use Rattle.batch_saves.specs.Batch.{part_at}
use Rattle.batch_saves.proofs.Sharing.{counts_stay, saved_part, touches}
use Rattle.batch_saves.proofs.Counting.{batch_made, before1, step_bound}
use Rattle.batch_saves.proofs.batch.save_many.Goals as goal

pub returns-clause-parts : goal.returns-clause-parts
returns-clause-parts g c = λ i below.
    saved_part g.D.Disk.tells c.args.parts.now c.make_step.new.parts c.make_step-2.new.parts c.make_step-3.new.parts
    (g.D.Disk.device c.args.disk.now) (g.D.Disk.device c.make_step.new.disk) (g.D.Disk.device c.make_step-2.new.disk) (g.D.Disk.device c.make_step-3.new.disk)
    c.make_step.auto.parts c.make_step-2.auto.parts c.make_step-3.auto.parts c.make_step.ensures.parts c.make_step-2.ensures.parts c.make_step-3.ensures.parts
    (λ k within. (c.requires.ready k within).fresh) i below (c.requires.ready i below) (part_at c.turn_saved.new.parts i)
    (c.turn_saved.ensures i (subst (λ n. i < n) (sym (c.make_step-3.auto.parts ∙ c.make_step-2.auto.parts ∙ c.make_step.auto.parts)) below))

pub returns-clause-frame : goal.returns-clause-frame
returns-clause-frame g c =
    touches g.D.Disk.tells c.args.parts.now c.make_step.new.parts c.make_step-2.new.parts c.make_step-3.new.parts
    (g.D.Disk.device c.args.disk.now) (g.D.Disk.device c.make_step.new.disk) (g.D.Disk.device c.make_step-2.new.disk) (g.D.Disk.device c.make_step-3.new.disk)
    c.make_step.auto.parts c.make_step-2.auto.parts c.make_step-3.auto.parts c.make_step.ensures.parts c.make_step-2.ensures.parts c.make_step-3.ensures.parts
    (λ k within. (c.requires.ready k within).fresh) c.make_step.ensures.frame c.make_step-2.ensures.frame c.make_step-3.ensures.frame

pub returns-clause-others : goal.returns-clause-others
returns-clause-others g c =
    counts_stay g.D.Disk.tells c.args.parts.now c.make_step.new.parts c.make_step-2.new.parts c.make_step-3.new.parts
    (g.D.Disk.device c.args.disk.now) (g.D.Disk.device c.make_step.new.disk) (g.D.Disk.device c.make_step-2.new.disk) (g.D.Disk.device c.make_step-3.new.disk)
    c.make_step.auto.parts c.make_step-2.auto.parts c.make_step-3.auto.parts c.make_step.ensures.parts c.make_step-2.ensures.parts c.make_step-3.ensures.parts
    (λ k within. (c.requires.ready k within).fresh) c.make_step.ensures.frame c.make_step-2.ensures.frame c.make_step-3.ensures.frame

pub returns-clause-calls : goal.returns-clause-calls
returns-clause-calls g c =
    let tells = g.D.Disk.tells in
    let p0 = c.args.parts.now in
    let p1 = c.make_step.new.parts in
    let p2 = c.make_step-2.new.parts in
    let p3 = c.make_step-3.new.parts in
    let d0 = g.D.Disk.device c.args.disk.now in
    let d1 = g.D.Disk.device c.make_step.new.disk in
    let d2 = g.D.Disk.device c.make_step-2.new.disk in
    let d3 = g.D.Disk.device c.make_step-3.new.disk in
    let made = batch_made tells p0 p1 p2 p3 c.turn_saved.new.parts d0 d1 d2 d3 c.make_step.auto.parts c.make_step-2.auto.parts c.make_step-3.auto.parts c.turn_saved.auto.parts
    c.make_step.ensures.parts c.make_step-2.ensures.parts c.make_step-3.ensures.parts c.turn_saved.ensures in
    let before = before1 p0 (λ k within. (c.requires.ready k within).fresh) in
    let calls1 = c.make_step.ensures.calls before in
    let calls2 = c.make_step-2.ensures.calls (step_bound tells Close p0 p1 d0 d1 c.make_step.ensures.parts c.make_step.auto.parts before) in
    let calls3 = c.make_step-3.ensures.calls (step_bound tells Fill p1 p2 d1 d2 c.make_step-2.ensures.parts c.make_step-2.auto.parts (step_bound tells Close p0 p1 d0 d1 c.make_step.ensures.parts c.make_step.auto.parts before)) in
    omega (arith, made, calls1, calls2, calls3)
