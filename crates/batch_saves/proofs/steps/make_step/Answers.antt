use Rattle.std.proofs.Common.{arith}
use Rattle.batch_saves.proofs.Counting.{step_made}
use Rattle.batch_saves.proofs.Stepping.{apart_after, kept_after, stepped, writable_after}
use Rattle.batch_saves.proofs.steps.make_step.Goals as goal

pub sync_parts-requires-clause-apart : goal.sync_parts-requires-clause-apart
sync_parts-requires-clause-apart g c = apart_after c.args.parts.now c.write_parts.new.parts c.write_parts.auto.parts (λ i below. (c.write_parts.ensures.parts i below).part) c.requires.apart

pub sync_parts-requires-clause-exist : goal.sync_parts-requires-clause-exist
sync_parts-requires-clause-exist g c = λ i below.
    (writable_after c.args.parts.now c.write_parts.new.parts c.write_parts.auto.parts (λ k within. (c.write_parts.ensures.parts k within).part) g.D.Disk.tells (g.D.Disk.device c.args.disk.now).count (g.D.Disk.device c.write_parts.new.disk).count
    c.write_parts.ensures.frame.count c.requires.writable i below).exists

pub returns-clause-parts : goal.returns-clause-parts
returns-clause-parts g c =
    stepped g.D.Disk.tells c.args.step c.args.parts.now c.write_parts.new.parts c.sync_parts.new.parts (g.D.Disk.device c.args.disk.now) (g.D.Disk.device c.write_parts.new.disk) (g.D.Disk.device c.sync_parts.new.disk)
    c.write_parts.auto.parts c.write_parts.ensures.parts c.sync_parts.ensures.parts

pub returns-clause-frame : goal.returns-clause-frame
returns-clause-frame g c =
    kept_after c.args.parts.now c.write_parts.new.parts c.write_parts.auto.parts (λ i below. (c.write_parts.ensures.parts i below).part) g.D.Disk.tells
    (g.D.Disk.device c.args.disk.now) (g.D.Disk.device c.write_parts.new.disk) (g.D.Disk.device c.sync_parts.new.disk) c.write_parts.ensures.frame c.sync_parts.ensures.frame

pub returns-clause-calls : goal.returns-clause-calls
returns-clause-calls g c = λ before.
    let made = step_made g.D.Disk.tells c.args.step c.args.parts.now c.write_parts.new.parts c.sync_parts.new.parts (g.D.Disk.device c.args.disk.now) (g.D.Disk.device c.write_parts.new.disk) (g.D.Disk.device c.sync_parts.new.disk)
    c.write_parts.auto.parts c.sync_parts.auto.parts c.write_parts.ensures.parts c.sync_parts.ensures.parts before in
    let writes = c.write_parts.ensures.writes in
    let syncs = c.sync_parts.ensures.syncs in
    omega (arith, made, writes, syncs)
