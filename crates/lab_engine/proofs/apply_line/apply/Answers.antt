use Rattle.std.proofs.Common.{refl}
use Rattle.types.specs.declared.discard.Discard.TheVariants.{UnknownSource, NotServer}
use Rattle.lab_text.specs.Line.{Reload, Tick}
use Rattle.lab_engine.proofs.LineResultLemmas.{stray_up_known, stray_down_known}
use Rattle.lab_engine.proofs.apply_line.apply.Goals as goal

pub returns-in-Tick-clause-follows : goal.returns-in-Tick-clause-follows
returns-in-Tick-clause-follows g c = λ quota number machines represents knows. rw c.in-Tick.is (c.apply_done.ensures.follows c.args.plans.now quota number (Tick c.in-Tick.now) machines refl represents)

pub returns-in-Reload-clause-follows : goal.returns-in-Reload-clause-follows
returns-in-Reload-clause-follows g c = λ quota number machines represents knows.
    rw c.in-Reload.is (c.apply_done-in-Reload.ensures.follows c.args.plans.now quota number (Reload c.in-Reload.plan) machines (rw c.in-Reload.is at c.requires, refl) represents)

pub returns-in-StrayUp-clause-follows : goal.returns-in-StrayUp-clause-follows
returns-in-StrayUp-clause-follows g c = λ quota number machines represents knows.
    let plans = c.args.plans.now in
    let known = stray_up_known (g.M.Machine.topology c.args.machine.now) plans c.in-StrayUp.source knows (rw c.in-StrayUp.is at c.requires).1 in
    rw c.in-StrayUp.is (c.apply_stray.ensures.follows plans quota number UnknownSource machines represents known)

pub returns-in-StrayDown-clause-follows : goal.returns-in-StrayDown-clause-follows
returns-in-StrayDown-clause-follows g c = λ quota number machines represents knows.
    let plans = c.args.plans.now in
    let within = rw c.in-StrayDown.is at c.requires in
    let known = stray_down_known (g.M.Machine.topology c.args.machine.now) plans c.in-StrayDown.relay c.in-StrayDown.source knows within.1 within.2 in
    rw c.in-StrayDown.is (c.apply_stray-in-StrayDown.ensures.follows plans quota number NotServer machines represents known)
