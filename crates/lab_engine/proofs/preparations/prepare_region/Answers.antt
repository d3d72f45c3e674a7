use Rattle.std.proofs.Common.{◌∙◌, ap, take, sym, subst}
use Rattle.std.specs.Prelude.{slice_get}
use Rattle.config.specs.Rules.{IsSound}
use Rattle.lease_disk.specs.Model.{device_of}
use Rattle.settings.specs.Settings.{Settings}
use Rattle.lab_engine.proofs.PreparationLemmas.{but_one, fill_over, fill_ready, load_over, load_ready, move_over, move_ready, old_over, old_ready, prepared_as, ready_after}
use Rattle.lab_engine.proofs.preparations.prepare_region.Goals as goal

pub returns-in-Fill-clause-prepared : goal.returns-in-Fill-clause-prepared
returns-in-Fill-clause-prepared c = λ quota openings over.
    let plans = c.args.plans.now in
    let old = c.args.disk.now in
    let bytes = c.args.bytes.now in
    prepared_as plans quota (device_of c.fill.new.self) c.args.preparation _ bytes openings c.in-Fill.is
    (fill_over plans (subst IsSound c.union.ensures c.at.ensures.sound) c.in-Fill.circuit c.at.result.now (ap (λ (u : Settings). slice_get u.circuits c.in-Fill.circuit) (sym c.union.ensures) ∙ c.at.ensures.value) quota old c.fill.new.self (but_one _ _ _ c.fill.ensures.others) openings over c.in-Fill.byte c.fill.ensures.state c.fill.ensures.failing_call)

pub returns-in-Old-clause-prepared : goal.returns-in-Old-clause-prepared
returns-in-Old-clause-prepared c = λ quota openings over.
    let plans = c.args.plans.now in
    let old = c.args.disk.now in
    let bytes = c.args.bytes.now in
    prepared_as plans quota (device_of c.format_region.new.disk) c.args.preparation _ bytes openings c.in-Old.is
    (old_over plans (subst IsSound c.union-in-Old.ensures c.at-in-Old.ensures.sound) c.in-Old.circuit c.at-in-Old.result.now (ap (λ (u : Settings). slice_get u.circuits c.in-Old.circuit) (sym c.union-in-Old.ensures) ∙ c.at-in-Old.ensures.value) quota old c.format_region.new.disk c.format_region.ensures.frame openings over c.format_region.ensures.formatted c.format_region.ensures.failing_call)

pub returns-in-Load-clause-prepared : goal.returns-in-Load-clause-prepared
returns-in-Load-clause-prepared c = λ quota openings over.
    let plans = c.args.plans.now in
    let old = c.args.disk.now in
    let bytes = c.args.bytes.now in
    prepared_as plans quota (device_of c.load.new.self) c.args.preparation _ bytes openings c.in-Load.is
    (load_over plans (subst IsSound c.union-in-Load.ensures c.at-in-Load.ensures.sound) c.in-Load.circuit c.at-in-Load.result.now (ap (λ (u : Settings). slice_get u.circuits c.in-Load.circuit) (sym c.union-in-Load.ensures) ∙ c.at-in-Load.ensures.value) quota old c.load.new.self (but_one _ _ _ c.load.ensures.others) openings over c.in-Load.at (take c.in-Load.len bytes) c.load.ensures.state c.load.ensures.failing_call)

pub returns-in-Move-clause-prepared : goal.returns-in-Move-clause-prepared
returns-in-Move-clause-prepared c = λ quota openings over.
    let plans = c.args.plans.now in
    let old = c.args.disk.now in
    let bytes = c.args.bytes.now in
    prepared_as plans quota (device_of c.fail_at.new.self) c.args.preparation _ bytes openings c.in-Move.is
    (move_over plans (subst IsSound c.union-in-Move.ensures c.at-in-Move.ensures.sound) c.in-Move.circuit c.at-in-Move.result.now (ap (λ (u : Settings). slice_get u.circuits c.in-Move.circuit) (sym c.union-in-Move.ensures) ∙ c.at-in-Move.ensures.value) quota old c.fail_at.new.self (but_one _ _ _ c.fail_at.ensures.others) openings over c.in-Move.fault c.fail_at.ensures.state c.fail_at.ensures.failing_call)

pub returns-in-Fill-clause-disk : goal.returns-in-Fill-clause-disk
returns-in-Fill-clause-disk c = ready_after c.at.result.now.region c.args.disk.now c.fill.new.self (but_one _ _ _ c.fill.ensures.others) (fill_ready c.in-Fill.byte _ _ c.fill.ensures.state) c.requires.disk.ready

pub returns-in-Old-clause-disk : goal.returns-in-Old-clause-disk
returns-in-Old-clause-disk c = ready_after c.at-in-Old.result.now.region c.args.disk.now c.format_region.new.disk c.format_region.ensures.frame (old_ready _ _ c.format_region.ensures.formatted c.format_region.ensures.readable) c.requires.disk.ready

pub returns-in-Load-clause-disk : goal.returns-in-Load-clause-disk
returns-in-Load-clause-disk c = ready_after c.at-in-Load.result.now.region c.args.disk.now c.load.new.self (but_one _ _ _ c.load.ensures.others) (load_ready c.in-Load.at _ _ _ c.load.ensures.state) c.requires.disk.ready

pub returns-in-Move-clause-disk : goal.returns-in-Move-clause-disk
returns-in-Move-clause-disk c = ready_after c.at-in-Move.result.now.region c.args.disk.now c.fail_at.new.self (but_one _ _ _ c.fail_at.ensures.others) (move_ready _ _ c.fail_at.ensures.state) c.requires.disk.ready
