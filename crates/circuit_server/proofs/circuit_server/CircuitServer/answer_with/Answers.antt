use Rattle.std.proofs.Common.{◌∙◌, subst, sym}
use Rattle.std.specs.Prelude.{IfOk}
use Rattle.circuit_server.specs.CircuitDecision.{FitsCircuit}
use Rattle.circuit_server.proofs.DeadlineLemmas.{entries_after, unchanged_entries}
use Rattle.circuit_server.proofs.PreparedLemmas.{answered_entries, dropped_by, entries_now, pools_now, prepared_by, prepared_ready, was_ticked}
use Rattle.circuit_server.proofs.ServedLemmas.{dropped_served, settled_served}
use Rattle.circuit_server.proofs.circuit_server.CircuitServer.answer_with.Goals as goal

-- ---- the datagram is dropped

pub returns-clause-entries : goal.returns-clause-entries
returns-clause-entries g c =
    let ticked = was_ticked c.delivery.view_is (sym c.self.view_is ∙ c.in-Some.is) c.tick.ensures.value c.tick.ensures.later c.tick.ensures.book c.tick.ensures.ready in
    unchanged_entries c.args.table.now c.args.circuit _ (entries_now ticked c.args.table.now c.args.circuit c.requires.entries)

pub returns-clause-served : goal.returns-clause-served
returns-clause-served g c =
    let part = c.args.part.now in
    let d = c.args.delivery.now in
    let ticked = was_ticked c.delivery.view_is (sym c.self.view_is ∙ c.in-Some.is) c.tick.ensures.value c.tick.ensures.later c.tick.ensures.book c.tick.ensures.ready in
    let dropped = dropped_by ticked g.C.Decision.decision part c.decide-decided.result c.in-Err.why c.in-Err.is (c.decide-decided.ensures.err d.proto d.bytes c.requires.read) in
    dropped_served part d c.args.self.now _ c.in-Err.why g.D.Disk.tells (g.D.Disk.device c.args.disk.now) c.args.out.now dropped (pools_now ticked part c.requires.pools) c.requires.ready c.requires.empty

-- ---- it is decided, saved and settled

pub apply_and_save-saved-requires-clause-fits : goal.apply_and_save-saved-requires-clause-fits
apply_and_save-saved-requires-clause-fits g c = subst (λ r. IfOk r (λ made. FitsCircuit (g.C.Decision.decision made) c.tick.new.self)) c.in-Ok.is c.decide-decided.ensures.fits

pub apply_and_save-saved-requires-clause-entries : goal.apply_and_save-saved-requires-clause-entries
apply_and_save-saved-requires-clause-entries g c =
    let ticked = was_ticked c.delivery.view_is (sym c.self.view_is ∙ c.in-Some.is) c.tick.ensures.value c.tick.ensures.later c.tick.ensures.book c.tick.ensures.ready in
    entries_now ticked c.args.table.now c.args.circuit c.requires.entries

pub apply_and_save-saved-requires-clause-ready : goal.apply_and_save-saved-requires-clause-ready
apply_and_save-saved-requires-clause-ready g c = λ new saving pools applied.
    let d = c.args.delivery.now in
    let ticked = was_ticked c.delivery.view_is (sym c.self.view_is ∙ c.in-Some.is) c.tick.ensures.value c.tick.ensures.later c.tick.ensures.book c.tick.ensures.ready in
    let is = c.decide-decided in
    let p = prepared_by ticked g.C.Decision.decision c.args.part.now is.result c.in-Ok.decision new saving c.in-Ok.is (is.ensures.ok d.proto d.bytes c.requires.read) is.ensures.fits applied pools in
    prepared_ready c.args.part.now d c.args.self.now new _ p g.D.Disk.tells (g.D.Disk.device c.args.disk.now) c.requires.exists c.requires.ready

pub settle_decision-requires-clause-entries : goal.settle_decision-requires-clause-entries
settle_decision-requires-clause-entries g c =
    let ticked = was_ticked c.delivery.view_is (sym c.self.view_is ∙ c.in-Some.is) c.tick.ensures.value c.tick.ensures.later c.tick.ensures.book c.tick.ensures.ready in
    entries_after c.args.circuit c.args.table.now c.apply_and_save-saved.new.table _ c.apply_and_save-saved.new.self (entries_now ticked c.args.table.now c.args.circuit c.requires.entries) c.apply_and_save-saved.ensures.entries

pub returns-in-Ok-clause-entries : goal.returns-in-Ok-clause-entries
returns-in-Ok-clause-entries g c =
    answered_entries c.args.part.now (record { decision = g.C.Decision.decision c.in-Ok.decision; saving = c.apply_and_save-saved.ensures.saved.saving }) c.apply_and_save-saved.result c.args.circuit
    c.args.table.now c.apply_and_save-saved.new.table c.settle_decision.new.table c.apply_and_save-saved.new.self c.settle_decision.new.self c.settle_decision.result c.settle_decision.new.out
    c.settle_decision.ensures.settled c.apply_and_save-saved.ensures.entries c.settle_decision.ensures.entries

pub returns-in-Ok-clause-served : goal.returns-in-Ok-clause-served
returns-in-Ok-clause-served g c =
    let part = c.args.part.now in
    let d = c.args.delivery.now in
    let ticked = was_ticked c.delivery.view_is (sym c.self.view_is ∙ c.in-Some.is) c.tick.ensures.value c.tick.ensures.later c.tick.ensures.book c.tick.ensures.ready in
    let is = c.decide-decided in
    let applied = c.apply_and_save-saved in
    let saved = applied.ensures.saved in
    let p = prepared_by ticked g.C.Decision.decision part is.result c.in-Ok.decision applied.new.self saved.saving c.in-Ok.is (is.ensures.ok d.proto d.bytes c.requires.read) is.ensures.fits saved.applied applied.ensures.pools in
    settled_served part d c.args.self.now applied.new.self _ p g.D.Disk.tells (g.D.Disk.device c.args.disk.now) (g.D.Disk.device applied.new.disk) applied.result saved.nothing saved.saved
    c.settle_decision.new.self c.settle_decision.result c.settle_decision.new.out c.requires.ready c.settle_decision.ensures.pools c.settle_decision.ensures.settled
