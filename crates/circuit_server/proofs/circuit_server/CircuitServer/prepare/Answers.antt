use Rattle.std.proofs.Common.{◌∙◌, ap, subst, sym}
use Rattle.requests.specs.RelayedMessage.{IsRelayedMessage}
use Rattle.circuit_server.specs.Deadlines.{HasEntries}
use Rattle.circuit_server.specs.declared.circuit_server.CircuitServer.TheInside.{Inside}
use Rattle.circuit_server.proofs.DeadlineLemmas.{unchanged_entries}
use Rattle.circuit_server.proofs.PreparedLemmas.{dropped_now, entries_now, prepared_now, was_ticked}
use Rattle.circuit_server.proofs.circuit_server.CircuitServer.prepare.Goals as goal
use Rattle.circuit_server.proofs.circuit_server.CircuitServer.prepare.Goals.{in-V4+in-Ok, in-V6+in-Ok-decide}

-- ---- the datagram is dropped

pub returns-in-Err-clause-entries : goal.returns-in-Err-clause-entries
returns-in-Err-clause-entries c =
    let ticked = was_ticked c.delivery.view_is (sym c.self.view_is ∙ c.in-Some.is) c.tick.ensures.value c.tick.ensures.later c.tick.ensures.book c.tick.ensures.ready in
    unchanged_entries c.args.table.now c.args.circuit _ (entries_now ticked c.args.table.now c.args.circuit c.requires.entries)

pub returns-in-Err-decide-clause-entries : goal.returns-in-Err-decide-clause-entries
returns-in-Err-decide-clause-entries c =
    let ticked = was_ticked c.delivery.view_is (sym c.self.view_is ∙ c.in-Some.is) c.tick.ensures.value c.tick.ensures.later c.tick.ensures.book c.tick.ensures.ready in
    unchanged_entries c.args.table.now c.args.circuit _ (entries_now ticked c.args.table.now c.args.circuit c.requires.entries)

pub returns-in-Err-clause-dropped : goal.returns-in-Err-clause-dropped
returns-in-Err-clause-dropped c =
    let d = c.args.delivery.now in
    let ticked = was_ticked c.delivery.view_is (sym c.self.view_is ∙ c.in-Some.is) c.tick.ensures.value c.tick.ensures.later c.tick.ensures.book c.tick.ensures.ready in
    dropped_now ticked c.args.part.now c.in-Err.why (c.in-Err.ensures.err d.proto d.bytes (subst (IsRelayedMessage d.proto d.bytes) c.in-V4.is c.requires.read))

pub returns-in-Err-decide-clause-dropped : goal.returns-in-Err-decide-clause-dropped
returns-in-Err-decide-clause-dropped c =
    let d = c.args.delivery.now in
    let ticked = was_ticked c.delivery.view_is (sym c.self.view_is ∙ c.in-Some.is) c.tick.ensures.value c.tick.ensures.later c.tick.ensures.book c.tick.ensures.ready in
    dropped_now ticked c.args.part.now c.in-Err-decide.why (c.in-Err-decide.ensures.err d.proto d.bytes (subst (IsRelayedMessage d.proto d.bytes) c.in-V6.is c.requires.read))

-- ---- it is decided

pub apply_for_save-saving-requires-clause-entries : goal.apply_for_save-saving-requires-clause-entries
apply_for_save-saving-requires-clause-entries c =
    let ticked = was_ticked c.delivery.view_is (sym c.self.view_is ∙ c.in-Some.is) c.tick.ensures.value c.tick.ensures.later c.tick.ensures.book c.tick.ensures.ready in
    let entries = entries_now ticked c.args.table.now c.args.circuit c.requires.entries in
    let P : Inside → Type 0 = λ inside. HasEntries c.args.table.now c.args.circuit inside.state in
    elim c.match-relayed.branch [ in-V4+in-Ok w ↦ subst P (sym w.self-inside-is) entries | in-V6+in-Ok-decide w ↦ subst P (sym w.self-inside-is) entries ]

pub returns-clause-prepared : goal.returns-clause-prepared
returns-clause-prepared c =
    let part = c.args.part.now in
    let d = c.args.delivery.now in
    let ticked = was_ticked c.delivery.view_is (sym c.self.view_is ∙ c.in-Some.is) c.tick.ensures.value c.tick.ensures.later c.tick.ensures.book c.tick.ensures.ready in
    let applied = c.apply_for_save-saving.ensures in
    elim c.match-relayed.branch [
      | in-V4+in-Ok w ↦
          let serves = w.in-Ok.ensures.ok d.proto d.bytes (subst (IsRelayedMessage d.proto d.bytes) w.in-V4.is c.requires.read) in
          prepared_now ticked part _ _ _ _ _ w.decision-is (ap (λ (inside : Inside). inside.state) w.self-inside-is) serves w.in-Ok.ensures.fits applied.applied applied.pools
      | in-V6+in-Ok-decide w ↦
          let serves = w.in-Ok-decide.ensures.ok d.proto d.bytes (subst (IsRelayedMessage d.proto d.bytes) w.in-V6.is c.requires.read) in
          prepared_now ticked part _ _ _ _ _ w.decision-is (ap (λ (inside : Inside). inside.state) w.self-inside-is) serves w.in-Ok-decide.ensures.fits applied.applied applied.pools
    ]
