use Rattle.std.proofs.Common.{◌≡◌, ◌<◌, ◌≤◌, ◌+◌, ◌*◌, List, map, set, length, refl, sym, ap, subst, ◌∙◌, arith}
use Rattle.std.specs.Prelude.{Option}
use Rattle.std.proofs.lemmas.List.{length-map}
use Rattle.timers.specs.Deadlines.{DeadlinesValue, deadline}
use Rattle.circuit_server.specs.Deadlines.{HasDeadlines, OtherEntriesUnchanged, held_in}
use Rattle.circuit_server.specs.CircuitServerValue.{OpenCircuitValue}
use Rattle.circuit_server.specs.Ticked.{IsLater, state_at, server_state}
use Rattle.circuit_server.specs.Unoffered.{state_unoffered}
use Rattle.dispatch.specs.Turned.{AreTurned, turns_off}
use Rattle.dispatch.proofs.OneServer.{one}
use Rattle.dispatch.proofs.TurnedLemmas.{none_yet, one_goes, one_stays, so_far, still_later, turned_all}
use Rattle.dispatch.proofs.circuit_servers.turn_off_all.Goals as goal
use Rattle.dispatch.proofs.circuit_servers.turn_off_all.Goals.{then-turns_off, else-turns_off}

pub circuits-init : goal.circuits-init
circuits-init c = record {
  end = c.count-index-end.ensures.value;
  turned = none_yet (turns_off c.args.circuits.now c.args.plan) (map (state_at c.args.ticked) c.args.servers.now) c.args.table.now c.requires.held;
}

pub circuits-preserved : goal.circuits-preserved
circuits-preserved c =
    let off = turns_off c.args.circuits.now c.args.plan in
    let n = c.circuits.index in
    let shown = map (state_at c.args.ticked) in
    let old = shown c.args.servers.now in
    let mid = shown c.circuits.servers in
    let before = c.args.table.now in
    let loop = c.circuits.invariant in
    let tested = sym (c.turns_off.ensures ∙ ap off c.at-circuit.ensures) in
    let among : n < length c.circuits.servers = omega (arith, c.circuits-test.true, loop.end, c.requires.size, c.circuits.auto.servers) in
    let within : n < length mid = subst (λ k. n < k) (sym (length-map c.circuits.servers (state_at c.args.ticked))) among in
    record {
      end = loop.end;
      turned = elim c.if-turns_off.branch [
        | then-turns_off w ↦
            let found = w.index-servers-index.result in
            let moved = state_at c.args.ticked found in
            let new = w.turn_off.new.server in
            let after = w.turn_off.new.table in
            let state : new ≡ state_unoffered moved = w.turn_off.ensures.state ∙ ap (λ one. state_unoffered (state_at c.args.ticked one)) (sym w.index-servers-index.is) in
            let kept = one c.args.ticked c.circuits.servers n found moved new among w.index-servers-index.is refl (λ moment later. subst (IsLater moment) (sym state) (still_later moment moved later)) in
            let its : state_unoffered (server_state mid n) ≡ new = ap state_unoffered kept.before ∙ sym state in
            let at = c.at-circuit.ensures in
            let turned =
            one_goes off n old mid before c.circuits.table after (tested ∙ w.if-turns_off.true) within loop.turned
            (λ s below. ap (λ k. deadline after (32 * k + s)) (sym at) ∙ w.turn_off.ensures.own s below ∙ ap (λ state. held_in state s) (sym its))
            (subst (λ k. HasDeadlines after (32 * k) (state_unoffered (server_state mid n))) at (subst (HasDeadlines after (32 * c.at-circuit.result)) (sym its) w.turn_off.ensures.entries.deadlines))
            (subst (λ k. OtherEntriesUnchanged (32 * k) c.circuits.table after) at w.turn_off.ensures.entries.others) in
            subst (λ (table : DeadlinesValue). AreTurned (so_far off (n + 1)) old (shown c.if-turns_off.servers) before table) (sym w.table-is)
            (subst (λ (xs : List (Option OpenCircuitValue)). AreTurned (so_far off (n + 1)) old xs before after) (sym (ap shown w.servers-is ∙ kept.others ∙ ap (set mid n) (sym its))) turned)
        | else-turns_off w ↦
            subst (λ (table : DeadlinesValue). AreTurned (so_far off (n + 1)) old (shown c.if-turns_off.servers) before table) (sym w.table-is)
            (subst (λ (xs : List (Option OpenCircuitValue)). AreTurned (so_far off (n + 1)) old xs before c.circuits.table) (sym (ap shown w.servers-is))
            (one_stays off n old mid before c.circuits.table (tested ∙ w.if-turns_off.false) loop.turned))
      ];
    }

pub returns : goal.returns
returns c =
    let whole : length (map (state_at c.args.ticked) c.args.servers.now) ≤ c.circuits.index = omega (arith, length-map c.args.servers.now (state_at c.args.ticked), c.requires.size, c.count-index-end.ensures.value, c.circuits-test.false) in
    turned_all (turns_off c.args.circuits.now c.args.plan) c.circuits.index (map (state_at c.args.ticked) c.args.servers.now) (map (state_at c.args.ticked) c.circuits.servers) c.args.table.now c.circuits.table whole c.circuits.invariant.turned
