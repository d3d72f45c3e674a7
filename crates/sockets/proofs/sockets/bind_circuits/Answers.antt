use Rattle.std.proofs.Common.{◌≡◌, ◌<◌, length, map, sym, subst, rules}
use Rattle.std.specs.Prelude.{All, Some, slice_get}
use Rattle.std.proofs.lemmas.List.Elements.{All-push}
use Rattle.config.specs.CircuitPart.{parts_of}
use Rattle.sockets.specs.Sockets.{AreCircuitSockets, AreOwnSockets, IsCircuitSocket, Refuses, WasRefused}
use Rattle.sockets.specs.declared.sockets.CircuitSockets.{CircuitSockets}
use Rattle.sockets.proofs.RefusedLemmas.{refused_some}
use Rattle.sockets.proofs.RelayLemmas.{pushed}
use Rattle.sockets.proofs.sockets.bind_circuits.Goals as goal

pub circuits-preserved : goal.circuits-preserved
circuits-preserved g c =
    let config = c.args.config.now in
    let relays = map (λ relay. relay.source) config.relays in
    let was = c.circuits.invariant in
    let items = c.circuits.circuits.items in
    let next = c.in_ok-sockets.sockets in
    let is_behind = λ (circuit : CircuitSockets). circuit.relay < length config.relays in
    record {
      index = search rules;
      end = was.end;
      few = was.few;
      ports = was.ports;
      count = search rules;
      behind = subst (λ circuits. All is_behind circuits) (sym c.in-Ok-push.ensures.items) (All-push is_behind items next was.behind c.in_ok-sockets.ensures.behind);
      own = subst (λ circuits. AreOwnSockets relays c.args.port c.args.history.now.id (parts_of config) circuits) (sym c.in-Ok-push.ensures.items)
          (pushed (AreCircuitSockets relays c.args.port c.args.history.now.id) (parts_of config) items next was.own
          (λ part there. subst (λ n. AreCircuitSockets relays c.args.port c.args.history.now.id n part next) (sym was.count)
          (subst (λ h. AreCircuitSockets relays c.args.port h c.circuits.index part next) was.same (c.in_ok-sockets.ensures.own part (subst (λ n. slice_get (parts_of config) n ≡ Some part) was.count there)))));
      same = search rules;
      silent = search rules;
    }

pub returns-in_err-sockets-clause-refused : goal.returns-in_err-sockets-clause-refused
returns-in_err-sockets-clause-refused g c =
    let Is = IsCircuitSocket (length c.args.config.now.circuits) c.args.port in
    let refused : Refuses (λ at. Is at × WasRefused c.args.history.now.entries c.bind.new.history.entries at) c.in_err-sockets.field-0.0 =
    refused_some Is Is _ _ _ _ (λ at was. was) c.circuits.invariant.silent c.in_err-sockets.ensures.refused in
    search rules
