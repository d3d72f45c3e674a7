use Rattle.std.proofs.Common.{◌≡◌, ◌<◌, ◌∙◌, ap, length, sym, subst, map, rules}
use Rattle.types.specs.declared.dest.Proto.TheVariants.{V4, V6}
use Rattle.udp.specs.declared.history.Role.TheVariants as role
use Rattle.sockets.specs.Sockets.{IsCircuitSocket, Refuses, WasRefused, local_port}
use Rattle.sockets.proofs.RefusedLemmas.{refused_one}
use Rattle.std.specs.Prelude.{Some, slice_get}
use Rattle.sockets.proofs.RelayLemmas.{own_relay}
use Rattle.sockets.proofs.sockets.CircuitSockets.bind.Goals as goal

pub returns-clause-own : goal.returns-clause-own
returns-clause-own g c = λ part is.
    let config = c.args.config.now in
    let circuit = c.at.result.now in
    let there : slice_get config.circuits c.args.index ≡ Some circuit = subst (λ i. slice_get config.circuits i ≡ Some circuit) c.at-circuit.ensures c.at.ensures.value in
    let within : circuit.relay < length config.relays = search rules in
    record {
      socket4 = record {
        role = c.in_ok-socket4.ensures.bound.role ∙ ap (λ k. role.Circuit k V4) c.at-circuit.ensures;
        at = c.in_ok-socket4.ensures.bound.at ∙ c.local.ensures ∙ ap local_port (search rules);
        history = c.in_ok-socket4.ensures.bound.history;
      };
      socket6 = record {
        role = c.in_ok-socket6.ensures.bound.role ∙ ap (λ k. role.Circuit k V6) c.at-circuit.ensures;
        at = c.in_ok-socket6.ensures.bound.at ∙ c.local-2.ensures ∙ ap local_port (search rules);
        history = c.in_ok-socket6.ensures.bound.history ∙ c.in_ok-socket4.ensures.same;
      };
      relay = subst (λ n. slice_get (map (λ relay. relay.source) config.relays) n ≡ Some part.relay) (sym c.index-relay.ensures.value) (own_relay config c.args.index circuit there within part is);
    }

pub returns-in_err-socket6-clause-refused : goal.returns-in_err-socket6-clause-refused
returns-in_err-socket6-clause-refused g c =
    let config = c.args.config.now in
    let count = length config.circuits in
    let at = c.local-2.result in
    let is : IsCircuitSocket count c.args.port at = (c.args.index, V6, c.requires.index, c.local-2.ensures ∙ ap local_port (search rules)) in
    let refused : Refuses (λ at. IsCircuitSocket count c.args.port at × WasRefused c.args.history.now.entries c.bind-2.new.history.entries at) c.in_err-socket6.field-0.0 =
    refused_one (IsCircuitSocket count c.args.port) at _ _ _ _ is c.in_ok-socket4.ensures.silent c.in_err-socket6.ensures.refused in
    search rules
