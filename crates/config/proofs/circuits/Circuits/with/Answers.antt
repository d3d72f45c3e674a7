use Rattle.std.proofs.Common.{◌≡◌, map, sym, ap, subst, ◌∙◌}
use Rattle.settings.specs.declared.settings.CircuitConfig.{CircuitConfig}
use Rattle.config.specs.CircuitPart.{CircuitPart}
use Rattle.config.specs.Topology.{IsTopology, topology_with}
use Rattle.config.proofs.IndexLemmas.{ids_of_parts}
use Rattle.config.proofs.TopologyLemmas.{is_topology}
use Rattle.config.proofs.circuits.Circuits.with.Goals as goal

pub invariant_of-result : goal.invariant_of-result
invariant_of-result c =
    let settings = c.args.config.now in
    let parts = sym c.in_ok-parts.ensures.value in
    let ids = c.in_ok-index.ensures ∙ ap (map (λ (circuit : CircuitConfig). circuit.id)) c.circuits.ensures.value ∙ ids_of_parts settings ∙ ap (map (λ (part : CircuitPart). part.id)) parts in
    let same : topology_with settings c.args.plans ≡ record {
      listen4 = c.server-server.result.now.listen4;
      listen6 = c.server-server.result.now.listen6;
      relays = c.in_ok-relays.relays.items;
      circuits = c.in_ok-parts.parts.items;
      plans = c.args.plans;
    } = λ i. record {
      listen4 = (sym c.server-server.ensures.value i).listen4;
      listen6 = (sym c.server-server.ensures.value i).listen6;
      relays = sym c.in_ok-relays.ensures i;
      circuits = parts i;
      plans = c.args.plans;
    } in
    (subst IsTopology same (is_topology settings c.args.plans c.circuits.ensures.sound c.requires c.in_ok-parts.ensures.sound), ids)

pub returns-clause-sound : goal.returns-clause-sound
returns-clause-sound c = is_topology c.args.config.now c.args.plans c.circuits.ensures.sound c.requires c.in_ok-parts.ensures.sound
