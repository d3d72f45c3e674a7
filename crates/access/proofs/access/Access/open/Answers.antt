use Rattle.std.proofs.Common.{◌≡◌, ◌≤◌, ◌+◌, ◌*◌, ◌∙◌, ℕ, length, sym, ap, subst, rules}
use Rattle.std.proofs.lemmas.List.{length-map}
use Rattle.config.specs.Topology.{Topology}
use Rattle.config.specs.CircuitPart.{parts_of}
use Rattle.dispatch.specs.Regions.{HasRegions}
use Rattle.udp.specs.History.{HistoryValue}
use Rattle.access.specs.Access.{RefusesSocket, ServesEach}
use Rattle.sockets.specs.Sockets.{AreBound, IsSocket, WasRefused}
use Rattle.types.specs.declared.addr.Source.{Source}
use Rattle.access.proofs.FaultLemmas.{socket_refuses}
use Rattle.access.proofs.TopologyLemmas.{serves_each}
use Rattle.access.proofs.access.Access.open.Goals as goal

pub invariant_of-result : goal.invariant_of-result
invariant_of-result g c =
    let config = c.args.config.now in
    let engine = c.in_ok-engine.ensures.engine in
    let topology = engine.topology in
    let bound = c.in-Ok.ensures.bound in
    let many : length c.in_ok-engine.engine.relays.topology.circuits ≡ length config.circuits = ap (λ (t : Topology). length t.circuits) topology ∙ length-map config.circuits _ in
    let ports : c.args.options.port + 4 * length config.circuits ≤ 65536 = search rules in (
      bound.circuits ∙ sym many,
      search rules,
      search rules,
      bound.relays ∙ sym (ap (λ (t : Topology). length t.relays) topology ∙ length-map config.relays _),
      search rules,
      subst (λ (t : Topology). HasRegions t.circuits c.in_ok-engine.engine.disk.regions) (sym engine.served) engine.large,
      subst (λ (h : ℕ). AreBound c.in_ok-engine.engine.relays.topology c.args.options.port h c.in-Ok.bound.0) (sym (ap (λ (h : HistoryValue). h.id) c.replace.ensures.value ∙ c.in-Ok.ensures.same))
          (subst (λ (t : Topology). AreBound t c.args.options.port c.args.opening.now.id c.in-Ok.bound.0) (sym topology) bound.bound),
      subst ServesEach (sym topology) (serves_each config),
      search rules,
      search rules,
      subst (λ n. c.args.options.port + 4 * n ≤ 65536) (sym many) ports,
      search rules,
    )

-- the device has as many regions as before it was opened
pub returns-in-Err-clause-socket : goal.returns-in-Err-clause-socket
returns-in-Err-clause-socket g c =
    let config = c.args.config.now in
    let engine = c.in_ok-engine.ensures.engine in
    let regions = subst (HasRegions (parts_of config)) engine.count engine.large in
    let Bound = λ (at : Source). IsSocket config c.args.options.port at × WasRefused c.args.opening.now.entries c.bind_sockets.new.history.entries at in
    let Socket = λ (at : Source). IsSocket config c.args.options.port at × HasRegions (parts_of config) c.args.disk.regions × WasRefused c.args.opening.now.entries c.bind_sockets.new.history.entries at in
    subst (RefusesSocket Socket) (sym c.from-in-Err.ensures) (socket_refuses Bound Socket c.in-Err.why (λ at refused. (refused.0, regions, refused.1)) c.in-Err.ensures.refused)
