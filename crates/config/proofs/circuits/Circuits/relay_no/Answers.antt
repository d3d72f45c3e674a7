use Rattle.std.proofs.Common.{◌≡◌, Some, sym, ap, ◌∙◌, subst}
use Rattle.std.specs.Prelude.{slice_get}
use Rattle.config.specs.CircuitPart.{CircuitPart}
use Rattle.config.specs.Topology.{IsTopology, Topology}
use Rattle.config.proofs.TopologyLemmas.{relay_nowhere, relay_there}
use Rattle.config.proofs.circuits.Circuits.relay_no.Goals as goal

pub unreachable-requires : goal.unreachable-requires
unreachable-requires c =
    let topology = c.args.self.now in
    let sound : IsTopology topology = subst IsTopology c.self.view_is c.self.invariant.0 in
    let own = sound.relay c.args.circuit c.part.result.now c.part.ensures in
    let relays : topology.relays ≡ c.deref.result.now = ap (λ (t : Topology). t.relays) (sym c.self.view_is) ∙ sym c.deref.ensures.value in
    relay_nowhere c.deref.result.now own.0 c.relay.result (sym c.index_of.ensures ∙ c.in_default.is)
    (ap (λ xs. slice_get xs own.0) (sym relays) ∙ own.1 ∙ ap Some (sym c.relay.ensures))

pub returns : goal.returns
returns c part there =
    let topology = c.args.self.now in
    let relays : topology.relays ≡ c.deref.result.now = ap (λ (t : Topology). t.relays) (sym c.self.view_is) ∙ sym c.deref.ensures.value in
    let found = relay_there c.deref.result.now c.in-Some.index c.relay.result (sym c.index_of.ensures ∙ c.in-Some.is) in
    let both : Some c.part.result.now ≡ Some part = sym c.part.ensures ∙ there in
    let same : c.part.result.now ≡ part = cc in
    ap (λ n. slice_get topology.relays n) c.at.ensures
    ∙ ap (λ xs. slice_get xs c.in-Some.index) relays ∙ found ∙ ap Some (c.relay.ensures ∙ ap (λ (p : CircuitPart). p.relay) same)
