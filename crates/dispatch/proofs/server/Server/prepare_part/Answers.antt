use Rattle.std.proofs.Common.{inr, ◌≡◌, ◌∙◌, ℕ, List, false, Ok, map, set, sym, ap, subst}
use Rattle.std.specs.Prelude.{IfOk, Option, Result}
use Rattle.types.specs.Delivery.{DeliveryValue}
use Rattle.types.specs.declared.discard.Discard.{Discard}
use Rattle.config.specs.Topology.{Topology}
use Rattle.requests.specs.Addressee.{addressee}
use Rattle.requests.specs.declared.relayed_message.RelayedMessage.{RelayedMessage}
use Rattle.circuit_server.specs.CircuitServerValue.{OpenCircuitValue}
use Rattle.circuit_server.specs.Prepared.{IsDropped, IsPrepared}
use Rattle.circuit_server.specs.Ticked.{state_at, server_state}
use Rattle.dispatch.specs.Batch.{is_circuit}
use Rattle.dispatch.specs.Deadlines.{AllUnchangedOrUntilHeld, KeepsDeadlines}
use Rattle.dispatch.specs.Parts.{IsOf, IsPart, has_named}
use Rattle.dispatch.specs.ServerValue.{ServerValue}
use Rattle.dispatch.proofs.HeldDeadlines.{held_all, kept_beside}
use Rattle.dispatch.proofs.OneServer.{IsOne, after_call, its_entries, its_pools, still_held, still_sound}
use Rattle.dispatch.proofs.PartLemmas.{not_same}
use Rattle.dispatch.proofs.server.Server.prepare_part.Goals as goal
use Rattle.dispatch.proofs.server.Server.prepare_part.Goals.{in-Ok-prepare, in-Err-prepare}

pub prepare-requires-clause-pools : goal.prepare-requires-clause-pools
prepare-requires-clause-pools c =
    its_pools c.self.inside.circuits c.self.inside.ticked c.self.inside.servers.items c.self.invariant.0 c.in-Ok.found.0 c.index-index.result c.index-index.ensures.value c.part-part.result.now c.part-part.ensures
    c.index_mut-server.result.now c.tick.new.self c.index_mut-server.ensures.value c.tick.ensures

pub prepare-requires-clause-entries : goal.prepare-requires-clause-entries
prepare-requires-clause-entries c =
    its_entries c.self.inside.circuits c.self.inside.ticked c.self.inside.servers.items c.self.invariant.0 c.in-Ok.found.0 c.index-index.result c.index-index.ensures.value c.part-part.result.now c.part-part.ensures
    c.index_mut-server.result.now c.tick.new.self c.index_mut-server.ensures.value c.tick.ensures c.self.inside.deadlines c.self.invariant.1

-- ---- the server of the part's circuit, among all

abbrev circuit : (c : goal.Joined-prepare) → ℕ
circuit c = c.in-Ok.found.0

-- the states that show of all, before and after
abbrev before : (c : goal.Joined-prepare) → List (Option OpenCircuitValue)
before c = map (state_at c.self.inside.ticked) c.self.inside.servers.items

abbrev after : (c : goal.Joined-prepare) → List (Option OpenCircuitValue)
after c = map (state_at c.self.inside.ticked) (set c.self.inside.servers.items c.index-index.result c.prepare.new.self)

one : (c : goal.Joined-prepare) → IsOne c.tick.new.self c.prepare.new.self (circuit c) (before c) (after c)
one c =
    after_call c.self.inside.circuits c.self.inside.ticked c.self.inside.servers.items c.self.invariant.0 (circuit c) c.index-index.result c.index-index.ensures.value c.part-part.result.now c.part-part.ensures
    c.index_mut-server.result.now c.tick.new.self c.index_mut-server.ensures.value c.tick.ensures c.prepare.new.self c.prepare.ensures.later

found : (c : goal.Joined-prepare) → addressee c.self.inside.circuits c.args.delivery.now ≡ Ok (circuit c)
found c = subst (λ (r : Result (ℕ × RelayedMessage) Discard). IfOk r (λ one. addressee c.self.inside.circuits c.args.delivery.now ≡ Ok one.0)) c.in-Ok.is c.addressee-found.ensures.circuit

pub invariant_of-self : goal.invariant_of-self
invariant_of-self c = (
  still_sound c.self.inside.circuits (before c) (after c) (circuit c) c.part-part.result.now c.tick.new.self c.prepare.new.self c.self.invariant.0 (one c) c.part-part.ensures c.prepare.ensures.pools,
  still_held (before c) (after c) (circuit c) c.tick.new.self c.prepare.new.self c.self.inside.deadlines c.prepare.new.table (one c) c.self.invariant.1 c.prepare.ensures.entries,
  c.self.invariant.2,
)

not_found : (topology : Topology) (d : DeliveryValue) (c : ℕ) → addressee topology d ≡ Ok c → (k : ℕ) → is_circuit k (addressee topology d) ≡ false → k ≡ c → ⊥
not_found topology d c is k none = not_same c k (sym (ap (is_circuit k) is) ∙ none)

pub returns-clause-deadlines : goal.returns-clause-deadlines
returns-clause-deadlines c =
    subst (λ (s : ServerValue). KeepsDeadlines (λ k. is_circuit k (addressee s.topology c.args.delivery.now)) s.deadlines c.prepare.new.table) c.self.view_is
    (kept_beside (circuit c) (λ k. is_circuit k (addressee c.self.inside.circuits c.args.delivery.now)) c.self.inside.deadlines c.prepare.new.table
    (not_found c.self.inside.circuits c.args.delivery.now (circuit c) (found c)) c.prepare.ensures.entries.others)

pub returns-clause-held : goal.returns-clause-held
returns-clause-held c =
    subst (λ (s : ServerValue). AllUnchangedOrUntilHeld s.deadlines c.prepare.new.table (after c)) c.self.view_is
    (held_all (circuit c) (after c) c.prepare.new.self c.self.inside.deadlines c.prepare.new.table (sym (one c).after) c.prepare.ensures.entries.others c.prepare.ensures.entries.own)

-- ---- the part

-- it is the first one of its circuit
is_of : (c : goal.Joined-prepare) → IsOf c.self.inside.circuits c.args.named.now.items c.args.delivery.now (circuit c) (before c) (after c)
is_of c = record {
  found = found c;
  fresh =
      ap (has_named c.args.named.now.items) (sym c.index-index.ensures.value)
      ∙ ap (λ (names : List ℕ). has_named names c.index-index.result) (sym c.deref.ensures.0) ∙ sym c.contains.ensures.value ∙ c.if-contains.false;
  others = (one c).others ∙ ap (set (before c) (circuit c)) (sym (one c).after);
}

pub returns-clause-part : goal.returns-clause-part
returns-clause-part c =
    let items = c.args.named.now.items in
    let d = c.args.delivery.now in
    let part = c.part-part.result.now in
    subst (λ (s : ServerValue). IsPart s.topology items d s.states (after c) c.match-prepare.result) c.self.view_is
    (elim c.match-prepare.branch [
      | in-Ok-prepare w ↦ subst (IsPart c.self.inside.circuits items d (before c) (after c)) (sym w.result-is) (
        part,
        is_of c,
        c.part-part.ensures,
        subst (λ was. IsPrepared part d was (server_state (after c) (circuit c)) w.in-Ok-prepare.prepared) (sym (one c).before)
            (subst (λ is. IsPrepared part d c.tick.new.self is w.in-Ok-prepare.prepared) (sym (one c).after) w.in-Ok-prepare.ensures.prepared),
      )
      | in-Err-prepare w ↦ subst (IsPart c.self.inside.circuits items d (before c) (after c)) (sym w.result-is)
          (inr (inr (
            circuit c,
            part,
            is_of c,
            c.part-part.ensures,
            subst (λ was. IsDropped part d was (server_state (after c) (circuit c)) w.in-Err-prepare.why) (sym (one c).before)
                (subst (λ is. IsDropped part d c.tick.new.self is w.in-Err-prepare.why) (sym (one c).after) w.in-Err-prepare.ensures.dropped),
          )))
    ])
