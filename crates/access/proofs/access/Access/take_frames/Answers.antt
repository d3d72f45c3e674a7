use Rattle.std.proofs.Common.{◌≡◌, ◌<◌, ℕ, length, refl, sym, subst}
use Rattle.types.specs.declared.dest.Proto.TheVariants.{V4, V6}
use Rattle.udp.specs.History.{Empty, with_entry}
use Rattle.udp.specs.declared.history.Role.TheVariants as role
use Rattle.access.specs.Access.{AccessValue, HasCarried, IsAccess}
use Rattle.access.specs.Turn.{Both, CircuitSocket}
use Rattle.access.specs.contracts.access.Access.{the_view}
use Rattle.access.proofs.CarryLemmas.{carried_both_idle}
use Rattle.access.proofs.UpLemmas.{circuits_own}
use Rattle.access.proofs.access.Access.take_frames.Goals as goal

pub invariant_of-self : goal.invariant_of-self
invariant_of-self c =
    let inside = c.self.inside in
    subst (λ (h : ℕ). IsAccess inside.relays.topology inside.sockets inside.server inside.disk.regions inside.port inside.batch.most h inside.listen4 inside.listen6) (sym c.is_idle_with.ensures.same) c.self.invariant

pub returns-then-is_idle_with-clause-carried : goal.returns-then-is_idle_with-clause-carried
returns-then-is_idle_with-clause-carried c =
    let inside = c.self.inside in
    let topology = inside.relays.topology in
    let index = c.args.index in
    let circuit = c.index-sockets.result.now in
    let before : AccessValue = the_view inside in
    let within : index < length topology.circuits = subst (λ (s : AccessValue). index < length s.topology.circuits) (sym c.self.view_is) c.requires in
    let own = circuits_own topology inside.port inside.history.id inside.sockets c.self.invariant.6 c.self.invariant.0 index within circuit c.index-sockets.ensures in
    let its4 = (own V4 circuit.socket4 (λ e. refl) (λ e. absurd cc)).role in
    let its6 = (own V6 circuit.socket6 (λ e. absurd cc) (λ e. refl)).role in
    subst (λ (old : AccessValue). HasCarried (Both (CircuitSocket old.topology index V4) (CircuitSocket old.topology index V6)) 0 old (record before { history = c.is_idle_with.new.history.entries })) c.self.view_is
    (carried_both_idle topology index before c.is_idle_with.new.history.entries
    (subst (λ r. c.is_idle_with.new.history.entries ≡ with_entry (Empty r) (with_entry (Empty (role.Circuit index V4)) inside.history.entries)) its6
    (subst (λ r. c.is_idle_with.new.history.entries ≡ with_entry (Empty circuit.socket6.role) (with_entry (Empty r) inside.history.entries)) its4 (c.is_idle_with.ensures.idle c.if-is_idle_with.true))))

pub invariant_of-self-2 : goal.invariant_of-self-2
invariant_of-self-2 c =
    let inside = c.self.inside in
    subst (λ (h : ℕ). IsAccess inside.relays.topology inside.sockets inside.server inside.disk.regions inside.port inside.batch.most h inside.listen4 inside.listen6) (sym c.is_idle_with.ensures.same) c.self.invariant
