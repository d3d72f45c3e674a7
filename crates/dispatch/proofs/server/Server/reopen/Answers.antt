use Rattle.std.proofs.Common.{◌≡◌, map, set, length, drop, sym, ap, subst, ◌∙◌, arith, rules}
use Rattle.std.specs.Prelude.{All, IfSome, Option, slice_get}
use Rattle.config.specs.CircuitPart.{CircuitPart}
use Rattle.circuit_server.specs.CircuitServerValue.{HasPools, IsReady, IsReadyFor, OpenCircuitValue, open_book}
use Rattle.circuit_server.specs.Leases.{book_in, found_leases}
use Rattle.circuit_server.specs.Restarted.{SettlesOne}
use Rattle.circuit_server.specs.Server.{book_at}
use Rattle.lease_disk.specs.Device.{IsCalledWithin}
use Rattle.circuit_server.specs.Deadlines.{held_in}
use Rattle.circuit_server.specs.Ticked.{server_state, state_at}
use Rattle.types.specs.declared.slots.Slots.{Slots}
use Rattle.dispatch.specs.Reopened.{IsReopened, KeepsOtherCircuits}
use Rattle.dispatch.specs.ServerValue.{ServerValue, circuits_in, with_states}
use Rattle.dispatch.proofs.OneServer.{still_held, still_sound}
use Rattle.dispatch.proofs.ReopenLemmas.{all_reached, book_stays, found_later, leases_stay, own_leases, reopened_one, settled_later, state_stays, still_pools, still_ready}
use Rattle.dispatch.proofs.ServerLemmas.{written_through}
use Rattle.dispatch.proofs.TickLemmas.{ready_after_tick}
use Rattle.dispatch.proofs.server.Server.reopen.Goals as goal

-- no answer names the type of a step, so that an edit that adds one is refused for what it changes

pub invariant_of-self : goal.invariant_of-self
invariant_of-self g c =
    let part = c.part.result.now in
    let left = c.tick.new.self in
    let ticked = c.self.inside.ticked in
    let servers = c.self.inside.servers.items in
    let before = map (state_at ticked) servers in
    let after = map (state_at ticked) (set servers c.index-index.result left) in
    let its_one = reopened_one ticked servers c.args.circuit c.index-index.result c.restart.new.self left c.index-index.ensures.value (omega (arith, c.if-index-len.false, c.len.ensures)) c.tick.ensures in (
      still_sound c.self.inside.circuits before after c.args.circuit part (server_state before c.args.circuit) left c.self.invariant.0 its_one c.part.ensures
          (subst (HasPools part) (sym c.tick.ensures) (still_pools c.self.inside.ticked part c.restart.new.self c.restart.ensures.pools)),
      still_held before after c.args.circuit (server_state before c.args.circuit) left c.self.inside.deadlines c.set_deadlines.new.table its_one c.self.invariant.1 c.set_deadlines.ensures.entries,
      (let size : length c.restart.new.buffer ≡ 16384 = search rules in
          ap length (written_through c.self.inside.buffer.len c.restart.new.buffer (drop (length c.restart.new.buffer) c.self.inside.buffer.items)
          (omega (arith, size, c.self.invariant.2, c.self.inside.buffer.ok.0))) ∙ size),
    )

pub returns-clause-reopened : goal.returns-clause-reopened
returns-clause-reopened g c =
    let parts = c.self.inside.circuits.circuits in
    let part = c.part.result.now in
    let left = c.tick.new.self in
    let ticked = c.self.inside.ticked in
    let servers = c.self.inside.servers.items in
    let before = map (state_at ticked) servers in
    let after = map (state_at ticked) (set servers c.index-index.result left) in
    let its_one = reopened_one ticked servers c.args.circuit c.index-index.result c.restart.new.self left c.index-index.ensures.value (omega (arith, c.if-index-len.false, c.len.ensures)) c.tick.ensures in
    let device = g.D.Disk.device c.args.disk.now in
    let later = g.D.Disk.device c.restart.new.disk in
    let reopened : ServerValue = record { topology = c.self.inside.circuits; states = after; deadlines = c.set_deadlines.new.table } in
    let Q : CircuitPart → Type 0 = λ p. IsReopened g.D.Disk.tells c.args.circuit p reopened device later in
    let P : ServerValue → Type 0 = λ s. IfSome (slice_get s.topology.circuits c.args.circuit) Q in
    let moment = c.self.inside.ticked in
    let state = c.restart.new.self in
    let done : Q part = record {
      moment = moment;
      reached = all_reached moment (set c.self.inside.servers.items c.index-index.result left);
      found =
          subst (λ (x : Option OpenCircuitValue). IfSome x (λ o. (slots : Slots) × (open_book o ≡ book_at moment (book_in part slots)))) (sym (its_one.after ∙ c.tick.ensures))
          (found_later moment part state c.restart.ensures.found);
      leases = λ tells.
          own_leases parts before after c.args.circuit part _ left its_one c.part.ensures moment state later.region (found_leases device.region device.failing_call part) c.tick.ensures
          (c.restart.ensures.restarted.leases tells);
      deadlines = λ s below. c.set_deadlines.ensures.own s below ∙ ap (λ (x : Option OpenCircuitValue). held_in x s) (sym its_one.after);
      frame = c.restart.ensures.frame;
      region = c.restart.ensures.restarted.region;
    } in
    subst P c.self.view_is (subst (λ (x : Option CircuitPart). IfSome x Q) (sym c.part.ensures) done)

pub returns-clause-ready : goal.returns-clause-ready
returns-clause-ready g c tells =
    let parts = c.self.inside.circuits.circuits in
    let part = c.part.result.now in
    let left = c.tick.new.self in
    let ticked = c.self.inside.ticked in
    let servers = c.self.inside.servers.items in
    let before = map (state_at ticked) servers in
    let after = map (state_at ticked) (set servers c.index-index.result left) in
    let its_one = reopened_one ticked servers c.args.circuit c.index-index.result c.restart.new.self left c.index-index.ensures.value (omega (arith, c.if-index-len.false, c.len.ensures)) c.tick.ensures in
    let device = g.D.Disk.device c.args.disk.now in
    let later = g.D.Disk.device c.restart.new.disk in
    let P : ServerValue → Type 0 = λ s. All (IsReady device.region) (circuits_in s) → All (IsReady later.region) (with_states parts after) in
    let own : IsReadyFor (later.region part.region) left =
    subst (IsReadyFor (later.region part.region)) (sym c.tick.ensures)
    (ready_after_tick c.self.inside.ticked (later.region part.region) c.restart.new.self (c.restart.ensures.restarted.ready tells)) in
    subst P c.self.view_is
    (still_ready parts before after c.args.circuit part _ left its_one c.part.ensures
    c.self.invariant.0.sound.regions g.D.Disk.tells tells device later c.restart.ensures.frame own)

pub returns-clause-calls : goal.returns-clause-calls
returns-clause-calls g c =
    let device = g.D.Disk.device c.args.disk.now in
    let later = g.D.Disk.device c.restart.new.disk in
    let P : ServerValue → Type 0 = λ s. IfSome (slice_get s.topology.circuits c.args.circuit) (λ (p : CircuitPart). IsCalledWithin 1 5 4 device later) in
    subst P c.self.view_is (subst (λ (x : Option CircuitPart). IfSome x (λ p. IsCalledWithin 1 5 4 device later)) (sym c.part.ensures) c.restart.ensures.calls)

pub returns-clause-settled : goal.returns-clause-settled
returns-clause-settled g c =
    let part = c.part.result.now in
    let left = c.tick.new.self in
    let ticked = c.self.inside.ticked in
    let servers = c.self.inside.servers.items in
    let after = map (state_at ticked) (set servers c.index-index.result left) in
    let its_one = reopened_one ticked servers c.args.circuit c.index-index.result c.restart.new.self left c.index-index.ensures.value (omega (arith, c.if-index-len.false, c.len.ensures)) c.tick.ensures in
    let old = g.D.Disk.doubt c.args.disk.now in
    let new = g.D.Disk.doubt c.restart.new.disk in
    let Q : CircuitPart → Type 0 = λ p. SettlesOne p.region (server_state after c.args.circuit) old new in
    let done : Q part =
    subst (λ (x : Option OpenCircuitValue). SettlesOne part.region x old new) (sym (its_one.after ∙ c.tick.ensures)) (settled_later ticked part.region c.restart.new.self old new c.restart.ensures.doubt) in
    subst (λ (x : Option CircuitPart). IfSome x Q) (sym c.part.ensures) done

pub returns-clause-others : goal.returns-clause-others
returns-clause-others g c =
    let ticked = c.self.inside.ticked in
    let servers = c.self.inside.servers.items in
    let k = c.index-index.result in
    let state = c.tick.new.self in
    let old = map (state_at ticked) servers in
    let new = map (state_at ticked) (set servers k state) in
    let device = g.D.Disk.device c.args.disk.now in
    let later = g.D.Disk.device c.restart.new.disk in
    let one = reopened_one ticked servers c.args.circuit k c.restart.new.self state c.index-index.ensures.value (omega (arith, c.if-index-len.false, c.len.ensures)) c.tick.ensures in
    let P : ServerValue → Type 0 = λ s.
    KeepsOtherCircuits g.D.Disk.tells c.args.circuit s (record { topology = c.self.inside.circuits; states = new; deadlines = c.set_deadlines.new.table }) device later in
    subst P c.self.view_is
    (record {
      states = state_stays c.self.inside.circuits.circuits old new c.args.circuit c.part.result.now _ state one c.part.ensures;
      books = book_stays c.self.inside.circuits.circuits old new c.args.circuit c.part.result.now _ state one c.part.ensures;
      leases = λ tells.
          leases_stay c.self.inside.circuits.circuits old new c.args.circuit c.part.result.now _ state one c.part.ensures
          c.self.invariant.0.sound.regions g.D.Disk.tells tells device later c.restart.ensures.frame;
    })
