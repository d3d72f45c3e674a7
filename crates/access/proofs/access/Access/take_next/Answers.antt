use Rattle.std.proofs.Common.{◌≡◌, ◌+◌, ◌-◌, ℕ, sym, ap, subst, arith}
use Rattle.config.specs.Topology.{Topology}
use Rattle.access.specs.Access.{AccessValue, HasCarried, IsAccess}
use Rattle.access.specs.Pass.{SocketsFrom}
use Rattle.access.specs.Turn.{CircuitSocket}
use Rattle.access.specs.contracts.access.Access.{the_view}
use Rattle.access.proofs.SliceLemmas.{carried_next, carried_over}
use Rattle.access.proofs.access.Access.take_next.Goals as goal

pub invariant_of-self : goal.invariant_of-self
invariant_of-self c =
    let inside = c.self.inside in
    subst (λ (h : ℕ). IsAccess inside.relays.topology inside.sockets inside.server inside.disk.regions inside.port inside.batch.most h inside.listen4 inside.listen6) (sym c.pass_over-next.ensures.same) c.self.invariant

pub invariant_of-self-2 : goal.invariant_of-self-2
invariant_of-self-2 c =
    let inside = c.self.inside in
    subst (λ (h : ℕ). IsAccess inside.relays.topology inside.sockets inside.server inside.disk.regions inside.port inside.batch.most h inside.listen4 inside.listen6) (sym c.pass_over-next.ensures.same) c.self.invariant

pub returns-then-next-end-clause-carried : goal.returns-then-next-end-clause-carried
returns-then-next-end-clause-carried c =
    let topology = c.args.self.now.topology in
    let next = c.pass_over-next.result in
    let from = c.args.from in
    let history = c.pass_over-next.new.history.entries in
    let old = the_view c.self.inside in
    let least = c.pass_over-next.ensures.from in
    let last = c.if-next-end.true in (
      next - from,
      omega (arith, least, last),
      subst (λ (s : AccessValue). HasCarried (SocketsFrom topology c.args.proto from (next - from)) 0 s (record old { history = history })) c.self.view_is
          (carried_over topology c.args.proto from (next - from) old history c.pass_over-next.ensures.idle),
    )

pub returns-clause-carried : goal.returns-clause-carried
returns-clause-carried c =
    let topology = c.args.self.now.topology in
    let proto = c.args.proto in
    let next = c.pass_over-next.result in
    let from = c.args.from in
    let n = next - from in
    let old = the_view c.self.inside in
    let middle : AccessValue = record old { history = c.pass_over-next.new.history.entries } in
    let call = c.take_frame-taken in
    let least = c.pass_over-next.ensures.from in
    let at : next ≡ from + n = omega (arith, least) in
    let first = subst (λ (s : AccessValue). HasCarried (SocketsFrom topology proto from n) 0 s middle) c.self.view_is (carried_over topology proto from n old middle.history c.pass_over-next.ensures.idle) in
    let second = subst (λ i. HasCarried (CircuitSocket topology i proto) call.result middle call.new.self) at
    (subst (λ (t : Topology). HasCarried (CircuitSocket t next proto) call.result middle call.new.self) (ap (λ (s : AccessValue). s.topology) c.self.view_is) call.ensures.carried) in (
      n + 1,
      omega (arith, at),
      carried_next topology proto from n call.result c.args.self.now middle call.new.self first second,
    )
