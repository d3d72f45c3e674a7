use Rattle.std.proofs.Common.{◌≡◌, ◌∙◌, ◌+◌, ◌*◌, ◌≤◌, ℕ, length, refl, ap, subst, arith, rules}
use Rattle.config.specs.Topology.{Topology}
use Rattle.std.specs.Prelude.{Some, slice_get}
use Rattle.lease_disk.specs.FileDisk.{untold}
use Rattle.types.specs.declared.dest.Proto.TheVariants.{V4}
use Rattle.dispatch.specs.ServerValue.{books_in, circuits_in}
use Rattle.udp.specs.History.{Ticked, with_entry}
use Rattle.access.specs.Access.{AccessValue, books_at}
use Rattle.access.specs.Pass.{HasTakenAll}
use Rattle.access.proofs.ClockLemmas.{reached, ticked}
use Rattle.access.proofs.PassLemmas.{keeps_all, keeps_both, passed_closed, passed_counts, passed_quiet, passed_set_up}
use Rattle.access.proofs.TurnLemmas.{counted_received}
use Rattle.access.proofs.access.Access.pass.Goals as goal

pub returns-clause-passed : goal.returns-clause-passed
returns-clause-passed c = record {
  taken4 = c.take_all-count4.new.self;
  taken6 = c.take_all-count6.new.self;
  count4 = c.take_all-count4.result;
  count6 = c.take_all-count6.result;
  of4 = subst (λ (s : AccessValue). HasTakenAll c.args.now V4 c.take_all-count4.result s c.take_all-count4.new.self) c.self.view_is c.take_all-count4.ensures.taken;
  of6 = c.take_all-count6.ensures.taken;
  ticks = record {
    ticked = ticked (λ region. untold) c.args.now (circuits_in c.tick.new.self) (circuits_in c.self-2.inside.server) (c.tick.ensures.leases (λ region. untold))
        ∙ ap (λ (s : AccessValue). books_at c.args.now (books_in s.server)) c.self-2.view_is;
    known = c.tick.ensures.topology ∙ ap (λ (s : AccessValue). s.server.topology) c.self-2.view_is;
    rest = ap (λ (s : AccessValue). record s { server = c.tick.new.self; history = c.tick-2.new.self.entries; turns = c.tick-3.new.self.count }) c.self-2.view_is;
    history = c.tick-2.ensures.entries ∙ ap (λ (s : AccessValue). with_entry (Ticked c.args.now) s.history) c.self-2.view_is;
  };
  count_is = refl;
}

-- how many circuits there are after the first protocol, and before
same_circuits : (now n : ℕ) (old new : AccessValue) → HasTakenAll now V4 n old new → length new.topology.circuits ≡ length old.topology.circuits
same_circuits now n old new taken = ap (λ (t : Topology). length t.circuits) (keeps_all now V4 n old new taken).set_up.topology

pub returns-clause-most : goal.returns-clause-most
unfolding returns-clause-passed
returns-clause-most c =
    let p = returns-clause-passed c in
    let same = same_circuits c.args.now c.take_all-count4.result c.args.self.now c.take_all-count4.new.self p.of4 in
    let most4 = subst (λ (s : AccessValue). c.take_all-count4.result ≤ 19 * (length s.topology.circuits + 15)) c.self.view_is c.take_all-count4.ensures.most in
    let most6 = c.take_all-count6.ensures.most in
    omega (arith, same, most4, most6)

pub overflow_add-result : goal.overflow_add-result
unfolding returns-clause-passed
overflow_add-result c =
    let most4 = c.take_all-count4.ensures.most in
    let most6 = c.take_all-count6.ensures.most in
    let many = c.self.invariant.0 in
    let few = c.self.invariant.1 in
    let same = same_circuits c.args.now c.take_all-count4.result _ c.take_all-count4.new.self c.take_all-count4.ensures.taken in
    let small : c.take_all-count4.result + c.take_all-count6.result ≤ 40000 = omega (arith, many, few, same, most4, most6) in
    search rules

pub returns-clause-turns : goal.returns-clause-turns
unfolding returns-clause-passed
returns-clause-turns c =
    let p = returns-clause-passed c in
    c.tick-3.ensures ∙ ap (λ k. k + 1) (ap (λ (s : AccessValue). s.turns) c.self-2.view_is ∙ (keeps_both c.args.now _ c.args.self.now _ p).turns)

pub returns-clause-set_up : goal.returns-clause-set_up
returns-clause-set_up c = passed_set_up c.args.now _ c.args.self.now _ (returns-clause-passed c)

pub returns-clause-counts : goal.returns-clause-counts
returns-clause-counts c = passed_counts c.args.now _ c.args.self.now _ (returns-clause-passed c)

pub returns-clause-received : goal.returns-clause-received
returns-clause-received c = counted_received _ c.args.self.now.tally.all c.self-2.inside.tally.all (returns-clause-counts c) (search rules)

pub returns-clause-quiet : goal.returns-clause-quiet
returns-clause-quiet c = passed_quiet c.args.now _ c.args.self.now _ (returns-clause-passed c)

pub returns-clause-closed : goal.returns-clause-closed
returns-clause-closed c = passed_closed c.args.now _ c.args.self.now _ (returns-clause-passed c)

pub returns-clause-clocks : goal.returns-clause-clocks
unfolding returns-clause-passed
returns-clause-clocks c = λ k book found.
    reached c.args.now (books_in c.take_all-count6.new.self.server) k book
    (subst (λ books. slice_get books k ≡ Some (Some book)) (returns-clause-passed c).ticks.ticked found)
