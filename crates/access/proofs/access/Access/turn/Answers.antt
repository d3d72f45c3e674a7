use Rattle.std.proofs.Common.{◌≡◌, ◌∙◌, refl, ap, subst, rules}
use Rattle.std.specs.Prelude.{Some, slice_get}
use Rattle.lease_disk.specs.FileDisk.{untold}
use Rattle.dispatch.specs.ServerValue.{books_in, circuits_in}
use Rattle.config.specs.Topology.{Topology}
use Rattle.udp.specs.History.{Ticked, with_entry}
use Rattle.access.specs.Access.{AccessValue, HasCarried, books_at}
use Rattle.access.specs.Turn.{RelaysSockets}
use Rattle.access.proofs.CarryLemmas.{carried_port, carried_topology}
use Rattle.access.proofs.ClockLemmas.{reached, ticked}
use Rattle.access.proofs.TurnLemmas.{counted_received, quiet, turned_closed, turned_counts}
use Rattle.access.proofs.access.Access.turn.Goals as goal

pub returns-clause-turned : goal.returns-clause-turned
returns-clause-turned c =
    let kept = c.take_at_server-datagrams.ensures.served.kept in
    let topology = kept.topology ∙ carried_topology _ c.take_from_circuits-frames.result _ _ c.take_from_circuits-frames.ensures.carried in
    let port = kept.port ∙ carried_port _ c.take_from_circuits-frames.result _ _ c.take_from_circuits-frames.ensures.carried in
    record {
      relayed = c.take_from_circuits-frames.new.self;
      served = c.take_at_server-datagrams.new.self;
      delivered = c.take_from_relays-answers.new.self;
      frames = c.take_from_circuits-frames.result;
      datagrams = c.take_at_server-datagrams.result;
      answers = c.take_from_relays-answers.result;
      from_circuits = c.take_from_circuits-frames.ensures.carried;
      at_server = c.take_at_server-datagrams.ensures.served;
      from_relays = subst (λ (t : Topology). HasCarried (RelaysSockets t c.args.self.now.port) c.take_from_relays-answers.result c.take_at_server-datagrams.new.self c.take_from_relays-answers.new.self) topology
          (subst (λ p. HasCarried (RelaysSockets c.take_at_server-datagrams.new.self.topology p) c.take_from_relays-answers.result c.take_at_server-datagrams.new.self c.take_from_relays-answers.new.self) port
          c.take_from_relays-answers.ensures.carried);
      ticks = record {
        ticked = ticked (λ region. untold) c.args.now (circuits_in c.tick.new.self) (circuits_in c.self.inside.server) (c.tick.ensures.leases (λ region. untold))
            ∙ ap (λ (s : AccessValue). books_at c.args.now (books_in s.server)) c.self.view_is;
        known = c.tick.ensures.topology ∙ ap (λ (s : AccessValue). s.server.topology) c.self.view_is;
        rest = ap (λ (s : AccessValue). record s { server = c.tick.new.self; history = c.tick-2.new.self.entries; turns = c.tick-3.new.self.count }) c.self.view_is;
        history = c.tick-2.ensures.entries ∙ ap (λ (s : AccessValue). with_entry (Ticked c.args.now) s.history) c.self.view_is;
      };
      many = refl;
    }

pub returns-clause-counts : goal.returns-clause-counts
returns-clause-counts c = turned_counts c.args.now _ c.args.self.now _ (returns-clause-turned c)

pub returns-clause-received : goal.returns-clause-received
returns-clause-received c = counted_received _ c.args.self.now.tally.all c.self.inside.tally.all (returns-clause-counts c) (search rules)

pub returns-clause-quiet : goal.returns-clause-quiet
returns-clause-quiet c = quiet c.args.now _ c.args.self.now _ (returns-clause-turned c)

pub returns-clause-closed : goal.returns-clause-closed
returns-clause-closed c = turned_closed c.args.now _ c.args.self.now _ (returns-clause-turned c)

pub returns-clause-clocks : goal.returns-clause-clocks
unfolding returns-clause-turned
returns-clause-clocks c = λ k book found.
    reached c.args.now (books_in c.take_from_relays-answers.new.self.server) k book
    (subst (λ books. slice_get books k ≡ Some (Some book)) (returns-clause-turned c).ticks.ticked found)
