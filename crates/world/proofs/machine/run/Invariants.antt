use Rattle.std.proofs.Common.{◌≡◌, take}
use Rattle.dispatch.specs.Regions.{KeepsOthers}
use Rattle.world.specs.Headline.{Emits, Reaches}
use Rattle.world.proofs.Runs.{Turned}
use Rattle.world.proofs.machine.run.Given as goal

-- so far the run is that of the events so far
abbrev pub invariant-events : goal.invariant-events
invariant-events g l =
    let states = g.M.Machine.states in
    let taken = g.S.Sink.taken in
    record {
      emits : Emits (take l.n l.events) (states l.fn.machine) (taken l.fn.sink) (taken l.sink);
      circuits : (g.M.Machine.topology l.machine).circuits ≡ (g.M.Machine.topology l.fn.machine).circuits;
      others : KeepsOthers (g.M.Machine.topology l.fn.machine).circuits (g.M.Machine.device l.fn.machine) (g.M.Machine.device l.machine);
      turned : Turned (take l.n l.events) (states l.fn.machine) (states l.machine);
      reaches : Reaches (take l.n l.events) (states l.fn.machine) (states l.machine);
      quiet : g.S.Sink.refusals l.sink ≡ g.S.Sink.refusals l.fn.sink;
    }
