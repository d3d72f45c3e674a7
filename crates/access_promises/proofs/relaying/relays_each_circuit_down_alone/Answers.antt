use Rattle.std.proofs.Common.{◌≡◌, sym, subst}
use Rattle.std.specs.Prelude.{All}
use Rattle.std.specs.List.{filter_map}
use Rattle.access_promises.specs.Alone.{GoesToItsClients, frame_alone}
use Rattle.access_promises.specs.Own.{datagrams_in, sent_in}
use Rattle.access_promises.proofs.RunLemmas.{added_is, run_ran}
use Rattle.access_promises.proofs.relaying.relays_each_circuit_down_alone.Goals as goal

pub returns-clause-own : goal.returns-clause-own
returns-clause-own x c part old new run there =
    let ran = run_ran old new run in
    subst (λ es. sent_in c es ≡ filter_map (frame_alone part) (datagrams_in old.topology c es)) (sym (added_is old.topology old.port old new ran))
    (ran.down.own c part there)

pub returns-clause-ports : goal.returns-clause-ports
returns-clause-ports x old new run =
    let ran = run_ran old new run in
    subst (All (GoesToItsClients old.port)) (sym (added_is old.topology old.port old new ran)) ran.down.ports
