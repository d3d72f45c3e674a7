use Rattle.std.proofs.Common.{◌≡◌, sym, subst, map}
use Rattle.std.specs.List.{filter_map}
use Rattle.access_promises.specs.Alone.{goes_up, relayed_alone}
use Rattle.access_promises.specs.Own.{frames_in, relayed_in, sent_up}
use Rattle.access_promises.proofs.RunLemmas.{added_is, run_ran}
use Rattle.access_promises.proofs.relaying.relays_each_circuit_up_alone.Goals as goal

pub returns-clause-own : goal.returns-clause-own
returns-clause-own x c part old new run there =
    let ran = run_ran old new run in
    subst (λ es. relayed_in old.topology c es ≡ map (relayed_alone part) (frames_in c es)) (sym (added_is old.topology old.port old new ran))
    (ran.up.own c part there)

pub returns-clause-all : goal.returns-clause-all
returns-clause-all x old new run =
    let ran = run_ran old new run in
    subst (λ es. filter_map (sent_up old.topology) es ≡ filter_map (goes_up old.topology) es) (sym (added_is old.topology old.port old new ran)) ran.up.all
