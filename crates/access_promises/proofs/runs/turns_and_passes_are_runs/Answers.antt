use Rattle.access_promises.proofs.RunLemmas.{passes_made, turns_made}
use Rattle.access_promises.proofs.runs.turns_and_passes_are_runs.Goals as goal

pub returns-clause-turns : goal.returns-clause-turns
returns-clause-turns x n now old new sound known turns = record { topology = sound; served = known; rounds = n; now = now; made = turns_made n now old new turns }

pub returns-clause-passes : goal.returns-clause-passes
returns-clause-passes x n now old new sound known passes = record { topology = sound; served = known; rounds = n; now = now; made = passes_made n now old new passes }
