use Rattle.std.proofs.Common.{◌<◌, ℕ, length, sym, subst}
use Rattle.std.proofs.lemmas.List.{length-map}
use Rattle.config.specs.Topology.{Topology}
use Rattle.forged_datagrams.proofs.bench.Bench.up.Goals as goal

pub serves-requires : goal.serves-requires
serves-requires c =
    let circuit : ℕ = c.in_ok-circuit.circuit in
    subst (λ (t : Topology). circuit < length t.circuits) (sym c.args.self.now.own)
    (subst (λ (n : ℕ). circuit < n) (sym (length-map _ _)) c.in_ok-circuit.ensures.within)

pub up-requires-clause-exists : goal.up-requires-clause-exists
up-requires-clause-exists c =
    let circuit : ℕ = c.in_ok-circuit.circuit in
    subst (λ (t : Topology). circuit < length t.circuits) (sym c.args.self.now.own)
    (subst (λ (n : ℕ). circuit < n) (sym (length-map _ _)) c.in_ok-circuit.ensures.within)
