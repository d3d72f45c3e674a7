use Rattle.std.proofs.Common.{List, subst, sym}
use Rattle.std.specs.Prelude.{All}
use Rattle.std.proofs.lemmas.Option.{slice_get_within}
use Rattle.types.specs.Addr.{number4, number6}
use Rattle.settings.specs.declared.settings.CircuitConfig.{CircuitConfig}
use Rattle.config.specs.Rules.{IsInPool4, IsInPool6}
use Rattle.config.proofs.RefLemmas.{inside}
use Rattle.config.proofs.rules.gateway_in_pool.Goals as goal

pub returns-in-Some-clause-some : goal.returns-in-Some-clause-some
returns-in-Some-clause-some c = λ s same.
    inside (λ one other. IsInPool4 other (number4 one.gateway4)) s c.args.circuits.now c.in-Some.first c.in-Some.second c.circuit_ref-circuit.result c.circuit_ref-owner.result same c.in-Some.ensures.some
    (c.circuit_ref-circuit.ensures.number, c.circuit_ref-circuit.ensures.id) (c.circuit_ref-owner.ensures.number, c.circuit_ref-owner.ensures.id)

pub returns-in-Some-first_of_all-clause-some : goal.returns-in-Some-first_of_all-clause-some
returns-in-Some-first_of_all-clause-some c =
    let circuit = c.circuit_ref-circuit-in-Some-first_of_all in
    let owner = c.circuit_ref-owner-in-Some-first_of_all in
    λ s same.
    inside (λ one other. IsInPool6 other (number6 one.link6)) s c.args.circuits.now c.in-Some-first_of_all.first c.in-Some-first_of_all.second circuit.result owner.result same c.in-Some-first_of_all.ensures.some
    (circuit.ensures.number, circuit.ensures.id) (owner.ensures.number, owner.ensures.id)

pub returns-clause-none : goal.returns-clause-none
returns-clause-none c = λ s same. record {
  four = subst (λ (circuits : List CircuitConfig). All (λ one. All (λ other. ¬ IsInPool4 other (number4 one.gateway4)) circuits) circuits) (sym same) c.in_default.ensures.none;
  six = subst (λ (circuits : List CircuitConfig). All (λ one. All (λ other. ¬ IsInPool6 other (number6 one.link6)) circuits) circuits) (sym same) c.in_default-first_of_all.ensures.none;
}

pub circuit_ref-circuit-requires : goal.circuit_ref-circuit-requires
circuit_ref-circuit-requires c =
    let found = c.in-Some.ensures.some in
    slice_get_within c.args.circuits.now c.in-Some.first found.one found.one_is

pub circuit_ref-owner-requires : goal.circuit_ref-owner-requires
circuit_ref-owner-requires c =
    let found = c.in-Some.ensures.some in
    slice_get_within c.args.circuits.now c.in-Some.second found.other found.other_is

pub circuit_ref-circuit-requires-in-Some-first_of_all :
    goal.circuit_ref-circuit-requires-in-Some-first_of_all
circuit_ref-circuit-requires-in-Some-first_of_all c =
    let found = c.in-Some-first_of_all.ensures.some in
    slice_get_within c.args.circuits.now c.in-Some-first_of_all.first found.one found.one_is

pub circuit_ref-owner-requires-in-Some-first_of_all :
    goal.circuit_ref-owner-requires-in-Some-first_of_all
circuit_ref-owner-requires-in-Some-first_of_all c =
    let found = c.in-Some-first_of_all.ensures.some in
    slice_get_within c.args.circuits.now c.in-Some-first_of_all.second found.other found.other_is
