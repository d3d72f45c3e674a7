use Rattle.std.proofs.Common.{ap, ◌∙◌, arith}
use Rattle.lossy_net.specs.Net.{NetValue, datagrams}
use Rattle.lossy_net.specs.declared.dir.Dir.TheVariants.{Up, Down}
use Rattle.lossy_net.proofs.Lists.{ring_taken}
use Rattle.lossy_net.proofs.Clears.{both_below, cleared_here, cleared_apart}
use Rattle.lossy_net.proofs.net.Net.clear.Goals as goal

pub index_mut-requires : goal.index_mut-requires
index_mut-requires c = omega (arith, both_below c.self.inside _ c.args.circuit c.self.invariant c.self.view_is c.requires)

pub index_mut-requires-2 : goal.index_mut-requires-2
index_mut-requires-2 c = omega (arith, both_below c.self.inside _ c.args.circuit c.self.invariant c.self.view_is c.requires)

pub returns-clause-empty : goal.returns-clause-empty
returns-clause-empty c =
    let up = ring_taken _ _ _ Up _ c.self.invariant c.self.view_is c.requires c.ring_index-up.ensures in
    let down = ring_taken _ _ _ Down _ c.self.invariant c.self.view_is c.requires c.ring_index-down.ensures in
    cleared_here up down

pub returns-clause-others : goal.returns-clause-others
returns-clause-others c = λ other way apart.
    let up = ring_taken _ _ _ Up _ c.self.invariant c.self.view_is c.requires c.ring_index-up.ensures in
    let down = ring_taken _ _ _ Down _ c.self.invariant c.self.view_is c.requires c.ring_index-down.ensures in
    cleared_apart up down other way apart ∙ ap (λ (net : NetValue). datagrams net other way) c.self.view_is
