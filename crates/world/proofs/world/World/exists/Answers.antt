use Rattle.std.proofs.Common.{length, nat_lt, sym, ap, ◌∙◌}
use Rattle.world.specs.World.{WorldValue, states}
use Rattle.world.proofs.WorldLemmas.{states_count}
use Rattle.world.proofs.world.World.exists.Goals as goal

pub returns-clause-states : goal.returns-clause-states
returns-clause-states c =
    let w : WorldValue = record { relays = c.self.inside.relays; net = c.self.inside.net; server = c.self.inside.server; disk = c.self.inside.disk } in
    let count = c.circuit_count.ensures ∙ sym (states_count w c.self.invariant) in
    (λ i. nat_lt (c.index.ensures.value i) (count i)) ∙ ap (λ (v : WorldValue). nat_lt c.args.circuit (length (states v))) c.self.view_is
