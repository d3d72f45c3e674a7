use Rattle.std.proofs.Common.{refl, sym, subst}
use Rattle.dispatch.specs.ServerValue.{AreReady}
use Rattle.world.specs.World.{WorldValue}
use Rattle.world.proofs.WorldLemmas.{still_world}
use Rattle.world.proofs.world.World.over.Goals as goal

pub invariant_of-result : goal.invariant_of-result
invariant_of-result c =
    let w : WorldValue = record { relays = c.args.relays; net = c.args.net; server = c.args.server; disk = c.args.disk } in
    let new : WorldValue = record w { disk = c.clear_faults.new.disk } in
    still_world w new c.requires refl refl refl c.clear_faults.ensures.count
    (subst (λ regions. AreReady regions w.server) (sym c.clear_faults.ensures.states) c.requires.ready) c.requires.addressed c.requires.returned
