use Rattle.std.proofs.Common.{refl, ap, subst}
use Rattle.config.specs.Topology.{Topology}
use Rattle.lease_disk.specs.Model as disk
use Rattle.events.specs.Seen.{Tick}
use Rattle.world.specs.StepsAs.{AllMove}
use Rattle.world.specs.World.{WorldValue, states}
use Rattle.events.specs.declared.outcome.Outcome.TheVariants as outcome
use Rattle.world.proofs.WorldLemmas.{all_tick, still_world}
use Rattle.world.proofs.world.World.tick.Goals as goal

pub returns-clause-moves : goal.returns-clause-moves
returns-clause-moves c =
    let w : WorldValue = record { relays = c.self.inside.relays; net = c.self.inside.net; server = c.self.inside.server; disk = c.self.inside.disk } in
    let new : WorldValue = record w { server = c.tick.new.self } in
    let P : WorldValue → Type 0 = λ v. AllMove (λ n. Tick c.args.now) (states v) (states new) outcome.Done c.clear.new.self in
    subst P c.self.view_is (all_tick w new c.args.now c.clear.new.self refl refl refl c.clear.ensures (ap (λ (t : Topology). t.circuits) c.tick.ensures.topology) (c.tick.ensures.leases (disk.disk_region w.disk)))

pub invariant_of-self : goal.invariant_of-self
invariant_of-self c =
    let w : WorldValue = record { relays = c.self.inside.relays; net = c.self.inside.net; server = c.self.inside.server; disk = c.self.inside.disk } in
    let new : WorldValue = record w { server = c.tick.new.self } in
    let is = c.self.invariant in
    still_world w new is refl c.tick.ensures.topology refl refl (c.tick.ensures.ready (disk.disk_region w.disk) is.ready) is.addressed is.returned
