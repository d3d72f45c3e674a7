use Rattle.std.proofs.Common.{◌≡◌, refl, sym, ap, subst, length, ◌∙◌}
use Rattle.config.specs.Membership.{has}
use Rattle.config.specs.Topology.{Topology}
use Rattle.lease_disk.specs.Model as disk
use Rattle.relay.specs.Relays.{RelaysValue}
use Rattle.events.specs.declared.event.Event.{Event}
use Rattle.events.specs.declared.event.Event.TheVariants as events
use Rattle.events.specs.declared.outcome.Outcome.TheVariants as outcome
use Rattle.world.specs.Headline.{Steps}
use Rattle.world.specs.World.{WorldValue, states}
use Rattle.world.proofs.CircuitSteps.{no_plan_steps, reload_steps}
use Rattle.world.proofs.ReloadLemmas.{IsReloading, all_turn, has_next, no_next, still_reloaded}
use Rattle.world.proofs.WorldLemmas.{whole}
use Rattle.world.proofs.world.World.reload.Goals as goal

pub returns-then-not-has_plan-clause-steps : goal.returns-then-not-has_plan-clause-steps
returns-then-not-has_plan-clause-steps c =
    let w : WorldValue = record { relays = c.self.inside.relays; net = c.self.inside.net; server = c.self.inside.server; disk = c.self.inside.disk } in
    let plan = c.args.plan in
    let none = sym c.has_plan.ensures ∙ c.if-not-has_plan.true in
    let P : WorldValue → Type 0 = λ v. (e : Event) → e ≡ events.Reload plan → Steps e (states v) (states v) outcome.NoPlan c.clear.new.self in
    subst P c.self.view_is (λ e is. no_plan_steps e plan (states w) outcome.NoPlan c.clear.new.self is (no_next w c.self.invariant plan none) refl c.clear.ensures)

pub invariant_of-self : goal.invariant_of-self
invariant_of-self c =
    let w : WorldValue = record { relays = c.self.inside.relays; net = c.self.inside.net; server = c.self.inside.server; disk = c.self.inside.disk } in
    let new : WorldValue = record w { relays = c.reload-2.new.self; net = c.clear_all.new.net; server = c.reload.new.self } in
    let r : IsReloading w new c.args.plan = record {
      there = sym c.has_plan.ensures ∙ c.if-not-has_plan.false;
      topology = ap (λ (v : RelaysValue). v.topology) c.reload-2.ensures.value;
      served = c.reload.ensures.topology;
      discarded = ap (λ (v : RelaysValue). v.discarded) c.reload-2.ensures.value;
      disk = refl;
      quota = c.clear_all.ensures.quota;
      count = c.clear_all.ensures.count;
      queues = c.clear_all.ensures.queues;
      size = whole new ∙ ap (λ (v : Topology). length v.circuits) c.reload.ensures.topology ∙ sym (whole w);
      leases = c.reload.ensures.leases (disk.disk_region w.disk);
    } in
    still_reloaded w new c.args.plan c.self.invariant r c.clear.new.self c.clear.ensures (c.reload.ensures.ready (disk.disk_region w.disk) c.self.invariant.ready)

pub returns-clause-steps : goal.returns-clause-steps
returns-clause-steps c =
    let w : WorldValue = record { relays = c.self.inside.relays; net = c.self.inside.net; server = c.self.inside.server; disk = c.self.inside.disk } in
    let new : WorldValue = record w { relays = c.reload-2.new.self; net = c.clear_all.new.net; server = c.reload.new.self } in
    let plan = c.args.plan in
    let out = c.clear.new.self in
    let empty = c.clear.ensures in
    let is = c.self.invariant in
    let r : IsReloading w new plan = record {
      there = sym c.has_plan.ensures ∙ c.if-not-has_plan.false;
      topology = ap (λ (v : RelaysValue). v.topology) c.reload-2.ensures.value;
      served = c.reload.ensures.topology;
      discarded = ap (λ (v : RelaysValue). v.discarded) c.reload-2.ensures.value;
      disk = refl;
      quota = c.clear_all.ensures.quota;
      count = c.clear_all.ensures.count;
      queues = c.clear_all.ensures.queues;
      size = whole new ∙ ap (λ (v : Topology). length v.circuits) c.reload.ensures.topology ∙ sym (whole w);
      leases = c.reload.ensures.leases (disk.disk_region w.disk);
    } in
    let P : WorldValue → Type 0 = λ v. (e : Event) → e ≡ events.Reload plan → Steps e (states v) (states new) outcome.Done out in
    subst P c.self.view_is (λ e reload.
    reload_steps e plan (λ n. has w.relays.topology.plans plan n) (states w) (states new) outcome.Done out reload (has_next w new plan is r out empty) (all_turn w new plan is r out empty) refl empty)
