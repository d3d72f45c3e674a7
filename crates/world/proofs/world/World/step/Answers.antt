use Rattle.std.proofs.Common.{length, refl, ap}
use Rattle.events.specs.Seen.{Frame, Up, Down, Tick, Restart, comeback_at, reload_of, seen_of, named_by}
use Rattle.events.specs.Stray.{is_stray}
use Rattle.world.specs.Headline.{batch_of}
use Rattle.world.specs.World.{states}
use Rattle.world.proofs.CircuitSteps.{named_steps, missing, gone_steps, all_steps, stray_steps}
use Rattle.lease_disk.specs.Model as disk
use Rattle.world.proofs.ServedLemmas.{spares_stay}
use Rattle.world.proofs.world.World.step.Goals as goal

pub returns-then-not-exists-clause-steps : goal.returns-then-not-exists-clause-steps
returns-then-not-exists-clause-steps c =
    let k = c.in-Frame.circuit in
    gone_steps c.args.event.now k (Frame c.in-Frame.proto c.in-Frame.frame.now) (λ plans n on. ap (seen_of plans n on) c.in-Frame.is) (ap named_by c.in-Frame.is) (states c.args.self.now) c.gone.result c.gone.new.out
    (missing k (length (states c.args.self.now)) _ c.exists.ensures.states c.if-not-exists.true) c.gone.ensures.gone c.gone.ensures.empty

pub returns-then-not-exists-2-clause-steps : goal.returns-then-not-exists-2-clause-steps
returns-then-not-exists-2-clause-steps c =
    let k = c.in-Up.circuit in
    gone_steps c.args.event.now k (Up c.in-Up.number c.in-Up.now c.in-Up.fault) (λ plans n on. ap (seen_of plans n on) c.in-Up.is) (ap named_by c.in-Up.is) (states c.args.self.now)
    c.gone-then-not-exists-2.result c.gone-then-not-exists-2.new.out
    (missing k (length (states c.args.self.now)) _ c.exists-in-Up.ensures.states c.if-not-exists-2.true) c.gone-then-not-exists-2.ensures.gone c.gone-then-not-exists-2.ensures.empty

pub returns-then-not-exists-3-clause-steps : goal.returns-then-not-exists-3-clause-steps
returns-then-not-exists-3-clause-steps c =
    let k = c.in-Down.circuit in
    gone_steps c.args.event.now k (Down c.in-Down.number) (λ plans n on. ap (seen_of plans n on) c.in-Down.is) (ap named_by c.in-Down.is) (states c.args.self.now)
    c.gone-then-not-exists-3.result c.gone-then-not-exists-3.new.out
    (missing k (length (states c.args.self.now)) _ c.exists-in-Down.ensures.states c.if-not-exists-3.true) c.gone-then-not-exists-3.ensures.gone c.gone-then-not-exists-3.ensures.empty

pub returns-else-not-exists-clause-steps : goal.returns-else-not-exists-clause-steps
returns-else-not-exists-clause-steps c =
    let m = c.frame.ensures.moves in
    named_steps c.args.event.now c.in-Frame.circuit (Frame c.in-Frame.proto c.in-Frame.frame.now) (λ plans n on. ap (seen_of plans n on) c.in-Frame.is) (ap named_by c.in-Frame.is)
    (states c.args.self.now) (states c.frame.new.self) c.frame.result c.frame.new.out m.count m.others m.before m.after m.was m.is m.steps

pub returns-else-not-exists-2-clause-steps : goal.returns-else-not-exists-2-clause-steps
returns-else-not-exists-2-clause-steps c =
    let m = c.up.ensures.moves in
    named_steps c.args.event.now c.in-Up.circuit (Up c.in-Up.number c.in-Up.now c.in-Up.fault) (λ plans n on. ap (seen_of plans n on) c.in-Up.is) (ap named_by c.in-Up.is)
    (states c.args.self.now) (states c.up.new.self) c.up.result c.up.new.out m.count m.others m.before m.after m.was m.is m.steps

pub returns-else-not-exists-3-clause-steps : goal.returns-else-not-exists-3-clause-steps
returns-else-not-exists-3-clause-steps c =
    let m = c.down.ensures.moves in
    named_steps c.args.event.now c.in-Down.circuit (Down c.in-Down.number) (λ plans n on. ap (seen_of plans n on) c.in-Down.is) (ap named_by c.in-Down.is)
    (states c.args.self.now) (states c.down.new.self) c.down.result c.down.new.out m.count m.others m.before m.after m.was m.is m.steps

pub returns-in-Tick-clause-steps : goal.returns-in-Tick-clause-steps
returns-in-Tick-clause-steps c =
    all_steps c.args.event.now (λ n. Tick c.in-Tick.now) (states c.args.self.now) (states c.tick.new.self) c.tick.result c.tick.new.out (λ plans n on. ap (seen_of plans n on) c.in-Tick.is) (ap named_by c.in-Tick.is) (ap reload_of c.in-Tick.is) (ap batch_of c.in-Tick.is)
    c.tick.ensures.moves c.tick.ensures.done c.tick.ensures.empty

pub returns-in-Restart-clause-steps : goal.returns-in-Restart-clause-steps
returns-in-Restart-clause-steps c =
    all_steps c.args.event.now (λ n. Restart (comeback_at n c.in-Restart.comebacks.now)) (states c.args.self.now) (states c.restart.new.self) c.restart.result c.restart.new.out
    (λ plans n on. ap (seen_of plans n on) c.in-Restart.is) (ap named_by c.in-Restart.is) (ap reload_of c.in-Restart.is) (ap batch_of c.in-Restart.is) c.restart.ensures.moves c.restart.ensures.done c.restart.ensures.empty

pub returns-in-StrayUp-clause-steps : goal.returns-in-StrayUp-clause-steps
returns-in-StrayUp-clause-steps c =
    stray_steps c.args.event.now (states c.args.self.now) (states c.stray_up.new.self) c.stray_up.result c.stray_up.new.out (ap is_stray c.in-StrayUp.is)
    c.stray_up.ensures.frame c.stray_up.ensures.empty c.stray_up.ensures.states

pub returns-in-StrayDown-clause-steps : goal.returns-in-StrayDown-clause-steps
returns-in-StrayDown-clause-steps c =
    stray_steps c.args.event.now (states c.args.self.now) (states c.args.self.now) c.stray_down.result c.stray_down.new.out (ap is_stray c.in-StrayDown.is)
    c.stray_down.ensures.frame c.stray_down.ensures.empty refl

pub returns-then-not-exists-clause-others : goal.returns-then-not-exists-clause-others
returns-then-not-exists-clause-others c = spares_stay c.args.self.now.relays.topology.circuits (disk.device_of c.args.self.now.disk) (disk.device_of c.args.self.now.disk) refl

pub returns-then-not-exists-2-clause-others : goal.returns-then-not-exists-2-clause-others
returns-then-not-exists-2-clause-others c = spares_stay c.args.self.now.relays.topology.circuits (disk.device_of c.args.self.now.disk) (disk.device_of c.args.self.now.disk) refl

pub returns-then-not-exists-3-clause-others : goal.returns-then-not-exists-3-clause-others
returns-then-not-exists-3-clause-others c = spares_stay c.args.self.now.relays.topology.circuits (disk.device_of c.args.self.now.disk) (disk.device_of c.args.self.now.disk) refl

pub returns-else-not-exists-clause-others : goal.returns-else-not-exists-clause-others
returns-else-not-exists-clause-others c = spares_stay c.args.self.now.relays.topology.circuits (disk.device_of c.args.self.now.disk) (disk.device_of c.frame.new.self.disk) (ap (λ d. disk.device_of d) c.frame.ensures.disk)

pub returns-else-not-exists-3-clause-others : goal.returns-else-not-exists-3-clause-others
returns-else-not-exists-3-clause-others c = spares_stay c.args.self.now.relays.topology.circuits (disk.device_of c.args.self.now.disk) (disk.device_of c.down.new.self.disk) (ap (λ d. disk.device_of d) c.down.ensures.disk)

pub returns-in-Tick-clause-others : goal.returns-in-Tick-clause-others
returns-in-Tick-clause-others c = spares_stay c.args.self.now.relays.topology.circuits (disk.device_of c.args.self.now.disk) (disk.device_of c.tick.new.self.disk) (ap (λ d. disk.device_of d) c.tick.ensures.disk)

pub returns-in-StrayDown-clause-others : goal.returns-in-StrayDown-clause-others
returns-in-StrayDown-clause-others c = spares_stay c.args.self.now.relays.topology.circuits (disk.device_of c.args.self.now.disk) (disk.device_of c.args.self.now.disk) refl

pub returns-in-StrayUp-clause-others : goal.returns-in-StrayUp-clause-others
returns-in-StrayUp-clause-others c = spares_stay c.args.self.now.relays.topology.circuits (disk.device_of c.args.self.now.disk) (disk.device_of c.stray_up.new.self.disk) c.stray_up.ensures.device

pub returns-in-Reload-clause-steps : goal.returns-in-Reload-clause-steps
returns-in-Reload-clause-steps c = c.reload.ensures.steps c.args.event.now c.in-Reload.is

pub returns-in-Reload-clause-others : goal.returns-in-Reload-clause-others
returns-in-Reload-clause-others c = spares_stay c.args.self.now.relays.topology.circuits (disk.device_of c.args.self.now.disk) (disk.device_of c.reload.new.self.disk) (ap (λ d. disk.device_of d) c.reload.ensures.disk)

pub returns-in-Batch-clause-steps : goal.returns-in-Batch-clause-steps
returns-in-Batch-clause-steps c = c.batch.ensures.steps c.args.event.now c.in-Batch.is
