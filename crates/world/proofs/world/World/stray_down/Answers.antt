use Rattle.std.proofs.Common.{◌≡◌, sym, ap, subst, ◌∙◌}
use Rattle.world.specs.World.{WorldValue}
use Rattle.events.specs.Stray.{stray_down_outcome}
use Rattle.events.specs.declared.outcome.Outcome.TheVariants as outcome
use Rattle.world.proofs.StrayLemmas.{no_frame, relay_reason}
use Rattle.world.proofs.world.World.stray_down.Goals as goal

pub unreachable-requires : goal.unreachable-requires
unreachable-requires c =
    no_frame c.self.inside.relays.topology c.args.relay c.args.source c.args.datagram.now _ (sym c.is_server.ensures ∙ c.if-is_server.false) c.in-Ok.ensures.ok

pub returns-clause-outcome : goal.returns-clause-outcome
returns-clause-outcome c =
    let w : WorldValue = record { relays = c.self.inside.relays; net = c.self.inside.net; server = c.self.inside.server; disk = c.self.inside.disk } in
    let t = w.relays.topology in
    let P : WorldValue → Type 0 = λ v. outcome.Dropped c.in-Err.why ≡ stray_down_outcome v.relays.topology c.args.relay c.args.source in
    subst P c.self.view_is (
    rw (sym c.exists.ensures, c.if-not-exists.false, sym c.is_server.ensures, c.if-is_server.false)
    (ap outcome.Dropped (relay_reason t c.args.relay c.args.source c.args.datagram.now c.in-Err.why (sym c.is_server.ensures ∙ c.if-is_server.false) c.in-Err.ensures.err))
    )
