use Rattle.std.proofs.Common.{◌≡◌, true, false, refl, sym, ap, subst, ◌∙◌}
use Rattle.types.specs.Delivery.{delivery}
use Rattle.config.specs.Topology.{is_relay}
use Rattle.types.specs.declared.discard.Discard.TheVariants.{UnknownSource}
use Rattle.dispatch.specs.ServerValue.{books_in, leases_in}
use Rattle.lease_disk.specs.Model as disk
use Rattle.world.specs.World.{WorldValue, each_state, states}
use Rattle.events.specs.Stray.{stray_up_outcome}
use Rattle.events.specs.declared.outcome.Outcome.TheVariants as outcome
use Rattle.lease_disk.proofs.Frames.{writes_count}
use Rattle.world.proofs.StrayLemmas.{states_over, stray_received, stray_leases, stray_saves, refusal_is, no_ok, same_reason}
use Rattle.world.proofs.ServedLemmas.{same_device}
use Rattle.world.proofs.WorldLemmas.{still_world}
use Rattle.world.proofs.world.World.stray_up.Goals as goal

pub unreachable-requires : goal.unreachable-requires
unreachable-requires c =
    let w : WorldValue = record { relays = c.self.inside.relays; net = c.self.inside.net; server = c.self.inside.server; disk = c.self.inside.disk } in
    let apart : is_relay w.server.topology c.args.source ≡ false = ap (λ t. is_relay t c.args.source) c.self.invariant.served ∙ sym c.is_relay.ensures ∙ c.if-is_relay.false in
    let all = stray_received w.server.topology (delivery c.args.proto c.args.source c.args.now c.args.datagram.now) _ (books_in w.server) apart in
    no_ok c.receive.result c.in-Ok.field-0 UnknownSource c.in-Ok.is
    (refusal_is _ UnknownSource (books_in w.server) c.receive.result c.receive.new.out all (c.receive.ensures.answer))

pub returns-clause-outcome : goal.returns-clause-outcome
returns-clause-outcome c =
    let w : WorldValue = record { relays = c.self.inside.relays; net = c.self.inside.net; server = c.self.inside.server; disk = c.self.inside.disk } in
    let apart : is_relay w.server.topology c.args.source ≡ false = ap (λ t. is_relay t c.args.source) c.self.invariant.served ∙ sym c.is_relay.ensures ∙ c.if-is_relay.false in
    let all = stray_received w.server.topology (delivery c.args.proto c.args.source c.args.now c.args.datagram.now) _ (books_in w.server) apart in
    let same = same_reason c.receive.result c.in-Err.why UnknownSource c.in-Err.is
    (refusal_is _ UnknownSource (books_in w.server) c.receive.result c.receive.new.out all (c.receive.ensures.answer)) in
    let known : false ≡ (c.is_relay.result) = sym c.if-is_relay.false in
    let P : WorldValue → Type 0 = λ v. outcome.Dropped c.in-Err.why ≡ stray_up_outcome v.relays.topology c.args.source in
    subst P c.self.view_is (rw (sym c.is_relay.ensures, c.if-is_relay.false) (ap outcome.Dropped same))

pub returns-clause-states : goal.returns-clause-states
returns-clause-states c =
    let w : WorldValue = record { relays = c.self.inside.relays; net = c.self.inside.net; server = c.self.inside.server; disk = c.self.inside.disk } in
    let new : WorldValue = record w { server = c.receive.new.self; disk = c.receive.new.disk } in
    let apart : is_relay w.server.topology c.args.source ≡ false = ap (λ t. is_relay t c.args.source) c.self.invariant.served ∙ sym c.is_relay.ensures ∙ c.if-is_relay.false in
    let leases = c.receive.ensures.leases refl ∙ stray_leases w.server.topology (delivery c.args.proto c.args.source c.args.now c.args.datagram.now) (disk.failing_call_of w.disk) (leases_in (disk.disk_region w.disk) w.server) apart in
    let P : WorldValue → Type 0 = λ v. states new ≡ states v in
    let device = same_device _ (disk.device_of w.disk) (disk.device_of c.receive.new.disk) (stray_saves w.server.topology (delivery c.args.proto c.args.source c.args.now c.args.datagram.now) (books_in w.server) apart) c.receive.ensures.frame in
    subst P c.self.view_is (λ i. each_state (states_over w.net w.relays (device i)) (c.receive.ensures.topology i).circuits (leases i))

pub invariant_of-self : goal.invariant_of-self
invariant_of-self c =
    let w : WorldValue = record { relays = c.self.inside.relays; net = c.self.inside.net; server = c.self.inside.server; disk = c.self.inside.disk } in
    let new : WorldValue = record w { server = c.receive.new.self; disk = c.receive.new.disk } in
    let is = c.self.invariant in
    still_world w new is refl c.receive.ensures.topology refl (writes_count true _ (disk.device_of w.disk) (disk.device_of c.receive.new.disk) c.receive.ensures.frame) (c.receive.ensures.ready refl) is.addressed is.returned

pub returns-clause-device : goal.returns-clause-device
returns-clause-device c =
    let w : WorldValue = record { relays = c.self.inside.relays; net = c.self.inside.net; server = c.self.inside.server; disk = c.self.inside.disk } in
    let apart : is_relay w.server.topology c.args.source ≡ false = ap (λ t. is_relay t c.args.source) c.self.invariant.served ∙ sym c.is_relay.ensures ∙ c.if-is_relay.false in
    let P : WorldValue → Type 0 = λ v. disk.device_of c.receive.new.disk ≡ disk.device_of v.disk in
    subst P c.self.view_is
    (same_device _ (disk.device_of w.disk) (disk.device_of c.receive.new.disk) (stray_saves w.server.topology (delivery c.args.proto c.args.source c.args.now c.args.datagram.now) (books_in w.server) apart) c.receive.ensures.frame)
