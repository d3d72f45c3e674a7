use Rattle.std.proofs.Common.{◌≡◌, ◌<◌, length, refl, sym, ap, subst, ◌∙◌}
use Rattle.std.specs.Prelude.{Some, slice_get}
use Rattle.std.proofs.lemmas.Option.{same_Some, slice_get_within}
use Rattle.config.specs.CircuitPart.{listen_of}
use Rattle.lossy_net.specs.Net.{Datagram, datagrams}
use Rattle.relay.specs.Relays.{relayed_down_in}
use Rattle.lossy_net.specs.declared.dir.Dir.TheVariants as dir
use Rattle.events.specs.Seen.{Down}
use Rattle.world.specs.StepsAs.{Moves, Returns, StepsAs}
use Rattle.world.specs.World.{WorldValue, world_state, states}
use Rattle.events.specs.declared.outcome.Outcome.{Outcome}
use Rattle.events.specs.declared.outcome.Outcome.TheVariants as outcome
use Rattle.world.proofs.StateLemmas.{moves}
use Rattle.world.proofs.WorldLemmas.{the_circuit, whole, each_at, down_gone, down_framed, down_dropped, down_off}
use Rattle.world.proofs.world.World.down.Goals.{in-Ok, in-Err}
use Rattle.world.proofs.world.World.down.Goals as goal

pub returns-in_default-clause-moves : goal.returns-in_default-clause-moves
returns-in_default-clause-moves c =
    let w : WorldValue = record { relays = c.self.inside.relays; net = c.self.inside.net; server = c.self.inside.server; disk = c.self.inside.disk } in
    let k = c.args.circuit in
    let within = subst (λ (v : WorldValue). k < length v.net.circuits) (sym c.self.view_is) c.requires in
    let the = the_circuit w c.self.invariant k within in
    let on = sym c.serves.ensures ∙ c.if-not-serves.false in
    let P : WorldValue → Type 0 = λ v. Moves k (Down c.args.number) (states v) (states v) outcome.Gone c.clear.new.self in
    subst P c.self.view_is (
    moves k (Down c.args.number) w w the.part the.leases the.leases outcome.Gone c.clear.new.self refl (whole w) refl the.served the.its the.its (λ n other. refl) (λ n other p l there. refl)
    (down_gone k w the.part the.leases c.args.number c.clear.new.self on (sym c.in_default.ensures) c.clear.ensures)
    )

pub down-requires : goal.down-requires
down-requires c =
    let w : WorldValue = record { relays = c.self.inside.relays; net = c.self.inside.net; server = c.self.inside.server; disk = c.self.inside.disk } in
    let k = c.args.circuit in
    let within = subst (λ (v : WorldValue). k < length v.net.circuits) (sym c.self.view_is) c.requires in
    let is = c.self.invariant in
    let the = the_circuit w is k within in
    let t = w.relays.topology in
    let relay = c.relay_no-relay.result in
    let here = c.relay_no-relay.ensures the.part the.there in
    slice_get_within t.relays relay the.part.relay here

pub returns-clause-moves : goal.returns-clause-moves
returns-clause-moves c =
    let w : WorldValue = record { relays = c.self.inside.relays; net = c.self.inside.net; server = c.self.inside.server; disk = c.self.inside.disk } in
    let k = c.args.circuit in
    let within = subst (λ (v : WorldValue). k < length v.net.circuits) (sym c.self.view_is) c.requires in
    let is = c.self.invariant in
    let the = the_circuit w is k within in
    let t = w.relays.topology in
    let relay = c.relay_no-relay.result in
    let here = c.relay_no-relay.ensures the.part the.there in
    let d : Datagram = record { proto = c.in-Some.proto; bytes = c.in-Some.datagram.now } in
    let there : slice_get (datagrams w.net k dir.Down) c.args.number ≡ Some d = sym c.in-Some.ensures in
    let source = c.listen-source.ensures ∙ ap (λ p. listen_of p d.proto) (same_Some c.part.result.now the.part (sym c.part.ensures ∙ the.served)) ∙ is.sound.listens k the.part d.proto the.there in
    let on = sym c.serves.ensures ∙ c.if-not-serves.false in
    let comes = each_at (Returns t k the.part) (datagrams w.net k dir.Down) c.args.number d (is.returned k the.part the.there) there t.plans relay on here in
    let result = sym comes ∙ ap (λ s. relayed_down_in t relay s d.bytes) (sym source) in
    let P : WorldValue → Type 0 = λ v. Moves k (Down c.args.number) (states v) (states v) c.match-down.result c.down.new.out in
    let O : Outcome → Type 0 = λ o. StepsAs k (Down c.args.number) (world_state w k the.part the.leases) (world_state w k the.part the.leases) o c.down.new.out in
    subst P c.self.view_is (
    moves k (Down c.args.number) w w the.part the.leases the.leases c.match-down.result c.down.new.out refl (whole w) refl the.served the.its the.its (λ n other. refl) (λ n other p l there. refl)
    (elim c.match-down.branch [
      | in-Ok v ↦ subst O (sym v.result-is) (down_framed k w the.part the.leases c.args.number d on there v.in-Ok.sent.0 v.in-Ok.sent.1 c.down.new.out (result ∙ v.in-Ok.ensures.ok))
      | in-Err v ↦ subst O (sym v.result-is) (down_dropped k w the.part the.leases c.args.number d on there v.in-Err.why c.down.new.out (result ∙ v.in-Err.ensures.err) v.in-Err.ensures.empty)
    ]))

pub returns-then-not-serves-clause-moves : goal.returns-then-not-serves-clause-moves
returns-then-not-serves-clause-moves c =
    let w : WorldValue = record { relays = c.self.inside.relays; net = c.self.inside.net; server = c.self.inside.server; disk = c.self.inside.disk } in
    let k = c.args.circuit in
    let within = subst (λ (v : WorldValue). k < length v.net.circuits) (sym c.self.view_is) c.requires in
    let the = the_circuit w c.self.invariant k within in
    let off = sym c.serves.ensures ∙ c.if-not-serves.true in
    let P : WorldValue → Type 0 = λ v. Moves k (Down c.args.number) (states v) (states v) c.gone.result c.gone.new.out in
    let O : Outcome → Type 0 = λ o. Moves k (Down c.args.number) (states w) (states w) o c.gone.new.out in
    subst P c.self.view_is (subst O (sym c.gone.ensures.gone) (
    moves k (Down c.args.number) w w the.part the.leases the.leases outcome.Gone c.gone.new.out refl (whole w) refl the.served the.its the.its (λ n other. refl) (λ n other p l there. refl)
    (down_off k w the.part the.leases c.gone.new.out off c.gone.ensures.empty c.args.number)
    ))
