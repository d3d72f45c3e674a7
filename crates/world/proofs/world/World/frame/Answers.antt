use Rattle.std.proofs.Common.{◌<◌, length, refl, sym, ap, subst, ◌∙◌, arith}
use Rattle.std.specs.Prelude.{slice_index}
use Rattle.lossy_net.specs.Net.{Datagram}
use Rattle.lossy_net.specs.declared.dir.Dir.TheVariants as dir
use Rattle.events.specs.Seen.{Frame}
use Rattle.world.specs.StepsAs.{IsFor, Returns, Moves, under}
use Rattle.world.specs.World.{WorldValue, states}
use Rattle.events.specs.declared.outcome.Outcome.{Outcome}
use Rattle.events.specs.declared.outcome.Outcome.TheVariants as outcome
use Rattle.world.proofs.StateLemmas.{moves}
use Rattle.world.proofs.WorldLemmas.{the_circuit, is_known_at, is_part_at, whole, each_sent, each_kept, other_way, still_world, same_circuit, other_count, apart, frame_off, frame_sent, frame_dropped}
use Rattle.world.proofs.world.World.frame.Goals as goal

pub invariant_of-self : goal.invariant_of-self
invariant_of-self c =
    let w : WorldValue = record { relays = c.self.inside.relays; net = c.self.inside.net; server = c.self.inside.server; disk = c.self.inside.disk } in
    let new : WorldValue = record w { relays = c.up.new.self; net = c.send.new.self } in
    let is = c.self.invariant in
    let t = w.relays.topology in
    let k = c.args.circuit in
    let d : Datagram = record { proto = c.args.proto; bytes = c.up.new.out } in
    still_world w new is (ap (λ r. r.topology) c.in-Ok.ensures.kept) refl c.send.ensures.circuits refl is.ready
    (each_sent (IsFor t) t.circuits dir.Up w.net new.net is.addressed k d c.send.ensures.kept (λ n other. c.send.ensures.other_circuits n dir.Up (apart k n other))
    (λ part there plans now on.
    c.comes_to_its_circuit.ensures (under t plans) k part c.args.proto now c.args.frame.now c.up.new.out there on (is.sound.ids k part there) (is_known_at w is k part there) (is_part_at w is k part there)
    (record { each = λ i. omega (arith, c.type_inv.frame i) }) (c.in-Ok.ensures.ok part there)))
    (each_kept (Returns t) t.circuits dir.Down w.net new.net is.returned
    (other_way k dir.Down w.net new.net c.send.ensures.other_direction (λ n other. c.send.ensures.other_circuits n dir.Down (apart k n other))))

pub invariant_of-self-in-Err : goal.invariant_of-self-in-Err
invariant_of-self-in-Err c =
    let w : WorldValue = record { relays = c.self.inside.relays; net = c.self.inside.net; server = c.self.inside.server; disk = c.self.inside.disk } in
    let new : WorldValue = record w { relays = c.up.new.self } in
    still_world w new c.self.invariant (ap (λ r. r.topology) c.in-Err.ensures.counted) refl refl refl c.self.invariant.ready c.self.invariant.addressed c.self.invariant.returned

pub returns-in-Ok-clause-moves : goal.returns-in-Ok-clause-moves
returns-in-Ok-clause-moves c =
    let w : WorldValue = record { relays = c.self.inside.relays; net = c.self.inside.net; server = c.self.inside.server; disk = c.self.inside.disk } in
    let new : WorldValue = record w { relays = c.up.new.self; net = c.send.new.self } in
    let k = c.args.circuit in
    let within = subst (λ (v : WorldValue). k < length v.net.circuits) (sym c.self.view_is) c.requires in
    let the = the_circuit w c.self.invariant k within in
    let on = sym c.serves.ensures ∙ c.if-not-serves.false in
    let topology = ap (λ r. r.topology) c.in-Ok.ensures.kept in
    let P : WorldValue → Type 0 = λ v. Moves k (Frame c.args.proto c.args.frame.now) (states v) (states new) (outcome.SentUp c.len-len.result) c.clear.new.self in
    subst P c.self.view_is (
    moves k (Frame c.args.proto c.args.frame.now) w new the.part the.leases the.leases (outcome.SentUp c.len-len.result) c.clear.new.self refl (whole w) refl the.served the.its the.its (λ n other. refl)
    (λ n other p l there.
    same_circuit w new n p l topology c.send.ensures.quota (c.send.ensures.other_circuits n dir.Up (apart k n other)) (c.send.ensures.other_circuits n dir.Down (apart k n other))
    (ap (λ r. slice_index r.discarded n) c.in-Ok.ensures.kept) refl refl)
    (frame_sent k w new the.part the.leases c.args.proto c.args.frame.now c.up.new.out c.len-len.result c.clear.new.self topology on (c.in-Ok.ensures.ok the.part the.there) refl c.send.ensures.quota
    c.send.ensures.kept c.send.ensures.other_direction c.len-len.ensures.value c.clear.ensures (ap (λ r. slice_index r.discarded k) c.in-Ok.ensures.kept))
    )

pub returns-in-Err-clause-moves : goal.returns-in-Err-clause-moves
returns-in-Err-clause-moves c =
    let w : WorldValue = record { relays = c.self.inside.relays; net = c.self.inside.net; server = c.self.inside.server; disk = c.self.inside.disk } in
    let new : WorldValue = record w { relays = c.up.new.self } in
    let k = c.args.circuit in
    let within = subst (λ (v : WorldValue). k < length v.net.circuits) (sym c.self.view_is) c.requires in
    let the = the_circuit w c.self.invariant k within in
    let on = sym c.serves.ensures ∙ c.if-not-serves.false in
    let topology = ap (λ r. r.topology) c.in-Err.ensures.counted in
    let P : WorldValue → Type 0 = λ v. Moves k (Frame c.args.proto c.args.frame.now) (states v) (states new) (outcome.Dropped c.in-Err.why) c.up.new.out in
    subst P c.self.view_is (
    moves k (Frame c.args.proto c.args.frame.now) w new the.part the.leases the.leases (outcome.Dropped c.in-Err.why) c.up.new.out refl (whole w) refl the.served the.its the.its (λ n other. refl)
    (λ n other p l there. same_circuit w new n p l topology refl refl refl (ap (λ r. slice_index r.discarded n) c.in-Err.ensures.counted ∙ other_count k n w.relays.discarded other) refl refl)
    (frame_dropped k w new the.part the.leases c.args.proto c.args.frame.now c.in-Err.why c.up.new.out topology on (c.in-Err.ensures.err the.part the.there) refl refl c.in-Err.ensures.empty
    c.has_counter.ensures (ap (λ r. r.discarded) c.in-Err.ensures.counted))
    )

pub returns-then-not-serves-clause-moves : goal.returns-then-not-serves-clause-moves
returns-then-not-serves-clause-moves c =
    let w : WorldValue = record { relays = c.self.inside.relays; net = c.self.inside.net; server = c.self.inside.server; disk = c.self.inside.disk } in
    let k = c.args.circuit in
    let within = subst (λ (v : WorldValue). k < length v.net.circuits) (sym c.self.view_is) c.requires in
    let the = the_circuit w c.self.invariant k within in
    let off = sym c.serves.ensures ∙ c.if-not-serves.true in
    let P : WorldValue → Type 0 = λ v. Moves k (Frame c.args.proto c.args.frame.now) (states v) (states v) c.gone.result c.gone.new.out in
    let O : Outcome → Type 0 = λ o. Moves k (Frame c.args.proto c.args.frame.now) (states w) (states w) o c.gone.new.out in
    subst P c.self.view_is (subst O (sym c.gone.ensures.gone) (
    moves k (Frame c.args.proto c.args.frame.now) w w the.part the.leases the.leases outcome.Gone c.gone.new.out refl (whole w) refl the.served the.its the.its (λ n other. refl) (λ n other p l there. refl)
    (frame_off k w the.part the.leases c.gone.new.out off c.gone.ensures.empty c.args.proto c.args.frame.now)
    ))
