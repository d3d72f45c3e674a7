use Rattle.std.proofs.Common.{◌≡◌, ◌+◌, ◌*◌, ◌∷◌, take, set, length, subst, ap, sym, ◌∙◌, arith}
use Rattle.std.proofs.lemmas.Bool.{eqb-true, eq-eqb}
use Rattle.lossy_net.specs.Net.{NetValue, Datagram, datagrams, opposite}
use Rattle.lossy_net.specs.Layout.{net_value}
use Rattle.lossy_net.specs.declared.net.Net.TheInside.{Inside}
use Rattle.lossy_net.proofs.Lists.{ring_taken, opposite_ring, other_ring, below_rings, place_below, ring_ok, length-read}
use Rattle.lossy_net.proofs.Sends.{sent, newest_below, sent_here, sent_apart}
use Rattle.lossy_net.proofs.net.Net.send.Goals as goal

pub index-old-requires : goal.index-old-requires
index-old-requires c = below_rings (ring_taken _ _ _ _ _ c.self.invariant c.self.view_is c.requires.exists c.ring_index-index.ensures)

pub next-new-requires-clause-newest : goal.next-new-requires-clause-newest
next-new-requires-clause-newest c =
    (ring_ok (ring_taken _ _ _ _ _ c.self.invariant c.self.view_is c.requires.exists c.ring_index-index.ensures) _ c.index-old.ensures).newest

pub next-new-requires-clause-len : goal.next-new-requires-clause-len
next-new-requires-clause-len c =
    (ring_ok (ring_taken _ _ _ _ _ c.self.invariant c.self.view_is c.requires.exists c.ring_index-index.ensures) _ c.index-old.ensures).len

pub index_mut-requires : goal.index_mut-requires
index_mut-requires c = below_rings (ring_taken _ _ _ _ _ c.self.invariant c.self.view_is c.requires.exists c.ring_index-index.ensures)

pub overflow_add-place : goal.overflow_add-place
overflow_add-place c =
    let is = ring_taken _ _ _ _ _ c.self.invariant c.self.view_is c.requires.exists c.ring_index-index.ensures in
    let low = newest_below is _ c.index-old.ensures c.next-new.result c.next-new.ensures.newest in
    omega (arith, (place_below is _ low).1)

pub replace-requires-clause-place : goal.replace-requires-clause-place
replace-requires-clause-place c =
    let is = ring_taken _ _ _ _ _ c.self.invariant c.self.view_is c.requires.exists c.ring_index-index.ensures in
    (place_below is _ (newest_below is _ c.index-old.ensures c.next-new.result c.next-new.ensures.newest)).0

pub returns-clause-kept : goal.returns-clause-kept
returns-clause-kept c =
    let is = ring_taken _ _ _ _ _ c.self.invariant c.self.view_is c.requires.exists c.ring_index-index.ensures in
    let x : Datagram = record { proto = c.args.proto; bytes = c.args.packet.now } in
    let place = c.ring_index-index.result * c.self.inside.quota + c.next-new.result.newest in
    let written = c.replace.ensures ∙ ap (λ list. set c.self.inside.packets place (record { proto = c.args.proto; bytes = list })) c.as_slice.ensures.value in
    let new : Inside = sent c.self.inside c.ring_index-index.result c.next-new.result c.replace.new.self in
    let P : NetValue → Type 0 = λ net. datagrams (net_value new) c.args.circuit c.args.dir ≡ take net.quota (x ∷ datagrams net c.args.circuit c.args.dir) in
    subst P c.self.view_is (sent_here is _ c.index-old.ensures _ c.next-new.ensures.newest _ x written c.next-new.ensures.len)

pub returns-clause-lost : goal.returns-clause-lost
returns-clause-lost c =
    let is = ring_taken _ _ _ _ _ c.self.invariant c.self.view_is c.requires.exists c.ring_index-index.ensures in
    let count =
    ap (λ (net : NetValue). length (datagrams net c.args.circuit c.args.dir)) (sym c.self.view_is)
    ∙ length-read is _ c.index-old.ensures in
    let quota = ap (λ (net : NetValue). net.quota) c.self.view_is in
    (λ full. count ∙ eqb-true _ _ full ∙ quota, λ full. eq-eqb _ _ (sym count ∙ full ∙ sym quota))

pub returns-clause-other_direction : goal.returns-clause-other_direction
returns-clause-other_direction c =
    let is = ring_taken _ _ _ _ _ c.self.invariant c.self.view_is c.requires.exists c.ring_index-index.ensures in
    sent_apart is _ c.index-old.ensures _ c.next-new.ensures.newest _ _ c.replace.ensures c.args.circuit (opposite c.args.dir) (opposite_ring c.args.circuit c.args.dir)
    ∙ ap (λ (net : NetValue). datagrams net c.args.circuit (opposite c.args.dir)) c.self.view_is

pub returns-clause-other_circuits : goal.returns-clause-other_circuits
returns-clause-other_circuits c = λ other way apart.
    let is = ring_taken _ _ _ _ _ c.self.invariant c.self.view_is c.requires.exists c.ring_index-index.ensures in
    sent_apart is _ c.index-old.ensures _ c.next-new.ensures.newest _ _ c.replace.ensures other way (other_ring other c.args.circuit way c.args.dir apart)
    ∙ ap (λ (net : NetValue). datagrams net other way) c.self.view_is
