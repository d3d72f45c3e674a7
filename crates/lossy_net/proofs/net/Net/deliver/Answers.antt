use Rattle.std.proofs.Common.{◌+◌, ◌*◌, ◌%◌, get_or, ap, ◌∙◌, arith, sym}
use Rattle.std.proofs.lemmas.Option.{get_or_from_slice_get}
use Rattle.std.specs.Prelude.{slice_get}
use Rattle.lossy_net.specs.Net.{NetValue, Datagram, datagrams}
use Rattle.lossy_net.proofs.Lists.{IsRingOf, datagram_at, datagram_past, nothing_past}
use Rattle.lossy_net.proofs.net.Net.deliver.Goals as goal

pub returns-then-index-self : goal.returns-then-index-self
returns-then-index-self c =
    nothing_past c.self.inside c.args.circuit c.args.dir c.args.number (omega arith)
    ∙ ap (λ (net : NetValue). slice_get (datagrams net c.args.circuit c.args.dir) c.args.number) c.self.view_is

pub returns-then-number-ring : goal.returns-then-number-ring
returns-then-number-ring c =
    let is : IsRingOf c.self.inside c.args.circuit c.args.dir c.ring_index-index.result =
    record { laid = c.self.invariant; there = omega arith; at = c.ring_index-index.ensures } in
    datagram_past is _ c.index-ring.ensures c.args.number (omega arith)
    ∙ ap (λ (net : NetValue). slice_get (datagrams net c.args.circuit c.args.dir) c.args.number) c.self.view_is

pub returns : goal.returns
returns c =
    let is : IsRingOf c.self.inside c.args.circuit c.args.dir c.ring_index-index.result =
    record { laid = c.self.invariant; there = omega arith; at = c.ring_index-index.ensures } in
    let x : Datagram = record { proto = c.get.result.0; bytes = c.get.result.1.now } in
    let row = c.self.inside.packets in
    let start = c.ring_index-index.result * c.self.inside.quota in
    let position = c.position.ensures ∙ ap (λ number. (c.index-ring.result.now.newest + number) % c.self.inside.quota) c.from-number.ensures in
    let here = sym (get_or_from_slice_get row (start + c.position.result) x x c.get.ensures) ∙ ap (λ place. get_or row (start + place) x) position in
    datagram_at is _ c.index-ring.ensures c.args.number x (omega arith) here
    ∙ ap (λ (net : NetValue). slice_get (datagrams net c.args.circuit c.args.dir) c.args.number) c.self.view_is
