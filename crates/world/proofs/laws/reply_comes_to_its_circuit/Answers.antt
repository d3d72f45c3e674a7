use Rattle.std.proofs.Common.{◌≡◌, true, length, refl, sym, ap, ◌∙◌}
use Rattle.std.specs.Prelude.{◌≢◌, ℕ, List, Ok, Some, option_map, slice_get}
use Rattle.types.specs.Delivery.{DeliveryValue, delivery}
use Rattle.types.specs.declared.dest.Proto.{Proto}
use Rattle.types.specs.declared.dest.Proto.TheVariants.{V4, V6}
use Rattle.wire.specs.Bytes.{AreBytes}
use Rattle.exchange.specs.declared.request4.Reply4.{Reply4}
use Rattle.exchange.specs.declared.request4.Reply4.TheVariants.{Offer, Ack, Inform, Nak}
use Rattle.v4_options.specs.Subreading.{suboptions_of}
use Rattle.v4_message.specs.Agent.{agent_of}
use Rattle.v4_message.specs.Reading.{message_of}
use Rattle.exchange.specs.declared.request4.Request4.{Request4}
use Rattle.config.specs.CircuitPart.{CircuitPart, IsPart, pool4_of}
use Rattle.config.specs.Topology.{Topology, listen, serves}
use Rattle.bindings_v4.specs.Table4.{answer4}
use Rattle.requests.specs.Addressee.{addressee}
use Rattle.circuit_server.specs.Server.{Book, book_at, served}
use Rattle.relay.specs.Relays.{for_circuit, relayed_down, relayed_down_in}
use Rattle.replies.specs.Reply4.{reply_message, yiaddr_in}
use Rattle.replies.specs.Reply6.{relay_reply}
use Rattle.world.proofs.ReturnLemmas.{is_of, is_reply, bears}
use Rattle.world.proofs.laws.reply_comes_to_its_circuit.Goals as goal

whole : (x : goal.After-exact_reading) (part : CircuitPart) (b : Book) (request : Request4) (reply : Reply4) → (answer4 (pool4_of part) b.clock b.four request).answer ≡ Ok reply → length (yiaddr_in reply) ≡ 4
whole x part b request (Offer address) is = x.gives_whole_addresses.ensures.offered (pool4_of part) b.clock b.four request address is
whole x part b request (Ack address) is = x.gives_whole_addresses.ensures.leased (pool4_of part) b.clock b.four request address is
whole x part b request Inform is = refl
whole x part b request Nak is = refl

-- By the protocol, of which the datagram's fields are given.
by_proto : (x : goal.After-exact_reading) (topology : Topology) (relay c : ℕ) (part : CircuitPart) (d : DeliveryValue) (bytes : List ℕ) (b : Book) (proto : Proto) → proto ≡ d.proto
    → slice_get topology.circuits c ≡ Some part → serves topology c ≡ true
    → ((n : ℕ) (other : CircuitPart) → slice_get topology.circuits n ≡ Some other → other.id ≡ part.id → n ≡ c)
    → slice_get topology.relays relay ≡ Some part.relay → IsPart part → AreBytes d.bytes
    → addressee topology (delivery proto part.relay d.moment d.bytes) ≡ Ok c → (served part d b).answer ≡ Ok bytes
    → (proto ≡ V6 → topology.listen4 ≢ topology.listen6)
    → relayed_down_in topology relay (listen topology proto) bytes ≡ for_circuit c (relayed_down part proto bytes)
by_proto x topology relay c part d bytes b V4 is there served alone behind sound fits found answered apart =
    let of = is_of topology c part there part.relay d.bytes d.moment found in
    let sent = is_reply part d bytes b of.message is of.read answered in
    let spelled = (x.exact_reading.ensures.message d.bytes of.message fits).0 of.read in
    let again = reply_message part of.message sent.reply in
    let size = whole x part (book_at d.moment b) sent.request sent.reply sent.answer in
    let read : message_of bytes ≡ Ok again = ap message_of sent.written ∙ x.reply_is_read.ensures part of.message sent.reply sound spelled.sized size in
    let agent : agent_of again ≡ Some (Ok of.suboptions) = ap (option_map suboptions_of) (bears part of.message sent.reply of.information of.there) ∙ ap Some of.are_read in
    x.named_circuit.ensures topology relay topology.listen4 bytes c part again of.suboptions there served alone behind refl read agent of.named
by_proto x topology relay c part d bytes b V6 is there served alone behind sound fits found answered apart =
    let sent = x.reads_back.ensures part d b bytes sound fits (sym is) answered in
    let six = x.source_decides.ensures topology V6 (apart refl) in
    x.named_circuit6.ensures topology relay topology.listen6 bytes c part (relay_reply part sent.forward sent.message sent.request.key sent.reply) there served alone behind six sent.again refl

pub returns : goal.returns
returns x topology relay c part d bytes b there served alone behind sound fits found answered apart =
    by_proto x topology relay c part d bytes b d.proto refl there served alone behind sound fits found answered apart
