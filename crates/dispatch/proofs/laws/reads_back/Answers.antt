use Rattle.std.proofs.Common.{◌≡◌, ℕ, ◌≤◌, List, length, refl, sym, subst, arith}
use Rattle.std.specs.Prelude.{All, Option, Some, None, Result, Ok, Err}
use Rattle.std.specs.Result.{result_map_both}
use Rattle.types.specs.Delivery.{DeliveryValue}
use Rattle.types.specs.declared.addr.Addr6.{Addr6}
use Rattle.types.specs.declared.dest.Proto.{Proto}
use Rattle.types.specs.declared.discard.Discard.{Discard}
use Rattle.exchange.specs.declared.request6.Reply6.{Reply6}
use Rattle.exchange.specs.declared.request6.ReplyIa.{ReplyIa}
use Rattle.exchange.specs.declared.request6.ReplyIa.TheVariants as ia
use Rattle.exchange.specs.declared.request6.Request6.{Request6}
use Rattle.v6_options.specs.Codes.{RELAY_MESSAGE}
use Rattle.v6_options.specs.Spelling.{look_up}
use Rattle.v6_message.specs.declared.fault.RelayFault.{RelayFault}
use Rattle.v6_message.specs.Message.{MessageValue}
use Rattle.v6_message.specs.Relay.{RelayValue, SpellsRelay}
use Rattle.v6_message.specs.RelayReading.{relay_of}
use Rattle.wire.specs.Bytes.{AreBytes}
use Rattle.config.specs.CircuitPart.{CircuitPart, IsPart, pool6_of}
use Rattle.bindings_v6.specs.IsBook6.{IsWholeIa}
use Rattle.bindings_v6.specs.Table6.{answer6}
use Rattle.requests.specs.Request6.{request6_in}
use Rattle.circuit_server.specs.Server.{Book, book_at, datagram_served, request6_served, message6_served, forward_served, served}
use Rattle.replies.specs.Reply6.{IsReplyIa, IsReplyTo, relay_reply, reply6_bytes}
use Rattle.dispatch.specs.ReadBack.{IsReadBack}
use Rattle.dispatch.proofs.laws.reads_back.Goals as goal

-- an IA_NA of at most 4 listed addresses
is_reply_ia : (listed : List Addr6) (given : ReplyIa) → length listed ≤ 4 → All (λ (a : Addr6). length a.0 ≡ 16) listed → IsWholeIa listed given → IsReplyIa given
is_reply_ia listed ia.None few whole is = tt
is_reply_ia listed (ia.Status status) few whole is = tt
is_reply_ia listed (ia.Given zeroed leased) few whole is = (omega (arith, is.0, few), is.1 whole, is.2)

abbrev ok : List ℕ → Result (List ℕ) Discard
ok bytes = Ok bytes

same_bytes : (x y : List ℕ) → ok x ≡ ok y → x ≡ y
same_bytes x y e = cc

module _ (c : goal.After-exact_relay_reading) (part : CircuitPart) (d : DeliveryValue) (b : Book) (bytes : List ℕ) (sound : IsPart part) (fits : AreBytes d.bytes) where
  abbrev now : Book
  now = book_at d.moment b

  by_answer : (forward : RelayValue) (carried : List ℕ) (message : MessageValue) (request : Request6) (answer : Result Reply6 Discard)
      → relay_of d.bytes ≡ Ok forward → look_up RELAY_MESSAGE forward.options ≡ Some carried → request6_in part.duid carried ≡ Ok (message, request)
      → (answer6 (pool6_of part) now.clock now.six request).answer ≡ answer
      → result_map_both (reply6_bytes part forward message request.key) (λ why. why) answer ≡ Ok bytes → IsReadBack part d b bytes
  by_answer forward carried message request (Err why) relayed carries asks decided e = absurd cc
  by_answer forward carried message request (Ok reply) relayed carries asks decided e =
      let asked = c.asks_within_limits.ensures in
      let spelled = (c.exact_relay_reading.ensures.message d.bytes forward fits).0 relayed in
      let few = asked.few part.duid carried message request asks in
      let whole = asked.whole part.duid carried message request asks in
      let given = c.gives_whole_addresses.ensures (pool6_of part) now.clock request now.six reply decided in
      let is : IsReplyTo message request.key reply = record {
        id = asked.id part.duid carried message request asks;
        duid = asked.most part.duid carried message request asks;
        ia = is_reply_ia request.listed.items reply.ia few whole given;
      } in
      let law = c.reply6_is_read.ensures in
      let written : bytes ≡ reply6_bytes part forward message request.key reply = sym (same_bytes (reply6_bytes part forward message request.key reply) bytes e) in
      let m = relay_reply part forward message request.key reply in
      record {
        forward = forward;
        relayed = relayed;
        carried = carried;
        carries = carries;
        message = message;
        request = request;
        asks = asks;
        reply = reply;
        decided = decided;
        written = written;
        short = subst (λ (bs : List ℕ). length bs ≤ 508) (sym written) (law.fits part forward message request.key reply sound spelled.link spelled.peer is);
        spelled = subst (λ (bs : List ℕ). SpellsRelay bs m) (sym written) (law.spelled part forward message request.key reply sound spelled.link spelled.peer is);
        again = subst (λ (bs : List ℕ). relay_of bs ≡ Ok m) (sym written) (law.read part forward message request.key reply sound spelled.link spelled.peer is);
        inside = law.inside part message request.key reply sound is;
        inside_again = law.inside_again part message request.key reply sound is;
      }

  by_request : (forward : RelayValue) (carried : List ℕ) (asked : Result (MessageValue × Request6) Discard)
      → relay_of d.bytes ≡ Ok forward → look_up RELAY_MESSAGE forward.options ≡ Some carried → request6_in part.duid carried ≡ asked
      → (request6_served part forward now asked).answer ≡ Ok bytes → IsReadBack part d b bytes
  by_request forward carried (Err why) relayed carries asks e = absurd cc
  by_request forward carried (Ok (message, request)) relayed carries asks e =
      by_answer forward carried message request (answer6 (pool6_of part) now.clock now.six request).answer relayed carries asks refl e

  by_message : (forward : RelayValue) (carried : Option (List ℕ)) → relay_of d.bytes ≡ Ok forward → look_up RELAY_MESSAGE forward.options ≡ carried
      → (message6_served part forward now carried).answer ≡ Ok bytes → IsReadBack part d b bytes
  by_message forward None relayed carries e = absurd cc
  by_message forward (Some carried) relayed carries e = by_request forward carried (request6_in part.duid carried) relayed carries refl e

  by_forward : (forward : Result RelayValue RelayFault) → relay_of d.bytes ≡ forward → (forward_served part now forward).answer ≡ Ok bytes → IsReadBack part d b bytes
  by_forward (Err fault) relayed e = absurd cc
  by_forward (Ok forward) relayed e = by_message forward (look_up RELAY_MESSAGE forward.options) relayed refl e

pub returns : goal.returns
unfolding served
returns c part d b bytes sound fits six answered =
    let P : Proto → Type 0 = λ proto. (datagram_served part proto d.bytes (book_at d.moment b)).answer ≡ Ok bytes in
    by_forward c part d b bytes sound fits (relay_of d.bytes) refl (subst P six answered)
