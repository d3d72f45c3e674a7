-- A DHCPACK that leaves, by its bytes.
use Rattle.std.proofs.Common.{◌≡◌, ◌∙◌, ℕ, ◌+◌, ◌&&◌, Bool, true, false, List, [], ◌++◌, length, inl, refl, sym, ap, subst}
use Rattle.std.specs.Prelude.{Option, Some, None, Result, Ok, Err, if◌then◌else◌}
use Rattle.std.specs.FinMap.{get}
use Rattle.std.specs.Result.{result_map_both}
use Rattle.types.specs.Addr.{number4}
use Rattle.types.specs.declared.addr.Addr4.{Addr4}
use Rattle.types.specs.declared.dest.Proto.{Proto}
use Rattle.types.specs.declared.dest.Proto.TheVariants.{V4, V6}
use Rattle.types.specs.declared.discard.Discard.{Discard}
use Rattle.exchange.specs.declared.request4.Reply4.{Reply4}
use Rattle.exchange.specs.declared.request4.Reply4.TheVariants as reply
use Rattle.exchange.specs.declared.request4.Request4.{Request4}
use Rattle.v4_message.specs.declared.fault.MessageFault.{MessageFault}
use Rattle.v4_message.specs.Header.{IsSized}
use Rattle.v4_message.specs.Reading.{message_of}
use Rattle.v4_message.specs.Spelling.{MessageValue}
use Rattle.v4_message.proofs.Exact.{spelled}
use Rattle.wire.specs.Bytes.{AreBytes}
use Rattle.bindings_v4.specs.Table4.{answer4}
use Rattle.bindings_v4.proofs.ReplyLemmas.{IsWhole, whole_answer}
use Rattle.config.specs.CircuitPart.{CircuitPart, IsPart, pool4_of}
use Rattle.replies.specs.Reply4.{reply4_bytes, reply_message, yiaddr_in}
use Rattle.requests.specs.Request4.{request4_in}
use Rattle.circuit_server.specs.Answered.{answered}
use Rattle.circuit_server.specs.Server.{Book, Served, book_at, datagram_served, message4_served, request4_served, served}
use Rattle.world.specs.Alone.{Effect}
use Rattle.promises.specs.Granted.{Grant, Granted4, Line, Stands, ended4, granted4, is_sent, message4_lines, proto_lines, request4_lines}
use Rattle.access_promises.specs.Exchanges.{Exchange}
use Rattle.access_promises.specs.Transactions.{GrantsAddress, LeasesAddress, effect_of}
use Rattle.access_promises.proofs.LeaseLemmas.{saved}

abbrev pub AreRead : Type 0
AreRead = (part : CircuitPart) (request : MessageValue) (reply : Reply4) → IsPart part → IsSized request.header → length (yiaddr_in reply) ≡ 4
    → message_of (reply4_bytes part request reply) ≡ Ok (reply_message part request reply)

made_so : (lost : Bool) (done : Served) (answer : Result (List ℕ) Discard) (datagram : List ℕ) → answer ≡ (saved lost done).answer → answer ≡ Ok datagram → done.answer ≡ Ok datagram
made_so true done answer datagram is leaves = let never : (saved true done).answer ≡ Ok datagram = sym is ∙ leaves in absurd cc
made_so false done answer datagram is leaves = sym is ∙ leaves

abbrev ok_bytes : List ℕ → Result (List ℕ) Discard
ok_bytes bytes = Ok bytes

same_bytes : (a b : List ℕ) → ok_bytes a ≡ ok_bytes b → a ≡ b
same_bytes a b same = cc

abbrev ok_message : MessageValue → Result MessageValue MessageFault
ok_message m = Ok m

same_message : (a b : MessageValue) → ok_message a ≡ ok_message b → a ≡ b
same_message a b same = cc

whole_yiaddr : (answer : Reply4) → IsWhole (Ok answer) → length (yiaddr_in answer) ≡ 4
whole_yiaddr (reply.Offer address) whole = whole
whole_yiaddr (reply.Ack address) whole = whole
whole_yiaddr reply.Inform whole = refl
whole_yiaddr reply.Nak whole = refl

record IsAck (answer : Reply4) (address : List ℕ) : Type 0 where
  leased : Addr4
  is : answer ≡ reply.Ack leased
  its : leased.0 ≡ address

only_acks : (part : CircuitPart) (request : MessageValue) (answer : Reply4) → LeasesAddress (reply_message part request answer) → IsAck answer (yiaddr_in answer)
only_acks part request (reply.Offer address) leases = let kind = leases.kind in absurd cc
only_acks part request (reply.Ack address) leases = record { leased = address; is = refl; its = refl }
only_acks part request reply.Inform leases = absurd (leases.address refl)
only_acks part request reply.Nak leases = let kind = leases.kind in absurd cc

module _ (reads : AreRead) (part : CircuitPart) (sound : IsPart part) (datagram : List ℕ) (m : MessageValue) (read : message_of datagram ≡ Ok m) (leases : LeasesAddress m) where
  abbrev IsGranted : List Line → Type 0
  IsGranted lines = (g : Grant (List ℕ)) × Stands (Granted4 g) lines × (g.address ≡ number4 (record { 0 = m.header.yiaddr }))

  acked : (sent : Bool) → sent ≡ true → (client : List ℕ) (clock : ℕ) (answer : Result Reply4 Discard) (address : Addr4) (more : List Line) → answer ≡ Ok (reply.Ack address) → address.0 ≡ m.header.yiaddr
      → IsGranted ((if sent then granted4 part client clock answer else []) ++ more)
  acked sent leaves client clock answer address more is its =
      subst (λ (s : Bool). IsGranted ((if s then granted4 part client clock answer else []) ++ more)) (sym leaves)
      (subst (λ (r : Result Reply4 Discard). IsGranted (granted4 part client clock r ++ more)) (sym is)
      (record { client = client; address = number4 address; until = clock + part.lease; clock = clock }, inl refl, ap (λ (bytes : List ℕ). number4 (record { 0 = bytes })) its))

  module _ (effect : Effect) (leaves : is_sent effect ≡ true) where
    by_answer : (q : MessageValue) → IsSized q.header → (client : List ℕ) (clock : ℕ) (answer : Result Reply4 Discard) (more : List Line) → IsWhole answer
        → result_map_both (reply4_bytes part q) (λ why. why) answer ≡ ok_bytes datagram → IsGranted ((if is_sent effect then granted4 part client clock answer else []) ++ more)
    by_answer q sized client clock (Err why) more whole made = absurd cc
    by_answer q sized client clock (Ok answer) more whole made =
        let same : m ≡ reply_message part q answer =
        same_message m (reply_message part q answer) (sym read ∙ (ap message_of (sym (same_bytes (reply4_bytes part q answer) datagram made)) ∙ reads part q answer sound sized (whole_yiaddr answer whole))) in
        let ack = only_acks part q answer (subst LeasesAddress same leases) in
        acked (is_sent effect) leaves client clock (Ok answer) ack.leased more (ap (λ (r : Reply4). Ok r) ack.is) (ack.its ∙ ap (λ (n : MessageValue). n.header.yiaddr) (sym same))

    by_request : (q : MessageValue) → IsSized q.header → (b : Book) (request : Result Request4 Discard) → (request4_served part q b request).answer ≡ ok_bytes datagram → IsGranted (request4_lines part effect b request)
    by_request q sized b (Err why) made = absurd cc
    by_request q sized b (Ok r) made =
        let d = answer4 (pool4_of part) b.clock b.four r in
        by_answer q sized r.key b.clock d.answer (if d.is_kept then ended4 r.kind r.key (get b.four.bindings r.key) else []) (whole_answer (pool4_of part) b.clock b.four r d.answer refl) made

    by_message : (bytes : List ℕ) → AreBytes bytes → (b : Book) (message : Result MessageValue MessageFault) → message_of bytes ≡ message → (message4_served part b message).answer ≡ ok_bytes datagram
        → IsGranted (message4_lines part effect b message)
    by_message bytes fits b (Err fault) is made = absurd cc
    by_message bytes fits b (Ok q) is made = by_request q ((spelled bytes fits q).0 is).sized b (request4_in q) made

    by_proto : (proto : Proto) → proto ≡ V4 → (bytes : List ℕ) → AreBytes bytes → (b : Book) → (datagram_served part proto bytes b).answer ≡ ok_bytes datagram → IsGranted (proto_lines part effect b proto bytes)
    by_proto V4 its bytes fits b made = by_message bytes fits b (message_of bytes) refl made
    by_proto V6 its bytes fits b made = absurd cc

  pub ack_grants : (x : Exchange) (b n : Option Book) → x.datagram.proto ≡ V4 → AreBytes x.datagram.bytes → x.answer ≡ (answered part x.datagram x.failed b).answer → x.answer ≡ ok_bytes datagram
      → GrantsAddress part (record { exchange = x; old = b; new = n }) m.header.yiaddr
  unfolding served
  ack_grants x None n its fits is leaves = let never : (answered part x.datagram x.failed None).answer ≡ ok_bytes datagram = sym is ∙ leaves in absurd cc
  ack_grants x (Some b) n its fits is leaves =
      by_proto (effect_of x.answer) (ap (λ (a : Result (List ℕ) Discard). is_sent (effect_of a)) leaves) x.datagram.proto its x.datagram.bytes fits (book_at x.datagram.moment b)
      (made_so ((served part x.datagram b).is_kept && x.failed) (served part x.datagram b) x.answer datagram is leaves)
