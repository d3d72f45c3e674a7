-- What a datagram of either protocol grants, and what it leaves of a grant of either.
use Rattle.std.proofs.Common.{◌⊎◌, inl, inr, ℕ, Bool, true, false, List, []}
use Rattle.std.specs.Prelude.{Option, Some, None, Result, Ok, Err, if◌then◌else◌}
use Rattle.std.specs.FinMap.{get}
use Rattle.types.specs.Key6.{Key6Value}
use Rattle.types.specs.declared.dest.Proto.{Proto}
use Rattle.types.specs.declared.dest.Proto.TheVariants.{V4, V6}
use Rattle.types.specs.declared.discard.Discard.{Discard}
use Rattle.types.specs.declared.kind4.Kind4.{Kind4}
use Rattle.types.specs.declared.kind4.Kind4.TheVariants as kind4
use Rattle.types.specs.declared.kind6.Kind6.{Kind6}
use Rattle.types.specs.declared.kind6.Kind6.TheVariants as kind6
use Rattle.exchange.specs.declared.request4.Reply4.{Reply4}
use Rattle.exchange.specs.declared.request4.Reply4.TheVariants as reply4
use Rattle.exchange.specs.declared.request4.Request4.{Request4}
use Rattle.exchange.specs.declared.request6.Reply6.{Reply6}
use Rattle.exchange.specs.declared.request6.ReplyIa.{ReplyIa}
use Rattle.exchange.specs.declared.request6.ReplyIa.TheVariants as reply_ia
use Rattle.exchange.specs.declared.request6.ReplyKind6.{ReplyKind6}
use Rattle.exchange.specs.declared.request6.ReplyKind6.TheVariants.{Advertise, Reply}
use Rattle.exchange.specs.declared.request6.Request6.{Request6}
use Rattle.v4_message.specs.declared.fault.MessageFault.{MessageFault}
use Rattle.v4_message.specs.Reading.{message_of}
use Rattle.v4_message.specs.Spelling as v4
use Rattle.v6_options.specs.Codes.{RELAY_MESSAGE}
use Rattle.v6_options.specs.Spelling.{look_up}
use Rattle.v6_message.specs.declared.fault.RelayFault.{RelayFault}
use Rattle.v6_message.specs.Message as v6
use Rattle.v6_message.specs.Relay.{RelayValue}
use Rattle.v6_message.specs.RelayReading.{relay_of}
use Rattle.slots.specs.Maps.{Lease}
use Rattle.bindings_v4.specs.Table4.{answer4}
use Rattle.bindings_v6.specs.Table6.{answer6}
use Rattle.config.specs.CircuitPart.{CircuitPart, pool4_of, pool6_of}
use Rattle.requests.specs.Request4.{request4_in}
use Rattle.requests.specs.Request6.{request6_in}
use Rattle.circuit_server.specs.Server.{Book, IsBook, datagram_served, request4_served, message4_served, request6_served, message6_served, forward_served}
use Rattle.world.specs.Alone.{Effect}
use Rattle.promises.specs.Books.{IsBookOf}
use Rattle.promises.specs.Granted.{ClientOf, Grant, Granted, Granted4, Granted6, Ended, Stands, granted4, end4_of, ended4, assigned6, granted6, end6_of, ended6, is_sent, request4_lines, message4_lines, request6_lines, message6_lines, forward_lines, proto_lines}
use Rattle.promises.proofs.GrantLemmas.{is_granted4, keeps_served4}
use Rattle.promises.proofs.GrantLemmas6.{is_granted6, keeps_served6}
use Rattle.promises.proofs.LineLemmas.{stands_either, IsGranted, Keeps}
use Rattle.promises.proofs.PoolLemmas.{HasLimits}

-- ---- a datagram of one protocol grants nothing of the other

module _ (part : CircuitPart) (effect : Effect) (b : Book) (g : Grant Key6Value) where
  none_end4 : (client : List ℕ) (found : Option Lease) → Stands (Granted6 g) (end4_of client found) → ⊥
  none_end4 client None s = absurd s
  none_end4 client (Some l) (inl e) = absurd cc
  none_end4 client (Some l) (inr s) = absurd s

  none_ended4 : (r : Bool) (kind : Kind4) (client : List ℕ) (found : Option Lease) → Stands (Granted6 g) (if r then ended4 kind client found else []) → ⊥
  none_ended4 false kind client found s = absurd s
  none_ended4 true kind4.Decline client found s = none_end4 client found s
  none_ended4 true kind4.Release client found s = none_end4 client found s
  none_ended4 true kind4.Discover client found s = absurd s
  none_ended4 true kind4.Offer client found s = absurd s
  none_ended4 true kind4.Request client found s = absurd s
  none_ended4 true kind4.Ack client found s = absurd s
  none_ended4 true kind4.Nak client found s = absurd s
  none_ended4 true kind4.Inform client found s = absurd s

  none_granted4 : (sent : Bool) (client : List ℕ) (answer : Result Reply4 Discard) → Stands (Granted6 g) (if sent then granted4 part client b.clock answer else []) → ⊥
  none_granted4 false client answer s = absurd s
  none_granted4 true client (Err why) s = absurd s
  none_granted4 true client (Ok (reply4.Ack address)) (inl e) = absurd cc
  none_granted4 true client (Ok (reply4.Ack address)) (inr s) = absurd s
  none_granted4 true client (Ok (reply4.Offer address)) s = absurd s
  none_granted4 true client (Ok reply4.Inform) s = absurd s
  none_granted4 true client (Ok reply4.Nak) s = absurd s

  none4 : (message : Result v4.MessageValue MessageFault) → Stands (Granted6 g) (message4_lines part effect b message) → ⊥
  none4 (Err fault) s = absurd s
  none4 (Ok m) s = by (request4_in m) s where
    either : (q : Request4) → Stands (Granted6 g) (if is_sent effect then granted4 part q.key b.clock (answer4 (pool4_of part) b.clock b.four q).answer else [])
        ⊎ Stands (Granted6 g) (if (answer4 (pool4_of part) b.clock b.four q).is_kept then ended4 q.kind q.key (get b.four.bindings q.key) else []) → ⊥
    either q (inl s) = none_granted4 (is_sent effect) q.key _ s
    either q (inr s) = none_ended4 _ q.kind q.key _ s

    by : (request : Result Request4 Discard) → Stands (Granted6 g) (request4_lines part effect b request) → ⊥
    by (Err why) s = absurd s
    by (Ok q) s = either q (stands_either (Granted6 g) _ _ s)

module _ (part : CircuitPart) (effect : Effect) (b : Book) (g : Grant (List ℕ)) where
  none_end6 : (client : Key6Value) (found : Option Lease) → Stands (Granted4 g) (end6_of client found) → ⊥
  none_end6 client None s = absurd s
  none_end6 client (Some l) (inl e) = absurd cc
  none_end6 client (Some l) (inr s) = absurd s

  none_ended6 : (r : Bool) (kind : Kind6) (client : Key6Value) (found : Option Lease) → Stands (Granted4 g) (if r then ended6 kind client found else []) → ⊥
  none_ended6 false kind client found s = absurd s
  none_ended6 true kind6.Decline client found s = none_end6 client found s
  none_ended6 true kind6.Release client found s = none_end6 client found s
  none_ended6 true kind6.Solicit client found s = absurd s
  none_ended6 true kind6.Request client found s = absurd s
  none_ended6 true kind6.Confirm client found s = absurd s
  none_ended6 true kind6.Renew client found s = absurd s
  none_ended6 true kind6.Rebind client found s = absurd s

  none_assigned6 : (client : Key6Value) (kind : ReplyKind6) (ia : ReplyIa) → Stands (Granted4 g) (assigned6 part client b.clock kind ia) → ⊥
  none_assigned6 client Advertise ia s = absurd s
  none_assigned6 client Reply reply_ia.None s = absurd s
  none_assigned6 client Reply (reply_ia.Status status) s = absurd s
  none_assigned6 client Reply (reply_ia.Given zeroed address) (inl e) = absurd cc
  none_assigned6 client Reply (reply_ia.Given zeroed address) (inr s) = absurd s

  none_granted6 : (sent : Bool) (client : Key6Value) (answer : Result Reply6 Discard) → Stands (Granted4 g) (if sent then granted6 part client b.clock answer else []) → ⊥
  none_granted6 false client answer s = absurd s
  none_granted6 true client (Err why) s = absurd s
  none_granted6 true client (Ok r) s = none_assigned6 client r.kind r.ia s

  none6 : (forward : Result RelayValue RelayFault) → Stands (Granted4 g) (forward_lines part effect b forward) → ⊥
  none6 (Err fault) s = absurd s
  none6 (Ok forward) s = by_message (look_up RELAY_MESSAGE forward.options) s where
    either : (q : Request6) → Stands (Granted4 g) (if is_sent effect then granted6 part q.key b.clock (answer6 (pool6_of part) b.clock b.six q).answer else [])
        ⊎ Stands (Granted4 g) (if (answer6 (pool6_of part) b.clock b.six q).is_kept then ended6 q.kind q.key (get b.six.bindings q.key) else []) → ⊥
    either q (inl s) = none_granted6 (is_sent effect) q.key _ s
    either q (inr s) = none_ended6 _ q.kind q.key _ s

    by : (asked : Result (v6.MessageValue × Request6) Discard) → Stands (Granted4 g) (request6_lines part effect b asked) → ⊥
    by (Err why) s = absurd s
    by (Ok asked) s = either asked.1 (stands_either (Granted4 g) _ _ s)

    by_message : (message : Option (List ℕ)) → Stands (Granted4 g) (message6_lines part effect b message) → ⊥
    by_message None s = absurd s
    by_message (Some message) s = by (request6_in part.duid message) s

-- ---- nor does it change what a client of the other has

stays4 : (part : CircuitPart) (b : Book) (g : Grant (List ℕ)) (forward : Result RelayValue RelayFault) → Keeps part.lease V4 g b → Keeps part.lease V4 g (forward_served part b forward).book
stays4 part b g (Err fault) keeps = keeps
stays4 part b g (Ok forward) keeps = by_message (look_up RELAY_MESSAGE forward.options) where
  by_request : (asked : Result (v6.MessageValue × Request6) Discard) → Keeps part.lease V4 g (request6_served part forward b asked).book
  by_request (Err why) = keeps
  by_request (Ok asked) = keeps

  by_message : (message : Option (List ℕ)) → Keeps part.lease V4 g (message6_served part forward b message).book
  by_message None = keeps
  by_message (Some message) = by_request (request6_in part.duid message)

stays6 : (part : CircuitPart) (b : Book) (g : Grant Key6Value) (message : Result v4.MessageValue MessageFault) → Keeps part.lease V6 g b → Keeps part.lease V6 g (message4_served part b message).book
stays6 part b g (Err fault) keeps = keeps
stays6 part b g (Ok m) keeps = by_request (request4_in m) where
  by_request : (request : Result Request4 Discard) → Keeps part.lease V6 g (request4_served part m b request).book
  by_request (Err why) = keeps
  by_request (Ok request) = keeps

-- ---- by the grant's protocol and the datagram's

pub served_grants : (p proto : Proto) (part : CircuitPart) → HasLimits part → (b : Book) → IsBookOf part b → (g : Grant (ClientOf p)) (effect : Effect) (bytes : List ℕ)
    → Stands (Granted p g) (proto_lines part effect b proto bytes) → IsGranted p part b (datagram_served part proto bytes b) effect g
served_grants V4 V4 part limits b book g effect bytes s = is_granted4 part limits b book g effect (message_of bytes) s
served_grants V6 V6 part limits b book g effect bytes s = is_granted6 part limits b book g effect (relay_of bytes) s
served_grants V4 V6 part limits b book g effect bytes s = absurd (none6 part effect b g (relay_of bytes) s)
served_grants V6 V4 part limits b book g effect bytes s = absurd (none4 part effect b g (message_of bytes) s)

pub served_keeps : (p proto : Proto) (part : CircuitPart) (b : Book) → IsBook b → (g : Grant (ClientOf p)) (effect : Effect) (bytes : List ℕ) → Keeps part.lease p g b
    → Keeps part.lease p g (datagram_served part proto bytes b).book ⊎ Stands (Ended p g.client g.address) (proto_lines part effect b proto bytes)
served_keeps V4 V4 part b book g effect bytes keeps = keeps_served4 part b book g effect (message_of bytes) keeps
served_keeps V6 V6 part b book g effect bytes keeps = keeps_served6 part b book g effect (relay_of bytes) keeps
served_keeps V4 V6 part b book g effect bytes keeps = inl (stays4 part b g (relay_of bytes) keeps)
served_keeps V6 V4 part b book g effect bytes keeps = inl (stays6 part b g (message_of bytes) keeps)
