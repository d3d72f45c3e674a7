-- What a circuit is sent does not depend on the addresses of its relay and of the server.
use Rattle.std.proofs.Common.{◌≡◌, ◌∙◌, ℕ, List, [], ◌∷◌, ◌++◌, refl, ap}
use Rattle.std.specs.Prelude.{not, nat_lt, nat_le, length, take, drop, slice_get, Option, Some, None, Result, Ok, Err, if◌then◌else◌}
use Rattle.std.specs.Result.{result_map_both}
use Rattle.types.specs.Key6.{Key6Value}
use Rattle.types.specs.declared.addr.Source.{Source}
use Rattle.types.specs.declared.dest.Proto.{Proto}
use Rattle.types.specs.declared.dest.Proto.TheVariants.{V4, V6}
use Rattle.types.specs.declared.discard.Discard.{Discard}
use Rattle.types.specs.declared.discard.Discard.TheVariants as reason
use Rattle.exchange.specs.declared.request4.Reply4.{Reply4}
use Rattle.exchange.specs.declared.request4.Reply4.TheVariants.{Offer, Ack, Inform, Nak}
use Rattle.exchange.specs.declared.request4.Request4.{Request4}
use Rattle.exchange.specs.declared.request6.Reply6.{Reply6}
use Rattle.exchange.specs.declared.request6.Request6.{Request6}
use Rattle.v4_message.specs.declared.fault.MessageFault.{MessageFault}
use Rattle.v4_message.specs.Reading.{message_of}
use Rattle.v4_message.specs.Spelling.{MessageValue, message_bytes}
use Rattle.v6_message.specs.declared.fault.RelayFault.{RelayFault}
use Rattle.v6_message.specs.Message as v6
use Rattle.v6_message.specs.Relay.{RelayValue}
use Rattle.v6_message.specs.RelayReading.{relay_of}
use Rattle.v6_options.specs.Codes.{RELAY_MESSAGE}
use Rattle.v6_options.specs.Spelling.{look_up}
use Rattle.config.specs.CircuitPart.{CircuitPart, pool4_of, pool6_of}
use Rattle.config.specs.Topology.{has_id}
use Rattle.slots.specs.Row.{Decision}
use Rattle.bindings_v4.specs.Table4.{answer4}
use Rattle.bindings_v4.specs.Book4.{Book4}
use Rattle.bindings_v6.specs.Table6 as table6
use Rattle.bindings_v6.specs.Book6.{Book6}
use Rattle.wire.specs.Padding.{padded_to}
use Rattle.replies.specs.Reply4.{reply4_bytes, reply_options, reply_header}
use Rattle.replies.specs.Reply6.{reply6_bytes}
use Rattle.relay.specs.Relays.{relayed_up, relayed_down}
use Rattle.relay.specs.Up4.{relayed_up4, message_relayed_up}
use Rattle.relay.specs.Up6.{relayed_up6, message_relayed_up6}
use Rattle.relay.specs.Down.{◌>>=◌, AddressedFrame, frame_for, frame_on_link}
use Rattle.relay.specs.Down4.{addressed_frame4, relayed_down4}
use Rattle.relay.specs.Down6.{addressed_frame6, relayed_down6}
use Rattle.requests.specs.Request4.{request4_in}
use Rattle.requests.specs.Request6.{request6_in}
use Rattle.circuit_server.specs.Server.{Book, Served, book_at, kept_book, served, datagram_served, decision_served, forward_served, message4_served, message6_served, request4_served, request6_served}
use Rattle.lossy_net.specs.Net.{Datagram}
use Rattle.events.specs.Seen.{Seen, Frame, Up, Down, Tick, Restart, Turn}
use Rattle.world.specs.Alone.{Alone, Setup, Dropped, alone_step, answer_step, book_step, delivery_of, down_step, frame_step, frames, if_on, is_fault, reply_step, sent_frame, served_step, up_step}
use Rattle.promises.specs.Elsewhere.{served_elsewhere}

module _ (relay listen4 listen6 : Source) where
  abbrev part_there : CircuitPart → CircuitPart
  part_there part = record part { relay = relay; listen4 = listen4; listen6 = listen6 }

  abbrev setup_there : Setup → Setup
  setup_there setup = served_elsewhere relay listen4 listen6 setup

  -- ---- at the relay

  message_up : (part : CircuitPart) (read : Result MessageValue MessageFault) → message_relayed_up (part_there part) read ≡ message_relayed_up part read
  message_up part (Err fault) = refl
  message_up part (Ok m) = refl

  message_up6 : (part : CircuitPart) (peer message : List ℕ) → message_relayed_up6 (part_there part) peer message ≡ message_relayed_up6 part peer message
  message_up6 part peer message = refl

  up4 : (part : CircuitPart) (frame : List ℕ) → relayed_up4 (part_there part) frame ≡ relayed_up4 part frame
  unfolding relayed_up4
  up4 part frame = ap (λ sent. if nat_lt 1024 (length frame) then Err reason.TooLong else sent) (message_up part (message_of frame))

  up6 : (part : CircuitPart) (frame : List ℕ) → relayed_up6 (part_there part) frame ≡ relayed_up6 part frame
  unfolding relayed_up6
  up6 part frame =
      ap (λ sent. if nat_lt 1024 (length frame) then Err reason.TooLong else if nat_lt (length frame) 20 then Err reason.MalformedUp else sent)
      (message_up6 part (take 16 frame) (drop 16 frame))

  up : (part : CircuitPart) (proto : Proto) (frame : List ℕ) → relayed_up (part_there part) proto frame ≡ relayed_up part proto frame
  up part V4 frame = up4 part frame
  up part V6 frame = up6 part frame

  has_there : (id : Option (List ℕ)) (part : CircuitPart) → has_id id (part_there part) ≡ has_id id part
  has_there None part = refl
  has_there (Some id) part = refl

  for_there : (part : CircuitPart) (link : List ℕ) (read : Result AddressedFrame Discard) → (read >>= frame_for (part_there part) link) ≡ (read >>= frame_for part link)
  for_there part link (Err why) = refl
  for_there part link (Ok reply) =
      ap (λ own. if own then frame_on_link link reply.link reply.frame else Err reason.UnknownCircuitDown) (has_there reply.circuit_id part)

  down4 : (part : CircuitPart) (datagram : List ℕ) → relayed_down4 (part_there part) datagram ≡ relayed_down4 part datagram
  unfolding relayed_down4
  down4 part datagram = for_there part part.gateway4.0 (addressed_frame4 datagram)

  down6 : (part : CircuitPart) (datagram : List ℕ) → relayed_down6 (part_there part) datagram ≡ relayed_down6 part datagram
  unfolding relayed_down6
  down6 part datagram = for_there part part.link6 (addressed_frame6 datagram)

  down : (part : CircuitPart) (proto : Proto) (datagram : List ℕ) → relayed_down (part_there part) proto datagram ≡ relayed_down part proto datagram
  down part V4 datagram = down4 part datagram
  down part V6 datagram = down6 part datagram

  -- ---- at the server, DHCPv4

  options4 : (part : CircuitPart) (m : MessageValue) (reply : Reply4) → reply_options (part_there part) m reply ≡ reply_options part m reply
  options4 part m (Offer address) = refl
  options4 part m (Ack address) = refl
  options4 part m Inform = refl
  options4 part m Nak = refl

  bytes4 : (part : CircuitPart) (m : MessageValue) (reply : Reply4) → reply4_bytes (part_there part) m reply ≡ reply4_bytes part m reply
  unfolding reply4_bytes
  bytes4 part m reply = ap (λ options. padded_to 300 (message_bytes (record { header = reply_header m reply; options = options }))) (options4 part m reply)

  abbrev to : {Reply : Type 0} → (Reply → List ℕ) → Result Reply Discard → Result (List ℕ) Discard
  to spelled answer = result_map_both spelled (λ why. why) answer

  to4 : (part : CircuitPart) (m : MessageValue) (answer : Result Reply4 Discard) → to (reply4_bytes (part_there part) m) answer ≡ to (reply4_bytes part m) answer
  to4 part m (Err why) = refl
  to4 part m (Ok reply) = ap Ok (bytes4 part m reply)

  abbrev with4 : Book → Book4 → Book
  with4 b four = record b { four = four }

  decision4 : (part : CircuitPart) (m : MessageValue) (b : Book) (decision : Decision Reply4 Book4)
      → decision_served (reply4_bytes (part_there part) m) (with4 b) decision ≡ decision_served (reply4_bytes part m) (with4 b) decision
  decision4 part m b decision = λ i. record { answer = to4 part m decision.answer i; book = record b { four = decision.book }; is_kept = decision.is_kept }

  request4 : (part : CircuitPart) (m : MessageValue) (b : Book) (asked : Result Request4 Discard) → request4_served (part_there part) m b asked ≡ request4_served part m b asked
  request4 part m b (Err why) = refl
  request4 part m b (Ok request) = decision4 part m b (answer4 (pool4_of part) b.clock b.four request)

  message4 : (part : CircuitPart) (b : Book) (read : Result MessageValue MessageFault) → message4_served (part_there part) b read ≡ message4_served part b read
  message4 part b (Err fault) = refl
  message4 part b (Ok m) = request4 part m b (request4_in m)

  -- ---- at the server, DHCPv6

  to6 : (part : CircuitPart) (forward : RelayValue) (m : v6.MessageValue) (client : Key6Value) (answer : Result Reply6 Discard)
      → to (reply6_bytes (part_there part) forward m client) answer ≡ to (reply6_bytes part forward m client) answer
  unfolding reply6_bytes
  to6 part forward m client (Err why) = refl
  to6 part forward m client (Ok reply) = refl

  abbrev with6 : Book → Book6 → Book
  with6 b six = record b { six = six }

  decision6 : (part : CircuitPart) (forward : RelayValue) (m : v6.MessageValue) (client : Key6Value) (b : Book) (decision : Decision Reply6 Book6)
      → decision_served (reply6_bytes (part_there part) forward m client) (with6 b) decision ≡ decision_served (reply6_bytes part forward m client) (with6 b) decision
  decision6 part forward m client b decision = λ i. record { answer = to6 part forward m client decision.answer i; book = record b { six = decision.book }; is_kept = decision.is_kept }

  request6 : (part : CircuitPart) (forward : RelayValue) (b : Book) (asked : Result (v6.MessageValue × Request6) Discard) → request6_served (part_there part) forward b asked ≡ request6_served part forward b asked
  request6 part forward b (Err why) = refl
  request6 part forward b (Ok asked) = decision6 part forward asked.0 asked.1.key b (table6.answer6 (pool6_of part) b.clock b.six asked.1)

  message6 : (part : CircuitPart) (forward : RelayValue) (b : Book) (inside : Option (List ℕ)) → message6_served (part_there part) forward b inside ≡ message6_served part forward b inside
  message6 part forward b None = refl
  message6 part forward b (Some message) = request6 part forward b (request6_in part.duid message)

  forward6 : (part : CircuitPart) (b : Book) (read : Result RelayValue RelayFault) → forward_served (part_there part) b read ≡ forward_served part b read
  forward6 part b (Err fault) = refl
  forward6 part b (Ok forward) = message6 part forward b (look_up RELAY_MESSAGE forward.options)

  -- ---- at the server

  datagram : (part : CircuitPart) (proto : Proto) (bytes : List ℕ) (b : Book) → datagram_served (part_there part) proto bytes b ≡ datagram_served part proto bytes b
  datagram part V4 bytes b = message4 part b (message_of bytes)
  datagram part V6 bytes b = forward6 part b (relay_of bytes)

  served_there : (part : CircuitPart) (now : ℕ) (d : Datagram) (b : Book)
      → served (part_there part) (delivery_of (part_there part) now d) b ≡ served part (delivery_of part now d) b
  unfolding served
  served_there part now d b = datagram part d.proto d.bytes (book_at now b)

  -- ---- the machine

  answering : (setup : Setup) (a : Alone) (proto : Proto) (answer : Result (List ℕ) Discard) → answer_step (setup_there setup) a proto answer ≡ answer_step setup a proto answer
  answering setup a proto (Err why) = refl
  answering setup a proto (Ok bytes) = refl

  serving : (setup : Setup) (fault : ℕ) (a : Alone) (proto : Proto) (done : Served) → served_step (setup_there setup) fault a proto done ≡ served_step setup fault a proto done
  serving setup fault a proto done = λ i.
      if not done.is_kept then answering setup (record a { book = Some done.book }) proto done.answer i
      else if is_fault 6 fault then record {
        effect = Dropped reason.DiskFault;
        next = record a { book = None; doubt = if nat_le 5 fault then Some (kept_book done.book) else a.doubt };
      }
      else answering setup (record a { book = Some done.book; kept = Some (kept_book done.book) }) proto done.answer i

  by_book : (setup : Setup) (now fault : ℕ) (a : Alone) (d : Datagram) (book : Option Book) → book_step (setup_there setup) now fault a d book ≡ book_step setup now fault a d book
  by_book setup now fault a d None = refl
  by_book setup now fault a d (Some b) =
      ap (served_step (setup_there setup) fault a d.proto) (served_there setup.part now d b)
      ∙ serving setup fault a d.proto (served setup.part (delivery_of setup.part now d) b)

  upwards : (setup : Setup) (now fault : ℕ) (a : Alone) (d : Option Datagram) → up_step (setup_there setup) now fault a d ≡ up_step setup now fault a d
  upwards setup now fault a None = refl
  upwards setup now fault a (Some d) = by_book setup now fault a d a.book

  downwards : (setup : Setup) (a : Alone) (d : Option Datagram) → down_step (setup_there setup) a d ≡ down_step setup a d
  downwards setup a None = refl
  downwards setup a (Some d) = ap (reply_step a) (down setup.part d.proto d.bytes)

  framed : (setup : Setup) (a : Alone) (proto : Proto) (sent : Result (List ℕ) Discard) → frame_step (setup_there setup) a proto sent ≡ frame_step setup a proto sent
  framed setup a proto (Err why) = refl
  framed setup a proto (Ok bytes) = refl

  step : (setup : Setup) (s : Seen) (a : Alone) → alone_step (setup_there setup) s a ≡ alone_step setup s a
  unfolding alone_step
  step setup (Frame proto frame) a =
      ap (if_on a) (ap (frame_step (setup_there setup) a proto) (up setup.part proto frame) ∙ framed setup a proto (relayed_up setup.part proto frame))
  step setup (Up j now fault) a = ap (if_on a) (upwards setup now fault a (slice_get a.up j))
  step setup (Down j) a = ap (if_on a) (downwards setup a (slice_get a.down j))
  step setup (Tick now) a = refl
  step setup (Restart comeback) a = refl
  step setup (Turn on) a = refl

  pub frames_elsewhere : (setup : Setup) (seen : List Seen) (a : Alone) → frames (served_elsewhere relay listen4 listen6 setup) seen a ≡ frames setup seen a
  unfolding frames
  frames_elsewhere setup [] a = refl
  frames_elsewhere setup (s ∷ seen) a =
      ap (λ taken. sent_frame taken.effect ++ frames (setup_there setup) seen taken.next) (step setup s a)
      ∙ ap (λ rest. sent_frame (alone_step setup s a).effect ++ rest) (frames_elsewhere setup seen (alone_step setup s a).next)
