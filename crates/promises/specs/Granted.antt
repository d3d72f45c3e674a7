-- Who was leased which address, and until when: what a circuit's machine grants and ends, read off its
-- steps, in both protocols.
use Rattle.std.specs.Prelude.{◌≡◌, ◌≤◌, ◌⊎◌, ℕ, ◌+◌, Bool, true, false, List, [], ◌∷◌, ◌++◌, Option, Some, None, Result, Ok, Err, slice_get, if◌then◌else◌}
use Rattle.std.specs.FinMap.{get}
use Rattle.types.specs.Addr.{number4, number6}
use Rattle.types.specs.Key6.{Key6Value}
use Rattle.types.specs.declared.dest.Proto.{Proto}
use Rattle.types.specs.declared.dest.Proto.TheVariants.{V4, V6}
use Rattle.types.specs.declared.discard.Discard.{Discard}
use Rattle.types.specs.declared.kind4.Kind4.{Kind4}
use Rattle.types.specs.declared.kind4.Kind4.TheVariants as kind4
use Rattle.types.specs.declared.kind6.Kind6.{Kind6}
use Rattle.types.specs.declared.kind6.Kind6.TheVariants as kind6
use Rattle.exchange.specs.declared.request4.Reply4.{Reply4}
use Rattle.exchange.specs.declared.request4.Reply4.TheVariants as reply4
use Rattle.exchange.specs.declared.request4.Request4.{Request4}
use Rattle.exchange.specs.declared.request6.Reply6.{Reply6}
use Rattle.exchange.specs.declared.request6.ReplyIa.{ReplyIa}
use Rattle.exchange.specs.declared.request6.ReplyIa.TheVariants as reply_ia
use Rattle.exchange.specs.declared.request6.ReplyKind6.{ReplyKind6}
use Rattle.exchange.specs.declared.request6.ReplyKind6.TheVariants.{Advertise, Reply}
use Rattle.exchange.specs.declared.request6.Request6.{Request6}
use Rattle.v4_message.specs.declared.fault.MessageFault.{MessageFault}
use Rattle.v4_message.specs.Reading.{message_of}
use Rattle.v4_message.specs.Spelling.{MessageValue}
use Rattle.v6_options.specs.Codes.{RELAY_MESSAGE}
use Rattle.v6_options.specs.Spelling.{look_up}
use Rattle.v6_message.specs.declared.fault.RelayFault.{RelayFault}
use Rattle.v6_message.specs.Message as v6
use Rattle.v6_message.specs.Relay.{RelayValue}
use Rattle.v6_message.specs.RelayReading.{relay_of}
use Rattle.slots.specs.Maps.{Lease}
use Rattle.slots.specs.Row.{Decision}
use Rattle.bindings_v4.specs.Table4.{answer4}
use Rattle.bindings_v4.specs.Book4.{Book4}
use Rattle.bindings_v6.specs.Table6.{answer6}
use Rattle.bindings_v6.specs.Book6.{Book6}
use Rattle.config.specs.CircuitPart.{CircuitPart, pool4_of, pool6_of}
use Rattle.requests.specs.Request4.{request4_in}
use Rattle.requests.specs.Request6.{request6_in}
use Rattle.circuit_server.specs.Server.{Book, book_at}
use Rattle.lossy_net.specs.Net.{Datagram}
use Rattle.world.specs.Alone.{Alone, Setup, Effect, Dropped, Gone, SentUp, SentDown, Framed, Done, alone_step, is_fault}
use Rattle.lease_disk.specs.declared.image.Image.TheVariants.{Byte}
use Rattle.events.specs.Seen.{Seen, Frame, Up, Down, Tick, Restart, Turn}

-- what tells the clients of a protocol apart
abbrev pub ClientOf : Proto → Type 0
ClientOf V4 = List ℕ
ClientOf V6 = Key6Value

-- A lease as a DHCPACK, or a Reply of DHCPv6, grants it: the client, the address as a number, and until
-- when, by the circuit's clock then.
pub record Grant (Client : Type 0) : Type 0 where
  pub client : Client
  pub address : ℕ
  pub until : ℕ
  pub clock : ℕ

pub data Line : Type 0 where
  -- a DHCPACK with a lease was sent, or a Reply with one
  Granted4 : Grant (List ℕ) → Line
  Granted6 : Grant Key6Value → Line
  -- a client released or declined its address
  Ended4 : List ℕ → ℕ → Line
  Ended6 : Key6Value → ℕ → Line

abbrev pub Granted : (proto : Proto) → Grant (ClientOf proto) → Line
Granted V4 g = Granted4 g
Granted V6 g = Granted6 g

abbrev pub Ended : (proto : Proto) → ClientOf proto → ℕ → Line
Ended V4 client address = Ended4 client address
Ended V6 client address = Ended6 client address

-- the line is one of these
abbrev pub Stands : Line → List Line → Type 0
Stands line [] = ⊥
Stands line (x ∷ lines) = (x ≡ line) ⊎ Stands line lines

-- whether a reply leaves
abbrev pub is_sent : Effect → Bool
is_sent (Dropped why) = false
is_sent Gone = false
is_sent (SentUp len) = false
is_sent (SentDown len) = true
is_sent (Framed frame) = false
is_sent Done = false

-- ---- DHCPv4

-- By the circuit's part, the client, the clock, and the answer: a DHCPACK grants its address for the
-- lease time that it carries (RFC 2131, section 3.1, step 4). That of a DHCPINFORM grants nothing.
abbrev pub granted4 : CircuitPart → List ℕ → ℕ → Result Reply4 Discard → List Line
granted4 part client clock (Err why) = []
granted4 part client clock (Ok (reply4.Ack address)) =
    Granted4 (record { client = client; address = number4 address; until = clock + part.lease; clock = clock }) ∷ []
granted4 part client clock (Ok (reply4.Offer address)) = []
granted4 part client clock (Ok reply4.Inform) = []
granted4 part client clock (Ok reply4.Nak) = []

abbrev pub end4_of : List ℕ → Option Lease → List Line
end4_of client None = []
end4_of client (Some lease) = Ended4 client lease.address ∷ []

-- by the message's type, the client, and its lease before the decision
abbrev pub ended4 : Kind4 → List ℕ → Option Lease → List Line
ended4 kind4.Decline client lease = end4_of client lease
ended4 kind4.Release client lease = end4_of client lease
ended4 kind4.Discover client lease = []
ended4 kind4.Offer client lease = []
ended4 kind4.Request client lease = []
ended4 kind4.Ack client lease = []
ended4 kind4.Nak client lease = []
ended4 kind4.Inform client lease = []

abbrev pub decision4_lines : CircuitPart → Effect → Book → Request4 → Decision Reply4 Book4 → List Line
decision4_lines part effect b m d =
    (if is_sent effect then granted4 part m.key b.clock d.answer else [])
    ++ (if d.is_kept then ended4 m.kind m.key (get b.four.bindings m.key) else [])

abbrev pub request4_lines : CircuitPart → Effect → Book → Result Request4 Discard → List Line
request4_lines part effect b (Err why) = []
request4_lines part effect b (Ok m) = decision4_lines part effect b m (answer4 (pool4_of part) b.clock b.four m)

abbrev pub message4_lines : CircuitPart → Effect → Book → Result MessageValue MessageFault → List Line
message4_lines part effect b (Err fault) = []
message4_lines part effect b (Ok m) = request4_lines part effect b (request4_in m)

-- ---- DHCPv6

-- A Reply grants its address for the lifetimes that it carries (RFC 8415, section 18.2.10.1); an Advertise
-- grants nothing.
abbrev pub assigned6 : CircuitPart → Key6Value → ℕ → ReplyKind6 → ReplyIa → List Line
assigned6 part client clock Advertise ia = []
assigned6 part client clock Reply reply_ia.None = []
assigned6 part client clock Reply (reply_ia.Status status) = []
assigned6 part client clock Reply (reply_ia.Given zeroed address) =
    Granted6 (record { client = client; address = number6 address; until = clock + part.lease; clock = clock }) ∷ []

abbrev pub granted6 : CircuitPart → Key6Value → ℕ → Result Reply6 Discard → List Line
granted6 part client clock (Err why) = []
granted6 part client clock (Ok r) = assigned6 part client clock r.kind r.ia

abbrev pub end6_of : Key6Value → Option Lease → List Line
end6_of client None = []
end6_of client (Some lease) = Ended6 client lease.address ∷ []

abbrev pub ended6 : Kind6 → Key6Value → Option Lease → List Line
ended6 kind6.Decline client lease = end6_of client lease
ended6 kind6.Release client lease = end6_of client lease
ended6 kind6.Solicit client lease = []
ended6 kind6.Request client lease = []
ended6 kind6.Confirm client lease = []
ended6 kind6.Renew client lease = []
ended6 kind6.Rebind client lease = []

abbrev pub decision6_lines : CircuitPart → Effect → Book → Request6 → Decision Reply6 Book6 → List Line
decision6_lines part effect b m d =
    (if is_sent effect then granted6 part m.key b.clock d.answer else [])
    ++ (if d.is_kept then ended6 m.kind m.key (get b.six.bindings m.key) else [])

abbrev pub request6_lines : CircuitPart → Effect → Book → Result (v6.MessageValue × Request6) Discard → List Line
request6_lines part effect b (Err why) = []
request6_lines part effect b (Ok asked) = decision6_lines part effect b asked.1 (answer6 (pool6_of part) b.clock b.six asked.1)

abbrev pub message6_lines : CircuitPart → Effect → Book → Option (List ℕ) → List Line
message6_lines part effect b None = []
message6_lines part effect b (Some message) = request6_lines part effect b (request6_in part.duid message)

abbrev pub forward_lines : CircuitPart → Effect → Book → Result RelayValue RelayFault → List Line
forward_lines part effect b (Err fault) = []
forward_lines part effect b (Ok forward) = message6_lines part effect b (look_up RELAY_MESSAGE forward.options)

-- ---- what a step grants and ends

abbrev pub proto_lines : CircuitPart → Effect → Book → Proto → List ℕ → List Line
proto_lines part effect b V4 datagram = message4_lines part effect b (message_of datagram)
proto_lines part effect b V6 datagram = forward_lines part effect b (relay_of datagram)

abbrev pub datagram_lines : CircuitPart → Effect → ℕ → Option Book → Option Datagram → List Line
datagram_lines part effect now b None = []
datagram_lines part effect now None (Some d) = []
datagram_lines part effect now (Some b) (Some d) = proto_lines part effect (book_at now b) d.proto d.bytes

abbrev pub lines : Setup → Seen → Alone → List Line
lines setup (Frame proto frame) a = []
lines setup (Up j now fault) a = if a.on then datagram_lines setup.part (alone_step setup (Up j now fault) a).effect now a.book (slice_get a.up j) else []
lines setup (Down j) a = []
lines setup (Tick now) a = []
lines setup (Restart comeback) a = []
lines setup (Turn on) a = []

-- and all that the machine grants and ends of what it sees, in order
unfoldable pub ledger : Setup → List Seen → Alone → List Line
ledger setup [] a = []
ledger setup (s ∷ seen) a = lines setup s a ++ ledger setup seen (alone_step setup s a).next

-- ---- what a book knows

-- what a book binds to a client of a protocol
abbrev pub binding_of : (proto : Proto) → Book → ClientOf proto → Option Lease
binding_of V4 b client = get b.four.bindings client
binding_of V6 b client = get b.six.bindings client

-- A book knows of a grant: its clock has come to the end of the lease, or it binds the address to the
-- client until then or longer.
abbrev pub Knows : (proto : Proto) → Grant (ClientOf proto) → Book → Type 0
Knows proto g b =
    (g.until ≤ b.clock)
    ⊎ ((lease : Lease) × (binding_of proto b g.client ≡ Some lease) × (lease.address ≡ g.address) × (g.until ≤ lease.until))

-- ---- what a restart finds

-- the restart over a region whose unsynced bytes became this one, where this call of the device fails in its move
abbrev pub restart_over : ℕ → ℕ → Seen
restart_over byte fault = Restart (record { image = Byte byte; move_fault = fault })

-- The book that a restart found knows of a grant, and the circuit begins with it, unless its region was to be moved to
-- format 2 and that failed. Then the region holds the book all the same.
pub record BeginsKnowing (proto : Proto) (g : Grant (ClientOf proto)) (fault : ℕ) (a : Alone) : Type 0 where
  pub found : Book
  pub kept : a.kept ≡ Some found
  pub knows : Knows proto g found
  pub opens : is_fault 4 fault ≡ false → a.book ≡ Some found
