-- A circuit's server never answers that a datagram is repeated: that is said of a batch alone.
use Rattle.std.proofs.Common.{◌≡◌, ◌∙◌, ℕ, Bool, true, false, ◌&&◌, List, [], ◌∷◌, refl}
use Rattle.std.specs.Prelude.{Option, Some, None, nat_lt, length, slice_index, Result, Ok, Err, if◌then◌else◌, ◌==◌}
use Rattle.std.specs.Option.{option_and_then}
use Rattle.std.specs.Result.{result_map_both}
use Rattle.types.specs.Delivery.{DeliveryValue}
use Rattle.types.specs.Kind6.{kind6_of_code}
use Rattle.types.specs.Pool4.{PoolValue}
use Rattle.types.specs.Pool6.{Pool6Value}
use Rattle.types.specs.declared.addr.Addr6.{Addr6}
use Rattle.types.specs.declared.dest.Proto.{Proto}
use Rattle.types.specs.declared.dest.Proto.TheVariants.{V4, V6}
use Rattle.types.specs.declared.discard.Discard.{Discard}
use Rattle.types.specs.declared.discard.Discard.TheVariants.{BatchTwice, DiskFault, ClientKey, Malformed, NotServed, OtherServer}
use Rattle.types.specs.declared.kind4.Kind4.{Kind4}
use Rattle.types.specs.declared.kind4.Kind4.TheVariants.{Discover, Offer, Request, Decline, Ack, Nak, Release, Inform}
use Rattle.types.specs.declared.kind6.Kind6.{Kind6}
use Rattle.types.specs.declared.kind6.Kind6.TheVariants as kind6
use Rattle.exchange.specs.declared.request4.Request4.{Request4}
use Rattle.exchange.specs.declared.request6.Reply6.{Reply6}
use Rattle.exchange.specs.declared.request6.Request6.{Request6}
use Rattle.v4_message.specs.declared.fault.MessageFault.{MessageFault}
use Rattle.v4_message.specs.Reading.{message_of}
use Rattle.v4_message.specs.Spelling.{MessageValue}
use Rattle.v6_options.specs.Codes.{CLIENT_ID, IA_NA, RELAY_MESSAGE}
use Rattle.v6_options.specs.Spelling.{look_up}
use Rattle.v6_message.specs.declared.fault.MessageFault.{MessageFault as MessageFault6}
use Rattle.v6_message.specs.declared.fault.RelayFault.{RelayFault}
use Rattle.v6_message.specs.Ia.{IaValue, ia_of}
use Rattle.v6_message.specs.Message as v6
use Rattle.v6_message.specs.MessageReading as reading6
use Rattle.v6_message.specs.Relay.{RelayValue}
use Rattle.v6_message.specs.RelayReading.{relay_of}
use Rattle.config.specs.CircuitPart.{CircuitPart, pool4_of, pool6_of}
use Rattle.slots.specs.Row.{Row, Unchanged, drops}
use Rattle.bindings_v4.specs.declared.server4.Server4.{Server4}
use Rattle.bindings_v4.specs.declared.server4.Server4.TheVariants.{Anybody, This, Another}
use Rattle.bindings_v4.specs.Book4.{Book4, in_pool}
use Rattle.bindings_v4.specs.Table4 as four
use Rattle.bindings_v6.specs.Book6.{Book6}
use Rattle.bindings_v6.specs.Table6 as six
use Rattle.requests.specs.Request4 as asked4
use Rattle.requests.specs.Request6 as asked6
use Rattle.circuit_server.specs.Answered.{Answered, after_save, answered}
use Rattle.circuit_server.specs.Server.{Book, Served, book_at, datagram_served, forward_served, message4_served, message6_served, request4_served, request6_served, served}
use Rattle.access.specs.Batch.{is_repeated}

abbrev is_twice : Discard → Bool
is_twice BatchTwice = true
is_twice why = false

abbrev says_twice : {A : Type 0} → Result A Discard → Bool
says_twice (Ok value) = false
says_twice (Err why) = is_twice why

repeated_is : (answer : Result (List ℕ) Discard) → is_repeated answer ≡ says_twice answer
repeated_is (Ok bytes) = refl
repeated_is (Err BatchTwice) = refl
repeated_is (Err why) = refl

mapped : {A B : Type 0} (f : A → B) (r : Result A Discard) → says_twice r ≡ false → says_twice (result_map_both f (λ why. why) r) ≡ false
mapped f (Ok value) once = refl
mapped f (Err why) once = once

-- ---- DHCPv4

discover : (t : ℕ) (pick binding : Option ℕ) → says_twice (four.discover_row t pick binding).answer ≡ false
discover t None binding = refl
discover t (Some address) (Some bound) = refl
discover t (Some address) None = refl

other_server : (offer : Option ℕ) → says_twice (four.other_server_row offer).answer ≡ false
other_server None = refl
other_server (Some address) = refl

selecting : (end : ℕ) (wanted held : Option ℕ) → says_twice (four.selecting_row end wanted held).answer ≡ false
selecting end None held = refl
selecting end (Some wanted) (Some address) = refl
selecting end (Some wanted) None = refl

known_bound : (end bound : ℕ) (same : Bool) → says_twice (if same then four.grants bound end else four.known_address_row end false None bound).answer ≡ false
known_bound end bound true = refl
known_bound end bound false = refl

known_address : (end : ℕ) (pooled : Bool) (binding : Option ℕ) (address : ℕ) → says_twice (four.known_address_row end pooled binding address).answer ≡ false
known_address end false binding address = refl
known_address end true (Some bound) address = known_bound end bound (bound == address)
known_address end true None address = refl

no_server : (pool : PoolValue) (end : ℕ) (binding wanted ciaddr : Option ℕ) → says_twice (four.no_server_row pool end binding wanted ciaddr).answer ≡ false
no_server pool end binding (Some wanted) (Some ciaddr) = refl
no_server pool end binding None None = refl
no_server pool end binding (Some wanted) None = known_address end (in_pool pool wanted) binding wanted
no_server pool end binding None (Some ciaddr) = known_address end (in_pool pool ciaddr) binding ciaddr

decline : (t : ℕ) (held : Option ℕ) → says_twice (four.decline_row t held).answer ≡ false
decline t (Some bound) = refl
decline t None = refl

release : (held : Option ℕ) → says_twice (four.release_row held).answer ≡ false
release (Some bound) = refl
release None = refl

inform : (ciaddr : Option ℕ) → says_twice (four.inform_row ciaddr).answer ≡ false
inform None = refl
inform (Some ciaddr) = refl

row4 : (pool : PoolValue) (t : ℕ) (found : four.Lookup) (m : Request4) (kind : Kind4) (server : Server4) → says_twice (four.row_of pool t found m kind server).answer ≡ false
row4 pool t found m Discover server = discover t found.pick found.binding
row4 pool t found m Request Another = other_server found.offer
row4 pool t found m Request This = selecting _ _ _
row4 pool t found m Request Anybody = no_server pool _ _ _ _
row4 pool t found m Decline Another = refl
row4 pool t found m Decline This = decline t _
row4 pool t found m Decline Anybody = decline t _
row4 pool t found m Release Another = refl
row4 pool t found m Release This = release _
row4 pool t found m Release Anybody = release _
row4 pool t found m Inform Another = refl
row4 pool t found m Inform This = inform _
row4 pool t found m Inform Anybody = inform _
row4 pool t found m Offer server = refl
row4 pool t found m Ack server = refl
row4 pool t found m Nak server = refl

decided4 : (pool : PoolValue) (t : ℕ) (b : Book4) (m : Request4) → says_twice (four.answer4 pool t b m).answer ≡ false
unfolding four.answer4
decided4 pool t b m = row4 pool t (four.lookup_in pool b m) m m.kind (four.server_of pool m.server)

request4 : (part : CircuitPart) (m : MessageValue) (b : Book) (asked : Result Request4 Discard) → says_twice asked ≡ false → says_twice (request4_served part m b asked).answer ≡ false
request4 part m b (Err why) once = once
request4 part m b (Ok request) once = mapped _ _ (decided4 (pool4_of part) b.clock b.four request)

kind_asked4 : (m : MessageValue) (kind : Kind4) (from_server is_key : Bool) → says_twice (if from_server then Err NotServed else if is_key then Ok (asked4.request_of m kind) else Err ClientKey) ≡ false
kind_asked4 m kind true is_key = refl
kind_asked4 m kind false true = refl
kind_asked4 m kind false false = refl

kind4 : (m : MessageValue) (kind : Option Kind4) → says_twice (asked4.kind_request m kind) ≡ false
kind4 m None = refl
kind4 m (Some kind) = kind_asked4 m kind (asked4.is_from_server kind) (asked4.is_key (asked4.key_of m))

message4 : (part : CircuitPart) (b : Book) (read : Result MessageValue MessageFault) → says_twice (message4_served part b read).answer ≡ false
message4 part b (Err fault) = refl
message4 part b (Ok m) = request4 part m b (asked4.request4_in m) (kind4 m _)

-- ---- DHCPv6

solicit : (pick : Option ℕ) → says_twice (six.solicit_row pick).answer ≡ false
solicit (Some address) = refl
solicit None = refl

request : (end : ℕ) (off : Bool) (pick : Option ℕ) → says_twice (six.request_row end off pick).answer ≡ false
request end true pick = refl
request end false (Some address) = refl
request end false None = refl

renew : (end : ℕ) (listed : List Addr6) (binding : Option ℕ) → says_twice (six.renew_row end listed binding).answer ≡ false
renew end listed (Some bound) = refl
renew end listed None = refl

confirm : (listed : List Addr6) (off : Bool) → says_twice (six.confirm_row listed off).answer ≡ false
confirm [] off = refl
confirm (x ∷ xs) true = refl
confirm (x ∷ xs) false = refl

release6 : (binding : Option ℕ) (listed : Bool) → says_twice (six.release_row binding listed).answer ≡ false
release6 (Some bound) true = refl
release6 (Some bound) false = refl
release6 None listed = refl

decline6 : (t : ℕ) (binding : Option ℕ) (listed : Bool) → says_twice (six.decline_row t binding listed).answer ≡ false
decline6 t (Some bound) true = refl
decline6 t (Some bound) false = refl
decline6 t None listed = refl

kind_row6 : (pool : Pool6Value) (t : ℕ) (found : six.Lookup) (listed : List Addr6) (kind : Kind6) → says_twice (six.row_of pool t found listed kind).answer ≡ false
kind_row6 pool t found listed kind6.Solicit = solicit found.pick
kind_row6 pool t found listed kind6.Request = request _ _ _
kind_row6 pool t found listed kind6.Renew = renew _ _ _
kind_row6 pool t found listed kind6.Rebind = renew _ _ _
kind_row6 pool t found listed kind6.Confirm = confirm _ _
kind_row6 pool t found listed kind6.Release = release6 _ _
kind_row6 pool t found listed kind6.Decline = decline6 _ _ _

abbrev by_server : Pool6Value → ℕ → Book6 → Request6 → Bool → Row Reply6
by_server pool t b m ours = if ours then six.row_of pool t (six.lookup_in pool b m) m.listed.items m.kind else drops OtherServer Unchanged

row6 : (pool : Pool6Value) (t : ℕ) (b : Book6) (m : Request6) (ours : Bool) → says_twice (by_server pool t b m ours).answer ≡ false
row6 pool t b m true = kind_row6 pool t (six.lookup_in pool b m) m.listed.items m.kind
row6 pool t b m false = refl

decided6 : (pool : Pool6Value) (t : ℕ) (b : Book6) (m : Request6) → says_twice (six.answer6 pool t b m).answer ≡ false
unfolding six.answer6
decided6 pool t b m = row6 pool t b m (six.is_for_us m.kind m.server)

request6 : (part : CircuitPart) (forward : RelayValue) (b : Book) (asked : Result (v6.MessageValue × Request6) Discard) → says_twice asked ≡ false → says_twice (request6_served part forward b asked).answer ≡ false
request6 part forward b (Err why) once = once
request6 part forward b (Ok asked) once = mapped _ _ (decided6 (pool6_of part) b.clock b.six asked.1)

client6 : (duid : List ℕ) (kind : Kind6) (m : v6.MessageValue) (client : Option (List ℕ)) (ia : Option IaValue) → says_twice (asked6.client_request duid kind m client ia) ≡ false
client6 duid kind m (Some client) (Some ia) = by (asked6.is_duid client) where
  by : (is : Bool) → says_twice (if is then Ok (asked6.request6_of duid kind m client ia) else Err ClientKey) ≡ false
  by true = refl
  by false = refl
client6 duid kind m (Some client) None = refl
client6 duid kind m None (Some ia) = refl
client6 duid kind m None None = refl

read6 : (duid : List ℕ) (kind : Kind6) (read : Result v6.MessageValue MessageFault6) → says_twice (asked6.read_request duid kind read) ≡ false
read6 duid kind (Err fault) = refl
read6 duid kind (Ok m) = mapped _ _ (client6 duid kind m (look_up CLIENT_ID m.options) (option_and_then ia_of (look_up IA_NA m.options)))

kind6_asked : (duid message : List ℕ) (kind : Option Kind6) → says_twice (asked6.kind_request duid message kind) ≡ false
kind6_asked duid message None = refl
kind6_asked duid message (Some kind) = read6 duid kind (reading6.message_of message)

asked6_once : (duid message : List ℕ) → says_twice (asked6.request6_in duid message) ≡ false
asked6_once duid message = by (nat_lt (length message) 4) where
  by : (short : Bool) → says_twice (if short then Err Malformed else asked6.kind_request duid message (kind6_of_code (slice_index message 0))) ≡ false
  by true = refl
  by false = kind6_asked duid message (kind6_of_code (slice_index message 0))

message6 : (part : CircuitPart) (forward : RelayValue) (b : Book) (inside : Option (List ℕ)) → says_twice (message6_served part forward b inside).answer ≡ false
message6 part forward b None = refl
message6 part forward b (Some message) = request6 part forward b (asked6.request6_in part.duid message) (asked6_once part.duid message)

forward6 : (part : CircuitPart) (b : Book) (read : Result RelayValue RelayFault) → says_twice (forward_served part b read).answer ≡ false
forward6 part b (Err fault) = refl
forward6 part b (Ok forward) = message6 part forward b (look_up RELAY_MESSAGE forward.options)

-- ---- both

datagram_once : (part : CircuitPart) (proto : Proto) (bytes : List ℕ) (b : Book) → says_twice (datagram_served part proto bytes b).answer ≡ false
datagram_once part V4 bytes b = message4 part b (message_of bytes)
datagram_once part V6 bytes b = forward6 part b (relay_of bytes)

served_once : (part : CircuitPart) (d : DeliveryValue) (b : Book) → says_twice (served part d b).answer ≡ false
unfolding served
served_once part d b = datagram_once part d.proto d.bytes (book_at d.moment b)

abbrev saved : Served → Bool → Answered
saved done lost = if lost then record { answer = Err DiskFault; book = None } else record { answer = done.answer; book = Some done.book }

lost_once : (done : Served) (lost : Bool) → says_twice done.answer ≡ false → says_twice (saved done lost).answer ≡ false
lost_once done true once = refl
lost_once done false once = once

saved_once : (fails : Bool) (done : Served) → says_twice done.answer ≡ false → says_twice (after_save fails done).answer ≡ false
saved_once fails done once = lost_once done (done.is_kept && fails) once

answered_once : (part : CircuitPart) (d : DeliveryValue) (fails : Bool) (book : Option Book) → says_twice (answered part d fails book).answer ≡ false
answered_once part d fails None = refl
answered_once part d fails (Some b) = saved_once fails (served part d b) (served_once part d b)

pub never_repeated : (part : CircuitPart) (d : DeliveryValue) (fails : Bool) (book : Option Book) → is_repeated (answered part d fails book).answer ≡ false
never_repeated part d fails book = repeated_is (answered part d fails book).answer ∙ answered_once part d fails book
