-- The machine of one circuit that has relay, network and server for itself.
use Rattle.std.specs.Prelude.{ℕ, ◌==◌, ◌&&◌, ◌||◌, nat_le, is_some, Bool, true, false, not, List, [], ◌∷◌, ◌++◌, length, take, slice_get, Option, Some, None, option_map, Result, Ok, Err, if◌then◌else◌}
use Rattle.std.specs.Option.{option_or}
use Rattle.types.specs.Delivery.{DeliveryValue}
use Rattle.types.specs.declared.dest.Proto.{Proto}
use Rattle.types.specs.declared.discard.Discard.{Discard}
use Rattle.types.specs.declared.discard.Discard.TheVariants.{CircuitClosed, DiskFault}
use Rattle.config.specs.CircuitPart.{CircuitPart}
use Rattle.circuit_server.specs.Server.{Book, Served, book_at, kept_book, served}
use Rattle.lease_disk.specs.declared.image.Image.{Image}
use Rattle.lease_disk.specs.declared.image.Image.TheVariants.{Byte, Unreadable}
use Rattle.lease_disk.specs.Layout.{gate_open}
use Rattle.lossy_net.specs.Net.{Datagram}
use Rattle.relay.specs.SentFrame.{SentFrame}
use Rattle.relay.specs.Relays.{relayed_up, relayed_down}
use Rattle.events.specs.Seen.{Seen, Frame, Up, Down, Tick, Restart, Turn}

-- What the machine knows: the circuit's part of the configuration, how many datagrams the network keeps in each
-- direction, and whether the circuit is on at the start.
pub record Setup : Type 0 where
  pub part : CircuitPart
  pub quota : ℕ
  pub begins_on : Bool

abbrev pub setup_of : ℕ → CircuitPart → Bool → Setup
setup_of quota part on = record { part = part; quota = quota; begins_on = on }

-- The format of the circuit's region: 1, 2, or 2 where the byte that says so, which is in doubt, becomes 2.
pub data Format : Type 0 where
  Old : Format
  New : Format
  Moving : Format

-- whether it is 2 where the unsynced bytes become this one
abbrev pub is_new : Format → ℕ → Bool
is_new Old byte = false
is_new New byte = true
is_new Moving byte = byte == 2

pub record Alone : Type 0 where
  -- whether the circuit is served
  pub on : Bool
  -- what the network keeps, newest first: towards the server, and towards the relay
  pub up : List Datagram
  pub down : List Datagram
  -- the server's book; None where the circuit is closed
  pub book : Option Book
  -- the book that was last saved; None where the region is damaged
  pub kept : Option Book
  -- the book of a failed save that a restart may find all the same; None where there is none
  pub doubt : Option Book
  pub format : Format

-- The call of the device that fails, from 1 on, of so many. Any other number is none.
abbrev pub is_fault : ℕ → ℕ → Bool
is_fault calls fault = nat_le 1 fault && nat_le fault calls

-- What a region holds comes back: a book, or none where it is damaged, in format 2 or in format 1. A book in format 1 is
-- moved to format 2, by four calls of the device. Where one of them fails, the circuit is closed, and the region holds the
-- book all the same; from the third call on the format is in doubt.
abbrev pub come_back : ℕ → Option Book → Bool → Alone → Alone
come_back fault kept two a =
    if two || not (is_some kept) then record a { book = kept; kept = kept; doubt = None; format = if two then New else Old }
    else if is_fault 4 fault then record a { book = None; kept = kept; doubt = None; format = if nat_le 3 fault then Moving else Old }
    else record a { book = kept; kept = kept; doubt = None; format = New }

-- At the start nothing was sent. The circuit begins with the book that its region holds.
abbrev pub unsent : Bool → Alone
unsent on = record { on = on; up = []; down = []; book = None; kept = None; doubt = None; format = New }

abbrev pub start : Bool → ℕ → Option Book → Bool → Alone
start on fault kept two = come_back fault kept two (unsent on)

-- What an event does.
pub data Effect : Type 0 where
  Dropped : Discard → Effect
  -- there is no such datagram
  Gone : Effect
  -- a datagram of this length goes to the server, or to the relay
  SentUp : ℕ → Effect
  SentDown : ℕ → Effect
  -- a frame leaves the relay
  Framed : SentFrame → Effect
  Done : Effect

pub record Step : Type 0 where
  pub effect : Effect
  pub next : Alone

-- The network keeps the newest datagrams of a direction, as many as the quota.
abbrev pub with_newest : ℕ → Proto → List ℕ → List Datagram → List Datagram
with_newest quota proto bytes datagrams = take quota (record { proto = proto; bytes = bytes } ∷ datagrams)

-- a frame at the relay
abbrev pub frame_step : Setup → Alone → Proto → Result (List ℕ) Discard → Step
frame_step setup a proto (Err why) = record { effect = Dropped why; next = a }
frame_step setup a proto (Ok bytes) = record { effect = SentUp (length bytes); next = record a { up = with_newest setup.quota proto bytes a.up } }

-- what the server answers to a datagram
abbrev pub answer_step : Setup → Alone → Proto → Result (List ℕ) Discard → Step
answer_step setup a proto (Err why) = record { effect = Dropped why; next = a }
answer_step setup a proto (Ok bytes) = record { effect = SentDown (length bytes); next = record a { down = with_newest setup.quota proto bytes a.down } }

-- What changes more than offers is saved before the reply leaves, by six calls of the device. A save that fails closes
-- the circuit; where its fifth or sixth call failed, the new book is in doubt.
abbrev pub served_step : Setup → ℕ → Alone → Proto → Served → Step
served_step setup fault a proto done =
    if not done.is_kept then answer_step setup (record a { book = Some done.book }) proto done.answer
    else if is_fault 6 fault then record {
      effect = Dropped DiskFault;
      next = record a { book = None; doubt = if nat_le 5 fault then Some (kept_book done.book) else a.doubt };
    }
    else answer_step setup (record a { book = Some done.book; kept = Some (kept_book done.book) }) proto done.answer

-- a datagram that the network kept, as it reaches the server
abbrev pub delivery_of : CircuitPart → ℕ → Datagram → DeliveryValue
delivery_of part now d = record { proto = d.proto; source = part.relay; moment = now; bytes = d.bytes }

-- a datagram at the server
abbrev pub book_step : Setup → ℕ → ℕ → Alone → Datagram → Option Book → Step
book_step setup now fault a d None = record { effect = Dropped CircuitClosed; next = a }
book_step setup now fault a d (Some b) = served_step setup fault a d.proto (served setup.part (delivery_of setup.part now d) b)

abbrev pub up_step : Setup → ℕ → ℕ → Alone → Option Datagram → Step
up_step setup now fault a None = record { effect = Gone; next = a }
up_step setup now fault a (Some d) = book_step setup now fault a d a.book

-- a datagram at the relay
abbrev pub reply_step : Alone → Result SentFrame Discard → Step
reply_step a (Err why) = record { effect = Dropped why; next = a }
reply_step a (Ok frame) = record { effect = Framed frame; next = a }

abbrev pub down_step : Setup → Alone → Option Datagram → Step
down_step setup a None = record { effect = Gone; next = a }
down_step setup a (Some d) = reply_step a (relayed_down setup.part d.proto d.bytes)

-- What a restart finds where each unsynced byte became this one: the book in doubt where its gate then
-- reads open, and else the kept one.
abbrev pub found : ℕ → Alone → Option Book
found byte a = if byte == gate_open then option_or a.doubt a.kept else a.kept

-- A region that cannot be read closes the circuit, and what was in doubt stays so.
abbrev pub after_restart : ℕ → Image → Alone → Alone
after_restart fault (Byte byte) a = come_back fault (found byte a) (is_new a.format byte) a
after_restart fault Unreadable a = record a { book = None }

-- A circuit that turns off loses what the network keeps of it, and its offers. It keeps all else, and begins with it when it
-- turns on again.
abbrev pub turned : Bool → Alone → Alone
turned true a = record a { on = true }
turned false a = record a { on = false; up = []; down = []; book = option_map kept_book a.book }

-- while it is off nothing reaches its relay or its server
abbrev pub if_on : Alone → Step → Step
if_on a step = if a.on then step else record { effect = Gone; next = a }

-- One event.
unfoldable pub alone_step : Setup → Seen → Alone → Step
alone_step setup (Frame proto frame) a = if_on a (frame_step setup a proto (relayed_up setup.part proto frame))
alone_step setup (Up j now fault) a = if_on a (up_step setup now fault a (slice_get a.up j))
alone_step setup (Down j) a = if_on a (down_step setup a (slice_get a.down j))
alone_step setup (Tick now) a = record { effect = Done; next = record a { book = option_map (book_at now) a.book } }
alone_step setup (Restart comeback) a = record { effect = Done; next = after_restart comeback.move_fault comeback.image a }
alone_step setup (Turn on) a = record { effect = Done; next = turned on a }

-- Whether an event writes to the circuit's region: by a save, whether it fails or not, or by the crash and the move of
-- a restart.

abbrev pub book_writes : Setup → ℕ → Datagram → Option Book → Bool
book_writes setup now d None = false
book_writes setup now d (Some b) = (served setup.part (delivery_of setup.part now d) b).is_kept

abbrev pub up_writes : Setup → ℕ → Option Book → Option Datagram → Bool
up_writes setup now book None = false
up_writes setup now book (Some d) = book_writes setup now d book

abbrev pub writes : Setup → Seen → Alone → Bool
writes setup (Frame proto frame) a = false
writes setup (Up j now fault) a = a.on && up_writes setup now a.book (slice_get a.up j)
writes setup (Down j) a = false
writes setup (Tick now) a = false
writes setup (Restart comeback) a = true
writes setup (Turn on) a = false

-- the frame that leaves with an effect, if one does
abbrev pub sent_frame : Effect → List SentFrame
sent_frame (Framed frame) = frame ∷ []
sent_frame effect = []

-- the machine after what it sees
unfoldable pub after_all : Setup → List Seen → Alone → Alone
after_all setup [] a = a
after_all setup (s ∷ seen) a = after_all setup seen (alone_step setup s a).next

-- the frames that leave towards the circuit, in order
unfoldable pub frames : Setup → List Seen → Alone → List SentFrame
frames setup [] a = []
frames setup (s ∷ seen) a = sent_frame (alone_step setup s a).effect ++ frames setup seen (alone_step setup s a).next
