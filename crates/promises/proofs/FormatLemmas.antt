-- A region of format 2 stays one.
use Rattle.std.proofs.Common.{◌≡◌, ℕ, Bool, true, false, not, List, [], ◌∷◌, refl, ap}
use Rattle.std.specs.Prelude.{Option, Some, None, Result, Ok, Err, slice_get, nat_le, if◌then◌else◌}
use Rattle.types.specs.declared.dest.Proto.{Proto}
use Rattle.types.specs.declared.discard.Discard.{Discard}
use Rattle.circuit_server.specs.Server.{Book, Served, kept_book, served}
use Rattle.lease_disk.specs.declared.image.Image.{Image}
use Rattle.lease_disk.specs.declared.image.Image.TheVariants.{Byte, Unreadable}
use Rattle.lossy_net.specs.Net.{Datagram}
use Rattle.relay.specs.SentFrame.{SentFrame}
use Rattle.relay.specs.Relays.{relayed_up, relayed_down}
use Rattle.world.specs.Alone.{Alone, Format, Old, New, Moving, Setup, Step, frame_step, answer_step, served_step, book_step, delivery_of, up_step, reply_step, down_step, is_fault, come_back, found, is_new, after_restart, alone_step, after_all}
use Rattle.events.specs.Seen.{Seen, Frame, Up, Down, Tick, Restart, Turn}

-- what a restart over a region of format 2 leaves
pub restarts_as_before : (byte fault : ℕ) (a : Alone) (f : Format) → f ≡ New
    → come_back fault (found byte a) (is_new f byte) a ≡ record a { book = found byte a; kept = found byte a; doubt = None; format = New }
restarts_as_before byte fault a f new = ap (λ (f : Format). come_back fault (found byte a) (is_new f byte) a) new

-- over any region that holds a book, where no call of its move fails
pub comes_back : (fault : ℕ) (b : Book) (two : Bool) (a : Alone) → is_fault 4 fault ≡ false
    → come_back fault (Some b) two a ≡ record a { book = Some b; kept = Some b; doubt = None; format = New }
comes_back fault b true a none = refl
comes_back fault b false a none =
    ap (λ (fails : Bool). if fails then record a { book = None; kept = Some b; doubt = None; format = if nat_le 3 fault then Moving else Old } else record a { book = Some b; kept = Some b; doubt = None; format = New }) none

either_step : (b : Bool) (one other : Step) → one.next.format ≡ New → other.next.format ≡ New → (if b then one else other).next.format ≡ New
either_step true one other first second = first
either_step false one other first second = second

new_framed : (setup : Setup) (a : Alone) (proto : Proto) (sent : Result (List ℕ) Discard) → a.format ≡ New → (frame_step setup a proto sent).next.format ≡ New
new_framed setup a proto (Err why) new = new
new_framed setup a proto (Ok bytes) new = new

new_answered : (setup : Setup) (a : Alone) (proto : Proto) (answer : Result (List ℕ) Discard) → a.format ≡ New → (answer_step setup a proto answer).next.format ≡ New
new_answered setup a proto (Err why) new = new
new_answered setup a proto (Ok bytes) new = new

new_served : (setup : Setup) (fault : ℕ) (a : Alone) (proto : Proto) (done : Served) → a.format ≡ New → (served_step setup fault a proto done).next.format ≡ New
new_served setup fault a proto done new =
    either_step (not done.is_kept) _ _ (new_answered setup (record a { book = Some done.book }) proto done.answer new)
    (either_step (is_fault 6 fault) _ _ new (new_answered setup (record a { book = Some done.book; kept = Some (kept_book done.book) }) proto done.answer new))

new_replied : (a : Alone) (sent : Result SentFrame Discard) → a.format ≡ New → (reply_step a sent).next.format ≡ New
new_replied a (Err why) new = new
new_replied a (Ok frame) new = new

new_down : (setup : Setup) (a : Alone) (d : Option Datagram) → a.format ≡ New → (down_step setup a d).next.format ≡ New
new_down setup a None new = new
new_down setup a (Some d) new = new_replied a (relayed_down setup.part d.proto d.bytes) new

new_image : (fault : ℕ) (i : Image) (a : Alone) → a.format ≡ New → (after_restart fault i a).format ≡ New
new_image fault (Byte byte) a new = ap (λ (b : Alone). b.format) (restarts_as_before byte fault a a.format new)
new_image fault Unreadable a new = new

new_step : (setup : Setup) (s : Seen) (a : Alone) → a.format ≡ New → (alone_step setup s a).next.format ≡ New
unfolding alone_step
new_step setup (Frame proto frame) a new = either_step a.on _ _ (new_framed setup a proto (relayed_up setup.part proto frame) new) new
new_step setup (Up j now fault) a new = either_step a.on _ _ (went_up (slice_get a.up j)) new where
  opened : (d : Datagram) (b : Option Book) → (book_step setup now fault a d b).next.format ≡ New
  opened d None = new
  opened d (Some b) = new_served setup fault a d.proto (served setup.part (delivery_of setup.part now d) b) new

  went_up : (d : Option Datagram) → (up_step setup now fault a d).next.format ≡ New
  went_up None = new
  went_up (Some d) = opened d a.book
new_step setup (Down j) a new = either_step a.on _ _ (new_down setup a (slice_get a.down j) new) new
new_step setup (Tick now) a new = new
new_step setup (Restart comeback) a new = new_image comeback.move_fault comeback.image a new
new_step setup (Turn true) a new = new
new_step setup (Turn false) a new = new

pub stays_new : (setup : Setup) (seen : List Seen) (a : Alone) → a.format ≡ New → (after_all setup seen a).format ≡ New
unfolding after_all
stays_new setup [] a new = new
stays_new setup (s ∷ seen) a new = stays_new setup seen (alone_step setup s a).next (new_step setup s a new)
