-- What holds of every book that is served, of what a moment leaves of it and of what is kept of it, holds
-- of a machine's books after every step.
use Rattle.std.proofs.Common.{ℕ, List, [], ◌∷◌, Bool, true, false, not}
use Rattle.std.specs.Prelude.{Option, Some, None, option_map, Result, Ok, Err, slice_get, nat_le, is_some, IfSome, ◌==◌, ◌||◌, if◌then◌else◌}
use Rattle.types.specs.Delivery.{DeliveryValue}
use Rattle.types.specs.declared.dest.Proto.{Proto}
use Rattle.types.specs.declared.discard.Discard.{Discard}
use Rattle.circuit_server.specs.Server.{Book, Served, book_at, kept_book, served}
use Rattle.lease_disk.specs.declared.image.Image.{Image}
use Rattle.lease_disk.specs.declared.image.Image.TheVariants.{Byte, Unreadable}
use Rattle.lossy_net.specs.Net.{Datagram}
use Rattle.relay.specs.SentFrame.{SentFrame}
use Rattle.relay.specs.Relays.{relayed_up, relayed_down}
use Rattle.std.specs.Option.{option_or}
use Rattle.world.specs.Alone.{Alone, Setup, Step, frame_step, answer_step, served_step, book_step, delivery_of, up_step, reply_step, down_step, is_fault, Old, New, Moving, come_back, found, is_new, after_restart, alone_step, after_all}
use Rattle.promises.specs.Books.{HasBooks}
use Rattle.events.specs.Seen.{Seen, Frame, Up, Down, Tick, Restart, Turn}

module _ (P : Book → Type 0) where
  -- what is sent, and what leaves, changes no book
  framed : (setup : Setup) (a : Alone) (proto : Proto) (sent : Result (List ℕ) Discard) → HasBooks P a → HasBooks P (frame_step setup a proto sent).next
  framed setup a proto (Err why) books = books
  framed setup a proto (Ok bytes) books = record { book = books.book; kept = books.kept; doubt = books.doubt }

  answered : (setup : Setup) (a : Alone) (proto : Proto) (answer : Result (List ℕ) Discard) → HasBooks P a → HasBooks P (answer_step setup a proto answer).next
  answered setup a proto (Err why) books = books
  answered setup a proto (Ok bytes) books = record { book = books.book; kept = books.kept; doubt = books.doubt }

  replied : (a : Alone) (sent : Result SentFrame Discard) → HasBooks P a → HasBooks P (reply_step a sent).next
  replied a (Err why) books = books
  replied a (Ok frame) books = books

  went_down : (setup : Setup) (a : Alone) (d : Option Datagram) → HasBooks P a → HasBooks P (down_step setup a d).next
  went_down setup a None books = books
  went_down setup a (Some d) books = replied a (relayed_down setup.part d.proto d.bytes) books

  -- a book in doubt is found if there is one
  either : (doubt kept : Option Book) → IfSome doubt P → IfSome kept P → IfSome (option_or doubt kept) P
  either None kept unsure sure = sure
  either (Some b) kept unsure sure = unsure

  if_either : (b : Bool) (one other : Option Book) → IfSome one P → IfSome other P → IfSome (if b then one else other) P
  if_either true one other first second = first
  if_either false one other first second = second

  either_step : (b : Bool) (one other : Step) → HasBooks P one.next → HasBooks P other.next → HasBooks P (if b then one else other).next
  either_step true one other first second = first
  either_step false one other first second = second

  -- what comes back of a region is the book that was found in it, if any
  pub held_back : (fault : ℕ) (kept : Option Book) (two : Bool) (a : Alone) → IfSome kept P → HasBooks P (come_back fault kept two a)
  held_back fault kept two a book = by (two || not (is_some kept)) (is_fault 4 fault) where
    by : (b c : Bool) → HasBooks P (if b then record a { book = kept; kept = kept; doubt = None; format = if two then New else Old }
        else if c then record a { book = None; kept = kept; doubt = None; format = if nat_le 3 fault then Moving else Old }
        else record a { book = kept; kept = kept; doubt = None; format = New })
    by true c = record { book = book; kept = book; doubt = tt }
    by false true = record { book = tt; kept = book; doubt = tt }
    by false false = record { book = book; kept = book; doubt = tt }

  restarted : (fault : ℕ) (image : Image) (a : Alone) → HasBooks P a → HasBooks P (after_restart fault image a)
  restarted fault (Byte byte) a books =
      held_back fault (found byte a) (is_new a.format byte) a (if_either (byte == 0xa5) _ _ (either a.doubt a.kept books.doubt books.kept) books.kept)
  restarted fault Unreadable a books = record { book = tt; kept = books.kept; doubt = books.doubt }

  module _ (setup : Setup) (on_later : (now : ℕ) (b : Book) → P b → P (book_at now b)) (on_kept : (b : Book) → P b → P (kept_book b))
      (on_served : (e : DeliveryValue) (b : Book) → P b → P (served setup.part e b).book) where
    pub held_step : (s : Seen) (a : Alone) → HasBooks P a → HasBooks P (alone_step setup s a).next
    unfolding alone_step
    held_step (Frame proto frame) a books = either_step a.on _ _ (framed setup a proto (relayed_up setup.part proto frame) books) books
    held_step (Up j now fault) a books = either_step a.on _ _ (went_up (slice_get a.up j)) books where
      saved : (d : Datagram) (done : Served) → P done.book → HasBooks P (served_step setup fault a d.proto done).next
      saved d done book =
          either_step (not done.is_kept) _ _
          (answered setup (record a { book = Some done.book }) d.proto done.answer (record { book = book; kept = books.kept; doubt = books.doubt }))
          (either_step (is_fault 6 fault) _ _
          (record { book = tt; kept = books.kept; doubt = if_either (nat_le 5 fault) (Some (kept_book done.book)) a.doubt (on_kept done.book book) books.doubt })
          (answered setup (record a { book = Some done.book; kept = Some (kept_book done.book) }) d.proto done.answer (record { book = book; kept = on_kept done.book book; doubt = books.doubt })))

      opened : (d : Datagram) (b : Option Book) → IfSome b P → HasBooks P (book_step setup now fault a d b).next
      opened d None book = books
      opened d (Some b) book = saved d (served setup.part (delivery_of setup.part now d) b) (on_served (delivery_of setup.part now d) b book)

      went_up : (d : Option Datagram) → HasBooks P (up_step setup now fault a d).next
      went_up None = books
      went_up (Some d) = opened d a.book books.book
    held_step (Down j) a books = either_step a.on _ _ (went_down setup a (slice_get a.down j) books) books
    held_step (Tick now) a books = record { book = ticked a.book books.book; kept = books.kept; doubt = books.doubt } where
      ticked : (b : Option Book) → IfSome b P → IfSome (option_map (book_at now) b) P
      ticked None book = book
      ticked (Some b) book = on_later now b book
    held_step (Restart comeback) a books = restarted comeback.move_fault comeback.image a books
    held_step (Turn true) a books = record { book = books.book; kept = books.kept; doubt = books.doubt }
    held_step (Turn false) a books = record { book = left a.book books.book; kept = books.kept; doubt = books.doubt } where
      left : (b : Option Book) → IfSome b P → IfSome (option_map kept_book b) P
      left None book = book
      left (Some b) book = on_kept b book

    pub held_after : (seen : List Seen) (a : Alone) → HasBooks P a → HasBooks P (after_all setup seen a)
    unfolding after_all
    held_after [] a books = books
    held_after (s ∷ seen) a books = held_after seen (alone_step setup s a).next (held_step s a books)
