-- What a circuit's books bind or offer stays in the circuit's pools.
use Rattle.std.proofs.Common.{◌≡◌, ℕ, List, max, refl}
use Rattle.std.specs.Prelude.{Option, Some, None, option_map, Result, Ok, Err, IfSome}
use Rattle.types.specs.Delivery.{DeliveryValue}
use Rattle.types.specs.Slots.{live4, live6, same_client4, same_client6}
use Rattle.types.specs.declared.dest.Proto.{Proto}
use Rattle.types.specs.declared.dest.Proto.TheVariants.{V4, V6}
use Rattle.types.specs.declared.discard.Discard.{Discard}
use Rattle.exchange.specs.declared.request4.Request4.{Request4}
use Rattle.exchange.specs.declared.request6.Request6.{Request6}
use Rattle.types.specs.declared.slots.Slots.{Slots}
use Rattle.v4_message.specs.declared.fault.MessageFault.{MessageFault}
use Rattle.v4_message.specs.Reading.{message_of}
use Rattle.v4_message.specs.Spelling.{MessageValue}
use Rattle.v6_options.specs.Codes.{RELAY_MESSAGE}
use Rattle.v6_options.specs.Spelling.{look_up}
use Rattle.v6_message.specs.declared.fault.RelayFault.{RelayFault}
use Rattle.v6_message.specs.Message as v6
use Rattle.v6_message.specs.Relay.{RelayValue}
use Rattle.v6_message.specs.RelayReading.{relay_of}
use Rattle.slots.proofs.FormLemmas.{live_once}
use Rattle.bindings_v4.proofs.KeptBook as four_kept
use Rattle.bindings_v4.proofs.LaterBook as four_later
use Rattle.bindings_v4.proofs.LawLemmas as four_laws
use Rattle.bindings_v6.proofs.ShownBook as six_shown
use Rattle.bindings_v6.proofs.LaterBook as six_later
use Rattle.bindings_v6.proofs.LawLemmas as six_laws
use Rattle.lease_disk.specs.Book as region
use Rattle.lease_disk.specs.Recovered.{recovered}
use Rattle.lease_disk.proofs.Books as region_books
use Rattle.config.specs.CircuitPart.{CircuitPart, pool4_of, pool6_of}
use Rattle.circuit_server.specs.Leases.{book_in, counts_of, recovered_book}
use Rattle.requests.specs.Request4.{request4_in}
use Rattle.requests.specs.Request6.{request6_in}
use Rattle.circuit_server.specs.Server.{Book, IsBook, book_at, kept_book, datagram_served, request4_served, message4_served, request6_served, message6_served, forward_served, served}
use Rattle.world.specs.Alone.{Alone, Setup, alone_step}
use Rattle.promises.specs.Books.{HasBooks, IsBookOf}
use Rattle.events.specs.Seen.{Seen}
use Rattle.promises.proofs.HeldBooks.{held_step}
use Rattle.promises.proofs.PoolLemmas4.{HasLimits4, IsPooled4, decided4, later4, kept4, begun4}
use Rattle.promises.proofs.PoolLemmas6.{HasLimits6, IsPooled6, decided6, later6, begun6}

-- the limits of a circuit's pools
pub record HasLimits (part : CircuitPart) : Type 0 where
  pub four : HasLimits4 part
  pub six : HasLimits6 part

module _ (part : CircuitPart) where
  pooled4 : (b : Book) → IsBookOf part b → IsPooled4 part b.four
  pooled4 b book = record { bindings = book.bindings4; offers = book.offers4 }

  pooled6 : (b : Book) → IsBookOf part b → IsPooled6 part b.six
  pooled6 b book = record { bindings = book.bindings6 }

  book_of : (b : Book) → IsBook b → IsPooled4 part b.four → IsPooled6 part b.six → IsBookOf part b
  book_of b book four six = record { book = book; bindings4 = four.bindings; offers4 = four.offers; bindings6 = six.bindings }

  -- ---- what a region recovers to is a book of its circuit

  begun : (slots : Slots) → region.IsBook (counts_of part) slots → IsBookOf part (book_in part slots)
  begun slots found =
      let once4 = live_once live4 same_client4 slots.clock slots.four found.live4 found.once4 in
      let once6 = live_once live6 same_client6 slots.clock slots.six found.live6 found.once6 in
      book_of (book_in part slots)
      (record { four = four_kept.begun_is_a_book (pool4_of part) slots once4; six = six_shown.begun_is_a_book (pool6_of part) slots once6 })
      (begun4 part slots found.past4) (begun6 part slots found.past6)

  recovered_of : (slots : Option Slots) → ((found : Slots) → slots ≡ Some found → region.IsBook (counts_of part) found) → IfSome (option_map (book_in part) slots) (IsBookOf part)
  recovered_of None is = tt
  recovered_of (Some slots) is = begun slots (is slots refl)

  pub opened_of : (bytes : ℕ → ℕ) → IfSome (recovered_book part bytes) (IsBookOf part)
  opened_of bytes = recovered_of (recovered (counts_of part) bytes) (λ slots e. region_books.recovered_book (counts_of part) bytes slots e)

  -- ---- a circuit's book stays one

  pub later_of : (now : ℕ) (b : Book) → IsBookOf part b → IsBookOf part (book_at now b)
  later_of now b book =
      let t = max b.clock now in
      book_of (book_at now b)
      (record { four = four_later.later_is_a_book t b.four b.clock book.book.four; six = six_later.later_is_a_book t b.six b.clock book.book.six })
      (later4 part t b.four (pooled4 b book)) (later6 part t b.six (pooled6 b book))

  pub kept_of : (b : Book) → IsBookOf part b → IsBookOf part (kept_book b)
  kept_of b book =
      book_of (kept_book b) (record { four = four_kept.kept_is_a_book b.clock b.four book.book.four; six = book.book.six })
      (kept4 part b.four (pooled4 b book)) (pooled6 b book)

  module _ (limits : HasLimits part) (b : Book) (book : IsBookOf part b) where
    message4_of_part : (message : Result MessageValue MessageFault) → IsBookOf part (message4_served part b message).book
    message4_of_part (Err fault) = book
    message4_of_part (Ok m) = by (request4_in m) where
      by : (request : Result Request4 Discard) → IsBookOf part (request4_served part m b request).book
      by (Err why) = book
      by (Ok q) =
          book_of _ (record { four = four_laws.book_left (pool4_of part) limits.four b.clock q b.four book.book.four; six = book.book.six })
          (decided4 part b.clock q b.four (pooled4 b book)) (pooled6 b book)

    forward_of_part : (forward : Result RelayValue RelayFault) → IsBookOf part (forward_served part b forward).book
    forward_of_part (Err fault) = book
    forward_of_part (Ok forward) = by_message (look_up RELAY_MESSAGE forward.options) where
      by : (asked : Result (v6.MessageValue × Request6) Discard) → IsBookOf part (request6_served part forward b asked).book
      by (Err why) = book
      by (Ok asked) =
          book_of _ (record { four = book.book.four; six = six_laws.book_left (pool6_of part) limits.six b.clock asked.1 b.six book.book.six })
          (pooled4 b book) (decided6 part b.clock asked.1 b.six (pooled6 b book))

      by_message : (message : Option (List ℕ)) → IsBookOf part (message6_served part forward b message).book
      by_message None = book
      by_message (Some message) = by (request6_in part.duid message)

  pub served_of : HasLimits part → (e : DeliveryValue) (b : Book) → IsBookOf part b → IsBookOf part (served part e b).book
  unfolding served
  served_of limits e b book = by e.proto where
    by : (proto : Proto) → IsBookOf part (datagram_served part proto e.bytes (book_at e.moment b)).book
    by V4 = message4_of_part limits (book_at e.moment b) (later_of e.moment b book) (message_of e.bytes)
    by V6 = forward_of_part limits (book_at e.moment b) (later_of e.moment b book) (relay_of e.bytes)

pub own_step : (setup : Setup) → HasLimits setup.part → (s : Seen) (a : Alone) → HasBooks (IsBookOf setup.part) a → HasBooks (IsBookOf setup.part) (alone_step setup s a).next
own_step setup limits = held_step (IsBookOf setup.part) setup (later_of setup.part) (kept_of setup.part) (served_of setup.part limits)
