-- The worked examples, computed.
use Rattle.std.proofs.Common.{◌≡◌, ℕ, ◌+◌, Bool, true, false, cond, not, ◌&&◌, ◌||◌, List, [], ◌∷◌, ◌++◌, length, replicate, max, refl, ap, ◌∙◌}
use Rattle.std.specs.Prelude.{Ok, Err, Option, Some, None, ◌==◌}
use Rattle.std.specs.List.{find, range_with_len}
use Rattle.std.specs.FinMap.{get, empty, insert, get-empty}
use Rattle.std.specs.Ordering.{nat_cmp, eq_by_cmp}
use Rattle.std.specs.Cmp.Lexicographic.{slice_cmp}
use Rattle.std.specs.Option.{option_or}
use Rattle.types.specs.Addr.{number4, addr4}
use Rattle.types.specs.Delivery.{delivery}
use Rattle.types.specs.declared.addr.Addr4.{Addr4}
use Rattle.types.specs.Pool4.{PoolValue}
use Rattle.types.specs.declared.dest.Proto.TheVariants.{V4}
use Rattle.types.specs.declared.discard.Discard.TheVariants as reason
use Rattle.types.specs.declared.kind4.Kind4.{Kind4}
use Rattle.types.specs.declared.kind4.Kind4.TheVariants.{Discover, Request, Release, Decline}
use Rattle.exchange.specs.declared.request4.Request4.{Request4}
use Rattle.exchange.specs.declared.request4.Reply4.TheVariants as reply
use Rattle.exchange.specs.declared.request4.Reply4.{Reply4}
use Rattle.v4_options.specs.Reading.{listed_from, fault_from}
use Rattle.v4_message.specs.Reading.{message_of}
use Rattle.v4_message.specs.Spelling.{MessageValue}
use Rattle.slots.specs.Key.{key4_cmp}
use Rattle.slots.specs.KeyLaws.{key4_is_key}
use Rattle.slots.specs.Maps.{Lease, Clients, address_of, is_live}
use Rattle.bindings_v4.specs.Book4.{Book4, in_pool, lowest_free}
use Rattle.slots.specs.Row.{Decision, Row, is_kept}
use Rattle.bindings_v4.specs.Table4.{answer4, decline_row, discover_row as row, release_row, selecting_row, where_is, with_change}
use Rattle.config.specs.CircuitPart.{pool4_of}
use Rattle.requests.specs.Request4.{request4_in}
use Rattle.circuit_server.specs.Server.{Book, Served, book_at, served, drop, decision_served, message4_served, request4_served}
use Rattle.relay.specs.SentFrame.{SentFrame}
use Rattle.relay.specs.Up4.{relayed_up4}
use Rattle.relay.specs.Down4.{reply_of, relayed_down4}
use Rattle.replies.specs.Reply4.{reply4_bytes}
use Rattle.world.specs.Alone.{Alone, Setup, Step, Dropped, Gone, SentUp, SentDown, Framed, alone_step, served_step, sent_frame, after_all, frames}
use Rattle.promises.specs.Examples.{barred_at, client_message, decline_up, nak, reboot_up, release_up, saved_silently, part_a, part_a1, setup_a, setup_a1, ipv4, discover, discover_up, relayed_discover, offer, client, offers_at, one_offer, lease_until, datagram, with_up, begun, no_leases, request_up, asked, leased, closed, ack}
use Rattle.promises.specs.Granted.{Granted4, lines, message4_lines, decision4_lines, restart_over}
use Rattle.events.specs.Seen.{Seen, Frame, Up, Down}
use Rattle.promises.proofs.BookLemmas.{bound_at, free-none, free-one, at-bound, at-offers, live_none, live_one, get-one, remove-only}

abbrev no_offers : Clients key4_cmp
no_offers = empty

abbrev same_client : List ℕ → List ℕ → Bool
same_client = eq_by_cmp (slice_cmp nat_cmp)

-- ---- the table's rows

-- a DHCPDISCOVER of this client without options 50 and 54
abbrev asks : List ℕ → Request4
asks k = record { kind = Discover; key = k; server = None; wanted = None; ciaddr = ipv4 0 0 0 0 }

abbrev decided : ℕ → List ℕ → Book4 → Option ℕ → Option ℕ → Decision Reply4 Book4
decided clock k b pick binding = record { answer = (row clock pick binding).answer; book = with_change k (row clock pick binding).change b; is_kept = is_kept (row clock pick binding).change }

abbrev offers_in : Clients key4_cmp → Book4
offers_in offers = (offers_at 0 offers).four

-- with no offers it is the pool's lowest address
fresh : (pool : PoolValue) (clock : ℕ) (k : List ℕ) (a : ℕ)
    → find (λ x. in_pool pool x && true) (range_with_len (number4 pool.first) pool.count) ≡ Some a
    → answer4 pool clock (offers_in no_offers) (asks k)
    ≡ record { answer = Ok (reply.Offer (addr4 a)); book = offers_in (one_offer k (record { address = a; until = clock + 60 })); is_kept = false }
unfolding answer4
fresh pool clock k a lowest =
    let b = offers_in no_offers in
    ap (λ o. decided clock k b (option_or (address_of o) (option_or (address_of o) (lowest_free pool b))) (address_of o)) (get-empty (slice_cmp nat_cmp) k)
    ∙ ap (λ (free : ℕ → Bool). decided clock k b (find free (range_with_len (number4 pool.first) pool.count)) None) (λ i x. free-none pool clock x i)
    ∙ ap (λ p. decided clock k b p None) lowest

-- another client has the pool's only address
taken : (pool : PoolValue) (clock : ℕ) (k other : List ℕ) (lease : Lease) → same_client k other ≡ false
    → find (λ x. in_pool pool x && not (lease.address == x || false || false)) (range_with_len (number4 pool.first) pool.count) ≡ None
    → answer4 pool clock (offers_in (one_offer other lease)) (asks k) ≡ record { answer = Err reason.NoAddress; book = offers_in (one_offer other lease); is_kept = false }
unfolding answer4
taken pool clock k other lease another none =
    let b = offers_in (one_offer other lease) in
    ap (λ o. decided clock k b (option_or (address_of o) (option_or (address_of (get (one_offer other lease) k)) (lowest_free pool b))) (address_of o)) (get-empty (slice_cmp nat_cmp) k)
    ∙ ap (λ o. decided clock k b (option_or (address_of o) (lowest_free pool b)) None) (get-one other lease k ∙ ap (λ t. cond t (Some lease) None) another)
    ∙ ap (λ (free : ℕ → Bool). decided clock k b (find free (range_with_len (number4 pool.first) pool.count)) None) (λ i x. free-one pool clock x other lease i)
    ∙ ap (λ p. decided clock k b p None) none

-- client 1 takes what it is offered at 110, by what is looked up of it
abbrev selects : Request4
selects = record { kind = Request; key = client 1; server = Some (ipv4 10 0 0 1); wanted = Some (ipv4 10 0 0 10); ciaddr = ipv4 0 0 0 0 }

abbrev selected : Option ℕ → Option ℕ → Decision Reply4 Book4
selected binding offer =
    let r = selecting_row 710 (Some 167772170) (option_or (where_is binding (Some 167772170)) (where_is offer (Some 167772170))) in
    record { answer = r.answer; book = with_change (client 1) r.change (offers_in (one_offer (client 1) (lease_until 160))); is_kept = is_kept r.change }

granted : answer4 (pool4_of part_a) 110 (offers_in (one_offer (client 1) (lease_until 160))) selects ≡ selected None (Some 167772170)
unfolding answer4
granted =
    ap (λ o. selected (address_of o) (address_of (get (one_offer (client 1) (lease_until 160)) (client 1)))) (get-empty (slice_cmp nat_cmp) (client 1))
    ∙ ap (λ o. selected None (address_of o)) (get-one (client 1) (lease_until 160) (client 1))

-- ---- one datagram at the server

-- what is served of it, where the book is this one
module _ (setup : Setup) (now fault : ℕ) (bytes : List ℕ) (clock : ℕ) (offers : Clients key4_cmp) (b : Book) where
  served_by : (s : Served) {m : MessageValue} → message_of bytes ≡ Ok m → book_at now (offers_at clock offers) ≡ b → message4_served setup.part b (Ok m) ≡ s
      → alone_step setup (Up 0 now fault) (with_up bytes clock offers) ≡ served_step setup fault (with_up bytes clock offers) V4 s
  unfolding alone_step served
  served_by s {m} read at is =
      let step : Served → Step = λ s. served_step setup fault (with_up bytes clock offers) V4 s in
      ap (λ c. step (message4_served setup.part c (message_of bytes))) at
      ∙ ap (λ r. step (message4_served setup.part b r)) read
      ∙ ap step is

  -- a client's message, as this request
  decided_by : (request : Request4) (d : Decision Reply4 Book4) {m : MessageValue} → message_of bytes ≡ Ok m → request4_in m ≡ Ok request
      → book_at now (offers_at clock offers) ≡ b → answer4 (pool4_of setup.part) b.clock b.four request ≡ d
      → alone_step setup (Up 0 now fault) (with_up bytes clock offers)
      ≡ served_step setup fault (with_up bytes clock offers) V4 (decision_served (reply4_bytes setup.part m) (λ four. record b { four = four }) d)
  decided_by request d {m} read is_request at is =
      let done : Decision Reply4 Book4 → Served = decision_served (reply4_bytes setup.part m) (λ four. record b { four = four }) in
      served_by (done d) read at (ap (request4_served setup.part m b) is_request ∙ ap done is)

-- at a moment the book of no offers has the later clock
none_at : (now clock : ℕ) → book_at now (offers_at clock no_offers) ≡ offers_at (max clock now) no_offers
none_at now clock = at-offers now clock no_offers ∙ ap (offers_at (max clock now)) (live_none key4_is_key (max clock now))

one_at : (now clock : ℕ) (k : List ℕ) (lease : Lease)
    → book_at now (offers_at clock (one_offer k lease)) ≡ offers_at (max clock now) (cond (is_live (max clock now) lease.until) (one_offer k lease) no_offers)
one_at now clock k lease = at-offers now clock (one_offer k lease) ∙ ap (offers_at (max clock now)) (live_one (max clock now) k lease)

-- ---- what is served of client n's DHCPDISCOVER with these options, from a book of one offer or none

pub held_at_159 : ((alone_step setup_a (Up 0 159 0) (with_up (discover_up 2 []) 100 (one_offer (client 1) (lease_until 160)))).effect ≡ Dropped reason.NoAddress)
unfolding listed_from fault_from
held_at_159 =
    ap (λ s. s.effect) (decided_by setup_a 159 0 (discover_up 2 []) 100 (one_offer (client 1) (lease_until 160)) _ (asks (client 2)) _ refl refl
    (one_at 159 100 (client 1) (lease_until 160)) (taken (pool4_of part_a) 159 (client 2) (client 1) (lease_until 160) refl refl))

pub over_at_160 : ((alone_step setup_a (Up 0 160 0) (with_up (discover_up 2 []) 100 (one_offer (client 1) (lease_until 160)))).effect ≡ SentDown 300)
unfolding listed_from fault_from reply4_bytes
over_at_160 =
    ap (λ s. s.effect) (decided_by setup_a 160 0 (discover_up 2 []) 100 (one_offer (client 1) (lease_until 160)) _ (asks (client 2)) _ refl refl
    (one_at 160 100 (client 1) (lease_until 160)) (fresh (pool4_of part_a) 160 (client 2) 167772170 refl))

pub clock_stays : ((alone_step setup_a (Up 0 50 0) (with_up (discover_up 1 []) 100 empty)).next.book ≡ Some (offers_at 100 (one_offer (client 1) (lease_until 160))))
unfolding listed_from fault_from
clock_stays =
    ap (λ s. s.next.book) (decided_by setup_a 50 0 (discover_up 1 []) 100 no_offers _ (asks (client 1)) _ refl refl
    (none_at 50 100) (fresh (pool4_of part_a) 100 (client 1) 167772170 refl))

pub key_of_1 : ((alone_step setup_a (Up 0 100 0) (with_up (discover_up 1 (61 ∷ 1 ∷ replicate 1 7)) 0 empty)).effect ≡ Dropped reason.ClientKey)
unfolding listed_from fault_from
key_of_1 =
    ap (λ s. s.effect) (served_by setup_a 100 0 (discover_up 1 (61 ∷ 1 ∷ replicate 1 7)) 0 no_offers _ (drop reason.ClientKey _) refl (none_at 100 0) refl)

pub key_of_2 : ((alone_step setup_a (Up 0 100 0) (with_up (discover_up 1 (61 ∷ 2 ∷ replicate 2 7)) 0 empty)).effect ≡ SentDown 300)
unfolding listed_from fault_from reply4_bytes
key_of_2 =
    ap (λ s. s.effect) (decided_by setup_a 100 0 (discover_up 1 (61 ∷ 2 ∷ replicate 2 7)) 0 no_offers _ (asks (replicate 2 7)) _ refl refl
    (none_at 100 0) (fresh (pool4_of part_a) 100 (replicate 2 7) 167772170 refl))

pub key_of_64 : ((alone_step setup_a (Up 0 100 0) (with_up (discover_up 1 (61 ∷ 64 ∷ replicate 64 7)) 0 empty)).effect ≡ SentDown 300)
unfolding listed_from fault_from reply4_bytes
key_of_64 =
    ap (λ s. s.effect) (decided_by setup_a 100 0 (discover_up 1 (61 ∷ 64 ∷ replicate 64 7)) 0 no_offers _ (asks (replicate 64 7)) _ refl refl
    (none_at 100 0) (fresh (pool4_of part_a) 100 (replicate 64 7) 167772170 refl))

pub key_of_65 : ((alone_step setup_a (Up 0 100 0) (with_up (discover_up 1 (61 ∷ 65 ∷ replicate 65 7)) 0 empty)).effect ≡ Dropped reason.ClientKey)
unfolding listed_from fault_from
key_of_65 =
    ap (λ s. s.effect) (served_by setup_a 100 0 (discover_up 1 (61 ∷ 65 ∷ replicate 65 7)) 0 no_offers _ (drop reason.ClientKey _) refl (none_at 100 0) refl)

-- ---- the network

pub none_sent : ((alone_step setup_a (Up 0 100 0) (after_all setup_a (Frame V4 (client_message 2 1 []) ∷ []) begun)).effect ≡ Gone)
unfolding alone_step after_all relayed_up4 listed_from fault_from
none_sent = refl

pub none_down : ((alone_step setup_a (Down 0) (after_all setup_a (Frame V4 (discover 1 []) ∷ []) begun)).effect ≡ Gone)
unfolding alone_step after_all relayed_up4 listed_from fault_from
none_down = refl

pub both_kept : ((after_all setup_a (Frame V4 (discover 1 []) ∷ Frame V4 (discover 2 []) ∷ []) begun).up ≡ datagram (discover_up 2 []) ∷ datagram (discover_up 1 []) ∷ [])
unfolding alone_step after_all relayed_up4 listed_from fault_from
both_kept = refl

pub oldest_lost : ((alone_step (record setup_a { quota = 1 }) (Up 1 100 0) (after_all (record setup_a { quota = 1 }) (Frame V4 (discover 1 []) ∷ Frame V4 (discover 2 []) ∷ []) begun)).effect ≡ Gone)
unfolding alone_step after_all relayed_up4 listed_from fault_from
oldest_lost = refl

pub newest_kept : ((after_all (record setup_a { quota = 1 }) (Frame V4 (discover 1 []) ∷ Frame V4 (discover 2 []) ∷ []) begun).up ≡ datagram (discover_up 2 []) ∷ [])
unfolding alone_step after_all relayed_up4 listed_from fault_from
newest_kept = refl

-- ---- a frame, its datagram up, and the reply's frame

module _ (setup : Setup) (bytes up : List ℕ) (frame : SentFrame) (sent : Alone) (s : Step) where
  three : alone_step setup (Frame V4 bytes) begun ≡ record { effect = SentUp (length up); next = sent }
      → alone_step setup (Up 0 100 0) sent ≡ s → sent_frame s.effect ≡ [] → (alone_step setup (Down 0) s.next).effect ≡ Framed frame
      → frames setup (Frame V4 bytes ∷ Up 0 100 0 ∷ Down 0 ∷ []) begun ≡ frame ∷ []
  unfolding frames
  three one two quiet last =
      ap (λ t. sent_frame t.effect ++ frames setup (Up 0 100 0 ∷ Down 0 ∷ []) t.next) one
      ∙ ap (λ t. sent_frame t.effect ++ frames setup (Down 0 ∷ []) t.next) two
      ∙ ap (λ fs. fs ++ (sent_frame (alone_step setup (Down 0) s.next).effect ++ [])) quiet
      ∙ ap (λ e. sent_frame e ++ []) last

-- a datagram up, and the reply's frame
module _ (setup : Setup) (frame : SentFrame) (sent : Alone) (s : Step) where
  two : alone_step setup (Up 0 110 0) sent ≡ s → sent_frame s.effect ≡ [] → (alone_step setup (Down 0) s.next).effect ≡ Framed frame
      → frames setup (Up 0 110 0 ∷ Down 0 ∷ []) sent ≡ frame ∷ []
  unfolding frames
  two one quiet last =
      ap (λ t. sent_frame t.effect ++ frames setup (Down 0 ∷ []) t.next) one
      ∙ ap (λ fs. fs ++ (sent_frame (alone_step setup (Down 0) s.next).effect ++ [])) quiet
      ∙ ap (λ e. sent_frame e ++ []) last

sent_a : (alone_step setup_a (Frame V4 (discover 1 [])) begun ≡ record { effect = SentUp 255; next = with_up (discover_up 1 []) 0 empty })
unfolding alone_step relayed_up4 listed_from fault_from
sent_a = refl

pub offer_a : (frames setup_a (Frame V4 (discover 1 []) ∷ Up 0 100 0 ∷ Down 0 ∷ []) begun ≡ offer 0 ∷ [])
unfolding alone_step relayed_down4 reply_of reply4_bytes listed_from fault_from
offer_a =
    three setup_a (discover 1 []) (discover_up 1 []) (offer 0) (with_up (discover_up 1 []) 0 empty) _ sent_a
    (decided_by setup_a 100 0 (discover_up 1 []) 0 no_offers _ (asks (client 1)) _ refl refl (none_at 100 0) (fresh (pool4_of part_a) 100 (client 1) 167772170 refl)) refl refl

abbrev up_a1 : List ℕ
up_a1 = relayed_discover (97 ∷ 49 ∷ []) 1 1 []

sent_a1 : (alone_step setup_a1 (Frame V4 (discover 1 [])) begun ≡ record { effect = SentUp 256; next = with_up up_a1 0 empty })
unfolding alone_step relayed_up4 listed_from fault_from
sent_a1 = refl

pub offer_a1 : (frames setup_a1 (Frame V4 (discover 1 []) ∷ Up 0 100 0 ∷ Down 0 ∷ []) begun ≡ offer 1 ∷ [])
unfolding alone_step relayed_down4 reply_of reply4_bytes listed_from fault_from
offer_a1 =
    three setup_a1 (discover 1 []) up_a1 (offer 1) (with_up up_a1 0 empty) _ sent_a1
    (decided_by setup_a1 100 0 up_a1 0 no_offers _ (asks (client 1)) _ refl refl (none_at 100 0) (fresh (pool4_of part_a1) 100 (client 1) 167772426 refl)) refl refl

-- ---- a lease: what is saved, and what a restart finds where the save failed

pub lease_kept : ((alone_step setup_a (Up 0 110 0) asked).next.kept ≡ Some leased)
unfolding listed_from fault_from
lease_kept =
    ap (λ s. s.next.kept) (decided_by setup_a 110 0 request_up 100 (one_offer (client 1) (lease_until 160)) _ selects _ refl refl
    (one_at 110 100 (client 1) (lease_until 160)) granted)

pub lease_sure : ((alone_step setup_a (Up 0 110 0) asked).next.doubt ≡ None)
unfolding listed_from fault_from
lease_sure =
    ap (λ s. s.next.doubt) (decided_by setup_a 110 0 request_up 100 (one_offer (client 1) (lease_until 160)) _ selects _ refl refl
    (one_at 110 100 (client 1) (lease_until 160)) granted)

pub ack_a : (frames setup_a (Up 0 110 0 ∷ Down 0 ∷ []) asked ≡ ack 0 ∷ [])
unfolding alone_step frames relayed_down4 reply_of reply4_bytes listed_from fault_from
ack_a =
    two setup_a (ack 0) asked _
    (decided_by setup_a 110 0 request_up 100 (one_offer (client 1) (lease_until 160)) _ selects _ refl refl
    (one_at 110 100 (client 1) (lease_until 160)) granted) refl refl

-- the last call of the save fails
save_fails : (alone_step setup_a (Up 0 110 6) asked ≡ record { effect = Dropped reason.DiskFault; next = closed })
unfolding listed_from fault_from
save_fails =
    decided_by setup_a 110 6 request_up 100 (one_offer (client 1) (lease_until 160)) _ selects _ refl refl
    (one_at 110 100 (client 1) (lease_until 160)) granted

pub save_dropped : ((alone_step setup_a (Up 0 110 6) asked).effect ≡ Dropped reason.DiskFault)
save_dropped = ap (λ s. s.effect) save_fails

pub save_closed : ((alone_step setup_a (Up 0 110 6) asked).next ≡ closed)
save_closed = ap (λ s. s.next) save_fails

abbrev after_closing : Seen → Step → Option Book
after_closing s step = (alone_step setup_a s step.next).next.book

pub save_found : ((after_all setup_a (Up 0 110 6 ∷ restart_over 0xa5 0 ∷ []) asked).book ≡ Some leased)
unfolding alone_step after_all served
save_found = ap (after_closing (restart_over 0xa5 0)) save_fails

pub save_lost : ((after_all setup_a (Up 0 110 6 ∷ restart_over 0 0 ∷ []) asked).book ≡ Some no_leases)
unfolding alone_step after_all served
save_lost = ap (after_closing (restart_over 0 0)) save_fails

-- ---- what a client gives up, and what it is refused

-- what is served of client 1's message, where the book is this one
answered_by : (now : ℕ) (bytes : List ℕ) (book b : Book) (request : Request4) (d : Decision Reply4 Book4) {m : MessageValue} → message_of bytes ≡ Ok m → request4_in m ≡ Ok request
    → book_at now book ≡ b → answer4 (pool4_of part_a) b.clock b.four request ≡ d
    → served part_a (delivery V4 part_a.relay now bytes) book ≡ decision_served (reply4_bytes part_a m) (λ four. record b { four = four }) d
unfolding served
answered_by now bytes book b request d {m} read is_request at is =
    ap (λ c. message4_served part_a c (message_of bytes)) at
    ∙ ap (message4_served part_a b) read
    ∙ ap (request4_served part_a m b) is_request
    ∙ ap (decision_served (reply4_bytes part_a m) (λ four. record b { four = four })) is

-- client 1's lease at 400, and what a row makes of it
abbrev held : Clients key4_cmp
held = one_offer (client 1) (lease_until 710)

abbrev held_book : Book4
held_book = (bound_at 400 held).four

abbrev gives_up : Kind4 → Option Addr4 → Addr4 → Request4
gives_up kind wanted ciaddr = record { kind = kind; key = client 1; server = Some (ipv4 10 0 0 1); wanted = wanted; ciaddr = ciaddr }

abbrev as_decided : Row Reply4 → Decision Reply4 Book4
as_decided r = record { answer = r.answer; book = with_change (client 1) r.change held_book; is_kept = is_kept r.change }

at_400 : book_at 400 leased ≡ bound_at 400 held
at_400 = at-bound 400 110 held ∙ ap (bound_at 400) (live_one 400 (client 1) (lease_until 710))

released : answer4 (pool4_of part_a) 400 held_book (gives_up Release None (ipv4 10 0 0 10)) ≡ as_decided (release_row (Some 167772170))
unfolding answer4
released = ap (λ o. as_decided (release_row (where_is (address_of o) (Some 167772170)))) (get-one (client 1) (lease_until 710) (client 1))

declined : answer4 (pool4_of part_a) 400 held_book (gives_up Decline (Some (ipv4 10 0 0 10)) (ipv4 0 0 0 0)) ≡ as_decided (decline_row 400 (Some 167772170))
unfolding answer4
declined = ap (λ o. as_decided (decline_row 400 (where_is (address_of o) (Some 167772170)))) (get-one (client 1) (lease_until 710) (client 1))

pub release_saved : (served part_a (delivery V4 part_a.relay 400 release_up) leased ≡ saved_silently (offers_at 400 empty))
unfolding listed_from fault_from
release_saved =
    answered_by 400 release_up leased _ (gives_up Release None (ipv4 10 0 0 10)) _ refl refl at_400 released
    ∙ ap (λ bindings. saved_silently (bound_at 400 bindings)) (remove-only key4_is_key (client 1) (lease_until 710))

pub decline_saved : (served part_a (delivery V4 part_a.relay 400 decline_up) leased ≡ saved_silently (barred_at 400 4000))
unfolding listed_from fault_from
decline_saved =
    answered_by 400 decline_up leased _ (gives_up Decline (Some (ipv4 10 0 0 10)) (ipv4 0 0 0 0)) _ refl refl at_400 declined
    ∙ ap (λ bindings. saved_silently (record (barred_at 400 4000) { four = record { bindings = bindings; offers = empty; bars = insert empty 167772170 4000 } }))
    (remove-only key4_is_key (client 1) (lease_until 710))

-- client 1 names an address outside the pool, without a server
abbrev reboots : Request4
reboots = record { kind = Request; key = client 1; server = None; wanted = Some (ipv4 10 0 0 200); ciaddr = ipv4 0 0 0 0 }

refused : answer4 (pool4_of part_a) 110 (offers_in no_offers) reboots ≡ record { answer = Ok reply.Nak; book = offers_in no_offers; is_kept = false }
unfolding answer4
refused = refl

pub nak_a : (frames setup_a (Up 0 110 0 ∷ Down 0 ∷ []) (with_up reboot_up 100 empty) ≡ nak ∷ [])
unfolding alone_step frames relayed_down4 reply_of reply4_bytes listed_from fault_from
nak_a =
    two setup_a nak (with_up reboot_up 100 no_offers) _
    (decided_by setup_a 110 0 reboot_up 100 no_offers _ reboots _ refl refl (none_at 110 100) refused) refl refl

-- ---- what is granted

lease_sent : ((alone_step setup_a (Up 0 110 0) asked).effect ≡ SentDown 300)
unfolding listed_from fault_from reply4_bytes
lease_sent =
    ap (λ s. s.effect) (decided_by setup_a 110 0 request_up 100 (one_offer (client 1) (lease_until 160)) _ selects _ refl refl
    (one_at 110 100 (client 1) (lease_until 160)) granted)

pub lease_granted : (lines setup_a (Up 0 110 0) asked ≡ Granted4 (record { client = client 1; address = 167772170; until = 710; clock = 110 }) ∷ [])
unfolding listed_from fault_from
lease_granted =
    ap (λ e. message4_lines part_a e (book_at 110 (offers_at 100 (one_offer (client 1) (lease_until 160)))) (message_of request_up)) lease_sent
    ∙ ap (λ b. message4_lines part_a (SentDown 300) b (message_of request_up)) (one_at 110 100 (client 1) (lease_until 160))
    ∙ ap (λ d. decision4_lines part_a (SentDown 300) (offers_at 110 (one_offer (client 1) (lease_until 160))) selects d) granted
