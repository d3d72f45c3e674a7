-- The worked examples of DHCPv6, computed.
use Rattle.std.proofs.Common.{◌≡◌, ℕ, Bool, true, false, not, ◌&&◌, ◌||◌, List, [], ◌∷◌, ◌++◌, max, refl, ap, ◌∙◌}
use Rattle.std.specs.Prelude.{Ok, Some, None, if◌then◌else◌, is_some, ◌==◌}
use Rattle.std.specs.List.{find, list_any, range_with_len}
use Rattle.std.specs.FinMap.{get, empty, get-empty}
use Rattle.std.specs.Ordering.{nat_cmp}
use Rattle.std.specs.Option.{option_or}
use Rattle.types.specs.Addr.{number6}
use Rattle.types.specs.Delivery.{delivery}
use Rattle.types.specs.Pool6.{Pool6Value}
use Rattle.types.specs.declared.addr.Addr6.{Addr6}
use Rattle.types.specs.declared.dest.Proto.TheVariants.{V6}
use Rattle.types.specs.declared.kind6.Kind6.{Kind6}
use Rattle.types.specs.declared.kind6.Kind6.TheVariants.{Solicit, Request, Confirm, Renew, Rebind, Release, Decline}
use Rattle.exchange.specs.declared.request6.Reply6.{Reply6}
use Rattle.exchange.specs.declared.request6.Request6.{Request6}
use Rattle.exchange.specs.declared.request6.ServerId.{ServerId}
use Rattle.exchange.specs.declared.request6.ServerId.TheVariants as server_id
use Rattle.v6_options.specs.Codes.{RELAY_MESSAGE}
use Rattle.v6_options.specs.Reading.{listed_from, cut_from}
use Rattle.v6_options.specs.Spelling.{look_up}
use Rattle.v6_message.specs.Message.{MessageValue}
use Rattle.v6_message.specs.Relay.{RelayValue}
use Rattle.v6_message.specs.RelayReading.{relay_of}
use Rattle.slots.specs.Key.{key6_cmp}
use Rattle.slots.specs.KeyLaws.{key4_is_key, key6_is_key}
use Rattle.slots.specs.Maps.{Clients, Lease, address_of, live_clients}
use Rattle.slots.specs.Row.{Decision, Row, is_kept}
use Rattle.bindings_v4.specs.Book4.{book4_at}
use Rattle.bindings_v6.specs.Book6.{Book6, book6_at, empty_book, in_pool, is_free, lowest_free, where_free}
use Rattle.bindings_v6.specs.Table6.{answer6, confirm_row, decline_row, release_row, renew_row, request_row, solicit_row, where_listed, with_change}
use Rattle.config.specs.CircuitPart.{pool6_of}
use Rattle.replies.specs.Reply6.{reply6_bytes}
use Rattle.requests.specs.Request6.{request6_in}
use Rattle.circuit_server.specs.Server.{Book, book_at, decision_served, forward_served, message6_served, request6_served, served}
use Rattle.promises.specs.Examples.{no_leases, part_a}
use Rattle.promises.specs.Examples6.{message6, server_id6, ia6, timed_ia6, listed6, leased6, status6, relayed6, book6, bound6, barred6, replied6, client6, ipv6, lease6_until}
use Rattle.promises.proofs.BookLemmas.{get-only, insert-again, live-only, live_none, no_bars, no_values, remove-only}

-- ---- books

at-book6 : (now clock : ℕ) (bindings : Clients key6_cmp) → book_at now (book6 clock bindings empty) ≡ book6 (max clock now) (live_clients (max clock now) bindings) empty
unfolding book4_at book6_at
at-book6 now clock bindings =
    let t = max clock now in
    λ i. record {
      clock = t;
      four = record { bindings = live_none key4_is_key t i; offers = live_none key4_is_key t i; bars = no_bars t i };
      six = record { bindings = live_clients t bindings; bars = no_bars t i };
    }

none_at : (now : ℕ) → book_at now no_leases ≡ book6 (max 0 now) empty empty
none_at now = at-book6 now 0 empty ∙ ap (λ bindings. book6 (max 0 now) bindings empty) (live_none key6_is_key (max 0 now))

-- the client's lease is held at 400
held_at_400 : book_at 400 (book6 100 (bound6 700) empty) ≡ book6 400 (bound6 700) empty
held_at_400 = at-book6 400 100 (bound6 700) ∙ ap (λ bindings. book6 400 bindings empty) (live-only key6_is_key 400 client6 (lease6_until 700))

-- with no lease all of the pool is free
free_none : (pool : Pool6Value) (a : ℕ) → is_free pool empty_book a ≡ (in_pool pool a && true)
free_none pool a =
    ap (λ vs. in_pool pool a && not (list_any (λ (l : Lease). l.address == a) vs || is_some (get (empty {X = ℕ} {R = nat_cmp}) a))) (no_values key6_cmp)
    ∙ ap (λ o. in_pool pool a && not (is_some o)) (get-empty nat_cmp a)

-- ---- the table's rows

abbrev pool : Pool6Value
pool = pool6_of part_a

abbrev its_address : ℕ
its_address = 0x20010db8000000000000000000000100

abbrev addresses : List ℕ → List Addr6
addresses [] = []
addresses (n ∷ ns) = record { 0 = ipv6 n } ∷ addresses ns

-- a message of the client that lists these addresses
abbrev asks : Kind6 → ServerId → List ℕ → Request6
asks kind server ns = record { kind = kind; key = client6; server = server; listed = record { items = addresses ns } }

abbrev as_decided : Book6 → Row Reply6 → Decision Reply6 Book6
as_decided b row = record { answer = row.answer; book = with_change client6 row.change b; is_kept = is_kept row.change }

abbrev held : Book6
held = record { bindings = bound6 700; bars = empty }

solicited : answer6 pool 100 empty_book (asks Solicit server_id.None []) ≡ as_decided empty_book (solicit_row (Some its_address))
unfolding answer6
solicited =
    ap (λ o. as_decided empty_book (solicit_row (option_or (address_of o) (lowest_free pool empty_book)))) (get-empty key6_cmp client6)
    ∙ ap (λ (free : ℕ → Bool). as_decided empty_book (solicit_row (find free (range_with_len (number6 pool.first) 1)))) (λ i a. free_none pool a i)

requested : answer6 pool 100 empty_book (asks Request server_id.Ours (0 ∷ [])) ≡ as_decided empty_book (request_row 700 false (Some its_address))
unfolding answer6
requested =
    ap (λ o. as_decided empty_book (request_row 700 false (option_or (address_of o) (option_or (where_free pool empty_book (Some its_address)) (lowest_free pool empty_book))))) (get-empty key6_cmp client6)
    ∙ ap (λ (free : Bool). as_decided empty_book (request_row 700 false (option_or (if free then Some its_address else None) (lowest_free pool empty_book)))) (free_none pool its_address)

renewed : answer6 pool 400 held (asks Renew server_id.Ours (1 ∷ 0 ∷ [])) ≡ as_decided held (renew_row 1000 (addresses (1 ∷ 0 ∷ [])) (Some its_address))
unfolding answer6
renewed = ap (λ o. as_decided held (renew_row 1000 (addresses (1 ∷ 0 ∷ [])) (address_of o))) (get-only key6_is_key client6 (lease6_until 700) client6)

rebound : answer6 pool 400 empty_book (asks Rebind server_id.None (0 ∷ [])) ≡ as_decided empty_book (renew_row 1000 (addresses (0 ∷ [])) None)
unfolding answer6
rebound = ap (λ o. as_decided empty_book (renew_row 1000 (addresses (0 ∷ [])) (address_of o))) (get-empty key6_cmp client6)

confirmed : answer6 pool 400 held (asks Confirm server_id.None (0 ∷ [])) ≡ as_decided held (confirm_row (addresses (0 ∷ [])) false)
unfolding answer6
confirmed = refl

not_on_link : answer6 pool 400 held (asks Confirm server_id.None (1 ∷ [])) ≡ as_decided held (confirm_row (addresses (1 ∷ [])) true)
unfolding answer6
not_on_link = refl

released : answer6 pool 400 held (asks Release server_id.Ours (0 ∷ [])) ≡ as_decided held (release_row (Some its_address) true)
unfolding answer6
released = ap (λ o. as_decided held (release_row (address_of o) (where_listed (addresses (0 ∷ [])) (address_of o)))) (get-only key6_is_key client6 (lease6_until 700) client6)

declined : answer6 pool 400 held (asks Decline server_id.Ours (0 ∷ [])) ≡ as_decided held (decline_row 400 (Some its_address) true)
unfolding answer6
declined = ap (λ o. as_decided held (decline_row 400 (address_of o) (where_listed (addresses (0 ∷ [])) (address_of o)))) (get-only key6_is_key client6 (lease6_until 700) client6)

-- ---- one datagram at the server

-- what is served of a message, where the book is this one
answered_by : (now : ℕ) (message : List ℕ) (book b : Book) (request : Request6) (d : Decision Reply6 Book6) {forward : RelayValue} {m : MessageValue}
    → relay_of (relayed6 12 message) ≡ Ok forward → look_up RELAY_MESSAGE forward.options ≡ Some message → request6_in part_a.duid message ≡ Ok (m, request)
    → book_at now book ≡ b → answer6 pool b.clock b.six request ≡ d
    → served part_a (delivery V6 part_a.relay now (relayed6 12 message)) book ≡ decision_served (reply6_bytes part_a forward m request.key) (λ six. record b { six = six }) d
unfolding served
answered_by now message book b request d {forward} {m} read inside is_request at is =
    ap (λ c. forward_served part_a c (relay_of (relayed6 12 message))) at
    ∙ ap (forward_served part_a b) read
    ∙ ap (message6_served part_a forward b) inside
    ∙ ap (request6_served part_a forward b) is_request
    ∙ ap (decision_served (reply6_bytes part_a forward m request.key) (λ six. record b { six = six })) is

pub solicit_answered : (served part_a (delivery V6 part_a.relay 100 (relayed6 12 (message6 1 (ia6 [])))) no_leases ≡ replied6 (message6 2 (server_id6 ++ timed_ia6 leased6)) (book6 100 empty empty) false)
unfolding listed_from cut_from reply6_bytes
solicit_answered = answered_by 100 (message6 1 (ia6 [])) no_leases _ (asks Solicit server_id.None []) _ refl refl refl (none_at 100) solicited

pub request_answered : (served part_a (delivery V6 part_a.relay 100 (relayed6 12 (message6 3 (server_id6 ++ ia6 (listed6 0))))) no_leases ≡ replied6 (message6 7 (server_id6 ++ timed_ia6 leased6)) (book6 100 (bound6 700) empty) true)
unfolding listed_from cut_from reply6_bytes
request_answered = answered_by 100 (message6 3 (server_id6 ++ ia6 (listed6 0))) no_leases _ (asks Request server_id.Ours (0 ∷ [])) _ refl refl refl (none_at 100) requested

pub confirm_answered : (served part_a (delivery V6 part_a.relay 400 (relayed6 12 (message6 4 (ia6 (listed6 0))))) (book6 100 (bound6 700) empty) ≡ replied6 (message6 7 (server_id6 ++ status6 0)) (book6 400 (bound6 700) empty) false)
unfolding listed_from cut_from reply6_bytes
confirm_answered = answered_by 400 (message6 4 (ia6 (listed6 0))) (book6 100 (bound6 700) empty) _ (asks Confirm server_id.None (0 ∷ [])) _ refl refl refl held_at_400 confirmed

pub elsewhere_answered : (served part_a (delivery V6 part_a.relay 400 (relayed6 12 (message6 4 (ia6 (listed6 1))))) (book6 100 (bound6 700) empty) ≡ replied6 (message6 7 (server_id6 ++ status6 4)) (book6 400 (bound6 700) empty) false)
unfolding listed_from cut_from reply6_bytes
elsewhere_answered = answered_by 400 (message6 4 (ia6 (listed6 1))) (book6 100 (bound6 700) empty) _ (asks Confirm server_id.None (1 ∷ [])) _ refl refl refl held_at_400 not_on_link

pub renew_answered : (served part_a (delivery V6 part_a.relay 400 (relayed6 12 (message6 5 (server_id6 ++ ia6 (listed6 1 ++ listed6 0))))) (book6 100 (bound6 700) empty)
    ≡ replied6 (message6 7 (server_id6 ++ timed_ia6 (listed6 1 ++ leased6))) (book6 400 (bound6 1000) empty) true)
unfolding listed_from cut_from reply6_bytes
renew_answered =
    answered_by 400 (message6 5 (server_id6 ++ ia6 (listed6 1 ++ listed6 0))) (book6 100 (bound6 700) empty) _ (asks Renew server_id.Ours (1 ∷ 0 ∷ [])) _ refl refl refl held_at_400 renewed
    ∙ ap (λ bindings. replied6 (message6 7 (server_id6 ++ timed_ia6 (listed6 1 ++ leased6))) (book6 400 bindings empty) true) (insert-again key6_is_key client6 (lease6_until 700) (lease6_until 1000))

pub rebind_answered : (served part_a (delivery V6 part_a.relay 400 (relayed6 12 (message6 6 (ia6 (listed6 0))))) no_leases ≡ replied6 (message6 7 (server_id6 ++ ia6 (status6 3))) (book6 400 empty empty) false)
unfolding listed_from cut_from reply6_bytes
rebind_answered = answered_by 400 (message6 6 (ia6 (listed6 0))) no_leases _ (asks Rebind server_id.None (0 ∷ [])) _ refl refl refl (none_at 400) rebound

pub release_answered : (served part_a (delivery V6 part_a.relay 400 (relayed6 12 (message6 8 (server_id6 ++ ia6 (listed6 0))))) (book6 100 (bound6 700) empty) ≡ replied6 (message6 7 (server_id6 ++ status6 0)) (book6 400 empty empty) true)
unfolding listed_from cut_from reply6_bytes
release_answered =
    answered_by 400 (message6 8 (server_id6 ++ ia6 (listed6 0))) (book6 100 (bound6 700) empty) _ (asks Release server_id.Ours (0 ∷ [])) _ refl refl refl held_at_400 released
    ∙ ap (λ bindings. replied6 (message6 7 (server_id6 ++ status6 0)) (book6 400 bindings empty) true) (remove-only key6_is_key client6 (lease6_until 700))

pub decline_answered : (served part_a (delivery V6 part_a.relay 400 (relayed6 12 (message6 9 (server_id6 ++ ia6 (listed6 0))))) (book6 100 (bound6 700) empty) ≡ replied6 (message6 7 (server_id6 ++ status6 0)) (book6 400 empty (barred6 4000)) true)
unfolding listed_from cut_from reply6_bytes
decline_answered =
    answered_by 400 (message6 9 (server_id6 ++ ia6 (listed6 0))) (book6 100 (bound6 700) empty) _ (asks Decline server_id.Ours (0 ∷ [])) _ refl refl refl held_at_400 declined
    ∙ ap (λ bindings. replied6 (message6 7 (server_id6 ++ status6 0)) (book6 400 bindings (barred6 4000)) true) (remove-only key6_is_key client6 (lease6_until 700))
