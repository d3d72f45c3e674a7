-- Worked examples of DHCPv6: what a client of circuit `a` sends, what it is sent, and the books before and after.
use Rattle.std.specs.Prelude.{ℕ, Bool, List, [], ◌∷◌, ◌++◌, length, replicate, Ok}
use Rattle.std.specs.FinMap.{empty, insert}
use Rattle.types.specs.Key6.{Key6Value}
use Rattle.slots.specs.Key.{key6_cmp}
use Rattle.slots.specs.Maps.{Bars, Clients, Lease}
use Rattle.circuit_server.specs.Server.{Book, Served}
use Rattle.promises.specs.Examples.{no_leases, part_a, peer}

-- an option: code, length and value (RFC 8415, section 21.1)
abbrev pub option6 : ℕ → List ℕ → List ℕ
option6 code value = 0 ∷ code ∷ 0 ∷ length value ∷ value

-- the n-th address after 2001:db8::100, which is the only one of the pool
abbrev pub ipv6 : ℕ → List ℕ
ipv6 n = 32 ∷ 1 ∷ 13 ∷ 184 ∷ [] ++ replicate 10 0 ++ 1 ∷ n ∷ []

-- a client by its DUID and its IAID
abbrev pub client6 : Key6Value
client6 = record { duid = 0 ∷ 3 ∷ 0 ∷ 1 ∷ 2 ∷ 0 ∷ 0 ∷ 0 ∷ 0 ∷ 2 ∷ []; iaid = 1 }

-- A message of this type with transaction id 7: the client's identifier (1), and then these options.
abbrev pub message6 : ℕ → List ℕ → List ℕ
message6 kind options = kind ∷ 0 ∷ 0 ∷ 7 ∷ option6 1 client6.duid ++ options

-- this server's identifier (2)
abbrev pub server_id6 : List ℕ
server_id6 = option6 2 part_a.duid

-- an address in an IA_NA (5): as a client lists it, with lifetimes of 0, and as it is leased, with both of 600 seconds
abbrev pub listed6 : ℕ → List ℕ
listed6 n = option6 5 (ipv6 n ++ replicate 8 0)

abbrev pub leased6 : List ℕ
leased6 = option6 5 (ipv6 0 ++ 0 ∷ 0 ∷ 2 ∷ 88 ∷ 0 ∷ 0 ∷ 2 ∷ 88 ∷ [])

-- a status (13), without a text
abbrev pub status6 : ℕ → List ℕ
status6 code = option6 13 (0 ∷ code ∷ [])

-- the client's IA_NA (3): without times, and with a T1 of 300 and a T2 of 480 seconds
abbrev pub ia6 : List ℕ → List ℕ
ia6 options = option6 3 (0 ∷ 0 ∷ 0 ∷ 1 ∷ replicate 8 0 ++ options)

abbrev pub timed_ia6 : List ℕ → List ℕ
timed_ia6 options = option6 3 (0 ∷ 0 ∷ 0 ∷ 1 ∷ 0 ∷ 0 ∷ 1 ∷ 44 ∷ 0 ∷ 0 ∷ 1 ∷ 224 ∷ options)

-- The relay's datagram around a message, a Relay-forward (12), and the server's, a Relay-reply (13): no hop, link and
-- peer, the interface id (18) and the message (9).
abbrev pub relayed6 : ℕ → List ℕ → List ℕ
relayed6 kind message = kind ∷ 0 ∷ part_a.link6 ++ peer ++ option6 18 (97 ∷ []) ++ option6 9 message

-- a book of DHCPv6 alone
abbrev pub book6 : ℕ → Clients key6_cmp → Bars → Book
book6 clock bindings bars = record no_leases { clock = clock; six = record { bindings = bindings; bars = bars } }

-- 2001:db8::100 until a moment: the client's lease, and one that the client declined
abbrev pub lease6_until : ℕ → Lease
lease6_until moment = record { address = 0x20010db8000000000000000000000100; until = moment }

abbrev pub bound6 : ℕ → Clients key6_cmp
bound6 moment = insert empty client6 (lease6_until moment)

abbrev pub barred6 : ℕ → Bars
barred6 moment = insert empty 0x20010db8000000000000000000000100 moment

-- this message is sent back, with this book after it, which is saved before or not
abbrev pub replied6 : List ℕ → Book → Bool → Served
replied6 message book is_kept = record { answer = Ok (relayed6 13 message); book = book; is_kept = is_kept }
