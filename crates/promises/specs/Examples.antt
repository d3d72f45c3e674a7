-- Worked examples: a circuit, frames of its clients, and what the definitions make of them.
use Rattle.std.specs.Prelude.{ℕ, ◌+◌, List, [], ◌∷◌, ◌++◌, length, take, drop, replicate, Some, None, Err, true, false}
use Rattle.std.specs.FinMap.{empty, insert}
use Rattle.types.specs.declared.addr.Addr4.{Addr4}
use Rattle.types.specs.declared.addr.Source.{Source}
use Rattle.types.specs.declared.dest.Dest.TheVariants.{Broadcast, Unicast}
use Rattle.types.specs.declared.dest.Proto.TheVariants.{V4}
use Rattle.types.specs.declared.discard.Discard.TheVariants.{NothingToSay}
use Rattle.slots.specs.Key.{key4_cmp}
use Rattle.slots.specs.Maps.{Lease, Clients}
use Rattle.bindings_v6.specs.Book6.{empty_book}
use Rattle.config.specs.Membership.{MembershipValue}
use Rattle.config.specs.CircuitPart.{CircuitPart}
use Rattle.config.specs.Topology.{Topology}
use Rattle.circuit_server.specs.Server.{Book, Served}
use Rattle.events.specs.declared.comeback.Comeback.{Comeback}
use Rattle.lease_disk.specs.declared.image.Image.TheVariants.{Unreadable}
use Rattle.lossy_net.specs.Net.{Datagram}
use Rattle.relay.specs.SentFrame.{SentFrame}
use Rattle.world.specs.Alone.{Alone, New, Setup, setup_of, start}

abbrev pub ipv4 : ℕ → ℕ → ℕ → ℕ → Addr4
ipv4 a b c d = record { 0 = a ∷ b ∷ c ∷ d ∷ [] }

abbrev pub at_port : ℕ → Source
at_port port = record { addr = ipv4 127 0 0 1; port = port }

-- circuit `a` of relay 127.0.0.1:6801: 10.0.0.1/24, the one address 10.0.0.10, ten minutes
abbrev pub part_a : CircuitPart
part_a = record {
  id = 97 ∷ [];
  relay = at_port 6801;
  region = 0;
  lease = 600;
  gateway4 = ipv4 10 0 0 1;
  prefix4 = 24;
  first4 = ipv4 10 0 0 10;
  count4 = 1;
  dns = ipv4 10 255 0 53 ∷ [];
  link6 = 32 ∷ 1 ∷ 13 ∷ 184 ∷ [] ++ replicate 11 0 ++ 1 ∷ [];
  first6 = 32 ∷ 1 ∷ 13 ∷ 184 ∷ [] ++ replicate 10 0 ++ 1 ∷ 0 ∷ [];
  count6 = 1;
  listen4 = at_port 6767;
  listen6 = at_port 6547;
  duid = 0 ∷ 3 ∷ 0 ∷ 1 ∷ 2 ∷ 0 ∷ 0 ∷ 0 ∷ 0 ∷ 1 ∷ [];
}

-- circuit `a1` beside it: 10.0.1.1/24, sixteen addresses from 10.0.1.10 on
abbrev pub part_a1 : CircuitPart
part_a1 = record part_a {
  id = 97 ∷ 49 ∷ [];
  region = 1;
  gateway4 = ipv4 10 0 1 1;
  first4 = ipv4 10 0 1 10;
  count4 = 16;
}

-- one plan has both
abbrev pub both_served : MembershipValue
both_served = record { count = 1; members = (true ∷ []) ∷ (true ∷ []) ∷ []; plan = 0 }

-- both, with relays that send from these sources
abbrev pub with_relays : List Source → Topology
with_relays relays = record { listen4 = part_a.listen4; listen6 = part_a.listen6; relays = relays; circuits = part_a ∷ part_a1 ∷ []; plans = both_served }

-- a circuit that is served, of which the network keeps 16 datagrams in each direction
abbrev pub with_quota_16 : CircuitPart → Setup
with_quota_16 part = setup_of 16 part true

abbrev pub setup_a : Setup
setup_a = with_quota_16 part_a

abbrev pub setup_a1 : Setup
setup_a1 = with_quota_16 part_a1

-- A client's message of this type: client n has the hardware address 02:00:00:00:00:n and the xid n, and
-- these options stand between the message type and the end.
abbrev pub client_message : ℕ → ℕ → List ℕ → List ℕ
client_message kind n options =
    (1 ∷ 1 ∷ 6 ∷ 0 ∷ 0 ∷ 0 ∷ 0 ∷ n ∷ []) ++ (replicate 20 0 ++ ((2 ∷ 0 ∷ 0 ∷ 0 ∷ 0 ∷ n ∷ []) ++ (replicate 202 0
    ++ ((99 ∷ 130 ∷ 83 ∷ 99 ∷ 53 ∷ 1 ∷ kind ∷ []) ++ (options ++ 255 ∷ [])))))

-- its DHCPDISCOVER (1)
abbrev pub discover : ℕ → List ℕ → List ℕ
discover n options = client_message 1 n options

-- What the relay sends up of a message from the circuit with this id and the gateway 10.0.x.1: hops 1,
-- giaddr the gateway, and option 82 with the id and the gateway.
abbrev pub relayed_message : ℕ → List ℕ → ℕ → ℕ → List ℕ → List ℕ
relayed_message kind id x n options =
    (1 ∷ 1 ∷ 6 ∷ 1 ∷ 0 ∷ 0 ∷ 0 ∷ n ∷ []) ++ (replicate 16 0 ++ ((10 ∷ 0 ∷ x ∷ 1 ∷ 2 ∷ 0 ∷ 0 ∷ 0 ∷ 0 ∷ n ∷ []) ++ (replicate 202 0
    ++ ((99 ∷ 130 ∷ 83 ∷ 99 ∷ 53 ∷ 1 ∷ kind ∷ []) ++ (options
    ++ ((82 ∷ (length id + 8) ∷ 1 ∷ length id ∷ []) ++ (id ++ 11 ∷ 4 ∷ 10 ∷ 0 ∷ x ∷ 1 ∷ 255 ∷ [])))))))

abbrev pub relayed_discover : List ℕ → ℕ → ℕ → List ℕ → List ℕ
relayed_discover id x n options = relayed_message 1 id x n options

-- from circuit `a`
abbrev pub discover_up : ℕ → List ℕ → List ℕ
discover_up n options = relayed_discover (97 ∷ []) 0 n options

-- the address of a DHCPv6 client on its link, fe80::2
abbrev pub peer : List ℕ
peer = 254 ∷ 128 ∷ replicate 13 0 ++ 2 ∷ []

-- its Solicit (1) with transaction id 7: the DUID 00 03 00 01 02 00 00 00 00 02, and an IA_NA with IAID 1
abbrev pub solicit : List ℕ
solicit = (1 ∷ 0 ∷ 0 ∷ 7 ∷ 0 ∷ 1 ∷ 0 ∷ 10 ∷ 0 ∷ 3 ∷ 0 ∷ 1 ∷ 2 ∷ 0 ∷ 0 ∷ 0 ∷ 0 ∷ 2 ∷ []) ++ ((0 ∷ 3 ∷ 0 ∷ 12 ∷ 0 ∷ 0 ∷ 0 ∷ 1 ∷ []) ++ replicate 8 0)

-- The Relay-forward (12) around it, from this link and with this interface id (18): 72 bytes and the id.
abbrev pub solicit_up : List ℕ → List ℕ → List ℕ
solicit_up link id = (12 ∷ 0 ∷ link) ++ (peer ++ ((0 ∷ 18 ∷ 0 ∷ length id ∷ id) ++ ((0 ∷ 9 ∷ 0 ∷ 34 ∷ []) ++ solicit)))

-- The frame with a reply of this type that gives client 1 the address 10.0.x.10 from 10.0.x.1: 300 bytes.
abbrev pub reply : ℕ → ℕ → SentFrame
reply kind x = record {
  dest = Unicast (2 ∷ 0 ∷ 0 ∷ 0 ∷ 0 ∷ 1 ∷ []) (ipv4 10 0 x 10);
  bytes =
      (2 ∷ 1 ∷ 6 ∷ 0 ∷ 0 ∷ 0 ∷ 0 ∷ 1 ∷ []) ++ (replicate 8 0 ++ ((10 ∷ 0 ∷ x ∷ 10 ∷ 0 ∷ 0 ∷ 0 ∷ 0 ∷ 10 ∷ 0 ∷ x ∷ 1 ∷ []) ++ ((2 ∷ 0 ∷ 0 ∷ 0 ∷ 0 ∷ 1 ∷ []) ++ (replicate 202 0
      ++ ((99 ∷ 130 ∷ 83 ∷ 99 ∷ []) ++ (
      (53 ∷ 1 ∷ kind ∷ []) ++ ((54 ∷ 4 ∷ 10 ∷ 0 ∷ x ∷ 1 ∷ []) ++ ((51 ∷ 4 ∷ 0 ∷ 0 ∷ 2 ∷ 88 ∷ []) ++ ((58 ∷ 4 ∷ 0 ∷ 0 ∷ 1 ∷ 44 ∷ []) ++ ((59 ∷ 4 ∷ 0 ∷ 0 ∷ 2 ∷ 13 ∷ [])
      ++ ((1 ∷ 4 ∷ 255 ∷ 255 ∷ 255 ∷ 0 ∷ []) ++ ((3 ∷ 4 ∷ 10 ∷ 0 ∷ x ∷ 1 ∷ []) ++ ((6 ∷ 4 ∷ 10 ∷ 255 ∷ 0 ∷ 53 ∷ []) ++ (255 ∷ [] ++ replicate 14 0))))))))))))));
}

-- its DHCPOFFER (2) and its DHCPACK (5)
abbrev pub offer : ℕ → SentFrame
offer x = reply 2 x

abbrev pub ack : ℕ → SentFrame
ack x = reply 5 x

-- client 1's DHCPREQUEST (3) of 10.0.0.10 from 10.0.0.1, from circuit `a`
abbrev pub request_up : List ℕ
request_up = relayed_message 3 (97 ∷ []) 0 1 (54 ∷ 4 ∷ 10 ∷ 0 ∷ 0 ∷ 1 ∷ 50 ∷ 4 ∷ 10 ∷ 0 ∷ 0 ∷ 10 ∷ [])

-- a message with 10.0.0.10 in bytes 12 to 15, ciaddr
abbrev pub with_ciaddr : List ℕ → List ℕ
with_ciaddr message = take 12 message ++ 10 ∷ 0 ∷ 0 ∷ 10 ∷ drop 16 message

-- client 1 gives up 10.0.0.10: its DHCPRELEASE (7), and its DHCPDECLINE (4) with the address in option 50
abbrev pub release_up : List ℕ
release_up = with_ciaddr (relayed_message 7 (97 ∷ []) 0 1 (54 ∷ 4 ∷ 10 ∷ 0 ∷ 0 ∷ 1 ∷ []))

abbrev pub decline_up : List ℕ
decline_up = relayed_message 4 (97 ∷ []) 0 1 (54 ∷ 4 ∷ 10 ∷ 0 ∷ 0 ∷ 1 ∷ 50 ∷ 4 ∷ 10 ∷ 0 ∷ 0 ∷ 10 ∷ [])

-- client 1 comes back with 10.0.0.200, which is no address of the pool, in option 50 of a DHCPREQUEST to no server
abbrev pub reboot_up : List ℕ
reboot_up = relayed_message 3 (97 ∷ []) 0 1 (50 ∷ 4 ∷ 10 ∷ 0 ∷ 0 ∷ 200 ∷ [])

-- The frame with its DHCPNAK (6), to all clients and with the broadcast flag: 300 bytes.
abbrev pub nak : SentFrame
nak = record {
  dest = Broadcast;
  bytes =
      (2 ∷ 1 ∷ 6 ∷ 0 ∷ 0 ∷ 0 ∷ 0 ∷ 1 ∷ 0 ∷ 0 ∷ 128 ∷ 0 ∷ []) ++ (replicate 12 0 ++ ((10 ∷ 0 ∷ 0 ∷ 1 ∷ 2 ∷ 0 ∷ 0 ∷ 0 ∷ 0 ∷ 1 ∷ []) ++ (replicate 202 0
      ++ ((99 ∷ 130 ∷ 83 ∷ 99 ∷ []) ++ ((53 ∷ 1 ∷ 6 ∷ []) ++ ((54 ∷ 4 ∷ 10 ∷ 0 ∷ 0 ∷ 1 ∷ []) ++ (255 ∷ [] ++ replicate 50 0)))))));
}

-- client n's key: Ethernet and its address
abbrev pub client : ℕ → List ℕ
client n = 1 ∷ 2 ∷ 0 ∷ 0 ∷ 0 ∷ 0 ∷ n ∷ []

-- a book of nothing but offers
abbrev pub offers_at : ℕ → Clients key4_cmp → Book
offers_at clock offers = record { clock = clock; four = record { bindings = empty; offers = offers; bars = empty }; six = empty_book }

-- of one offer
abbrev pub one_offer : List ℕ → Lease → Clients key4_cmp
one_offer client lease = insert empty client lease

-- 10.0.0.10 until some moment
abbrev pub lease_until : ℕ → Lease
lease_until moment = record { address = 167772170; until = moment }

abbrev pub datagram : List ℕ → Datagram
datagram bytes = record { proto = V4; bytes = bytes }

-- the book of a new region
abbrev pub no_leases : Book
no_leases = offers_at 0 empty

-- a circuit with a new region of format 2, where nothing was sent
abbrev pub begun : Alone
begun = start true 0 (Some no_leases) true

-- the same circuit where the plan in force does not have it
abbrev pub begun_off : Alone
begun_off = start false 0 (Some no_leases) true

-- one datagram towards the server, a book of offers, and nothing saved so far
abbrev pub with_up : List ℕ → ℕ → Clients key4_cmp → Alone
with_up bytes clock offers = record {
  on = true;
  up = datagram bytes ∷ [];
  down = [];
  book = Some (offers_at clock offers);
  kept = Some no_leases;
  doubt = None;
  format = New;
}

-- client 1 asks at 100 for what it is offered until 160
abbrev pub asked : Alone
asked = with_up request_up 100 (one_offer (client 1) (lease_until 160))

-- client 1 got 10.0.0.10 at 110, for ten minutes, and no offer is left
abbrev pub leased : Book
leased = record { clock = 110; four = record { bindings = one_offer (client 1) (lease_until 710); offers = empty; bars = empty }; six = empty_book }

-- no client has an address, and nobody is given 10.0.0.10 until a moment
abbrev pub barred_at : ℕ → ℕ → Book
barred_at clock until = record { clock = clock; four = record { bindings = empty; offers = empty; bars = insert empty 167772170 until }; six = empty_book }

-- nothing is answered, and this book is saved
abbrev pub saved_silently : Book → Served
saved_silently book = record { answer = Err NothingToSay; book = book; is_kept = true }

-- the same client asks where a save of its lease failed
abbrev pub closed : Alone
closed = record asked { book = None; doubt = Some leased }

-- The same circuit where the region was still of format 1, and this call of the device fails in its move.
abbrev pub begun_in_format_1 : ℕ → Alone
begun_in_format_1 fault = start true fault (Some no_leases) false

-- a region that cannot be read
abbrev pub unreadable : Comeback
unreadable = record { image = Unreadable; move_fault = 0 }

-- the circuit in which client 1 asks for what it is offered, turned off: the offer and the datagram are gone
abbrev pub turned_off : Alone
turned_off = record { on = false; up = []; down = []; book = Some (offers_at 100 empty); kept = Some no_leases; doubt = None; format = New }
