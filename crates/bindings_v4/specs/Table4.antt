-- What a DHCPv4 client is answered, and what the answer changes in its circuit's book: a table, one row
-- a line, over what was looked up. The first row that fits decides. All times are in seconds.
use Rattle.std.specs.Prelude.{ℕ, ◌+◌, Bool, true, false, ◌==◌, List, Option, Some, None, option_map, if◌then◌else◌}
use Rattle.std.specs.FinMap.{get, insert, remove}
use Rattle.std.specs.Option.{option_eq, option_or}
use Rattle.slots.specs.Row.{Change, Unchanged, Offers, Withdraws, Binds, Bars, Frees, is_kept, Row, replies, drops, Decision}
use Rattle.slots.specs.Maps.{address_of}
use Rattle.types.specs.Addr.{number4, addr4, is_unspecified}
use Rattle.types.specs.declared.addr.Addr4.{Addr4}
use Rattle.types.specs.declared.discard.Discard.TheVariants as reason
use Rattle.types.specs.declared.kind4.Kind4.{Kind4}
use Rattle.types.specs.declared.kind4.Kind4.TheVariants.{Discover, Offer, Request, Decline, Ack, Nak, Release, Inform}
use Rattle.types.specs.Pool4.{PoolValue}
use Rattle.exchange.specs.declared.request4.Reply4.{Reply4}
use Rattle.exchange.specs.declared.request4.Reply4.TheVariants as reply
use Rattle.exchange.specs.declared.request4.Request4.{Request4}
use Rattle.bindings_v4.specs.declared.server4.Server4.{Server4}
use Rattle.bindings_v4.specs.declared.server4.Server4.TheVariants.{Anybody, This, Another}
use Rattle.bindings_v4.specs.Book4.{Book4, in_pool, pick}

abbrev pub with_change : List ℕ → Change → Book4 → Book4
with_change client Unchanged b = b
with_change client (Offers address until) b =
    record b { offers = insert b.offers client (record { address = address; until = until }) }
with_change client (Withdraws address) b = record b { offers = remove b.offers client }
with_change client (Binds address until) b =
    record b {
      bindings = insert b.bindings client (record { address = address; until = until });
      offers = remove b.offers client;
    }
with_change client (Bars address until) b =
    record b { bindings = remove b.bindings client; bars = insert b.bars address until }
with_change client (Frees address) b = record b { bindings = remove b.bindings client }

-- a DHCPACK of this address, which is leased until then
abbrev pub grants : ℕ → ℕ → Row Reply4
grants address until = replies (reply.Ack (addr4 address)) (Binds address until)

-- the address that a client has, where it is the one that it names
abbrev pub where_is : Option ℕ → Option ℕ → Option ℕ
where_is held named = if option_eq (λ a b. a == b) held named then held else None

-- DHCPDISCOVER (RFC 2131, section 4.3.1), by clock, pick and binding. An offer is held for 60 seconds.
abbrev pub discover_row : ℕ → Option ℕ → Option ℕ → Row Reply4
discover_row t None binding = drops reason.NoAddress Unchanged
discover_row t (Some address) (Some bound) = replies (reply.Offer (addr4 address)) Unchanged
discover_row t (Some address) None = replies (reply.Offer (addr4 address)) (Offers address (t + 60))

-- DHCPREQUEST to another server, which the client chose (RFC 2131, section 3.1, step 3), by offer
abbrev pub other_server_row : Option ℕ → Row Reply4
other_server_row None = drops reason.OtherServer Unchanged
other_server_row (Some address) = drops reason.OtherServer (Withdraws address)

-- DHCPREQUEST to this server, SELECTING (RFC 2131, section 4.3.2), by the lease's end, option 50, and
-- the binding or offer that option 50 names
abbrev pub selecting_row : ℕ → Option ℕ → Option ℕ → Row Reply4
selecting_row end None held = drops reason.NothingToSay Unchanged
selecting_row end (Some wanted) (Some address) = grants address end
selecting_row end (Some wanted) None = replies reply.Nak Unchanged

-- a client that names the address that it has, by the lease's end, whether the pool has it, and the
-- binding
abbrev pub known_address_row : ℕ → Bool → Option ℕ → ℕ → Row Reply4
known_address_row end false binding address = replies reply.Nak Unchanged
known_address_row end true (Some bound) address = if bound == address then grants bound end else replies reply.Nak Unchanged
known_address_row end true None address = drops reason.NoRecord Unchanged

-- DHCPREQUEST without option 54 (RFC 2131, section 4.3.2), by option 50 and ciaddr. RENEWING and
-- REBINDING are judged like INIT-REBOOT.
abbrev pub no_server_row : PoolValue → ℕ → Option ℕ → Option ℕ → Option ℕ → Row Reply4
no_server_row pool end binding (Some wanted) (Some ciaddr) = drops reason.NothingToSay Unchanged
no_server_row pool end binding None None = drops reason.NothingToSay Unchanged
-- INIT-REBOOT
no_server_row pool end binding (Some wanted) None = known_address_row end (in_pool pool wanted) binding wanted
-- RENEWING, REBINDING
no_server_row pool end binding None (Some ciaddr) = known_address_row end (in_pool pool ciaddr) binding ciaddr

-- DHCPDECLINE (RFC 2131, section 4.3.3), by clock and the binding that option 50 names. Nobody is given
-- the address for 3600 seconds.
abbrev pub decline_row : ℕ → Option ℕ → Row Reply4
decline_row t (Some bound) = drops reason.NothingToSay (Bars bound (t + 3600))
decline_row t None = drops reason.NothingToSay Unchanged

-- DHCPRELEASE (RFC 2131, section 4.3.4), by the binding that ciaddr names
abbrev pub release_row : Option ℕ → Row Reply4
release_row (Some bound) = drops reason.NothingToSay (Frees bound)
release_row None = drops reason.NothingToSay Unchanged

-- DHCPINFORM (RFC 2131, section 4.3.5), by ciaddr
abbrev pub inform_row : Option ℕ → Row Reply4
inform_row None = drops reason.NothingToSay Unchanged
inform_row (Some ciaddr) = replies reply.Inform Unchanged

-- What is looked up of a client: the addresses of its binding and of its offer, and its pick.
pub record Lookup : Type 0 where
  pub binding : Option ℕ
  pub offer : Option ℕ
  pub pick : Option ℕ

abbrev pub lookup_in : PoolValue → Book4 → Request4 → Lookup
lookup_in pool b m =
    record {
      binding = address_of (get b.bindings m.key);
      offer = address_of (get b.offers m.key);
      pick = pick pool b m.key (option_map number4 m.wanted);
    }

-- the address, where it is not 0.0.0.0
abbrev pub where_specified : Addr4 → Option ℕ
where_specified address = if is_unspecified address.0 then None else Some (number4 address)

-- whom a message is for, by option 54. The gateway is this server's identifier (RFC 5107, section 4).
abbrev pub server_of : PoolValue → Option Addr4 → Server4
server_of pool None = Anybody
server_of pool (Some server) = if number4 server == number4 pool.gateway then This else Another

-- The rows of each message type, by type and server.
abbrev pub row_of : PoolValue → ℕ → Lookup → Request4 → Kind4 → Server4 → Row Reply4
row_of pool t found m Discover server = discover_row t found.pick found.binding
row_of pool t found m Request Another = other_server_row found.offer
row_of pool t found m Request This =
    let wanted = option_map number4 m.wanted in
    selecting_row (t + pool.lease) wanted (option_or (where_is found.binding wanted) (where_is found.offer wanted))
row_of pool t found m Request Anybody =
    no_server_row pool (t + pool.lease) found.binding (option_map number4 m.wanted) (where_specified m.ciaddr)
row_of pool t found m Decline Another = drops reason.OtherServer Unchanged
row_of pool t found m Decline server = decline_row t (where_is found.binding (option_map number4 m.wanted))
row_of pool t found m Release Another = drops reason.OtherServer Unchanged
row_of pool t found m Release server = release_row (where_is found.binding (Some (number4 m.ciaddr)))
row_of pool t found m Inform Another = drops reason.OtherServer Unchanged
row_of pool t found m Inform server = inform_row (where_specified m.ciaddr)
-- only a server sends these
row_of pool t found m Offer server = drops reason.NotServed Unchanged
row_of pool t found m Ack server = drops reason.NotServed Unchanged
row_of pool t found m Nak server = drops reason.NotServed Unchanged

-- The row of a client's message, by pool, clock and the book at that clock.
abbrev pub row4 : PoolValue → ℕ → Book4 → Request4 → Row Reply4
row4 pool t b m = row_of pool t (lookup_in pool b m) m m.kind (server_of pool m.server)

-- The decision on a client's message, by pool, clock and the book at that clock.
unfoldable pub answer4 : PoolValue → ℕ → Book4 → Request4 → Decision Reply4 Book4
answer4 pool t b m =
    let row = row4 pool t b m in
    record { answer = row.answer; book = with_change m.key row.change b; is_kept = is_kept row.change }
