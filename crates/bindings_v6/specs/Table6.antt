-- What a DHCPv6 client is answered, and what the answer changes in its circuit's book: a table, one row a
-- line, over what was looked up. All times are in seconds.
use Rattle.std.specs.Prelude.{ℕ, ◌+◌, Bool, true, false, not, ◌==◌, List, [], ◌∷◌, slice_get, Option, option_map, Some, None, if◌then◌else◌}
use Rattle.std.specs.List.{list_any, filter}
use Rattle.std.specs.FinMap.{get, insert, remove}
use Rattle.std.specs.Option.{option_map_or}
use Rattle.slots.specs.Row.{Change, Unchanged, Binds, Bars, Frees, is_kept, Row, replies, drops, Decision}
use Rattle.slots.specs.Maps.{address_of}
use Rattle.types.specs.Addr.{number6, addr6}
use Rattle.types.specs.Key6.{Key6Value}
use Rattle.types.specs.Pool6.{Pool6Value}
use Rattle.types.specs.declared.addr.Addr6.{Addr6}
use Rattle.types.specs.declared.discard.Discard.TheVariants as reason
use Rattle.types.specs.declared.kind6.Kind6.{Kind6}
use Rattle.types.specs.declared.kind6.Kind6.TheVariants.{Solicit, Request, Confirm, Renew, Rebind, Release, Decline}
use Rattle.exchange.specs.declared.request6.Reply6.{Reply6}
use Rattle.exchange.specs.declared.request6.ReplyIa.TheVariants as reply_ia
use Rattle.exchange.specs.declared.request6.ReplyKind6.{ReplyKind6}
use Rattle.exchange.specs.declared.request6.ReplyKind6.TheVariants.{Advertise, Reply}
use Rattle.exchange.specs.declared.request6.Request6.{Request6}
use Rattle.exchange.specs.declared.request6.ServerId.{ServerId}
use Rattle.exchange.specs.declared.request6.ServerId.TheVariants as server_id
use Rattle.exchange.specs.declared.request6.Status6.{Status6}
use Rattle.exchange.specs.declared.request6.Status6.TheVariants.{Success, NoAddrsAvail, NoBinding, NotOnLink}
use Rattle.bindings_v6.specs.Book6.{Book6, in_pool, pick}

abbrev pub with_change : Key6Value → Change → Book6 → Book6
with_change client (Binds address until) b =
    record b { bindings = insert b.bindings client (record { address = address; until = until }) }
with_change client (Bars address until) b =
    record b { bindings = remove b.bindings client; bars = insert b.bars address until }
with_change client (Frees address) b = record b { bindings = remove b.bindings client }
-- DHCPv6 has no offers
with_change client change b = b

-- an IA_NA without an address, and why
abbrev pub refusal : ReplyKind6 → Status6 → Reply6
refusal kind status = record { kind = kind; status = None; ia = reply_ia.Status status }

-- an IA_NA of these addresses with lifetimes of 0, and then of the address that the client has
abbrev pub assignment : ReplyKind6 → List Addr6 → ℕ → Reply6
assignment kind zeroed address = record { kind = kind; status = None; ia = reply_ia.Given (record { items = zeroed }) (addr6 address) }

-- a status of the whole message, and no IA_NA
abbrev pub message_status : Status6 → Reply6
message_status status = record { kind = Reply; status = Some status; ia = reply_ia.None }

-- a Reply with this address, which is leased until then
abbrev pub grants : List Addr6 → ℕ → ℕ → Row Reply6
grants zeroed address until = replies (assignment Reply zeroed address) (Binds address until)

-- the listed addresses but this one, in order
abbrev pub others : ℕ → List Addr6 → List Addr6
others address listed = filter (λ x. not (number6 x == address)) listed

abbrev pub is_listed : List Addr6 → ℕ → Bool
is_listed listed address = list_any (λ x. number6 x == address) listed

-- whether a listed address is not the link's: the pool is all of the link
abbrev pub is_off_link : Pool6Value → List Addr6 → Bool
is_off_link pool listed = list_any (λ x. not (in_pool pool (number6 x))) listed

-- Solicit (RFC 8415, section 18.3.1), by pick
abbrev pub solicit_row : Option ℕ → Row Reply6
solicit_row (Some address) = replies (assignment Advertise [] address) Unchanged
solicit_row None = replies (refusal Advertise NoAddrsAvail) Unchanged

-- Request (RFC 8415, section 18.3.2), by the lease's end, whether a listed address is off the link, and pick
abbrev pub request_row : ℕ → Bool → Option ℕ → Row Reply6
request_row end true found = replies (refusal Reply NotOnLink) Unchanged
request_row end false (Some address) = grants [] address end
request_row end false None = replies (refusal Reply NoAddrsAvail) Unchanged

-- Renew and Rebind (RFC 8415, sections 18.3.4 and 18.3.5), by the lease's end, the listed addresses, and
-- the binding
abbrev pub renew_row : ℕ → List Addr6 → Option ℕ → Row Reply6
renew_row end listed (Some bound) = grants (others bound listed) bound end
renew_row end listed None = replies (refusal Reply NoBinding) Unchanged

-- Confirm (RFC 8415, section 18.3.3), by the listed addresses, and whether one is off the link
abbrev pub confirm_row : List Addr6 → Bool → Row Reply6
confirm_row [] off_link = drops reason.NothingToSay Unchanged
confirm_row (x ∷ xs) true = replies (message_status NotOnLink) Unchanged
confirm_row (x ∷ xs) false = replies (message_status Success) Unchanged

-- a client without a binding gives one up
abbrev pub no_binding : Row Reply6
no_binding = replies (record (message_status Success) { ia = reply_ia.Status NoBinding }) Unchanged

-- Release (RFC 8415, section 18.3.7), by the binding, and whether it is listed
abbrev pub release_row : Option ℕ → Bool → Row Reply6
release_row (Some bound) true = replies (message_status Success) (Frees bound)
release_row (Some bound) false = replies (message_status Success) Unchanged
release_row None listed = no_binding

-- Decline (RFC 8415, section 18.3.8), by clock, the binding, and whether it is listed. Nobody is given the
-- address for 3600 seconds.
abbrev pub decline_row : ℕ → Option ℕ → Bool → Row Reply6
decline_row t (Some bound) true = replies (message_status Success) (Bars bound (t + 3600))
decline_row t (Some bound) false = replies (message_status Success) Unchanged
decline_row t None listed = no_binding

-- What is looked up of a client: the address of its binding, and its pick.
pub record Lookup : Type 0 where
  pub binding : Option ℕ
  pub pick : Option ℕ

abbrev pub first_listed : List Addr6 → Option ℕ
first_listed listed = option_map number6 (slice_get listed 0)

abbrev pub lookup_in : Pool6Value → Book6 → Request6 → Lookup
lookup_in pool b m =
    record {
      binding = address_of (get b.bindings m.key);
      pick = pick pool b m.key (first_listed m.listed.items);
    }

abbrev pub where_listed : List Addr6 → Option ℕ → Bool
where_listed listed found = option_map_or (is_listed listed) found false

-- The rows of each message type.
abbrev pub row_of : Pool6Value → ℕ → Lookup → List Addr6 → Kind6 → Row Reply6
row_of pool t found listed Solicit = solicit_row found.pick
row_of pool t found listed Request = request_row (t + pool.lease) (is_off_link pool listed) found.pick
row_of pool t found listed Renew = renew_row (t + pool.lease) listed found.binding
row_of pool t found listed Rebind = renew_row (t + pool.lease) listed found.binding
row_of pool t found listed Confirm = confirm_row listed (is_off_link pool listed)
row_of pool t found listed Release = release_row found.binding (where_listed listed found.binding)
row_of pool t found listed Decline = decline_row t found.binding (where_listed listed found.binding)

-- Whether a message names a server as its type has to (RFC 8415, sections 16.2 and 16.4 to 16.9): none, or
-- this one.
abbrev pub is_for_us : Kind6 → ServerId → Bool
is_for_us Solicit server_id.None = true
is_for_us Confirm server_id.None = true
is_for_us Rebind server_id.None = true
is_for_us Request server_id.Ours = true
is_for_us Renew server_id.Ours = true
is_for_us Release server_id.Ours = true
is_for_us Decline server_id.Ours = true
is_for_us _ _ = false

-- The row of a client's message, by pool, clock and the book at that clock.
abbrev pub row6 : Pool6Value → ℕ → Book6 → Request6 → Row Reply6
row6 pool t b m =
    if is_for_us m.kind m.server then row_of pool t (lookup_in pool b m) m.listed.items m.kind
    else drops reason.OtherServer Unchanged

-- The decision on a client's message, by pool, clock and the book at that clock.
unfoldable pub answer6 : Pool6Value → ℕ → Book6 → Request6 → Decision Reply6 Book6
answer6 pool t b m =
    let row = row6 pool t b m in
    record { answer = row.answer; book = with_change m.key row.change b; is_kept = is_kept row.change }
