-- What makes maps a book at a clock, and what is true of every decision.
use Rattle.std.specs.Prelude.{◌≡◌, ℕ, ◌+◌, ◌<◌, ◌⊎◌, true, false, List, Some, None, Ok, IfSome, option_map}
use Rattle.std.specs.FinMap.{get, contains_key}
use Rattle.slots.specs.Maps.{Lease, address_of}
use Rattle.types.specs.Addr.{number4, addr4}
use Rattle.types.specs.declared.addr.Addr4.{Addr4}
use Rattle.types.specs.declared.kind4.Kind4.TheVariants.{Request, Decline, Release}
use Rattle.types.specs.Pool4.{PoolValue}
use Rattle.exchange.specs.declared.request4.Reply4.TheVariants as reply
use Rattle.exchange.specs.declared.request4.Request4.{Request4}
use Rattle.bindings_v4.specs.declared.server4.Server4.TheVariants.{Anybody}
use Rattle.bindings_v4.specs.Book4.{Book4, in_pool}
use Rattle.bindings_v4.specs.Table4.{where_specified, server_of, answer4}

-- What an entry of a book is: a client's binding, a client's offer, or a bar.
pub data Entry : Type 0 where
  TheBinding : List ℕ → Entry
  TheOffer : List ℕ → Entry
  TheBar : Entry

-- This entry names this address.
abbrev pub Names : Book4 → ℕ → Entry → Type 0
Names b address (TheBinding client) = address_of (get b.bindings client) ≡ Some address
Names b address (TheOffer client) = address_of (get b.offers client) ≡ Some address
Names b address TheBar = contains_key b.bars address ≡ true

pub record IsBook4 (clock : ℕ) (b : Book4) : Type 0 where
  -- every entry is live
  pub bindings : (client : List ℕ) → IfSome (get b.bindings client) (λ lease. clock < lease.until)
  pub offers : (client : List ℕ) → IfSome (get b.offers client) (λ lease. clock < lease.until)
  pub bars : (address : ℕ) → IfSome (get b.bars address) (λ until. clock < until)
  -- no address is named twice
  pub once : (address : ℕ) (x y : Entry) → Names b address x → Names b address y → x ≡ y
  -- no client has both a binding and an offer
  pub apart : (client : List ℕ) → IfSome (get b.bindings client) (λ lease. get b.offers client ≡ None)

-- Every decision leaves a book.
abbrev pub LeavesABook : PoolValue → ℕ → Request4 → Type 0
LeavesABook pool t m = (b : Book4) → IsBook4 t b → IsBook4 t (answer4 pool t b m).book

-- No decision changes another client's binding or offer.
abbrev pub KeepsOthers : PoolValue → ℕ → Request4 → Type 0
KeepsOthers pool t m =
    (b : Book4) (client : List ℕ) → (client ≡ m.key → ⊥)
    → (get (answer4 pool t b m).book.bindings client ≡ get b.bindings client)
    × (get (answer4 pool t b m).book.offers client ≡ get b.offers client)

-- A decision that keeps nothing changes offers alone.
abbrev pub ChangesOffersAlone : PoolValue → ℕ → Request4 → Type 0
ChangesOffersAlone pool t m =
    (b : Book4) → (answer4 pool t b m).is_kept ≡ false
    → ((answer4 pool t b m).book.bindings ≡ b.bindings) × ((answer4 pool t b m).book.bars ≡ b.bars)

-- A DHCPACK leases an address that nobody but the client had: no other client's entry named it, and no bar.
abbrev pub GrantsItsOwn : PoolValue → ℕ → Request4 → Type 0
GrantsItsOwn pool t m =
    (b : Book4) → IsBook4 t b → (address : Addr4) → (answer4 pool t b m).answer ≡ Ok (reply.Ack address)
    → (n : ℕ) × (address ≡ addr4 n)
    × (get (answer4 pool t b m).book.bindings m.key ≡ Some (record { address = n; until = t + pool.lease }))
    × ((x : Entry) → Names b n x → (x ≡ TheBinding m.key) ⊎ (x ≡ TheOffer m.key))

-- A client keeps its address as long as it renews in time (RFC 2131, section 4.4.5).
abbrev pub RenewsInTime : PoolValue → ℕ → Request4 → Type 0
RenewsInTime pool t m =
    (b : Book4) (address : ℕ) → m.kind ≡ Request → server_of pool m.server ≡ Anybody → m.wanted ≡ None → where_specified m.ciaddr ≡ Some address
    → in_pool pool address ≡ true → address_of (get b.bindings m.key) ≡ Some address
    → ((answer4 pool t b m).answer ≡ Ok (reply.Ack (addr4 address)))
    × (get (answer4 pool t b m).book.bindings m.key ≡ Some (record { address = address; until = t + pool.lease }))

-- The decision ends the client's lease of this address: the client declined or released it.
abbrev pub EndsLease : PoolValue → ℕ → Book4 → Request4 → List ℕ → ℕ → Type 0
EndsLease pool t b m client address =
    (m.key ≡ client) × ((answer4 pool t b m).is_kept ≡ true)
    × (((m.kind ≡ Decline) × (option_map number4 m.wanted ≡ Some address)) ⊎ ((m.kind ≡ Release) × (number4 m.ciaddr ≡ address)))

-- A client keeps its address, until the end that its lease had or for a lease from now on, unless it ends
-- the lease itself.
abbrev pub KeepsItsLease : PoolValue → ℕ → Request4 → Type 0
KeepsItsLease pool t m =
    (b : Book4) (client : List ℕ) (lease : Lease) → IsBook4 t b → get b.bindings client ≡ Some lease
    → ((until : ℕ) × ((until ≡ lease.until) ⊎ (until ≡ t + pool.lease))
    × (get (answer4 pool t b m).book.bindings client ≡ Some (record { address = lease.address; until = until })))
    ⊎ EndsLease pool t b m client lease.address
