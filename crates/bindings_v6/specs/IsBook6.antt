-- What makes maps a book at a clock, and what is true of every decision.
use Rattle.std.specs.Prelude.{◌≡◌, ℕ, ◌+◌, ◌<◌, ◌≤◌, ◌⊎◌, true, false, List, length, All, Some, Ok, IfSome}
use Rattle.std.specs.FinMap.{get, contains_key}
use Rattle.slots.specs.Maps.{Lease, address_of}
use Rattle.types.specs.Addr.{addr6}
use Rattle.types.specs.Key6.{Key6Value}
use Rattle.types.specs.declared.addr.Addr6.{Addr6}
use Rattle.types.specs.declared.kind6.Kind6.TheVariants.{Renew, Rebind, Release, Decline}
use Rattle.types.specs.Pool6.{Pool6Value}
use Rattle.exchange.specs.declared.request6.Reply6.{Reply6}
use Rattle.exchange.specs.declared.request6.ReplyIa.{ReplyIa}
use Rattle.exchange.specs.declared.request6.ReplyIa.TheVariants as ia
use Rattle.exchange.specs.declared.request6.ReplyKind6.TheVariants.{Reply}
use Rattle.exchange.specs.declared.request6.Request6.{Request6}
use Rattle.bindings_v6.specs.Book6.{Book6}
use Rattle.bindings_v6.specs.Table6.{assignment, is_listed, is_for_us, others, answer6}

-- What an entry of a book is: a client's binding, or a bar.
pub data Entry : Type 0 where
  TheBinding : Key6Value → Entry
  TheBar : Entry

-- This entry names this address.
abbrev pub Names : Book6 → ℕ → Entry → Type 0
Names b address (TheBinding client) = address_of (get b.bindings client) ≡ Some address
Names b address TheBar = contains_key b.bars address ≡ true

pub record IsBook6 (clock : ℕ) (b : Book6) : Type 0 where
  -- every entry is live
  pub bindings : (client : Key6Value) → IfSome (get b.bindings client) (λ lease. clock < lease.until)
  pub bars : (address : ℕ) → IfSome (get b.bars address) (λ until. clock < until)
  -- no address is named twice
  pub once : (address : ℕ) (x y : Entry) → Names b address x → Names b address y → x ≡ y

-- Every decision leaves a book.
abbrev pub LeavesABook : Pool6Value → ℕ → Request6 → Type 0
LeavesABook pool t m = (b : Book6) → IsBook6 t b → IsBook6 t (answer6 pool t b m).book

-- No decision changes another client's binding.
abbrev pub KeepsOthers : Pool6Value → ℕ → Request6 → Type 0
KeepsOthers pool t m =
    (b : Book6) (client : Key6Value) → (client ≡ m.key → ⊥) → get (answer6 pool t b m).book.bindings client ≡ get b.bindings client

-- A decision that keeps nothing changes nothing.
abbrev pub ChangesNothing : Pool6Value → ℕ → Request6 → Type 0
ChangesNothing pool t m = (b : Book6) → (answer6 pool t b m).is_kept ≡ false → (answer6 pool t b m).book ≡ b

-- A Reply leases an address that nobody but the client had: no other client's entry named it, and no bar.
abbrev pub GrantsItsOwn : Pool6Value → ℕ → Request6 → Type 0
GrantsItsOwn pool t m =
    (b : Book6) → IsBook6 t b → (zeroed : List Addr6) (n : ℕ) → (answer6 pool t b m).answer ≡ Ok (assignment Reply zeroed n)
    → (k : ℕ) × (addr6 n ≡ addr6 k)
    × (get (answer6 pool t b m).book.bindings m.key ≡ Some (record { address = k; until = t + pool.lease }))
    × ((x : Entry) → Names b k x → x ≡ TheBinding m.key)

-- Each address has 16 bytes.
abbrev pub AreWhole : List Addr6 → Type 0
AreWhole addresses = All (λ (a : Addr6). length a.0 ≡ 16) addresses

-- The IA_NA of a reply to a client that listed these addresses: no more are zeroed, each address is whole.
abbrev pub IsWholeIa : List Addr6 → ReplyIa → Type 0
IsWholeIa listed ia.None = Unit {0}
IsWholeIa listed (ia.Status status) = Unit {0}
IsWholeIa listed (ia.Given zeroed leased) = (length zeroed.items ≤ length listed) × (AreWhole listed → AreWhole zeroed.items) × (length leased.0 ≡ 16)

-- Every reply has such an IA_NA.
abbrev pub GivesWholeAddresses : Pool6Value → ℕ → Request6 → Type 0
GivesWholeAddresses pool t m = (b : Book6) (reply : Reply6) → (answer6 pool t b m).answer ≡ Ok reply → IsWholeIa m.listed.items reply.ia

-- A client keeps its address as long as it renews in time (RFC 8415, sections 18.2.4 and 18.2.5).
abbrev pub RenewsInTime : Pool6Value → ℕ → Request6 → Type 0
RenewsInTime pool t m =
    (b : Book6) (address : ℕ) → (m.kind ≡ Renew) ⊎ (m.kind ≡ Rebind) → is_for_us m.kind m.server ≡ true
    → address_of (get b.bindings m.key) ≡ Some address
    → ((answer6 pool t b m).answer ≡ Ok (assignment Reply (others address m.listed.items) address))
    × (get (answer6 pool t b m).book.bindings m.key ≡ Some (record { address = address; until = t + pool.lease }))

-- The decision ends the client's lease of this address: the client released or declined it.
abbrev pub EndsLease : Pool6Value → ℕ → Book6 → Request6 → Key6Value → ℕ → Type 0
EndsLease pool t b m client address =
    (m.key ≡ client) × ((answer6 pool t b m).is_kept ≡ true)
    × ((m.kind ≡ Release) ⊎ (m.kind ≡ Decline)) × (is_listed m.listed.items address ≡ true)

-- A client keeps its address, until the end that its lease had or for a lease from now on, unless it ends
-- the lease itself.
abbrev pub KeepsItsLease : Pool6Value → ℕ → Request6 → Type 0
KeepsItsLease pool t m =
    (b : Book6) (client : Key6Value) (lease : Lease) → IsBook6 t b → get b.bindings client ≡ Some lease
    → ((until : ℕ) × ((until ≡ lease.until) ⊎ (until ≡ t + pool.lease))
    × (get (answer6 pool t b m).book.bindings client ≡ Some (record { address = lease.address; until = until })))
    ⊎ EndsLease pool t b m client lease.address
