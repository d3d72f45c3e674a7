-- What a circuit's server grants and ends in a run, datagram by datagram.
use Rattle.std.specs.Prelude.{◌≡◌, ◌≢◌, ℕ, ◌+◌, max, true, false, List, [], ◌∷◌, length, replicate, Option, Some, option_map, slice_get, Result, Ok, Err, IfSome}
use Rattle.std.specs.List.{flat_map}
use Rattle.types.specs.Addr.{number4}
use Rattle.types.specs.Delivery.{DeliveryValue}
use Rattle.types.specs.declared.dest.Proto.{Proto}
use Rattle.types.specs.declared.discard.Discard.{Discard}
use Rattle.v4_options.specs.Spelling.{look_up}
use Rattle.v4_message.specs.Spelling.{MessageValue}
use Rattle.config.specs.CircuitPart.{CircuitPart}
use Rattle.circuit_server.specs.Answered.{answered}
use Rattle.circuit_server.specs.Server.{Book, book_at, served}
use Rattle.world.specs.Alone.{Effect, Dropped, SentDown}
use Rattle.promises.specs.Books.{IsBookOf}
use Rattle.promises.specs.Granted.{ClientOf, Grant, Granted4, Line, Stands, binding_of, datagram_lines}
use Rattle.access.specs.Access.{AccessValue}
use Rattle.access.specs.Batch.{Serving, failed_in}
use Rattle.access_promises.specs.Exchanges.{AreExchanges, Exchange, book_in, own_exchanges}
use Rattle.access_promises.specs.Own.{Step, Receive, Tick, steps_in}
use Rattle.access_promises.specs.Turns.{IsRun, added}

-- A circuit of this part in a run with these exchanges. It begins closed, or with a book of its pools.
pub record IsCircuitOf (c : ℕ) (part : CircuitPart) (old new : AccessValue) (exchanges : List Exchange) : Type 0 where
  pub run : IsRun old new
  pub exchanged : AreExchanges old new exchanges
  pub at : slice_get old.topology.circuits c ≡ Some part
  pub begins : IfSome (book_in old.server c) (IsBookOf part)

-- an exchange of a circuit, and the circuit's book before and after it
pub record Transaction : Type 0 where
  pub exchange : Exchange
  pub old : Option Book
  pub new : Option Book

abbrev pub transaction : CircuitPart → Exchange → Option Book → Transaction
transaction part x book = record { exchange = x; old = book; new = (answered part x.datagram x.failed book).book }

-- A circuit's exchanges in order, each with the book that those before it and the moments of the turns and passes left.
abbrev pub transactions : CircuitPart → List Step → List Exchange → Option Book → List Transaction
transactions part [] exchanges book = []
transactions part (Tick now ∷ steps) exchanges book = transactions part steps exchanges (option_map (book_at now) book)
transactions part (Receive d ∷ steps) [] book = []
transactions part (Receive d ∷ steps) (x ∷ exchanges) book = transaction part x book ∷ transactions part steps exchanges (transaction part x book).new

-- those of circuit c in a run
abbrev pub transactions_in : ℕ → CircuitPart → AccessValue → AccessValue → List Exchange → List Transaction
transactions_in c part old new exchanges = transactions part (steps_in old.topology c (added old new)) (own_exchanges old.topology c exchanges) (book_in old.server c)

-- The transaction of a datagram of circuit c between two states of a turn or a pass. Its save failed if the device counts more failed
-- calls of the circuit's region then.
abbrev pub transaction_between : ℕ → CircuitPart → DeliveryValue → Result (List ℕ) Discard → Serving → Serving → Transaction
transaction_between c part d answer old new = record {
  exchange = record { datagram = d; failed = failed_in old new part.region; answer = answer };
  old = book_in old.server c;
  new = book_in new.server c;
}

-- the server's answer leaves, if there is one
abbrev pub effect_of : Result (List ℕ) Discard → Effect
effect_of (Ok datagram) = SentDown (length datagram)
effect_of (Err why) = Dropped why

-- what is granted by the answer that leaves, and what the client ends
abbrev pub lines_of : CircuitPart → Transaction → List Line
lines_of part t = datagram_lines part (effect_of t.exchange.answer) t.exchange.datagram.moment t.old (Some (record { proto = t.exchange.datagram.proto; bytes = t.exchange.datagram.bytes }))

abbrev pub ledger_of : CircuitPart → List Transaction → List Line
ledger_of part = flat_map (lines_of part)

-- The lease had to be saved, its save did not fail, and the book that was saved binds the address to the client for the circuit's
-- lease time, from the moment at which the request was taken, or from the circuit's clock where that is later.
pub record IsSaved (part : CircuitPart) (proto : Proto) (g : Grant (ClientOf proto)) (t : Transaction) : Type 0 where
  pub book : Book
  pub before : t.old ≡ Some book
  pub is_kept : (served part t.exchange.datagram book).is_kept ≡ true
  pub unfailed : t.exchange.failed ≡ false
  pub after : t.new ≡ Some (served part t.exchange.datagram book).book
  pub clock : g.clock ≡ max book.clock t.exchange.datagram.moment
  pub until : g.until ≡ g.clock + part.lease
  pub bound : binding_of proto (served part t.exchange.datagram book).book g.client ≡ Some (record { address = g.address; until = g.until })

-- ---- by its bytes

-- A DHCPACK (5) that leases an address: one to a DHCPINFORM has none (RFC 2131, section 4.3.5).
pub record LeasesAddress (m : MessageValue) : Type 0 where
  pub kind : look_up 53 m.options ≡ Some (5 ∷ [])
  pub address : m.header.yiaddr ≢ replicate 4 0

-- the lease of this address is granted
abbrev pub GrantsAddress : CircuitPart → Transaction → List ℕ → Type 0
GrantsAddress part t address = (g : Grant (List ℕ)) × Stands (Granted4 g) (lines_of part t) × (g.address ≡ number4 (record { 0 = address }))
