-- Several datagrams, one after the other. Only a law needs this.
use Rattle.std.specs.Prelude.{◌≡◌, ℕ, Bool, false, List, [], ◌∷◌, take, Option, Some, slice_get, Result, Ok}
use Rattle.types.specs.Delivery.{DeliveryValue}
use Rattle.types.specs.declared.discard.Discard.{Discard}
use Rattle.config.specs.Topology.{Topology}
use Rattle.requests.specs.Addressee.{addressee}
use Rattle.circuit_server.specs.Server.{Book}
use Rattle.dispatch.specs.Batch.{is_named}
use Rattle.dispatch.specs.Received.{received}

-- no two of these are of one circuit
abbrev pub AreOfOthers : Topology → List DeliveryValue → Type 0
AreOfOthers topology ds = (j c : ℕ) (d : DeliveryValue) → slice_get ds j ≡ Some d → addressee topology d ≡ Ok c → is_named topology (take j ds) c ≡ false

-- the answers to these, and the books after them
abbrev pub answers_to : Topology → (ℕ → Bool) → List DeliveryValue → List (Option Book) → List (Result (List ℕ) Discard)
answers_to topology fails [] books = []
answers_to topology fails (d ∷ ds) books = (received topology d fails books).answer ∷ answers_to topology fails ds (received topology d fails books).books

abbrev pub books_after : Topology → (ℕ → Bool) → List DeliveryValue → List (Option Book) → List (Option Book)
books_after topology fails [] books = books
books_after topology fails (d ∷ ds) books = books_after topology fails ds (received topology d fails books).books
