-- Each circuit has a book, or is closed.
use Rattle.std.proofs.Common.{◌≡◌, ℕ, zero, suc, List, [], ◌∷◌, map, refl}
use Rattle.std.specs.Prelude.{Option, Some, None, slice_get}
use Rattle.config.specs.CircuitPart.{CircuitPart}
use Rattle.circuit_server.specs.CircuitServerValue.{OpenCircuitValue, server_book}
use Rattle.circuit_server.specs.Server.{Book}
use Rattle.dispatch.specs.ServerValue.{ServerValue, books_in, with_states}

has_state : (parts : List CircuitPart) (states : List (Option OpenCircuitValue)) (c : ℕ) (part : CircuitPart) → slice_get parts c ≡ Some part
    → (b : Option Book) × (slice_get (map server_book (with_states parts states)) c ≡ Some b)
has_state [] states c part there = absurd cc
has_state (p ∷ parts) [] zero part there = (server_book (record { part = p; state = None }), refl)
has_state (p ∷ parts) (state ∷ states) zero part there = (server_book (record { part = p; state = state }), refl)
has_state (p ∷ parts) [] (suc c) part there = has_state parts [] c part there
has_state (p ∷ parts) (state ∷ states) (suc c) part there = has_state parts states c part there

pub has_book : (server : ServerValue) (c : ℕ) (part : CircuitPart) → slice_get server.topology.circuits c ≡ Some part → (b : Option Book) × (slice_get (books_in server) c ≡ Some b)
has_book server c part there = has_state server.topology.circuits server.states c part there
