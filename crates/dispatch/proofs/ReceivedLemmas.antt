-- A datagram of a circuit is that circuit's to answer, and changes its leases alone.
use Rattle.std.proofs.Common.{◌≡◌, ℕ, Bool, List, Ok, ap, ◌∙◌}
use Rattle.std.specs.Prelude.{Option, Some, slice_get, slice_set}
use Rattle.types.specs.Delivery.{DeliveryValue}
use Rattle.config.specs.CircuitPart.{CircuitPart}
use Rattle.config.specs.Topology.{Topology}
use Rattle.requests.specs.Addressee.{addressee}
use Rattle.circuit_server.specs.Leases.{Leases, after_datagram}
use Rattle.dispatch.specs.Received.{addressee_answered, addressee_leases, addressee_saves, circuit_answered, leases_with, received, received_leases, received_saves, with_answered}
use Rattle.circuit_server.specs.Answered.{answered, circuit_saves}
use Rattle.circuit_server.specs.Server.{Book}

module _ (topology : Topology) (d : DeliveryValue) (c : ℕ) (part : CircuitPart)
    (found : addressee topology d ≡ Ok c) (there : slice_get topology.circuits c ≡ Some part) where
  pub received_at : (fails : ℕ → Bool) (books : List (Option Book)) (book : Option Book) → slice_get books c ≡ Some book
      → received topology d fails books ≡ with_answered c books (answered part d (fails part.region) book)
  received_at fails books book its =
      ap (addressee_answered topology d fails books) found
      ∙ (λ i. circuit_answered c d fails books (there i) (its i))

  pub saves_at : (books : List (Option Book)) (book : Option Book) → slice_get books c ≡ Some book
      → received_saves topology d books ≡ circuit_saves d (Some part) (Some book)
  saves_at books book its =
      ap (addressee_saves topology d books) found
      ∙ (λ i. circuit_saves d (there i) (its i))

  pub leases_at : (faults : ℕ → ℕ) (all : List Leases) (l : Leases) → slice_get all c ≡ Some l
      → received_leases topology d faults all ≡ slice_set all c (after_datagram part d (faults part.region) l)
  leases_at faults all l its =
      ap (addressee_leases topology d faults all) found
      ∙ (λ i. leases_with c d faults all (there i) (its i))
