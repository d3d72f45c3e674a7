use Rattle.std.proofs.Common.{◌≡◌, refl, sym, ap, ◌∙◌}
use Rattle.bindings_v4.specs.Kept4.{book4_in}
use Rattle.bindings_v6.specs.Kept6.{book6_in}
use Rattle.config.specs.CircuitPart.{pool4_of, pool6_of}
use Rattle.types.specs.declared.slots.Slots.{Slots}
use Rattle.circuit_server.specs.CircuitServerValue.{OpenCircuitValue, kept_slots, open_book}
use Rattle.circuit_server.specs.Leases.{book_in}
use Rattle.circuit_server.specs.Server.{kept_book}
use Rattle.circuit_server.proofs.open_circuit.OpenCircuit.saving.Goals as goal

pub returns-clause-means : goal.returns-clause-means
returns-clause-means c =
    let part = c.args.part.now in
    let inside = c.self.inside in
    let o : OpenCircuitValue = record { clock = inside.clock; four = inside.four; six = inside.six; marks = inside.marks } in
    let slots : Slots = kept_slots o in
    let pool4 : inside.four.pool ≡ pool4_of part = ap (λ (x : OpenCircuitValue). x.four.pool) c.self.view_is ∙ c.requires.0 in
    let pool6 : inside.six.pool ≡ pool6_of part = ap (λ (x : OpenCircuitValue). x.six.pool) c.self.view_is ∙ c.requires.1 in
    let means : book_in part slots ≡ kept_book (open_book o) = λ i. record {
      clock = inside.clock;
      four = (ap (λ p. book4_in p slots) (sym pool4) ∙ c.keeps_a_book.ensures.book slots refl refl) i;
      six = (ap (λ p. book6_in p slots) (sym pool6) ∙ c.keeps_a_book-2.ensures.book slots refl refl) i;
    } in
    ap (λ x. book_in part (kept_slots x)) (sym c.self.view_is) ∙ (means ∙ ap (λ x. kept_book (open_book x)) c.self.view_is)
