use Rattle.std.proofs.Common.{◌≡◌, ◌≤◌, ℕ, Ok, Err, true, length, sym, ap, subst, ◌∙◌}
use Rattle.std.specs.Prelude.{Result, IfOk, IfErr}
use Rattle.types.specs.Delivery.{DeliveryValue}
use Rattle.types.specs.declared.dest.Proto.{Proto}
use Rattle.types.specs.declared.discard.Discard.{Discard}
use Rattle.config.specs.Topology.{Topology, is_relay}
use Rattle.requests.specs.Addressee.{addressee, datagram_check}
use Rattle.requests.proofs.AddresseeLemmas.{unknown_source, too_long, within}
use Rattle.requests.proofs.relayed_message.addressee.Goals as goal

-- The tests are made of the delivery's fields.

pub returns-then-not-is_relay-clause-err : goal.returns-then-not-is_relay-clause-err
returns-then-not-is_relay-clause-err c =
    let topology = c.args.circuits.now in
    let d = c.args.delivery.now in
    unknown_source topology d (ap (λ (v : DeliveryValue). is_relay topology v.source) (sym c.delivery.view_is) ∙ sym c.is_relay.ensures ∙ c.if-not-is_relay.true)

pub returns-then-delivery-gt-MAX_DATAGRAM-clause-err : goal.returns-then-delivery-gt-MAX_DATAGRAM-clause-err
returns-then-delivery-gt-MAX_DATAGRAM-clause-err c =
    let topology = c.args.circuits.now in
    ap (addressee topology) (sym c.delivery.view_is)
    ∙ too_long topology _ (sym c.is_relay.ensures ∙ c.if-not-is_relay.false) c.if-delivery-gt-MAX_DATAGRAM.true

-- what a datagram that passes both tests is
by_proto : (topology : Topology) (d view : DeliveryValue) (proto : Proto)
    → view ≡ d → is_relay topology view.source ≡ true → length view.bytes ≤ 1280 → view.proto ≡ proto
    → addressee topology d ≡ datagram_check topology proto view.source view.bytes
by_proto topology d view proto same known short is =
    ap (addressee topology) (sym same) ∙ within topology view known short ∙ ap (λ p. datagram_check topology p view.source view.bytes) is

pub returns-in-V4-clause-circuit : goal.returns-in-V4-clause-circuit
returns-in-V4-clause-circuit c =
    subst (λ (check : Result ℕ Discard). IfOk c.addressee4.result (λ found. check ≡ Ok found.0))
    (sym (by_proto c.args.circuits.now c.args.delivery.now _ _ c.delivery.view_is (sym c.is_relay.ensures ∙ c.if-not-is_relay.false) c.if-delivery-gt-MAX_DATAGRAM.false c.in-V4.is))
    c.addressee4.ensures.circuit

pub returns-in-V4-clause-err : goal.returns-in-V4-clause-err
returns-in-V4-clause-err c =
    subst (λ (check : Result ℕ Discard). IfErr c.addressee4.result (λ why. check ≡ Err why))
    (sym (by_proto c.args.circuits.now c.args.delivery.now _ _ c.delivery.view_is (sym c.is_relay.ensures ∙ c.if-not-is_relay.false) c.if-delivery-gt-MAX_DATAGRAM.false c.in-V4.is))
    c.addressee4.ensures.err

pub returns-in-V6-clause-circuit : goal.returns-in-V6-clause-circuit
returns-in-V6-clause-circuit c =
    subst (λ (check : Result ℕ Discard). IfOk c.addressee6.result (λ found. check ≡ Ok found.0))
    (sym (by_proto c.args.circuits.now c.args.delivery.now _ _ c.delivery.view_is (sym c.is_relay.ensures ∙ c.if-not-is_relay.false) c.if-delivery-gt-MAX_DATAGRAM.false c.in-V6.is))
    c.addressee6.ensures.circuit

pub returns-in-V6-clause-err : goal.returns-in-V6-clause-err
returns-in-V6-clause-err c =
    subst (λ (check : Result ℕ Discard). IfErr c.addressee6.result (λ why. check ≡ Err why))
    (sym (by_proto c.args.circuits.now c.args.delivery.now _ _ c.delivery.view_is (sym c.is_relay.ensures ∙ c.if-not-is_relay.false) c.if-delivery-gt-MAX_DATAGRAM.false c.in-V6.is))
    c.addressee6.ensures.err
