use Rattle.std.proofs.Common.{◌≡◌, true, false, Ok, Err, sym, ap, ◌∙◌, subst}
use Rattle.std.specs.Prelude.{IfOk, IfErr, Result}
use Rattle.types.specs.declared.dest.Proto.TheVariants.{V4, V6}
use Rattle.types.specs.declared.discard.Discard.{Discard}
use Rattle.types.specs.Addr.{same_source}
use Rattle.relay.specs.Relays.{CircuitFrame}
use Rattle.relay.proofs.RelaysLemmas.{by_proto, is_v4, is_v6, from_elsewhere}
use Rattle.relay.proofs.relays.Relays.down.Goals as goal

pub returns-then-eq-clause-ok : goal.returns-then-eq-clause-ok
returns-then-eq-clause-ok c =
    let topology = c.args.self.now.topology in
    let four : same_source c.args.source topology.listen4 ≡ true = ap (λ v. same_source c.args.source v.topology.listen4) (sym c.self.view_is) ∙ ap (same_source c.args.source) (sym c.listen4.ensures) ∙ sym c.eq.ensures ∙ c.if-eq.true in
    let P : Result CircuitFrame Discard → Type 0 = λ r. IfOk c.down4.result (λ sent. r ≡ Ok (record { circuit = sent.0; frame = record { dest = sent.1; bytes = c.down4.new.out } })) in
    subst P (sym (by_proto topology c.args.relay c.args.source c.args.bytes.now V4 (is_v4 topology c.args.source four))) c.down4.ensures.ok

pub returns-then-eq-clause-err : goal.returns-then-eq-clause-err
returns-then-eq-clause-err c =
    let topology = c.args.self.now.topology in
    let four : same_source c.args.source topology.listen4 ≡ true = ap (λ v. same_source c.args.source v.topology.listen4) (sym c.self.view_is) ∙ ap (same_source c.args.source) (sym c.listen4.ensures) ∙ sym c.eq.ensures ∙ c.if-eq.true in
    let P : Result CircuitFrame Discard → Type 0 = λ r. IfErr c.down4.result (λ why. r ≡ Err why) in
    subst P (sym (by_proto topology c.args.relay c.args.source c.args.bytes.now V4 (is_v4 topology c.args.source four))) c.down4.ensures.err

pub returns-then-eq-2-clause-ok : goal.returns-then-eq-2-clause-ok
returns-then-eq-2-clause-ok c =
    let topology = c.args.self.now.topology in
    let four : same_source c.args.source topology.listen4 ≡ false = ap (λ v. same_source c.args.source v.topology.listen4) (sym c.self.view_is) ∙ ap (same_source c.args.source) (sym c.listen4.ensures) ∙ sym c.eq.ensures ∙ c.if-eq.false in
    let six : same_source c.args.source topology.listen6 ≡ true = ap (λ v. same_source c.args.source v.topology.listen6) (sym c.self.view_is) ∙ ap (same_source c.args.source) (sym c.listen6.ensures) ∙ sym c.eq-2.ensures ∙ c.if-eq-2.true in
    let P : Result CircuitFrame Discard → Type 0 = λ r. IfOk c.down6.result (λ sent. r ≡ Ok (record { circuit = sent.0; frame = record { dest = sent.1; bytes = c.down6.new.out } })) in
    subst P (sym (by_proto topology c.args.relay c.args.source c.args.bytes.now V6 (is_v6 topology c.args.source four six))) c.down6.ensures.ok

pub returns-then-eq-2-clause-err : goal.returns-then-eq-2-clause-err
returns-then-eq-2-clause-err c =
    let topology = c.args.self.now.topology in
    let four : same_source c.args.source topology.listen4 ≡ false = ap (λ v. same_source c.args.source v.topology.listen4) (sym c.self.view_is) ∙ ap (same_source c.args.source) (sym c.listen4.ensures) ∙ sym c.eq.ensures ∙ c.if-eq.false in
    let six : same_source c.args.source topology.listen6 ≡ true = ap (λ v. same_source c.args.source v.topology.listen6) (sym c.self.view_is) ∙ ap (same_source c.args.source) (sym c.listen6.ensures) ∙ sym c.eq-2.ensures ∙ c.if-eq-2.true in
    let P : Result CircuitFrame Discard → Type 0 = λ r. IfErr c.down6.result (λ why. r ≡ Err why) in
    subst P (sym (by_proto topology c.args.relay c.args.source c.args.bytes.now V6 (is_v6 topology c.args.source four six))) c.down6.ensures.err

pub returns-clause-err : goal.returns-clause-err
returns-clause-err c =
    let topology = c.args.self.now.topology in
    let four : same_source c.args.source topology.listen4 ≡ false = ap (λ v. same_source c.args.source v.topology.listen4) (sym c.self.view_is) ∙ ap (same_source c.args.source) (sym c.listen4.ensures) ∙ sym c.eq.ensures ∙ c.if-eq.false in
    let six : same_source c.args.source topology.listen6 ≡ false = ap (λ v. same_source c.args.source v.topology.listen6) (sym c.self.view_is) ∙ ap (same_source c.args.source) (sym c.listen6.ensures) ∙ sym c.eq-2.ensures ∙ c.if-eq-2.false in
    from_elsewhere topology c.args.relay c.args.source c.args.bytes.now four six
