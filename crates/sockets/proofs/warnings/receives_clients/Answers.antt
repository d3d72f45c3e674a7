use Rattle.std.proofs.Common.{inl, inr, ◌≡◌, ◌≤◌, ◌<◌, ◌⊎◌, ◌*◌, ◌%◌, ◌∙◌, sym, subst, true, arith}
use Rattle.std.proofs.lemmas.Bool.{leb-true, not-false}
use Rattle.types.specs.Addr.{is_unspecified}
use Rattle.sockets.specs.Sockets.{local_port}
use Rattle.sockets.proofs.ServiceAddressLemmas.{receives_at, same_address}
use Rattle.sockets.proofs.warnings.receives_clients.Goals as goal
use Rattle.sockets.proofs.warnings.receives_clients.Goals.{then-ne, else-ne}

pub returns-then-place-ports-clause-some : goal.returns-then-place-ports-clause-some
returns-then-place-ports-clause-some c = λ last.
    let at = c.args.at in
    let here : (at.addr ≡ (local_port 0).addr) ⊎ (is_unspecified at.addr.0 ≡ true) = elim c.if-ne.branch [
      | then-ne w ↦ inr (sym w.is_unspecified.ensures.value ∙ not-false _ (sym w.value-is ∙ c.if-not-is_unspecified.false))
      | else-ne w ↦ inl (same_address at.addr _ (not-false _ (sym c.ne.ensures ∙ w.if-ne.false)))
    ] in
    let before : c.from-place.result < 4 * c.args.circuits = subst (λ n. c.from-place.result < n * c.args.circuits) c.from-ports.ensures c.if-place-ports.true in
    let last_two : 2 ≤ c.from-place.result % 4 = subst (λ n. 2 ≤ c.from-place.result % n) c.from-ports.ensures (leb-true _ _ last) in
    receives_at c.args.port c.args.circuits at here (omega arith) (omega (arith, before)) (omega (arith, last_two))
