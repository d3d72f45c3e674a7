use Rattle.std.proofs.Common.{inl, inr, ◌≡◌, ◌∙◌, ◌+◌, ◌<◌, ◌≤◌, ℕ, refl, sym, subst, length, arith}
use Rattle.std.specs.Prelude.{◌⊎◌}
use Rattle.config.specs.Topology.{Topology}
use Rattle.access.specs.Access.{HasCarried}
use Rattle.access.specs.Pass.{RelaysEmptied}
use Rattle.access.proofs.CarryLemmas.{carried_port, carried_topology}
use Rattle.access.proofs.PassLemmas.{keeps_answered}
use Rattle.access.proofs.access.Access.slice.Goals as goal

pub returns-clause-slice : goal.returns-clause-slice
returns-clause-slice c =
    let frames = c.take_slice-next in
    let datagrams = c.answer_all-datagrams in
    let answers = c.empty_relays-answers in
    let (circuits, at, taken) = frames.ensures.taken in
    let kept = (keeps_answered c.args.now datagrams.result frames.new.self datagrams.new.self datagrams.ensures.answered).set_up in
    let topology = kept.topology ∙ carried_topology _ frames.result.1 _ _ taken.carried in
    let port = kept.port ∙ carried_port _ frames.result.1 _ _ taken.carried in (
      circuits,
      at,
      record {
        relayed = frames.new.self;
        served = datagrams.new.self;
        frames = frames.result.1;
        datagrams = datagrams.result;
        answers = answers.result;
        from_circuits = taken;
        at_server = datagrams.ensures.answered;
        from_relays = subst (HasCarried (RelaysEmptied c.args.self.now.topology c.args.self.now.port) answers.result datagrams.new.self) (sym c.look_after.ensures)
            (subst (λ (t : Topology). HasCarried (RelaysEmptied t c.args.self.now.port) answers.result datagrams.new.self answers.new.self) topology
            (subst (λ p. HasCarried (RelaysEmptied datagrams.new.self.topology p) answers.result datagrams.new.self answers.new.self) port answers.ensures.carried));
        count_is = refl;
      },
    )

-- a slice comes to the last circuit, or past 16
reached : (from next circuits frames many : ℕ) → next ≡ from + circuits → from + frames ≤ next → (from + circuits ≡ many) ⊎ (frames ≡ 16) → (next ≡ many) ⊎ (from + 16 ≤ next)
reached from next circuits frames many at ahead (inl end) = inl (at ∙ end)
reached from next circuits frames many at ahead (inr full) = inr (omega (arith, ahead, full))

beyond : (from next many : ℕ) → from < many → (next ≡ many) ⊎ (from + 16 ≤ next) → from < next
beyond from next many within (inl end) = omega (arith, within, end)
beyond from next many within (inr far) = omega (arith, far)

pub returns-clause-far : goal.returns-clause-far
returns-clause-far c =
    let call = c.take_slice-next in
    let (circuits, at, taken) = call.ensures.taken in
    reached c.args.from call.result.0 circuits call.result.1 (length c.args.self.now.topology.circuits) at call.ensures.ahead taken.ends

pub returns-clause-ahead : goal.returns-clause-ahead
returns-clause-ahead c = beyond c.args.from c.take_slice-next.result.0 (length c.args.self.now.topology.circuits) c.requires (returns-clause-far c)

pub returns-clause-most : goal.returns-clause-most
returns-clause-most c =
    let (circuits, at, taken) = c.take_slice-next.ensures.taken in
    let frames = taken.few in
    let datagrams = c.answer_all-datagrams.ensures.most in
    let answers = c.empty_relays-answers.ensures.most in
    omega (arith, frames, datagrams, answers)
