use Rattle.std.proofs.Common.{inl, inr, ◌≡◌, ◌+◌, ◌∙◌, Bool, true, false, not, ℕ, sym, refl}
use Rattle.std.specs.Prelude.{◌⊎◌}
use Rattle.access.specs.Access.{AccessValue, StaysSetUp}
use Rattle.access.specs.Service.{HasKeptServing}
use Rattle.accessd.specs.Served.{HasServedAs}
use Rattle.accessd.specs.declared.serving.Serving.TheVariants as serving
use Rattle.accessd.proofs.keep_serving.Goals as goal

-- all passes of a service; their number is a variable, so that nothing computes it
by_passes : (most passes : ℕ) (old new : AccessValue) → most ≡ 18446744073709551615 → passes ≡ most → HasKeptServing passes old new → new.turns ≡ old.turns + passes → StaysSetUp old new
    → HasServedAs serving.Service 0 old new
by_passes most passes old new limit all made turns set_up = record { rounds = passes; ends = inl (refl, all ∙ limit); made = made; turns = turns; set_up = set_up }

-- a service that lost its file
by_loss : (passes : ℕ) (old new : AccessValue) → HasKeptServing passes old new → new.turns ≡ old.turns + passes → StaysSetUp old new → HasServedAs serving.Service 5 old new
by_loss passes old new made turns set_up = record { rounds = passes; ends = inr refl; made = made; turns = turns; set_up = set_up }

-- it was not over, so that all passes were made
all_made : (most passes : ℕ) (over goes : Bool) → (passes ≡ most) ⊎ (over ≡ true) → goes ≡ not over → goes ≡ true → passes ≡ most
all_made most passes over goes (inl all) is on = all
all_made most passes over goes (inr ended) is on = absurd cc

pub returns-then-goes_on-clause-served : goal.returns-then-goes_on-clause-served
returns-then-goes_on-clause-served g c =
    let served = c.keep_serving.ensures in
    by_passes 18446744073709551615 c.keep_serving.result c.args.access.now c.keep_serving.new.self refl
    (all_made 18446744073709551615 c.keep_serving.result _ c.goes_on.result served.ends c.goes_on.ensures c.if-goes_on.true) served.served served.turns served.set_up

pub returns-else-goes_on-clause-served : goal.returns-else-goes_on-clause-served
returns-else-goes_on-clause-served g c =
    let served = c.keep_serving.ensures in
    by_loss c.keep_serving.result c.args.access.now c.keep_serving.new.self served.served served.turns served.set_up
