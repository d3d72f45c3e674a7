use Rattle.std.proofs.Common.{◌+◌, ℕ, subst, sym, refl}
use Rattle.timers.proofs.RowLemmas.{IsLeastUpTo, least_more}
use Rattle.timers.proofs.rows.least_of.Goals as goal

pub loop-number-preserved : goal.loop-number-preserved
loop-number-preserved c =
    let P : ℕ → Type 0 = λ least. IsLeastUpTo (c.loop-number.number-index + 1) c.args.numbers.now least in
    subst P (sym c.min-least.ensures) (least_more _ _ _ _ c.loop-number-test.true refl c.loop-number.invariant)
