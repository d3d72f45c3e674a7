use Rattle.std.proofs.Common.{◌≡◌, ℕ, ◌+◌, ◌<◌, if◌then◌else◌, true, fold, suc, zero, replicate, count_by, refl, ap, ◌∙◌, arith}
use Rattle.std.specs.List.{list_any}
use Rattle.batch_saves.specs.Batch.{comes_to, step_calls}
use Rattle.batch_saves.proofs.laws.counts_calls.Goals as goal

-- a part of which no call failed came to each
counted : (c n a : ℕ) → fold (λ m k. m + (if comes_to c k then 1 else 0)) a (replicate n 0) ≡ a + n
counted c zero a = omega arith
counted c (suc n) a = counted c n (a + 1) ∙ omega arith

any : (c n : ℕ) → 0 < n → list_any (comes_to c) (replicate n 0) ≡ true
any c zero some = absurd (omega (arith, some))
any c (suc n) some = refl

calls : (c n : ℕ) → 0 < n → step_calls c (replicate n 0) ≡ n + 1
calls c n some = ap (λ b. count_by (comes_to c) (replicate n 0) + (if b then 1 else 0)) (any (c + 1) n some) ∙ ap (λ m. m + 1) (counted c n 0 ∙ omega arith)

pub returns-clause-some : goal.returns-clause-some
returns-clause-some c = λ n some.
    let one = calls 1 n some in
    let two = calls 3 n some in
    let three = calls 5 n some in
    omega (arith, one, two, three)
