use Rattle.std.proofs.Common.{◌≡◌, ◌<◌, ◌-◌, ◌==◌, ◌||◌, ◌+◌, ℕ, Bool, List, false, length, set, take, slice_index, slice_index_or, if◌then◌else◌, refl, sym, ap, ap₂, subst, ◌∙◌}
use Rattle.std.specs.List.{list_any}
use Rattle.std.proofs.lemmas.List.{take_all}
use Rattle.lease_disk.proofs.Listed.{AreChanged, any_more, any_same, changed_all, changed_before, changed_none, changed_now, is_there, set_change}
use Rattle.lease_disk.specs.Device.{is_in}
use Rattle.lease_disk.proofs.model_disk.burn_all.Goals as goal
use Rattle.lease_disk.proofs.model_disk.burn_all.Goals.{then-not-contains, else-not-contains}

pub regions-init : goal.regions-init
regions-init c = record { failing_calls = changed_none (λ n. n - 1) c.args.regions.now (slice_index c.args.failing_calls.now); fails = refl }

pub bounds-failing_calls-from : goal.bounds-failing_calls-from
bounds-failing_calls-from c =
    subst (λ n. c.from.result < n) (sym c.regions.auto.failing_calls)
    (subst (λ r. r < length c.args.failing_calls.now) (sym c.from.ensures) (c.requires (slice_index_or c.args.regions.now c.regions.index 0) (is_there c.args.regions.now c.regions.index c.regions-test.true)))

bound : (c : goal.Joined-not-contains) → slice_index_or c.args.regions.now c.regions.index 0 < length c.regions.failing_calls
bound c =
    subst (λ n. slice_index_or c.args.regions.now c.regions.index 0 < n) (sym c.regions.auto.failing_calls)
    (c.requires (slice_index_or c.args.regions.now c.regions.index 0) (is_there c.args.regions.now c.regions.index c.regions-test.true))

pub regions-preserved : goal.regions-preserved
regions-preserved c =
    let xs = c.args.regions.now in
    let here = slice_index_or xs c.regions.index 0 in
    let old = slice_index c.args.failing_calls.now in
    let change : ℕ → ℕ = λ n. n - 1 in
    let is_last : ℕ → Bool = λ r. old r == 1 in
    let was = c.regions.invariant in
    let more = any_more is_last xs c.regions.index c.regions-test.true in
    record {
      failing_calls = elim c.if-not-contains.branch [
        | then-not-contains w ↦
            let first : is_in (take c.regions.index xs) here ≡ false = sym c.contains.ensures.value ∙ w.if-not-contains.true in
            let within : here < length c.regions.failing_calls = bound c in
            let put : set c.regions.failing_calls w.from.result w.burn-fails.new.failing_call ≡ set c.regions.failing_calls here (slice_index c.regions.failing_calls here - 1) =
            ap (set c.regions.failing_calls w.from.result) w.burn-fails.ensures.failing_call ∙ ap (λ r. set c.regions.failing_calls r (slice_index c.regions.failing_calls r - 1)) w.from.ensures in
            subst (λ (f : List ℕ). AreChanged change (take (c.regions.index + 1) xs) old (slice_index f)) (sym (w.failing_calls-is ∙ put))
            (changed_now change xs c.regions.index c.regions-test.true old (slice_index c.regions.failing_calls) was.failing_calls first (slice_index (set c.regions.failing_calls here (slice_index c.regions.failing_calls here - 1)))
            (λ q. set_change change c.regions.failing_calls here q within))
        | else-not-contains w ↦
            subst (λ (f : List ℕ). AreChanged change (take (c.regions.index + 1) xs) old (slice_index f)) (sym w.failing_calls-is)
            (changed_before change xs c.regions.index c.regions-test.true old (slice_index c.regions.failing_calls) was.failing_calls (sym c.contains.ensures.value ∙ w.if-not-contains.false))
      ];
      fails = elim c.if-not-contains.branch [
        | then-not-contains w ↦
            let first : is_in (take c.regions.index xs) here ≡ false = sym c.contains.ensures.value ∙ w.if-not-contains.true in
            let same : slice_index c.regions.failing_calls here ≡ old here = was.failing_calls here ∙ ap (λ b. if b then change (old here) else old here) first in
            w.fails-is ∙ ap₂ (λ a b. a || b) was.fails (w.burn-fails.ensures.fails ∙ ap (λ r. slice_index c.regions.failing_calls r == 1) w.from.ensures ∙ ap (λ n. n == 1) same) ∙ sym more
        | else-not-contains w ↦
            w.fails-is ∙ was.fails ∙ sym (more ∙ any_same is_last (take c.regions.index xs) here (sym c.contains.ensures.value ∙ w.if-not-contains.false))
      ];
    }

pub returns-clause-fails : goal.returns-clause-fails
returns-clause-fails c = c.regions.invariant.fails ∙ ap (list_any (λ r. slice_index c.args.failing_calls.now r == 1)) (take_all c.regions.index c.args.regions.now c.regions-test.false)

pub returns-clause-failing_calls : goal.returns-clause-failing_calls
returns-clause-failing_calls c = changed_all (λ n. n - 1) c.args.regions.now c.regions.index _ _ c.regions-test.false c.regions.invariant.failing_calls
