use Rattle.std.proofs.Common.{◌≡◌, ◌+◌, ℕ, ◌==◌, if◌then◌else◌, take, slice_index_or, List, sym, ap, subst, ◌∙◌}
use Rattle.lease_disk.specs.Failures.{count_in}
use Rattle.lease_disk.specs.declared.failures.Failures.{Failures}
use Rattle.lease_disk.proofs.Listed.{AreChanged, changed_all, changed_before, changed_none, changed_now, either_way}
use Rattle.lease_disk.proofs.failures.Failures.note_all.Goals as goal
use Rattle.lease_disk.proofs.failures.Failures.note_all.Goals.{then-not-contains, else-not-contains}

pub regions-init : goal.regions-init
regions-init c = record { changed = changed_none (λ n. n + 1) c.args.regions.now (count_in c.args.self.now.regions) }

pub regions-preserved : goal.regions-preserved
regions-preserved c =
    let xs = c.args.regions.now in
    let here = slice_index_or xs c.regions.index 0 in
    let old = count_in c.args.self.now.regions in
    let now = count_in c.regions.self.regions in
    let change : ℕ → ℕ = λ n. n + 1 in
    let done = c.regions.invariant.changed in
    let P : Failures → Type 0 = λ f. AreChanged change (take (c.regions.index + 1) xs) old (count_in f.regions) in
    record {
      changed = elim c.if-not-contains.branch [
        | then-not-contains w ↦
            let puts : (q : ℕ) → count_in w.note.new.self.regions q ≡ (if here == q then now q + 1 else now q) =
            λ q. ap (λ (rs : List ℕ). count_in rs q) w.note.ensures ∙ ap (λ b. if b then now q + 1 else now q) (either_way q here) in
            subst P (sym w.self-is) (changed_now change xs c.regions.index c.regions-test.true old now done (sym c.contains.ensures.value ∙ w.if-not-contains.true) (count_in w.note.new.self.regions) puts)
        | else-not-contains w ↦
            subst P (sym w.self-is) (changed_before change xs c.regions.index c.regions-test.true old now done (sym c.contains.ensures.value ∙ w.if-not-contains.false))
      ];
    }

pub returns : goal.returns
returns c = changed_all (λ n. n + 1) c.args.regions.now c.regions.index _ _ c.regions-test.false c.regions.invariant.changed
