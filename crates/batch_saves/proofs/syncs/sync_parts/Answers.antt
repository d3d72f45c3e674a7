use Rattle.std.proofs.Common.{add-zero, ◌≡◌, ◌==◌, ◌+◌, if◌then◌else◌, ℕ, true, false, List, is_ok, refl, sym, ap, subst, ◌∙◌, arith}
use Rattle.std.proofs.lemmas.List.{nil_from_length}
use Rattle.lease_disk.specs.Device.{is_in}
use Rattle.lease_disk.specs.declared.saving.Saving.{Saving}
use Rattle.batch_saves.specs.Batch.{part_at}
use Rattle.batch_saves.specs.Steps.{AreSaving}
use Rattle.batch_saves.proofs.Syncing.{any_found, any_none, kept_zero, none_saving, one_saving, seen_failing_call, synced_part, to_false, to_true, where_err, where_ok}
use Rattle.batch_saves.proofs.syncs.sync_parts.Goals as goal

pub returns-then-is_empty-clause-syncs : goal.returns-then-is_empty-clause-syncs
returns-then-is_empty-clause-syncs g c =
    let h = c.is_empty.ensures in
    let k = c.if-is_empty.true in
    let none = none_saving c.args.parts.now c.saving_regions-regions.result.items c.saving_regions-regions.ensures (nil_from_length c.saving_regions-regions.result.items (grind (arith, h, k))) in
    sym (ap (λ b. (g.D.Disk.device c.args.disk.now).writes + (if b then 1 else 0)) none ∙ add-zero (g.D.Disk.device c.args.disk.now).writes)

pub returns-then-is_ok-clause-syncs : goal.returns-then-is_ok-clause-syncs
returns-then-is_ok-clause-syncs g c =
    let h = c.is_empty.ensures in
    let k = c.if-is_empty.false in
    let one = one_saving c.args.parts.now c.saving_regions-regions.result.items c.saving_regions-regions.ensures (λ e. absurd (grind (arith, h, k, e))) in
    c.sync_set.ensures.writes ∙ ap (λ b. (g.D.Disk.device c.args.disk.now).writes + (if b then 1 else 0)) (sym one)

pub returns-clause-syncs : goal.returns-clause-syncs
returns-clause-syncs g c =
    let h = c.is_empty.ensures in
    let k = c.if-is_empty.false in
    let one = one_saving c.args.parts.now c.saving_regions-regions.result.items c.saving_regions-regions.ensures (λ e. absurd (grind (arith, h, k, e))) in
    c.sync_set.ensures.writes ∙ ap (λ b. (g.D.Disk.device c.args.disk.now).writes + (if b then 1 else 0)) (sym one)

pub returns-then-is_ok-clause-parts : goal.returns-then-is_ok-clause-parts
returns-then-is_ok-clause-parts g c =
    let old = g.D.Disk.device c.args.disk.now in
    let new = g.D.Disk.device c.sync_set.new.self in
    let regions = c.as_slice.result.now in
    let saving = subst (λ (rs : List ℕ). AreSaving c.args.parts.now rs) (sym c.as_slice.ensures.value) c.saving_regions-regions.ensures in
    let fine : is_ok c.sync_set.result ≡ true = sym c.is_ok.ensures.value ∙ c.if-is_ok.true in
    record {
      fails = false;
      parts = λ i within. record {
        part = refl;
        sync = synced_part g.D.Disk.tells c.args.step false c.args.parts.now regions saving c.requires.apart old new
            (λ t. where_ok c.sync_set.result fine (c.sync_set.ensures.ok t)) c.sync_set.ensures.failing_call c.sync_set.ensures.frame
            (c.sync_set.ensures.failures ∙ ap (λ b. if b then old.failures else (λ q. if is_in regions q then old.failures q + 1 else old.failures q)) fine) i within (part_at c.args.parts.now i).failed (kept_zero (part_at c.args.parts.now i).failed);
      };
      cause = λ t fails. absurd cc;
      quiet = λ t fails i within zero one.
          let none = to_true (is_ok c.sync_set.result) _ (c.sync_set.ensures.answer t) fine in
          let other : (old.failing_call (part_at c.args.parts.now i).region == 1) ≡ false = any_none (λ r. old.failing_call r == 1) regions none (part_at c.args.parts.now i).region (saving.each i within zero) in
          let is : old.failing_call (part_at c.args.parts.now i).region ≡ 1 = sym (seen_failing_call g.D.Disk.tells old (part_at c.args.parts.now i).region t) ∙ one in
          absurd (grind (arith, other, is));
    }

pub returns-clause-parts : goal.returns-clause-parts
returns-clause-parts g c =
    let old = g.D.Disk.device c.args.disk.now in
    let new = g.D.Disk.device c.sync_set.new.self in
    let regions = c.as_slice.result.now in
    let saving = subst (λ (rs : List ℕ). AreSaving c.args.parts.now rs) (sym c.as_slice.ensures.value) c.saving_regions-regions.ensures in
    let bad : is_ok c.sync_set.result ≡ false = sym c.is_ok.ensures.value ∙ c.if-is_ok.false in
    record {
      fails = true;
      parts = λ i within.
          let is = c.fail_saving.ensures i within in
          record {
            part = is ∙ ap (λ n. record (part_at c.args.parts.now i) { failed = n }) (sym (ap (λ (p : Saving). p.failed) is));
            sync = synced_part g.D.Disk.tells c.args.step true c.args.parts.now regions saving c.requires.apart old new
                (λ t. where_err c.sync_set.result bad (c.sync_set.ensures.err t)) c.sync_set.ensures.failing_call c.sync_set.ensures.frame
                (c.sync_set.ensures.failures ∙ ap (λ b. if b then old.failures else (λ q. if is_in regions q then old.failures q + 1 else old.failures q)) bad) i within _
                (ap (λ (p : Saving). p.failed) is ∙ ap (λ n. if (part_at c.args.parts.now i).failed == 0 then n + 1 else (part_at c.args.parts.now i).failed) c.call_of.ensures);
          };
      cause = λ t fails.
          let some = to_false (is_ok c.sync_set.result) _ (c.sync_set.ensures.answer t) bad in
          let found = any_found (λ r. old.failing_call r == 1) regions some in
          let there = saving.only found.0 found.1.0 in
          let is : found.0 ≡ (part_at c.args.parts.now there.0).region = sym there.1.2 in
          let one : (old.failing_call found.0 == 1) ≡ true = found.1.1 in
          let first : old.failing_call found.0 ≡ 1 = grind (arith, one) in
          (there.0, (there.1.0, there.1.1, seen_failing_call g.D.Disk.tells old (part_at c.args.parts.now there.0).region t ∙ ap old.failing_call (sym is) ∙ first));
      quiet = λ t fails. absurd cc;
    }
