use Rattle.std.proofs.Common.{sym, ap, ◌∙◌, ◌<◌, subst, arith}
use Rattle.std.proofs.lemmas.List.{get_or_default}
use Rattle.lease_disk.specs.declared.saving.Saving.{Saving}
use Rattle.batch_saves.specs.Batch.{no_part}
use Rattle.batch_saves.proofs.Going.{going_next, one_more}
use Rattle.batch_saves.proofs.writes.write_parts.Goals as goal

pub parts-preserved : goal.parts-preserved
parts-preserved g c =
    let within = c.parts-test.true in
    let there = subst (λ n. c.parts.part-index < n) (sym c.parts.auto.parts) within in
    let is = get_or_default c.parts.parts c.parts.part-index c.part-item.result no_part there in
    let first = is ∙ c.parts.invariant.going.ahead c.parts.part-index (omega arith) within in
    record {
      going = going_next g.D.Disk.tells c.args.step c.args.parts.now (g.D.Disk.device c.args.disk.now) c.requires.apart c.parts.parts (g.D.Disk.device c.parts.disk) (g.D.Disk.device c.write_part.new.disk) c.parts.part-index within c.parts.invariant.going
          _ c.write_part.new.part is c.write_part.ensures.part c.write_part.ensures.frame;
      writes = one_more c.args.parts.now c.parts.part-index within _ (ap (λ (p : Saving). p.failed) first) _ _ _ c.write_part.ensures.writes c.parts.invariant.writes;
    }
