use Rattle.std.proofs.Common.{◌≡◌, ◌<◌, ◌∙◌, false}
use Rattle.lease_disk.specs.FileDisk.{in_doubt}
use Rattle.lease_disk.proofs.DoubtLemmas.{settled_more}
use Rattle.lease_disk.proofs.Listed.{in_all}
use Rattle.lease_disk.proofs.doubts.Doubts.settle_written.Goals as goal

pub regions-preserved : goal.regions-preserved
regions-preserved c = record {
  settled = settled_more (λ q. (q < 1024) × (in_doubt c.args.unwritten.now q ≡ false)) c.args.regions.now c.regions.index c.regions-test.true (in_doubt c.regions.self) (in_doubt c.settle_if_written.new.self)
      c.regions.invariant.settled c.settle_if_written.ensures.stay (λ p. c.settle_if_written.ensures.own p.0 p.1);
  stay = λ q was. c.settle_if_written.ensures.stay q (c.regions.invariant.stay q was);
}

pub returns-clause-settled : goal.returns-clause-settled
returns-clause-settled c q listed below free =
    c.regions.invariant.settled q (in_all c.args.regions.now c.regions.index q c.regions-test.false ∙ listed) (below, free)
