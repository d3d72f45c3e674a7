use Rattle.lease_disk.specs.FileDisk.{in_doubt}
use Rattle.lease_disk.proofs.DoubtLemmas.{settled_by}
use Rattle.lease_disk.proofs.file_disk.sync_settled.Goals as goal

pub returns-clause-settled : goal.returns-clause-settled
returns-clause-settled c =
    settled_by c.args.regions.now (in_doubt c.args.doubts.now) (in_doubt c.write_back_all.new.unwritten) (in_doubt c.settle_written.new.self) c.in_ok-write_back_all.ensures
    (λ q listed. c.settle_written.ensures.settled q listed (c.requires q listed)) c.settle_written.ensures.stay
