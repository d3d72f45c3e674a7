use Rattle.std.proofs.Common.{◌∙◌}
use Rattle.lease_disk.specs.Failures.{count_in}
use Rattle.lease_disk.specs.FileDisk.{in_doubt}
use Rattle.lease_disk.proofs.DoubtLemmas.{keeps_settled, one_fault, only_below}
use Rattle.lease_disk.proofs.file_disk.counted.Goals as goal

pub counted_all-requires : goal.counted_all-requires
counted_all-requires c = only_below c.args.region 1024 c.requires

pub returns-clause-failures : goal.returns-clause-failures
returns-clause-failures c = c.counted_all.ensures.failures ∙ one_fault c.args.region c.counted_all.result (count_in c.args.failures.now.regions)

pub returns-clause-settled : goal.returns-clause-settled
returns-clause-settled c = keeps_settled c.args.region c.counted_all.result (in_doubt c.args.doubts.now) (in_doubt c.counted_all.new.doubts) c.counted_all.ensures.doubts
