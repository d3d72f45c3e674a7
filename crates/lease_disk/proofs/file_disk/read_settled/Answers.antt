use Rattle.lease_disk.proofs.DoubtLemmas.{only_below}
use Rattle.lease_disk.proofs.file_disk.read_settled.Goals as goal

pub sync_settled-requires : goal.sync_settled-requires
sync_settled-requires c = only_below c.args.region 1024 c.requires.exists
