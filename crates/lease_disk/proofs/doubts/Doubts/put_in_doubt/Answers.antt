use Rattle.std.proofs.Common.{slice_index_or}
use Rattle.lease_disk.specs.FileDisk.{in_doubt}
use Rattle.lease_disk.proofs.DoubtLemmas.{listed_more}
use Rattle.lease_disk.proofs.Listed.{is_there}
use Rattle.lease_disk.proofs.doubts.Doubts.put_in_doubt.Goals as goal

pub set-requires : goal.set-requires
set-requires c = c.requires (slice_index_or c.args.regions.now c.regions.index 0) (is_there c.args.regions.now c.regions.index c.regions-test.true)

pub regions-preserved : goal.regions-preserved
regions-preserved c = record {
  listed = listed_more c.args.regions.now c.regions.index c.regions-test.true (in_doubt c.args.self.now) (in_doubt c.regions.self) (in_doubt c.set.new.self) c.regions.invariant.listed
      c.set.ensures.own c.set.ensures.others;
}
