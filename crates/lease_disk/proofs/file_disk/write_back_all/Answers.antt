use Rattle.std.proofs.Common.{◌≡◌, true, slice_index_or}
use Rattle.lease_disk.specs.FileDisk.{in_doubt}
use Rattle.lease_disk.proofs.DoubtLemmas.{settled_more}
use Rattle.lease_disk.proofs.Listed.{is_there}
use Rattle.lease_disk.proofs.file_disk.write_back_all.Goals as goal

pub write_back-requires : goal.write_back-requires
write_back-requires c = c.requires (slice_index_or c.args.regions.now c.regions.index 0) (is_there c.args.regions.now c.regions.index c.regions-test.true)

pub regions-preserved : goal.regions-preserved
regions-preserved c = record {
  written = settled_more (λ q. in_doubt c.args.doubts.now q ≡ true) c.args.regions.now c.regions.index c.regions-test.true (in_doubt c.regions.unwritten) (in_doubt c.write_back.new.unwritten)
      c.regions.invariant.written c.in_ok-write_back.ensures.stay c.in_ok-write_back.ensures.written;
}
