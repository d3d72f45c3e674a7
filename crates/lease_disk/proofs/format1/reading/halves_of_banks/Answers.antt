use Rattle.std.proofs.Common.{slice_index, ap, arith, rules}
use Rattle.lease_disk.specs.Halves.{place}
use Rattle.lease_disk.proofs.Reading.{one_more}
use Rattle.lease_disk.proofs.format1.reading.halves_of_banks.Goals as goal

pub loop-i-preserved : goal.loop-i-preserved
loop-i-preserved c = record {
  size = search rules;
  so_far = one_more c.loop-i.halves (λ k. slice_index c.args.banks.now (place k)) c.loop-i.i _ (omega (arith, c.loop-i.invariant.size, c.loop-i-test.true)) (ap (slice_index c.args.banks.now) c.place.ensures.place) c.loop-i.invariant.so_far;
}
