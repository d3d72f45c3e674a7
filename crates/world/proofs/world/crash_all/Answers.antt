use Rattle.std.proofs.Common.{◌≡◌, ◌≢◌, ◌<◌, ℕ, length, ap, subst, ◌∙◌, arith, rules}
use Rattle.std.specs.Prelude.{Some, slice_get}
use Rattle.std.proofs.lemmas.Option.{slice_get_within}
use Rattle.config.specs.CircuitPart.{CircuitPart}
use Rattle.events.specs.Seen.{comeback_at}
use Rattle.lease_disk.specs.Crash.{crashed}
use Rattle.lease_disk.specs.Model.{failing_call_of, region_of, disk_region}
use Rattle.world.proofs.ServedLemmas.{by_index, not_its, spare_is_other}
use Rattle.world.proofs.WorldLemmas.{all_at}
use Rattle.world.proofs.world.crash_all.Goals as goal

pub crash-requires : goal.crash-requires
crash-requires c =
    let parts = c.args.server.now.topology.circuits in
    let there : slice_get parts c.circuits.index ≡ Some c.part.result.now = subst (λ n. slice_get parts n ≡ Some c.part.result.now) c.at-circuit.ensures c.part.ensures in
    let own = all_at (λ (part : CircuitPart). part.region < length c.args.disk.now.regions) parts c.circuits.index c.part.result.now c.requires.regions there in
    omega (arith, own, c.region-region.ensures, c.circuits.invariant.count)

pub circuits-preserved : goal.circuits-preserved
circuits-preserved c =
    let parts = c.args.server.now.topology.circuits in
    let n = c.circuits.index in
    let here = c.part.result.now in
    let there : slice_get parts n ≡ Some here = subst (λ k. slice_get parts k ≡ Some here) c.at-circuit.ensures c.part.ensures in
    let loop = c.circuits.invariant in
    let its : c.region-region.result ≡ here.region = c.region-region.ensures in
    let first = c.args.disk.now in
    let new = c.fail_at.new.self in
    let comeback : c.unwrap_or-comeback.result ≡ comeback_at n c.args.comebacks.now = search rules in
    let state : (q : ℕ) → q ≢ here.region → disk_region new q ≡ disk_region c.circuits.disk q =
    λ q ne. let other : q ≢ c.region-region.result = λ same. ne (same ∙ its) in ap region_of (c.fail_at.ensures.others.others q other) ∙ ap region_of (c.crash.ensures.others.others q other) in
    let failing_call : (q : ℕ) → q ≢ here.region → failing_call_of new q ≡ failing_call_of c.circuits.disk q =
    λ q ne. let other : q ≢ c.region-region.result = λ same. ne (same ∙ its) in c.fail_at.ensures.others.failing_calls q other ∙ c.crash.ensures.others.failing_calls q other in
    let own : disk_region new here.region ≡ crashed c.unwrap_or-comeback.result.image (disk_region c.circuits.disk here.region) =
    subst (λ r. disk_region new r ≡ crashed c.unwrap_or-comeback.result.image (disk_region c.circuits.disk r)) its (c.fail_at.ensures.state ∙ c.crash.ensures.state) in
    record {
      count = c.fail_at.ensures.others.count ∙ c.crash.ensures.others.count ∙ loop.count;
      others = record {
        region = λ r spare. state r (spare_is_other parts n here there r spare) ∙ loop.others.region r spare;
        failing_call = λ r spare. failing_call r (spare_is_other parts n here there r spare) ∙ loop.others.failing_call r spare;
      };
      done = by_index parts n here there (λ k part. disk_region new part.region ≡ crashed (comeback_at k c.args.comebacks.now).image (disk_region first part.region))
          (own ∙ (λ j. crashed (comeback j).image (loop.later n here there (omega arith) j)))
          (λ k part at less. state part.region (not_its parts n here there c.requires.differ k part at (λ same. absurd (omega (arith, less, same)))) ∙ loop.done k part at less);
      faults = by_index parts n here there (λ k part. failing_call_of new part.region ≡ (comeback_at k c.args.comebacks.now).move_fault)
          (subst (λ r. failing_call_of new r ≡ c.unwrap_or-comeback.result.move_fault) its c.fail_at.ensures.failing_call ∙ (λ j. (comeback j).move_fault))
          (λ k part at less. failing_call part.region (not_its parts n here there c.requires.differ k part at (λ same. absurd (omega (arith, less, same)))) ∙ loop.faults k part at less);
      later = λ k part at least. state part.region (not_its parts n here there c.requires.differ k part at (λ same. absurd (omega (arith, least, same)))) ∙ loop.later k part at (omega (arith, least));
    }

pub returns-clause-faults : goal.returns-clause-faults
returns-clause-faults c = λ n part there.
    let within = slice_get_within c.args.server.now.topology.circuits n part there in
    c.circuits.invariant.faults n part there (omega (arith, within, c.circuit_count-index-end.ensures, c.circuits-test.false))

pub returns-clause-crashed : goal.returns-clause-crashed
returns-clause-crashed c = λ n part there.
    let within = slice_get_within c.args.server.now.topology.circuits n part there in
    c.circuits.invariant.done n part there (omega (arith, within, c.circuit_count-index-end.ensures, c.circuits-test.false))
