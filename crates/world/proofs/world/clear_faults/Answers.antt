use Rattle.std.proofs.Common.{◌≡◌, ◌≢◌, ℕ, Bool, true, false, List, refl, sym, ap, subst, ◌∙◌, arith}
use Rattle.std.specs.Prelude.{◌==◌, Some, slice_get, slice_index}
use Rattle.std.proofs.lemmas.Option.{slice_get_within}
use Rattle.lease_disk.specs.Model.{ModelDiskValue, SameBut, failing_call_of, region_of, disk_region}
use Rattle.lease_disk.specs.Region.{Region}
use Rattle.world.proofs.ServedLemmas.{by_index, spare_is_other}
use Rattle.world.proofs.world.clear_faults.Goals as goal

-- a failing_call that is 0 stays so where another one, or this one, is cleared
either : (new old : List ℕ) (q r : ℕ) (b : Bool) → (q == r) ≡ b → slice_index new r ≡ 0 → (q ≢ r → slice_index new q ≡ slice_index old q) → slice_index old q ≡ 0 → slice_index new q ≡ 0
either new old q r true e own others was = let same : q ≡ r = grind (arith, e) in ap (slice_index new) same ∙ own
either new old q r false e own others was = others (λ same. absurd (grind (arith, e, same))) ∙ was

-- setting a failing_call leaves every region
same_states : (old new : ModelDiskValue) (r : ℕ) → disk_region new r ≡ disk_region old r → SameBut r old new → disk_region new ≡ disk_region old
same_states old new r own same = λ j. λ q. by q (q == r) refl j where
  by : (q : ℕ) (b : Bool) → (q == r) ≡ b → disk_region new q ≡ disk_region old q
  by q true e = let is : q ≡ r = grind (arith, e) in ap (disk_region new) is ∙ own ∙ ap (disk_region old) (sym is)
  by q false e = ap region_of (same.others q (λ is. absurd (grind (arith, e, is))))

pub circuits-preserved : goal.circuits-preserved
circuits-preserved c =
    let parts = c.args.server.now.topology.circuits in
    let n = c.circuits.index in
    let here = c.part.result.now in
    let there : slice_get parts n ≡ Some here = subst (λ k. slice_get parts k ≡ Some here) c.at.ensures c.part.ensures in
    let loop = c.circuits.invariant in
    let its : c.region.result ≡ here.region = c.region.ensures in
    let new = c.fail_at.new.self in
    let failing_call : (q : ℕ) → q ≢ here.region → failing_call_of new q ≡ failing_call_of c.circuits.disk q = λ q ne. c.fail_at.ensures.others.failing_calls q (λ same. ne (same ∙ its)) in
    let own : failing_call_of new here.region ≡ 0 = subst (λ r. failing_call_of new r ≡ 0) its c.fail_at.ensures.failing_call in
    let cleared : (q : ℕ) (b : Bool) → (q == here.region) ≡ b → failing_call_of c.circuits.disk q ≡ 0 → failing_call_of new q ≡ 0 = λ q b e was. either new.failing_calls c.circuits.disk.failing_calls q here.region b e own (failing_call q) was in
    record {
      count = c.fail_at.ensures.others.count ∙ loop.count;
      reads = c.fail_at.ensures.others.reads ∙ loop.reads;
      writes = c.fail_at.ensures.others.writes ∙ loop.writes;
      others = record {
        region = λ r spare. ap (λ (regions : ℕ → Region). regions r) (same_states c.circuits.disk new c.region.result c.fail_at.ensures.state c.fail_at.ensures.others) ∙ loop.others.region r spare;
        failing_call = λ r spare. failing_call r (spare_is_other parts n here there r spare) ∙ loop.others.failing_call r spare;
      };
      states = same_states c.circuits.disk new c.region.result c.fail_at.ensures.state c.fail_at.ensures.others ∙ loop.states;
      faults = by_index parts n here there (λ k part. failing_call_of new part.region ≡ 0) own (λ k part at less. cleared part.region (part.region == here.region) refl (loop.faults k part at less));
    }

pub returns-clause-faults : goal.returns-clause-faults
returns-clause-faults c = λ n part there.
    let within = slice_get_within c.args.server.now.topology.circuits n part there in
    c.circuits.invariant.faults n part there (omega (arith, within, c.circuit_count-index-end.ensures, c.circuits-test.false))
