use Rattle.std.proofs.Common.{◌≡◌, ◌+◌, ◌<◌, ◌≤◌, sym, subst, arith, refl}
use Rattle.std.specs.Prelude.{Some, slice_get}
use Rattle.std.proofs.lemmas.Option.{slice_get_within}
use Rattle.dispatch.proofs.RegionLemmas.{Regions, region_raised, region_kept}
use Rattle.dispatch.proofs.regions.region_count.Goals.{then-needed-regions, else-needed-regions}
use Rattle.dispatch.proofs.regions.region_count.Goals as goal

pub returns-clause-enough : goal.returns-clause-enough
returns-clause-enough c = λ n circuit there.
    let within = slice_get_within c.args.config.now.circuits n circuit there in
    let before : n < c.loop-index.index = omega (arith, within, c.loop-index-test.false, c.loop-index.invariant.end) in
    c.loop-index.invariant.so_far.each n circuit before there

pub returns-clause-no_more : goal.returns-clause-no_more
returns-clause-no_more c =
    let some = c.loop-index.invariant.sound.some_circuit in
    c.loop-index.invariant.so_far.one (omega (arith, some, c.loop-index-test.false, c.loop-index.invariant.end))

pub loop-index-init : goal.loop-index-init
loop-index-init c = record {
  index = omega arith;
  end = c.circuit_count-index-end.ensures.value;
  sound = c.circuit_count-index-end.ensures.sound;
  so_far = record { none = λ e. refl; each = λ d other less there. absurd (omega arith); one = λ some. absurd (omega arith); most = omega arith };
}

pub loop-index-preserved : goal.loop-index-preserved
loop-index-preserved c = record {
  index = omega (arith, c.loop-index-test.true);
  end = c.loop-index.invariant.end;
  sound = c.loop-index.invariant.sound;
  so_far =
      let there : slice_get c.args.config.now.circuits c.loop-index.index ≡ Some c.at.result.now =
      subst (λ i. slice_get c.args.config.now.circuits i ≡ Some c.at.result.now) c.at-circuit.ensures c.at.ensures.value in
      let most : c.at.result.now.region + 1 ≤ 1024 = let h = c.at.ensures.limits.region in omega arith in
      elim c.if-needed-regions.branch [
        | then-needed-regions w ↦ subst (Regions c.args.config.now.circuits (c.loop-index.index + 1)) (sym w.regions-is) (region_raised _ _ c.loop-index.regions _ there w.if-needed-regions.true most c.loop-index.invariant.so_far)
        | else-needed-regions w ↦ subst (Regions c.args.config.now.circuits (c.loop-index.index + 1)) (sym w.regions-is) (region_kept _ _ c.loop-index.regions _ there w.if-needed-regions.false c.loop-index.invariant.so_far)
      ];
}
