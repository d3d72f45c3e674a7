use Rattle.std.proofs.Common.{◌+◌, drop, if◌then◌else◌, get_or, sym, ap, ◌∙◌}
use Rattle.lease_disk.specs.Model.{failing_call_of}
use Rattle.world.specs.Batch.{faults_after}
use Rattle.world.proofs.BatchLoops.{fault_is_set, faults_step}
use Rattle.world.proofs.ServedLemmas.{state_stays}
use Rattle.world.proofs.world.batch.set_faults.Goals as goal

pub parts-preserved : goal.parts-preserved
parts-preserved c =
    let ws = c.args.waiting.now in
    let i = c.parts.index in
    let d = c.index-waiting-index.result in
    let w = get_or ws i d in
    let set = c.fail_at.ensures in
    let at = ap (λ part. part.region) c.index-waiting-index.is in
    record {
      count = set.others.count ∙ c.parts.invariant.count;
      states = state_stays d.region c.parts.disk c.fail_at.new.self set.state set.others ∙ c.parts.invariant.states;
      faults =
          ap (faults_after c.args.fails (drop (c.parts.index + 1) ws)) (fault_is_set c.args.fails w (failing_call_of c.parts.disk) (failing_call_of c.fail_at.new.self)
          (ap (failing_call_of c.fail_at.new.self) (sym at) ∙ set.failing_call ∙ c.fault_of-fault.ensures ∙ ap (λ part. if c.args.fails then part.fault else 0) c.index-waiting-index.is)
          (λ r other. set.others.failing_calls r (λ same. other (same ∙ at))))
          ∙ sym (faults_step c.args.fails ws i d (failing_call_of c.parts.disk) c.parts-test.true) ∙ c.parts.invariant.faults;
    }
