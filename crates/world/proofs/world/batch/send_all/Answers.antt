use Rattle.std.proofs.Common.{◌+◌, drop, sym, ap, ◌∙◌}
use Rattle.std.specs.Prelude.{◌==◌, if◌then◌else◌}
use Rattle.lossy_net.specs.Net.{datagrams}
use Rattle.lossy_net.specs.declared.dir.Dir.TheVariants as dir
use Rattle.world.specs.Batch.{downs_after, with_answer}
use Rattle.world.proofs.BatchLoops.{downs_step}
use Rattle.world.proofs.world.batch.send_all.Goals as goal

pub parts-preserved : goal.parts-preserved
parts-preserved c =
    let ws = c.args.waiting.now in
    let loop = c.parts.invariant in
    let sent = c.send_answer.ensures in
    let d = c.index-waiting-index.result in
    record {
      circuits = sent.circuits ∙ loop.circuits;
      quota = sent.quota ∙ loop.quota;
      ups = λ n. sent.ups n ∙ loop.ups n;
      downs = λ n.
          let before = datagrams c.parts.net n dir.Down in
          let answer = c.get.ensures in
          ap (downs_after c.args.net.now.quota (drop (c.parts.index + 1) ws) (drop (c.parts.index + 1) c.args.answers.now.answers) n)
          (sent.downs n ∙ (λ i. if (c.index-waiting-index.is i).circuit == n then with_answer (loop.quota i) (c.index-waiting-index.is i).proto (answer i) before else before))
          ∙ sym (downs_step c.args.net.now.quota n d ws c.args.answers.now.answers c.parts.index before c.parts-test.true) ∙ loop.downs n;
    }
