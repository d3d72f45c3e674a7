use Rattle.std.proofs.Common.{◌≡◌, ◌∙◌, [], ◌∷◌, ◌++◌, ap, subst, arith, rules}
use Rattle.std.specs.Prelude.{Some, slice_get}
use Rattle.lease_disk.proofs.Frames.{nothing_then}
use Rattle.opening.proofs.OpeningLemmas.{one_more_format}
use Rattle.opening.proofs.opening.formats_of.Goals as goal

pub circuits-preserved : goal.circuits-preserved
circuits-preserved g c =
    let loop = c.circuits.invariant in
    let device = g.D.Disk.device in
    let here : slice_get c.args.config.now.circuits c.circuits.index ≡ Some c.at.result.now = subst (λ n. slice_get c.args.config.now.circuits n ≡ Some c.at.result.now) c.at-circuit.ensures c.at.ensures.value in
    record {
      index = omega (arith, c.circuits-test.true);
      end = loop.end;
      few = loop.few;
      all = search rules;
      frame = nothing_then g.D.Disk.tells (device c.args.disk.now) (device c.circuits.disk) (device c.format_of.new.disk) loop.frame c.format_of.ensures.frame;
      least = omega (arith, loop.least, c.format_of.ensures.least);
      reads = omega (arith, loop.reads, c.format_of.ensures.reads);
      found = λ told. c.in_ok-push.ensures.items
          ∙ (ap (λ format. c.circuits.found.items ++ format ∷ []) (c.format_of.ensures.found told)
          ∙ one_more_format g.D.Disk.tells (device c.args.disk.now) (device c.circuits.disk) c.args.config.now.circuits c.circuits.index c.at.result.now c.circuits.found.items loop.frame told here (loop.found told));
    }
