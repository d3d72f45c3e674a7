use Rattle.std.proofs.Common.{◌≡◌, ◌<◌, ◌∙◌, length, refl, subst, arith}
use Rattle.std.specs.Prelude.{Some, slice_get}
use Rattle.std.proofs.lemmas.Option.{slice_get_within}
use Rattle.opening.proofs.FormatLemmas.{one_more}
use Rattle.opening.proofs.device.format_regions.Goals as goal

pub circuits-preserved : goal.circuits-preserved
circuits-preserved g c =
    let loop = c.circuits.invariant in
    let done = c.in-Ok.ensures in
    let here : slice_get c.args.config.now.circuits c.circuits.index ≡ Some c.at.result.now = subst (λ n. slice_get c.args.config.now.circuits n ≡ Some c.at.result.now) c.at-circuit.ensures c.at.ensures.value in
    record {
      index = omega (arith, c.circuits-test.true);
      end = loop.end;
      sound = loop.sound;
      count = done.frame.count ∙ loop.count;
      writes = omega (arith, done.writes, loop.writes);
      formatted = λ tells. one_more (g.D.Disk.device c.circuits.disk).region (g.D.Disk.device c.format.new.disk).region c.at.result.now.region (done.ok tells) (done.frame.region tells) c.args.config.now.circuits c.circuits.index c.at.result.now here refl (loop.formatted tells);
    }

pub returns-clause-formatted : goal.returns-clause-formatted
returns-clause-formatted g c tells k circuit there =
    let loop = c.circuits.invariant in
    let within : k < length c.args.config.now.circuits = slice_get_within c.args.config.now.circuits k circuit there in
    let before : k < c.circuits.index = omega (arith, within, c.circuits-test.false, loop.end) in
    loop.formatted tells k circuit before there
