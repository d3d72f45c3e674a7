use Rattle.std.proofs.Common.{◌∙◌, ap, arith}
use Rattle.lease_disk.specs.Device.{Device}
use Rattle.opening.proofs.opening.open_server.Goals as goal

pub returns-in_default-clause-calls : goal.returns-in_default-clause-calls
returns-in_default-clause-calls g c =
    let first = c.in_default.ensures in record {
      count = first.frame.count;
      least = tt;
      reads = omega (arith, first.reads);
      writes = omega (arith, first.frame.writes);
    }

pub returns-in-Ok-open-clause-calls : goal.returns-in-Ok-open-clause-calls
returns-in-Ok-open-clause-calls g c =
    let first = c.in-Ok.ensures in
    let opened = c.in-Ok-open.ensures in record {
      count = opened.count ∙ first.frame.count;
      least = omega (arith, first.least, opened.calls.least);
      reads = omega (arith, first.reads, opened.calls.reads);
      writes = omega (arith, first.frame.writes, opened.calls.writes);
    }

pub returns-in-Err-clause-calls : goal.returns-in-Err-clause-calls
returns-in-Err-clause-calls g c =
    let first = c.in-Ok.ensures in
    let same = c.in-Err.ensures.untouched in record {
      count = ap (λ (d : Device). d.count) same ∙ first.frame.count;
      least = tt;
      reads = omega (arith, first.reads, ap (λ (d : Device). d.reads) same);
      writes = omega (arith, first.frame.writes, ap (λ (d : Device). d.writes) same);
    }
