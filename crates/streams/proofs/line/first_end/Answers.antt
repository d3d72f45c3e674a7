use Rattle.std.proofs.Common.{◌≤◌, length, eqb-true, arith, take_all, ap, ◌∙◌}
use Rattle.streams.specs.Lines.{lacks}
use Rattle.streams.proofs.AheadLemmas.{lacks_nowhere, lacks_everywhere}
use Rattle.streams.proofs.line.first_end.Goals as goal

pub returns-in-Some-clause-some : goal.returns-in-Some-clause-some
returns-in-Some-clause-some c =
    let text = c.args.text.now in
    let found = c.in-Some.ensures in
    record {
      short = c.if-len-le-MAX_LINE.true;
      inside = found.0.high;
      plain = lacks_nowhere 10 text c.in-Some.len (let h = found.0.high in omega arith) found.0.before;
      feed = eqb-true _ _ found.1;
    }

pub returns-in-Some-2-clause-some : goal.returns-in-Some-2-clause-some
returns-in-Some-2-clause-some c =
    let text = c.args.text.now in
    let found = c.in-Some.ensures in
    let within : c.in-Some.len ≤ length text = let h = found.0.high in omega arith in
    record {
      size = c.in-Some.len;
      long = let h = c.if-len-le-MAX_LINE.false in omega arith;
      within = within;
      plain = lacks_nowhere 10 text c.in-Some.len within found.0.before;
    }

pub returns-in-None-clause-some : goal.returns-in-None-clause-some
returns-in-None-clause-some c =
    let text = c.args.text.now in
    record {
      size = length text;
      long = let h = c.if-text-gt-MAX_LINE.true in omega arith;
      within = omega arith;
      plain = ap (lacks 10) (take_all (length text) text (omega arith)) ∙ lacks_everywhere 10 text c.in-None.ensures;
    }

pub returns-in-None-2-clause-plain : goal.returns-in-None-2-clause-plain
returns-in-None-2-clause-plain c = lacks_everywhere 10 c.args.text.now c.in-None.ensures
