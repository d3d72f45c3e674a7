use Rattle.std.proofs.Common.{◌∙◌, true, length, take, ap, sym, subst, arith, length-drop}
use Rattle.std.proofs.KnownBytes.{Keeps-refl}
use Rattle.std.specs.Io.KnownBytes.{prepend_known}
use Rattle.lease_disk.specs.Model.{device_of}
use Rattle.lab_engine.specs.Preparations.{PreparedSoFar}
use Rattle.lab_engine.specs.Progress.{IsParsedIn}
use Rattle.streams.specs.declared.line.LineEnd.TheVariants.{EndOfInput}
use Rattle.lab_engine.specs.Lab.{prepared}
use Rattle.lab_text.specs.Line.{line_of_text}
use Rattle.streams.specs.LineEnd.{Fits}
use Rattle.streams.specs.ReadAhead.{held}
use Rattle.streams.proofs.AheadLemmas.{last_consumed}
use Rattle.lab_engine.proofs.PreparationLemmas.{begun_last, prepared_begun, prepared_last, none_left, nothing_more}
use Rattle.lab_engine.proofs.preparations.prepare_last.Goals as goal

pub returns-in-Some-clause-prepared : goal.returns-in-Some-clause-prepared
returns-in-Some-clause-prepared c = λ quota number given left last so_far.
    subst (λ d. PreparedSoFar c.args.plans.now quota number true given (prepend_known (held c.args.ahead.now) left) (device_of d) (Fits (held c.args.ahead.now) (EndOfInput c.args.len)))
    (sym c.in-Some.ensures.same)
    (prepared_begun c.args.plans.now quota number _ _ (device_of c.args.disk.now) _ so_far
    (begun_last c.args.plans.now quota number (held c.args.ahead.now) _ c.args.len last
    (λ openings. ap (λ text. prepared (line_of_text c.args.plans.now.union c.args.plans.now.count (take c.args.len text)) openings) (sym c.as_slice.ensures) ∙ c.in-Some.ensures.event openings)))

pub returns-in-Some-clause-line : goal.returns-in-Some-clause-line
returns-in-Some-clause-line c = record {
  within = c.requires.short;
  inside = let e = c.requires.inside in omega arith;
  parsed = subst (λ text. IsParsedIn c.args.plans.now c.prepare.new.buffers (take c.args.len text) c.in-Some.parsed) c.as_slice.ensures c.in-Some.ensures.parsed;
}

pub returns-clause-line : goal.returns-clause-line
returns-clause-line c = record {
  within = omega arith;
  inside = omega arith;
  parsed = tt;
}

pub returns-clause-prepared : goal.returns-clause-prepared
returns-clause-prepared c = λ quota number given left last so_far.
    let gone = ap length c.consume.ensures.held ∙ length-drop c.args.len (held c.args.ahead.now) in
    prepared_last c.args.plans.now quota number _ _ _ (device_of c.args.disk.now) (device_of c.prepare.new.disk) (take c.args.len c.as_slice.result.now) (held c.consume.new.self)
    (none_left _ (let e = last.size in omega (arith, gone, e)))
    so_far
    (last_consumed _ _ (held c.args.ahead.now) c.as_slice.result.now c.args.len c.as_slice.ensures (Keeps-refl _) last)
    (λ openings over. c.in_default.ensures.prepared quota openings over)

pub returns-clause-end : goal.returns-clause-end
returns-clause-end c = λ left last.
    let gone = ap length c.consume.ensures.held ∙ length-drop c.args.len (held c.args.ahead.now) in
    nothing_more (held c.consume.new.self) _ (let e = last.size in omega (arith, gone, e)) last.end
