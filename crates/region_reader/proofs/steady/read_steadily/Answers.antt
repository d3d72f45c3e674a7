use Rattle.std.proofs.Common.{◌≡◌, ◌≢◌, ◌∙◌, ◌+◌, ◌++◌, ◌∷◌, [], ℕ, List, length, true≢false, sym, ap, arith}
use Rattle.std.proofs.lemmas.List.{length-append}
use Rattle.std.proofs.lemmas.Slice.Eq.{bytes_eq-Decides}
use Rattle.region_reader.proofs.SteadyLemmas.{first_read, none_read, read_once_more, read_twice, length_read}
use Rattle.region_reader.proofs.steady.read_steadily.Goals as goal

pub returns-then-not-read-clause-not_steady : goal.returns-then-not-read-clause-not_steady
returns-then-not-read-clause-not_steady g c = none_read c.args.region (g.R.RegionReader.readings c.args.reader.now) (g.R.RegionReader.readings c.read.new.self) (c.read.ensures.none c.if-not-read.true)

pub readings-init : goal.readings-init
readings-init g c =
    let read = first_read c.args.region c.read.new.out (g.R.RegionReader.readings c.args.reader.now) (g.R.RegionReader.readings c.read.new.self) (c.read.ensures.read c.if-not-read.false) in
    (read, c.read.ensures.quiet c.if-not-read.false)

pub returns-then-not-read-2-clause-most : goal.returns-then-not-read-2-clause-most
returns-then-not-read-2-clause-most g c =
    let readings = g.R.RegionReader.readings in
    let long = length_read c.args.region c.readings.counter c.readings.out (readings c.args.reader.now) (readings c.readings.reader) c.readings.invariant.0 in
    let same : length (readings c.read-in-readings.new.self) ≡ length (readings c.readings.reader) = ap length (c.read-in-readings.ensures.none c.if-not-read-2.true) in
    let failed = c.read-in-readings.ensures.failed c.if-not-read-2.true in
    let few = c.readings-test.true in
    omega (arith, long, same, failed, few, c.readings.invariant.1)

pub returns-then-eq-clause-steady : goal.returns-then-eq-clause-steady
returns-then-eq-clause-steady g c =
    let readings = g.R.RegionReader.readings in
    let region = c.args.region in
    let same : c.read-in-readings.new.out ≡ c.readings.out = (bytes_eq-Decides c.read-in-readings.new.out c.readings.out).0 (sym c.eq.ensures ∙ c.if-eq.true) in
    let read = c.read-in-readings.ensures.read c.if-not-read-2.false ∙ ap (λ bytes. readings c.readings.reader ++ (region, bytes) ∷ []) same in
    read_twice region c.readings.counter c.readings.out (readings c.args.reader.now) (readings c.readings.reader) (readings c.read-in-readings.new.self) c.readings.invariant.0 read

pub returns-then-eq-clause-most : goal.returns-then-eq-clause-most
returns-then-eq-clause-most g c =
    let readings = g.R.RegionReader.readings in
    let one : ℕ × List ℕ = (c.args.region, c.read-in-readings.new.out) in
    let long = length_read c.args.region c.readings.counter c.readings.out (readings c.args.reader.now) (readings c.readings.reader) c.readings.invariant.0 in
    let more : length (readings c.read-in-readings.new.self) ≡ length (readings c.readings.reader) + 1 =
    ap length (c.read-in-readings.ensures.read c.if-not-read-2.false) ∙ length-append (readings c.readings.reader) (one ∷ []) in
    let quiet = c.read-in-readings.ensures.quiet c.if-not-read-2.false in
    omega (arith, long, more, quiet, c.readings-test.true, c.readings.invariant.1)

pub readings-preserved : goal.readings-preserved
readings-preserved g c =
    let readings = g.R.RegionReader.readings in
    let test = sym c.eq.ensures ∙ c.if-eq.false in
    let differ : c.readings.out ≢ c.read-in-readings.new.out = λ same. true≢false (sym ((bytes_eq-Decides c.read-in-readings.new.out c.readings.out).1 (sym same)) ∙ test) in
    let read = c.read-in-readings.ensures.read c.if-not-read-2.false in (
      read_once_more c.args.region c.readings.counter c.readings.out c.read-in-readings.new.out (readings c.args.reader.now) (readings c.readings.reader) (readings c.read-in-readings.new.self) c.readings.invariant.0 differ read,
      c.read-in-readings.ensures.quiet c.if-not-read-2.false ∙ c.readings.invariant.1,
    )

pub returns-clause-most : goal.returns-clause-most
returns-clause-most g c =
    let readings = g.R.RegionReader.readings in
    let long = length_read c.args.region c.readings.counter c.readings.out (readings c.args.reader.now) (readings c.readings.reader) c.readings.invariant.0 in
    let end = c.readings.auto.counter-end (omega arith) in
    omega (arith, long, end, c.readings.invariant.1)

pub returns-clause-busy : goal.returns-clause-busy
returns-clause-busy g c = λ _.
    let readings = g.R.RegionReader.readings in
    let long = length_read c.args.region c.readings.counter c.readings.out (readings c.args.reader.now) (readings c.readings.reader) c.readings.invariant.0 in
    let end = c.readings.auto.counter-end (omega arith) in
    omega (arith, long, end, c.readings-test.false)
