use Rattle.std.proofs.Common.{◌≡◌, ℕ, [], ◌∷◌, subst, sym, ap, ◌∙◌, rules}
use Rattle.std.specs.Prelude.{◌==◌}
use Rattle.lease_disk.specs.Moving.{IsHalfMoved, moves}
use Rattle.lease_disk.specs.Recovered.{recovered}
use Rattle.lease_disk.specs.Region.{Region, effective, synced, written}
use Rattle.lease_disk.proofs.Moves.{is_half_migrated, is_migrated, is_not_moved, not_answered, not_old}
use Rattle.lease_disk.proofs.DoubtLemmas.{stay_then}
use Rattle.lease_disk.proofs.migrating.migrate.Goals as goal

pub returns-in_default-clause-region : goal.returns-in_default-clause-region
returns-in_default-clause-region g c = λ tells readable.
    absurd (let both = sym readable ∙ sym (c.in_default.ensures.answer tells) in cc)

pub returns-in_err-slots-clause-region : goal.returns-in_err-slots-clause-region
returns-in_err-slots-clause-region g c = λ tells readable.
    let old = (g.D.Disk.device c.args.disk.now).region c.args.region in
    let read : (g.D.Disk.device c.has_format2.new.disk).region c.args.region ≡ old = ap (λ (regions : ℕ → Region). regions c.args.region) (c.in-Ok.ensures.frame.region tells) in
    let same : (g.D.Disk.device c.recover.new.disk).region c.args.region ≡ old = ap (λ (regions : ℕ → Region). regions c.args.region) (c.in_err-slots.ensures.frame.region tells) ∙ read in
    is_not_moved c.args.counts _ old _ (c.requires.clean tells readable) same (ap (moves c.args.counts) (sym read) ∙ not_answered c.args.counts ((g.D.Disk.device c.has_format2.new.disk).region c.args.region) c.in_err-slots.field-0.0 (c.in_err-slots.ensures.answer tells))

pub returns-then-two-clause-region : goal.returns-then-two-clause-region
returns-then-two-clause-region g c = λ tells readable.
    let old = (g.D.Disk.device c.args.disk.now).region c.args.region in
    let read : (g.D.Disk.device c.has_format2.new.disk).region c.args.region ≡ old = ap (λ (regions : ℕ → Region). regions c.args.region) (c.in-Ok.ensures.frame.region tells) in
    let same : (g.D.Disk.device c.recover.new.disk).region c.args.region ≡ old = ap (λ (regions : ℕ → Region). regions c.args.region) (c.in_ok-slots.ensures.frame.region tells) ∙ read in
    is_not_moved c.args.counts _ old _ (c.requires.clean tells readable) same (not_old c.args.counts old (sym (c.in-Ok.ensures.format tells) ∙ c.if-two.true))

pub returns-in-Ok-write_moved-clause-region : goal.returns-in-Ok-write_moved-clause-region
returns-in-Ok-write_moved-clause-region g c = λ tells readable.
    let old = (g.D.Disk.device c.args.disk.now).region c.args.region in
    let read : (g.D.Disk.device c.has_format2.new.disk).region c.args.region ≡ old = ap (λ (regions : ℕ → Region). regions c.args.region) (c.in-Ok.ensures.frame.region tells) in
    let same : (g.D.Disk.device c.recover.new.disk).region c.args.region ≡ old = ap (λ (regions : ℕ → Region). regions c.args.region) (c.in_ok-slots.ensures.frame.region tells) ∙ read in
    let failing_call : (g.D.Disk.device c.recover.new.disk).failing_call c.args.region ≡ (g.D.Disk.device c.args.disk.now).failing_call c.args.region = ap (λ (failing_calls : ℕ → ℕ). failing_calls c.args.region) (c.in_ok-slots.ensures.frame.failing_call tells ∙ c.in-Ok.ensures.frame.failing_call tells) in
    is_migrated c.args.counts c.in_ok-slots.slots c.write_halves.new.halves old
    (record {
      readable = readable;
      one = sym (c.in-Ok.ensures.format tells) ∙ c.if-two.false;
      clean = c.requires.clean tells readable;
      was = ap (λ (r : Region). recovered c.args.counts r.byte) (sym read) ∙ (c.in_ok-slots.ensures.answer tells).1;
      book = c.in_ok-slots.ensures.book;
      size4 = search rules;
      size6 = search rules;
      small = c.write_halves.ensures.clock;
      size = c.write_halves.ensures.all;
      bytes = c.write_halves.ensures.bytes;
      keys = c.write_halves.ensures.keys;
      whole = c.write_halves.ensures.whole;
    })
    _ ((g.D.Disk.device c.write_moved.new.disk).region c.args.region)
    (c.in-Ok-write_moved.ensures.ok tells ∙ ap (λ r. synced (written 8192 (2 ∷ []) (synced (written 16384 c.write_halves.new.halves r)))) same)
    (c.in-Ok-write_moved.ensures.calls.answer tells ∙ ap (λ k. effective 4 k == 0) failing_call)

pub returns-in-Err-clause-region : goal.returns-in-Err-clause-region
returns-in-Err-clause-region g c = λ tells readable.
    let old = (g.D.Disk.device c.args.disk.now).region c.args.region in
    let read : (g.D.Disk.device c.has_format2.new.disk).region c.args.region ≡ old = ap (λ (regions : ℕ → Region). regions c.args.region) (c.in-Ok.ensures.frame.region tells) in
    let same : (g.D.Disk.device c.recover.new.disk).region c.args.region ≡ old = ap (λ (regions : ℕ → Region). regions c.args.region) (c.in_ok-slots.ensures.frame.region tells) ∙ read in
    let failing_call : (g.D.Disk.device c.recover.new.disk).failing_call c.args.region ≡ (g.D.Disk.device c.args.disk.now).failing_call c.args.region = ap (λ (failing_calls : ℕ → ℕ). failing_calls c.args.region) (c.in_ok-slots.ensures.frame.failing_call tells ∙ c.in-Ok.ensures.frame.failing_call tells) in
    is_half_migrated c.args.counts c.in_ok-slots.slots c.write_halves.new.halves old
    (record {
      readable = readable;
      one = sym (c.in-Ok.ensures.format tells) ∙ c.if-two.false;
      clean = c.requires.clean tells readable;
      was = ap (λ (r : Region). recovered c.args.counts r.byte) (sym read) ∙ (c.in_ok-slots.ensures.answer tells).1;
      book = c.in_ok-slots.ensures.book;
      size4 = search rules;
      size6 = search rules;
      small = c.write_halves.ensures.clock;
      size = c.write_halves.ensures.all;
      bytes = c.write_halves.ensures.bytes;
      keys = c.write_halves.ensures.keys;
      whole = c.write_halves.ensures.whole;
    })
    _ ((g.D.Disk.device c.write_moved.new.disk).region c.args.region)
    (subst (λ (r : Region). IsHalfMoved ((g.D.Disk.device c.args.disk.now).failing_call c.args.region) c.write_halves.new.halves r ((g.D.Disk.device c.write_moved.new.disk).region c.args.region)) same
    (subst (λ k. IsHalfMoved k c.write_halves.new.halves ((g.D.Disk.device c.recover.new.disk).region c.args.region) ((g.D.Disk.device c.write_moved.new.disk).region c.args.region)) failing_call (c.in-Err.ensures.err tells)))
    (c.in-Err.ensures.calls.answer tells ∙ ap (λ k. effective 4 k == 0) failing_call)

-- what was read is settled, and what is then written stays so where that succeeds

pub returns-in_err-slots-clause-doubt : goal.returns-in_err-slots-clause-doubt
returns-in_err-slots-clause-doubt g c = record {
  settled = search rules;
  stay = stay_then c.args.region (g.D.Disk.doubt c.args.disk.now) (g.D.Disk.doubt c.has_format2.new.disk) (g.D.Disk.doubt c.recover.new.disk) c.in-Ok.ensures.stay c.in_err-slots.ensures.doubt.stay;
}

pub returns-then-two-clause-doubt : goal.returns-then-two-clause-doubt
returns-then-two-clause-doubt g c = record {
  settled = c.in_ok-slots.ensures.doubt.settled;
  stay = stay_then c.args.region (g.D.Disk.doubt c.args.disk.now) (g.D.Disk.doubt c.has_format2.new.disk) (g.D.Disk.doubt c.recover.new.disk) c.in-Ok.ensures.stay c.in_ok-slots.ensures.doubt.stay;
}

pub returns-in-Ok-write_moved-clause-doubt : goal.returns-in-Ok-write_moved-clause-doubt
returns-in-Ok-write_moved-clause-doubt g c =
    let read = stay_then c.args.region (g.D.Disk.doubt c.args.disk.now) (g.D.Disk.doubt c.has_format2.new.disk) (g.D.Disk.doubt c.recover.new.disk) c.in-Ok.ensures.stay c.in_ok-slots.ensures.doubt.stay in
    record {
      settled = c.in-Ok-write_moved.ensures.doubt.settled c.args.region c.in_ok-slots.ensures.doubt.settled;
      stay = stay_then c.args.region (g.D.Disk.doubt c.args.disk.now) (g.D.Disk.doubt c.recover.new.disk) (g.D.Disk.doubt c.write_moved.new.disk) read c.in-Ok-write_moved.ensures.doubt.stay;
    }

pub returns-in-Err-clause-doubt : goal.returns-in-Err-clause-doubt
returns-in-Err-clause-doubt g c =
    let read = stay_then c.args.region (g.D.Disk.doubt c.args.disk.now) (g.D.Disk.doubt c.has_format2.new.disk) (g.D.Disk.doubt c.recover.new.disk) c.in-Ok.ensures.stay c.in_ok-slots.ensures.doubt.stay in
    record {
      settled = search rules;
      stay = stay_then c.args.region (g.D.Disk.doubt c.args.disk.now) (g.D.Disk.doubt c.recover.new.disk) (g.D.Disk.doubt c.write_moved.new.disk) read c.in-Err.ensures.doubt.stay;
    }
