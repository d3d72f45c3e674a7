use Rattle.std.proofs.Common.{◌≡◌, ◌∙◌, ◌==◌, Bool, true, false, refl, sym, ap, subst, arith}
use Rattle.std.proofs.lemmas.Bool.{eqb-true}
use Rattle.access.specs.Access.{AccessValue}
use Rattle.access.specs.Pass.{HasAnswered, SecondBatch}
use Rattle.access.proofs.access.Access.answer_all.Goals as goal

pub returns-then-first-full-clause-answered : goal.returns-then-first-full-clause-answered
returns-then-first-full-clause-answered c = by (c.take_at_server-first.result == c.args.self.now.batch) refl where
  by : (full : Bool) → (c.take_at_server-first.result == c.args.self.now.batch) ≡ full → HasAnswered c.args.now c.take_at_server-first.result c.args.self.now c.take_at_server-first.new.self
  by true full =
      let same = eqb-true c.take_at_server-first.result c.args.self.now.batch full in
      let its : c.most-full.result ≡ c.args.self.now.batch = c.most-full.ensures ∙ ap (λ (s : AccessValue). s.batch) c.self.view_is in
      let apart = c.if-first-full.true in
      absurd (omega (arith, same, its, apart))
  by false left = record {
    first = c.take_at_server-first.result;
    second = 0;
    middle = c.take_at_server-first.new.self;
    batch = c.take_at_server-first.ensures.served;
    other = subst (λ full. SecondBatch full c.args.now 0 c.take_at_server-first.new.self c.take_at_server-first.new.self) (sym left) (refl, refl);
    count_is = omega arith;
  }
