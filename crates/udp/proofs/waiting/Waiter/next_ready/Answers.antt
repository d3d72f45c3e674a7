use Rattle.std.proofs.Common.{◌≡◌, ◌+◌, ◌*◌, ◌/◌, ◌<◌, ◌∙◌, length, get_or, subst, arith}
use Rattle.udp.proofs.WordLemmas.{passed}
use Rattle.udp.proofs.waiting.Waiter.next_ready.Goals as goal

pub returns-then-first-lt-WORD-clause-passed : goal.returns-then-first-lt-WORD-clause-passed
returns-then-first-lt-WORD-clause-passed c n least most =
    let words = c.deref.ensures.value ∙ c.self.view_is in
    let at = 3 * (c.words.next / 64) + c.proto_row-row.result in
    passed c.args.self.now c.args.proto c.proto_row-row.result c.args.from c.words.next c.first_set-first.result c.in-Some.word.now c.proto_row-row.ensures.row
    (subst (λ xs. at < length xs) words c.in-Some.ensures.lookup.3.0) (subst (λ xs. c.in-Some.word.now ≡ get_or xs at c.in-Some.word.now) words c.in-Some.ensures.lookup.1)
    c.first_set-first.ensures.bound c.first_set-first.ensures.unset c.words.invariant.1 n least (omega (arith, most, c.min.ensures, c.saturating_add-next.ensures))

pub words-preserved : goal.words-preserved
words-preserved c =
    let words = c.deref.ensures.value ∙ c.self.view_is in
    let at = 3 * (c.words.next / 64) + c.proto_row-row.result in (
      omega (arith, c.words.invariant.0, c.words.auto.next-fits, c.first_set-first.ensures.from, c.saturating_add-next.ensures),
      λ n least most.
          passed c.args.self.now c.args.proto c.proto_row-row.result c.args.from c.words.next c.first_set-first.result c.in-Some.word.now c.proto_row-row.ensures.row
          (subst (λ xs. at < length xs) words c.in-Some.ensures.lookup.3.0) (subst (λ xs. c.in-Some.word.now ≡ get_or xs at c.in-Some.word.now) words c.in-Some.ensures.lookup.1)
          c.first_set-first.ensures.bound c.first_set-first.ensures.unset c.words.invariant.1 n least (omega (arith, most, c.saturating_add-next.ensures)),
    )
