use Rattle.std.proofs.Common.{arith}
use Rattle.udp.proofs.WordLemmas.{past, set_same, set_stays}
use Rattle.udp.proofs.waiting.set.Goals as goal

pub returns-then-place-words-clause-set : goal.returns-then-place-words-clause-set
returns-then-place-words-clause-set c = set_same c.args.words.now c.args.place (omega (arith, c.if-place-words.true))

pub returns-then-place-words-clause-stay : goal.returns-then-place-words-clause-stay
returns-then-place-words-clause-stay c = set_stays c.args.words.now c.args.place (omega (arith, c.if-place-words.true))

pub returns-else-place-words-clause-set : goal.returns-else-place-words-clause-set
returns-else-place-words-clause-set c bit is = past c.args.words.now bit (omega (arith, is.word, c.if-place-words.false))
