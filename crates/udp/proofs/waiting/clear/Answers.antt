use Rattle.std.proofs.Common.{arith}
use Rattle.udp.proofs.WordLemmas.{clear_stays}
use Rattle.udp.proofs.waiting.clear.Goals as goal

pub returns-then-place-words : goal.returns-then-place-words
returns-then-place-words c = clear_stays c.args.words.now c.args.place (omega (arith, c.if-place-words.true))
