use Rattle.std.proofs.Common.{sym, ap, ◌∙◌, arith}
use Rattle.udp.specs.Waiting.{is_set}
use Rattle.udp.proofs.WordLemmas.{past, ready}
use Rattle.udp.proofs.waiting.Waiter.is_ready.Goals as goal

pub returns-in-Some : goal.returns-in-Some
returns-in-Some c bit is =
    ready c.deref.result.now bit c.in-Some.word.now c.args.place is c.in-Some.ensures.lookup.3.0 c.in-Some.ensures.lookup.1
    ∙ ap (λ words. is_set words bit) (c.deref.ensures.value ∙ c.self.view_is)

pub returns-in-None : goal.returns-in-None
returns-in-None c bit is =
    sym (past c.deref.result.now bit (omega (arith, is.word, c.in-None.ensures.lookup.3))) ∙ ap (λ words. is_set words bit) (c.deref.ensures.value ∙ c.self.view_is)
