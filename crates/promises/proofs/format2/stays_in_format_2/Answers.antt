use Rattle.std.proofs.Common.{◌∙◌, ap, sym}
use Rattle.std.specs.Prelude.{None, Option}
use Rattle.circuit_server.specs.Server.{Book}
use Rattle.world.specs.Alone.{alone_step, come_back, found, is_new}
use Rattle.promises.proofs.FormatLemmas.{comes_back, restarts_as_before, stays_new}
use Rattle.promises.proofs.format2.stays_in_format_2.Goals as goal

pub returns-clause-restarts : goal.returns-clause-restarts
unfolding alone_step
returns-clause-restarts c setup byte fault a new =
    restarts_as_before byte fault a a.format new
    ∙ (λ i. record a { book = found byte a; kept = found byte a; doubt = None; format = sym new i })

pub returns-clause-stays : goal.returns-clause-stays
returns-clause-stays c setup seen a new = stays_new setup seen a new

pub returns-clause-moves : goal.returns-clause-moves
unfolding alone_step
returns-clause-moves c setup byte fault a b is none =
    ap (λ (kept : Option Book). come_back fault kept (is_new a.format byte) a) is
    ∙ comes_back fault b (is_new a.format byte) a none
