use Rattle.circuit_server.specs.Server.{IsBook}
use Rattle.promises.proofs.HeldBooks.{held_step, held_after}
use Rattle.promises.proofs.PoolLemmas.{own_step, opened_of}
use Rattle.promises.proofs.books.leaves_a_book.Goals as goal

pub returns-clause-step : goal.returns-clause-step
returns-clause-step c setup s a sound books =
    let law = c.leaves_a_book.ensures in
    held_step IsBook setup law.later law.kept (λ e b book. law.answered setup.part e b sound book) s a books

pub returns-clause-run : goal.returns-clause-run
returns-clause-run c setup seen a sound books =
    let law = c.leaves_a_book.ensures in
    held_after IsBook setup law.later law.kept (λ e b book. law.answered setup.part e b sound book) seen a books

pub returns-clause-own : goal.returns-clause-own
returns-clause-own c setup s a sound books = own_step setup (record { four = sound.pool4; six = sound.pool6 }) s a books

pub returns-clause-begins : goal.returns-clause-begins
returns-clause-begins c part bytes = opened_of part bytes
