use Rattle.access_promises.proofs.ShownBooks.{shown_book, shown_in}
use Rattle.access_promises.proofs.leases.slots_show_a_book_of_their_pools.Goals as goal

pub returns-clause-circuit : goal.returns-clause-circuit
returns-clause-circuit x part o has = shown_book part o has.0.0 has.0.1 has.1

pub returns-clause-server : goal.returns-clause-server
returns-clause-server x c part server there has = shown_in c part server there has
