use Rattle.slots.proofs.FormLemmas.{form_later}
use Rattle.types.specs.Addr.{number4}
use Rattle.bindings_v4.specs.Slots4.{book_of_slots}
use Rattle.bindings_v4.proofs.KeptLemmas.{form4}
use Rattle.bindings_v4.proofs.ShownLemmas.{at_later}
use Rattle.bindings_v4.proofs.laws.expires_by_the_clock.Goals as goal

pub returns-clause-book : goal.returns-clause-book
returns-clause-book c =
    let v = c.args.book.now in at_later c.args.clock c.args.later c.requires (book_of_slots (number4 v.pool.first) v.slots)

pub returns-clause-kept : goal.returns-clause-kept
returns-clause-kept c = form_later form4 c.args.clock c.args.later c.requires c.args.book.now.slots
