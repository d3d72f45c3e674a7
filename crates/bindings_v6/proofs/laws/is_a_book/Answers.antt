use Rattle.bindings_v6.proofs.ShownBook.{slots_show_a_book}
use Rattle.bindings_v6.proofs.laws.is_a_book.Goals as goal

pub returns : goal.returns
returns c = slots_show_a_book c.args.clock c.args.book.now c.slots-slots.ensures.within.distinct
