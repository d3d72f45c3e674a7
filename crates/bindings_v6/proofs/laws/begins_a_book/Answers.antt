use Rattle.bindings_v6.proofs.KeptLemmas.{live_once}
use Rattle.bindings_v6.proofs.ShownBook.{begun_is_a_book}
use Rattle.bindings_v6.proofs.laws.begins_a_book.Goals as goal

pub returns-clause-begun : goal.returns-clause-begun
returns-clause-begun c pool slots once = begun_is_a_book pool slots once

pub returns-clause-live : goal.returns-clause-live
returns-clause-live c slots live once = live_once slots.clock slots.six live once
