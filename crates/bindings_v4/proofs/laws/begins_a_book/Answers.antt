use Rattle.bindings_v4.proofs.KeptBook.{begun_is_a_book, begun_no_offers, kept_is_a_book, kept_later}
use Rattle.bindings_v4.proofs.KeptLemmas.{live_once}
use Rattle.bindings_v4.proofs.laws.begins_a_book.Goals as goal

pub returns-clause-begun : goal.returns-clause-begun
returns-clause-begun c pool slots once = begun_is_a_book pool slots once

pub returns-clause-no_offers : goal.returns-clause-no_offers
returns-clause-no_offers c pool slots = begun_no_offers pool slots

pub returns-clause-kept : goal.returns-clause-kept
returns-clause-kept c clock b book = kept_is_a_book clock b book

pub returns-clause-later : goal.returns-clause-later
returns-clause-later c clock b = kept_later clock b

pub returns-clause-live : goal.returns-clause-live
returns-clause-live c slots live once = live_once slots.clock slots.four live once
