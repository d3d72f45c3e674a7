use Rattle.bindings_v6.proofs.LaterBook.{empty_is_a_book, later_is_a_book}
use Rattle.bindings_v6.proofs.LawLemmas.{book_left}
use Rattle.bindings_v6.proofs.laws.leaves_a_book.Goals as goal

pub returns-clause-empty : goal.returns-clause-empty
returns-clause-empty c clock = empty_is_a_book clock

pub returns-clause-later : goal.returns-clause-later
returns-clause-later c clock later b book = later_is_a_book later b clock book

pub returns-clause-decided : goal.returns-clause-decided
returns-clause-decided c pool clock m limits = book_left pool limits clock m
