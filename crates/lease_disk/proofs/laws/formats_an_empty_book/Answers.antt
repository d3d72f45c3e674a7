use Rattle.lease_disk.proofs.Books.{formatted_book, formatted_old_book}
use Rattle.lease_disk.proofs.laws.formats_an_empty_book.Goals as goal

pub returns-clause-format1 : goal.returns-clause-format1
returns-clause-format1 c counts r formatted = formatted_old_book counts r.byte formatted.byte

pub returns-clause-format2 : goal.returns-clause-format2
returns-clause-format2 c = formatted_book
