use Rattle.lease_disk.proofs.Books.{recovered_book}
use Rattle.lease_disk.proofs.laws.recovers_a_book.Goals as goal

pub returns : goal.returns
returns c = recovered_book
