use Rattle.promises.proofs.ApartLemmas.{books_apart}
use Rattle.promises.proofs.leases.shares_no_address.Goals as goal

pub returns : goal.returns
returns x = books_apart
