use Rattle.bindings_v6.proofs.ReplyLemmas.{whole_addresses}
use Rattle.bindings_v6.proofs.laws.gives_whole_addresses.Goals as goal

pub returns : goal.returns
returns c = whole_addresses
