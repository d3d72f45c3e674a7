use Rattle.std.specs.Prelude.{Ok}
use Rattle.exchange.specs.declared.request4.Reply4.TheVariants as reply
use Rattle.bindings_v4.proofs.ReplyLemmas.{whole_answer}
use Rattle.bindings_v4.proofs.laws.gives_whole_addresses.Goals as goal

pub returns-clause-offered : goal.returns-clause-offered
returns-clause-offered c pool clock b m address is = whole_answer pool clock b m (Ok (reply.Offer address)) is

pub returns-clause-leased : goal.returns-clause-leased
returns-clause-leased c pool clock b m address is = whole_answer pool clock b m (Ok (reply.Ack address)) is
