use Rattle.std.proofs.Common.{◌∙◌, refl}
use Rattle.slots.specs.Slots.{is_clients}
use Rattle.slots.proofs.UsedLemmas.{first_used}
use Rattle.slots.proofs.write.clients_slot.Goals as goal

pub returns-clause-slot : goal.returns-clause-slot
returns-clause-slot g c =
    let test = is_clients g.K.PartialEq.eq c.args.client.now in c.first_of_client.ensures.slot ∙ first_used test refl c.args.used c.args.slots.now c.requires
