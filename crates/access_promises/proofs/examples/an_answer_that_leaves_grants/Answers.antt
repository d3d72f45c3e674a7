use Rattle.std.proofs.Common.{[], length, refl}
use Rattle.v4_message.specs.Reading.{message_of}
use Rattle.circuit_server.specs.Server.{book_at}
use Rattle.world.specs.Alone.{SentDown, alone_step}
use Rattle.events.specs.Seen.{Up}
use Rattle.promises.specs.Examples.{asked, client, lease_until, offers_at, one_offer, part_a, request_up, setup_a}
use Rattle.promises.proofs.ExampleLemmas.{lease_granted}
use Rattle.access_promises.proofs.SentLemmas.{grants_sent}
use Rattle.access_promises.proofs.examples.an_answer_that_leaves_grants.Goals as goal

pub returns-clause-granted : goal.returns-clause-granted
returns-clause-granted c reply new =
    grants_sent part_a (alone_step setup_a (Up 0 110 0) asked).effect (SentDown (length reply)) (book_at 110 (offers_at 100 (one_offer (client 1) (lease_until 160)))) (message_of request_up)
    (record { client = client 1; address = 167772170; until = 710; clock = 110 }) [] refl lease_granted
