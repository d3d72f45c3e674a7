use Rattle.v6_options.specs.Codes.{RELAY_MESSAGE}
use Rattle.relay.proofs.Relay6Lemmas.{inside_fits}
use Rattle.relay.proofs.down6.read_options.Goals as goal

pub returns-clause-fits : goal.returns-clause-fits
returns-clause-fits c = λ fits. inside_fits c.args.reply.now RELAY_MESSAGE c.in-Some-relay_message.message.now c.in-Some-relay_message.ensures.value fits
