use Rattle.access_promises.proofs.LeasesInRuns.{ack_in}
use Rattle.access_promises.proofs.leases.each_dhcpack_grants.Goals as goal

pub returns : goal.returns
returns x c part old new exchanges before after t datagram m its are four fits leaves read leases =
    ack_in c part old new exchanges its x.reply_is_read.ensures before after t datagram m are four fits leaves read leases
