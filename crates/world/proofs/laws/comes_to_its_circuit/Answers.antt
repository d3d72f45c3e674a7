use Rattle.world.proofs.AddressedLemmas.{relayed_is_addressed}
use Rattle.world.proofs.laws.comes_to_its_circuit.Goals as goal

pub returns : goal.returns
returns x topology c part proto now frame datagram there served alone known sound fits sent =
    relayed_is_addressed topology c part there served alone proto now frame datagram known sound fits (x.forward_is_read.ensures.read part frame datagram sound) sent
