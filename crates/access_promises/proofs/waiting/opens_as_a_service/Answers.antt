use Rattle.std.proofs.Common.{sym, subst}
use Rattle.config.specs.Topology.{Topology, topology_of}
use Rattle.access_promises.proofs.NoClients.{AreNoClients, no_clients}
use Rattle.access_promises.proofs.waiting.opens_as_a_service.Goals as goal

pub returns : goal.returns
returns c settings disk port opening access sound none opened = record {
  sound = sound;
  topology = opened.topology;
  batch = opened.batch_is;
  apart = subst (λ (t : Topology). AreNoClients t access.port) (sym opened.topology) (subst (AreNoClients (topology_of settings)) (sym opened.port_is) (no_clients settings port none));
}
