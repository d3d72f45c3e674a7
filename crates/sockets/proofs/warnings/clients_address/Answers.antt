use Rattle.std.proofs.Common.{subst, arith, length}
use Rattle.sockets.specs.Warnings.{ReceivesSomeClients}
use Rattle.sockets.proofs.ServiceAddressLemmas.{none_before, none_later}
use Rattle.sockets.proofs.warnings.clients_address.Goals as goal

pub places-preserved : goal.places-preserved
places-preserved c =
    let config = c.args.config.now in
    let was = c.places.invariant in
    let at = c.address_at-at.result in
    let never : ¬ ReceivesSomeClients c.args.port (length config.circuits) at =
    subst (λ n. ¬ ReceivesSomeClients c.args.port n at) was.circuits (c.receives_clients.ensures.none c.if-receives_clients.false) in
    record {
      ports = was.ports;
      end = was.end;
      circuits = was.circuits;
      before = none_before config c.args.port c.places.place at c.address_at-at.ensures never was.before;
    }

pub returns-clause-none : goal.returns-clause-none
returns-clause-none c =
    none_later c.args.config.now c.args.port c.places.place (omega (arith, c.places-test.false, c.places.invariant.end)) c.places.invariant.before
