use Rattle.std.proofs.Common.{◌≡◌, subst, arith}
use Rattle.std.specs.Prelude.{Some, slice_get}
use Rattle.sockets.proofs.ServiceAddressLemmas.{relay_address}
use Rattle.sockets.proofs.warnings.address_at.Goals as goal

pub returns-in_default : goal.returns-in_default
returns-in_default c =
    relay_address c.args.config.now c.args.place c.relay.result.now (omega arith)
    (subst (λ n. slice_get c.args.config.now.relays n ≡ Some c.relay.result.now) c.at.ensures c.relay.ensures.value)
