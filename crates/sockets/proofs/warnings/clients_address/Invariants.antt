use Rattle.std.proofs.Common.{ℕ, ◌+◌, ◌*◌, ◌<◌, ◌≤◌, ◌≡◌, length}
use Rattle.types.specs.declared.addr.Source.{Source}
use Rattle.sockets.specs.Warnings.{IsClientsAddress}
use Rattle.sockets.proofs.warnings.clients_address.Given as goal

abbrev pub invariant-places : goal.invariant-places
invariant-places l = record {
  ports : l.port + 4 * length l.config.circuits ≤ 65536;
  end : l.place-end ≡ 2 + length l.config.relays;
  circuits : l.circuits ≡ length l.config.circuits;
  before : (m : ℕ) (other : Source) → m < l.place → ¬ IsClientsAddress l.config l.port m other;
}
