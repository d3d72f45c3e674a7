-- Frames towards clients reach no address of the server or a relay.
use Rattle.std.proofs.Common.{inl, inr, ◌≡◌, ◌∙◌, ℕ, suc, ◌<◌, Bool, true, false, length, refl, sym, ap, subst}
use Rattle.std.specs.Prelude.{◌⊎◌, ◌||◌}
use Rattle.std.proofs.lemmas.List.{length-map}
use Rattle.types.specs.Addr.{same_source}
use Rattle.types.specs.declared.addr.Source.{Source}
use Rattle.types.specs.declared.dest.Proto.{Proto}
use Rattle.settings.specs.Settings.{Settings}
use Rattle.settings.specs.declared.settings.RelayConfig.{RelayConfig}
use Rattle.config.specs.Topology.{Topology, is_relay, is_server, topology_of}
use Rattle.config.proofs.TopologyLemmas.{same_is_one}
use Rattle.dispatch.proofs.BatchLemmas.{first_there}
use Rattle.sockets.specs.Sockets.{client_port}
use Rattle.sockets.specs.Warnings.{HasNoClientsAddress, ReceivesSomeClients}
use Rattle.access_promises.proofs.FewWait.{by_false}

abbrev pub AreNoClients : Topology → ℕ → Type 0
AreNoClients topology port = (c : ℕ) (proto : Proto) → c < length topology.circuits
    → (is_relay topology (client_port port c proto) ≡ false) × (is_server topology (client_port port c proto) ≡ false)

either : (a b : Bool) → (a || b) ≡ true → (a ≡ true) ⊎ (b ≡ true)
either true b holds = inl refl
either false b holds = inr holds

module _ (settings : Settings) (port : ℕ) (none : HasNoClientsAddress settings port) (c : ℕ) (proto : Proto) (within : c < length settings.circuits) where
  abbrev to : Source
  to = client_port port c proto

  receives : (at : Source) → same_source to at ≡ true → ReceivesSomeClients port (length settings.circuits) at
  receives at same = subst (ReceivesSomeClients port (length settings.circuits)) (same_is_one to at same) (c, within, (proto, refl, inl refl))

  at_server : (same_source to settings.server.listen4 ≡ true) ⊎ (same_source to settings.server.listen6 ≡ true) → ⊥
  at_server (inl same) = none 0 settings.server.listen4 (refl, receives settings.server.listen4 same)
  at_server (inr same) = none 1 settings.server.listen6 (refl, receives settings.server.listen6 same)

  at_relay : is_relay (topology_of settings) to ≡ true → ⊥
  at_relay found =
      let (r, at, there, same, first) = first_there (same_source to) (topology_of settings).relays found in
      none (suc (suc r)) at (there, receives at same)

  pub neither : (is_relay (topology_of settings) to ≡ false) × (is_server (topology_of settings) to ≡ false)
  neither = (by_false (is_relay (topology_of settings) to) at_relay, by_false (is_server (topology_of settings) to) (λ found. at_server (either _ _ found)))

pub no_clients : (settings : Settings) (port : ℕ) → HasNoClientsAddress settings port → AreNoClients (topology_of settings) port
no_clients settings port none c proto below = neither settings port none c proto (subst (λ n. c < n) (length-map settings.circuits _) below)
