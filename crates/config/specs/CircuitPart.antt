-- One circuit's part of a configuration: all that its relay and its server know of it. Neither the
-- circuit's index nor its relay's is in it, so the same circuit at another index has the same part.
use Rattle.std.specs.Prelude.{◌≡◌, ℕ, ◌≤◌, zero, suc, List, [], ◌∷◌, length, map, slice_get, Option, false}
use Rattle.types.specs.Addr.{is_unspecified}
use Rattle.types.specs.Pool4.{IsPool4, PoolValue}
use Rattle.types.specs.Pool6.{IsPool6, Pool6Value}
use Rattle.types.specs.CircuitId.{IsCircuitId}
use Rattle.types.specs.declared.addr.Addr4.{Addr4}
use Rattle.types.specs.declared.addr.Source.{Source}
use Rattle.types.specs.declared.dest.Proto.{Proto}
use Rattle.types.specs.declared.dest.Proto.TheVariants.{V4, V6}
use Rattle.settings.specs.declared.settings.RelayConfig.{RelayConfig}
use Rattle.settings.specs.declared.settings.CircuitConfig.{CircuitConfig}
use Rattle.settings.specs.Settings.{Settings}

pub record CircuitPart : Type 0 where
  -- the circuit id, and where its relay's datagrams come from
  pub id : List ℕ
  pub relay : Source
  pub region : ℕ
  -- the lease time in seconds
  pub lease : ℕ
  -- DHCPv4: the gateway, the length of its prefix, the pool, the name servers
  pub gateway4 : Addr4
  pub prefix4 : ℕ
  pub first4 : Addr4
  pub count4 : ℕ
  pub dns : List Addr4
  -- DHCPv6: the link's address and the pool
  pub link6 : List ℕ
  pub first6 : List ℕ
  pub count6 : ℕ
  -- the server's addresses and DUID
  pub listen4 : Source
  pub listen6 : Source
  pub duid : List ℕ

-- a circuit's part, by the source of its relay and the server's values
abbrev pub part_of : CircuitConfig → Source → Source → Source → List ℕ → CircuitPart
part_of circuit relay listen4 listen6 duid = record {
  id = circuit.id;
  relay = relay;
  region = circuit.region;
  lease = circuit.lease;
  gateway4 = circuit.gateway4;
  prefix4 = circuit.prefix4;
  first4 = circuit.first4;
  count4 = circuit.count4;
  dns = circuit.dns.items;
  link6 = circuit.link6.0;
  first6 = circuit.first6.0;
  count6 = circuit.count6;
  listen4 = listen4;
  listen6 = listen6;
  duid = duid;
}

-- The source of a relay by its index. A circuit's relay is always one of the list.
abbrev pub source_at : List RelayConfig → ℕ → Source
source_at [] n = record { addr = record { 0 = 0 ∷ 0 ∷ 0 ∷ 0 ∷ [] }; port = 0 }
source_at (relay ∷ relays) zero = relay.source
source_at (relay ∷ relays) (suc n) = source_at relays n

-- the part of each circuit, in the order of the configuration
abbrev pub parts_of : Settings → List CircuitPart
parts_of settings =
    map (λ circuit. part_of circuit (source_at settings.relays circuit.relay) settings.server.listen4 settings.server.listen6 settings.server.duid.items) settings.circuits

-- the part of the circuit of this index
abbrev pub part_in : Settings → ℕ → Option CircuitPart
part_in settings c = slice_get (parts_of settings) c

-- where the server receives datagrams of a protocol
abbrev pub listen_of : CircuitPart → Proto → Source
listen_of part V4 = part.listen4
listen_of part V6 = part.listen6

abbrev pub pool4_of : CircuitPart → PoolValue
pool4_of part = record { first = part.first4; count = part.count4; gateway = part.gateway4; lease = part.lease }

abbrev pub pool6_of : CircuitPart → Pool6Value
pool6_of part = record { first = record { 0 = part.first6 }; count = part.count6; lease = part.lease }

-- What a part has of the configuration's rules. Its gateway is a host of its subnet, so it is not 0.0.0.0.
pub record IsPart (part : CircuitPart) : Type 0 where
  pub id : IsCircuitId part.id
  pub pool4 : IsPool4 part.first4 part.count4 part.lease
  pub pool6 : IsPool6 (record { 0 = part.first6 }) part.count6 part.lease
  pub gateway4_size : length part.gateway4.0 ≡ 4
  pub gateway4 : is_unspecified part.gateway4.0 ≡ false
  pub link6_size : length part.link6 ≡ 16
  pub least_duid : 3 ≤ length part.duid
  pub most_duid : length part.duid ≤ 130
