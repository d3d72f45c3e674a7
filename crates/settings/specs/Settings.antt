-- What a configuration holds, and the limits of its values.
use Rattle.std.specs.Prelude.{◌+◌, ◌^◌, ◌≤◌, ◌<◌, List, length}
use Rattle.types.specs.Addr.{number6}
use Rattle.types.specs.CircuitId.{IsCircuitId}
use Rattle.types.specs.Pool4.{IsPool4}
use Rattle.settings.specs.declared.settings.ServerConfig.{ServerConfig}
use Rattle.settings.specs.declared.settings.RelayConfig.{RelayConfig}
use Rattle.settings.specs.declared.settings.CircuitConfig.{CircuitConfig}

-- what a configuration holds
pub record Settings : Type 0 where
  pub server : ServerConfig
  pub relays : List RelayConfig
  pub circuits : List CircuitConfig

-- the limits of the server's values
pub record IsServerWithinLimits (server : ServerConfig) : Type 0 where
  pub least_port4 : 1 ≤ server.listen4.port
  pub most_port4 : server.listen4.port ≤ 65535
  pub least_port6 : 1 ≤ server.listen6.port
  pub most_port6 : server.listen6.port ≤ 65535
  pub least_duid : 3 ≤ length server.duid.items
  pub most_duid : length server.duid.items ≤ 130

-- the limits of a relay's values
pub record IsRelayWithinLimits (relay : RelayConfig) : Type 0 where
  pub least_name : 1 ≤ length relay.name.items
  pub most_name : length relay.name.items ≤ 32
  pub least_port : 1 ≤ relay.source.port
  pub most_port : relay.source.port ≤ 65535

-- the limits of a circuit's values
pub record IsWithinLimits (relays : List RelayConfig) (circuit : CircuitConfig) : Type 0 where
  pub id : IsCircuitId circuit.id
  pub relay : circuit.relay < length relays
  pub region : circuit.region ≤ 1023
  pub pool4 : IsPool4 circuit.first4 circuit.count4 circuit.lease
  pub least_prefix4 : 8 ≤ circuit.prefix4
  pub most_prefix4 : circuit.prefix4 ≤ 30
  pub few_dns : length circuit.dns.items ≤ 4
  pub least_count6 : 1 ≤ circuit.count6
  pub most_count6 : circuit.count6 ≤ 16
  pub no_wrap6 : number6 circuit.first6 + circuit.count6 ≤ 2 ^ 128
