-- How the tables and keys of a configuration are spelled.
use Rattle.std.specs.Prelude.{ℕ, List, codes}
use Rattle.settings.specs.declared.names.TableName.{TableName}
use Rattle.settings.specs.declared.names.TableName.TheVariants as table
use Rattle.settings.specs.declared.names.ServerKey.{ServerKey}
use Rattle.settings.specs.declared.names.ServerKey.TheVariants as server
use Rattle.settings.specs.declared.names.RelayKey.{RelayKey}
use Rattle.settings.specs.declared.names.RelayKey.TheVariants as relay
use Rattle.settings.specs.declared.names.CircuitKey.{CircuitKey}
use Rattle.settings.specs.declared.names.CircuitKey.TheVariants as circuit

abbrev pub table_name : TableName → List ℕ
table_name table.Server = codes "server"
table_name table.Relay = codes "relay"
table_name table.Circuit = codes "circuit"

abbrev pub server_key : ServerKey → List ℕ
server_key server.Listen4 = codes "listen4"
server_key server.Listen6 = codes "listen6"
server_key server.Duid = codes "duid"

abbrev pub relay_key : RelayKey → List ℕ
relay_key relay.Name = codes "name"
relay_key relay.Source = codes "source"

abbrev pub circuit_key : CircuitKey → List ℕ
circuit_key circuit.Id = codes "id"
circuit_key circuit.Relay = codes "relay"
circuit_key circuit.Region = codes "region"
circuit_key circuit.Lease = codes "lease"
circuit_key circuit.Gateway4 = codes "gateway4"
circuit_key circuit.Prefix4 = codes "prefix4"
circuit_key circuit.First4 = codes "first4"
circuit_key circuit.Count4 = codes "count4"
circuit_key circuit.Dns = codes "dns"
circuit_key circuit.Link6 = codes "link6"
circuit_key circuit.First6 = codes "first6"
circuit_key circuit.Count6 = codes "count6"
