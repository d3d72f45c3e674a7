-- The words of a fault.
use Rattle.std.specs.Prelude.{ℕ, List, ◌++◌, Option, Some, None, codes, decimal}
use Rattle.std.specs.Fmt.{signed_decimal}
use Rattle.settings.specs.declared.names.CircuitRef.{CircuitRef}
use Rattle.settings.specs.declared.names.TableName.TheVariants as table
use Rattle.settings.specs.declared.names.ServerKey.{ServerKey}
use Rattle.settings.specs.declared.names.ServerKey.TheVariants as server
use Rattle.settings.specs.declared.names.RelayKey.{RelayKey}
use Rattle.settings.specs.declared.names.RelayKey.TheVariants as relay
use Rattle.settings.specs.declared.names.CircuitKey.{CircuitKey}
use Rattle.settings.specs.declared.names.CircuitKey.TheVariants as circuit
use Rattle.settings.specs.declared.limit_fault.Outside.{Outside}
use Rattle.settings.specs.declared.limit_fault.CircuitLimit.{CircuitLimit}
use Rattle.settings.specs.declared.limit_fault.CircuitLimit.TheVariants.{Number, Form, PastLast4, PastLast6}
use Rattle.settings.specs.declared.limit_fault.LimitFault.{LimitFault}
use Rattle.settings.specs.declared.limit_fault.LimitFault.TheVariants.{Relays, Circuits, Server, Relay, Circuit}
use Rattle.settings.specs.declared.fault.Location.{Location}
use Rattle.settings.specs.declared.fault.Location.TheVariants.{Table, Server as AtServer, Relay as AtRelay, Circuit as AtCircuit}
use Rattle.settings.specs.declared.fault.ConfigFault.{ConfigFault}
use Rattle.settings.specs.declared.fault.ConfigFault.TheVariants.{Memory, Text, Missing, Limit, IdTwice, RegionTwice, Overlap4, Overlap6, GatewayInPool, OffSubnet, ServerDiffers, CircuitDiffers}
use Rattle.settings.specs.declared.fault.SameName.{SameName}
use Rattle.settings.specs.declared.fault.SameName.TheVariants.{Ids, Names, Sources, Listens, Listen4, Listen6}
use Rattle.settings.specs.Differences.{server_difference_words, circuit_difference_words}
use Rattle.settings.specs.Names.{table_name, server_key, relay_key, circuit_key}

-- a circuit's id between quotation marks, or its number if it has none that can be read
abbrev pub id_or_number : Option (List ℕ) → ℕ → List ℕ
id_or_number (Some id) number = codes "\"" ++ (id ++ codes "\"")
id_or_number None number = decimal number

abbrev pub circuit_name : CircuitRef → List ℕ
circuit_name circuit = id_or_number circuit.id circuit.number

-- what the value at a key has to be: its type
abbrev pub circuit_kind : CircuitKey → List ℕ
circuit_kind circuit.Relay = codes "the name of a relay"
circuit_kind circuit.Dns = codes "an array of strings"
circuit_kind circuit.Region = codes "an integer"
circuit_kind circuit.Lease = codes "an integer"
circuit_kind circuit.Prefix4 = codes "an integer"
circuit_kind circuit.Count4 = codes "an integer"
circuit_kind circuit.Count6 = codes "an integer"
circuit_kind circuit.Id = codes "a string"
circuit_kind circuit.Gateway4 = codes "a string"
circuit_kind circuit.First4 = codes "a string"
circuit_kind circuit.Link6 = codes "a string"
circuit_kind circuit.First6 = codes "a string"

-- what the value at a key has to be: its form
abbrev pub server_form : ServerKey → List ℕ
server_form server.Listen4 = codes "an address and port such as 10.0.0.1:67"
server_form server.Listen6 = codes "an address and port such as 10.0.0.1:67"
server_form server.Duid = codes "3 to 130 bytes in hexadecimal"

abbrev pub relay_form : RelayKey → List ℕ
relay_form relay.Name = codes "1 to 32 bytes"
relay_form relay.Source = codes "an address and port such as 10.0.0.1:67"

abbrev pub circuit_form : CircuitKey → List ℕ
circuit_form circuit.Id = codes "1 to 32 visible ASCII characters"
circuit_form circuit.Relay = codes "the name of a relay"
circuit_form circuit.Region = codes "an integer"
circuit_form circuit.Lease = codes "an integer"
circuit_form circuit.Gateway4 = codes "an address such as 10.0.0.1"
circuit_form circuit.Prefix4 = codes "an integer"
circuit_form circuit.First4 = codes "an address such as 10.0.0.1"
circuit_form circuit.Count4 = codes "an integer"
circuit_form circuit.Dns = codes "a list of at most 4 addresses"
circuit_form circuit.Link6 = codes "32 hexadecimal digits"
circuit_form circuit.First6 = codes "32 hexadecimal digits"
circuit_form circuit.Count6 = codes "an integer"

-- rule 42
abbrev pub missing_words : Location → List ℕ
missing_words (Table table.Server) = codes "server is missing or not a table"
missing_words (Table name) = table_name name ++ codes " is missing or not an array of tables"
missing_words (AtServer key) = codes "server: " ++ (server_key key ++ codes " is missing or not a string")
missing_words (AtRelay number key) = codes "relay " ++ (decimal number ++ (codes ": " ++ (relay_key key ++ codes " is missing or not a string")))
missing_words (AtCircuit circuit key) = codes "circuit " ++ (circuit_name circuit ++ (codes ": " ++ (circuit_key key ++ (codes " is missing or not " ++ circuit_kind key))))

-- rule 43
abbrev pub outside_words : Outside → List ℕ
outside_words n = signed_decimal n.found ++ (codes " is outside " ++ (decimal n.least ++ (codes " to " ++ decimal n.most)))

abbrev pub circuit_limit_words : CircuitLimit → List ℕ
circuit_limit_words (Number key n) = circuit_key key ++ (codes " " ++ outside_words n)
circuit_limit_words (Form key) = circuit_key key ++ (codes " is not " ++ circuit_form key)
circuit_limit_words PastLast4 = codes "the DHCPv4 pool runs past the last IPv4 address"
circuit_limit_words PastLast6 = codes "the DHCPv6 pool runs past the last IPv6 address"

abbrev pub limit_words : LimitFault → List ℕ
limit_words (Relays count) = codes "the number of relays, " ++ (decimal count ++ codes ", is outside 1 to 8")
limit_words (Circuits count) = codes "the number of circuits, " ++ (decimal count ++ codes ", is outside 1 to 1024")
limit_words (Server key) = codes "server: " ++ (server_key key ++ (codes " is not " ++ server_form key))
limit_words (Relay number key) = codes "relay " ++ (decimal number ++ (codes ": " ++ (relay_key key ++ (codes " is not " ++ relay_form key))))
limit_words (Circuit circuit limit) = codes "circuit " ++ (circuit_name circuit ++ (codes ": " ++ circuit_limit_words limit))

-- rule 44
abbrev pub same_words : SameName → List ℕ
same_words (Ids first second) = codes "circuits " ++ (decimal first.number ++ (codes " and " ++ (decimal second.number ++ (codes " have the same id, " ++ circuit_name first))))
same_words (Names one other) = codes "relays " ++ (decimal one ++ (codes " and " ++ (decimal other ++ codes " have the same name")))
same_words (Sources one other) = codes "relays " ++ (decimal one ++ (codes " and " ++ (decimal other ++ codes " have the same source")))
same_words Listens = codes "server: listen4 and listen6 are the same"
same_words (Listen4 relay) = codes "the source of relay " ++ (decimal relay ++ codes " is the server's listen4")
same_words (Listen6 relay) = codes "the source of relay " ++ (decimal relay ++ codes " is the server's listen6")

-- rules 45 to 47
abbrev pub two_words : CircuitRef → CircuitRef → List ℕ → List ℕ
two_words first second what = codes "circuits " ++ (circuit_name first ++ (codes " and " ++ (circuit_name second ++ what)))

-- rule 48
abbrev pub in_pool_words : CircuitRef → CircuitKey → CircuitRef → List ℕ
in_pool_words circuit key owner =
    codes "circuit " ++ (circuit_name circuit ++ (codes ": " ++ (circuit_key key ++ (codes " is in the pool of circuit " ++ circuit_name owner))))

-- rule 49
abbrev pub off_subnet_words : CircuitKey → List ℕ
off_subnet_words circuit.First4 =
    codes "the pool at first4 is not within the subnet of gateway4, or includes the subnet's first or last address"
off_subnet_words circuit.First6 = codes "the pool at first6 is not within the /64 subnet of link6"
off_subnet_words key = codes "gateway4 is the first or last address of its subnet"

-- A fault. TOML's own words for a text that is not TOML are not defined here.
abbrev pub fault_words : ConfigFault → Option (List ℕ)
fault_words Memory = Some (codes "out of memory")
fault_words (Text error) = None
fault_words (Missing location) = Some (missing_words location)
fault_words (Limit limit) = Some (limit_words limit)
fault_words (IdTwice same) = Some (same_words same)
fault_words (RegionTwice first second) = Some (two_words first second (codes " have the same region"))
fault_words (Overlap4 first second) = Some (two_words first second (codes " share DHCPv4 addresses"))
fault_words (Overlap6 first second) = Some (two_words first second (codes " share DHCPv6 addresses"))
fault_words (GatewayInPool circuit key owner) = Some (in_pool_words circuit key owner)
fault_words (OffSubnet circuit key) = Some (codes "circuit " ++ (circuit_name circuit ++ (codes ": " ++ off_subnet_words key)))
fault_words (ServerDiffers difference) = Some (server_difference_words difference)
fault_words (CircuitDiffers difference) = Some (circuit_difference_words difference)
