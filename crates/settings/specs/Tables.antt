-- What a text says at each table, entry and key of a configuration.
use Rattle.std.specs.Prelude.{ℕ, ℤ, List, Option, codes}
use Rattle.toml.specs.Data.{Data, Items, Members}
use Rattle.settings.specs.Field.{Field, Value, field_map, text_of, table_of, text_at, integer_at, table_at, list_at, each}

pub record ServerKeys : Type 0 where
  pub listen4 : Field (List ℕ)
  pub listen6 : Field (List ℕ)
  pub duid : Field (List ℕ)

pub record RelayKeys : Type 0 where
  pub name : Field (List ℕ)
  pub source : Field (List ℕ)

pub record CircuitKeys : Type 0 where
  pub id : Field (List ℕ)
  pub relay : Field (List ℕ)
  pub region : Field ℤ
  pub lease : Field ℤ
  pub gateway4 : Field (List ℕ)
  pub prefix4 : Field ℤ
  pub first4 : Field (List ℕ)
  pub count4 : Field ℤ
  pub dns : Field (List (Field (List ℕ)))
  pub link6 : Field (List ℕ)
  pub first6 : Field (List ℕ)
  pub count6 : Field ℤ

pub record Tables : Type 0 where
  pub server : Field ServerKeys
  pub relays : Field (List (Field RelayKeys))
  pub circuits : Field (List (Field CircuitKeys))

abbrev pub server_keys : Members → ServerKeys
server_keys keys = record {
  listen4 = text_at (codes "listen4") keys;
  listen6 = text_at (codes "listen6") keys;
  duid = text_at (codes "duid") keys;
}

abbrev pub relay_keys : Members → RelayKeys
relay_keys keys = record {
  name = text_at (codes "name") keys;
  source = text_at (codes "source") keys;
}

abbrev pub circuit_keys : Members → CircuitKeys
circuit_keys keys = record {
  id = text_at (codes "id") keys;
  relay = text_at (codes "relay") keys;
  region = integer_at (codes "region") keys;
  lease = integer_at (codes "lease") keys;
  gateway4 = text_at (codes "gateway4") keys;
  prefix4 = integer_at (codes "prefix4") keys;
  first4 = text_at (codes "first4") keys;
  count4 = integer_at (codes "count4") keys;
  dns = field_map (each text_of) (list_at (codes "dns") keys);
  link6 = text_at (codes "link6") keys;
  first6 = text_at (codes "first6") keys;
  count6 = integer_at (codes "count6") keys;
}

-- an entry of an array of tables
abbrev pub relay_entry : Option Data → Field RelayKeys
relay_entry entry = field_map relay_keys (table_of entry)

abbrev pub circuit_entry : Option Data → Field CircuitKeys
circuit_entry entry = field_map circuit_keys (table_of entry)

-- the tables of a text
abbrev pub tables_of : Members → Tables
tables_of doc = record {
  server = field_map server_keys (table_at (codes "server") doc);
  relays = field_map (each relay_entry) (list_at (codes "relay") doc);
  circuits = field_map (each circuit_entry) (list_at (codes "circuit") doc);
}

-- tables that were found
abbrev pub found_tables : Members → Items → Items → Tables
found_tables server relays circuits = record {
  server = Value (server_keys server);
  relays = Value (each relay_entry relays);
  circuits = Value (each circuit_entry circuits);
}
