-- Rule 43: what the strings and integers at the keys stand for, each within its limits.
use Rattle.std.specs.Prelude.{◌≡◌, ℕ, ℤ, pos, ◌+◌, ◌^◌, ◌≤◌, List, [], ◌∷◌, length, slice_get, option_map, Some, Ok, ⊤}
use Rattle.hex.specs.Hex.{decode_sized}
use Rattle.types.specs.Addr.{number4, number6}
use Rattle.types.specs.CircuitId.{IsCircuitId}
use Rattle.types.specs.declared.addr.Addr4.{Addr4}
use Rattle.settings.specs.declared.settings.ServerConfig.{ServerConfig}
use Rattle.settings.specs.declared.settings.RelayConfig.{RelayConfig}
use Rattle.settings.specs.declared.settings.CircuitConfig.{CircuitConfig}
use Rattle.settings.specs.Field.{Field, Value, HasValue}
use Rattle.settings.specs.Tables.{ServerKeys, RelayKeys, CircuitKeys}
use Rattle.settings.specs.Texts.{IsAddress, IsSource, IsAddress6}

-- the integer n, from `least` to `most`
pub record IsNumber (field : Field ℤ) (least most n : ℕ) : Type 0 where
  pub value : field ≡ Value (pos n)
  pub from : least ≤ n
  pub to : n ≤ most

-- the string itself, of 1 to 32 bytes
pub record IsName (text name : List ℕ) : Type 0 where
  pub value : text ≡ name
  pub least : 1 ≤ length name
  pub most : length name ≤ 32

-- two hexadecimal digits of either case for each of the 3 to 130 bytes
pub record IsDuid (text duid : List ℕ) : Type 0 where
  pub spelled : decode_sized text (length duid) ≡ Ok duid
  pub least : 3 ≤ length duid
  pub most : length duid ≤ 130

-- the string itself, of 1 to 32 visible characters
pub record IsId (text id : List ℕ) : Type 0 where
  pub value : text ≡ id
  pub visible : IsCircuitId id

-- each string is an address, in order
abbrev pub AreAddresses : List (Field (List ℕ)) → List Addr4 → Type 0
AreAddresses [] [] = ⊤
AreAddresses (f ∷ fs) (a ∷ as_) = HasValue f (λ text. IsAddress text a) × AreAddresses fs as_
AreAddresses (f ∷ fs) [] = ⊥
AreAddresses [] (a ∷ as_) = ⊥

-- the relay at this index has this name
abbrev pub IsNameAt : List RelayConfig → ℕ → List ℕ → Type 0
IsNameAt relays index name = option_map (λ relay. relay.name.items) (slice_get relays index) ≡ Some name

pub record IsServer (keys : ServerKeys) (server : ServerConfig) : Type 0 where
  pub listen4 : HasValue keys.listen4 (λ text. IsSource text server.listen4)
  pub listen6 : HasValue keys.listen6 (λ text. IsSource text server.listen6)
  pub duid : HasValue keys.duid (λ text. IsDuid text server.duid.items)

pub record IsRelay (keys : RelayKeys) (relay : RelayConfig) : Type 0 where
  pub name : HasValue keys.name (λ text. IsName text relay.name.items)
  pub source : HasValue keys.source (λ text. IsSource text relay.source)

pub record IsCircuit (relays : List RelayConfig) (keys : CircuitKeys) (circuit : CircuitConfig) : Type 0 where
  pub id : HasValue keys.id (λ text. IsId text circuit.id)
  pub relay : HasValue keys.relay (IsNameAt relays circuit.relay)
  pub region : IsNumber keys.region 0 1023 circuit.region
  pub lease : IsNumber keys.lease 60 604800 circuit.lease
  pub gateway4 : HasValue keys.gateway4 (λ text. IsAddress text circuit.gateway4)
  pub prefix4 : IsNumber keys.prefix4 8 30 circuit.prefix4
  pub first4 : HasValue keys.first4 (λ text. IsAddress text circuit.first4)
  pub count4 : IsNumber keys.count4 1 16 circuit.count4
  pub no_wrap4 : number4 circuit.first4 + circuit.count4 ≤ 2 ^ 32
  pub dns : HasValue keys.dns (λ texts. AreAddresses texts circuit.dns.items)
  pub few_dns : length circuit.dns.items ≤ 4
  pub link6 : HasValue keys.link6 (λ text. IsAddress6 text circuit.link6)
  pub first6 : HasValue keys.first6 (λ text. IsAddress6 text circuit.first6)
  pub count6 : IsNumber keys.count6 1 16 circuit.count6
  pub no_wrap6 : number6 circuit.first6 + circuit.count6 ≤ 2 ^ 128
