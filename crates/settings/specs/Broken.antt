-- What a fault of rules 42 and 43 points at: the entries, keys and values that break its rule.
use Rattle.std.specs.Prelude.{◌≡◌, ◌⊎◌, ℕ, ℤ, ◌+◌, ◌-◌, ◌^◌, ◌≤◌, ◌<◌, List, length, slice_get, Some, IfSome, IfNone, ⊤}
use Rattle.types.specs.Addr.{number4, number6}
use Rattle.types.specs.declared.addr.Addr4.{Addr4}
use Rattle.types.specs.declared.addr.Addr6.{Addr6}
use Rattle.types.specs.declared.addr.Source.{Source}
use Rattle.settings.specs.declared.names.CircuitRef.{CircuitRef}
use Rattle.settings.specs.declared.names.ServerKey.{ServerKey}
use Rattle.settings.specs.declared.names.ServerKey.TheVariants.{Listen4, Listen6, Duid}
use Rattle.settings.specs.declared.names.RelayKey.{RelayKey}
use Rattle.settings.specs.declared.names.RelayKey.TheVariants.{Name, Source as SourceKey}
use Rattle.settings.specs.declared.names.CircuitKey.{CircuitKey}
use Rattle.settings.specs.declared.names.CircuitKey.TheVariants.{Id, Relay as RelayOf, Region, Lease, Gateway4, Prefix4, First4, Count4, Dns, Link6, First6, Count6}
use Rattle.settings.specs.declared.limit_fault.Outside.{Outside}
use Rattle.settings.specs.declared.limit_fault.CircuitLimit.{CircuitLimit}
use Rattle.settings.specs.declared.limit_fault.CircuitLimit.TheVariants.{Number, Form, PastLast4, PastLast6}
use Rattle.settings.specs.declared.limit_fault.LimitFault.{LimitFault}
use Rattle.settings.specs.declared.limit_fault.LimitFault.TheVariants.{Relays, Circuits, Server, Relay, Circuit}
use Rattle.settings.specs.declared.names.TableName.TheVariants.{Server as ServerTable, Relay as RelayTable, Circuit as CircuitTable}
use Rattle.settings.specs.declared.fault.Location.{Location}
use Rattle.settings.specs.declared.fault.Location.TheVariants.{Table, Server as AtServer, Relay as AtRelay, Circuit as AtCircuit}
use Rattle.settings.specs.Field.{Field, Value, HasValue, IsThere}
use Rattle.settings.specs.Keys.{AllThere, IsRelayName}
use Rattle.settings.specs.Tables.{ServerKeys, RelayKeys, CircuitKeys, Tables}
use Rattle.settings.specs.Texts.{IsAddress, IsSource, IsAddress6}
use Rattle.settings.specs.Values.{IsNumber, IsName, IsDuid, IsId, AreAddresses}

-- the entry of this number, counted from 1
pub record IsEntry {A : Type 0} (entries : List A) (number : ℕ) (entry : A) : Type 0 where
  pub counted : 1 ≤ number
  pub there : slice_get entries (number - 1) ≡ Some entry

-- the entry has this circuit id
abbrev pub HasId : Field CircuitKeys → List ℕ → Type 0
HasId entry id = HasValue entry (λ keys. HasValue keys.id (λ text. IsId text id))

-- The entry of a circuit of the text, named with the id that the entry has, and without one only if it
-- has none.
pub record IsEntryOf (entries : List (Field CircuitKeys)) (circuit : CircuitRef) (entry : Field CircuitKeys) : Type 0 where
  pub is : IsEntry entries circuit.number entry
  pub id : IfSome circuit.id (HasId entry)
  pub no_id : IfNone circuit.id ((id : List ℕ) → ¬ HasId entry id)

-- rule 42

-- a key of the server, of a relay, of a circuit is present and of its type
abbrev pub HasServerKey : ServerKeys → ServerKey → Type 0
HasServerKey keys Listen4 = IsThere keys.listen4
HasServerKey keys Listen6 = IsThere keys.listen6
HasServerKey keys Duid = IsThere keys.duid

abbrev pub HasRelayKey : RelayKeys → RelayKey → Type 0
HasRelayKey keys Name = IsThere keys.name
HasRelayKey keys SourceKey = IsThere keys.source

abbrev pub HasCircuitKey : List (Field RelayKeys) → CircuitKeys → CircuitKey → Type 0
HasCircuitKey relays keys Id = IsThere keys.id
HasCircuitKey relays keys RelayOf = HasValue keys.relay (IsRelayName relays)
HasCircuitKey relays keys Region = IsThere keys.region
HasCircuitKey relays keys Lease = IsThere keys.lease
HasCircuitKey relays keys Gateway4 = IsThere keys.gateway4
HasCircuitKey relays keys Prefix4 = IsThere keys.prefix4
HasCircuitKey relays keys First4 = IsThere keys.first4
HasCircuitKey relays keys Count4 = IsThere keys.count4
HasCircuitKey relays keys Dns = HasValue keys.dns (AllThere (λ _. ⊤))
HasCircuitKey relays keys Link6 = IsThere keys.link6
HasCircuitKey relays keys First6 = IsThere keys.first6
HasCircuitKey relays keys Count6 = IsThere keys.count6

-- an entry in the array of relays, or of circuits, lacks this key; one that is not a table lacks every key
abbrev pub RelayLacks : List (Field RelayKeys) → ℕ → RelayKey → Type 0
RelayLacks entries number key = (entry : Field RelayKeys) × IsEntry entries number entry × ¬ HasValue entry (λ keys. HasRelayKey keys key)

abbrev pub CircuitLacks : List (Field RelayKeys) → List (Field CircuitKeys) → CircuitRef → CircuitKey → Type 0
CircuitLacks relays entries circuit key = (entry : Field CircuitKeys) × IsEntryOf entries circuit entry × ¬ HasValue entry (λ keys. HasCircuitKey relays keys key)

-- The table or the key that the fault names is missing.
abbrev pub IsMissing : Tables → Location → Type 0
IsMissing t (Table ServerTable) = ¬ IsThere t.server
IsMissing t (Table RelayTable) = ¬ IsThere t.relays
IsMissing t (Table CircuitTable) = ¬ IsThere t.circuits
IsMissing t (AtServer key) = HasValue t.server (λ keys. ¬ HasServerKey keys key)
IsMissing t (AtRelay number key) = HasValue t.relays (λ entries. RelayLacks entries number key)
IsMissing t (AtCircuit circuit key) = HasValue t.relays (λ relays. HasValue t.circuits (λ entries. CircuitLacks relays entries circuit key))

-- rule 43

-- the number at a key, which is not from `least` to `most`
pub record IsOutside (field : Field ℤ) (least most : ℕ) (number : Outside) : Type 0 where
  pub value : field ≡ Value number.found
  pub least_is : number.least ≡ least
  pub most_is : number.most ≡ most
  pub outside : (n : ℕ) → ¬ IsNumber field least most n

abbrev pub IsServerUnfit : ServerKeys → ServerKey → Type 0
IsServerUnfit keys Listen4 = (s : Source) → ¬ HasValue keys.listen4 (λ text. IsSource text s)
IsServerUnfit keys Listen6 = (s : Source) → ¬ HasValue keys.listen6 (λ text. IsSource text s)
IsServerUnfit keys Duid = (duid : List ℕ) → ¬ HasValue keys.duid (λ text. IsDuid text duid)

abbrev pub IsRelayUnfit : RelayKeys → RelayKey → Type 0
IsRelayUnfit keys Name = (name : List ℕ) → ¬ HasValue keys.name (λ text. IsName text name)
IsRelayUnfit keys SourceKey = (s : Source) → ¬ HasValue keys.source (λ text. IsSource text s)

-- a pool runs past the last address
pub record RunsPast4 (keys : CircuitKeys) : Type 0 where
  pub first : Addr4
  pub count : ℕ
  pub first_is : HasValue keys.first4 (λ text. IsAddress text first)
  pub count_is : IsNumber keys.count4 1 16 count
  pub past : 2 ^ 32 < number4 first + count

pub record RunsPast6 (keys : CircuitKeys) : Type 0 where
  pub first : Addr6
  pub count : ℕ
  pub first_is : HasValue keys.first6 (λ text. IsAddress6 text first)
  pub count_is : IsNumber keys.count6 1 16 count
  pub past : 2 ^ 128 < number6 first + count

abbrev pub IsCircuitUnfit : CircuitKeys → CircuitLimit → Type 0
IsCircuitUnfit keys (Number Region n) = IsOutside keys.region 0 1023 n
IsCircuitUnfit keys (Number Lease n) = IsOutside keys.lease 60 604800 n
IsCircuitUnfit keys (Number Prefix4 n) = IsOutside keys.prefix4 8 30 n
IsCircuitUnfit keys (Number Count4 n) = IsOutside keys.count4 1 16 n
IsCircuitUnfit keys (Number Count6 n) = IsOutside keys.count6 1 16 n
IsCircuitUnfit keys (Form Id) = (id : List ℕ) → ¬ HasValue keys.id (λ text. IsId text id)
IsCircuitUnfit keys (Form Gateway4) = (a : Addr4) → ¬ HasValue keys.gateway4 (λ text. IsAddress text a)
IsCircuitUnfit keys (Form First4) = (a : Addr4) → ¬ HasValue keys.first4 (λ text. IsAddress text a)
IsCircuitUnfit keys (Form Dns) = (as_ : List Addr4) → length as_ ≤ 4 → ¬ HasValue keys.dns (λ texts. AreAddresses texts as_)
IsCircuitUnfit keys (Form Link6) = (a : Addr6) → ¬ HasValue keys.link6 (λ text. IsAddress6 text a)
IsCircuitUnfit keys (Form First6) = (a : Addr6) → ¬ HasValue keys.first6 (λ text. IsAddress6 text a)
IsCircuitUnfit keys PastLast4 = RunsPast4 keys
IsCircuitUnfit keys PastLast6 = RunsPast6 keys
IsCircuitUnfit keys (Number key n) = ⊥
IsCircuitUnfit keys (Form key) = ⊥

-- The value or the number of entries that the fault names is outside its limits.
abbrev pub IsUnfit : Tables → LimitFault → Type 0
IsUnfit t (Relays n) = HasValue t.relays (λ entries. (length entries ≡ n) × ((n < 1) ⊎ (8 < n)))
IsUnfit t (Circuits n) = HasValue t.circuits (λ entries. (length entries ≡ n) × ((n < 1) ⊎ (1024 < n)))
IsUnfit t (Server key) = HasValue t.server (λ keys. IsServerUnfit keys key)
IsUnfit t (Relay number key) = HasValue t.relays (λ entries. (keys : RelayKeys) × IsEntry entries number (Value keys) × IsRelayUnfit keys key)
IsUnfit t (Circuit circuit limit) = HasValue t.circuits (λ entries. (keys : CircuitKeys) × IsEntryOf entries circuit (Value keys) × IsCircuitUnfit keys limit)
