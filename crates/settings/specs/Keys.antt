-- Rule 42: every table and key is present and of its type, and a circuit's `relay` is the name of a relay.
use Rattle.std.specs.Prelude.{◌≡◌, ◌⊎◌, ℕ, List, [], ◌∷◌, ⊤}
use Rattle.settings.specs.Field.{Field, Value, HasValue, IsThere}
use Rattle.settings.specs.Tables.{ServerKeys, RelayKeys, CircuitKeys, Tables}

-- each entry has a value, and this holds of it
abbrev pub AllThere : {A : Type 0} → (A → Type 0) → List (Field A) → Type 0
AllThere P [] = ⊤
AllThere P (f ∷ fs) = HasValue f P × AllThere P fs

-- some entry has a value of which this holds
abbrev pub AnyThere : {A : Type 0} → (A → Type 0) → List (Field A) → Type 0
AnyThere P [] = ⊥
AnyThere P (f ∷ fs) = HasValue f P ⊎ AnyThere P fs

-- some relay has this name
abbrev pub IsRelayName : List (Field RelayKeys) → List ℕ → Type 0
IsRelayName relays name = AnyThere (λ relay. relay.name ≡ Value name) relays

pub record HasServerKeys (server : ServerKeys) : Type 0 where
  pub listen4 : IsThere server.listen4
  pub listen6 : IsThere server.listen6
  pub duid : IsThere server.duid

pub record HasRelayKeys (relay : RelayKeys) : Type 0 where
  pub name : IsThere relay.name
  pub source : IsThere relay.source

pub record HasCircuitKeys (relays : List (Field RelayKeys)) (circuit : CircuitKeys) : Type 0 where
  pub id : IsThere circuit.id
  pub relay : HasValue circuit.relay (IsRelayName relays)
  pub region : IsThere circuit.region
  pub lease : IsThere circuit.lease
  pub gateway4 : IsThere circuit.gateway4
  pub prefix4 : IsThere circuit.prefix4
  pub first4 : IsThere circuit.first4
  pub count4 : IsThere circuit.count4
  pub dns : HasValue circuit.dns (AllThere (λ _. ⊤))
  pub link6 : IsThere circuit.link6
  pub first6 : IsThere circuit.first6
  pub count6 : IsThere circuit.count6

pub record HasAll (tables : Tables) : Type 0 where
  pub server : HasValue tables.server HasServerKeys
  pub relays : HasValue tables.relays (AllThere HasRelayKeys)
  pub circuits : HasValue tables.relays (λ relays. HasValue tables.circuits (AllThere (HasCircuitKeys relays)))
