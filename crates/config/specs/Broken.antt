-- What a fault of rules 44 to 49 points at: the entries, keys and values that break its rule.
use Rattle.std.specs.Prelude.{◌≡◌, ◌≢◌, ℕ, ◌^◌, ◌/◌, ◌<◌, Some}
use Rattle.types.specs.Addr.{number4, number6}
use Rattle.types.specs.declared.addr.Source.{Source}
use Rattle.settings.specs.declared.names.CircuitRef.{CircuitRef}
use Rattle.settings.specs.declared.names.CircuitKey.{CircuitKey}
use Rattle.settings.specs.declared.names.CircuitKey.TheVariants.{Gateway4, First4, Link6, First6}
use Rattle.settings.specs.declared.fault.SameName.{SameName}
use Rattle.settings.specs.declared.fault.SameName.TheVariants.{Ids, Names, Sources, Listens, Listen4 as RelayListen4, Listen6 as RelayListen6}
use Rattle.settings.specs.declared.settings.RelayConfig.{RelayConfig}
use Rattle.settings.specs.declared.settings.CircuitConfig.{CircuitConfig}
use Rattle.settings.specs.Broken.{IsEntry}
use Rattle.settings.specs.Settings.{Settings}
use Rattle.config.specs.Rules.{IsInPool4, IsInPool6, IsHost}

-- the values of a circuit that is named by its number and its id
pub record IsCircuitOf (settings : Settings) (named : CircuitRef) (circuit : CircuitConfig) : Type 0 where
  pub entry : IsEntry settings.circuits named.number circuit
  pub id : named.id ≡ Some circuit.id

-- two circuits, the first before the second, of which this holds
pub record AreTwo (settings : Settings) (first second : CircuitRef) (R : CircuitConfig → CircuitConfig → Type 0) : Type 0 where
  pub one : CircuitConfig
  pub other : CircuitConfig
  pub one_is : IsCircuitOf settings first one
  pub other_is : IsCircuitOf settings second other
  pub ordered : first.number < second.number
  pub related : R one other

-- the same of two relays by their numbers
pub record AreTwoRelays (settings : Settings) (first second : ℕ) (R : RelayConfig → RelayConfig → Type 0) : Type 0 where
  pub one : RelayConfig
  pub other : RelayConfig
  pub one_is : IsEntry settings.relays first one
  pub other_is : IsEntry settings.relays second other
  pub ordered : first < second
  pub related : R one other

-- a relay whose source is this one
pub record HasSource (settings : Settings) (number : ℕ) (source : Source) : Type 0 where
  pub relay : RelayConfig
  pub is : IsEntry settings.relays number relay
  pub same : relay.source ≡ source

-- rule 44
abbrev pub AreSame : Settings → SameName → Type 0
AreSame s (Ids first second) = AreTwo s first second (λ c d. c.id ≡ d.id)
AreSame s (Names first second) = AreTwoRelays s first second (λ r q. r.name.items ≡ q.name.items)
AreSame s (Sources first second) = AreTwoRelays s first second (λ r q. r.source ≡ q.source)
AreSame s Listens = s.server.listen4 ≡ s.server.listen6
AreSame s (RelayListen4 number) = HasSource s number s.server.listen4
AreSame s (RelayListen6 number) = HasSource s number s.server.listen6

-- rule 45
abbrev pub ShareRegion : Settings → CircuitRef → CircuitRef → Type 0
ShareRegion s first second = AreTwo s first second (λ c d. c.region ≡ d.region)

-- rule 46
abbrev pub SharePool4 : Settings → CircuitRef → CircuitRef → Type 0
SharePool4 s first second = AreTwo s first second (λ c d. (n : ℕ) × IsInPool4 c n × IsInPool4 d n)

-- rule 47
abbrev pub SharePool6 : Settings → CircuitRef → CircuitRef → Type 0
SharePool6 s first second = AreTwo s first second (λ c d. (n : ℕ) × IsInPool6 c n × IsInPool6 d n)

-- a circuit whose value is in another's pool, or in its own
pub record IsInside (settings : Settings) (circuit owner : CircuitRef) (R : CircuitConfig → CircuitConfig → Type 0) : Type 0 where
  pub one : CircuitConfig
  pub other : CircuitConfig
  pub one_is : IsCircuitOf settings circuit one
  pub other_is : IsCircuitOf settings owner other
  pub related : R one other

-- rule 48
abbrev pub IsGatewayInPool : Settings → CircuitRef → CircuitKey → CircuitRef → Type 0
IsGatewayInPool s circuit Gateway4 owner = IsInside s circuit owner (λ c d. IsInPool4 d (number4 c.gateway4))
IsGatewayInPool s circuit Link6 owner = IsInside s circuit owner (λ c d. IsInPool6 d (number6 c.link6))
IsGatewayInPool s circuit key owner = ⊥

-- a circuit of which this holds
pub record IsOne (settings : Settings) (named : CircuitRef) (P : CircuitConfig → Type 0) : Type 0 where
  pub circuit : CircuitConfig
  pub is : IsCircuitOf settings named circuit
  pub holds : P circuit

-- rule 49: the gateway, or an address of the pool that begins at this key
abbrev pub IsOffSubnet : Settings → CircuitRef → CircuitKey → Type 0
IsOffSubnet s named Gateway4 = IsOne s named (λ c. ¬ IsHost c.prefix4 (number4 c.gateway4) (number4 c.gateway4))
IsOffSubnet s named First4 = IsOne s named (λ c. (n : ℕ) × IsInPool4 c n × ¬ IsHost c.prefix4 (number4 c.gateway4) n)
IsOffSubnet s named First6 = IsOne s named (λ c. (n : ℕ) × IsInPool6 c n × (n / 2 ^ 64 ≢ number6 c.link6 / 2 ^ 64))
IsOffSubnet s named key = ⊥
