-- The rules about a configuration's values, for any number of relays and circuits.
use Rattle.std.specs.Prelude.{◌≡◌, ◌≢◌, ℕ, ◌+◌, ◌-◌, ◌/◌, ◌%◌, ◌^◌, ◌≤◌, ◌<◌, List, length, slice_get, option_map, Some, All, AllPairs}
use Rattle.types.specs.Addr.{number4, number6}
use Rattle.settings.specs.declared.settings.CircuitConfig.{CircuitConfig}
use Rattle.settings.specs.Settings.{Settings, IsServerWithinLimits, IsRelayWithinLimits, IsWithinLimits}

-- the addresses of a circuit's pools, as numbers
pub record IsInPool4 (circuit : CircuitConfig) (n : ℕ) : Type 0 where
  pub from : number4 circuit.first4 ≤ n
  pub below : n < number4 circuit.first4 + circuit.count4

pub record IsInPool6 (circuit : CircuitConfig) (n : ℕ) : Type 0 where
  pub from : number6 circuit.first6 ≤ n
  pub below : n < number6 circuit.first6 + circuit.count6

-- n has the first `prefix` bits of the gateway, and its other bits are neither all 0 nor all 1
pub record IsHost (prefix gateway n : ℕ) : Type 0 where
  pub network : n / 2 ^ (32 - prefix) ≡ gateway / 2 ^ (32 - prefix)
  pub not_first : n % 2 ^ (32 - prefix) ≢ 0
  pub not_last : n % 2 ^ (32 - prefix) ≢ 2 ^ (32 - prefix) - 1

-- rule 44
pub record NamesDiffer (settings : Settings) : Type 0 where
  pub ids : AllPairs (λ c d. c.id ≢ d.id) settings.circuits
  pub names : AllPairs (λ r s. r.name.items ≢ s.name.items) settings.relays
  pub listens : settings.server.listen4 ≢ settings.server.listen6
  pub sources : AllPairs (λ r s. r.source ≢ s.source) settings.relays
  pub not_listen4 : All (λ r. r.source ≢ settings.server.listen4) settings.relays
  pub not_listen6 : All (λ r. r.source ≢ settings.server.listen6) settings.relays

-- rule 45
abbrev pub RegionsDiffer : Settings → Type 0
RegionsDiffer settings = AllPairs (λ c d. c.region ≢ d.region) settings.circuits

-- rule 46
abbrev pub Pools4Apart : Settings → Type 0
Pools4Apart settings = AllPairs (λ c d. (n : ℕ) → IsInPool4 c n → ¬ IsInPool4 d n) settings.circuits

-- rule 47
abbrev pub Pools6Apart : Settings → Type 0
Pools6Apart settings = AllPairs (λ c d. (n : ℕ) → IsInPool6 c n → ¬ IsInPool6 d n) settings.circuits

-- rule 48
pub record GatewaysOutside (settings : Settings) : Type 0 where
  pub four : All (λ c. All (λ d. ¬ IsInPool4 d (number4 c.gateway4)) settings.circuits) settings.circuits
  pub six : All (λ c. All (λ d. ¬ IsInPool6 d (number6 c.link6)) settings.circuits) settings.circuits

-- rule 49, for one circuit
pub record IsOnSubnet (circuit : CircuitConfig) : Type 0 where
  pub gateway4 : IsHost circuit.prefix4 (number4 circuit.gateway4) (number4 circuit.gateway4)
  pub pool4 : (n : ℕ) → IsInPool4 circuit n → IsHost circuit.prefix4 (number4 circuit.gateway4) n
  -- the first 64 bits
  pub pool6 : (n : ℕ) → IsInPool6 circuit n → n / 2 ^ 64 ≡ number6 circuit.link6 / 2 ^ 64

-- rule 49
abbrev pub OnSubnets : Settings → Type 0
OnSubnets settings = All IsOnSubnet settings.circuits

-- rules 45 to 48, which are about the circuits alone
pub record CircuitsApart (settings : Settings) : Type 0 where
  pub regions : RegionsDiffer settings
  pub pools4 : Pools4Apart settings
  pub pools6 : Pools6Apart settings
  pub gateways : GatewaysOutside settings

-- rules 44 to 49
pub record KeepsRules (settings : Settings) : Type 0 where
  pub names : NamesDiffer settings
  pub regions : RegionsDiffer settings
  pub pools4 : Pools4Apart settings
  pub pools6 : Pools6Apart settings
  pub gateways : GatewaysOutside settings
  pub subnets : OnSubnets settings

-- what holds of every configuration that has been read
pub record IsSound (settings : Settings) : Type 0 where
  pub some_relay : 1 ≤ length settings.relays
  pub relays : length settings.relays ≤ 8
  pub some_circuit : 1 ≤ length settings.circuits
  pub circuits : length settings.circuits ≤ 1024
  pub server : IsServerWithinLimits settings.server
  pub each_relay : All IsRelayWithinLimits settings.relays
  pub limits : All (IsWithinLimits settings.relays) settings.circuits
  pub rules : KeepsRules settings

-- the circuit at this index has this id
abbrev pub IsIdAt : List CircuitConfig → ℕ → List ℕ → Type 0
IsIdAt circuits index id = option_map (λ circuit. circuit.id) (slice_get circuits index) ≡ Some id
