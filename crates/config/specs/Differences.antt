-- What differs between configurations of one server: 50 and 51.
use Rattle.std.specs.Prelude.{◌≡◌, ◌≢◌, ℕ, ◌<◌, List, length, All, Contains}
use Rattle.settings.specs.declared.differences.ServerPart.{ServerPart}
use Rattle.settings.specs.declared.differences.ServerPart.TheVariants.{Server, Relay, RelayCount}
use Rattle.settings.specs.declared.differences.ServerDifference.{ServerDifference}
use Rattle.settings.specs.declared.differences.CircuitDifference.{CircuitDifference}
use Rattle.settings.specs.declared.names.ServerKey.{ServerKey}
use Rattle.settings.specs.declared.names.ServerKey.TheVariants.{Listen4, Listen6, Duid}
use Rattle.settings.specs.declared.names.RelayKey.{RelayKey}
use Rattle.settings.specs.declared.names.RelayKey.TheVariants.{Name, Source as SourceKey}
use Rattle.settings.specs.declared.names.CircuitKey.{CircuitKey}
use Rattle.settings.specs.declared.names.CircuitKey.TheVariants.{Id, Relay as RelayOf, Region, Lease, Gateway4, Prefix4, First4, Count4, Dns, Link6, First6, Count6}
use Rattle.settings.specs.declared.settings.ServerConfig.{ServerConfig}
use Rattle.settings.specs.declared.settings.RelayConfig.{RelayConfig}
use Rattle.settings.specs.declared.settings.CircuitConfig.{CircuitConfig}
use Rattle.settings.specs.Broken.{IsEntry}
use Rattle.settings.specs.Settings.{Settings}

-- two configurations have the same server and the same relays
pub record SharesServer (one other : Settings) : Type 0 where
  pub server : other.server ≡ one.server
  pub relays : other.relays ≡ one.relays

-- circuits of two configurations that have one id have the same values
abbrev pub CircuitsAgree : Settings → Settings → Type 0
CircuitsAgree one other = All (λ d. All (λ c. c.id ≡ d.id → c ≡ d) one.circuits) other.circuits

-- the values at this key differ
abbrev pub ServerKeyDiffers : ServerConfig → ServerConfig → ServerKey → Type 0
ServerKeyDiffers a b Listen4 = a.listen4 ≢ b.listen4
ServerKeyDiffers a b Listen6 = a.listen6 ≢ b.listen6
ServerKeyDiffers a b Duid = a.duid.items ≢ b.duid.items

abbrev pub RelayKeyDiffers : RelayConfig → RelayConfig → RelayKey → Type 0
RelayKeyDiffers a b Name = a.name.items ≢ b.name.items
RelayKeyDiffers a b SourceKey = a.source ≢ b.source

abbrev pub CircuitKeyDiffers : CircuitConfig → CircuitConfig → CircuitKey → Type 0
CircuitKeyDiffers a b Id = a.id ≢ b.id
CircuitKeyDiffers a b RelayOf = a.relay ≢ b.relay
CircuitKeyDiffers a b Region = a.region ≢ b.region
CircuitKeyDiffers a b Lease = a.lease ≢ b.lease
CircuitKeyDiffers a b Gateway4 = a.gateway4 ≢ b.gateway4
CircuitKeyDiffers a b Prefix4 = a.prefix4 ≢ b.prefix4
CircuitKeyDiffers a b First4 = a.first4 ≢ b.first4
CircuitKeyDiffers a b Count4 = a.count4 ≢ b.count4
CircuitKeyDiffers a b Dns = a.dns.items ≢ b.dns.items
CircuitKeyDiffers a b Link6 = a.link6 ≢ b.link6
CircuitKeyDiffers a b First6 = a.first6 ≢ b.first6
CircuitKeyDiffers a b Count6 = a.count6 ≢ b.count6

-- the relays of this number, whose values at this key differ
pub record RelayDiffers (first other : List RelayConfig) (number : ℕ) (key : RelayKey) : Type 0 where
  pub one : RelayConfig
  pub two : RelayConfig
  pub one_is : IsEntry first number one
  pub two_is : IsEntry other number two
  pub differs : RelayKeyDiffers one two key

-- this part of the server and its relays is not that of the first configuration
abbrev pub PartDiffers : Settings → Settings → ServerPart → Type 0
PartDiffers first other (Server key) = ServerKeyDiffers first.server other.server key
PartDiffers first other (Relay number key) = RelayDiffers first.relays other.relays number key
PartDiffers first other (RelayCount count of_first) = (length other.relays ≡ count) × (length first.relays ≡ of_first) × (count ≢ of_first)

-- 50
pub record IsServerDifference (all : List Settings) (difference : ServerDifference) : Type 0 where
  pub first : Settings
  pub other : Settings
  pub first_is : IsEntry all 1 first
  pub other_is : IsEntry all difference.number other
  pub differs : PartDiffers first other difference.part

-- a configuration has a circuit of this one's id, with a different value at this key
pub record IsDifferentIn (settings : Settings) (circuit : CircuitConfig) (key : CircuitKey) : Type 0 where
  pub other : CircuitConfig
  pub there : Contains settings.circuits other
  pub id : other.id ≡ circuit.id
  pub differs : CircuitKeyDiffers other circuit key

-- a circuit of the second has this id, and the first has one that differs from it
pub record CircuitDiffers (one other : Settings) (id : List ℕ) (key : CircuitKey) : Type 0 where
  pub circuit : CircuitConfig
  pub there : Contains other.circuits circuit
  pub named : circuit.id ≡ id
  pub differs : IsDifferentIn one circuit key

-- 51
pub record IsCircuitDifference (all : List Settings) (difference : CircuitDifference) : Type 0 where
  pub one : Settings
  pub other : Settings
  pub one_is : IsEntry all difference.one one
  pub other_is : IsEntry all difference.other other
  pub ordered : difference.one < difference.other
  pub differs : CircuitDiffers one other difference.id difference.key
