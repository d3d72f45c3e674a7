-- Addresses that sockets can be bound to, though they serve nobody, or too many.
use Rattle.std.specs.Prelude.{◌≡◌, ◌<◌, ◌⊎◌, ◌||◌, ◌==◌, ℕ, Bool, true, false, List, ◌∷◌, length, map, Option, Some, None, nat_le, slice_get}
use Rattle.types.specs.Addr.{is_unspecified, number4}
use Rattle.types.specs.declared.addr.Addr4.{Addr4}
use Rattle.types.specs.declared.addr.Source.{Source}
use Rattle.types.specs.declared.dest.Proto.{Proto}
use Rattle.types.specs.declared.dest.Proto.TheVariants.{V4, V6}
use Rattle.settings.specs.Settings.{Settings}
use Rattle.sockets.specs.Sockets.{client_port}
use Rattle.sockets.specs.declared.warnings.Warning.{Warning}
use Rattle.sockets.specs.declared.warnings.Warning.TheVariants.{EveryInterface, Group, Clients}

-- 224.0.0.0 and above: multicast groups, reserved addresses and the limited broadcast address (RFC 1112, section 4); or 127.255.255.255
abbrev pub is_group : Addr4 → Bool
is_group addr = nat_le 3758096384 (number4 addr) || (number4 addr == 2147483647)

-- Frames towards the clients of this circuit go to this address.
abbrev pub IsClients : ℕ → ℕ → Source → ℕ → Type 0
IsClients port circuits at c = (c < circuits) × ((at ≡ client_port port c V4) ⊎ (at ≡ client_port port c V6))

abbrev pub IsNoClients : ℕ → ℕ → Source → Type 0
IsNoClients port circuits at = (c : ℕ) → ¬ IsClients port circuits at c

-- what is said of an address: the first of these that holds
abbrev pub IsWarned : ℕ → ℕ → Source → Option Warning → Type 0
IsWarned port circuits at (Some EveryInterface) = is_unspecified at.addr.0 ≡ true
IsWarned port circuits at (Some Group) = (is_unspecified at.addr.0 ≡ false) × (is_group at.addr ≡ true)
IsWarned port circuits at (Some (Clients c)) = (is_unspecified at.addr.0 ≡ false) × (is_group at.addr ≡ false) × IsClients port circuits at c
IsWarned port circuits at None = (is_unspecified at.addr.0 ≡ false) × (is_group at.addr ≡ false) × IsNoClients port circuits at

-- ---- addresses that a service can't have

-- Frames towards the clients of circuit c reach this address: it has the port to which they go for a protocol, and is either the address
-- to which they go or 0.0.0.0, which listens on every interface and so there too.
abbrev pub ReceivesClients : ℕ → ℕ → Source → Type 0
ReceivesClients port c at = (proto : Proto) × (at.port ≡ (client_port port c proto).port) × ((at.addr ≡ (client_port port c proto).addr) ⊎ (is_unspecified at.addr.0 ≡ true))

-- one of so many circuits
abbrev pub ReceivesSomeClients : ℕ → ℕ → Source → Type 0
ReceivesSomeClients port circuits at = (c : ℕ) × (c < circuits) × ReceivesClients port c at

-- the server's addresses and those of the relays, in the order in which they are looked at
abbrev pub addresses_of : Settings → List Source
addresses_of config = config.server.listen4 ∷ config.server.listen6 ∷ map (λ relay. relay.source) config.relays

-- Frames towards the clients of one of the configuration's circuits reach this address, which is the n-th one.
abbrev pub IsClientsAddress : Settings → ℕ → ℕ → Source → Type 0
IsClientsAddress config port n at = (slice_get (addresses_of config) n ≡ Some at) × ReceivesSomeClients port (length config.circuits) at

abbrev pub IsFirstClientsAddress : Settings → ℕ → Source → Type 0
IsFirstClientsAddress config port at = (n : ℕ) × IsClientsAddress config port n at × ((m : ℕ) (other : Source) → m < n → ¬ IsClientsAddress config port m other)

abbrev pub HasNoClientsAddress : Settings → ℕ → Type 0
HasNoClientsAddress config port = (n : ℕ) (at : Source) → ¬ IsClientsAddress config port n at
