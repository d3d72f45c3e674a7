-- The books of a circuit's machine, and what makes a book the circuit's.
use Rattle.std.specs.Prelude.{◌≡◌, ◌⊎◌, ℕ, ◌+◌, ◌<◌, ◌≤◌, List, IfSome, IsSomeAnd}
use Rattle.std.specs.FinMap.{get}
use Rattle.types.specs.Addr.{number4, number6}
use Rattle.types.specs.Key6.{Key6Value}
use Rattle.types.specs.declared.dest.Proto.{Proto}
use Rattle.types.specs.declared.dest.Proto.TheVariants.{V4, V6}
use Rattle.config.specs.CircuitPart.{CircuitPart}
use Rattle.circuit_server.specs.Server.{Book, IsBook}
use Rattle.world.specs.Alone.{Alone}

-- the open one, the one that was last saved, and the one in doubt, where they are
pub record HasBooks (IsOne : Book → Type 0) (a : Alone) : Type 0 where
  pub book : IfSome a.book IsOne
  pub kept : IfSome a.kept IsOne
  pub doubt : IfSome a.doubt IsOne

-- some client has this address, bound or, for DHCPv4, on offer
abbrev pub HasAddress : Proto → ℕ → Book → Type 0
HasAddress V4 address b = (client : List ℕ) × (IsSomeAnd (get b.four.bindings client) (λ lease. lease.address ≡ address) ⊎ IsSomeAnd (get b.four.offers client) (λ lease. lease.address ≡ address))
HasAddress V6 address b = (client : Key6Value) × IsSomeAnd (get b.six.bindings client) (λ lease. lease.address ≡ address)

-- the lowest address of the circuit's pool of a protocol, as a number, and how many addresses it has
abbrev pub first_of : CircuitPart → Proto → ℕ
first_of part V4 = number4 part.first4
first_of part V6 = number6 (record { 0 = part.first6 })

abbrev pub count_of : CircuitPart → Proto → ℕ
count_of part V4 = part.count4
count_of part V6 = part.count6

-- the address, as a number, is one of the circuit's pool of this protocol
pub record IsInPool (part : CircuitPart) (proto : Proto) (address : ℕ) : Type 0 where
  pub from : first_of part proto ≤ address
  pub below : address < first_of part proto + count_of part proto

-- A book of this circuit: what it binds or offers is in the circuit's pools.
pub record IsBookOf (part : CircuitPart) (b : Book) : Type 0 where
  pub book : IsBook b
  pub bindings4 : (client : List ℕ) → IfSome (get b.four.bindings client) (λ lease. IsInPool part V4 lease.address)
  pub offers4 : (client : List ℕ) → IfSome (get b.four.offers client) (λ lease. IsInPool part V4 lease.address)
  pub bindings6 : (client : Key6Value) → IfSome (get b.six.bindings client) (λ lease. IsInPool part V6 lease.address)
