-- What relays and server know of a configuration.
use Rattle.std.specs.Prelude.{◌≡◌, ◌≢◌, ℕ, ◌≤◌, Bool, false, ◌||◌, ◌&&◌, List, length, map, Option, Some, None, All, slice_get, if◌then◌else◌}
use Rattle.std.specs.List.{list_any, position}
use Rattle.std.specs.Str.{bytes_eq}
use Rattle.types.specs.Addr.{same_source}
use Rattle.types.specs.declared.addr.Source.{Source}
use Rattle.types.specs.declared.dest.Proto.{Proto}
use Rattle.types.specs.declared.dest.Proto.TheVariants.{V4, V6}
use Rattle.settings.specs.Settings.{Settings}
use Rattle.config.specs.CircuitPart.{CircuitPart, IsPart, listen_of, parts_of}
use Rattle.config.specs.Membership.{IsMembership, MembershipValue, has, with_plan}
use Rattle.config.specs.Plans.{PlansValue, one_plan}

-- the server's addresses, where each relay's datagrams come from, each circuit's part, and which circuits are served
pub record Topology : Type 0 where
  pub listen4 : Source
  pub listen6 : Source
  pub relays : List Source
  pub circuits : List CircuitPart
  pub plans : MembershipValue

abbrev pub topology_with : Settings → MembershipValue → Topology
topology_with settings plans = record {
  listen4 = settings.server.listen4;
  listen6 = settings.server.listen6;
  relays = map (λ relay. relay.source) settings.relays;
  circuits = parts_of settings;
  plans = plans;
}

-- at the start the first plan is in force
abbrev pub plans_topology : PlansValue → Topology
plans_topology plans = topology_with plans.union (record { count = plans.count; members = plans.members; plan = 0 })

abbrev pub topology_of : Settings → Topology
topology_of settings = plans_topology (one_plan settings)

-- whether the plan in force has this circuit
abbrev pub serves : Topology → ℕ → Bool
serves topology c = has topology.plans topology.plans.plan c

-- another plan is in force, if there is such a plan
abbrev pub reloaded : ℕ → Topology → Topology
reloaded plan topology = record topology { plans = with_plan plan topology.plans }

-- the server's address of each protocol
abbrev pub listen : Topology → Proto → Source
listen topology V4 = topology.listen4
listen topology V6 = topology.listen6

-- whether datagrams from this source are a relay's, or the server's
abbrev pub is_relay : Topology → Source → Bool
is_relay topology source = list_any (same_source source) topology.relays

abbrev pub is_server : Topology → Source → Bool
is_server topology source = same_source source topology.listen4 || same_source source topology.listen6

-- ---- the circuit that a datagram names

-- whether the circuit has exactly this id
abbrev pub has_id : Option (List ℕ) → CircuitPart → Bool
has_id None part = false
has_id (Some id) part = bytes_eq id part.id

-- the circuit of this index, if it is the relay's that sends from here, and is served
abbrev pub circuit_found : Source → ℕ → Bool → Option CircuitPart → Option (ℕ × CircuitPart)
circuit_found relay c served None = None
circuit_found relay c served (Some part) = if same_source part.relay relay && served then Some (c, part) else None

abbrev pub circuit_at_index : Topology → Source → Option ℕ → Option (ℕ × CircuitPart)
circuit_at_index topology relay None = None
circuit_at_index topology relay (Some c) = circuit_found relay c (serves topology c) (slice_get topology.circuits c)

-- The index and the part of the circuit of exactly this id, which has to be one of the relay that sends from
-- this source, and served.
abbrev pub relay_circuit : Topology → Source → Option (List ℕ) → Option (ℕ × CircuitPart)
relay_circuit topology relay id = circuit_at_index topology relay (position (has_id id) topology.circuits)

-- ---- what the rules of a configuration make of it

-- no two circuits have one region
abbrev pub RegionsDiffer : List CircuitPart → Type 0
RegionsDiffer parts =
    (c d : ℕ) (one other : CircuitPart) → slice_get parts c ≡ Some one → slice_get parts d ≡ Some other → one.region ≡ other.region → c ≡ d

pub record IsTopology (topology : Topology) : Type 0 where
  pub few_relays : length topology.relays ≤ 8
  pub few_circuits : length topology.circuits ≤ 1024
  pub parts : All IsPart topology.circuits
  pub listens_differ : topology.listen4 ≢ topology.listen6
  -- the server's addresses are in each part
  pub listens : (c : ℕ) (part : CircuitPart) (proto : Proto) → slice_get topology.circuits c ≡ Some part → listen_of part proto ≡ listen topology proto
  -- the relay of each circuit is there, by its index
  pub relay : (c : ℕ) (part : CircuitPart) → slice_get topology.circuits c ≡ Some part → (r : ℕ) × (slice_get topology.relays r ≡ Some part.relay)
  -- no two circuits have one id
  pub ids : (c : ℕ) (part : CircuitPart) → slice_get topology.circuits c ≡ Some part
      → (d : ℕ) (other : CircuitPart) → slice_get topology.circuits d ≡ Some other → other.id ≡ part.id → d ≡ c
  pub regions : RegionsDiffer topology.circuits
  pub plans : IsMembership (length topology.circuits) topology.plans
