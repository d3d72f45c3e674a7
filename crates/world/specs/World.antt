-- What shows of a world: a state for each circuit.
use Rattle.std.specs.Prelude.{ℕ, suc, List, [], ◌∷◌, slice_index, slice_index_or}
use Rattle.config.specs.CircuitPart.{CircuitPart}
use Rattle.config.specs.Membership.{has}
use Rattle.config.specs.Topology.{serves}
use Rattle.circuit_server.specs.Leases.{Leases}
use Rattle.dispatch.specs.ServerValue.{ServerValue, leases_in}
use Rattle.lease_disk.specs.Model.{ModelDiskValue}
use Rattle.lease_disk.specs.Model as disk
use Rattle.lossy_net.specs.Net.{NetValue, datagrams}
use Rattle.lossy_net.specs.declared.dir.Dir.TheVariants.{Up, Down}
use Rattle.relay.specs.Relays.{RelaysValue}
use Rattle.world.specs.Headline.{CircuitState}

pub record WorldValue : Type 0 where
  pub relays : RelaysValue
  pub net : NetValue
  pub server : ServerValue
  pub disk : ModelDiskValue

-- circuit c's state, with its part of the configuration and its leases
abbrev pub world_state : WorldValue → ℕ → CircuitPart → Leases → CircuitState
world_state w c part leases = record {
  setup = record { part = part; quota = w.net.quota; begins_on = has w.relays.topology.plans 0 c };
  plans = slice_index_or w.relays.topology.plans.members c [];
  on = serves w.relays.topology c;
  up = datagrams w.net c Up;
  down = datagrams w.net c Down;
  discarded = slice_index w.relays.discarded c;
  leases = leases;
  region = disk.disk_region w.disk part.region;
  failing_call = disk.failing_call_of w.disk part.region;
}

-- a state for each part and leases, in order
abbrev pub each_state : (ℕ → CircuitPart → Leases → CircuitState) → List CircuitPart → List Leases → List CircuitState
each_state state (part ∷ parts) (leases ∷ all) = state 0 part leases ∷ each_state (λ c. state (suc c)) parts all
each_state state (part ∷ parts) [] = []
each_state state [] all = []

abbrev pub states : WorldValue → List CircuitState
states w = each_state (world_state w) w.server.topology.circuits (leases_in (disk.disk_region w.disk) w.server)
