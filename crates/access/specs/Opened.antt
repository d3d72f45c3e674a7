-- What is opened for relay and server, in the code. Only proofs need this.
use Rattle.std.specs.Prelude.{◌≡◌, ◌≤◌, ◌<◌, ◌+◌, ◌*◌, ℕ, All, length}
use Rattle.config.specs.CircuitPart.{parts_of}
use Rattle.config.specs.Topology.{IsTopology, topology_of}
use Rattle.counts.specs.Tally.{nothing_taken}
use Rattle.dispatch.specs.Regions.{HasRegions}
use Rattle.dispatch.specs.ServerValue.{BeginsAsFound, HaveSettledRegions}
use Rattle.lease_disk.specs.FileDisk.{FileDiskValue, doubt_of}
use Rattle.settings.specs.Settings.{Settings}
use Rattle.sockets.specs.Sockets.{AreBound}
use Rattle.sockets.specs.declared.sockets.CircuitSockets.{CircuitSockets}
use Rattle.sockets.specs.declared.sockets.Sockets.{Sockets}
use Rattle.access.specs.declared.access.Engine.{Engine}

-- Relays and server of this configuration, over this device.
pub record IsEngine (config : Settings) (disk : FileDiskValue) (engine : Engine) : Type 0 where
  pub topology : engine.relays.topology ≡ topology_of config
  pub sound : IsTopology (topology_of config)
  pub served : engine.server.topology ≡ topology_of config
  pub found : BeginsAsFound engine.server
  pub settled : HaveSettledRegions (doubt_of engine.disk) engine.server
  pub large : HasRegions (parts_of config) engine.disk.regions
  pub count : engine.disk.regions ≡ disk.regions
  pub formats : length engine.formats.items ≡ length config.circuits
  pub least : disk.reads + length config.circuits ≤ engine.disk.reads
  pub reads : engine.disk.reads ≤ disk.reads + 6 * length config.circuits
  pub writes : engine.disk.writes ≤ disk.writes + 4 * length config.circuits
  pub tally : engine.tally ≡ nothing_taken (length config.circuits)

-- Each circuit and each relay of this configuration has its sockets, which have this history, and each circuit's relay is there.
pub record AreSocketsOf (config : Settings) (port history : ℕ) (sockets : Sockets) : Type 0 where
  pub circuits : length sockets.circuits.items ≡ length config.circuits
  pub relays : length sockets.relays.items ≡ length config.relays
  pub behind : All (λ (circuit : CircuitSockets). circuit.relay < length config.relays) sockets.circuits.items
  pub bound : AreBound (topology_of config) port history sockets
