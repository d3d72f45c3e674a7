-- How the code lays out what the network keeps. No public clause says anything of it.
use Rattle.std.specs.Prelude.{◌≡◌, ℕ, ◌+◌, ◌*◌, ◌<◌, ◌≤◌, List, map, length, slice_index_or}
use Rattle.std.specs.List.{range_with_len}
use Rattle.lossy_net.specs.Net.{Datagram, NetValue}
use Rattle.lossy_net.specs.Ring.{window, segment}
use Rattle.lossy_net.specs.declared.dir.Dir.{Dir}
use Rattle.lossy_net.specs.declared.dir.Dir.TheVariants.{Up, Down}
use Rattle.lossy_net.specs.declared.net.Net.TheInside.{Inside}
use Rattle.lossy_net.specs.declared.ring.Ring.{Ring}

abbrev pub ring_of : ℕ → Dir → ℕ
ring_of circuit Up = 2 * circuit
ring_of circuit Down = 2 * circuit + 1

abbrev pub ring_at : List Ring → ℕ → Ring
ring_at rings r = slice_index_or rings r (record { newest = 0; len = 0 })

-- the datagrams of ring r, the newest first
abbrev pub ring_items : ℕ → List Ring → List Datagram → ℕ → List Datagram
ring_items quota rings packets r = window (ring_at rings r).newest (ring_at rings r).len (segment quota r packets)

abbrev pub net_value : Inside → NetValue
net_value n = record {
  quota = n.quota;
  circuits = map (λ c. record {
    up = ring_items n.quota n.rings.items n.packets (ring_of c Up);
    down = ring_items n.quota n.rings.items n.packets (ring_of c Down);
  }) (range_with_len 0 n.circuits);
}

pub record IsRing (quota : ℕ) (ring : Ring) : Type 0 where
  pub newest : ring.newest < quota
  pub len : ring.len ≤ quota

pub record IsLaidOut (n : Inside) : Type 0 where
  pub least : 1 ≤ n.quota
  pub most : n.quota ≤ 256
  pub few : n.circuits ≤ 1024
  pub rings : length n.rings.items ≡ 2 * n.circuits
  pub packets : length n.packets ≡ 2 * n.circuits * n.quota
  pub each : (r : ℕ) → IsRing n.quota (ring_at n.rings.items r)
