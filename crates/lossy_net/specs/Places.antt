-- How the code lays datagrams out in memory. No public clause says anything of it.
use Rattle.std.specs.Prelude.{◌≡◌, ℕ, ◌*◌, ◌≤◌, List, map, take, drop, length, slice_index_or}
use Rattle.std.specs.List.{range_with_len}
use Rattle.lossy_net.specs.Net.{Datagram}
use Rattle.lossy_net.specs.declared.packets.Head.{Head}
use Rattle.lossy_net.specs.declared.packets.Packets.TheInside.{Inside}
use Rattle.types.specs.declared.dest.Proto.TheVariants.{V4}

abbrev pub head_at : List Head → ℕ → Head
head_at heads p = slice_index_or heads p (record { proto = V4; len = 0 })

-- the datagram in place p, where each place has `room` bytes of the row
abbrev pub datagram_in : ℕ → List Head → List ℕ → ℕ → Datagram
datagram_in room heads bytes p = record {
  proto = (head_at heads p).proto;
  bytes = take (head_at heads p).len (drop (p * room) bytes);
}

abbrev pub datagrams_in : ℕ → List Head → List ℕ → List Datagram
datagrams_in room heads bytes = map (datagram_in room heads bytes) (range_with_len 0 (length heads))

abbrev pub all_datagrams : Inside → List Datagram
all_datagrams n = datagrams_in 1280 n.heads.items n.bytes.items

pub record IsFilled (n : Inside) : Type 0 where
  pub bytes : length n.bytes.items ≡ length n.heads.items * 1280
  pub each : (p : ℕ) → (head_at n.heads.items p).len ≤ 1280
