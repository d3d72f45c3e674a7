-- The lists that the network keeps, as its rings and packets show them.
use Rattle.std.proofs.Common.{◌≡◌, ◌≢◌, ℕ, ◌+◌, ◌*◌, ◌%◌, ◌^◌, ◌<◌, ◌≤◌, [], length, get_or, ap, sym, subst, ◌∙◌, arith, replicate, inl, inr}
use Rattle.std.proofs.lemmas.Bool.{cases_lt}
use Rattle.std.proofs.lemmas.Nat.{row_fits, mul-le}
use Rattle.std.proofs.lemmas.List.{get_or_read, get_or_past, get_or-replicate, length-replicate}
use Rattle.std.specs.Prelude.{Some, None, slice_get}
use Rattle.std.proofs.lemmas.List.FromFn.{length-map-range_with_len, get_or-map-range_with_len}
use Rattle.std.proofs.lemmas.Option.{slice_get-get_or, slice_get_read, slice_get_past}
use Rattle.lossy_net.specs.Net.{Datagram, Queues, NetValue, datagrams, queue_of, opposite}
use Rattle.lossy_net.specs.Ring.{window, segment}
use Rattle.lossy_net.specs.Layout.{ring_of, ring_at, ring_items, net_value, IsRing, IsLaidOut}
use Rattle.lossy_net.specs.declared.dir.Dir.{Dir}
use Rattle.lossy_net.specs.declared.dir.Dir.TheVariants.{Up, Down}
use Rattle.lossy_net.specs.declared.net.Net.TheInside.{Inside}
use Rattle.lossy_net.specs.declared.ring.Ring.{Ring}
use Rattle.lossy_net.proofs.Windows.{length-window, get_or-window, position_below}
use Rattle.lossy_net.proofs.Segments.{length-segment, get_or-segment}

-- ---- circuits

abbrev queues_at : Inside → ℕ → Queues
queues_at n c = record {
  up = ring_items n.quota n.rings.items n.packets (ring_of c Up);
  down = ring_items n.quota n.rings.items n.packets (ring_of c Down);
}

pub length-circuits : (n : Inside) → length (net_value n).circuits ≡ n.circuits
length-circuits n = length-map-range_with_len (queues_at n) 0 n.circuits

queues_there : (n : Inside) (c : ℕ) → c < n.circuits → slice_get (net_value n).circuits c ≡ Some (queues_at n c)
queues_there n c there =
    let count = length-circuits n in
    slice_get-get_or (net_value n).circuits c (queues_at n c) (omega arith)
    ∙ ap Some (get_or-map-range_with_len (queues_at n) 0 n.circuits c c (queues_at n c) there (omega arith))

-- a circuit that is there has the datagrams of its rings, and any other has none
pub datagrams_there : (n : Inside) (c : ℕ) (dir : Dir) → c < n.circuits → datagrams (net_value n) c dir ≡ ring_items n.quota n.rings.items n.packets (ring_of c dir)
datagrams_there n c Up there = ap (queue_of Up) (queues_there n c there)
datagrams_there n c Down there = ap (queue_of Down) (queues_there n c there)

pub datagrams_past : (n : Inside) (c : ℕ) (dir : Dir) → n.circuits ≤ c → datagrams (net_value n) c dir ≡ []
datagrams_past n c dir past =
    let count = length-circuits n in
    ap (queue_of dir) (slice_get_past (net_value n).circuits c (omega arith))

is_there : (n : Inside) (net : NetValue) (c : ℕ) → net_value n ≡ net → c < length net.circuits → c < n.circuits
is_there n net c view there = omega (arith, length-circuits n, ap (λ (v : NetValue). length v.circuits) view)

-- ---- rings

ring_below : (c n : ℕ) (dir : Dir) → c < n → ring_of c dir < 2 * n
ring_below c n Up low = omega arith
ring_below c n Down low = omega arith

pub opposite_ring : (c : ℕ) (dir : Dir) → ring_of c (opposite dir) ≢ ring_of c dir
opposite_ring c Up = λ e. omega arith
opposite_ring c Down = λ e. omega arith

pub other_ring : (a c : ℕ) (way dir : Dir) → a ≢ c → ring_of a way ≢ ring_of c dir
other_ring a c Up Up apart = λ e. omega arith
other_ring a c Up Down apart = λ e. omega arith
other_ring a c Down Up apart = λ e. omega arith
other_ring a c Down Down apart = λ e. omega arith

-- r is the ring of a circuit that is there
pub record IsRingOf (n : Inside) (c : ℕ) (dir : Dir) (r : ℕ) : Type 0 where
  pub laid : IsLaidOut n
  pub there : c < n.circuits
  pub at : r ≡ ring_of c dir

pub ring_taken : (n : Inside) (net : NetValue) (c : ℕ) (dir : Dir) (r : ℕ) → IsLaidOut n → net_value n ≡ net → c < length net.circuits → r ≡ ring_of c dir → IsRingOf n c dir r
ring_taken n net c dir r laid view there at = record { laid = laid; there = is_there n net c view there; at = at }

module _ {n : Inside} {c : ℕ} {dir : Dir} {r : ℕ} (is : IsRingOf n c dir r) where
  pub below : r < 2 * n.circuits
  below = omega (arith, ring_below c n.circuits dir is.there, is.at)

  pub below_rings : r < n.rings.len
  below_rings = omega (arith, below, is.laid.rings, n.rings.ok.0)

  pub items_whole : length (segment n.quota r n.packets) ≡ n.quota
  items_whole = length-segment n.quota r n.packets (2 * n.circuits) below is.laid.packets

  pub datagrams_of : datagrams (net_value n) c dir ≡ ring_items n.quota n.rings.items n.packets r
  datagrams_of = datagrams_there n c dir is.there ∙ ap (ring_items n.quota n.rings.items n.packets) (sym is.at)

  -- the list has as many datagrams as the ring says
  length-datagrams : length (datagrams (net_value n) c dir) ≡ (ring_at n.rings.items r).len
  length-datagrams =
      let ring = ring_at n.rings.items r in
      ap length datagrams_of ∙ length-window n.quota ring.newest ring.len _ (is.laid.each r).newest (is.laid.each r).len items_whole

  -- a place of the ring is one of all, and its number is small
  pub place_below : (h : ℕ) → h < n.quota → (r * n.quota + h < length n.packets) × (r * n.quota + h < 2 ^ 64)
  place_below h low =
      let row : r * n.quota + n.quota ≤ 2 * n.circuits * n.quota = row_fits r n.quota (2 * n.circuits) n.quota below (omega arith) in
      let all : 2 * n.circuits * n.quota ≤ 2048 * 256 = mul-le (2 * n.circuits) n.quota 2048 256 (omega (arith, is.laid.few)) is.laid.most in
      (omega (arith, is.laid.packets), omega arith)

  -- `ring` is what a read of `rings[r]` gives
  module _ (ring : Ring) (read : ring ≡ get_or n.rings.items r ring) where
    pub ring_is : ring ≡ ring_at n.rings.items r
    ring_is = get_or_read n.rings.items r ring (omega (arith, below, is.laid.rings)) read _

    pub ring_ok : IsRing n.quota ring
    ring_ok = subst (IsRing n.quota) (sym ring_is) (is.laid.each r)

    pub length-read : length (datagrams (net_value n) c dir) ≡ ring.len
    length-read = length-datagrams ∙ sym (ap (λ (s : Ring). s.len) ring_is)

    -- the datagram with a number, and the place that it lies in
    pub datagram_at : (i : ℕ) (x : Datagram) → i < ring.len → x ≡ get_or n.packets (r * n.quota + (ring.newest + i) % n.quota) x
        → Some x ≡ slice_get (datagrams (net_value n) c dir) i
    datagram_at i x low here =
        let items = segment n.quota r n.packets in
        let position : (ring.newest + i) % n.quota < n.quota = position_below n.quota ring.newest i ring_ok.newest (omega (arith, ring_ok.len)) in
        let shown : x ≡ get_or (window ring.newest ring.len items) i x =
        here
        ∙ sym (get_or-segment n.quota r n.packets ((ring.newest + i) % n.quota) x position)
        ∙ sym (get_or-window n.quota ring.newest ring.len items ring_ok.newest ring_ok.len items_whole i x low) in
        let same = datagrams_of ∙ ap (λ (s : Ring). window s.newest s.len items) (sym ring_is) in
        sym (slice_get_read _ ring.len i x (sym length-read) low (shown ∙ ap (λ list. get_or list i x) (sym same)))

    pub datagram_past : (i : ℕ) → ring.len ≤ i → None ≡ slice_get (datagrams (net_value n) c dir) i
    datagram_past i past = sym (slice_get_past _ i (omega (arith, length-read)))

pub nothing_past : (n : Inside) (c : ℕ) (dir : Dir) (i : ℕ) → n.circuits ≤ c → None ≡ slice_get (datagrams (net_value n) c dir) i
nothing_past n c dir i past = ap (λ list. slice_get list i) (sym (datagrams_past n c dir past))

-- each list has at most the quota
pub within_quota : (n : Inside) (c : ℕ) (dir : Dir) → IsLaidOut n → length (datagrams (net_value n) c dir) ≤ n.quota
within_quota n c dir laid = elim (cases_lt c n.circuits) [
  | inl there ↦
      let is : IsRingOf n c dir (ring_of c dir) = record { laid = laid; there = there; at = λ _. ring_of c dir } in
      omega (arith, length-datagrams is, (laid.each (ring_of c dir)).len)
  | inr past ↦ omega (arith, ap length (datagrams_past n c dir past))
]

-- ---- at first

no_ring : (count r : ℕ) → ring_at (replicate count (record { newest = 0; len = 0 })) r ≡ record { newest = 0; len = 0 }
no_ring count r = elim (cases_lt r count) [
  | inl low ↦ get_or-replicate count r _ _ low
  | inr past ↦ get_or_past _ r _ (omega (arith, length-replicate {A = Ring} count (record { newest = 0; len = 0 })))
]

-- no ring has a datagram, so no list has
pub nothing_yet : (n : Inside) (count : ℕ) (c : ℕ) (dir : Dir) → n.rings.items ≡ replicate count (record { newest = 0; len = 0 }) → datagrams (net_value n) c dir ≡ []
nothing_yet n count c dir all = elim (cases_lt c n.circuits) [
  | inl there ↦
      let r = ring_of c dir in
      datagrams_there n c dir there
      ∙ ap (λ (s : Ring). window s.newest s.len (segment n.quota r n.packets)) (ap (λ rings. ring_at rings r) all ∙ no_ring count r)
  | inr past ↦ datagrams_past n c dir past
]
