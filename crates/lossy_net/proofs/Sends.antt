-- What a send leaves of the lists: one has a datagram more, and each other one is as it was.
use Rattle.std.proofs.Common.{◌≡◌, ◌≢◌, ℕ, ◌+◌, ◌*◌, ◌<◌, List, ◌∷◌, get_or, take, set, min, ap, ap₂, sym, ◌∙◌, arith, get_or-set_same, get_or-set_other, inl, inr}
use Rattle.std.specs.Vec.{with_item}
use Rattle.std.proofs.lemmas.Bool.{cases_lt}
use Rattle.lossy_net.specs.Net.{Datagram, datagrams}
use Rattle.lossy_net.specs.Ring.{before, window, segment}
use Rattle.lossy_net.specs.Layout.{ring_of, ring_items, net_value}
use Rattle.lossy_net.specs.declared.dir.Dir.{Dir}
use Rattle.lossy_net.specs.declared.net.Net.TheInside.{Inside}
use Rattle.lossy_net.specs.declared.ring.Ring.{Ring}
use Rattle.lossy_net.proofs.Windows.{before_below, window_of_next}
use Rattle.lossy_net.proofs.Segments.{segment-set, segment-set_other}
use Rattle.lossy_net.proofs.Lists.{IsRingOf, below, items_whole, ring_is, ring_ok, datagrams_there, datagrams_past, datagrams_of}

-- the fields after the writes: ring r is `new`
abbrev pub sent : Inside → ℕ → Ring → List Datagram → Inside
sent n r new packets = record {
  circuits = n.circuits;
  quota = n.quota;
  packets = packets;
  rings = with_item n.rings r new;
}

module _ {n : Inside} {c : ℕ} {dir : Dir} {r : ℕ} (is : IsRingOf n c dir r) (old : Ring) (read : old ≡ get_or n.rings.items r old)
    (new : Ring) (newest : new.newest ≡ before n.quota old.newest) where
  pub newest_below : new.newest < n.quota
  newest_below = omega (arith, newest, before_below n.quota old.newest (ring_ok is old read).newest)

  -- the newest place of the ring has x, and each other place what it had
  module _ (packets : List Datagram) (x : Datagram) (written : packets ≡ set n.packets (r * n.quota + new.newest) x) where
    pub sent_here : new.len ≡ min n.quota (old.len + 1)
        → datagrams (net_value (sent n r new packets)) c dir ≡ take n.quota (x ∷ datagrams (net_value n) c dir)
    sent_here len =
        let items = segment n.quota r n.packets in
        let ok = ring_ok is old read in
        let same = datagrams_of is ∙ ap (λ (s : Ring). window s.newest s.len items) (sym (ring_is is old read)) in
        datagrams_there (sent n r new packets) c dir is.there
        ∙ ap (ring_items n.quota (set n.rings.items r new) packets) (sym is.at)
        ∙ ap₂ (λ (s : Ring) list. window s.newest s.len list)
        (get_or-set_same n.rings.items r new _ (omega (arith, below is, is.laid.rings))) (ap (segment n.quota r) written ∙ segment-set n.quota r n.packets new.newest x newest_below)
        ∙ ap₂ (λ h k. window h k (set items h x)) newest len
        ∙ window_of_next n.quota old.newest old.len items ok.newest ok.len (items_whole is) x
        ∙ ap (λ list. take n.quota (x ∷ list)) (sym same)

    pub sent_apart : (a : ℕ) (way : Dir) → ring_of a way ≢ ring_of c dir → datagrams (net_value (sent n r new packets)) a way ≡ datagrams (net_value n) a way
    sent_apart a way apart = elim (cases_lt a n.circuits) [
      | inl low ↦
          let s = ring_of a way in
          let other : s ≢ r = λ e. apart (e ∙ is.at) in
          datagrams_there (sent n r new packets) a way low
          ∙ ap₂ (λ (ring : Ring) list. window ring.newest ring.len list)
          (get_or-set_other n.rings.items r s new _ other) (ap (segment n.quota s) written ∙ segment-set_other n.quota r n.packets s new.newest x newest_below other)
          ∙ sym (datagrams_there n a way low)
      | inr past ↦ datagrams_past (sent n r new packets) a way past ∙ sym (datagrams_past n a way past)
    ]
