-- What a clear leaves of the lists: both of one circuit are empty, and each other one is as it was.
use Rattle.std.proofs.Common.{◌≡◌, ◌≢◌, ℕ, ◌+◌, ◌*◌, ◌<◌, [], length, refl, set, ap, sym, ◌∙◌, arith, length-set, get_or-set_same, get_or-set_other, inl, inr}
use Rattle.std.specs.Vec.{with_item}
use Rattle.std.proofs.lemmas.Bool.{cases_lt}
use Rattle.lossy_net.specs.Net.{NetValue, datagrams}
use Rattle.lossy_net.specs.Ring.{window, segment}
use Rattle.lossy_net.specs.Layout.{ring_of, ring_at, net_value, IsLaidOut}
use Rattle.lossy_net.specs.declared.dir.Dir.{Dir}
use Rattle.lossy_net.specs.declared.dir.Dir.TheVariants.{Up, Down}
use Rattle.lossy_net.specs.declared.net.Net.TheInside.{Inside}
use Rattle.lossy_net.specs.declared.ring.Ring.{Ring}
use Rattle.lossy_net.proofs.Lists.{IsRingOf, ring_taken, below, below_rings, other_ring, datagrams_there, datagrams_past}

abbrev no_items : Ring
no_items = record { newest = 0; len = 0 }

-- both rings of a circuit are there
pub both_below : (n : Inside) (net : NetValue) (c : ℕ) → IsLaidOut n → net_value n ≡ net → c < length net.circuits → 2 * c + 1 < n.rings.len
both_below n net c laid view there = below_rings (ring_taken n net c Down (2 * c + 1) laid view there refl)

-- the fields after two rings were emptied
abbrev pub cleared : Inside → ℕ → ℕ → Inside
cleared n up down = record {
  circuits = n.circuits;
  quota = n.quota;
  packets = n.packets;
  rings = with_item (with_item n.rings up no_items) down no_items;
}

module _ {n : Inside} {c up down : ℕ} (is_up : IsRingOf n c Up up) (is_down : IsRingOf n c Down down) where
  -- a ring that is neither of both stays
  ring_stays : (s : ℕ) → s ≢ up → s ≢ down → ring_at (cleared n up down).rings.items s ≡ ring_at n.rings.items s
  ring_stays s not_up not_down =
      get_or-set_other (set n.rings.items up no_items) down s no_items _ not_down ∙ get_or-set_other n.rings.items up s no_items _ not_up

  up_emptied : ring_at (cleared n up down).rings.items up ≡ no_items
  up_emptied =
      get_or-set_other (set n.rings.items up no_items) down up no_items _ (λ e. omega (arith, is_up.at, is_down.at))
      ∙ get_or-set_same n.rings.items up no_items _ (omega (arith, below is_up, is_up.laid.rings))

  down_emptied : ring_at (cleared n up down).rings.items down ≡ no_items
  down_emptied =
      get_or-set_same (set n.rings.items up no_items) down no_items _ (omega (arith, below is_down, is_down.laid.rings, length-set n.rings.items up no_items))

  -- where the ring is empty, so is the list
  shown_empty : (dir : Dir) (r : ℕ) → r ≡ ring_of c dir → ring_at (cleared n up down).rings.items r ≡ no_items → datagrams (net_value (cleared n up down)) c dir ≡ []
  shown_empty dir r at emptied =
      datagrams_there (cleared n up down) c dir is_up.there
      ∙ ap (λ (s : Ring). window s.newest s.len (segment n.quota (ring_of c dir) n.packets)) (ap (ring_at (cleared n up down).rings.items) (sym at) ∙ emptied)

  pub cleared_here : (dir : Dir) → datagrams (net_value (cleared n up down)) c dir ≡ []
  cleared_here Up = shown_empty Up up is_up.at up_emptied
  cleared_here Down = shown_empty Down down is_down.at down_emptied

  pub cleared_apart : (a : ℕ) (way : Dir) → a ≢ c → datagrams (net_value (cleared n up down)) a way ≡ datagrams (net_value n) a way
  cleared_apart a way apart = elim (cases_lt a n.circuits) [
    | inl low ↦
        let s = ring_of a way in
        let not_up : s ≢ up = λ e. other_ring a c way Up apart (e ∙ is_up.at) in
        let not_down : s ≢ down = λ e. other_ring a c way Down apart (e ∙ is_down.at) in
        datagrams_there (cleared n up down) a way low
        ∙ ap (λ (ring : Ring). window ring.newest ring.len (segment n.quota s n.packets)) (ring_stays s not_up not_down)
        ∙ sym (datagrams_there n a way low)
    | inr past ↦ datagrams_past (cleared n up down) a way past ∙ sym (datagrams_past n a way past)
  ]
