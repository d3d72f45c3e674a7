-- One circuit's server among all, whose clocks the ticks have moved, and what a call makes of it.
use Rattle.std.proofs.Common.{◌≡◌, ℕ, ◌*◌, ◌<◌, List, length, map, set, get_or, sym, ap, subst, ◌∙◌, arith}
use Rattle.std.specs.Prelude.{All, None, Option, Some, slice_get}
use Rattle.std.proofs.lemmas.List.{length-map, length-set}
use Rattle.std.proofs.lemmas.List.Elements.{All-set}
use Rattle.std.proofs.lemmas.Option.{slice_get-get_or, slice_get_within}
use Rattle.config.specs.CircuitPart.{CircuitPart}
use Rattle.config.specs.Topology.{Topology}
use Rattle.lease_disk.specs.Region.{Region}
use Rattle.timers.specs.Deadlines.{DeadlinesValue}
use Rattle.circuit_server.specs.CircuitServerValue.{HasItsPools, HasPools, IsReady, IsReadyFor, OpenCircuitValue}
use Rattle.circuit_server.specs.Deadlines.{HasDeadlines, HasEntries, KeepsEntries}
use Rattle.circuit_server.specs.Ticked.{IsLater, state_at, server_state}
use Rattle.dispatch.specs.ServerValue.{HoldsDeadlines, IsServer, with_states}
use Rattle.dispatch.proofs.HeldDeadlines.{one_held}
use Rattle.dispatch.proofs.TickLemmas.{at_is_later, own_state, shown_at, shown_new, shown_set}
use Rattle.dispatch.proofs.WithStates.{at_index, server, set_with, there_with}

-- The states show it before and after, and every other one stays.
pub record IsOne (was is : Option OpenCircuitValue) (c : ℕ) (old new : List (Option OpenCircuitValue)) : Type 0 where
  pub before : server_state old c ≡ was
  pub after : server_state new c ≡ is
  pub others : new ≡ set old c is
  pub inside : c < length old

pub one : (ticked : ℕ) (servers : List (Option OpenCircuitValue)) (k : ℕ) (found moved left : Option OpenCircuitValue) → k < length servers → found ≡ get_or servers k found → moved ≡ state_at ticked found
    → ((moment : ℕ) → IsLater moment moved → IsLater moment left) → IsOne moved left k (map (state_at ticked) servers) (map (state_at ticked) (set servers k left))
one ticked servers k found moved left within there is stays =
    let later : IsLater ticked left = stays ticked (subst (IsLater ticked) (sym is) (at_is_later ticked found)) in
    record {
      before = shown_at ticked servers k found within there ∙ sym is;
      after = shown_new ticked servers k left within later;
      others = shown_set ticked servers k left within later;
      inside = subst (λ n. k < n) (sym (length-map servers (state_at ticked))) within;
    }

-- circuit c's server, where it is found at index k and its clock is moved
module _ (t : Topology) (ticked : ℕ) (servers : List (Option OpenCircuitValue)) (sound : IsServer t (map (state_at ticked) servers)) (c k : ℕ) (same : k ≡ c) (part : CircuitPart) (there : slice_get t.circuits c ≡ Some part)
    (found moved : Option OpenCircuitValue) (is : found ≡ get_or servers k found) (ticks : moved ≡ state_at ticked found) where
  within : k < length servers
  within =
      let few = slice_get_within t.circuits c part there in
      let size = sym (length-map servers (state_at ticked)) ∙ sound.size in
      omega (arith, few, size, same)

  shown : server_state (map (state_at ticked) servers) c ≡ moved
  shown = ap (server_state (map (state_at ticked) servers)) (sym same) ∙ shown_at ticked servers k found within is ∙ sym ticks

  inside : c < length (map (state_at ticked) servers)
  inside = let size = length-map servers (state_at ticked) in let few = within in omega (arith, few, size, same)

  pub its_pools : HasPools part moved
  its_pools =
      let states = map (state_at ticked) servers in
      subst (HasPools part) shown
      (at_index HasItsPools (with_states t.circuits states) c (server part (server_state states c)) (there_with t.circuits states c part (server_state states c) there inside (own_state states c inside)) sound.pools)

  pub its_ready : (regions : ℕ → Region) → All (IsReady regions) (with_states t.circuits (map (state_at ticked) servers)) → IsReadyFor (regions part.region) moved
  its_ready regions ready =
      let states = map (state_at ticked) servers in
      subst (IsReadyFor (regions part.region)) shown
      (at_index (IsReady regions) (with_states t.circuits states) c (server part (server_state states c)) (there_with t.circuits states c part (server_state states c) there inside (own_state states c inside)) ready)

  pub its_entries : (table : DeadlinesValue) → HoldsDeadlines table (map (state_at ticked) servers) → HasEntries table c moved
  its_entries table holds =
      let states = map (state_at ticked) servers in
      let few = inside in
      let size = holds.size in
      record {
        room = omega (arith, few, size);
        deadlines = subst (HasDeadlines table (32 * c)) shown (holds.each c (server_state states c) (slice_get-get_or states c None inside));
      }

  pub after_call : (left : Option OpenCircuitValue) → ((moment : ℕ) → IsLater moment moved → IsLater moment left)
      → IsOne moved left c (map (state_at ticked) servers) (map (state_at ticked) (set servers k left))
  after_call left later =
      subst (λ n. IsOne moved left n (map (state_at ticked) servers) (map (state_at ticked) (set servers k left))) same (one ticked servers k found moved left within is ticks later)

-- ---- all, afterwards

pub still_sound : (t : Topology) (old new : List (Option OpenCircuitValue)) (c : ℕ) (part : CircuitPart) (was is : Option OpenCircuitValue) → IsServer t old → IsOne was is c old new → slice_get t.circuits c ≡ Some part → HasPools part is → IsServer t new
still_sound t old new c part was is sound one there pools = record {
  sound = sound.sound;
  size = ap (λ (xs : List (Option OpenCircuitValue)). length xs) one.others ∙ length-set old c is ∙ sound.size;
  pools =
      subst (All HasItsPools) (sym (ap (with_states t.circuits) one.others ∙ set_with t.circuits old c part is there one.inside))
      (All-set HasItsPools (with_states t.circuits old) c (server part is) pools sound.pools);
}

pub still_held : (old new : List (Option OpenCircuitValue)) (c : ℕ) (was is : Option OpenCircuitValue) (table after : DeadlinesValue) → IsOne was is c old new → HoldsDeadlines table old → KeepsEntries c table after is → HoldsDeadlines after new
still_held old new c was is table after one holds keeps = subst (HoldsDeadlines after) (sym one.others) (one_held c table after old is one.inside holds keeps.deadlines keeps.others)
