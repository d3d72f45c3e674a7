-- One circuit that begins anew among all, at the moment of the last tick.
use Rattle.std.proofs.Common.{◌≡◌, ◌≢◌, ℕ, ◌<◌, Bool, true, List, map, set, length, refl, sym, ap, subst, ◌∙◌}
use Rattle.std.specs.Prelude.{All, IfSome, Option, Some, None, option_map, slice_get}
use Rattle.std.proofs.lemmas.List.{length-map, length-set}
use Rattle.std.proofs.lemmas.List.Elements.{All-map}
use Rattle.std.proofs.lemmas.Option.{slice_get-map}
use Rattle.types.specs.declared.slots.Slots.{Slots}
use Rattle.config.specs.CircuitPart.{CircuitPart}
use Rattle.config.specs.Topology.{RegionsDiffer}
use Rattle.lease_disk.specs.Device.{ChangesOne, Device}
use Rattle.lease_disk.specs.Region.{Region}
use Rattle.circuit_server.specs.CircuitServerValue.{CircuitServerValue, HasFoundBook, HasPools, IsReady, IsReadyFor, OpenCircuitValue, leases_of, open_book, part_of, server_book}
use Rattle.circuit_server.specs.Leases.{Leases, after_tick, book_in, formats_of, restarts_of}
use Rattle.circuit_server.specs.Restarted.{SettlesOne}
use Rattle.circuit_server.specs.Server.{book_at}
use Rattle.circuit_server.specs.Ticked.{IsLater, server_state, state_at}
use Rattle.dispatch.specs.ServerValue.{with_states}
use Rattle.dispatch.proofs.HeldDeadlines.{get_set_other}
use Rattle.dispatch.proofs.OneServer.{IsOne}
use Rattle.dispatch.proofs.ServerLemmas.{all_moved, one_moved}
use Rattle.dispatch.proofs.TickLemmas.{at_is_later, book_after_tick, book_of_open, own_state, shown_new, shown_set}
use Rattle.dispatch.proofs.WithStates.{parts_with, server, set_with, there_with}

pub reopened_one : (ticked : ℕ) (servers : List (Option OpenCircuitValue)) (c k : ℕ) (found left : Option OpenCircuitValue) → k ≡ c → k < length servers → left ≡ state_at ticked found
    → IsOne (server_state (map (state_at ticked) servers) c) left c (map (state_at ticked) servers) (map (state_at ticked) (set servers k left))
reopened_one ticked servers c k found left same within is =
    let old = map (state_at ticked) servers in
    let new = map (state_at ticked) (set servers k left) in
    let later : IsLater ticked left = subst (IsLater ticked) (sym is) (at_is_later ticked found) in
    let one : IsOne (server_state old k) left k old new = record {
      before = refl;
      after = shown_new ticked servers k left within later;
      others = shown_set ticked servers k left within later;
      inside = subst (λ n. k < n) (sym (length-map servers (state_at ticked))) within;
    } in
    subst (λ n. IsOne (server_state old n) left n old new) same one

-- ---- the circuit

pub all_reached : (ticked : ℕ) (servers : List (Option OpenCircuitValue)) → All (IsLater ticked) (map (state_at ticked) servers)
all_reached ticked servers = All-map (IsLater ticked) (state_at ticked) servers (λ i d within. at_is_later ticked _)

pub still_pools : (now : ℕ) (part : CircuitPart) (state : Option OpenCircuitValue) → HasPools part state → HasPools part (state_at now state)
still_pools now part None pools = pools
still_pools now part (Some o) pools = pools

pub found_later : (now : ℕ) (part : CircuitPart) (state : Option OpenCircuitValue) → HasFoundBook (server part state)
    → IfSome (state_at now state) (λ o. (slots : Slots) × (open_book o ≡ book_at now (book_in part slots)))
found_later now part None has = tt
found_later now part (Some o) has = (has.0, book_of_open now o ∙ ap (book_at now) has.1)

pub settled_later : (now region : ℕ) (state : Option OpenCircuitValue) (old new : ℕ → Bool) → SettlesOne region state old new → SettlesOne region (state_at now state) old new
settled_later now region None old new settles = record { settled = tt; stay = settles.stay }
settled_later now region (Some o) old new settles = record { settled = settles.settled; stay = settles.stay }

leases_later : (now : ℕ) (regions : ℕ → Region) (part : CircuitPart) (state : Option OpenCircuitValue)
    → leases_of regions (server part (state_at now state)) ≡ after_tick now (leases_of regions (server part state))
leases_later now regions part state =
    λ i. record { book = book_after_tick now state i; restarts = restarts_of part (regions part.region); is_new = formats_of (regions part.region) }

-- ---- all circuits, one of which has another state

module _ (parts : List CircuitPart) (old new : List (Option OpenCircuitValue)) (c : ℕ) (part : CircuitPart) (was is : Option OpenCircuitValue) (one : IsOne was is c old new) (there : slice_get parts c ≡ Some part) where
  written : with_states parts new ≡ set (with_states parts old) c (server part is)
  written = ap (with_states parts) one.others ∙ set_with parts old c part is there one.inside

  pub state_stays : (d : ℕ) → d ≢ c → slice_get new d ≡ slice_get old d
  state_stays d apart = ap (λ (xs : List (Option OpenCircuitValue)). slice_get xs d) one.others ∙ get_set_other old c d is apart

  -- what is seen of every other one
  seen : {B : Type 0} (f g : CircuitServerValue → B) → ((k : ℕ) (x : CircuitServerValue) → slice_get (with_states parts old) k ≡ Some x → (k ≡ c → ⊥) → g x ≡ f x)
      → (d : ℕ) → d ≢ c → slice_get (map g (with_states parts new)) d ≡ slice_get (map f (with_states parts old)) d
  seen f g same d apart =
      ap (λ xs. slice_get (map g xs) d) written
      ∙ ap (λ ys. slice_get ys d) (one_moved f g (with_states parts old) c (server part is) same)
      ∙ get_set_other (map f (with_states parts old)) c d (g (server part is)) apart

  pub book_stays : (d : ℕ) → d ≢ c → slice_get (map server_book (with_states parts new)) d ≡ slice_get (map server_book (with_states parts old)) d
  book_stays = seen server_book server_book (λ k x found apart. refl)

  -- what is seen of this one
  own_seen : {B : Type 0} (f : CircuitServerValue → B) → slice_get (map f (with_states parts new)) c ≡ Some (f (server part is))
  own_seen f =
      let inside : c < length new = let size = ap (λ (xs : List (Option OpenCircuitValue)). length xs) one.others ∙ length-set old c is in subst (λ n. c < n) (sym size) one.inside in
      slice_get-map f (with_states parts new) c
      ∙ ap (option_map f) (there_with parts new c part (server_state new c) there inside (own_state new c inside))
      ∙ ap (λ s. Some (f (server part s))) one.after

  -- its leases, where what it was found with was moved to this moment
  pub own_leases : (moment : ℕ) (found : Option OpenCircuitValue) (regions : ℕ → Region) (leases : Leases) → is ≡ state_at moment found → leases_of regions (server part found) ≡ leases
      → slice_get (map (leases_of regions) (with_states parts new)) c ≡ Some (after_tick moment leases)
  own_leases moment found regions leases moved as_found =
      own_seen (leases_of regions)
      ∙ ap (λ (x : Option OpenCircuitValue). Some (leases_of regions (server part x))) moved
      ∙ ap Some (leases_later moment regions part found ∙ ap (after_tick moment) as_found)

  -- where another circuit's region is another one, and only this one's changes
  module _ (differ : RegionsDiffer parts) (tells : Bool) (told : tells ≡ true) (device later : Device) (frame : ChangesOne tells part.region device later) where
    same_region : (k : ℕ) (x : CircuitServerValue) → slice_get (with_states parts old) k ≡ Some x → (k ≡ c → ⊥) → later.region x.part.region ≡ device.region x.part.region
    same_region k x found apart =
        let of_part = ap (λ ps. slice_get ps k) (sym (parts_with parts old)) ∙ slice_get-map part_of (with_states parts old) k ∙ ap (option_map part_of) found in
        frame.region told x.part.region (λ same. apart (differ k c x.part part of_part there same))

    pub leases_stay : (d : ℕ) → d ≢ c → slice_get (map (leases_of later.region) (with_states parts new)) d ≡ slice_get (map (leases_of device.region) (with_states parts old)) d
    leases_stay =
        seen (leases_of device.region) (leases_of later.region)
        (λ k x found apart. λ i. let r = same_region k x found apart i in record { book = server_book x; restarts = restarts_of x.part r; is_new = formats_of r })

    pub still_ready : IsReadyFor (later.region part.region) is → All (IsReady device.region) (with_states parts old) → All (IsReady later.region) (with_states parts new)
    still_ready own ready =
        subst (All (IsReady later.region)) (sym written)
        (all_moved (IsReady device.region) (IsReady later.region) (with_states parts old) c (server part is) own ready
        (λ k x found apart. subst (λ (r : Region). IsReadyFor r x.state) (sym (same_region k x found apart))))
