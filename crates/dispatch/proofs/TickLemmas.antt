-- What one tick makes of all circuits, and circuits whose clocks it moved.
use Rattle.std.proofs.Common.{◌≡◌, ℕ, zero, suc, ◌*◌, ◌<◌, ◌≤◌, max, List, [], ◌∷◌, length, map, set, get_or, refl, sym, ap, subst, ◌∙◌, arith}
use Rattle.std.specs.Prelude.{Option, Some, None, All, is_some, option_map, slice_get}
use Rattle.std.proofs.lemmas.List.{get_or-map, get_or-set_same, length-map, map-set}
use Rattle.std.proofs.lemmas.List.Elements.{All-nil, All-cons, All-head, All-tail}
use Rattle.std.proofs.lemmas.Option.{none-some, same_Some, slice_get-map}
use Rattle.types.specs.Addr.{number4, number6}
use Rattle.config.specs.CircuitPart.{CircuitPart}
use Rattle.lease_disk.specs.Region.{Region}
use Rattle.slots.proofs.FormLemmas.{form_later}
use Rattle.timers.specs.Deadlines.{DeadlinesValue, entry_after_sweep}
use Rattle.bindings_v4.specs.Slots4 as slots4
use Rattle.bindings_v4.proofs.KeptLemmas.{form4}
use Rattle.bindings_v4.proofs.ShownLemmas.{at_later as at_later4}
use Rattle.bindings_v6.specs.Slots6 as slots6
use Rattle.bindings_v6.proofs.KeptLemmas.{form6}
use Rattle.bindings_v6.proofs.ShownLemmas.{at_later as at_later6}
use Rattle.circuit_server.specs.Deadlines.{HasDeadlines, swept}
use Rattle.dispatch.specs.ServerValue.{HoldsDeadlines, with_states}
use Rattle.circuit_server.specs.Leases.{after_tick, formats_of, restarts_of}
use Rattle.circuit_server.specs.Server.{book_at}
use Rattle.circuit_server.specs.CircuitServerValue.{CircuitServerValue, HasItsPools, IsReady, IsReadyFor, OpenCircuitValue, leases_of, open_book}
use Rattle.circuit_server.specs.Ticked.{IsLater, open_at, state_at, server_state}
use Rattle.circuit_server.proofs.DeadlineLemmas.{stays_closed, stays_held}
use Rattle.circuit_server.proofs.SaveLemmas.{later_ready}
use Rattle.dispatch.proofs.WithStates.{server}

-- ---- the clock of a circuit is moved

not_before : (clock now : ℕ) → clock ≤ max clock now
not_before clock now = omega arith

reached : (clock now : ℕ) → now ≤ max clock now
reached clock now = omega arith

pub book_of_open : (now : ℕ) (o : OpenCircuitValue) → open_book (open_at now o) ≡ book_at now (open_book o)
book_of_open now o =
    λ i. record {
      clock = max o.clock now;
      four = sym (at_later4 o.clock (max o.clock now) (not_before o.clock now) (slots4.book_of_slots (number4 o.four.pool.first) o.four.slots)) i;
      six = sym (at_later6 o.clock (max o.clock now) (not_before o.clock now) (slots6.book_of_slots (number6 o.six.pool.first) o.six.slots)) i;
    }

pub book_after_tick : (now : ℕ) (state : Option OpenCircuitValue) → option_map open_book (state_at now state) ≡ option_map (book_at now) (option_map open_book state)
book_after_tick now None = refl
book_after_tick now (Some o) = ap Some (book_of_open now o)

pub ready_after_tick : (now : ℕ) (region : Region) (state : Option OpenCircuitValue) → IsReadyFor region state → IsReadyFor region (state_at now state)
ready_after_tick now region None ready = ready
ready_after_tick now region (Some o) ready =
    let later = not_before o.clock now in
    later_ready o (open_at now o) region refl refl refl later (form_later form4 o.clock (max o.clock now) later o.four.slots) (form_later form6 o.clock (max o.clock now) later o.six.slots) ready

pools_after_tick : (now : ℕ) (part : CircuitPart) (state : Option OpenCircuitValue) → HasItsPools (server part state) → HasItsPools (server part (state_at now state))
pools_after_tick now part None pools = pools
pools_after_tick now part (Some o) pools = pools

deadlines_after_tick : (now first : ℕ) (table : DeadlinesValue) (state : Option OpenCircuitValue) → HasDeadlines table first state → HasDeadlines (swept now table) first (state_at now state)
deadlines_after_tick now first table None has = stays_closed now first table has
deadlines_after_tick now first table (Some o) has = stays_held now first table o (open_at now o) refl refl (not_before o.clock now) (reached o.clock now) has

-- ---- the clocks of all

pub leases_after_tick : (now : ℕ) (regions : ℕ → Region) (parts : List CircuitPart) (states : List (Option OpenCircuitValue))
    → map (leases_of regions) (with_states parts (map (state_at now) states)) ≡ map (after_tick now) (map (leases_of regions) (with_states parts states))
leases_after_tick now regions [] states = refl
leases_after_tick now regions (part ∷ parts) [] = λ i. leases_of regions (server part None) ∷ leases_after_tick now regions parts [] i
leases_after_tick now regions (part ∷ parts) (state ∷ states) =
    λ i. record { book = book_after_tick now state i; restarts = restarts_of part (regions part.region); is_new = formats_of (regions part.region) } ∷ leases_after_tick now regions parts states i

all_after_tick : (now : ℕ) (P : CircuitServerValue → Type 0) → ((part : CircuitPart) (state : Option OpenCircuitValue) → P (server part state) → P (server part (state_at now state)))
    → (parts : List CircuitPart) (states : List (Option OpenCircuitValue)) → All P (with_states parts states) → All P (with_states parts (map (state_at now) states))
all_after_tick now P step [] states all = All-nil P
all_after_tick now P step (part ∷ parts) [] all = all
all_after_tick now P step (part ∷ parts) (state ∷ states) all =
    let xs = with_states parts states in
    All-cons P (server part (state_at now state)) (with_states parts (map (state_at now) states)) (step part state (All-head P (server part state) xs all))
    (all_after_tick now P step parts states (All-tail P (server part state) xs all))

pub all_ready_after_tick : (now : ℕ) (regions : ℕ → Region) (parts : List CircuitPart) (states : List (Option OpenCircuitValue)) → All (IsReady regions) (with_states parts states) → All (IsReady regions) (with_states parts (map (state_at now) states))
all_ready_after_tick now regions = all_after_tick now (IsReady regions) (λ part state. ready_after_tick now (regions part.region) state)

pub all_pools_after_tick : (now : ℕ) (parts : List CircuitPart) (states : List (Option OpenCircuitValue)) → All HasItsPools (with_states parts states) → All HasItsPools (with_states parts (map (state_at now) states))
all_pools_after_tick now = all_after_tick now HasItsPools (pools_after_tick now)

pub held_after_tick : (now : ℕ) (table : DeadlinesValue) (states : List (Option OpenCircuitValue)) → HoldsDeadlines table states → HoldsDeadlines (swept now table) (map (state_at now) states)
held_after_tick now table states holds =
    record {
      size = length-map table.slots (entry_after_sweep now) ∙ holds.size ∙ ap (λ n. 32 * n) (sym (length-map states (state_at now)));
      each = λ c state there. by c state (slice_get states c) refl (sym (slice_get-map (state_at now) states c) ∙ there);
    } where
      by : (c : ℕ) (state : Option OpenCircuitValue) (found : Option (Option OpenCircuitValue)) → slice_get states c ≡ found → option_map (state_at now) found ≡ Some state → HasDeadlines (swept now table) (32 * c) state
      by c state None is e = absurd (none-some state e)
      by c state (Some before) is e = subst (HasDeadlines (swept now table) (32 * c)) (same_Some (state_at now before) state e) (deadlines_after_tick now (32 * c) table before (holds.each c before is))

-- ---- what a tick keeps of the ticks before it

later_of_three : (clock one other : ℕ) → max clock (max one other) ≡ max (max clock one) other
later_of_three clock one other = omega arith

pub ticked_twice : (one other : ℕ) (states : List (Option OpenCircuitValue)) → map (state_at (max one other)) states ≡ map (state_at other) (map (state_at one) states)
ticked_twice one other [] = refl
ticked_twice one other (None ∷ states) = λ i. None ∷ ticked_twice one other states i
ticked_twice one other (Some o ∷ states) = λ i. Some (record o { clock = later_of_three o.clock one other i }) ∷ ticked_twice one other states i

first_moment : (clock : ℕ) → max clock 0 ≡ clock
first_moment clock = omega arith

pub not_ticked : (states : List (Option OpenCircuitValue)) → map (state_at 0) states ≡ states
not_ticked [] = refl
not_ticked (None ∷ states) = λ i. None ∷ not_ticked states i
not_ticked (Some o ∷ states) = λ i. Some (record o { clock = first_moment o.clock i }) ∷ not_ticked states i

-- ---- one of them

stays_later : (clock now : ℕ) → now ≤ clock → max clock now ≡ clock
stays_later clock now later = omega (arith, later)

is_at : (now : ℕ) (state : Option OpenCircuitValue) → IsLater now state → state_at now state ≡ state
is_at now None later = refl
is_at now (Some o) later = λ i. Some (record o { clock = stays_later o.clock now later i })

pub at_is_later : (now : ℕ) (state : Option OpenCircuitValue) → IsLater now (state_at now state)
at_is_later now None = tt
at_is_later now (Some o) = reached o.clock now

-- the state that is shown of one
pub shown_at : (now : ℕ) (states : List (Option OpenCircuitValue)) (c : ℕ) (state : Option OpenCircuitValue) → c < length states → state ≡ get_or states c state → server_state (map (state_at now) states) c ≡ state_at now state
shown_at now states c state within is = get_or-map (state_at now) states c state None within ∙ ap (state_at now) (sym is)

-- one of them is replaced, by one whose clock is not before the tick
module _ (now : ℕ) (states : List (Option OpenCircuitValue)) (c : ℕ) (new : Option OpenCircuitValue) (within : c < length states) (later : IsLater now new) where
  pub shown_set : map (state_at now) (set states c new) ≡ set (map (state_at now) states) c new
  shown_set = map-set (state_at now) states c new ∙ ap (set (map (state_at now) states) c) (is_at now new later)

  pub shown_new : server_state (map (state_at now) (set states c new)) c ≡ new
  shown_new =
      ap (λ xs. server_state xs c) shown_set
      ∙ get_or-set_same (map (state_at now) states) c new None (subst (λ n. c < n) (sym (length-map states (state_at now))) within)

-- what is read of one that is there, whatever stands for one that is not
pub own_state : (states : List (Option OpenCircuitValue)) (c : ℕ) → c < length states → server_state states c ≡ get_or states c (server_state states c)
own_state [] c within = absurd (omega (arith, within))
own_state (state ∷ states) zero within = refl
own_state (state ∷ states) (suc c) within = own_state states c (omega (arith, within))

pub still_open : (now : ℕ) (state : Option OpenCircuitValue) → is_some (option_map open_book (state_at now state)) ≡ is_some (option_map open_book state)
still_open now None = refl
still_open now (Some o) = refl
