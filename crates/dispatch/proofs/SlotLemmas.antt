-- The slots of all circuits, by those of each.
use Rattle.std.proofs.Common.{ℕ, List, [], ◌∷◌, map, get_or}
use Rattle.std.specs.Prelude.{All, Option, Some, None, IfSome}
use Rattle.std.proofs.lemmas.List.Elements.{All-nil, All-cons, All-head, All-tail, All-map}
use Rattle.config.specs.CircuitPart.{CircuitPart}
use Rattle.circuit_server.specs.CircuitServerValue.{HasItsPools, HasPools, OpenCircuitValue}
use Rattle.circuit_server.specs.SlotsOfPools.{HasItsSlots, HasSlots, HasSlotsOfPools}
use Rattle.circuit_server.specs.Ticked.{state_at}
use Rattle.dispatch.specs.ServerValue.{with_states}
use Rattle.dispatch.proofs.WithStates.{server}

abbrev pub HasSlotsIfOpen : Option OpenCircuitValue → Type 0
HasSlotsIfOpen state = IfSome state HasSlots

later : (now : ℕ) (state : Option OpenCircuitValue) → HasSlotsIfOpen state → HasSlotsIfOpen (state_at now state)
later now None has = tt
later now (Some o) has = has

pub slots_after_tick : (now : ℕ) (states : List (Option OpenCircuitValue)) → All HasSlotsIfOpen states → All HasSlotsIfOpen (map (state_at now) states)
slots_after_tick now states all = All-map HasSlotsIfOpen (state_at now) states (λ i d within. later now (get_or states i d) (all i d within))

of_pools : (part : CircuitPart) (state : Option OpenCircuitValue) → HasSlotsIfOpen state → HasPools part state → IfSome state (HasSlotsOfPools part)
of_pools part None slots pools = tt
of_pools part (Some o) slots pools = (slots, pools)

pub all_slots : (parts : List CircuitPart) (states : List (Option OpenCircuitValue)) → All HasSlotsIfOpen states → All HasItsPools (with_states parts states) → All HasItsSlots (with_states parts states)
all_slots [] states slots pools = All-nil HasItsSlots
all_slots (part ∷ parts) [] slots pools =
    let xs = with_states parts [] in
    All-cons HasItsSlots (server part None) xs tt (all_slots parts [] slots (All-tail HasItsPools (server part None) xs pools))
all_slots (part ∷ parts) (state ∷ states) slots pools =
    let xs = with_states parts states in
    All-cons HasItsSlots (server part state) xs (of_pools part state (All-head HasSlotsIfOpen state states slots) (All-head HasItsPools (server part state) xs pools))
    (all_slots parts states (All-tail HasSlotsIfOpen state states slots) (All-tail HasItsPools (server part state) xs pools))
