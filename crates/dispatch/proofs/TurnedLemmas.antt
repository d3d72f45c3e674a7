-- What is left of circuits that turn off, and that every other one stays as it is.
use Rattle.std.proofs.Common.{◌≤◌, ◌≡◌, ℕ, zero, suc, ◌+◌, ◌*◌, ◌<◌, ◌==◌, nat_lt, Bool, true, false, List, [], ◌∷◌, length, map, set, refl, sym, ap, subst, ◌∙◌, arith}
use Rattle.std.specs.Prelude.{◌&&◌, All, if◌then◌else◌, not, Option, Some, None, option_map, slice_get}
use Rattle.std.proofs.lemmas.List.{get_or-set_other, get_or-set_same, length-set}
use Rattle.std.proofs.lemmas.Option.{none-some, same_Some, slice_get-map, slice_get_within}
use Rattle.types.specs.declared.dest.Proto.{Proto}
use Rattle.types.specs.declared.dest.Proto.TheVariants.{V4, V6}
use Rattle.config.specs.CircuitPart.{CircuitPart}
use Rattle.config.specs.Membership.{IsMembership, MembershipValue, has, with_plan}
use Rattle.config.specs.Topology.{IsTopology, Topology, listen, reloaded, serves}
use Rattle.lease_disk.specs.Region.{Region}
use Rattle.timers.specs.Deadlines.{DeadlinesValue, deadline}
use Rattle.bindings_v4.proofs.OfferLemmas.{same_kept, shown_without}
use Rattle.bindings_v6.specs.Slots6 as slots6
use Rattle.circuit_server.specs.Deadlines.{HasDeadlines, OtherEntriesUnchanged, held_in}
use Rattle.dispatch.specs.ServerValue.{HoldsDeadlines, with_states}
use Rattle.circuit_server.specs.Leases.{Leases, formats_of, restarts_of, turned}
use Rattle.circuit_server.specs.Server.{kept_book}
use Rattle.circuit_server.specs.CircuitServerValue.{CircuitServerValue, HasItsPools, IsReady, IsReadyFor, OpenCircuitValue, leases_of, open_book}
use Rattle.circuit_server.specs.Ticked.{IsLater, server_state}
use Rattle.circuit_server.specs.Unoffered.{state_unoffered}
use Rattle.dispatch.specs.Turned.{AreTurned, state_turned}
use Rattle.dispatch.proofs.HeldDeadlines.{aside, one_held}
use Rattle.dispatch.proofs.RestartLemmas.{all_with}
use Rattle.dispatch.proofs.TickLemmas.{own_state}
use Rattle.dispatch.proofs.WithStates.{at_index, server, there_with}

-- ---- one circuit

pub still_later : (moment : ℕ) (state : Option OpenCircuitValue) → IsLater moment state → IsLater moment (state_unoffered state)
still_later moment None later = later
still_later moment (Some o) later = later

pools_turned : (off : Bool) (part : CircuitPart) (state : Option OpenCircuitValue) → HasItsPools (server part state) → HasItsPools (server part (state_turned off state))
pools_turned false part state pools = pools
pools_turned true part None pools = pools
pools_turned true part (Some o) pools = pools

ready_turned : (off : Bool) (region : Region) (state : Option OpenCircuitValue) → IsReadyFor region state → IsReadyFor region (state_turned off state)
ready_turned false region state ready = ready
ready_turned true region None ready = ready
ready_turned true region (Some o) ready =
    (ready.0, ready.1, record { slots = ready.2.slots; recovers = ready.2.recovers; later = ready.2.later; four = ready.2.four ∙ sym (same_kept o.clock o.four.slots); six = ready.2.six }, ready.3)

book_unoffered : (state : Option OpenCircuitValue) → option_map open_book (state_unoffered state) ≡ option_map kept_book (option_map open_book state)
book_unoffered None = refl
book_unoffered (Some o) = λ i. Some (record { clock = o.clock; four = shown_without o.clock o.four i; six = slots6.book6_of o.clock o.six })

leases_turned : (before now : Bool) (regions : ℕ → Region) (part : CircuitPart) (state : Option OpenCircuitValue)
    → leases_of regions (server part (state_turned (before && not now) state)) ≡ turned before now (leases_of regions (server part state))
leases_turned false false regions part state = refl
leases_turned false true regions part state = refl
leases_turned true true regions part state = refl
leases_turned true false regions part state =
    λ i. record { book = book_unoffered state i; restarts = restarts_of part (regions part.region); is_new = formats_of (regions part.region) }

-- a circuit that is served as before does not turn off
pub as_before : (before now : Bool) → before ≡ now → (before && not now) ≡ false
as_before false now same = refl
as_before true true same = refl
as_before true false same = absurd cc

pub turns : (before now : Bool) → before ≡ true → now ≡ false → (before && not now) ≡ true
turns before now was is = rw (was, is) refl

-- ---- each of them after the other

-- of the first n circuits, those that turn off
abbrev pub so_far : (ℕ → Bool) → ℕ → ℕ → Bool
so_far off n c = nat_lt c n && off c

at_first : (off : ℕ → Bool) (c : ℕ) → so_far off 0 c ≡ false
at_first off c = let none : nat_lt c 0 ≡ false = grind arith in ap (λ b. b && off c) none

not_yet : (off : ℕ → Bool) (n : ℕ) → so_far off n n ≡ false
not_yet off n = let none : nat_lt n n ≡ false = grind arith in ap (λ b. b && off n) none

just_now : (off : ℕ → Bool) (n : ℕ) → so_far off (n + 1) n ≡ off n
just_now off n = let less : nat_lt n (n + 1) ≡ true = grind arith in ap (λ b. b && off n) less

other_test : (n c : ℕ) → (c ≡ n → ⊥) → nat_lt c (n + 1) ≡ nat_lt c n
other_test n c other = by (nat_lt c n) refl where
  by : (b : Bool) → nat_lt c n ≡ b → nat_lt c (n + 1) ≡ nat_lt c n
  by true e = let less : nat_lt c (n + 1) ≡ true = grind arith in less ∙ sym e
  by false e = let more : nat_lt c (n + 1) ≡ false = grind (arith, other) in more ∙ sym e

others_as : (off : ℕ → Bool) (n c : ℕ) → (c ≡ n → ⊥) → so_far off (n + 1) c ≡ so_far off n c
others_as off n c other = ap (λ b. b && off c) (other_test n c other)

after_all : (off : ℕ → Bool) (n c : ℕ) → c < n → so_far off n c ≡ off c
after_all off n c below = let less : nat_lt c n ≡ true = grind (arith, below) in ap (λ b. b && off c) less

and_false : (b : Bool) → (b && false) ≡ false
and_false true = refl
and_false false = refl

-- none has turned off yet
pub none_yet : (off : ℕ → Bool) (states : List (Option OpenCircuitValue)) (table : DeadlinesValue) → HoldsDeadlines table states → AreTurned (so_far off 0) states states table table
none_yet off states table held = record {
  count = refl;
  states = λ c. ap (λ b. state_turned b (server_state states c)) (sym (at_first off c));
  left = λ c s inside is below. let never : true ≡ false = sym is ∙ at_first off c in absurd cc;
  others = λ c s is below. refl;
  examined = refl;
  held = held;
}

past_none : (states : List (Option OpenCircuitValue)) (c : ℕ) → length states ≤ c → server_state states c ≡ None
past_none [] c past = refl
past_none (state ∷ states) zero past = absurd (omega (arith, past))
past_none (state ∷ states) (suc c) past = past_none states c (omega (arith, past))

still_none : (b : Bool) → state_turned b None ≡ None
still_none true = refl
still_none false = refl

-- all have, that have to
pub turned_all : (off : ℕ → Bool) (n : ℕ) (old new : List (Option OpenCircuitValue)) (before after : DeadlinesValue) → length old ≤ n → AreTurned (so_far off n) old new before after → AreTurned off old new before after
turned_all off n old new before after whole are = record {
  count = are.count;
  states = λ c. at c (nat_lt c n) refl;
  left = λ c s inside is below. are.left c s inside (after_all off n c (let size = are.count in omega (arith, inside, size, whole)) ∙ is) below;
  others = λ c s is below. are.others c s (ap (λ b. nat_lt c n && b) is ∙ and_false (nat_lt c n)) below;
  examined = are.examined;
  held = are.held;
} where
  at : (c : ℕ) (b : Bool) → nat_lt c n ≡ b → server_state new c ≡ state_turned (off c) (server_state old c)
  at c true e = let fits : c < n = grind arith in are.states c ∙ ap (λ b. state_turned b (server_state old c)) (after_all off n c fits)
  at c false e =
      let past : n ≤ c = grind arith in
      let size = are.count in
      past_none new c (omega (arith, past, size, whole)) ∙ sym (ap (state_turned (off c)) (past_none old c (omega (arith, past, whole))) ∙ still_none (off c))

-- one more that stays
pub one_stays : (off : ℕ → Bool) (n : ℕ) (old new : List (Option OpenCircuitValue)) (before after : DeadlinesValue) → off n ≡ false
    → AreTurned (so_far off n) old new before after → AreTurned (so_far off (n + 1)) old new before after
one_stays off n old new before after stays are = subst (λ (p : ℕ → Bool). AreTurned p old new before after) (λ i. λ c. sym (same c) i) are where
  same : (c : ℕ) → so_far off (n + 1) c ≡ so_far off n c
  same c = by (c == n) refl where
    by : (b : Bool) → (c == n) ≡ b → so_far off (n + 1) c ≡ so_far off n c
    by true e =
        let is : c ≡ n = grind arith in
        ap (so_far off (n + 1)) is ∙ just_now off n ∙ stays ∙ sym (not_yet off n) ∙ ap (so_far off n) (sym is)
    by false e = others_as off n c (λ is. grind arith)

-- one more that turns off
module _ (off : ℕ → Bool) (n : ℕ) (old mid : List (Option OpenCircuitValue)) (before table after : DeadlinesValue) (goes : off n ≡ true) (within : n < length mid)
    (are : AreTurned (so_far off n) old mid before table) (own : (s : ℕ) → s < 32 → deadline after (32 * n + s) ≡ held_in (state_unoffered (server_state mid n)) s)
    (has : HasDeadlines after (32 * n) (state_unoffered (server_state mid n))) (same : OtherEntriesUnchanged (32 * n) table after) where
  abbrev its : Option OpenCircuitValue
  its = state_unoffered (server_state mid n)

  abbrev new : List (Option OpenCircuitValue)
  new = set mid n its

  here : server_state new n ≡ its
  here = get_or-set_same mid n its None within

  elsewhere : (c : ℕ) → (c ≡ n → ⊥) → server_state new c ≡ server_state mid c
  elsewhere c other = get_or-set_other mid n c its None other

  turned_at : (c : ℕ) (b : Bool) → (c == n) ≡ b → server_state new c ≡ state_turned (so_far off (n + 1) c) (server_state old c)
  turned_at c true e =
      let is : c ≡ n = grind arith in
      let was : server_state mid n ≡ server_state old n = are.states n ∙ ap (λ b. state_turned b (server_state old n)) (not_yet off n) in
      ap (server_state new) is ∙ here ∙ ap state_unoffered was ∙ ap (λ b. state_turned b (server_state old n)) (sym (just_now off n ∙ goes))
      ∙ ap (λ k. state_turned (so_far off (n + 1) k) (server_state old k)) (sym is)
  turned_at c false e =
      let other : c ≡ n → ⊥ = λ is. grind arith in
      elsewhere c other ∙ are.states c ∙ ap (λ b. state_turned b (server_state old c)) (sym (others_as off n c other))

  left_at : (c s : ℕ) → c < length new → so_far off (n + 1) c ≡ true → s < 32 → (b : Bool) → (c == n) ≡ b → deadline after (32 * c + s) ≡ held_in (server_state new c) s
  left_at c s inside is below true e =
      let at : c ≡ n = grind arith in
      ap (λ k. deadline after (32 * k + s)) at ∙ own s below ∙ ap (λ state. held_in state s) (sym here) ∙ ap (λ k. held_in (server_state new k) s) (sym at)
  left_at c s inside is below false e =
      let other : c ≡ n → ⊥ = λ at. grind arith in
      same.beside (32 * c + s) (aside c n s other below)
      ∙ are.left c s (subst (λ k. c < k) (length-set mid n its) inside) (sym (others_as off n c other) ∙ is) below
      ∙ ap (λ state. held_in state s) (sym (elsewhere c other))

  others_at : (c s : ℕ) → so_far off (n + 1) c ≡ false → s < 32 → (b : Bool) → (c == n) ≡ b → deadline after (32 * c + s) ≡ deadline before (32 * c + s)
  others_at c s is below true e =
      let at : c ≡ n = grind arith in
      let never : true ≡ false = sym goes ∙ sym (just_now off n) ∙ ap (so_far off (n + 1)) (sym at) ∙ is in
      absurd cc
  others_at c s is below false e =
      let other : c ≡ n → ⊥ = λ at. grind arith in
      same.beside (32 * c + s) (aside c n s other below) ∙ are.others c s (sym (others_as off n c other) ∙ is) below

  pub one_goes : AreTurned (so_far off (n + 1)) old new before after
  one_goes = record {
    count = length-set mid n its ∙ are.count;
    states = λ c. turned_at c (c == n) refl;
    left = λ c s inside is below. left_at c s inside is below (c == n) refl;
    others = λ c s is below. others_at c s is below (c == n) refl;
    examined = same.examined ∙ are.examined;
    held = one_held n table after mid its within are.held has same;
  }

-- ---- what shows of all circuits

pub same_state : (old new : List (Option OpenCircuitValue)) (c : ℕ) → length new ≡ length old → server_state new c ≡ server_state old c → slice_get new c ≡ slice_get old c
same_state [] [] c size is = refl
same_state [] (x ∷ new) c size is = absurd (omega (arith, size))
same_state (x ∷ old) [] c size is = absurd (omega (arith, size))
same_state (x ∷ old) (y ∷ new) zero size is = ap Some is
same_state (x ∷ old) (y ∷ new) (suc c) size is = same_state old new c (omega (arith, size)) is

with_at : (parts : List CircuitPart) (states : List (Option OpenCircuitValue)) (c : ℕ) → slice_get (with_states parts states) c ≡ option_map (λ part. server part (server_state states c)) (slice_get parts c)
with_at [] states c = refl
with_at (part ∷ parts) [] zero = refl
with_at (part ∷ parts) [] (suc c) = with_at parts [] c
with_at (part ∷ parts) (state ∷ states) zero = refl
with_at (part ∷ parts) (state ∷ states) (suc c) = with_at parts states c

module _ (regions : ℕ → Region) (parts : List CircuitPart) (old new : List (Option OpenCircuitValue)) (c : ℕ) (before now : Bool)
    (is : server_state new c ≡ state_turned (before && not now) (server_state old c)) where
  seen : (states : List (Option OpenCircuitValue)) (found : Option CircuitPart) → slice_get parts c ≡ found
      → slice_get (map (leases_of regions) (with_states parts states)) c ≡ option_map (leases_of regions) (option_map (λ part. server part (server_state states c)) found)
  seen states found at = slice_get-map (leases_of regions) (with_states parts states) c ∙ ap (option_map (leases_of regions)) (with_at parts states c ∙ ap (option_map (λ part. server part (server_state states c))) at)

  by_part : (l : Leases) (found : Option CircuitPart) → slice_get parts c ≡ found → slice_get (map (leases_of regions) (with_states parts old)) c ≡ Some l
      → slice_get (map (leases_of regions) (with_states parts new)) c ≡ Some (turned before now l)
  by_part l None at there = absurd (none-some l (sym (seen old None at) ∙ there))
  by_part l (Some part) at there =
      let its : leases_of regions (server part (server_state old c)) ≡ l = same_Some _ _ (sym (seen old (Some part) at) ∙ there) in
      seen new (Some part) at ∙ ap (λ state. Some (leases_of regions (server part state))) is
      ∙ ap Some (leases_turned before now regions part (server_state old c) ∙ ap (turned before now) its)

  pub leases_at : (l : Leases) → slice_get (map (leases_of regions) (with_states parts old)) c ≡ Some l → slice_get (map (leases_of regions) (with_states parts new)) c ≡ Some (turned before now l)
  leases_at l there = by_part l (slice_get parts c) refl there

module _ (off : ℕ → Bool) (parts : List CircuitPart) (old new : List (Option OpenCircuitValue)) (size : length old ≡ length parts) (count : length new ≡ length old)
    (states : (c : ℕ) → server_state new c ≡ state_turned (off c) (server_state old c)) where
  all_kept : (P : CircuitServerValue → Type 0) → ((b : Bool) (part : CircuitPart) (state : Option OpenCircuitValue) → P (server part state) → P (server part (state_turned b state)))
      → All P (with_states parts old) → All P (with_states parts new)
  all_kept P step all =
      all_with P parts new (count ∙ size) (λ c part there.
      let within : c < length old = let inside = slice_get_within parts c part there in omega (arith, inside, size) in
      let was = at_index P (with_states parts old) c (server part (server_state old c)) (there_with parts old c part (server_state old c) there within (own_state old c within)) all in
      subst (λ state. P (server part state)) (sym (states c)) (step (off c) part (server_state old c) was))

  pub all_pools : All HasItsPools (with_states parts old) → All HasItsPools (with_states parts new)
  all_pools = all_kept HasItsPools pools_turned

  pub all_ready : (regions : ℕ → Region) → All (IsReady regions) (with_states parts old) → All (IsReady regions) (with_states parts new)
  all_ready regions = all_kept (IsReady regions) (λ b part state. ready_turned b (regions part.region) state)

-- ---- the topology

pub no_plan : (plan : ℕ) (topology : Topology) → nat_lt plan topology.plans.count ≡ false → reloaded plan topology ≡ topology
no_plan plan topology none = ap (λ b. record topology { plans = if b then record topology.plans { plan = plan } else topology.plans }) none

pub serves_after : (plan : ℕ) (topology : Topology) (c : ℕ) → nat_lt plan topology.plans.count ≡ true → serves (reloaded plan topology) c ≡ has topology.plans plan c
serves_after plan topology c there = ap (λ b. serves (record topology { plans = if b then record topology.plans { plan = plan } else topology.plans }) c) there

pub as_it_was : (served : Bool) (l : Leases) → turned served served l ≡ l
as_it_was true l = refl
as_it_was false l = refl

plan_there : (circuits plan : ℕ) (plans : MembershipValue) (b : Bool) → nat_lt plan plans.count ≡ b → IsMembership circuits plans → IsMembership circuits (with_plan plan plans)
plan_there circuits plan plans true less is =
    let below : plan < plans.count = grind arith in
    let new : MembershipValue = record plans { plan = plan } in
    let holds : IsMembership circuits new = record { few = is.few; there = below; each_circuit = is.each_circuit; each_plan = is.each_plan } in
    subst (λ (m : MembershipValue). IsMembership circuits m) (sym (rw less refl)) holds
plan_there circuits plan plans false less is = subst (λ (m : MembershipValue). IsMembership circuits m) (sym (rw less refl)) is

pub still_topology : (plan : ℕ) (topology : Topology) → IsTopology topology → IsTopology (reloaded plan topology)
still_topology plan topology is = record {
  few_relays = is.few_relays;
  few_circuits = is.few_circuits;
  parts = is.parts;
  listens_differ = is.listens_differ;
  listens = λ c part proto there. is.listens c part proto there ∙ sym (listens proto);
  relay = is.relay;
  ids = is.ids;
  regions = is.regions;
  plans = plan_there (length topology.circuits) plan topology.plans (nat_lt plan topology.plans.count) refl is.plans;
} where
  listens : (proto : Proto) → listen (reloaded plan topology) proto ≡ listen topology proto
  listens V4 = refl
  listens V6 = refl
