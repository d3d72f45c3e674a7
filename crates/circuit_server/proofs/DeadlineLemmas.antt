-- What decisions, clocks and sweeps make of the deadlines of a circuit.
use Rattle.std.proofs.Common.{◌≡◌, ℕ, zero, suc, ◌+◌, ◌-◌, ◌*◌, ◌<◌, ◌≤◌, ◌==◌, nat_le, nat_lt, Bool, true, false, List, [], ◌∷◌, length, map, set, get_or, refl, sym, ap, subst, ◌∙◌, arith, inl, inr}
use Rattle.std.specs.Prelude.{Option, Some, None, IfSome, option_map, if◌then◌else◌, ◌⊎◌}
use Rattle.std.specs.List.{position}
use Rattle.std.specs.Str.{bytes_eq}
use Rattle.std.proofs.lemmas.List.{get_or-set_same, get_or-set_other, length-set}
use Rattle.slots.specs.declared.holder.Holder.{Holder}
use Rattle.slots.specs.declared.holder.Holder.TheVariants.{Offered}
use Rattle.slots.specs.Lookup.{live, until_of}
use Rattle.slots.specs.Slots.{client_of, is_clients, with_slot, with_vacancy, without_lessee}
use Rattle.timers.specs.Deadlines.{DeadlinesValue, deadline, entry_after_sweep}
use Rattle.types.specs.Key6.{same_key6}
use Rattle.bindings_v4.specs.Slots4 as slots4
use Rattle.bindings_v4.specs.Decision4.{IsOffer, kept_slot, offer_change}
use Rattle.bindings_v4.specs.declared.decision4.Change4.{Change4}
use Rattle.bindings_v4.specs.declared.decision4.Change4.TheVariants as change
use Rattle.bindings_v4.specs.declared.decision4.KeptSlot.{KeptSlot as KeptSlot4}
use Rattle.bindings_v4.specs.declared.decision4.OfferChange.{OfferChange}
use Rattle.bindings_v4.specs.declared.decision4.OfferChange.TheVariants as offer
use Rattle.bindings_v6.specs.Slots6 as slots6
use Rattle.bindings_v6.specs.declared.decision6.KeptSlot.{KeptSlot as KeptSlot6}
use Rattle.circuit_server.specs.CircuitDecision.{FitsCircuit, KeepsItsSlot, LosesNoOther, with_decision}
use Rattle.circuit_server.specs.declared.decision.CircuitDecision.{CircuitDecision}
use Rattle.circuit_server.specs.declared.decision.CircuitDecision.TheVariants.{V4, V6}
use Rattle.circuit_server.specs.Deadlines.{HasDeadlines, HasEntries, HasItsSlots, IsOfferIn, KeepsEntries, OtherEntriesUnchanged, UnchangedOrUntilHeld, held_in, held_until, live_until, swept, with_deadlines, with_kept4, with_kept6, with_offered, with_until}
use Rattle.circuit_server.specs.CircuitServerValue.{OpenCircuitValue}

-- ---- what slots hold

module _ {K : Type 0} where
  abbrev pub until_at : List (Option (Holder K)) → ℕ → Option ℕ
  until_at ss s = option_map until_of (get_or ss s None)

  set_other : (ss : List (Option (Holder K))) (i s : ℕ) (new : Option (Holder K)) → (s ≡ i → ⊥) → until_at (set ss i new) s ≡ until_at ss s
  set_other ss i s new other = ap (option_map until_of) (get_or-set_other ss i s new None other)

  live_at : (clock : ℕ) (ss : List (Option (Holder K))) (s : ℕ) → get_or (map (live clock) ss) s None ≡ live clock (get_or ss s None)
  live_at clock [] s = refl
  live_at clock (x ∷ ss) zero = refl
  live_at clock (x ∷ ss) (suc s) = live_at clock ss s

  -- a holder that a sweep at the clock would not take is live
  until_live : (clock : ℕ) (held : Option (Holder K)) → entry_after_sweep clock (option_map until_of held) ≡ option_map until_of (live clock held)
  until_live clock None = refl
  until_live clock (Some holder) = by (nat_lt clock (until_of holder)) refl where
    by : (b : Bool) → nat_lt clock (until_of holder) ≡ b → entry_after_sweep clock (Some (until_of holder)) ≡ option_map until_of (if b then Some holder else None)
    by true e = let over : nat_le (until_of holder) clock ≡ false = grind arith in ap (λ b. if b then None else Some (until_of holder)) over
    by false e = let over : nat_le (until_of holder) clock ≡ true = grind arith in ap (λ b. if b then None else Some (until_of holder)) over

  same_live : (clock : ℕ) (ss new : List (Option (Holder K))) (s : ℕ) → map (live clock) new ≡ map (live clock) ss → entry_after_sweep clock (until_at new s) ≡ entry_after_sweep clock (until_at ss s)
  same_live clock ss new s same =
      until_live clock (get_or new s None)
      ∙ ap (option_map until_of) (sym (live_at clock new s) ∙ ap (λ xs. get_or xs s None) same ∙ live_at clock ss s)
      ∙ sym (until_live clock (get_or ss s None))

-- ---- a sweep

pub after_sweep_at : (now : ℕ) (xs : List (Option ℕ)) (n : ℕ) → get_or (map (entry_after_sweep now) xs) n None ≡ entry_after_sweep now (get_or xs n None)
after_sweep_at now [] n = refl
after_sweep_at now (x ∷ xs) zero = refl
after_sweep_at now (x ∷ xs) (suc n) = after_sweep_at now xs n

pub stays_closed : (now first : ℕ) (table : DeadlinesValue) → HasDeadlines table first None → HasDeadlines (swept now table) first None
stays_closed now first table has = λ s below. after_sweep_at now table.slots (first + s) ∙ ap (entry_after_sweep now) (has s below)

-- a later sweep takes what an earlier one would have taken
swept_later : (now later : ℕ) (entry : Option ℕ) → now ≤ later → entry_after_sweep later (entry_after_sweep now entry) ≡ entry_after_sweep later entry
swept_later now later None after = refl
swept_later now later (Some until) after = by (nat_le until now) refl where
  by : (b : Bool) → nat_le until now ≡ b → entry_after_sweep later (if b then None else Some until) ≡ entry_after_sweep later (Some until)
  by true e = let due : nat_le until later ≡ true = grind (arith, after) in sym (ap (λ b. if b then None else Some until) due)
  by false e = refl

same_later : (now later : ℕ) (one other : Option ℕ) → now ≤ later → entry_after_sweep now one ≡ entry_after_sweep now other → entry_after_sweep later one ≡ entry_after_sweep later other
same_later now later one other after same = sym (swept_later now later one after) ∙ ap (entry_after_sweep later) same ∙ swept_later now later other after

-- the clock moves, without a sweep
pub stays_at : (first : ℕ) (table : DeadlinesValue) (old new : OpenCircuitValue) → new.four ≡ old.four → new.six ≡ old.six → old.clock ≤ new.clock
    → HasDeadlines table first (Some old) → HasDeadlines table first (Some new)
stays_at first table old new four six later has = λ s below.
    let same : held_until old s ≡ held_until new s =
    λ j. (if nat_lt s 16 then option_map until_of (get_or (sym four j).slots s None) else option_map until_of (get_or (sym six j).slots (s - 16) None)) in
    same_later old.clock new.clock (deadline table (first + s)) (held_until old s) later (has s below) ∙ ap (entry_after_sweep new.clock) same

-- and with one at a moment that the clock has come to
pub stays_held : (now first : ℕ) (table : DeadlinesValue) (old new : OpenCircuitValue) → new.four ≡ old.four → new.six ≡ old.six → old.clock ≤ new.clock → now ≤ new.clock
    → HasDeadlines table first (Some old) → HasDeadlines (swept now table) first (Some new)
stays_held now first table old new four six later reached has = λ s below.
    ap (entry_after_sweep new.clock) (after_sweep_at now table.slots (first + s))
    ∙ swept_later now new.clock (deadline table (first + s)) reached
    ∙ stays_at first table old new four six later has s below

-- ---- one deadline is put

pub put_same : (table : DeadlinesValue) (n : ℕ) (until : Option ℕ) → n < length table.slots → deadline (with_until n until table) n ≡ until
put_same table n until within = get_or-set_same table.slots n until None within

pub put_other : (table : DeadlinesValue) (n m : ℕ) (until : Option ℕ) → (m ≡ n → ⊥) → deadline (with_until n until table) m ≡ deadline table m
put_other table n m until other = get_or-set_other table.slots n m until None other

-- the first slots of a circuit have their deadlines
pub record AreSet (first count : ℕ) (state : Option OpenCircuitValue) (old new : DeadlinesValue) : Type 0 where
  pub own : (s : ℕ) → s < count → deadline new (first + s) ≡ held_in state s
  pub beside : OtherEntriesUnchanged first old new

pub one_more : (first count : ℕ) (state : Option OpenCircuitValue) (old before after : DeadlinesValue) (until : Option ℕ) → count < 32 → first + 32 ≤ length old.slots
    → until ≡ held_in state count → after ≡ with_until (first + count) until before → AreSet first count state old before → AreSet first (count + 1) state old after
one_more first count state old before after until below room is put set_before =
    subst (AreSet first (count + 1) state old) (sym put)
    (record {
      own = λ s h. by s h (s == count) refl;
      beside = record {
        size = length-set before.slots (first + count) until ∙ set_before.beside.size;
        examined = set_before.beside.examined;
        beside = λ n out. put_other before (first + count) n until (λ same. apart n same out) ∙ set_before.beside.beside n out;
      };
    }) where
      within : first + count < length before.slots
      within = omega (arith, below, room, set_before.beside.size)

      apart : (n : ℕ) → n ≡ first + count → (n < first) ⊎ (first + 32 ≤ n) → ⊥
      apart n same out = omega (arith, same, out, below)

      by : (s : ℕ) → s < count + 1 → (b : Bool) → (s == count) ≡ b → deadline (with_until (first + count) until before) (first + s) ≡ held_in state s
      by s h true e =
          let same : s ≡ count = grind arith in
          subst (λ n. deadline (with_until (first + count) until before) (first + n) ≡ held_in state n) (sym same) (put_same before (first + count) until within ∙ is)
      by s h false e =
          let other : first + s ≡ first + count → ⊥ = λ same. grind arith in
          put_other before (first + count) (first + s) until other ∙ set_before.own s (grind arith)

pub all_set : (first : ℕ) (state : Option OpenCircuitValue) (old new : DeadlinesValue) → AreSet first 32 state old new → HasDeadlines new first state
all_set first None old new are = λ s below. are.own s below
all_set first (Some o) old new are = λ s below. ap (entry_after_sweep o.clock) (are.own s below)

-- ---- a decision

-- by the clock the 16 slots of a pool whose first has this number have their deadlines
module _ {K : Type 0} where
  abbrev HasThose : DeadlinesValue → ℕ → ℕ → List (Option (Holder K)) → Type 0
  HasThose table first clock ss = (s : ℕ) → s < 16 → entry_after_sweep clock (deadline table (first + s)) ≡ entry_after_sweep clock (until_at ss s)

  put_its : (table : DeadlinesValue) (first clock i : ℕ) (new : Option (Holder K)) (ss : List (Option (Holder K))) → i < 16 → i < length ss → first + 16 ≤ length table.slots
      → HasThose table first clock ss → HasThose (with_until (first + i) (option_map until_of new) table) first clock (set ss i new)
  put_its table first clock i new ss few inside room has = λ s below. by s below (s == i) refl where
    by : (s : ℕ) → s < 16 → (b : Bool) → (s == i) ≡ b → entry_after_sweep clock (deadline (with_until (first + i) (option_map until_of new) table) (first + s)) ≡ entry_after_sweep clock (until_at (set ss i new) s)
    by s below true e =
        let same : s ≡ i = grind arith in
        subst (λ n. entry_after_sweep clock (deadline (with_until (first + i) (option_map until_of new) table) (first + n)) ≡ entry_after_sweep clock (until_at (set ss i new) n)) (sym same)
        (ap (entry_after_sweep clock) (put_same table (first + i) (option_map until_of new) (omega (arith, few, room)) ∙ ap (option_map until_of) (sym (get_or-set_same ss i new None inside))))
    by s below false e =
        let other : s ≡ i → ⊥ = λ same. grind arith in
        let apart : first + s ≡ first + i → ⊥ = λ same. grind arith in
        ap (entry_after_sweep clock) (put_other table (first + i) (first + s) (option_map until_of new) apart) ∙ has s below ∙ ap (entry_after_sweep clock) (sym (set_other ss i s new other))

  put_others : (table : DeadlinesValue) (first clock n : ℕ) (until : Option ℕ) (ss : List (Option (Holder K))) → (n < first) ⊎ (first + 16 ≤ n) → HasThose table first clock ss → HasThose (with_until n until table) first clock ss
  put_others table first clock n until ss out has = λ s below.
      let apart : first + s ≡ n → ⊥ = λ same. omega (arith, same, out, below) in
      ap (entry_after_sweep clock) (put_other table n (first + s) until apart) ∙ has s below

  -- other slots, of which the same are live
  with_live : (table : DeadlinesValue) (first clock : ℕ) (ss new : List (Option (Holder K))) → map (live clock) new ≡ map (live clock) ss → HasThose table first clock ss → HasThose table first clock new
  with_live table first clock ss new same has = λ s below. has s below ∙ sym (same_live clock ss new s same)

-- both pools
held4 : (o : OpenCircuitValue) (s : ℕ) → s < 16 → held_until o s ≡ until_at o.four.slots s
held4 o s below =
    let few : nat_lt s 16 ≡ true = grind (arith, below) in
    ap (λ b. if b then until_at o.four.slots s else until_at o.six.slots (s - 16)) few

held6 : (o : OpenCircuitValue) (s : ℕ) → held_until o (16 + s) ≡ until_at o.six.slots s
held6 o s =
    let many : nat_lt (16 + s) 16 ≡ false = grind arith in
    let back : 16 + s - 16 ≡ s = omega arith in
    ap (λ b. if b then until_at o.four.slots (16 + s) else until_at o.six.slots (16 + s - 16)) many ∙ ap (until_at o.six.slots) back

four_of : (table : DeadlinesValue) (first : ℕ) (o : OpenCircuitValue) → HasDeadlines table first (Some o) → HasThose table first o.clock o.four.slots
four_of table first o has = λ s below. has s (omega (arith, below)) ∙ ap (entry_after_sweep o.clock) (held4 o s below)

six_of : (table : DeadlinesValue) (first : ℕ) (o : OpenCircuitValue) → HasDeadlines table first (Some o) → HasThose table (first + 16) o.clock o.six.slots
six_of table first o has = λ s below.
    let same : first + 16 + s ≡ first + (16 + s) = omega arith in
    ap (λ n. entry_after_sweep o.clock (deadline table n)) same ∙ has (16 + s) (omega (arith, below)) ∙ ap (entry_after_sweep o.clock) (held6 o s)

both : (table : DeadlinesValue) (first : ℕ) (o : OpenCircuitValue) → HasThose table first o.clock o.four.slots → HasThose table (first + 16) o.clock o.six.slots → HasDeadlines table first (Some o)
both table first o four six = λ s below. by s below (nat_lt s 16) refl where
  by : (s : ℕ) → s < 32 → (b : Bool) → nat_lt s 16 ≡ b → entry_after_sweep o.clock (deadline table (first + s)) ≡ live_until o s
  by s below true few =
      let small : s < 16 = grind arith in
      four s small ∙ ap (entry_after_sweep o.clock) (sym (held4 o s small))
  by s below false many =
      let large : 16 ≤ s = grind arith in
      let back : 16 + (s - 16) ≡ s = omega (arith, large) in
      let same : first + s ≡ first + 16 + (s - 16) = omega (arith, large) in
      ap (λ n. entry_after_sweep o.clock (deadline table n)) same
      ∙ six (s - 16) (omega (arith, below, large))
      ∙ ap (entry_after_sweep o.clock) (sym (held6 o (s - 16)) ∙ ap (held_until o) back)

-- what a DHCPv4 decision offers and keeps, in slots of a pool
after_offer : (change : Option OfferChange) (table : DeadlinesValue) (first clock count : ℕ) (ss : slots4.Holders4) → first + 32 ≤ length table.slots → count ≤ 16 → length ss ≡ count → IfSome change (IsOffer clock count)
    → HasThose table first clock ss → HasThose (with_offered first change table) first clock (slots4.with_written_offer change ss)
after_offer None table first clock count ss room few size its has = has
after_offer (Some (offer.Made i k u)) table first clock count ss room few size its has = put_its table first clock i (Some (Offered k u)) ss (omega (arith, few, its.0)) (omega (arith, size, its.0)) (omega (arith, room)) has
after_offer (Some (offer.Withdrawn i)) table first clock count ss room few size its has = put_its table first clock i None ss (omega (arith, few, its)) (omega (arith, size, its)) (omega (arith, room)) has

after_keep4 : (keep : Option KeptSlot4) (table : DeadlinesValue) (first clock count : ℕ) (ss : slots4.Holders4) → first + 32 ≤ length table.slots → count ≤ 16 → length ss ≡ count → IfSome keep (λ kept. kept.slot < count)
    → HasThose table first clock ss → HasThose (with_kept4 first keep table) first clock (slots4.with_written_slot keep ss)
after_keep4 None table first clock count ss room few size its has = has
after_keep4 (Some kept) table first clock count ss room few size its has = put_its table first clock kept.slot (slots4.holder_of kept.content) ss (omega (arith, few, its)) (omega (arith, size, its)) (omega (arith, room)) has

after_keep6 : (keep : Option KeptSlot6) (table : DeadlinesValue) (first clock count : ℕ) (ss : slots6.Holders6) → first + 32 ≤ length table.slots → count ≤ 16 → length ss ≡ count → IfSome keep (λ kept. kept.slot < count)
    → HasThose table (first + 16) clock ss → HasThose (with_kept6 first keep table) (first + 16) clock (slots6.with_written_slot keep ss)
after_keep6 None table first clock count ss room few size its has = has
after_keep6 (Some kept) table first clock count ss room few size its has =
    let same : first + (16 + kept.slot) ≡ first + 16 + kept.slot = omega arith in
    subst (λ n. HasThose (with_until n (option_map until_of (slots6.holder_of kept.content)) table) (first + 16) clock (slots6.with_written_slot (Some kept) ss)) (sym same)
    (put_its table (first + 16) clock kept.slot (slots6.holder_of kept.content) ss (omega (arith, few, its)) (omega (arith, size, its)) (omega (arith, room)) has)

size_offered : (change : Option OfferChange) (table : DeadlinesValue) (first : ℕ) → length (with_offered first change table).slots ≡ length table.slots
size_offered None table first = refl
size_offered (Some (offer.Made i k u)) table first = length-set table.slots (first + i) (Some u)
size_offered (Some (offer.Withdrawn i)) table first = length-set table.slots (first + i) None

size_written : (change : Option OfferChange) (ss : slots4.Holders4) → length (slots4.with_written_offer change ss) ≡ length ss
size_written None ss = refl
size_written (Some (offer.Made i k u)) ss = length-set ss i (Some (Offered k u))
size_written (Some (offer.Withdrawn i)) ss = length-set ss i None

-- the other pool's slots stay
offered_aside : {K : Type 0} (change : Option OfferChange) (table : DeadlinesValue) (first clock : ℕ) (ss : List (Option (Holder K))) → IfSome change IsOfferIn → HasThose table (first + 16) clock ss
    → HasThose (with_offered first change table) (first + 16) clock ss
offered_aside None table first clock ss its has = has
offered_aside (Some (offer.Made i k u)) table first clock ss its has = put_others table (first + 16) clock (first + i) (Some u) ss (inl (omega (arith, its))) has
offered_aside (Some (offer.Withdrawn i)) table first clock ss its has = put_others table (first + 16) clock (first + i) None ss (inl (omega (arith, its))) has

kept4_aside : {K : Type 0} (keep : Option KeptSlot4) (table : DeadlinesValue) (first clock : ℕ) (ss : List (Option (Holder K))) → IfSome keep (λ kept. kept.slot < 16) → HasThose table (first + 16) clock ss
    → HasThose (with_kept4 first keep table) (first + 16) clock ss
kept4_aside None table first clock ss its has = has
kept4_aside (Some kept) table first clock ss its has = put_others table (first + 16) clock (first + kept.slot) (option_map until_of (slots4.holder_of kept.content)) ss (inl (omega (arith, its))) has

kept6_aside : {K : Type 0} (keep : Option KeptSlot6) (table : DeadlinesValue) (first clock : ℕ) (ss : List (Option (Holder K))) → HasThose table first clock ss → HasThose (with_kept6 first keep table) first clock ss
kept6_aside None table first clock ss has = has
kept6_aside (Some kept) table first clock ss has = put_others table first clock (first + (16 + kept.slot)) (option_map until_of (slots6.holder_of kept.content)) ss (inr (omega arith)) has

offer_inside : (change : Option OfferChange) (clock count : ℕ) → count ≤ 16 → IfSome change (IsOffer clock count) → IfSome change IsOfferIn
offer_inside None clock count few its = tt
offer_inside (Some (offer.Made i k u)) clock count few its = omega (arith, few, its.0)
offer_inside (Some (offer.Withdrawn i)) clock count few its = omega (arith, few, its)

keep4_inside : (keep : Option KeptSlot4) (count : ℕ) → count ≤ 16 → IfSome keep (λ kept. kept.slot < count) → IfSome keep (λ kept. kept.slot < 16)
keep4_inside None count few its = tt
keep4_inside (Some kept) count few its = omega (arith, few, its)

keep6_inside : (keep : Option KeptSlot6) (count : ℕ) → count ≤ 16 → IfSome keep (λ kept. kept.slot < count) → IfSome keep (λ kept. kept.slot < 16)
keep6_inside None count few its = tt
keep6_inside (Some kept) count few its = omega (arith, few, its)

pub slots_inside : (d : CircuitDecision) (o : OpenCircuitValue) → KeepsItsSlot d o → HasItsSlots d
slots_inside (V4 made) o keeps = (keep4_inside (kept_slot made.decision.change) o.four.pool.count keeps.2 keeps.1, offer_inside (offer_change made.decision.change) o.clock o.four.pool.count keeps.2 keeps.3)
slots_inside (V6 made) o keeps = keep6_inside made.decision.keep o.six.pool.count keeps.2 keeps.1

-- the table after a decision
pub after_decision : (d : CircuitDecision) (table : DeadlinesValue) (first : ℕ) (o : OpenCircuitValue) → first + 32 ≤ length table.slots → KeepsItsSlot d o → LosesNoOther d o → HasDeadlines table first (Some o)
    → HasDeadlines (with_deadlines d first table) first (Some (with_decision d o))
after_decision (V4 made) table first o room keeps others has =
    let its = slots_inside (V4 made) o keeps in
    let offered = with_offered first (offer_change made.decision.change) table in
    let after = with_kept4 first (kept_slot made.decision.change) offered in
    let more : first + 32 ≤ length offered.slots = omega (arith, room, size_offered (offer_change made.decision.change) table first) in
    let size : length (slots4.with_written_offer (offer_change made.decision.change) o.four.slots) ≡ o.four.pool.count = size_written (offer_change made.decision.change) o.four.slots ∙ others.1 in
    both after first (with_decision (V4 made) o)
    (with_live after first o.clock (slots4.with_written made.decision o.four.slots) (slots4.with_decision made.decision o.four).slots others.0
    (after_keep4 (kept_slot made.decision.change) offered first o.clock o.four.pool.count (slots4.with_written_offer (offer_change made.decision.change) o.four.slots) more keeps.2 size keeps.1
    (after_offer (offer_change made.decision.change) table first o.clock o.four.pool.count o.four.slots room keeps.2 others.1 keeps.3 (four_of table first o has))))
    (kept4_aside (kept_slot made.decision.change) offered first o.clock o.six.slots its.0 (offered_aside (offer_change made.decision.change) table first o.clock o.six.slots its.1 (six_of table first o has)))
after_decision (V6 made) table first o room keeps others has =
    let after = with_kept6 first made.decision.keep table in
    both after first (with_decision (V6 made) o)
    (kept6_aside made.decision.keep table first o.clock o.four.slots (four_of table first o has))
    (with_live after (first + 16) o.clock (slots6.with_written made.decision o.six.slots) (slots6.with_decision made.decision o.six).slots others.0
    (after_keep6 made.decision.keep table first o.clock o.six.pool.count o.six.slots room keeps.2 others.1 keeps.1 (six_of table first o has)))

-- what a decision does not change stays
put_old_or : (table : DeadlinesValue) (first i : ℕ) (until : Option ℕ) (state : Option OpenCircuitValue) → first + 32 ≤ length table.slots → i < 32 → until ≡ held_in state i
    → UnchangedOrUntilHeld first table (with_until (first + i) until table) state
put_old_or table first i until state room few is = λ s below. by s (s == i) refl where
  by : (s : ℕ) (b : Bool) → (s == i) ≡ b → (deadline (with_until (first + i) until table) (first + s) ≡ deadline table (first + s)) ⊎ (deadline (with_until (first + i) until table) (first + s) ≡ held_in state s)
  by s true e =
      let same : s ≡ i = grind arith in
      inr (ap (λ n. deadline (with_until (first + i) until table) (first + n)) same ∙ put_same table (first + i) until (omega (arith, few, room)) ∙ is ∙ ap (held_in state) (sym same))
  by s false e = inl (put_other table (first + i) (first + s) until (λ same. grind arith))

module _ {K : Type 0} where
  vacated_size : (found : Option ℕ) (ss : List (Option (Holder K))) → length (with_vacancy found ss) ≡ length ss
  vacated_size None ss = refl
  vacated_size (Some j) ss = length-set ss j None

  lessee_size : (eqk : K → K → Bool) (client : Option K) (ss : List (Option (Holder K))) → length (without_lessee eqk client ss) ≡ length ss
  lessee_size eqk None ss = refl
  lessee_size eqk (Some client) ss = vacated_size (position (is_clients eqk client) ss) ss

  written_at : (eqk : K → K → Bool) (i : ℕ) (new : Option (Holder K)) (ss : List (Option (Holder K))) → i < length ss → option_map until_of new ≡ until_at (with_slot eqk i new ss) i
  written_at eqk i new ss inside = ap (option_map until_of) (sym (get_or-set_same (without_lessee eqk (client_of new) ss) i new None (omega (arith, inside, lessee_size eqk (client_of new) ss))))

abbrev with_four : OpenCircuitValue → slots4.Holders4 → OpenCircuitValue
with_four o ss = record o { four = record o.four { slots = ss } }

abbrev with_six : OpenCircuitValue → slots6.Holders6 → OpenCircuitValue
with_six o ss = record o { six = record o.six { slots = ss } }

by_change4 : (change : Change4) (table : DeadlinesValue) (first clock count : ℕ) (o : OpenCircuitValue) → first + 32 ≤ length table.slots → count ≤ 16 → length o.four.slots ≡ count
    → IfSome (offer_change change) (IsOffer clock count) → IfSome (kept_slot change) (λ kept. kept.slot < count)
    → UnchangedOrUntilHeld first table (with_kept4 first (kept_slot change) (with_offered first (offer_change change) table))
    (Some (with_four o (slots4.with_kept (kept_slot change) (slots4.with_offer (offer_change change) o.four.slots))))
by_change4 change.Nothing table first clock count o room few size offered kept = λ s below. inl refl
by_change4 (change.Keeps k) table first clock count o room few size offered kept =
    let ss = slots4.with_kept (Some k) o.four.slots in
    put_old_or table first k.slot (option_map until_of (slots4.holder_of k.content)) (Some (with_four o ss)) room (omega (arith, few, kept))
    (written_at bytes_eq k.slot (slots4.holder_of k.content) o.four.slots (omega (arith, size, kept)) ∙ sym (held4 (with_four o ss) k.slot (omega (arith, few, kept))))
by_change4 (change.Offers (offer.Made i k u)) table first clock count o room few size offered kept =
    let ss = slots4.with_offer (Some (offer.Made i k u)) o.four.slots in
    put_old_or table first i (Some u) (Some (with_four o ss)) room (omega (arith, few, offered.0))
    (written_at bytes_eq i (Some (Offered k u)) o.four.slots (omega (arith, size, offered.0)) ∙ sym (held4 (with_four o ss) i (omega (arith, few, offered.0))))
by_change4 (change.Offers (offer.Withdrawn i)) table first clock count o room few size offered kept =
    let ss = slots4.with_offer (Some (offer.Withdrawn i)) o.four.slots in
    put_old_or table first i None (Some (with_four o ss)) room (omega (arith, few, offered))
    (written_at bytes_eq i None o.four.slots (omega (arith, size, offered)) ∙ sym (held4 (with_four o ss) i (omega (arith, few, offered))))

by_change6 : (keep : Option KeptSlot6) (table : DeadlinesValue) (first count : ℕ) (o : OpenCircuitValue) → first + 32 ≤ length table.slots → count ≤ 16 → length o.six.slots ≡ count → IfSome keep (λ kept. kept.slot < count)
    → UnchangedOrUntilHeld first table (with_kept6 first keep table) (Some (with_six o (slots6.with_kept keep o.six.slots)))
by_change6 None table first count o room few size kept = λ s below. inl refl
by_change6 (Some k) table first count o room few size kept =
    let ss = slots6.with_kept (Some k) o.six.slots in
    put_old_or table first (16 + k.slot) (option_map until_of (slots6.holder_of k.content)) (Some (with_six o ss)) room (omega (arith, few, kept))
    (written_at same_key6 k.slot (slots6.holder_of k.content) o.six.slots (omega (arith, size, kept)) ∙ sym (held6 (with_six o ss) k.slot))

pub old_or_decided : (d : CircuitDecision) (table : DeadlinesValue) (first : ℕ) (o : OpenCircuitValue) → first + 32 ≤ length table.slots → KeepsItsSlot d o → LosesNoOther d o
    → UnchangedOrUntilHeld first table (with_deadlines d first table) (Some (with_decision d o))
old_or_decided (V4 made) table first o room keeps others = by_change4 made.decision.change table first o.clock o.four.pool.count o room keeps.2 others.1 keeps.3 keeps.1
old_or_decided (V6 made) table first o room keeps others = by_change6 made.decision.keep table first o.six.pool.count o room keeps.2 others.1 keeps.1

-- nothing beside the circuit's slots
beside_one : (first n : ℕ) (until : Option ℕ) (old table : DeadlinesValue) → first ≤ n → n < first + 32 → OtherEntriesUnchanged first old table → OtherEntriesUnchanged first old (with_until n until table)
beside_one first n until old table least below same =
    record {
      size = length-set table.slots n until ∙ same.size;
      examined = same.examined;
      beside = λ m out. put_other table n m until (λ e. apart m e out) ∙ same.beside m out;
    } where
      apart : (m : ℕ) → m ≡ n → (m < first) ⊎ (first + 32 ≤ m) → ⊥
      apart m e out = omega (arith, e, out, least, below)

beside_offered : (change : Option OfferChange) (first : ℕ) (old table : DeadlinesValue) → IfSome change IsOfferIn → OtherEntriesUnchanged first old table → OtherEntriesUnchanged first old (with_offered first change table)
beside_offered None first old table its same = same
beside_offered (Some (offer.Made i k u)) first old table its same = beside_one first (first + i) (Some u) old table (omega arith) (omega (arith, its)) same
beside_offered (Some (offer.Withdrawn i)) first old table its same = beside_one first (first + i) None old table (omega arith) (omega (arith, its)) same

beside_kept4 : (keep : Option KeptSlot4) (first : ℕ) (old table : DeadlinesValue) → IfSome keep (λ kept. kept.slot < 16) → OtherEntriesUnchanged first old table → OtherEntriesUnchanged first old (with_kept4 first keep table)
beside_kept4 None first old table its same = same
beside_kept4 (Some kept) first old table its same = beside_one first (first + kept.slot) _ old table (omega arith) (omega (arith, its)) same

beside_kept6 : (keep : Option KeptSlot6) (first : ℕ) (old table : DeadlinesValue) → IfSome keep (λ kept. kept.slot < 16) → OtherEntriesUnchanged first old table → OtherEntriesUnchanged first old (with_kept6 first keep table)
beside_kept6 None first old table its same = same
beside_kept6 (Some kept) first old table its same = beside_one first (first + (16 + kept.slot)) _ old table (omega arith) (omega (arith, its)) same

pub unchanged : (first : ℕ) (table : DeadlinesValue) → OtherEntriesUnchanged first table table
unchanged first table = record { size = refl; examined = refl; beside = λ n out. refl }

pub beside_decision : (d : CircuitDecision) (table : DeadlinesValue) (first : ℕ) → HasItsSlots d → OtherEntriesUnchanged first table (with_deadlines d first table)
beside_decision (V4 made) table first its = beside_kept4 (kept_slot made.decision.change) first table (with_offered first (offer_change made.decision.change) table) its.0 (beside_offered (offer_change made.decision.change) first table table its.1 (unchanged first table))
beside_decision (V6 made) table first its = beside_kept6 made.decision.keep first table table its (unchanged first table)

-- ---- a circuit's entries

pub set_entries : (circuit : ℕ) (state : Option OpenCircuitValue) (old new : DeadlinesValue) → AreSet (32 * circuit) 32 state old new → KeepsEntries circuit old new state
set_entries circuit state old new are = record { deadlines = all_set (32 * circuit) state old new are; own = λ s below. inr (are.own s below); others = are.beside }

pub decided_entries : (d : CircuitDecision) (table : DeadlinesValue) (circuit : ℕ) (o : OpenCircuitValue) → FitsCircuit d o → HasEntries table circuit (Some o)
    → KeepsEntries circuit table (with_deadlines d (32 * circuit) table) (Some (with_decision d o))
decided_entries d table circuit o fits has = record {
  deadlines = after_decision d table (32 * circuit) o has.room fits.keeps fits.others has.deadlines;
  own = old_or_decided d table (32 * circuit) o has.room fits.keeps fits.others;
  others = beside_decision d table (32 * circuit) (slots_inside d o fits.keeps);
}

pub unchanged_entries : (table : DeadlinesValue) (circuit : ℕ) (state : Option OpenCircuitValue) → HasEntries table circuit state → KeepsEntries circuit table table state
unchanged_entries table circuit state has = record { deadlines = has.deadlines; own = λ s below. inl refl; others = unchanged (32 * circuit) table }

-- they stay in the table
pub entries_after : (circuit : ℕ) (old new : DeadlinesValue) (was state : Option OpenCircuitValue) → HasEntries old circuit was → KeepsEntries circuit old new state → HasEntries new circuit state
entries_after circuit old new was state has keeps = record { room = omega (arith, has.room, keeps.others.size); deadlines = keeps.deadlines }

-- the clock moves
pub ticked_entries : (table : DeadlinesValue) (circuit : ℕ) (old new : OpenCircuitValue) → new.four ≡ old.four → new.six ≡ old.six → old.clock ≤ new.clock → HasEntries table circuit (Some old) → HasEntries table circuit (Some new)
ticked_entries table circuit old new four six later has = record { room = has.room; deadlines = stays_at (32 * circuit) table old new four six later has.deadlines }
