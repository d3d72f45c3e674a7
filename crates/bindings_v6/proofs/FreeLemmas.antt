-- Look-ups by client, the addresses that are free, and the pick, by slots.
use Rattle.std.proofs.Common.{◌≡◌, ℕ, ◌+◌, ◌<◌, Bool, true, false, not, ◌&&◌, ◌||◌, cond, length, get_or, refl, sym, ap, ◌∙◌, arith}
use Rattle.std.specs.Prelude.{Option, Some, None, is_some}
use Rattle.std.specs.List.{find, range_with_len, position}
use Rattle.std.specs.FinMap.{get}
use Rattle.std.proofs.Math.ListN.{get_or-map}
use Rattle.std.specs.Option.{option_or}
use Rattle.slots.specs.declared.holder.Holder.{Holder}
use Rattle.slots.specs.declared.holder.Holder.TheVariants.{Bound, Offered, Barred}
use Rattle.slots.specs.Key.{key6_cmp}
use Rattle.slots.specs.KeyLaws.{key6_is_key}
use Rattle.slots.specs.Lookup.{live, is_vacant, is_bound_to, slot_in, where_vacant, picked_slot}
use Rattle.slots.specs.Maps.{is_live, names, in_range, address_of}
use Rattle.slots.specs.Slots.{bound_to, offered_to, barred_until, leases, bars_of}
use Rattle.slots.proofs.FreeLemmas.{from, from_or, inside, IsFreeBySlots, lowest_is, vacant_is, binding_is, names_at}
use Rattle.slots.proofs.ShownLemmas.{live_slots, distinct_live, bound_sort, bars_at}
use Rattle.types.specs.Addr.{number6}
use Rattle.types.specs.Key6.{Key6Value, same_key6}
use Rattle.types.specs.Pool6.{Pool6Value}
use Rattle.bindings_v6.specs.Book6.{Book6, is_free, lowest_free, where_free, pick}
use Rattle.bindings_v6.specs.Slots6.{Holders6, PoolSlots, book_of_slots, book6_of, AreSlots}
use Rattle.bindings_v6.proofs.ShownLemmas.{shown}

-- the slot for a client
abbrev pub picked : ℕ → Pool6Value → Holders6 → Key6Value → Option ℕ → Option ℕ
picked t pool ss k wanted = picked_slot t ss (position (is_bound_to same_key6 t k) ss) (slot_in (number6 pool.first) pool.count wanted)

-- ---- free addresses

held_if : (h : Holder Key6Value) (b : Bool) → offered_to (Some h) ≡ None
    → not (is_some (bound_to (cond b (Some h) None)) || is_some (barred_until (cond b (Some h) None))) ≡ not b
held_if (Bound k u) true e = refl
held_if (Offered k u) true e = absurd cc
held_if (Barred u) true e = refl
held_if h false e = refl

held : (t : ℕ) (s : Option (Holder Key6Value)) → offered_to s ≡ None → not (is_some (bound_to (live t s)) || is_some (barred_until (live t s))) ≡ is_vacant t s
held t None e = refl
held t (Some (Bound k u)) e = held_if (Bound k u) (is_live t u) e
held t (Some (Offered k u)) e = absurd cc
held t (Some (Barred u)) e = held_if (Barred u) (is_live t u) e

module _ (pool : Pool6Value) (t : ℕ) (ss : Holders6) (are : AreSlots pool ss) where
  abbrev a : ℕ
  a = number6 pool.first

  abbrev ls : Holders6
  ls = live_slots t ss

  abbrev b : Book6
  b = book_of_slots a ls

  -- an address of the pool is free where its slot is vacant
  free_at : (i : ℕ) → i < length ss → is_free pool b (a + i) ≡ is_vacant t (get_or ss i None)
  free_at i h =
      let x = a + i in
      ap (λ r. r && not (names x (leases key6_cmp bound_to a ls) || is_some (get (bars_of a ls) x))) (inside a pool.count i (omega (arith, h, are.size)))
      ∙ ap (λ r. not (r || is_some (get (bars_of a ls) x))) (names_at key6_is_key bound_to (bound_sort key6_is_key) a i ls (distinct_live key6_is_key t ss are.distinct))
      ∙ ap (λ o. not (is_some (bound_to (get_or ls i None)) || is_some o)) (bars_at a i ls)
      ∙ ap (λ l. not (is_some (bound_to l) || is_some (barred_until l))) (get_or-map (live t) ss i None)
      ∙ held t (get_or ss i None) (are.no_offers i)

  none_outside : (x : ℕ) → in_range a (length ss) x ≡ false → is_free pool b x ≡ false
  none_outside x e =
      ap (λ r. r && not (names x b.bindings || is_some (get b.bars x))) (ap (λ n. in_range a n x) (sym are.size) ∙ e)

  by_slots : IsFreeBySlots t a ss (is_free pool b)
  by_slots = record { at = free_at; outside = none_outside }

  lowest : lowest_free pool b ≡ from a (position (is_vacant t) ss)
  lowest = ap (λ n. find (is_free pool b) (range_with_len a n)) (sym are.size) ∙ lowest_is t a ss (is_free pool b) by_slots

  -- ---- the pick

  wanted_is : (wanted : Option ℕ) → where_free pool b wanted ≡ from a (where_vacant t ss (slot_in a (length ss) wanted))
  wanted_is None = refl
  wanted_is (Some x) = vacant_is t a x ss (is_free pool b) by_slots

  pick_of_live : (k : Key6Value) (wanted : Option ℕ) → pick pool b k wanted ≡ from a (picked t pool ss k wanted)
  pick_of_live k wanted =
      let bound = position (is_bound_to same_key6 t k) ss in
      let wish = where_vacant t ss (slot_in a (length ss) wanted) in
      let vacant = position (is_vacant t) ss in
      ap (λ o. option_or o (option_or (where_free pool b wanted) (lowest_free pool b))) (binding_is key6_is_key t k a ss)
      ∙ ap (λ o. option_or (from a bound) (option_or o (lowest_free pool b))) (wanted_is wanted)
      ∙ ap (λ o. option_or (from a bound) (option_or (from a wish) o)) lowest
      ∙ ap (option_or (from a bound)) (sym (from_or a wish vacant))
      ∙ sym (from_or a bound (option_or wish vacant))
      ∙ ap (λ n. from a (picked_slot t ss bound (slot_in a n wanted))) are.size

-- ---- of a book at a clock

pub pick_is : (v : PoolSlots) (t : ℕ) (k : Key6Value) (wanted : Option ℕ) → AreSlots v.pool v.slots
    → pick v.pool (book6_of t v) k wanted ≡ from (number6 v.pool.first) (picked t v.pool v.slots k wanted)
pick_is v t k wanted are =
    ap (λ b. pick v.pool b k wanted) (shown (number6 v.pool.first) t v.slots are.distinct) ∙ pick_of_live v.pool t v.slots are k wanted

pub bound_is : (v : PoolSlots) (t : ℕ) (k : Key6Value) → AreSlots v.pool v.slots
    → address_of (get (book6_of t v).bindings k) ≡ from (number6 v.pool.first) (position (is_bound_to same_key6 t k) v.slots)
bound_is v t k are =
    ap (λ b. address_of (get b.bindings k)) (shown (number6 v.pool.first) t v.slots are.distinct) ∙ binding_is key6_is_key t k (number6 v.pool.first) v.slots

-- ---- for the code, whose slots and clock are a copy

pub bound_found : (v : PoolSlots) (t : ℕ) (k : Key6Value) → AreSlots v.pool v.slots → (ss : Holders6) (now : ℕ) (o : Option ℕ) → ss ≡ v.slots → now ≡ t → o ≡ position (is_bound_to same_key6 now k) ss
    → from (number6 v.pool.first) o ≡ address_of (get (book6_of t v).bindings k)
bound_found v t k are ss now o same clock e =
    ap (from (number6 v.pool.first)) (e ∙ ap (λ n. position (is_bound_to same_key6 n k) ss) clock ∙ ap (position (is_bound_to same_key6 t k)) same) ∙ sym (bound_is v t k are)

pub pick_found : (v : PoolSlots) (t : ℕ) (k : Key6Value) (wanted : Option ℕ) → AreSlots v.pool v.slots → (ss : Holders6) (now : ℕ) (o : Option ℕ) → ss ≡ v.slots → now ≡ t
    → o ≡ picked now v.pool ss k wanted → from (number6 v.pool.first) o ≡ pick v.pool (book6_of t v) k wanted
pick_found v t k wanted are ss now o same clock e =
    ap (from (number6 v.pool.first)) (e ∙ ap (λ n. picked n v.pool ss k wanted) clock ∙ ap (λ xs. picked t v.pool xs k wanted) same) ∙ sym (pick_is v t k wanted are)
