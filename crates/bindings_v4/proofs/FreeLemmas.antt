-- Look-ups by client, the addresses that are free, and the pick, by slots.
use Rattle.std.proofs.Common.{◌≡◌, ℕ, ◌+◌, ◌<◌, List, Bool, true, false, not, ◌&&◌, ◌||◌, cond, length, get_or, refl, sym, ap, ◌∙◌, arith}
use Rattle.std.specs.Prelude.{Option, Some, None, is_some}
use Rattle.std.specs.List.{find, range_with_len, position}
use Rattle.std.specs.FinMap.{get}
use Rattle.std.specs.Str.{bytes_eq}
use Rattle.std.proofs.Math.ListN.{get_or-map}
use Rattle.std.specs.Option.{option_or}
use Rattle.slots.specs.declared.holder.Holder.{Holder}
use Rattle.slots.specs.declared.holder.Holder.TheVariants.{Bound, Offered, Barred}
use Rattle.slots.specs.Key.{key4_cmp}
use Rattle.slots.specs.KeyLaws.{key4_is_key}
use Rattle.slots.specs.Lookup.{until_of, live, is_vacant, is_bound_to, is_offered_to, slot_in, where_vacant, picked_slot}
use Rattle.slots.specs.Maps.{is_live, names, in_range, address_of}
use Rattle.slots.specs.Slots.{bound_to, offered_to, barred_until, leases, bars_of}
use Rattle.slots.proofs.FreeLemmas.{from, from_or, or_either, inside, IsFreeBySlots, lowest_is, vacant_is, binding_is, offer_is, names_at}
use Rattle.slots.proofs.ShownLemmas.{live_slots, distinct_live, bound_sort, offered_sort, bars_at}
use Rattle.types.specs.Addr.{number4}
use Rattle.types.specs.Pool4.{PoolValue}
use Rattle.bindings_v4.specs.Book4.{Book4, is_free, lowest_free, where_free, pick}
use Rattle.bindings_v4.specs.Slots4.{Holders4, PoolSlots, book_of_slots, book4_of, AreSlots}
use Rattle.bindings_v4.proofs.ShownLemmas.{shown}

-- the slot for a client
abbrev pub picked : ℕ → PoolValue → Holders4 → List ℕ → Option ℕ → Option ℕ
picked t pool ss k wanted =
    picked_slot t ss (option_or (position (is_bound_to bytes_eq t k) ss) (position (is_offered_to bytes_eq t k) ss)) (slot_in (number4 pool.first) pool.count wanted)

-- ---- free addresses

held_if : (h : Holder (List ℕ)) (b : Bool)
    → not (is_some (bound_to (cond b (Some h) None)) || is_some (offered_to (cond b (Some h) None)) || is_some (barred_until (cond b (Some h) None))) ≡ not b
held_if (Bound k u) true = refl
held_if (Offered k u) true = refl
held_if (Barred u) true = refl
held_if h false = refl

held : (t : ℕ) (s : Option (Holder (List ℕ))) → not (is_some (bound_to (live t s)) || is_some (offered_to (live t s)) || is_some (barred_until (live t s))) ≡ is_vacant t s
held t None = refl
held t (Some h) = held_if h (is_live t (until_of h))

module _ (pool : PoolValue) (t : ℕ) (ss : Holders4) (are : AreSlots pool ss) where
  abbrev a : ℕ
  a = number4 pool.first

  abbrev ls : Holders4
  ls = live_slots t ss

  abbrev b : Book4
  b = book_of_slots a ls

  -- an address of the pool is free where its slot is vacant
  free_at : (i : ℕ) → i < length ss → is_free pool b (a + i) ≡ is_vacant t (get_or ss i None)
  free_at i h =
      let x = a + i in
      let dl = distinct_live key4_is_key t ss are.distinct in
      let offered = names x (leases key4_cmp offered_to a ls) in
      let barred = is_some (get (bars_of a ls) x) in
      ap (λ r. r && not (names x (leases key4_cmp bound_to a ls) || offered || barred)) (inside a pool.count i (omega (arith, h, are.size)))
      ∙ ap (λ r. not (r || offered || barred)) (names_at key4_is_key bound_to (bound_sort key4_is_key) a i ls dl)
      ∙ ap (λ r. not (is_some (bound_to (get_or ls i None)) || r || barred)) (names_at key4_is_key offered_to (offered_sort key4_is_key) a i ls dl)
      ∙ ap (λ o. not (is_some (bound_to (get_or ls i None)) || is_some (offered_to (get_or ls i None)) || is_some o)) (bars_at a i ls)
      ∙ ap (λ l. not (is_some (bound_to l) || is_some (offered_to l) || is_some (barred_until l))) (get_or-map (live t) ss i None)
      ∙ held t (get_or ss i None)

  none_outside : (x : ℕ) → in_range a (length ss) x ≡ false → is_free pool b x ≡ false
  none_outside x e =
      ap (λ r. r && not (names x b.bindings || names x b.offers || is_some (get b.bars x))) (ap (λ n. in_range a n x) (sym are.size) ∙ e)

  by_slots : IsFreeBySlots t a ss (is_free pool b)
  by_slots = record { at = free_at; outside = none_outside }

  lowest : lowest_free pool b ≡ from a (position (is_vacant t) ss)
  lowest = ap (λ n. find (is_free pool b) (range_with_len a n)) (sym are.size) ∙ lowest_is t a ss (is_free pool b) by_slots

  -- ---- the pick

  wanted_is : (wanted : Option ℕ) → where_free pool b wanted ≡ from a (where_vacant t ss (slot_in a (length ss) wanted))
  wanted_is None = refl
  wanted_is (Some x) = vacant_is t a x ss (is_free pool b) by_slots

  pick_of_live : (k : List ℕ) (wanted : Option ℕ) → pick pool b k wanted ≡ from a (picked t pool ss k wanted)
  pick_of_live k wanted =
      let bound = position (is_bound_to bytes_eq t k) ss in
      let offered = position (is_offered_to bytes_eq t k) ss in
      let wish = where_vacant t ss (slot_in a (length ss) wanted) in
      let vacant = position (is_vacant t) ss in
      ap (λ o. option_or o (option_or (address_of (get b.offers k)) (option_or (where_free pool b wanted) (lowest_free pool b)))) (binding_is key4_is_key t k a ss)
      ∙ ap (λ o. option_or (from a bound) (option_or o (option_or (where_free pool b wanted) (lowest_free pool b)))) (offer_is key4_is_key t k a ss)
      ∙ ap (λ o. option_or (from a bound) (option_or (from a offered) (option_or o (lowest_free pool b)))) (wanted_is wanted)
      ∙ ap (λ o. option_or (from a bound) (option_or (from a offered) (option_or (from a wish) o))) lowest
      ∙ ap (λ o. option_or (from a bound) (option_or (from a offered) o)) (sym (from_or a wish vacant))
      ∙ ap (option_or (from a bound)) (sym (from_or a offered (option_or wish vacant)))
      ∙ sym (from_or a bound (option_or offered (option_or wish vacant)))
      ∙ ap (from a) (sym (or_either bound offered (option_or wish vacant)))
      ∙ ap (λ n. from a (picked_slot t ss (option_or bound offered) (slot_in a n wanted))) are.size

-- ---- of a book at a clock

pub pick_is : (v : PoolSlots) (t : ℕ) (k : List ℕ) (wanted : Option ℕ) → AreSlots v.pool v.slots
    → pick v.pool (book4_of t v) k wanted ≡ from (number4 v.pool.first) (picked t v.pool v.slots k wanted)
pick_is v t k wanted are =
    ap (λ b. pick v.pool b k wanted) (shown (number4 v.pool.first) t v.slots are.distinct) ∙ pick_of_live v.pool t v.slots are k wanted

pub bound_is : (v : PoolSlots) (t : ℕ) (k : List ℕ) → AreSlots v.pool v.slots
    → address_of (get (book4_of t v).bindings k) ≡ from (number4 v.pool.first) (position (is_bound_to bytes_eq t k) v.slots)
bound_is v t k are =
    ap (λ b. address_of (get b.bindings k)) (shown (number4 v.pool.first) t v.slots are.distinct) ∙ binding_is key4_is_key t k (number4 v.pool.first) v.slots

pub offered_is : (v : PoolSlots) (t : ℕ) (k : List ℕ) → AreSlots v.pool v.slots
    → address_of (get (book4_of t v).offers k) ≡ from (number4 v.pool.first) (position (is_offered_to bytes_eq t k) v.slots)
offered_is v t k are =
    ap (λ b. address_of (get b.offers k)) (shown (number4 v.pool.first) t v.slots are.distinct) ∙ offer_is key4_is_key t k (number4 v.pool.first) v.slots

-- ---- for the code, whose slots and clock are a copy

pub bound_found : (v : PoolSlots) (t : ℕ) (k : List ℕ) → AreSlots v.pool v.slots → (ss : Holders4) (now : ℕ) (o : Option ℕ) → ss ≡ v.slots → now ≡ t → o ≡ position (is_bound_to bytes_eq now k) ss
    → from (number4 v.pool.first) o ≡ address_of (get (book4_of t v).bindings k)
bound_found v t k are ss now o same clock e =
    ap (from (number4 v.pool.first)) (e ∙ ap (λ n. position (is_bound_to bytes_eq n k) ss) clock ∙ ap (position (is_bound_to bytes_eq t k)) same) ∙ sym (bound_is v t k are)

pub offered_found : (v : PoolSlots) (t : ℕ) (k : List ℕ) → AreSlots v.pool v.slots → (ss : Holders4) (now : ℕ) (o : Option ℕ) → ss ≡ v.slots → now ≡ t → o ≡ position (is_offered_to bytes_eq now k) ss
    → from (number4 v.pool.first) o ≡ address_of (get (book4_of t v).offers k)
offered_found v t k are ss now o same clock e =
    ap (from (number4 v.pool.first)) (e ∙ ap (λ n. position (is_offered_to bytes_eq n k) ss) clock ∙ ap (position (is_offered_to bytes_eq t k)) same) ∙ sym (offered_is v t k are)

pub pick_found : (v : PoolSlots) (t : ℕ) (k : List ℕ) (wanted : Option ℕ) → AreSlots v.pool v.slots → (ss : Holders4) (now : ℕ) (o : Option ℕ) → ss ≡ v.slots → now ≡ t
    → o ≡ picked now v.pool ss k wanted → from (number4 v.pool.first) o ≡ pick v.pool (book4_of t v) k wanted
pick_found v t k wanted are ss now o same clock e =
    ap (from (number4 v.pool.first)) (e ∙ ap (λ n. picked n v.pool ss k wanted) clock ∙ ap (λ xs. picked t v.pool xs k wanted) same) ∙ sym (pick_is v t k wanted are)
