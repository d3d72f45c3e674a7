-- What a region keeps of slots, and the book that its slots mean.
use Rattle.std.proofs.Common.{◌≡◌, ℕ, ◌≤◌, true, List, length, map, take, get_or, refl, sym, ap, ◌∙◌, arith}
use Rattle.std.specs.Prelude.{Option, Some, None, All}
use Rattle.std.proofs.Math.ListN.{get_or-map}
use Rattle.slots.specs.declared.holder.Holder.{Holder}
use Rattle.slots.specs.declared.holder.Holder.TheVariants.{Bound, Offered, Barred}
use Rattle.slots.specs.Kept.{unoffered, kept, same_client, IsWithin, AreWithin, AreOffersWithin}
use Rattle.slots.specs.KeyLaws.{key6_is_key}
use Rattle.slots.specs.Lookup.{live}
use Rattle.slots.specs.Maps.{is_live}
use Rattle.slots.specs.Slots.{bound_to, offered_to, barred_until, AreDistinct}
use Rattle.slots.proofs.FormLemmas as form
use Rattle.slots.proofs.FormLemmas.{IsForm, held, held_none, again_distinct, again_at, begun_is}
use Rattle.slots.proofs.KeptLemmas.{take_at, leases_by, bars_by}
use Rattle.slots.proofs.ShownLemmas.{live_slots, of_cond}
use Rattle.types.specs.Addr.{number6}
use Rattle.types.specs.Key6.{Key6Value, same_key6}
use Rattle.types.specs.Pool6.{IsPool6, Pool6Value}
use Rattle.types.specs.Slots.{IsWithin6, live6, none_twice, same_client6}
use Rattle.types.specs.declared.slot6.Slot6.{Slot6}
use Rattle.types.specs.declared.slot6.Slot6.TheVariants as slot6
use Rattle.types.specs.declared.slots.Slots.{Slots as RegionSlots}
use Rattle.bindings_v6.specs.Book6.{book6_at}
use Rattle.bindings_v6.specs.Kept6.{book6_in, slot_of, kept_slots}
use Rattle.bindings_v6.specs.Slots6.{Holders6, PoolSlots, book_of_slots, book6_of, AreSlots, holder_of}
use Rattle.bindings_v6.proofs.ShownLemmas.{shown}

-- ---- a slot of a region and its holder

held_is : (t : ℕ) (slot : Slot6) → holder_of (live6 t slot) ≡ live t (holder_of slot)
held_is t slot6.Free = refl
held_is t (slot6.Bound k u) = of_cond holder_of (is_live t u) (slot6.Bound k u) slot6.Free
held_is t (slot6.Barred u) = of_cond holder_of (is_live t u) (slot6.Barred u) slot6.Free

holder_back : (h : Option (Holder Key6Value)) → holder_of (slot_of h) ≡ unoffered h
holder_back None = refl
holder_back (Some (Bound k u)) = refl
holder_back (Some (Offered k u)) = refl
holder_back (Some (Barred u)) = refl

slot_back : (slot : Slot6) → slot_of (holder_of slot) ≡ slot
slot_back slot6.Free = refl
slot_back (slot6.Bound k u) = refl
slot_back (slot6.Barred u) = refl

pub never_offered : (slot : Slot6) → offered_to (holder_of slot) ≡ None
never_offered slot6.Free = refl
never_offered (slot6.Bound k u) = refl
never_offered (slot6.Barred u) = refl

same_holders : (x y : Slot6) → same_client6 x y ≡ same_client same_key6 (holder_of x) (holder_of y)
same_holders slot6.Free slot6.Free = refl
same_holders slot6.Free (slot6.Bound k u) = refl
same_holders slot6.Free (slot6.Barred u) = refl
same_holders (slot6.Bound k u) slot6.Free = refl
same_holders (slot6.Bound k u) (slot6.Bound q v) = refl
same_holders (slot6.Bound k u) (slot6.Barred v) = refl
same_holders (slot6.Barred u) slot6.Free = refl
same_holders (slot6.Barred u) (slot6.Bound k v) = refl
same_holders (slot6.Barred u) (slot6.Barred v) = refl

pub form6 : IsForm same_key6 holder_of slot_of live6 same_client6
form6 = record { holder_back = holder_back; slot_back = slot_back; held_is = held_is; never_offered = never_offered; same_holders = same_holders }

-- slots that are live as they are have no client twice at their clock
pub live_once : (t : ℕ) (xs : List Slot6) → All (λ slot. live6 t slot ≡ slot) xs → none_twice same_client6 xs ≡ true → none_twice same_client6 (map (live6 t) xs) ≡ true
live_once t xs live once = form.live_once live6 same_client6 t xs live once

-- ---- what is kept is within the limit

slot_within : (h : Option (Holder Key6Value)) → IsWithin h → IsWithin6 (slot_of h)
slot_within None w = tt
slot_within (Some (Bound k u)) w = w
slot_within (Some (Offered k u)) w = tt
slot_within (Some (Barred u)) w = w

pub holder_within : (slot : Slot6) → IsWithin6 slot → IsWithin (holder_of slot)
holder_within slot6.Free w = tt
holder_within (slot6.Bound k u) w = w
holder_within (slot6.Barred u) w = w

pub all_within : (t : ℕ) (ss : Holders6) (xs : List Slot6) → xs ≡ kept_slots t ss → AreWithin ss → All IsWithin6 xs
all_within t ss xs e w = form.all_within form6 IsWithin6 slot_within t ss xs e w

-- ---- a book begins from slots

same_book : (a : ℕ) (xs ys : Holders6) → ((i : ℕ) → get_or xs i None ≡ get_or ys i None) → book_of_slots a xs ≡ book_of_slots a ys
same_book a xs ys same =
    λ j. record {
      bindings = leases_by key6_is_key bound_to refl a xs ys (λ i. ap bound_to (same i)) j;
      bars = bars_by a xs ys (λ i. ap barred_until (same i)) j;
    }

module _ (pool : Pool6Value) (region : RegionSlots) (t n : ℕ) (ss : Holders6) (clock : t ≡ region.clock) (count : n ≡ pool.count) (e : ss ≡ map (held form6 t) (take n region.six)) where
  pub begun_distinct : none_twice same_client6 (map (live6 region.clock) region.six) ≡ true → AreDistinct same_key6 ss
  begun_distinct once = form.begun_distinct form6 region.six region.clock pool.count t n ss clock count e key6_is_key once

  pub begun_slots : IsPool6 pool.first pool.count pool.lease → length ss ≡ n → none_twice same_client6 (map (live6 region.clock) region.six) ≡ true → AreSlots pool ss
  begun_slots limits size once =
      record {
        limits = limits;
        size = size ∙ count;
        distinct = begun_distinct once;
        no_offers = λ i. ap (λ xs. offered_to (get_or xs i None)) e ∙ held_none form6 t i (take n region.six);
      }

  pub begun_book : ((i : ℕ) → pool.count ≤ i → get_or region.six i slot6.Free ≡ slot6.Free) → book6_of region.clock (record { pool = pool; slots = ss }) ≡ book6_in pool region
  begun_book past =
      let all = map (held form6 region.clock) region.six in
      let there : (i : ℕ) → get_or all i None ≡ held form6 region.clock (get_or region.six i slot6.Free) = λ i. get_or-map (held form6 region.clock) region.six i slot6.Free in
      ap (λ xs. book6_of region.clock (record { pool = pool; slots = xs })) (begun_is form6 region.six region.clock pool.count t n ss clock count e)
      ∙ ap (book6_at region.clock) (same_book (number6 pool.first) (take pool.count all) all (take_at pool.count all (λ i h. there i ∙ ap (held form6 region.clock) (past i h))))

  pub begun_kept : length region.six ≡ 16 → length ss ≡ n → ((i : ℕ) → pool.count ≤ i → get_or region.six i slot6.Free ≡ slot6.Free) → kept_slots region.clock ss ≡ map (live6 region.clock) region.six
  begun_kept long sized past = form.begun_kept form6 region.six region.clock pool.count t n ss clock count e long sized past

  pub begun_within : All IsWithin6 region.six → AreWithin ss
  begun_within w = form.begun_within form6 region.six region.clock pool.count t n ss clock count e IsWithin6 holder_within w

  pub begun_offers : AreOffersWithin ss
  begun_offers = form.begun_offers form6 region.six region.clock pool.count t n ss clock count e

-- ---- what is written means the book

module _ (a t : ℕ) (ss : Holders6) (d : AreDistinct same_key6 ss) (none : (i : ℕ) → offered_to (get_or ss i None) ≡ None) where
  abbrev again : Holders6
  again = map (held form6 t) (kept_slots t ss)

  live_kept : (s : Option (Holder Key6Value)) → offered_to s ≡ None → kept t s ≡ live t s
  live_kept None e = refl
  live_kept (Some (Bound k u)) e = of_cond unoffered (is_live t u) (Some (Bound k u)) None
  live_kept (Some (Offered k u)) e = absurd cc
  live_kept (Some (Barred u)) e = of_cond unoffered (is_live t u) (Some (Barred u)) None

  same_at : (i : ℕ) → get_or (live_slots t again) i None ≡ get_or (live_slots t ss) i None
  same_at i = again_at form6 t ss i ∙ live_kept (get_or ss i None) (none i) ∙ sym (get_or-map (live t) ss i None)

  put_book : book6_at t (book_of_slots a again) ≡ book6_at t (book_of_slots a ss)
  put_book = shown a t again (again_distinct form6 key6_is_key t ss d) ∙ same_book a (live_slots t again) (live_slots t ss) same_at ∙ sym (shown a t ss d)

pub book_put : (v : PoolSlots) → AreSlots v.pool v.slots → (region : RegionSlots) → region.six ≡ kept_slots region.clock v.slots → book6_in v.pool region ≡ book6_of region.clock v
book_put v are region six =
    ap (λ xs. book6_of region.clock (record { pool = v.pool; slots = map (held form6 region.clock) xs })) six
    ∙ put_book (number6 v.pool.first) region.clock v.slots are.distinct are.no_offers

pub past_free : (pool : Pool6Value) (t : ℕ) (ss : Holders6) (xs : List Slot6) → AreSlots pool ss → xs ≡ kept_slots t ss → (i : ℕ) → pool.count ≤ i → get_or xs i slot6.Free ≡ slot6.Free
past_free pool t ss xs are e i h = form.past_free form6 t ss xs e i (omega (arith, h, are.size))

-- ---- the same of what is kept, at any clock

pub kept_size : (pool : Pool6Value) (t : ℕ) (ss : Holders6) → AreSlots pool ss → length (kept_slots t ss) ≡ 16
kept_size pool t ss are = form.kept_length form6 t ss (omega (arith, are.size, are.limits.most))

pub book_kept : (v : PoolSlots) (t : ℕ) → AreSlots v.pool v.slots → (region : RegionSlots) → region.six ≡ kept_slots t v.slots → region.clock ≡ t → book6_in v.pool region ≡ book6_of t v
book_kept v t are region six clock = book_put v are region (six ∙ ap (λ n. kept_slots n v.slots) (sym clock)) ∙ ap (λ n. book6_of n v) clock
