-- What a region keeps of slots, and the book that its slots mean.
use Rattle.std.proofs.Common.{◌≡◌, ℕ, ◌≤◌, true, List, [], length, map, take, get_or, refl, sym, ap, ◌∙◌, arith}
use Rattle.std.specs.Prelude.{Option, Some, None, All}
use Rattle.std.specs.Str.{bytes_eq}
use Rattle.std.proofs.Math.ListN.{get_or-map}
use Rattle.slots.specs.declared.holder.Holder.{Holder}
use Rattle.slots.specs.declared.holder.Holder.TheVariants.{Bound, Offered, Barred}
use Rattle.slots.specs.Kept.{unoffered, same_client, IsWithin, AreWithin, AreOffersWithin}
use Rattle.slots.specs.KeyLaws.{key4_is_key}
use Rattle.slots.specs.Lookup.{live}
use Rattle.slots.specs.Maps.{is_live}
use Rattle.slots.specs.Slots.{bound_to, offered_to, barred_until, AreDistinct}
use Rattle.slots.proofs.FormLemmas as form
use Rattle.slots.proofs.FormLemmas.{IsForm, held, again_distinct, again_at, begun_is}
use Rattle.slots.proofs.KeptLemmas.{take_at, leases_by, bars_by}
use Rattle.slots.proofs.ShownLemmas.{live_slots, of_cond}
use Rattle.types.specs.Addr.{number4}
use Rattle.types.specs.Pool4.{IsPool4, PoolValue}
use Rattle.types.specs.Slots.{IsWithin4, live4, none_twice, same_client4}
use Rattle.types.specs.declared.slot4.Slot4.{Slot4}
use Rattle.types.specs.declared.slot4.Slot4.TheVariants as slot4
use Rattle.types.specs.declared.slots.Slots.{Slots as RegionSlots}
use Rattle.bindings_v4.specs.Book4.{book4_at}
use Rattle.bindings_v4.specs.Kept4.{kept_book, book4_in, slot_of, kept_slots}
use Rattle.bindings_v4.specs.Slots4.{Holders4, PoolSlots, book_of_slots, book4_of, AreSlots, holder_of}
use Rattle.bindings_v4.proofs.ShownLemmas.{shown}

-- ---- a slot of a region and its holder

held_is : (t : ℕ) (slot : Slot4) → holder_of (live4 t slot) ≡ live t (holder_of slot)
held_is t slot4.Free = refl
held_is t (slot4.Bound k u) = of_cond holder_of (is_live t u) (slot4.Bound k u) slot4.Free
held_is t (slot4.Barred u) = of_cond holder_of (is_live t u) (slot4.Barred u) slot4.Free

holder_back : (h : Option (Holder (List ℕ))) → holder_of (slot_of h) ≡ unoffered h
holder_back None = refl
holder_back (Some (Bound k u)) = refl
holder_back (Some (Offered k u)) = refl
holder_back (Some (Barred u)) = refl

slot_back : (slot : Slot4) → slot_of (holder_of slot) ≡ slot
slot_back slot4.Free = refl
slot_back (slot4.Bound k u) = refl
slot_back (slot4.Barred u) = refl

pub never_offered : (slot : Slot4) → offered_to (holder_of slot) ≡ None
never_offered slot4.Free = refl
never_offered (slot4.Bound k u) = refl
never_offered (slot4.Barred u) = refl

same_holders : (x y : Slot4) → same_client4 x y ≡ same_client bytes_eq (holder_of x) (holder_of y)
same_holders slot4.Free slot4.Free = refl
same_holders slot4.Free (slot4.Bound k u) = refl
same_holders slot4.Free (slot4.Barred u) = refl
same_holders (slot4.Bound k u) slot4.Free = refl
same_holders (slot4.Bound k u) (slot4.Bound q v) = refl
same_holders (slot4.Bound k u) (slot4.Barred v) = refl
same_holders (slot4.Barred u) slot4.Free = refl
same_holders (slot4.Barred u) (slot4.Bound k v) = refl
same_holders (slot4.Barred u) (slot4.Barred v) = refl

pub form4 : IsForm bytes_eq holder_of slot_of live4 same_client4
form4 = record { holder_back = holder_back; slot_back = slot_back; held_is = held_is; never_offered = never_offered; same_holders = same_holders }

-- slots that are live as they are have no client twice at their clock
pub live_once : (t : ℕ) (xs : List Slot4) → All (λ slot. live4 t slot ≡ slot) xs → none_twice same_client4 xs ≡ true → none_twice same_client4 (map (live4 t) xs) ≡ true
live_once t xs live once = form.live_once live4 same_client4 t xs live once

-- ---- what is kept is within the limit

slot_within : (h : Option (Holder (List ℕ))) → IsWithin h → IsWithin4 (slot_of h)
slot_within None w = tt
slot_within (Some (Bound k u)) w = w
slot_within (Some (Offered k u)) w = tt
slot_within (Some (Barred u)) w = w

pub holder_within : (slot : Slot4) → IsWithin4 slot → IsWithin (holder_of slot)
holder_within slot4.Free w = tt
holder_within (slot4.Bound k u) w = w
holder_within (slot4.Barred u) w = w

pub all_within : (t : ℕ) (ss : Holders4) (xs : List Slot4) → xs ≡ kept_slots t ss → AreWithin ss → All IsWithin4 xs
all_within t ss xs e w = form.all_within form4 IsWithin4 slot_within t ss xs e w

-- ---- a book begins from slots

same_book : (a : ℕ) (xs ys : Holders4) → ((i : ℕ) → get_or xs i None ≡ get_or ys i None) → book_of_slots a xs ≡ book_of_slots a ys
same_book a xs ys same =
    λ j. record {
      bindings = leases_by key4_is_key bound_to refl a xs ys (λ i. ap bound_to (same i)) j;
      offers = leases_by key4_is_key offered_to refl a xs ys (λ i. ap offered_to (same i)) j;
      bars = bars_by a xs ys (λ i. ap barred_until (same i)) j;
    }

module _ (pool : PoolValue) (region : RegionSlots) (t n : ℕ) (ss : Holders4) (clock : t ≡ region.clock) (count : n ≡ pool.count) (e : ss ≡ map (held form4 t) (take n region.four)) where
  pub begun_distinct : none_twice same_client4 (map (live4 region.clock) region.four) ≡ true → AreDistinct bytes_eq ss
  begun_distinct once = form.begun_distinct form4 region.four region.clock pool.count t n ss clock count e key4_is_key once

  pub begun_slots : IsPool4 pool.first pool.count pool.lease → length ss ≡ n → none_twice same_client4 (map (live4 region.clock) region.four) ≡ true → AreSlots pool ss
  begun_slots limits size once =
      record {
        limits = limits;
        size = size ∙ count;
        distinct = begun_distinct once;
      }

  pub begun_book : ((i : ℕ) → pool.count ≤ i → get_or region.four i slot4.Free ≡ slot4.Free) → book4_of region.clock (record { pool = pool; slots = ss }) ≡ book4_in pool region
  begun_book past =
      let all = map (held form4 region.clock) region.four in
      let there : (i : ℕ) → get_or all i None ≡ held form4 region.clock (get_or region.four i slot4.Free) = λ i. get_or-map (held form4 region.clock) region.four i slot4.Free in
      ap (λ xs. book4_of region.clock (record { pool = pool; slots = xs })) (begun_is form4 region.four region.clock pool.count t n ss clock count e)
      ∙ ap (book4_at region.clock) (same_book (number4 pool.first) (take pool.count all) all (take_at pool.count all (λ i h. there i ∙ ap (held form4 region.clock) (past i h))))

  pub begun_kept : length region.four ≡ 16 → length ss ≡ n → ((i : ℕ) → pool.count ≤ i → get_or region.four i slot4.Free ≡ slot4.Free) → kept_slots region.clock ss ≡ map (live4 region.clock) region.four
  begun_kept long sized past = form.begun_kept form4 region.four region.clock pool.count t n ss clock count e long sized past

  pub begun_within : All IsWithin4 region.four → AreWithin ss
  begun_within w = form.begun_within form4 region.four region.clock pool.count t n ss clock count e IsWithin4 holder_within w

  pub begun_offers : AreOffersWithin ss
  begun_offers = form.begun_offers form4 region.four region.clock pool.count t n ss clock count e

-- ---- what is written means the book without its offers

unoffered_bound : (s : Option (Holder (List ℕ))) → bound_to (unoffered s) ≡ bound_to s
unoffered_bound None = refl
unoffered_bound (Some (Bound k u)) = refl
unoffered_bound (Some (Offered k u)) = refl
unoffered_bound (Some (Barred u)) = refl

pub unoffered_offered : (s : Option (Holder (List ℕ))) → offered_to (unoffered s) ≡ None
unoffered_offered None = refl
unoffered_offered (Some (Bound k u)) = refl
unoffered_offered (Some (Offered k u)) = refl
unoffered_offered (Some (Barred u)) = refl

unoffered_barred : (s : Option (Holder (List ℕ))) → barred_until (unoffered s) ≡ barred_until s
unoffered_barred None = refl
unoffered_barred (Some (Bound k u)) = refl
unoffered_barred (Some (Offered k u)) = refl
unoffered_barred (Some (Barred u)) = refl

-- slots that hold what others hold but for the offers show their book without its offers
pub book_without_offers : (a : ℕ) (xs ys : Holders4) → ((i : ℕ) → get_or xs i None ≡ unoffered (get_or ys i None)) → book_of_slots a xs ≡ kept_book (book_of_slots a ys)
book_without_offers a xs ys same =
    λ j. record {
      bindings = leases_by key4_is_key bound_to refl a xs ys (λ i. ap bound_to (same i) ∙ unoffered_bound _) j;
      offers = leases_by key4_is_key offered_to refl a xs [] (λ i. ap offered_to (same i) ∙ unoffered_offered _) j;
      bars = bars_by a xs ys (λ i. ap barred_until (same i) ∙ unoffered_barred _) j;
    }

module _ (a t : ℕ) (ss : Holders4) (d : AreDistinct bytes_eq ss) where
  abbrev again : Holders4
  again = map (held form4 t) (kept_slots t ss)

  -- they are the live ones without offers
  unoffered_at : (i : ℕ) → get_or (live_slots t again) i None ≡ unoffered (get_or (live_slots t ss) i None)
  unoffered_at i = again_at form4 t ss i ∙ ap unoffered (sym (get_or-map (live t) ss i None))

  put_book : book4_at t (book_of_slots a again) ≡ kept_book (book4_at t (book_of_slots a ss))
  put_book = shown a t again (again_distinct form4 key4_is_key t ss d) ∙ book_without_offers a (live_slots t again) (live_slots t ss) unoffered_at ∙ ap kept_book (sym (shown a t ss d))

pub book_put : (v : PoolSlots) → AreSlots v.pool v.slots → (region : RegionSlots) → region.four ≡ kept_slots region.clock v.slots → book4_in v.pool region ≡ kept_book (book4_of region.clock v)
book_put v are region four =
    ap (λ xs. book4_of region.clock (record { pool = v.pool; slots = map (held form4 region.clock) xs })) four
    ∙ put_book (number4 v.pool.first) region.clock v.slots are.distinct

pub past_free : (pool : PoolValue) (t : ℕ) (ss : Holders4) (xs : List Slot4) → AreSlots pool ss → xs ≡ kept_slots t ss → (i : ℕ) → pool.count ≤ i → get_or xs i slot4.Free ≡ slot4.Free
past_free pool t ss xs are e i h = form.past_free form4 t ss xs e i (omega (arith, h, are.size))

-- ---- the same of what is kept, at any clock

pub kept_size : (pool : PoolValue) (t : ℕ) (ss : Holders4) → AreSlots pool ss → length (kept_slots t ss) ≡ 16
kept_size pool t ss are = form.kept_length form4 t ss (omega (arith, are.size, are.limits.most))

pub book_kept : (v : PoolSlots) (t : ℕ) → AreSlots v.pool v.slots → (region : RegionSlots) → region.four ≡ kept_slots t v.slots → region.clock ≡ t → book4_in v.pool region ≡ kept_book (book4_of t v)
book_kept v t are region four clock =
    book_put v are region (four ∙ ap (λ n. kept_slots n v.slots) (sym clock)) ∙ ap (λ n. kept_book (book4_of n v)) clock
