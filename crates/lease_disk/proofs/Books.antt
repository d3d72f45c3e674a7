-- What a region recovers to is a book.
use Rattle.std.proofs.Common.{◌≡◌, ℕ, ◌+◌, ◌*◌, ◌<◌, ◌≤◌, Bool, true, false, ◌&&◌, nat_le, nat_lt, suc, zero, List, [], ◌∷◌, length, map, replicate, get_or, slice_index, All, zero-add, Option, Some, None, refl, sym, ap, ◌∙◌, subst, arith}
use Rattle.std.specs.Prelude.{if◌then◌else◌, option_map, max, ◌==◌}
use Rattle.std.proofs.lemmas.List.{ext_get_or, get_or_past, length-map}
use Rattle.std.specs.Int.{w32, from_be_bytes}
use Rattle.types.specs.Key6.{Key6Value}
use Rattle.types.specs.declared.slot4.Slot4.{Slot4}
use Rattle.types.specs.declared.slot4.Slot4.TheVariants as S4
use Rattle.types.specs.declared.slot6.Slot6.{Slot6}
use Rattle.types.specs.declared.slot6.Slot6.TheVariants as S6
use Rattle.types.specs.declared.slots.Slots.{Slots}
use Rattle.types.specs.Slots.{IsWithin4, IsWithin6, live4, live6, same_client4, same_client6, none_twice, last_until}
use Rattle.lease_disk.specs.declared.entry.Entry.{Entry}
use Rattle.lease_disk.specs.declared.half.Half.TheVariants.{First, Second}
use Rattle.lease_disk.specs.Book.{IsBook, empty_book}
use Rattle.lease_disk.specs.Crash.{IsFormatted}
use Rattle.lease_disk.specs.Layout.{bank_place, formatted_old, with_halves, half, half1, half2, is_format2}
use Rattle.lease_disk.specs.Recovered.{is_counting, bytes_at, clock_of, until_of, slot4_of, slot6_of, saved_at, held, entry_of, entry, all_from, latest, contents_at, pool_entries, book_at, recovered_slots, book_in, region_clock, counting_clock, recovered, last_clock}
use Rattle.lease_disk.specs.Region.{Region}
use Rattle.lease_disk.proofs.Halves.{half_in1, half_in2}
use Rattle.lease_disk.proofs.Entries.{same_some, all_at, all_size, are_entries, live_later4, live_later6}

pub get_or_in : {A B : Type 0} → (f : B → A) (xs : List B) (i : ℕ) (d : A) (e : B) → i < length xs → get_or (map f xs) i d ≡ f (get_or xs i e)
get_or_in f [] i d e h = absurd (omega arith)
get_or_in f (x ∷ xs) zero d e h = refl
get_or_in f (x ∷ xs) (suc i) d e h = get_or_in f xs i d e (omega arith)

-- contents read one after the other
pub contents_all : {A : Type 0} → (live : ℕ → A → A) (t c : ℕ) (free : A) (slots : List A) (es : List (Entry A)) (i : ℕ) → length slots ≡ 16 → length es ≡ 16 → 16 ≤ i → t ≡ c
    → ((k : ℕ) (d : A) (e : Entry A) → k < i → get_or slots k d ≡ live t (get_or es k e).content) → slots ≡ contents_at live c es
contents_all live t c free slots es i size all end at each =
    ext_get_or free slots (contents_at live c es) (size ∙ sym all ∙ sym (length-map es (λ e. live c e.content)))
    (λ k h. each k free (saved_at 0 free) (omega (arith, size, end, h)) ∙ ap (λ m. live m (get_or es k (saved_at 0 free)).content) at
    ∙ sym (get_or_in (λ e. live c e.content) es k free (saved_at 0 free) (omega (arith, size, all, h))))

not_few : (i n : ℕ) → nat_lt i n ≡ false → n ≤ i
not_few i n e = grind arith

are_few : (i n : ℕ) → nat_lt i n ≡ true → i < n
are_few i n e = grind arith

below_past : (i count : ℕ) → count ≤ i → nat_lt i count ≡ true → ⊥
below_past i count h f = grind arith

-- slots of a pool of so many addresses, by a function that reads the i-th
module _ {A : Type 0} (live : ℕ → A → A) (free : A) (live_free : (t : ℕ) → live t free ≡ free) (base count : ℕ) (read : ℕ → Option (Entry A)) (es : List (Entry A)) (are : pool_entries base free count read ≡ Some es) (t : ℕ) where
  entry_at : (i : ℕ) → i < 16 → (if nat_lt i count then read i else Some (saved_at base free)) ≡ Some (get_or es i (saved_at base free))
  entry_at i h = ap (λ k. if nat_lt k count then read k else Some (saved_at base free)) (sym (zero-add i)) ∙ all_at (λ k. if nat_lt k count then read k else Some (saved_at base free)) 0 16 es are i (saved_at base free) h

  size : length es ≡ 16
  size = all_size (λ k. if nat_lt k count then read k else Some (saved_at base free)) 0 16 es are

  either : (P : A → Type 0) (o : Option (Entry A)) (b : Bool) (e : Entry A) → P free → ((x : Entry A) → o ≡ Some x → P (live t x.content)) → (if b then o else Some (saved_at base free)) ≡ Some e → P (live t e.content)
  either P o true e f h is = h e is
  either P o false e f h is = subst (λ x. P (live t x.content)) (same_some (saved_at base free) e is) (subst P (sym (live_free t)) f)

  pub each : (P : A → Type 0) → P free → ((i : ℕ) (e : Entry A) → read i ≡ Some e → P (live t e.content)) → All P (contents_at live t es)
  each P f h i d k =
      let l : length (contents_at live t es) ≡ 16 = length-map es (λ e. live t e.content) ∙ size in
      let few : i < 16 = omega (arith, l, k) in
      subst P (sym (get_or_in (λ e. live t e.content) es i d (saved_at base free) (omega (arith, size, few))))
      (either P (read i) (nat_lt i count) (get_or es i (saved_at base free)) f (h i) (entry_at i few))

  none_past : (i : ℕ) (b c : Bool) → count ≤ i → nat_lt i 16 ≡ b → nat_lt i count ≡ c → get_or (contents_at live t es) i free ≡ free
  none_past i false c h e f = get_or_past (contents_at live t es) i free (let l : length (contents_at live t es) ≡ 16 = length-map es (λ e. live t e.content) ∙ size in let k : 16 ≤ i = not_few i 16 e in omega (arith, l, k))
  none_past i true true h e f = absurd (below_past i count h f)
  none_past i true false h e f =
      let few : i < 16 = are_few i 16 e in
      let is : saved_at base free ≡ get_or es i (saved_at base free) = same_some (saved_at base free) (get_or es i (saved_at base free)) (sym (ap (λ b. if b then read i else Some (saved_at base free)) f) ∙ entry_at i few) in
      get_or_in (λ e. live t e.content) es i free (saved_at base free) (omega (arith, size, few)) ∙ ap (λ x. live t x.content) (sym is) ∙ live_free t

  pub past : (i : ℕ) → count ≤ i → get_or (contents_at live t es) i free ≡ free
  past i h = none_past i (nat_lt i 16) (nat_lt i count) h refl refl

-- what is held was read of a half
module _ {A : Type 0} (read : (ℕ → ℕ) → Option A) (P : A → Type 0) (each_read : (f : ℕ → ℕ) (x : A) → read f ≡ Some x → P x) where
  of_mapped : (clock : ℕ) (f : ℕ → ℕ) (o : Option A) (b : Bool) (e : Entry A) → ((x : A) → o ≡ Some x → P x) → (if b then option_map (saved_at clock) o else None) ≡ Some e → P e.content
  of_mapped clock f (Some x) true e h is = subst (λ (y : Entry A). P y.content) (same_some (saved_at clock x) e is) (h x refl)
  of_mapped clock f None true e h is = absurd cc
  of_mapped clock f o false e h is = absurd cc

  of_held : (f : ℕ → ℕ) (e : Entry A) → held read f ≡ Some e → P e.content
  of_held f e is = of_mapped (clock_of f) f (read f) (nat_le (clock_of f) last_clock) e (each_read f) is

  of_either : (a b : Bool) (x y : Option (Entry A)) (e : Entry A) → (x ≡ Some e → P e.content) → (y ≡ Some e → P e.content) → (if a then x else if b then y else None) ≡ Some e → P e.content
  of_either true b x y e h k is = h is
  of_either false true x y e h k is = k is
  of_either false false x y e h k is = absurd cc

  pub of_entry : (first second : ℕ → ℕ) (e : Entry A) → entry_of read first second ≡ Some e → P e.content
  of_entry first second e is = of_either (is_counting first second) (is_counting second first) (held read first) (held read second) e (of_held first e) (of_held second e) is

-- a slot is within its limit

not_past : (until : ℕ) → nat_lt last_until until ≡ false → until ≤ last_until
not_past until e = grind (arith, e)

within_if4 : (b : Bool) (x : Slot4) → IsWithin4 x → IsWithin4 (if b then x else S4.Free)
within_if4 true x h = h
within_if4 false x h = tt

live_within4 : (clock : ℕ) (slot : Slot4) → IsWithin4 slot → IsWithin4 (live4 clock slot)
live_within4 clock S4.Free h = tt
live_within4 clock (S4.Bound key until) h = within_if4 (nat_lt clock until) (S4.Bound key until) h
live_within4 clock (S4.Barred until) h = within_if4 (nat_lt clock until) (S4.Barred until) h

within_if6 : (b : Bool) (x : Slot6) → IsWithin6 x → IsWithin6 (if b then x else S6.Free)
within_if6 true x h = h
within_if6 false x h = tt

live_within6 : (clock : ℕ) (slot : Slot6) → IsWithin6 slot → IsWithin6 (live6 clock slot)
live_within6 clock S6.Free h = tt
live_within6 clock (S6.Bound key until) h = within_if6 (nat_lt clock until) (S6.Bound key until) h
live_within6 clock (S6.Barred until) h = within_if6 (nat_lt clock until) (S6.Barred until) h

read_within4 : (a p b l c : Bool) (key : List ℕ) (until : ℕ) (x : Slot4) → (p ≡ false → until ≤ last_until)
    → (if a then Some S4.Free else if p then None else if b then (if l then Some (S4.Bound key until) else None) else if c then Some (S4.Barred until) else None) ≡ Some x → IsWithin4 x
read_within4 true p b l c key until x h e = subst (λ (y : Slot4). IsWithin4 y) (same_some S4.Free x e) tt
read_within4 false true b l c key until x h e = cc
read_within4 false false true true c key until x h e = subst (λ (y : Slot4). IsWithin4 y) (same_some (S4.Bound key until) x e) (h refl)
read_within4 false false true false c key until x h e = cc
read_within4 false false false l true key until x h e = subst (λ (y : Slot4). IsWithin4 y) (same_some (S4.Barred until) x e) (h refl)
read_within4 false false false l false key until x h e = cc

slot4_within : (f : ℕ → ℕ) (x : Slot4) → slot4_of f ≡ Some x → IsWithin4 x
slot4_within f x e = read_within4 (f 1 == 0) (nat_lt last_until (until_of f)) (f 1 == 1) (nat_le 2 (f 2) && nat_le (f 2) 64) (f 1 == 2) (bytes_at f 32 (f 2)) (until_of f) x (not_past (until_of f)) e

read_within6 : (a p b l c : Bool) (key : Key6Value) (until : ℕ) (x : Slot6) → (p ≡ false → until ≤ last_until)
    → (if a then Some S6.Free else if p then None else if b then (if l then Some (S6.Bound key until) else None) else if c then Some (S6.Barred until) else None) ≡ Some x → IsWithin6 x
read_within6 true p b l c key until x h e = subst (λ (y : Slot6). IsWithin6 y) (same_some S6.Free x e) tt
read_within6 false true b l c key until x h e = cc
read_within6 false false true true c key until x h e = subst (λ (y : Slot6). IsWithin6 y) (same_some (S6.Bound key until) x e) (h refl)
read_within6 false false true false c key until x h e = cc
read_within6 false false false l true key until x h e = subst (λ (y : Slot6). IsWithin6 y) (same_some (S6.Barred until) x e) (h refl)
read_within6 false false false l false key until x h e = cc

slot6_within : (f : ℕ → ℕ) (x : Slot6) → slot6_of f ≡ Some x → IsWithin6 x
slot6_within f x e = read_within6 (f 1 == 0) (nat_lt last_until (until_of f)) (f 1 == 1) (nat_le 3 (f 2) && nat_le (f 2) 130) (f 1 == 2) (record { duid = bytes_at f 32 (f 2); iaid = from_be_bytes w32 (bytes_at f 4 4) }) (until_of f) x (not_past (until_of f)) e

-- A book

same : (t : ℕ) → t ≤ t
same t = omega arith

pub book_entries : (counts : List ℕ) (base : Option ℕ) (region : ℕ → ℕ) (slots : Slots) → book_in counts base (entry slot4_of region) (entry slot6_of region) ≡ Some slots → IsBook counts slots
book_entries counts base region slots e =
    let a = are_entries counts base (entry slot4_of region) (entry slot6_of region) slots e in
    let four : (P : Slot4 → Type 0) → P S4.Free → ((i : ℕ) (e : Entry Slot4) → entry slot4_of region i ≡ Some e → P (live4 slots.clock e.content)) → All P slots.four =
    λ P f h. subst (All P) a.has.four_is (each live4 S4.Free (λ t. refl) a.clock (slice_index counts 0) (entry slot4_of region) a.entries4 a.four_are slots.clock P f h) in
    let six : (P : Slot6 → Type 0) → P S6.Free → ((i : ℕ) (e : Entry Slot6) → entry slot6_of region (16 + i) ≡ Some e → P (live6 slots.clock e.content)) → All P slots.six =
    λ P f h. subst (All P) a.has.six_is (each live6 S6.Free (λ t. refl) a.clock (slice_index counts 1) (λ i. entry slot6_of region (16 + i)) a.entries6 a.six_are slots.clock P f h) in
    record {
      past4 = λ i h. ap (λ xs. get_or xs i S4.Free) (sym a.has.four_is) ∙ past live4 S4.Free (λ t. refl) a.clock (slice_index counts 0) (entry slot4_of region) a.entries4 a.four_are slots.clock i h;
      past6 = λ i h. ap (λ xs. get_or xs i S6.Free) (sym a.has.six_is) ∙ past live6 S6.Free (λ t. refl) a.clock (slice_index counts 1) (λ j. entry slot6_of region (16 + j)) a.entries6 a.six_are slots.clock i h;
      live4 = four (λ x. live4 slots.clock x ≡ x) refl (λ i e h. live_later4 slots.clock slots.clock (same slots.clock) e.content);
      live6 = six (λ x. live6 slots.clock x ≡ x) refl (λ i e h. live_later6 slots.clock slots.clock (same slots.clock) e.content);
      within4 = four IsWithin4 tt (λ i e h. live_within4 slots.clock e.content (of_entry slot4_of IsWithin4 slot4_within (half region i First) (half region i Second) e h));
      within6 = six IsWithin6 tt (λ i e h. live_within6 slots.clock e.content (of_entry slot6_of IsWithin6 slot6_within (half region (16 + i) First) (half region (16 + i) Second) e h));
      once4 = a.has.once4;
      once6 = a.has.once6;
    }

pub recovered_book : (counts : List ℕ) (region : ℕ → ℕ) (slots : Slots) → recovered counts region ≡ Some slots → IsBook counts slots
unfolding recovered
recovered_book counts region slots e = book_entries counts (region_clock region) region slots e

-- Reading all slots

module _ (counts : List ℕ) (halves : List ℕ) (base : ℕ) where
  -- what they mean in a region with this clock
  abbrev pub meant : Option Slots
  meant = book_in counts (Some base) (entry slot4_of (with_halves halves)) (entry slot6_of (with_halves halves))

  abbrev four_entries : Option (List (Entry Slot4))
  four_entries = pool_entries base S4.Free (slice_index counts 0) (entry slot4_of (with_halves halves))

  abbrev six_entries : Option (List (Entry Slot6))
  six_entries = pool_entries base S6.Free (slice_index counts 1) (λ i. entry slot6_of (with_halves halves) (16 + i))

  four_is : (o : Option (List (Entry Slot4))) → o ≡ pool_entries base S4.Free (slice_index counts 0) (λ i. entry slot4_of (with_halves halves) (0 + i)) → o ≡ four_entries
  four_is o e = e ∙ ap (pool_entries base S4.Free (slice_index counts 0)) (λ j. λ i. entry slot4_of (with_halves halves) (zero-add i j))

  without_six : (o : Option (List (Entry Slot4))) → recovered_slots o None ≡ None
  without_six None = refl
  without_six (Some x) = refl

  pub no_four : None ≡ pool_entries base S4.Free (slice_index counts 0) (λ i. entry slot4_of (with_halves halves) (0 + i)) → None ≡ meant
  no_four e = ap (λ o. recovered_slots o six_entries) (four_is None e)

  pub no_six : None ≡ six_entries → None ≡ meant
  no_six e = sym (without_six four_entries) ∙ ap (λ o. recovered_slots four_entries o) e

  module _ (es4 : List (Entry Slot4)) (es6 : List (Entry Slot6)) (clock l4 l6 : ℕ) (four : List Slot4) (six : List Slot6)
      (e4 : Some es4 ≡ pool_entries base S4.Free (slice_index counts 0) (λ i. entry slot4_of (with_halves halves) (0 + i))) (e6 : Some es6 ≡ six_entries)
      (m4 : l4 ≡ latest es4) (m6 : l6 ≡ latest es6) (c : clock ≡ max l4 l6) (f4 : four ≡ contents_at live4 clock es4) (f6 : six ≡ contents_at live6 clock es6) where
    clock_is : max (latest es4) (latest es6) ≡ clock
    clock_is = (λ j. max (sym m4 j) (sym m6 j)) ∙ sym c

    pools : recovered_slots (Some es4) (Some es6) ≡ meant
    pools = λ j. recovered_slots (four_is (Some es4) e4 j) (e6 j)

    at_clock : recovered_slots (Some es4) (Some es6) ≡ book_at clock four six
    at_clock = (λ j. book_at (clock_is j) (contents_at live4 (clock_is j) es4) (contents_at live6 (clock_is j) es6)) ∙ (λ j. book_at clock (sym f4 j) (sym f6 j))

    pub book_whole : true ≡ none_twice same_client4 four → true ≡ none_twice same_client6 six → Some (record { four = four; six = six; clock = clock }) ≡ meant
    book_whole a b = sym (rw (← a, ← b) refl) ∙ sym at_clock ∙ pools

    and_false : (b : Bool) → (b && false) ≡ false
    and_false true = refl
    and_false false = refl

    pub book_twice4 : false ≡ none_twice same_client4 four → None ≡ meant
    book_twice4 a = sym (at_clock ∙ rw (← a) refl) ∙ pools

    pub book_twice6 : false ≡ none_twice same_client6 six → None ≡ meant
    book_twice6 a = sym (at_clock ∙ rw (← a, and_false (none_twice same_client4 four)) refl) ∙ pools

-- A formatted region

all_alike : {A : Type 0} → (read : ℕ → Option A) (x : A) (i n : ℕ) → ((j : ℕ) → i ≤ j → j < i + n → read j ≡ Some x) → all_from read i n ≡ Some (replicate n x)
all_alike read x i zero h = refl
all_alike read x i (suc n) h = let a = h i (omega arith) (omega arith) in let b = all_alike read x (suc i) n (λ j k l. h j (omega arith) (omega arith)) in rw (a, b) refl

formatted_first : (r : Region) → IsFormatted r → (s i : ℕ) (a b : Bool) → s < 32 → nat_lt i 256 ≡ a → (i == 0) ≡ b → (if a then r.byte (16384 + 512 * s + i) else 0) ≡ (if b then 0xa5 else 0)
formatted_first r h s i true true few e f =
    let zero : i ≡ 0 = grind (arith, f) in
    let k : i < 256 = grind (arith, e) in
    h.byte (16384 + 512 * s + i) (omega arith) ∙ grind (arith, zero, few)
formatted_first r h s i true false few e f =
    let some : 0 < i = grind (arith, f) in
    let k : i < 256 = grind (arith, e) in
    h.byte (16384 + 512 * s + i) (omega arith) ∙ grind (arith, some, few, k)
formatted_first r h s i false true few e f = absurd (grind (arith, e, f))
formatted_first r h s i false false few e f = refl

formatted_second : (r : Region) → IsFormatted r → (s i : ℕ) (a : Bool) → s < 32 → nat_lt i 256 ≡ a → (if a then r.byte (16640 + 512 * s + i) else 0) ≡ 0
formatted_second r h s i true few e = let k : i < 256 = grind (arith, e) in h.byte (16640 + 512 * s + i) (omega arith) ∙ grind (arith, few, k)
formatted_second r h s i false few e = refl

first_half : (r : Region) → IsFormatted r → (s : ℕ) → s < 32 → half2 r.byte s First ≡ (λ i. if i == 0 then 0xa5 else 0)
first_half r h s few = λ j. λ i. formatted_first r h s i (nat_lt i 256) (i == 0) few refl refl j

second_half : (r : Region) → IsFormatted r → (s : ℕ) → s < 32 → half2 r.byte s Second ≡ (λ i. 0)
second_half r h s few = λ j. λ i. formatted_second r h s i (nat_lt i 256) few refl j

-- of each slot the first half is open and free with clock 0, and the other is closed
record IsEmpty (region : ℕ → ℕ) : Type 0 where
  pub clock : region_clock region ≡ Some 0
  pub first : (s : ℕ) → s < 32 → half region s First ≡ (λ i. if i == 0 then 0xa5 else 0)
  pub second : (s : ℕ) → s < 32 → half region s Second ≡ (λ i. 0)

either_way : {A : Type 0} → (b : Bool) (o : Option A) (x : A) → o ≡ Some x → (if b then o else Some x) ≡ Some x
either_way true o x e = e
either_way false o x e = refl

is_empty_book : (counts : List ℕ) (region : ℕ → ℕ) → IsEmpty region → recovered counts region ≡ Some empty_book
unfolding recovered
is_empty_book counts region empty =
    ap (λ t. book_in counts t (entry slot4_of region) (entry slot6_of region)) empty.clock ∙ (λ j. recovered_slots (four j) (six j)) where
      free4 : (s : ℕ) → s < 32 → entry slot4_of region s ≡ Some (saved_at 0 S4.Free)
      free4 s few = let a = empty.first s few in let b = empty.second s few in λ j. entry_of slot4_of (a j) (b j)

      free6 : (s : ℕ) → s < 32 → entry slot6_of region s ≡ Some (saved_at 0 S6.Free)
      free6 s few = let a = empty.first s few in let b = empty.second s few in λ j. entry_of slot6_of (a j) (b j)

      four : pool_entries 0 S4.Free (slice_index counts 0) (entry slot4_of region) ≡ Some (replicate 16 (saved_at 0 S4.Free))
      four = all_alike (λ i. if nat_lt i (slice_index counts 0) then entry slot4_of region i else Some (saved_at 0 S4.Free)) (saved_at 0 S4.Free) 0 16
          (λ j k l. either_way (nat_lt j (slice_index counts 0)) (entry slot4_of region j) (saved_at 0 S4.Free) (free4 j (omega arith)))

      six : pool_entries 0 S6.Free (slice_index counts 1) (λ i. entry slot6_of region (16 + i)) ≡ Some (replicate 16 (saved_at 0 S6.Free))
      six = all_alike (λ i. if nat_lt i (slice_index counts 1) then entry slot6_of region (16 + i) else Some (saved_at 0 S6.Free)) (saved_at 0 S6.Free) 0 16
          (λ j k l. either_way (nat_lt j (slice_index counts 1)) (entry slot6_of region (16 + j)) (saved_at 0 S6.Free) (free6 (16 + j) (omega arith)))

pub formatted_book : (counts : List ℕ) (r : Region) → IsFormatted r → recovered counts r.byte ≡ Some empty_book
formatted_book counts r h =
    let two : is_format2 r.byte ≡ true = λ j. h.byte 8192 (omega arith) j == 2 in
    is_empty_book counts r.byte (record {
      clock = ap (λ b. if b then Some 0 else counting_clock (half1 r.byte 0 First) (half1 r.byte 0 Second)) two;
      first = λ s few. half_in2 r.byte s First two ∙ first_half r h s few;
      second = λ s few. half_in2 r.byte s Second two ∙ second_half r h s few;
    })

-- A region that was formatted in format 1

zero_in : (p : ℕ) → 0 < p → p < 8192 → formatted_old p ≡ 0
zero_in p h k = grind (arith, h, k)

place_least : (s i : ℕ) → s < 32 → 0 < i → i < 256 → 0 < bank_place s i
place_least s i few pos l = grind (arith, few, pos, l)

place_most : (s i : ℕ) → s < 32 → i < 256 → bank_place s i < 4096
place_most s i few l = grind (arith, few, l)

old_first : (f : ℕ → ℕ) → ((i : ℕ) → i < 32768 → f i ≡ formatted_old i) → (s i : ℕ) (a b : Bool) → s < 32 → nat_lt i 256 ≡ a → (i == 0) ≡ b → (if a then f (0 + bank_place s i) else 0) ≡ (if b then 0xa5 else 0)
old_first f h s i true true few e g =
    let zero : i ≡ 0 = grind (arith, g) in
    ap (λ k. f (0 + bank_place s k)) zero ∙ h 0 (omega arith)
old_first f h s i true false few e g =
    let some : 0 < i = grind (arith, g) in
    let l : i < 256 = grind (arith, e) in
    let least = place_least s i few some l in
    let most = place_most s i few l in
    ap f (zero-add (bank_place s i)) ∙ h (bank_place s i) (omega (arith, most)) ∙ zero_in (bank_place s i) least (omega (arith, most))
old_first f h s i false true few e g = absurd (grind (arith, e, g))
old_first f h s i false false few e g = refl

old_second : (f : ℕ → ℕ) → ((i : ℕ) → i < 32768 → f i ≡ formatted_old i) → (s i : ℕ) (a : Bool) → s < 32 → nat_lt i 256 ≡ a → (if a then f (4096 + bank_place s i) else 0) ≡ 0
old_second f h s i true few e =
    let most = place_most s i few (grind (arith, e)) in
    h (4096 + bank_place s i) (omega (arith, most)) ∙ zero_in (4096 + bank_place s i) (omega arith) (omega (arith, most))
old_second f h s i false few e = refl

pub formatted_old_book : (counts : List ℕ) (f : ℕ → ℕ) → ((i : ℕ) → i < 32768 → f i ≡ formatted_old i) → recovered counts f ≡ Some empty_book
formatted_old_book counts f h =
    let one : is_format2 f ≡ false = λ j. h 8192 (omega arith) j == 2 in
    let first : (s : ℕ) → s < 32 → half1 f s First ≡ (λ i. if i == 0 then 0xa5 else 0) = λ s few j. λ i. old_first f h s i (nat_lt i 256) (i == 0) few refl refl j in
    let second : (s : ℕ) → s < 32 → half1 f s Second ≡ (λ i. 0) = λ s few j. λ i. old_second f h s i (nat_lt i 256) few refl j in
    is_empty_book counts f (record {
      clock = ap (λ b. if b then Some 0 else counting_clock (half1 f 0 First) (half1 f 0 Second)) one
          ∙ (λ j. counting_clock (first 0 (omega arith) j) (second 0 (omega arith) j));
      first = λ s few. half_in1 f s First one ∙ first s few;
      second = λ s few. half_in1 f s Second one ∙ second s few;
    })
