-- What the slots of a region hold, by what each of them does.
use Rattle.std.proofs.Common.{◌≡◌, ℕ, ◌+◌, ◌<◌, ◌≤◌, Bool, true, false, ◌&&◌, nat_lt, suc, zero, List, [], ◌∷◌, length, map, set, get_or, slice_index, Option, Some, None, refl, sym, ap, ◌∙◌, arith}
use Rattle.std.specs.Prelude.{if◌then◌else◌, max}
use Rattle.std.proofs.lemmas.List.{map-set, length-map}
use Rattle.types.specs.declared.slot4.Slot4.{Slot4}
use Rattle.types.specs.declared.slot4.Slot4.TheVariants as S4
use Rattle.types.specs.declared.slot6.Slot6.{Slot6}
use Rattle.types.specs.declared.slot6.Slot6.TheVariants as S6
use Rattle.types.specs.declared.slots.Slots.{Slots}
use Rattle.types.specs.Slots.{live4, live6, same_client4, same_client6, none_twice}
use Rattle.lease_disk.specs.declared.entry.Entry.{Entry}
use Rattle.lease_disk.specs.Recovered.{saved_at, cons_some, all_from, latest, contents_at, pool_entries, book_at, recovered_slots, book_in}

abbrev some_or : {A : Type 0} → A → Option A → A
some_or d None = d
some_or d (Some x) = x

pub same_some : {A : Type 0} → (x y : A) → Some x ≡ Some y → x ≡ y
same_some x y e = ap (λ o. some_or x o) e

pub max_is : (a b : ℕ) → b ≤ a → max a b ≡ a
max_is a b h = grind arith

pub max_so : (a b : ℕ) → a ≤ b → max a b ≡ b
max_so a b h = grind arith

-- Lists of what is read one after the other

pub record IsCons {A : Type 0} (o : Option A) (p : Option (List A)) (xs : List A) : Type 0 where
  pub head : A
  pub tail : List A
  pub first : o ≡ Some head
  pub rest : p ≡ Some tail
  pub whole : xs ≡ head ∷ tail

cons_parts : {A : Type 0} → (o : Option A) (p : Option (List A)) (xs : List A) → cons_some o p ≡ Some xs → IsCons o p xs
cons_parts (Some x) (Some ys) xs e = record { head = x; tail = ys; first = refl; rest = refl; whole = sym (same_some (x ∷ ys) xs e) }
cons_parts (Some x) None xs e = cc
cons_parts None p xs e = cc

module _ {A : Type 0} where
  pub all_alike : (read other : ℕ → Option A) (i n : ℕ) → ((j : ℕ) → i ≤ j → j < i + n → other j ≡ read j) → all_from other i n ≡ all_from read i n
  all_alike read other i zero h = refl
  all_alike read other i (suc n) h =
      let rest = all_alike read other (suc i) n (λ k a b. h k (omega arith) (omega arith)) in
      let first = h i (omega arith) (omega arith) in
      λ j. cons_some (first j) (rest j)

  pub all_size : (read : ℕ → Option A) (i n : ℕ) (xs : List A) → all_from read i n ≡ Some xs → length xs ≡ n
  all_size read i zero xs e = ap length (sym (same_some [] xs e))
  all_size read i (suc n) xs e =
      let c = cons_parts (read i) (all_from read (suc i) n) xs e in
      ap length c.whole ∙ ap suc (all_size read (suc i) n c.tail c.rest)

  -- one of them is another
  pub all_set : (read other : ℕ → Option A) (x : A) (i n s : ℕ) (xs : List A) → other (i + s) ≡ Some x → ((j : ℕ) → (j ≡ i + s → ⊥) → other j ≡ read j) → s < n → all_from read i n ≡ Some xs
      → all_from other i n ≡ Some (set xs s x)
  all_set read other x i zero s xs here others h e = absurd (omega arith)
  all_set read other x i (suc n) zero xs here others h e =
      let c = cons_parts (read i) (all_from read (suc i) n) xs e in
      let at : i + 0 ≡ i = omega arith in
      let first : other i ≡ Some x = ap other (sym at) ∙ here in
      let rest : all_from other (suc i) n ≡ Some c.tail = all_alike read other (suc i) n (λ j a b. others j (λ k. absurd (omega (arith, a, k)))) ∙ c.rest in
      (λ j. cons_some (first j) (rest j)) ∙ ap (λ ys. Some (set ys 0 x)) (sym c.whole)
  all_set read other x i (suc n) (suc s) xs here others h e =
      let c = cons_parts (read i) (all_from read (suc i) n) xs e in
      let at : i + suc s ≡ suc i + s = omega arith in
      let first : other i ≡ Some c.head = others i (λ k. absurd (omega (arith, k))) ∙ c.first in
      let rest : all_from other (suc i) n ≡ Some (set c.tail s x) =
      all_set read other x (suc i) n s c.tail (ap other (sym at) ∙ here) (λ j ne. others j (λ k. ne (k ∙ at))) (omega arith) c.rest in
      (λ j. cons_some (first j) (rest j)) ∙ ap (λ ys. Some (set ys (suc s) x)) (sym c.whole)

  pub all_at : (read : ℕ → Option A) (i n : ℕ) (xs : List A) → all_from read i n ≡ Some xs → (j : ℕ) (d : A) → j < n → read (i + j) ≡ Some (get_or xs j d)
  all_at read i zero xs e j d h = absurd (omega arith)
  all_at read i (suc n) xs e zero d h =
      let c = cons_parts (read i) (all_from read (suc i) n) xs e in
      let at : i + 0 ≡ i = omega arith in
      ap read at ∙ c.first ∙ ap (λ ys. Some (get_or ys 0 d)) (sym c.whole)
  all_at read i (suc n) xs e (suc j) d h =
      let c = cons_parts (read i) (all_from read (suc i) n) xs e in
      let at : i + suc j ≡ suc i + j = omega arith in
      ap read at ∙ all_at read (suc i) n c.tail c.rest j d (omega arith) ∙ ap (λ ys. Some (get_or ys (suc j) d)) (sym c.whole)

  -- The greatest clock

  head_least : (e : Entry A) (es : List (Entry A)) (t : ℕ) → latest (e ∷ es) ≤ t → (e.clock ≤ t) × (latest es ≤ t)
  head_least e es t h = (grind (arith, h), grind (arith, h))

  pub latest_set : (es : List (Entry A)) (s : ℕ) (e : Entry A) → latest es ≤ e.clock → s < length es → latest (set es s e) ≡ e.clock
  latest_set [] s e h k = absurd (omega arith)
  latest_set (x ∷ es) zero e h k = max_is e.clock (latest es) (head_least x es e.clock h).1
  latest_set (x ∷ es) (suc s) e h k =
      let p = head_least x es e.clock h in
      ap (max x.clock) (latest_set es s e p.1 (omega arith)) ∙ max_so x.clock e.clock p.0

  -- Contents at a clock

  pub contents_size : (live : ℕ → A → A) (t : ℕ) (es : List (Entry A)) → length (contents_at live t es) ≡ length es
  contents_size live t es = length-map es (λ e. live t e.content)

  pub contents_later : (live : ℕ → A → A) (b t : ℕ) (es : List (Entry A)) → ((x : A) → live t (live b x) ≡ live t x) → map (live t) (contents_at live b es) ≡ contents_at live t es
  contents_later live b t [] h = refl
  contents_later live b t (e ∷ es) h = λ j. h e.content j ∷ contents_later live b t es h j

  pub contents_set : (live : ℕ → A → A) (t : ℕ) (es : List (Entry A)) (s : ℕ) (x : A) → live t x ≡ x → contents_at live t (set es s (saved_at t x)) ≡ set (contents_at live t es) s x
  contents_set live t es s x h = map-set (λ e. live t e.content) es s (saved_at t x) ∙ ap (set (contents_at live t es) s) h

-- live at a later clock

not_later : (b t until : ℕ) → b ≤ t → nat_lt b until ≡ false → nat_lt t until ≡ false
not_later b t until h e = grind (arith, e)

later4 : (t : ℕ) (x : Slot4) (b : Bool) → (b ≡ false → live4 t x ≡ S4.Free) → live4 t (if b then x else S4.Free) ≡ live4 t x
later4 t x true h = refl
later4 t x false h = sym (h refl)

later6 : (t : ℕ) (x : Slot6) (b : Bool) → (b ≡ false → live6 t x ≡ S6.Free) → live6 t (if b then x else S6.Free) ≡ live6 t x
later6 t x true h = refl
later6 t x false h = sym (h refl)

pub live_later4 : (b t : ℕ) → b ≤ t → (x : Slot4) → live4 t (live4 b x) ≡ live4 t x
live_later4 b t h S4.Free = refl
live_later4 b t h (S4.Bound key until) = later4 t (S4.Bound key until) (nat_lt b until) (λ e. rw (not_later b t until h e) refl)
live_later4 b t h (S4.Barred until) = later4 t (S4.Barred until) (nat_lt b until) (λ e. rw (not_later b t until h e) refl)

pub live_later6 : (b t : ℕ) → b ≤ t → (x : Slot6) → live6 t (live6 b x) ≡ live6 t x
live_later6 b t h S6.Free = refl
live_later6 b t h (S6.Bound key until) = later6 t (S6.Bound key until) (nat_lt b until) (λ e. rw (not_later b t until h e) refl)
live_later6 b t h (S6.Barred until) = later6 t (S6.Barred until) (nat_lt b until) (λ e. rw (not_later b t until h e) refl)

-- A book

passes : {A : Type 0} → (b c : Bool) (s t : A) → (if b && c then Some s else None) ≡ Some t → (b ≡ true) × (c ≡ true) × (s ≡ t)
passes true true s t e = (refl, refl, same_some s t e)
passes true false s t e = cc
passes false c s t e = cc

-- what a book stands for
pub record HasEntries (four : List (Entry Slot4)) (six : List (Entry Slot6)) (slots : Slots) : Type 0 where
  pub clock_is : max (latest four) (latest six) ≡ slots.clock
  pub four_is : contents_at live4 slots.clock four ≡ slots.four
  pub six_is : contents_at live6 slots.clock six ≡ slots.six
  pub once4 : none_twice same_client4 slots.four ≡ true
  pub once6 : none_twice same_client6 slots.six ≡ true

pub has_entries : (four : List (Entry Slot4)) (six : List (Entry Slot6)) (slots : Slots) → recovered_slots (Some four) (Some six) ≡ Some slots → HasEntries four six slots
has_entries four six slots e =
    let clock = max (latest four) (latest six) in
    let p = passes (none_twice same_client4 (contents_at live4 clock four)) (none_twice same_client6 (contents_at live6 clock six)) (record { four = contents_at live4 clock four; six = contents_at live6 clock six; clock = clock }) slots e in
    let k : record { four = contents_at live4 clock four; six = contents_at live6 clock six; clock = clock } ≡ slots = p.2 in
    let c : clock ≡ slots.clock = ap (λ (s : Slots). s.clock) k in
    record {
      clock_is = c;
      four_is = ap (λ t. contents_at live4 t four) (sym c) ∙ ap (λ (s : Slots). s.four) k;
      six_is = ap (λ t. contents_at live6 t six) (sym c) ∙ ap (λ (s : Slots). s.six) k;
      once4 = ap (λ (s : Slots). none_twice same_client4 s.four) (sym k) ∙ p.0;
      once6 = ap (λ (s : Slots). none_twice same_client6 s.six) (sym k) ∙ p.1;
    }

pub book_is : (four : List (Entry Slot4)) (six : List (Entry Slot6)) (slots : Slots) → HasEntries four six slots → recovered_slots (Some four) (Some six) ≡ Some slots
book_is four six slots h =
    (λ i. book_at (h.clock_is i) (contents_at live4 (h.clock_is i) four) (contents_at live6 (h.clock_is i) six))
    ∙ (λ i. book_at slots.clock (h.four_is i) (h.six_is i))
    ∙ rw (h.once4, h.once6) refl

-- what is recovered stands for entries of both pools, in a region with a clock
pub record AreEntries (counts : List ℕ) (base : Option ℕ) (four : ℕ → Option (Entry Slot4)) (six : ℕ → Option (Entry Slot6)) (slots : Slots) : Type 0 where
  pub clock : ℕ
  pub base_is : base ≡ Some clock
  pub entries4 : List (Entry Slot4)
  pub entries6 : List (Entry Slot6)
  pub four_are : pool_entries clock S4.Free (slice_index counts 0) four ≡ Some entries4
  pub six_are : pool_entries clock S6.Free (slice_index counts 1) (λ i. six (16 + i)) ≡ Some entries6
  pub has : HasEntries entries4 entries6 slots

by_both : (counts : List ℕ) (clock : ℕ) (four : ℕ → Option (Entry Slot4)) (six : ℕ → Option (Entry Slot6)) (slots : Slots) (a : Option (List (Entry Slot4))) (b : Option (List (Entry Slot6)))
    → pool_entries clock S4.Free (slice_index counts 0) four ≡ a → pool_entries clock S6.Free (slice_index counts 1) (λ i. six (16 + i)) ≡ b → recovered_slots a b ≡ Some slots → AreEntries counts (Some clock) four six slots
by_both counts clock four six slots (Some xs) (Some ys) e f h = record { clock = clock; base_is = refl; entries4 = xs; entries6 = ys; four_are = e; six_are = f; has = has_entries xs ys slots h }
by_both counts clock four six slots (Some xs) None e f h = absurd cc
by_both counts clock four six slots None b e f h = absurd cc

pub are_entries : (counts : List ℕ) (base : Option ℕ) (four : ℕ → Option (Entry Slot4)) (six : ℕ → Option (Entry Slot6)) (slots : Slots) → book_in counts base four six ≡ Some slots → AreEntries counts base four six slots
are_entries counts (Some clock) four six slots e = by_both counts clock four six slots _ _ refl refl e
are_entries counts None four six slots e = absurd cc

pub book_by : (counts : List ℕ) (base : Option ℕ) (four : ℕ → Option (Entry Slot4)) (six : ℕ → Option (Entry Slot6)) (slots : Slots) → AreEntries counts base four six slots → book_in counts base four six ≡ Some slots
book_by counts base four six slots h =
    ap (λ b. book_in counts b four six) h.base_is ∙ (λ i. recovered_slots (h.four_are i) (h.six_are i)) ∙ book_is h.entries4 h.entries6 slots h.has
