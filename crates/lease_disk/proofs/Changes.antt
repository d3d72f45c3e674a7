-- What a region recovers to where one slot holds another entry.
use Rattle.std.proofs.Common.{◌≡◌, ℕ, ◌+◌, ◌-◌, ◌<◌, ◌≤◌, Bool, true, false, nat_lt, List, length, map, set, slice_index, Option, Some, None, refl, sym, ap, subst, ◌∙◌, arith}
use Rattle.std.specs.Prelude.{◌&&◌, All, if◌then◌else◌, max}
use Rattle.std.proofs.lemmas.List.{length-map, length-set, get_or-set_same}
use Rattle.types.specs.declared.slot4.Slot4.{Slot4}
use Rattle.types.specs.declared.slot4.Slot4.TheVariants as S4
use Rattle.types.specs.declared.slot6.Slot6.{Slot6}
use Rattle.types.specs.declared.slot6.Slot6.TheVariants as S6
use Rattle.types.specs.declared.slots.Slots.{Slots}
use Rattle.types.specs.Slots.{live4, live6}
use Rattle.lease_disk.specs.declared.content.Content.TheVariants.{Four, Six}
use Rattle.lease_disk.specs.declared.entry.Entry.{Entry}
use Rattle.lease_disk.specs.Recovered.{saved_at, latest, contents_at, pool_entries, recovered_slots, book_in}
use Rattle.lease_disk.specs.Save.{IsChange, with_slot}
use Rattle.lease_disk.proofs.Entries.{max_is, max_so, are_entries, book_by, all_alike, all_set, all_size, latest_set, contents_size, contents_later, contents_set, live_later4, live_later6}

module _ {A : Type 0} (base : ℕ) (free : A) (count : ℕ) where
  -- a slot of the pool holds another entry
  pub pool_set : (read other : ℕ → Option (Entry A)) (e : Entry A) (s : ℕ) (es : List (Entry A)) → s < 16 → nat_lt s count ≡ true → other s ≡ Some e → ((j : ℕ) → (j ≡ s → ⊥) → other j ≡ read j)
      → pool_entries base free count read ≡ Some es → pool_entries base free count other ≡ Some (set es s e)
  pool_set read other e s es few below here others h =
      let at : 0 + s ≡ s = omega arith in
      all_set (λ i. if nat_lt i count then read i else Some (saved_at base free)) (λ i. if nat_lt i count then other i else Some (saved_at base free)) e 0 16 s es
      (ap (λ i. if nat_lt i count then other i else Some (saved_at base free)) at ∙ ap (λ b. if b then other s else Some (saved_at base free)) below ∙ here)
      (λ j ne. ap (λ o. if nat_lt j count then o else Some (saved_at base free)) (others j (λ k. ne (k ∙ sym at)))) few h

  pub pool_size : (read : ℕ → Option (Entry A)) (es : List (Entry A)) → pool_entries base free count read ≡ Some es → length es ≡ 16
  pool_size read es h = all_size (λ i. if nat_lt i count then read i else Some (saved_at base free)) 0 16 es h

  pub pool_alike : (read other : ℕ → Option (Entry A)) → ((j : ℕ) → j < 16 → other j ≡ read j) → pool_entries base free count other ≡ pool_entries base free count read
  pool_alike read other h =
      all_alike (λ i. if nat_lt i count then read i else Some (saved_at base free)) (λ i. if nat_lt i count then other i else Some (saved_at base free)) 0 16
      (λ j a b. ap (λ o. if nat_lt j count then o else Some (saved_at base free)) (h j (omega arith)))

pub book_alike : (counts : List ℕ) (base : Option ℕ) (four four' : ℕ → Option (Entry Slot4)) (six six' : ℕ → Option (Entry Slot6)) → ((j : ℕ) → j < 32 → four' j ≡ four j) → ((j : ℕ) → j < 32 → six' j ≡ six j) → book_in counts base four' six' ≡ book_in counts base four six
book_alike counts None four four' six six' h k = refl
book_alike counts (Some clock) four four' six six' h k =
    let a = pool_alike clock S4.Free (slice_index counts 0) four four' (λ j l. h j (omega arith)) in
    let b = pool_alike clock S6.Free (slice_index counts 1) (λ i. six (16 + i)) (λ i. six' (16 + i)) (λ j l. k (16 + j) (omega arith)) in
    λ i. recovered_slots (a i) (b i)

left_most : (a b t : ℕ) → max a b ≡ t → a ≤ t
left_most a b t e = grind (arith, e)

right_most : (a b t : ℕ) → max a b ≡ t → b ≤ t
right_most a b t e = grind (arith, e)

if_below : (s : ℕ) (b : Bool) (p q : Bool) → nat_lt s 16 ≡ b → s < 16 → (if b then p else q) ≡ true → p ≡ true
if_below s true p q e h k = k
if_below s false p q e h k = absurd (grind (arith, e, h))

and_last : (a b : Bool) → (a && b) ≡ true → b ≡ true
and_last true b h = h
and_last false b h = absurd cc

if_above : (s : ℕ) (b : Bool) (p q r : Bool) → nat_lt s 16 ≡ b → 16 ≤ s → (if b then p else q && r) ≡ true → r ≡ true
if_above s true p q r e h k = absurd (grind (arith, e, h))
if_above s false p q r e h k = and_last q r k

module _ (counts : List ℕ) (base : Option ℕ) (four four' : ℕ → Option (Entry Slot4)) (six six' : ℕ → Option (Entry Slot6)) (s clock : ℕ) (slots : Slots) (was : book_in counts base four six ≡ Some slots)
    (others4 : (j : ℕ) → (j ≡ s → ⊥) → four' j ≡ four j) (others6 : (j : ℕ) → (j ≡ s → ⊥) → six' j ≡ six j) where
  -- a DHCPv4 slot changes
  module _ (slot : Slot4) (few : s < 16) (change : IsChange counts clock s (Four slot) slots) where
    sized4 : (es : List (Entry Slot4)) → length es ≡ 16 → contents_at live4 slots.clock es ≡ slots.four → length (set (map (live4 clock) slots.four) s slot) ≡ 16
    sized4 es size is = length-set (map (live4 clock) slots.four) s slot ∙ length-map slots.four (live4 clock) ∙ ap length (sym is) ∙ contents_size live4 slots.clock es ∙ size

    pub here4 : (P : Slot4 → Type 0) → All P (set (map (live4 clock) slots.four) s slot) → P slot
    here4 P all =
        let a = are_entries counts base four six slots was in
        let size = pool_size a.clock S4.Free (slice_index counts 0) four a.entries4 a.four_are in
        let n : length (set (map (live4 clock) slots.four) s slot) ≡ 16 = sized4 a.entries4 size a.has.four_is in
        let m : length (map (live4 clock) slots.four) ≡ 16 = sym (length-set (map (live4 clock) slots.four) s slot) ∙ n in
        subst P (get_or-set_same (map (live4 clock) slots.four) s slot S4.Free (omega (arith, m))) (all s S4.Free (omega (arith, n)))

    pub changed4 : four' s ≡ Some (saved_at clock slot) → book_in counts base four' six' ≡ Some (with_slot clock s (Four slot) slots)
    changed4 here =
        let a = are_entries counts base four six slots was in
        let es = set a.entries4 s (saved_at clock slot) in
        let size : length a.entries4 ≡ 16 = pool_size a.clock S4.Free (slice_index counts 0) four a.entries4 a.four_are in
        let below = if_below s (nat_lt s 16) (nat_lt s (slice_index counts 0)) (nat_lt s 32 && nat_lt (s - 16) (slice_index counts 1)) refl few change.below in
        let lives : live4 clock slot ≡ slot = here4 (λ x. live4 clock x ≡ x) change.book.live4 in
        let later : slots.clock ≤ clock = change.later in
        let small4 : latest a.entries4 ≤ clock = let h = left_most (latest a.entries4) (latest a.entries6) slots.clock a.has.clock_is in omega arith in
        let small6 : latest a.entries6 ≤ clock = let h = right_most (latest a.entries4) (latest a.entries6) slots.clock a.has.clock_is in omega arith in
        let newest : latest es ≡ clock = latest_set a.entries4 s (saved_at clock slot) small4 (omega (arith, size)) in
        book_by counts base four' six' (with_slot clock s (Four slot) slots) (record {
          clock = a.clock;
          base_is = a.base_is;
          entries4 = es;
          entries6 = a.entries6;
          four_are = pool_set a.clock S4.Free (slice_index counts 0) four four' (saved_at clock slot) s a.entries4 few below here others4 a.four_are;
          six_are = pool_alike a.clock S6.Free (slice_index counts 1) (λ i. six (16 + i)) (λ i. six' (16 + i)) (λ j l. others6 (16 + j) (λ k. absurd (omega (arith, few, k)))) ∙ a.six_are;
          has = record {
            clock_is = ap (λ c. max c (latest a.entries6)) newest ∙ max_is clock (latest a.entries6) small6;
            four_is = contents_set live4 clock a.entries4 s slot lives
                ∙ ap (λ xs. set xs s slot) (sym (contents_later live4 slots.clock clock a.entries4 (live_later4 slots.clock clock later)) ∙ ap (map (live4 clock)) a.has.four_is);
            six_is = sym (contents_later live6 slots.clock clock a.entries6 (live_later6 slots.clock clock later)) ∙ ap (map (live6 clock)) a.has.six_is;
            once4 = change.book.once4;
            once6 = change.book.once6;
          };
        })

  -- a DHCPv6 slot changes
  module _ (slot : Slot6) (from : 16 ≤ s) (few : s < 32) (change : IsChange counts clock s (Six slot) slots) where
    sized6 : (es : List (Entry Slot6)) → length es ≡ 16 → contents_at live6 slots.clock es ≡ slots.six → length (set (map (live6 clock) slots.six) (s - 16) slot) ≡ 16
    sized6 es size is = length-set (map (live6 clock) slots.six) (s - 16) slot ∙ length-map slots.six (live6 clock) ∙ ap length (sym is) ∙ contents_size live6 slots.clock es ∙ size

    pub here6 : (P : Slot6 → Type 0) → All P (set (map (live6 clock) slots.six) (s - 16) slot) → P slot
    here6 P all =
        let a = are_entries counts base four six slots was in
        let size = pool_size a.clock S6.Free (slice_index counts 1) (λ i. six (16 + i)) a.entries6 a.six_are in
        let n : length (set (map (live6 clock) slots.six) (s - 16) slot) ≡ 16 = sized6 a.entries6 size a.has.six_is in
        let m : length (map (live6 clock) slots.six) ≡ 16 = sym (length-set (map (live6 clock) slots.six) (s - 16) slot) ∙ n in
        subst P (get_or-set_same (map (live6 clock) slots.six) (s - 16) slot S6.Free (omega (arith, m))) (all (s - 16) S6.Free (omega (arith, n)))

    pub changed6 : six' s ≡ Some (saved_at clock slot) → book_in counts base four' six' ≡ Some (with_slot clock s (Six slot) slots)
    changed6 here =
        let a = are_entries counts base four six slots was in
        let k = s - 16 in
        let at : 16 + (s - 16) ≡ s = omega arith in
        let es = set a.entries6 (s - 16) (saved_at clock slot) in
        let size : length a.entries6 ≡ 16 = pool_size a.clock S6.Free (slice_index counts 1) (λ i. six (16 + i)) a.entries6 a.six_are in
        let below = if_above s (nat_lt s 16) (nat_lt s (slice_index counts 0)) (nat_lt s 32) (nat_lt (s - 16) (slice_index counts 1)) refl from change.below in
        let lives : live6 clock slot ≡ slot = here6 (λ x. live6 clock x ≡ x) change.book.live6 in
        let later : slots.clock ≤ clock = change.later in
        let small4 : latest a.entries4 ≤ clock = let h = left_most (latest a.entries4) (latest a.entries6) slots.clock a.has.clock_is in omega arith in
        let small6 : latest a.entries6 ≤ clock = let h = right_most (latest a.entries4) (latest a.entries6) slots.clock a.has.clock_is in omega arith in
        let newest : latest es ≡ clock = latest_set a.entries6 (s - 16) (saved_at clock slot) small6 (omega (arith, size)) in
        book_by counts base four' six' (with_slot clock s (Six slot) slots) (record {
          clock = a.clock;
          base_is = a.base_is;
          entries4 = a.entries4;
          entries6 = es;
          four_are = pool_alike a.clock S4.Free (slice_index counts 0) four four' (λ j l. others4 j (λ e. absurd (omega (arith, from, l, e)))) ∙ a.four_are;
          six_are = pool_set a.clock S6.Free (slice_index counts 1) (λ i. six (16 + i)) (λ i. six' (16 + i)) (saved_at clock slot) (s - 16) a.entries6 (omega arith) below (ap six' at ∙ here)
              (λ j ne. others6 (16 + j) (λ e. ne (omega (arith, e)))) a.six_are;
          has = record {
            clock_is = ap (max (latest a.entries4)) newest ∙ max_so (latest a.entries4) clock small4;
            four_is = sym (contents_later live4 slots.clock clock a.entries4 (live_later4 slots.clock clock later)) ∙ ap (map (live4 clock)) a.has.four_is;
            six_is = contents_set live6 clock a.entries6 (s - 16) slot lives
                ∙ ap (λ xs. set xs (s - 16) slot) (sym (contents_later live6 slots.clock clock a.entries6 (live_later6 slots.clock clock later)) ∙ ap (map (live6 clock)) a.has.six_is);
            once4 = change.book.once4;
            once6 = change.book.once6;
          };
        })
