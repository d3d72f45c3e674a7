-- The marks of a region's slots.
use Rattle.std.proofs.Common.{◌≡◌, ℕ, ◌+◌, ◌-◌, ◌<◌, ◌≤◌, Bool, true, false, ◌&&◌, ◌||◌, nat_lt, List, length, set, get_or, slice_index, zero-add, Option, Some, None, refl, sym, ap, subst, ◌∙◌, arith}
use Rattle.std.specs.Prelude.{if◌then◌else◌, ◌==◌}
use Rattle.std.proofs.lemmas.List.{get_or-set_same, get_or-set_other}
use Rattle.types.specs.declared.slot4.Slot4.{Slot4}
use Rattle.types.specs.declared.slot4.Slot4.TheVariants as S4
use Rattle.types.specs.declared.slot6.Slot6.{Slot6}
use Rattle.types.specs.declared.slot6.Slot6.TheVariants as S6
use Rattle.types.specs.declared.slots.Slots.{Slots}
use Rattle.lease_disk.specs.declared.entry.Entry.{Entry}
use Rattle.lease_disk.specs.declared.half.Half.TheVariants.{First, Second}
use Rattle.lease_disk.specs.declared.marks.Mark.{Mark}
use Rattle.lease_disk.specs.Layout.{half2}
use Rattle.lease_disk.specs.Recover.{is_counted}
use Rattle.lease_disk.specs.Recovered.{is_open, sequence, is_counting, slot4_of, slot6_of, saved_at, held}
use Rattle.lease_disk.specs.Save.{IsMark, is_read}
use Rattle.lease_disk.proofs.Entries.{all_at, are_entries}
use Rattle.lease_disk.proofs.Halves.{entry2, recovered2}

module _ (region : ℕ → ℕ) (s : ℕ) (f g : ℕ → ℕ) (first : f ≡ half2 region s First) (second : g ≡ half2 region s Second) where
  pub mark_first : (m : Mark) → true ≡ is_counting f g → m ≡ record { half = First; sequence = sequence f; other_open = is_open g } → IsMark region s m
  mark_first m p is = subst (λ m. IsMark region s m) (sym is) (record {
    counting = sym (p ∙ (λ j. is_counting (first j) (second j)));
    sequence = ap sequence first;
    other_open = ap is_open second;
  })

  other_counts : (a b : Bool) → false ≡ a → (a || b) ≡ true → b ≡ true
  other_counts false b e h = h
  other_counts true b e h = absurd cc

  pub mark_second : (m : Mark) → false ≡ is_counting f g → m ≡ record { half = Second; sequence = sequence g; other_open = is_open f } → is_counted region s ≡ true → IsMark region s m
  mark_second m p is counted = subst (λ m. IsMark region s m) (sym is) (record {
    counting = other_counts (is_counting (half2 region s First) (half2 region s Second)) (is_counting (half2 region s Second) (half2 region s First)) (p ∙ (λ j. is_counting (first j) (second j))) counted;
    sequence = ap sequence second;
    other_open = ap is_open first;
  })

-- the marks of the first slots
pub AreSo : (ℕ → ℕ) → ℕ → List Mark → Type 0
AreSo region i marks = (k : ℕ) (d : Mark) → k < i → is_counted region k ≡ true → IsMark region k (get_or marks k d)

pub one_more : (region : ℕ → ℕ) (i : ℕ) (marks : List Mark) (m : Mark) → i < length marks → (is_counted region i ≡ true → IsMark region i m) → AreSo region i marks → AreSo region (i + 1) (set marks i m)
unfolding AreSo
one_more region i marks m within here so k d less counted = by (k == i) refl where
  by : (b : Bool) → (k == i) ≡ b → IsMark region k (get_or (set marks i m) k d)
  by true e =
      let is : k ≡ i = grind (arith, e) in
      subst (λ j. IsMark region j (get_or (set marks i m) j d)) (sym is) (subst (λ x. IsMark region i x) (sym (get_or-set_same marks i m d within)) (here (ap (is_counted region) (sym is) ∙ counted)))
  by false e =
      let ne : k ≡ i → ⊥ = λ same. absurd (grind (arith, e, same)) in
      subst (λ x. IsMark region k x) (sym (get_or-set_other marks i k m d ne)) (so k d (below ne) counted) where
        below : (k ≡ i → ⊥) → k < i
        below ne = omega (arith, ne, less)

pub first_so : (region : ℕ → ℕ) (marks : List Mark) (m : Mark) → ((d : Mark) → get_or marks 0 d ≡ m) → (is_counted region 0 ≡ true → IsMark region 0 m) → AreSo region 1 marks
unfolding AreSo
first_so region marks m is here k d less counted =
    let zero : k ≡ 0 = omega (arith, less) in
    subst (λ j. IsMark region j (get_or marks j d)) (sym zero) (subst (λ x. IsMark region 0 x) (sym (is d)) (here (ap (is_counted region) (sym zero) ∙ counted)))

pub all_so : (region : ℕ → ℕ) (i : ℕ) (marks : List Mark) → 32 ≤ i → AreSo region i marks → (s : ℕ) → s < 32 → is_counted region s ≡ true → (d : Mark) → IsMark region s (get_or marks s d)
unfolding AreSo
all_so region i marks end so s few counted d = so s d (omega (arith, few, end)) counted

-- a slot that is read has a half that counts

counted_of : {A : Type 0} → (a b : Bool) (x y : Option A) (e : A) → (if a then x else if b then y else None) ≡ Some e → (a || b) ≡ true
counted_of true b x y e h = refl
counted_of false true x y e h = refl
counted_of false false x y e h = absurd cc

in_pool : {A : Type 0} → (b : Bool) (o : Option A) (x e : A) → b ≡ true → (if b then o else Some x) ≡ Some e → o ≡ Some e
in_pool true o x e h is = is
in_pool false o x e h is = absurd cc

module _ (counts : List ℕ) (region : ℕ → ℕ) (slots : Slots) (was : recovered2 counts region ≡ Some slots) where
  counted4 : (s : ℕ) → s < 16 → nat_lt s (slice_index counts 0) ≡ true → is_counted region s ≡ true
  unfolding recovered2
  counted4 s few below =
      let a = are_entries counts (Some 0) (entry2 slot4_of region) (entry2 slot6_of region) slots was in
      let read : ℕ → Option (Entry Slot4) = λ i. if nat_lt i (slice_index counts 0) then entry2 slot4_of region i else Some (saved_at a.clock S4.Free) in
      let e = get_or a.entries4 s (saved_at 0 S4.Free) in
      let is : read s ≡ Some e = ap read (sym (zero-add s)) ∙ all_at read 0 16 a.entries4 a.four_are s (saved_at 0 S4.Free) few in
      counted_of (is_counting (half2 region s First) (half2 region s Second)) (is_counting (half2 region s Second) (half2 region s First)) (held slot4_of (half2 region s First)) (held slot4_of (half2 region s Second)) e
      (in_pool (nat_lt s (slice_index counts 0)) (entry2 slot4_of region s) (saved_at a.clock S4.Free) e below is)

  counted6 : (i : ℕ) → i < 16 → nat_lt i (slice_index counts 1) ≡ true → is_counted region (16 + i) ≡ true
  unfolding recovered2
  counted6 i few below =
      let a = are_entries counts (Some 0) (entry2 slot4_of region) (entry2 slot6_of region) slots was in
      let read : ℕ → Option (Entry Slot6) = λ j. if nat_lt j (slice_index counts 1) then entry2 slot6_of region (16 + j) else Some (saved_at a.clock S6.Free) in
      let e = get_or a.entries6 i (saved_at 0 S6.Free) in
      let is : read i ≡ Some e = ap read (sym (zero-add i)) ∙ all_at read 0 16 a.entries6 a.six_are i (saved_at 0 S6.Free) few in
      counted_of (is_counting (half2 region (16 + i) First) (half2 region (16 + i) Second)) (is_counting (half2 region (16 + i) Second) (half2 region (16 + i) First)) (held slot6_of (half2 region (16 + i) First)) (held slot6_of (half2 region (16 + i) Second)) e
      (in_pool (nat_lt i (slice_index counts 1)) (entry2 slot6_of region (16 + i)) (saved_at a.clock S6.Free) e below is)

  by_pool : (s : ℕ) (b : Bool) → nat_lt s 16 ≡ b → (c : Bool) → nat_lt s 32 ≡ c → (if b then nat_lt s (slice_index counts 0) else c && nat_lt (s - 16) (slice_index counts 1)) ≡ true → (s < 32) × (is_counted region s ≡ true)
  by_pool s true e c f h = let few : s < 16 = grind (arith, e) in (omega (arith, few), counted4 s few h)
  by_pool s false e true f h =
      let few : s < 32 = grind (arith, f) in
      let least : 16 ≤ s = grind (arith, e) in
      let at : 16 + (s - 16) ≡ s = omega (arith, least) in
      (few, ap (is_counted region) (sym at) ∙ counted6 (s - 16) (omega (arith, few, least)) h)
  by_pool s false e false f h = absurd cc

  pub read_counted : (s : ℕ) → is_read counts s ≡ true → (s < 32) × (is_counted region s ≡ true)
  read_counted s h = by_pool s (nat_lt s 16) refl (nat_lt s 32) refl h
