-- Which half of a slot counts while a save writes the other one, over regions as functions of the offset.
use Rattle.std.proofs.Common.{◌≡◌, ℕ, ◌+◌, ◌<◌, ◌≤◌, ◌%◌, ◌⊎◌, inl, inr, Bool, true, false, not, ◌&&◌, ◌||◌, nat_le, nat_lt, refl, sym, ap, ◌∙◌, arith}
use Rattle.std.specs.Prelude.{if◌then◌else◌, ◌==◌, List, Option, Some}
use Rattle.std.proofs.lemmas.Bool.{cases_lt}
use Rattle.types.specs.declared.slots.Slots.{Slots}
use Rattle.lease_disk.specs.declared.entry.Entry.{Entry}
use Rattle.lease_disk.specs.declared.half.Half.{Half}
use Rattle.lease_disk.specs.declared.half.Half.TheVariants.{First, Second}
use Rattle.lease_disk.specs.Layout.{half_at, half1, half2, half, is_format2}
use Rattle.lease_disk.specs.Recovered.{is_open, sequence, is_valid, next, is_counting, slot4_of, slot6_of, held, entry_of, entry, book_in, counting_clock, region_clock, recovered}
use Rattle.lease_disk.specs.Region.{is_within}
use Rattle.lease_disk.specs.Save.{other}

pub is_below : (at n i : ℕ) → i < at → is_within at n i ≡ false
is_below at n i h = grind arith

pub is_above : (at n i : ℕ) → at + n ≤ i → is_within at n i ≡ false
is_above at n i h = grind arith

pub is_inside : (at n i : ℕ) → at ≤ i → i < at + n → is_within at n i ≡ true
is_inside at n i h k = grind arith

-- A region of format 2

-- what the half that counts of a slot holds
abbrev pub entry2 : {A : Type 0} → ((ℕ → ℕ) → Option A) → (ℕ → ℕ) → ℕ → Option (Entry A)
entry2 read region s = entry_of read (half2 region s First) (half2 region s Second)

unfoldable pub recovered2 : List ℕ → (ℕ → ℕ) → Option Slots
recovered2 counts region = book_in counts (Some 0) (entry2 slot4_of region) (entry2 slot6_of region)

pub half_in2 : (region : ℕ → ℕ) (s : ℕ) (h : Half) → is_format2 region ≡ true → half region s h ≡ half2 region s h
half_in2 region s h two = ap (λ b. if b then half2 region s h else half1 region s h) two

pub half_in1 : (region : ℕ → ℕ) (s : ℕ) (h : Half) → is_format2 region ≡ false → half region s h ≡ half1 region s h
half_in1 region s h one = ap (λ b. if b then half2 region s h else half1 region s h) one

pub entry_in2 : {A : Type 0} → (read : (ℕ → ℕ) → Option A) (region : ℕ → ℕ) → is_format2 region ≡ true → entry read region ≡ entry2 read region
entry_in2 read region two = λ j. λ s. entry_of read (half_in2 region s First two j) (half_in2 region s Second two j)

pub as_format2 : (counts : List ℕ) (region : ℕ → ℕ) → is_format2 region ≡ true → recovered counts region ≡ recovered2 counts region
unfolding recovered recovered2
as_format2 counts region two =
    (λ j. book_in counts (clock j) (entry_in2 slot4_of region two j) (entry_in2 slot6_of region two j)) where
      clock : region_clock region ≡ Some 0
      clock = ap (λ b. if b then Some 0 else counting_clock (half1 region 0 First) (half1 region 0 Second)) two

-- Halves stand apart

from_below : (s t : ℕ) (h g : Half) (i : ℕ) → s < t → is_within (half_at s h) 256 (half_at t g + i) ≡ false
from_below s t First First i k = is_above (half_at s First) 256 (half_at t First + i) (omega arith)
from_below s t First Second i k = is_above (half_at s First) 256 (half_at t Second + i) (omega arith)
from_below s t Second First i k = is_above (half_at s Second) 256 (half_at t First + i) (omega arith)
from_below s t Second Second i k = is_above (half_at s Second) 256 (half_at t Second + i) (omega arith)

from_above : (s t : ℕ) (h g : Half) (i : ℕ) → t < s → i < 256 → is_within (half_at s h) 256 (half_at t g + i) ≡ false
from_above s t First First i k l = is_below (half_at s First) 256 (half_at t First + i) (omega arith)
from_above s t First Second i k l = is_below (half_at s First) 256 (half_at t Second + i) (omega arith)
from_above s t Second First i k l = is_below (half_at s Second) 256 (half_at t First + i) (omega arith)
from_above s t Second Second i k l = is_below (half_at s Second) 256 (half_at t Second + i) (omega arith)

is_apart : (s t : ℕ) (h g : Half) (i : ℕ) → (t ≡ s → ⊥) → i < 256 → is_within (half_at s h) 256 (half_at t g + i) ≡ false
is_apart s t h g i ne l = by (cases_lt s t) where
  or_above : (t < s) ⊎ (s ≤ t) → t ≤ s → is_within (half_at s h) 256 (half_at t g + i) ≡ false
  or_above (inl k) e = from_above s t h g i k l
  or_above (inr k) e = absurd (ne (omega arith))

  by : (s < t) ⊎ (t ≤ s) → is_within (half_at s h) 256 (half_at t g + i) ≡ false
  by (inl k) = from_below s t h g i k
  by (inr k) = or_above (cases_lt t s) k

own_apart : (s : ℕ) (h : Half) (i : ℕ) → i < 256 → is_within (half_at s (other h)) 256 (half_at s h + i) ≡ false
own_apart s First i l = is_below (half_at s Second) 256 (half_at s First + i) (omega arith)
own_apart s Second i l = is_above (half_at s First) 256 (half_at s Second + i) (omega arith)

pub format_apart : (s : ℕ) (h : Half) → is_within (half_at s h) 256 8192 ≡ false
format_apart s First = is_below (half_at s First) 256 8192 (omega arith)
format_apart s Second = is_below (half_at s Second) 256 8192 (omega arith)

-- all but one half of a slot is the same
pub record SameBut (s : ℕ) (h : Half) (f g : ℕ → ℕ) : Type 0 where
  pub each : (i : ℕ) → is_within (half_at s h) 256 i ≡ false → g i ≡ f i

pub but_both : (s : ℕ) (o : Half) (f g h : ℕ → ℕ) → SameBut s o f g → SameBut s o g h → SameBut s o f h
but_both s o f g h a b = record { each = λ i k. b.each i k ∙ a.each i k }

half_byte : (f g : ℕ → ℕ) (t : ℕ) (k : Half) → ((i : ℕ) → i < 256 → g (half_at t k + i) ≡ f (half_at t k + i)) → (i : ℕ) (b : Bool) → nat_lt i 256 ≡ b
    → (if b then g (half_at t k + i) else 0) ≡ (if b then f (half_at t k + i) else 0)
half_byte f g t k h i true e = h i (grind (arith, e))
half_byte f g t k h i false e = refl

pub same_bytes : (f g : ℕ → ℕ) (t : ℕ) (k : Half) → ((i : ℕ) → i < 256 → g (half_at t k + i) ≡ f (half_at t k + i)) → half2 g t k ≡ half2 f t k
same_bytes f g t k h = λ j. λ i. half_byte f g t k h i (nat_lt i 256) refl j

pub same_elsewhere : (s : ℕ) (h : Half) (f g : ℕ → ℕ) → SameBut s h f g → (t : ℕ) (k : Half) → (t ≡ s → ⊥) → half2 g t k ≡ half2 f t k
same_elsewhere s h f g same t k ne = same_bytes f g t k (λ i l. same.each (half_at t k + i) (is_apart s t h k i ne l))

pub same_own : (s : ℕ) (h : Half) (f g : ℕ → ℕ) → SameBut s (other h) f g → half2 g s h ≡ half2 f s h
same_own s h f g same = same_bytes f g s h (λ i l. same.each (half_at s h + i) (own_apart s h i l))

pub same_format : (s : ℕ) (h : Half) (f g : ℕ → ℕ) → SameBut s h f g → is_format2 g ≡ is_format2 f
same_format s h f g same = λ i. same.each 8192 (format_apart s h) i == 2

pub other_other : (h : Half) → other (other h) ≡ h
other_other First = refl
other_other Second = refl

-- Which half counts

not_next : (a b : ℕ) → a ≤ 2 → b ≤ 2 → a ≡ (b + 1) % 3 → b ≡ (a + 1) % 3 → ⊥
not_next a b h k p q = omega arith

both_count : (o p : Bool) (a b : ℕ)
    → ((o && nat_le a 2) && (not p || ((p && nat_le b 2) && a == next b))) ≡ true
    → ((p && nat_le b 2) && (not o || ((o && nat_le a 2) && b == next a))) ≡ true → ⊥
both_count true true a b h k = grind (arith, not_next)
both_count true false a b h k = cc
both_count false true a b h k = cc
both_count false false a b h k = cc

false_of : (b : Bool) → (b ≡ true → ⊥) → b ≡ false
false_of true h = absurd (h refl)
false_of false h = refl

-- not both halves count
pub only_one : (own opposite : ℕ → ℕ) → is_counting own opposite ≡ true → is_counting opposite own ≡ false
only_one own opposite p = false_of (is_counting opposite own) (λ q. both_count (is_open own) (is_open opposite) (sequence own) (sequence opposite) p q)

pub first_of : {B : Type 0} → (a b : Bool) (x y z : B) → a ≡ true → (if a then x else if b then y else z) ≡ x
first_of true b x y z e = refl
first_of false b x y z e = cc

pub second_of : {B : Type 0} → (a b : Bool) (x y z : B) → a ≡ false → b ≡ true → (if a then x else if b then y else z) ≡ y
second_of false true x y z e f = refl
second_of false false x y z e f = cc
second_of true b x y z e f = cc

pub neither_of : {B : Type 0} → (a b : Bool) (x y z : B) → a ≡ false → b ≡ false → (if a then x else if b then y else z) ≡ z
neither_of false false x y z e f = refl
neither_of false true x y z e f = cc
neither_of true b x y z e f = cc

module _ {A : Type 0} (read : (ℕ → ℕ) → Option A) where
  -- the half that counts decides
  pub entry_by : (f : ℕ → ℕ) (s : ℕ) (h : Half) → is_counting (half2 f s h) (half2 f s (other h)) ≡ true → entry2 read f s ≡ held read (half2 f s h)
  entry_by f s First p = first_of (is_counting (half2 f s First) (half2 f s Second)) (is_counting (half2 f s Second) (half2 f s First)) (held read (half2 f s First)) _ _ p
  entry_by f s Second p =
      second_of (is_counting (half2 f s First) (half2 f s Second)) (is_counting (half2 f s Second) (half2 f s First)) _ (held read (half2 f s Second)) _ (only_one (half2 f s Second) (half2 f s First) p) p

  pub entry_elsewhere : (s : ℕ) (h : Half) (f g : ℕ → ℕ) → SameBut s h f g → (t : ℕ) → (t ≡ s → ⊥) → entry2 read g t ≡ entry2 read f t
  entry_elsewhere s h f g same t ne = λ j. entry_of read (same_elsewhere s h f g same t First ne j) (same_elsewhere s h f g same t Second ne j)

  entry_at : (s : ℕ) (h : Half) (f g : ℕ → ℕ) → SameBut s h f g → entry2 read g s ≡ entry2 read f s → (t : ℕ) → (b : Bool) → (t == s) ≡ b → entry2 read g t ≡ entry2 read f t
  entry_at s h f g same own t true e = let k : t ≡ s = grind (arith, e) in ap (entry2 read g) k ∙ own ∙ ap (entry2 read f) (sym k)
  entry_at s h f g same own t false e = entry_elsewhere s h f g same t (λ k. absurd (grind (arith, e, k)))

  -- while the same half counts, all slots hold what they held
  pub entries_stay : (s : ℕ) (h : Half) (f g : ℕ → ℕ) → SameBut s (other h) f g → is_counting (half2 f s h) (half2 f s (other h)) ≡ true → is_counting (half2 g s h) (half2 g s (other h)) ≡ true
      → (t : ℕ) → entry2 read g t ≡ entry2 read f t
  entries_stay s h f g same p q t =
      entry_at s (other h) f g same (entry_by g s h q ∙ ap (held read) (same_own s h f g same) ∙ sym (entry_by f s h p)) t (t == s) refl

-- What closes, writes or opens the other half

counting_valid : (v w x : Bool) → (v && w) ≡ true → (v && (true || x)) ≡ true
counting_valid true w x h = refl
counting_valid false w x h = h

by_shut : (v w o x : Bool) → (v && w) ≡ true → o ≡ false → (v && (not o || x)) ≡ true
by_shut v w false x h e = counting_valid v w x h
by_shut v w true x h e = cc

-- a half counts while the other's gate is closed
pub while_shut : (own opposite shut : ℕ → ℕ) → is_counting own opposite ≡ true → is_open shut ≡ false → is_counting own shut ≡ true
while_shut own opposite shut p e = by_shut (is_valid own) _ (is_open shut) _ p e

by_gate : (v p q : Bool) (a b : ℕ) → (q ≡ false → p ≡ false)
    → (v && (not q || ((q && nat_le b 2) && a == next b))) ≡ true
    → (v && (not p || ((p && nat_le b 2) && a == next b))) ≡ true
by_gate v true true a b e h = h
by_gate v true false a b e h = absurd (let x = e refl in cc)
by_gate v false q a b e h = counting_valid v (not q || ((q && nat_le b 2) && a == next b)) false h

-- while the other's gate is in doubt, if it was open, the half counts: the other, if open, is as it was
pub while_closing : (own opposite closing : ℕ → ℕ) → is_counting own opposite ≡ true → sequence closing ≡ sequence opposite → (is_open opposite ≡ false → is_open closing ≡ false) → is_counting own closing ≡ true
while_closing own opposite closing p e gate =
    ap (λ b. is_valid own && (not (is_open closing) || ((is_open closing && nat_le b 2) && sequence own == next b))) e
    ∙ by_gate (is_valid own) (is_open closing) (is_open opposite) (sequence own) (sequence opposite) gate p

counted : (o : Bool) (a : ℕ) (w : Bool) → ((o && nat_le a 2) && w) ≡ true → (o ≡ true) × (nat_le a 2 ≡ true)
counted true a true h = (refl, grind arith)
counted true a false h = (refl, grind arith)
counted false a w h = cc

counts_open : (o : Bool) (a b : ℕ) → nat_le b 2 ≡ true → a ≡ next b → ((true && nat_le a 2) && (not o || ((o && nat_le b 2) && a == next b))) ≡ true
counts_open true a b h e = grind arith
counts_open false a b h e = grind arith

opened : (o p : Bool) (a b : ℕ) (w : Bool) → ((o && nat_le a 2) && w) ≡ true → p ≡ true → b ≡ next a → ((p && nat_le b 2) && (not o || ((o && nat_le a 2) && b == next a))) ≡ true
opened o true a b w h e f = counts_open o b a (counted o a w h).1 f
opened o false a b w h e f = cc

-- a half that is open with the next sequence counts
pub when_open : (own opposite new : ℕ → ℕ) → is_counting own opposite ≡ true → is_open new ≡ true → sequence new ≡ next (sequence own) → is_counting new own ≡ true
when_open own opposite new p o e = opened (is_open own) (is_open new) (sequence own) (sequence new) _ p o e

is_le_two : (a : ℕ) → nat_le a 2 ≡ true → a ≤ 2
is_le_two a h = grind arith

-- the sequence of a half that counts is from 0 to 2
pub counting_sequence : (own opposite : ℕ → ℕ) → is_counting own opposite ≡ true → sequence own ≤ 2
counting_sequence own opposite p = is_le_two (sequence own) (counted (is_open own) (sequence own) _ p).1

pub counting_open : (own opposite : ℕ → ℕ) → is_counting own opposite ≡ true → is_open own ≡ true
counting_open own opposite p = (counted (is_open own) (sequence own) _ p).0
