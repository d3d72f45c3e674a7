-- Reading slots one after the other.
use Rattle.std.proofs.Common.{◌≡◌, ℕ, ◌+◌, ◌-◌, ◌*◌, ◌<◌, ◌≤◌, Bool, true, false, suc, zero, List, [], ◌∷◌, ◌++◌, length, take, drop, set, get_or, slice_index, Option, Some, None, refl, sym, ap, ◌∙◌, arith, append_assoc, drop-cons, add-one, zero-add}
use Rattle.std.specs.Prelude.{◌/◌, ◌%◌, ◌==◌, nat_le, nat_lt, not, ◌&&◌, ◌||◌, ◌↔◌, IsSome, IfSome, if◌then◌else◌}
use Rattle.std.specs.List.{list_any}
use Rattle.std.proofs.lemmas.List.{append-nil, length-drop, length-set, length-take, get_or-set_same, get_or-set_other, get_or-drop, get_or-take, get_or_past, take_more_set, take_all}
use Rattle.types.specs.Slots.{none_twice}
use Rattle.types.specs.declared.slots.Slots.{Slots}
use Rattle.lease_disk.specs.declared.half.Half.{Half}
use Rattle.lease_disk.specs.declared.half.Half.TheVariants.{First, Second}
use Rattle.lease_disk.specs.declared.marks.Mark.{Mark}
use Rattle.lease_disk.specs.Halves.{AreHalves, place, clock_by}
use Rattle.lease_disk.specs.Layout.{bank_at, bank_place, half_at, with_halves, half, half1, half2, is_format2}
use Rattle.lease_disk.specs.Recovered.{bytes_at, is_open, sequence, next, is_counting, slot4_of, slot6_of, held, entry_of, entry, cons_some, all_from, book_in, last_clock, clock_within, counting_clock, region_clock, recovered}
use Rattle.lease_disk.specs.Save.{IsMark, other}
use Rattle.lease_disk.specs.Region.{Region, IsRead}
use Rattle.lease_disk.proofs.Changes.{book_alike}
use Rattle.lease_disk.proofs.Halves.{half_in1, half_in2, recovered2, same_bytes, first_of, second_of, neither_of}

pub bytes_at_slice : (xs : List ℕ) (at n : ℕ) → at + n ≤ length xs → bytes_at (slice_index xs) at n ≡ take n (drop at xs)
bytes_at_slice xs at zero h = refl
bytes_at_slice xs at (suc n) h =
    let rest : bytes_at (slice_index xs) (suc at) n ≡ take n (drop (suc at) xs) = bytes_at_slice xs (suc at) n (omega arith) in
    let k : at < length xs = omega arith in
    rw (drop-cons xs at 0 k, rest) refl

pub prepend : {A : Type 0} → List A → Option (List A) → Option (List A)
prepend xs None = None
prepend xs (Some ys) = Some (xs ++ ys)

-- n of them are the first i and those from there on
pub record Goes {A : Type 0} (read : ℕ → Option A) (n i : ℕ) (xs : List A) : Type 0 where
  pub so_far : all_from read 0 n ≡ prepend (take i xs) (all_from read i (n - i))
  pub size : length xs ≡ n

prepend_none : {A : Type 0} → (o : Option (List A)) → o ≡ prepend [] o
unfolding prepend
prepend_none None = refl
prepend_none (Some xs) = refl

pub goes_first : {A : Type 0} → (read : ℕ → Option A) (n : ℕ) (xs : List A) → length xs ≡ n → Goes read n 0 xs
goes_first read n xs size = record { so_far = let e : n - 0 ≡ n = omega arith in rw e (prepend_none (all_from read 0 n)); size = size }

prepend_cons : {A : Type 0} → (xs : List A) (x : A) (o : Option (List A)) → prepend xs (cons_some (Some x) o) ≡ prepend (xs ++ x ∷ []) o
unfolding prepend
prepend_cons xs x None = refl
prepend_cons xs x (Some ys) = ap Some (sym (append_assoc xs (x ∷ []) ys))

cons_none : {A : Type 0} → (xs : List A) (o : Option (List A)) → prepend xs (cons_some None o) ≡ None
unfolding prepend
cons_none xs None = refl
cons_none xs (Some ys) = refl

rest_of : {A : Type 0} → (read : ℕ → Option A) (n i : ℕ) → i < n → all_from read i (n - i) ≡ cons_some (read i) (all_from read (i + 1) (n - (i + 1)))
rest_of read n i h = let e : n - i ≡ suc (n - (i + 1)) = omega arith in rw e (ap (λ k. cons_some (read i) (all_from read k (n - (i + 1)))) (omega arith))

pub goes_on : {A : Type 0} → (read : ℕ → Option A) (n i : ℕ) (xs : List A) (x : A) → Goes read n i xs → i < n → Some x ≡ read i → Goes read n (i + 1) (set xs i x)
goes_on read n i xs x g h e = let k : i < length xs = rw g.size h in record {
  size = length-set xs i x ∙ g.size;
  so_far = g.so_far ∙ ap (λ o. prepend (take i xs) o) (rest_of read n i h ∙ ap (λ r. cons_some r (all_from read (i + 1) (n - (i + 1)))) (sym e))
      ∙ prepend_cons (take i xs) x (all_from read (i + 1) (n - (i + 1)))
      ∙ ap (λ ys. prepend ys (all_from read (i + 1) (n - (i + 1)))) (sym (take_more_set xs i x k));
}

pub goes_not : {A : Type 0} → (read : ℕ → Option A) (n i : ℕ) (xs : List A) → Goes read n i xs → i < n → None ≡ read i → None ≡ all_from read 0 n
goes_not read n i xs g h e = sym (g.so_far ∙ ap (λ o. prepend (take i xs) o) (rest_of read n i h ∙ ap (λ r. cons_some r (all_from read (i + 1) (n - (i + 1)))) (sym e))
    ∙ cons_none (take i xs) (all_from read (i + 1) (n - (i + 1))))

prepend_all : {A : Type 0} → (xs : List A) → prepend xs (Some []) ≡ Some xs
unfolding prepend
prepend_all xs = ap Some (append-nil xs)

pub goes_all : {A : Type 0} → (read : ℕ → Option A) (n i : ℕ) (xs : List A) → Goes read n i xs → i ≡ n → Some xs ≡ all_from read 0 n
goes_all read n i xs g e =
    let size : length xs ≡ n = g.size in
    let k : n - n ≡ 0 = omega arith in
    let s = rw (e, k, take_all n xs (omega arith)) at g.so_far in
    sym (s ∙ prepend_all xs)

twice_not_here : {A : Type 0} → (alike : A → A → Bool) (xs : List A) (i : ℕ) (x : A) → i < length xs → x ≡ get_or xs i x → list_any (alike x) (drop (i + 1) xs) ≡ false → none_twice alike (drop i xs) ≡ none_twice alike (drop (i + 1) xs)
twice_not_here alike xs i x h e p = let n : i + 1 ≡ suc i = omega arith in let q : list_any (alike x) (drop (suc i) xs) ≡ false = rw n at p in rw (n, drop-cons xs i x h, ← e, q) refl

twice_here : {A : Type 0} → (alike : A → A → Bool) (xs : List A) (i : ℕ) (x : A) → i < length xs → x ≡ get_or xs i x → list_any (alike x) (drop (i + 1) xs) ≡ true → none_twice alike (drop i xs) ≡ false
twice_here alike xs i x h e p = rw (drop-cons xs i x h, ← add-one i, ← e, p) refl

rest_is : {A : Type 0} → (xs : List A) (at : ℕ) → take (length xs - at) (drop at xs) ≡ drop at xs
rest_is {A} xs at = take_all (length xs - at) (drop at xs) (omega (arith, length-drop {A = A}))

pub no_twin_behind : {A : Type 0} → (alike : A → A → Bool) (xs : List A) (i : ℕ) (x : A) (all : Bool) → i < length xs → x ≡ get_or xs i x
    → false ≡ list_any (alike x) (take (length xs - (i + 1)) (drop (i + 1) xs)) → all ≡ none_twice alike (drop i xs) → all ≡ none_twice alike (drop (i + 1) xs)
no_twin_behind alike xs i x all h e p q = q ∙ twice_not_here alike xs i x h e (ap (λ ys. list_any (alike x) ys) (sym (rest_is xs (i + 1))) ∙ sym p)

pub twin_behind : {A : Type 0} → (alike : A → A → Bool) (xs : List A) (i : ℕ) (x : A) (all : Bool) → i < length xs → x ≡ get_or xs i x
    → true ≡ list_any (alike x) (take (length xs - (i + 1)) (drop (i + 1) xs)) → all ≡ none_twice alike (drop i xs) → false ≡ all
twin_behind alike xs i x all h e p q = sym (q ∙ twice_here alike xs i x h e (ap (λ ys. list_any (alike x) ys) (sym (rest_is xs (i + 1))) ∙ sym p))

-- the bytes of a half, of those of all slots
half_byte : (halves : List ℕ) (at : ℕ) (i : ℕ) (b : Bool) → nat_lt i 256 ≡ b → at + 256 ≤ length halves → get_or (take 256 (drop at halves)) i 0 ≡ (if b then with_halves halves (16384 + at + i) else 0)
half_byte halves at i true e h =
    let k : i < 256 = grind (arith, e) in
    let late : nat_lt (16384 + at + i) 16384 ≡ false = grind arith in
    let there : 16384 + at + i - 16384 ≡ at + i = omega arith in
    get_or-take 256 (drop at halves) i 0 k ∙ get_or-drop at halves i 0 ∙ sym (rw (late, there) refl)
half_byte halves at i false e h = let k : 256 ≤ i = grind (arith, e) in get_or_past (take 256 (drop at halves)) i 0 (omega (arith, k, length-take {A = ℕ}))

pub half_bytes_at : (halves : List ℕ) (s : ℕ) (h : Half) (at : ℕ) → 16384 + at ≡ half_at s h → at + 256 ≤ length halves → slice_index (take 256 (drop at halves)) ≡ half (with_halves halves) s h
half_bytes_at halves s h at is within = λ j. λ i. (half_byte halves at i (nat_lt i 256) refl within ∙ ap (λ a. if nat_lt i 256 then with_halves halves (a + i) else 0) is) j

-- The halves of a region

halves_of2 : (region : ℕ → ℕ) (halves : List ℕ) → ((i : ℕ) → i < length halves → slice_index halves i ≡ region (16384 + i)) → length halves ≡ 16384 → (s : ℕ) (h : Half) → s < 32 → half2 (with_halves halves) s h ≡ half2 region s h
halves_of2 region halves same size s h few = same_bytes region (with_halves halves) s h (λ i l. at s h i few l) where
  there : (a : ℕ) → 16384 ≤ a → a < 32768 → with_halves halves a ≡ region a
  there a least most =
      let late : nat_lt a 16384 ≡ false = grind (arith, least) in
      let back : 16384 + (a - 16384) ≡ a = omega arith in
      rw late (same (a - 16384) (omega (arith, size)) ∙ ap region back)

  at : (s : ℕ) (h : Half) (i : ℕ) → s < 32 → i < 256 → with_halves halves (half_at s h + i) ≡ region (half_at s h + i)
  at s First i few l = there (16384 + 512 * s + i) (omega arith) (omega arith)
  at s Second i few l = there (16640 + 512 * s + i) (omega arith) (omega arith)

pub are_halves2 : (region : ℕ → ℕ) (halves : List ℕ) → is_format2 region ≡ true → ((i : ℕ) → i < length halves → slice_index halves i ≡ region (16384 + i)) → length halves ≡ 16384 → AreHalves halves region
are_halves2 region halves two same size = record { each = λ s h few. halves_of2 region halves same size s h few ∙ sym (half_in2 region s h two) }

-- in banks

bank_place_most : (s i : ℕ) → s < 32 → i < 256 → bank_place s i < 4096
bank_place_most s i few l = grind (arith, few, l)

place_in : (m d s i : ℕ) → m ≡ i → d ≡ s → i < 256 → (if nat_lt m 256 then bank_place d m else 4096 + bank_place d (m - 256)) ≡ bank_place s i
place_in m d s i e f l = let few : nat_lt i 256 ≡ true = grind (arith, l) in (λ j. if nat_lt (e j) 256 then bank_place (f j) (e j) else 4096 + bank_place (f j) (e j - 256)) ∙ ap (λ b. if b then bank_place s i else 4096 + bank_place s (i - 256)) few

place_first : (s i : ℕ) → i < 256 → place (512 * s + i) ≡ bank_at First + bank_place s i
place_first s i l = place_in ((512 * s + i) % 512) ((512 * s + i) / 512) s i (omega arith) (omega arith) l ∙ sym (zero-add (bank_place s i))

place_behind : (m d s i : ℕ) → m ≡ 256 + i → d ≡ s → (if nat_lt m 256 then bank_place d m else 4096 + bank_place d (m - 256)) ≡ 4096 + bank_place s i
place_behind m d s i e f =
    let many : nat_lt m 256 ≡ false = grind (arith, e) in
    let back : m - 256 ≡ i = omega (arith, e) in
    ap (λ b. if b then bank_place d m else 4096 + bank_place d (m - 256)) many ∙ (λ j. 4096 + bank_place (f j) (back j))

place_second : (s i : ℕ) → i < 256 → place (256 + 512 * s + i) ≡ bank_at Second + bank_place s i
place_second s i l = place_behind ((256 + 512 * s + i) % 512) ((256 + 512 * s + i) / 512) s i (omega arith) (omega arith)

half_of_bank : (region : ℕ → ℕ) (halves : List ℕ) (s : ℕ) (h : Half) → ((i : ℕ) → i < 16384 → slice_index halves i ≡ region (place i)) → s < 32 → (i : ℕ) (b : Bool) → nat_lt i 256 ≡ b
    → (if b then with_halves halves (half_at s h + i) else 0) ≡ (if b then region (bank_at h + bank_place s i) else 0)
half_of_bank region halves s First same few i true e =
    let l : i < 256 = grind (arith, e) in
    let late : nat_lt (16384 + 512 * s + i) 16384 ≡ false = grind arith in
    let back : 16384 + 512 * s + i - 16384 ≡ 512 * s + i = omega arith in
    rw (late, back) (same (512 * s + i) (omega (arith, few, l)) ∙ ap region (place_first s i l))
half_of_bank region halves s Second same few i true e =
    let l : i < 256 = grind (arith, e) in
    let late : nat_lt (16640 + 512 * s + i) 16384 ≡ false = grind arith in
    let back : 16640 + 512 * s + i - 16384 ≡ 256 + 512 * s + i = omega arith in
    rw (late, back) (same (256 + 512 * s + i) (omega (arith, few, l)) ∙ ap region (place_second s i l))
half_of_bank region halves s h same few i false e = refl

pub are_halves1 : (region : ℕ → ℕ) (halves : List ℕ) → is_format2 region ≡ false → ((i : ℕ) → i < 16384 → slice_index halves i ≡ region (place i)) → AreHalves halves region
are_halves1 region halves one same = record { each = λ s h few. (λ j. λ i. half_of_bank region halves s h same few i (nat_lt i 256) refl j) ∙ sym (half_in1 region s h one) }

place_most : (i : ℕ) → i < 16384 → place i < 8192
place_most i h = by (nat_lt (i % 512) 256) refl where
  few : i / 512 < 32
  few = omega (arith, h)

  by : (b : Bool) → nat_lt (i % 512) 256 ≡ b → (if b then bank_place (i / 512) (i % 512) else 4096 + bank_place (i / 512) (i % 512 - 256)) < 8192
  by true e = let l : i % 512 < 256 = grind (arith, e) in let m = bank_place_most (i / 512) (i % 512) few l in omega (arith, m)
  by false e = let m = bank_place_most (i / 512) (i % 512 - 256) few (omega arith) in omega (arith, m)

-- what was read of the banks
pub read_places : (r : Region) (banks halves : List ℕ) → length banks ≡ 8192 → IsRead r 0 banks → ((i : ℕ) → i < 16384 → slice_index halves i ≡ slice_index banks (place i)) → (i : ℕ) → i < 16384 → slice_index halves i ≡ r.byte (place i)
read_places r banks halves size read same i h = let most = place_most i h in same i h ∙ read (place i) (omega (arith, size, most)) ∙ ap r.byte (zero-add (place i))

-- one more of them
pub one_more : (xs : List ℕ) (f : ℕ → ℕ) (i x : ℕ) → i < length xs → x ≡ f i → ((k : ℕ) → k < i → slice_index xs k ≡ f k) → (k : ℕ) → k < i + 1 → slice_index (set xs i x) k ≡ f k
one_more xs f i x within here so k h = by (k == i) refl where
  by : (b : Bool) → (k == i) ≡ b → slice_index (set xs i x) k ≡ f k
  by true e = let is : k ≡ i = grind (arith, e) in ap (slice_index (set xs i x)) is ∙ get_or-set_same xs i x 0 within ∙ here ∙ ap f (sym is)
  by false e =
      let ne : k ≡ i → ⊥ = λ same. absurd (grind (arith, e, same)) in
      get_or-set_other xs i k x 0 ne ∙ so k (less ne) where
        less : (k ≡ i → ⊥) → k < i
        less ne = omega (arith, ne, h)

-- what a region means, by its halves

clock_is : (region : ℕ → ℕ) (halves : List ℕ) (two : Bool) → two ≡ is_format2 region → AreHalves halves region → clock_by two halves ≡ region_clock region
clock_is region halves true e are = ap (λ b. if b then Some 0 else counting_clock (half1 region 0 First) (half1 region 0 Second)) e
clock_is region halves false e are =
    let first : half2 (with_halves halves) 0 First ≡ half1 region 0 First = are.each 0 First (omega arith) ∙ half_in1 region 0 First (sym e) in
    let second : half2 (with_halves halves) 0 Second ≡ half1 region 0 Second = are.each 0 Second (omega arith) ∙ half_in1 region 0 Second (sym e) in
    (λ j. counting_clock (first j) (second j)) ∙ ap (λ b. if b then Some 0 else counting_clock (half1 region 0 First) (half1 region 0 Second)) e

pub recovered_as : (counts : List ℕ) (region : ℕ → ℕ) (halves : List ℕ) (two : Bool) → two ≡ is_format2 region → AreHalves halves region
    → book_in counts (clock_by two halves) (entry slot4_of (with_halves halves)) (entry slot6_of (with_halves halves)) ≡ recovered counts region
unfolding recovered
recovered_as counts region halves two e are =
    ap (λ b. book_in counts b (entry slot4_of (with_halves halves)) (entry slot6_of (with_halves halves))) (clock_is region halves two e are)
    ∙ book_alike counts (region_clock region) (entry slot4_of region) (entry slot4_of (with_halves halves)) (entry slot6_of region) (entry slot6_of (with_halves halves)) (entry_as slot4_of) (entry_as slot6_of) where
      entry_as : {A : Type 0} → (read : (ℕ → ℕ) → Option A) (s : ℕ) → s < 32 → entry read (with_halves halves) s ≡ entry read region s
      entry_as read s few = let a = are.each s First few in let b = are.each s Second few in λ j. entry_of read (a j) (b j)

-- in format 2
pub meant2 : (counts : List ℕ) (halves : List ℕ) (two : Bool) (slots : Slots) → two ≡ true → book_in counts (clock_by two halves) (entry slot4_of (with_halves halves)) (entry slot6_of (with_halves halves)) ≡ Some slots
    → recovered2 counts (with_halves halves) ≡ Some slots
unfolding recovered2
meant2 counts halves two slots e is = ap (λ b. book_in counts (clock_by b halves) (entry slot4_of (with_halves halves)) (entry slot6_of (with_halves halves))) (sym e) ∙ is

pub counted_as : (region : ℕ → ℕ) (halves : List ℕ) → is_format2 region ≡ true → AreHalves halves region → (s : ℕ) (mark : Mark) → s < 32 → IsMark (with_halves halves) s mark → IsMark region s mark
counted_as region halves two are s mark few m =
    let a : half2 (with_halves halves) s mark.half ≡ half2 region s mark.half = are.each s mark.half few ∙ half_in2 region s mark.half two in
    let b : half2 (with_halves halves) s (other mark.half) ≡ half2 region s (other mark.half) = are.each s (other mark.half) few ∙ half_in2 region s (other mark.half) two in
    record {
      counting = (λ j. is_counting (sym a j) (sym b j)) ∙ m.counting;
      sequence = m.sequence ∙ ap sequence a;
      other_open = m.other_open ∙ ap is_open b;
    }

module _ {A : Type 0} (read : (ℕ → ℕ) → Option A) (own opposite : ℕ → ℕ) where
  pub entry_first : (f g : ℕ → ℕ) → f ≡ own → g ≡ opposite → true ≡ is_counting f g → held read f ≡ entry_of read own opposite
  entry_first f g e h p =
      ap (held read) e ∙ sym (first_of (is_counting own opposite) (is_counting opposite own) (held read own) (held read opposite) None (sym (p ∙ (λ j. is_counting (e j) (h j)))))

  pub entry_second : (f g : ℕ → ℕ) → f ≡ own → g ≡ opposite → false ≡ is_counting f g → true ≡ is_counting g f → held read g ≡ entry_of read own opposite
  entry_second f g e h p q =
      ap (held read) h ∙ sym (second_of (is_counting own opposite) (is_counting opposite own) (held read own) (held read opposite) None (sym (p ∙ (λ j. is_counting (e j) (h j)))) (sym (q ∙ (λ j. is_counting (h j) (e j)))))

  pub entry_none : (f g : ℕ → ℕ) → f ≡ own → g ≡ opposite → false ≡ is_counting f g → false ≡ is_counting g f → None ≡ entry_of read own opposite
  entry_none f g e h p q =
      sym (neither_of (is_counting own opposite) (is_counting opposite own) (held read own) (held read opposite) None (sym (p ∙ (λ j. is_counting (e j) (h j)))) (sym (q ∙ (λ j. is_counting (h j) (e j)))))

-- the clock of what counts

abbrev pub clock_if : ℕ → Option ℕ
clock_if n = if nat_le n last_clock then Some n else None

pub clock_new : (o : Option ℕ) (n : ℕ) → (IsSome o ↔ (n ≤ 1099511627775)) → IfSome o (λ m. m ≡ n) → o ≡ (if nat_le n last_clock then Some n else None)
clock_new (Some m) n within is =
    let most : n ≤ 1099511627775 = within.0 refl in
    let fits : nat_le n last_clock ≡ true = grind (arith, most) in
    ap Some is ∙ sym (ap (λ b. if b then Some n else None) fits)
clock_new None n within is = by (nat_le n last_clock) refl where
  by : (b : Bool) → nat_le n last_clock ≡ b → None ≡ (if b then Some n else None)
  by true e = absurd (let there = within.1 (grind (arith, e)) in cc)
  by false e = refl

module _ (own opposite : ℕ → ℕ) where
  pub clock_first : (f g : ℕ → ℕ) → f ≡ own → g ≡ opposite → true ≡ is_counting f g → clock_within f ≡ counting_clock own opposite
  clock_first f g e h p =
      ap clock_within e ∙ sym (first_of (is_counting own opposite) (is_counting opposite own) (clock_within own) (clock_within opposite) None (sym (p ∙ (λ j. is_counting (e j) (h j)))))

  pub clock_second : (f g : ℕ → ℕ) → f ≡ own → g ≡ opposite → false ≡ is_counting f g → true ≡ is_counting g f → clock_within g ≡ counting_clock own opposite
  clock_second f g e h p q =
      ap clock_within h ∙ sym (second_of (is_counting own opposite) (is_counting opposite own) (clock_within own) (clock_within opposite) None (sym (p ∙ (λ j. is_counting (e j) (h j)))) (sym (q ∙ (λ j. is_counting (h j) (e j)))))

  pub clock_none : (f g : ℕ → ℕ) → f ≡ own → g ≡ opposite → false ≡ is_counting f g → false ≡ is_counting g f → None ≡ counting_clock own opposite
  clock_none f g e h p q =
      sym (neither_of (is_counting own opposite) (is_counting opposite own) (clock_within own) (clock_within opposite) None (sym (p ∙ (λ j. is_counting (e j) (h j)))) (sym (q ∙ (λ j. is_counting (h j) (e j)))))

-- A region of format 1

gates_closed : (own opposite : ℕ → ℕ) → is_open own ≡ false → is_open opposite ≡ false → counting_clock own opposite ≡ None
gates_closed own opposite a b = λ j.
    if (a j && nat_le (sequence own) 2) && (not (b j) || ((b j && nat_le (sequence opposite) 2) && sequence own == next (sequence opposite))) then clock_within own
    else if (b j && nat_le (sequence opposite) 2) && (not (a j) || ((a j && nat_le (sequence own) 2) && sequence opposite == next (sequence own))) then clock_within opposite
    else None

-- with both banks closed it is damaged
pub no_bank : (counts : List ℕ) (region : ℕ → ℕ) → is_format2 region ≡ false → (region 0 == 165) ≡ false → (region 4096 == 165) ≡ false → recovered counts region ≡ None
unfolding recovered
no_bank counts region one first second =
    ap (λ b. book_in counts b (entry slot4_of region) (entry slot6_of region))
    (ap (λ b. if b then Some 0 else counting_clock (half1 region 0 First) (half1 region 0 Second)) one ∙ gates_closed (half1 region 0 First) (half1 region 0 Second) first second)

bank_most : (h : Half) (s i : ℕ) → s < 32 → i < 256 → bank_at h + bank_place s i < 8192
bank_most First s i few l = let m = bank_place_most s i few l in omega (arith, m)
bank_most Second s i few l = let m = bank_place_most s i few l in omega (arith, m)

in_banks : (f g : ℕ → ℕ) (s : ℕ) (h : Half) → ((i : ℕ) → i < 8192 → g i ≡ f i) → s < 32 → (i : ℕ) (b : Bool) → nat_lt i 256 ≡ b
    → (if b then g (bank_at h + bank_place s i) else 0) ≡ (if b then f (bank_at h + bank_place s i) else 0)
in_banks f g s h same few i true e = same (bank_at h + bank_place s i) (bank_most h s i few (grind (arith, e)))
in_banks f g s h same few i false e = refl

same_bank : (f g : ℕ → ℕ) (s : ℕ) (h : Half) → ((i : ℕ) → i < 8192 → g i ≡ f i) → s < 32 → half1 g s h ≡ half1 f s h
same_bank f g s h same few = λ j. λ i. in_banks f g s h same few i (nat_lt i 256) refl j

-- its banks decide
pub same_banks : (counts : List ℕ) (f g : ℕ → ℕ) → is_format2 f ≡ false → is_format2 g ≡ false → ((i : ℕ) → i < 8192 → g i ≡ f i) → recovered counts g ≡ recovered counts f
unfolding recovered
same_banks counts f g e h same =
    ap (λ b. book_in counts b (entry slot4_of g) (entry slot6_of g)) (ap (clock_if g) h ∙ (λ j. counting_clock (first j) (second j)) ∙ sym (ap (clock_if f) e))
    ∙ book_alike counts (region_clock f) (entry slot4_of f) (entry slot4_of g) (entry slot6_of f) (entry slot6_of g) (entry_as slot4_of) (entry_as slot6_of) where
      clock_if : (ℕ → ℕ) → Bool → Option ℕ
      clock_if region b = if b then Some 0 else counting_clock (half1 region 0 First) (half1 region 0 Second)

      first : half1 g 0 First ≡ half1 f 0 First
      first = same_bank f g 0 First same (omega arith)

      second : half1 g 0 Second ≡ half1 f 0 Second
      second = same_bank f g 0 Second same (omega arith)

      alike : (s : ℕ) (k : Half) → s < 32 → half g s k ≡ half f s k
      alike s k few = half_in1 g s k h ∙ same_bank f g s k same few ∙ sym (half_in1 f s k e)

      entry_as : {A : Type 0} → (read : (ℕ → ℕ) → Option A) (s : ℕ) → s < 32 → entry read g s ≡ entry read f s
      entry_as read s few = let a = alike s First few in let b = alike s Second few in λ j. entry_of read (a j) (b j)

pub not_two : (n : ℕ) → (n ≡ 2 → ⊥) → (n == 2) ≡ false
not_two n ne = by (n == 2) refl where
  by : (b : Bool) → (n == 2) ≡ b → b ≡ false
  by true e = absurd (ne (grind (arith, e)))
  by false e = refl

-- the halves of all slots, in the bytes of a region
pub halves_among : (bytes : List ℕ) (i : ℕ) → i < length (take 16384 (drop 16384 bytes)) → slice_index (take 16384 (drop 16384 bytes)) i ≡ slice_index bytes (16384 + i)
halves_among bytes i h = get_or-take 16384 (drop 16384 bytes) i 0 (omega (arith, h, length-take {A = ℕ})) ∙ get_or-drop 16384 bytes i 0
