-- A region that was moved from format 1.
use Rattle.std.proofs.Common.{◌≡◌, ◌⊎◌, inl, inr, ℕ, ◌+◌, ◌-◌, ◌*◌, ◌<◌, ◌≤◌, Bool, true, false, suc, zero, List, [], ◌∷◌, length, get_or, slice_index, zero-add, Option, Some, None, refl, sym, ap, subst, ◌∙◌, arith}
use Rattle.std.specs.Prelude.{◌/◌, ◌%◌, ◌==◌, ◌&&◌, ◌||◌, nat_le, nat_lt, not, max, slice_index_or, if◌then◌else◌}
use Rattle.std.proofs.lemmas.List.{ext_get_or, get_or_past, length-map}
use Rattle.types.specs.declared.slot4.Slot4.{Slot4}
use Rattle.types.specs.declared.slot4.Slot4.TheVariants as S4
use Rattle.types.specs.declared.slot6.Slot6.{Slot6}
use Rattle.types.specs.declared.slot6.Slot6.TheVariants as S6
use Rattle.types.specs.declared.slots.Slots.{Slots}
use Rattle.types.specs.Slots.{live4, live6}
use Rattle.lease_disk.specs.declared.content.Content.TheVariants.{Four, Six}
use Rattle.lease_disk.specs.declared.entry.Entry.{Entry}
use Rattle.lease_disk.specs.declared.half.Half.TheVariants.{First, Second}
use Rattle.lease_disk.specs.Book.{IsBook}
use Rattle.lease_disk.specs.HalfBytes.{half_bytes}
use Rattle.lease_disk.specs.Keys.{HasKey}
use Rattle.lease_disk.specs.Layout.{half2, is_format2}
use Rattle.lease_disk.specs.Moving.{HasAddress, content_at, moved_half}
use Rattle.lease_disk.specs.Region.{is_within}
use Rattle.lease_disk.specs.Recovered.{is_open, sequence, is_valid, next, is_counting, last_clock, slot4_of, slot6_of, saved_at, held, entry_of, all_from, latest, contents_at, recovered}
use Rattle.lease_disk.proofs.Books.{get_or_in}
use Rattle.lease_disk.proofs.Entries.{book_by}
use Rattle.lease_disk.proofs.Halves.{as_format2, entry2, recovered2, first_of}
use Rattle.lease_disk.proofs.ReadBack.{held4, held6}
use Rattle.lease_disk.proofs.Steps.{first_byte, fourth_byte}

-- Lists by a function

abbrev build : {A : Type 0} → (ℕ → A) → ℕ → ℕ → List A
build g i zero = []
build g i (suc n) = g i ∷ build g (suc i) n

build_size : {A : Type 0} → (g : ℕ → A) (i n : ℕ) → length (build g i n) ≡ n
build_size g i zero = refl
build_size g i (suc n) = ap suc (build_size g (suc i) n)

build_at : {A : Type 0} → (g : ℕ → A) (i n k : ℕ) (d : A) → k < n → get_or (build g i n) k d ≡ g (i + k)
build_at g i zero k d h = absurd (omega arith)
build_at g i (suc n) zero d h = let at : i ≡ i + 0 = omega arith in ap g at
build_at g i (suc n) (suc k) d h = let at : suc i + k ≡ i + suc k = omega arith in build_at g (suc i) n k d (omega arith) ∙ ap g at

all_built : {A : Type 0} → (read : ℕ → Option A) (g : ℕ → A) (i n : ℕ) → ((j : ℕ) → i ≤ j → j < i + n → read j ≡ Some (g j)) → all_from read i n ≡ Some (build g i n)
all_built read g i zero h = refl
all_built read g i (suc n) h =
    let a = h i (omega arith) (omega arith) in
    let b = all_built read g (suc i) n (λ j k l. h j (omega arith) (omega arith)) in
    rw (a, b) refl

most_of : (a b t : ℕ) → a ≤ t → b ≤ t → max a b ≤ t
most_of a b t h k = grind (arith, h, k)

least_of : (a b t : ℕ) → t ≤ a → t ≤ max a b
least_of a b t h = grind (arith, h)

zero_least : (t : ℕ) → 0 ≤ t
zero_least t = omega arith

latest_most : {A : Type 0} → (g : ℕ → Entry A) (t i n : ℕ) → ((j : ℕ) → (g j).clock ≤ t) → latest (build g i n) ≤ t
latest_most g t i zero h = zero_least t
latest_most g t i (suc n) h = most_of (g i).clock (latest (build g (suc i) n)) t (h i) (latest_most g t (suc i) n h)

max_either : (a b t : ℕ) → a ≤ t → b ≤ t → (t ≤ a) ⊎ (t ≤ b) → max a b ≡ t
max_either a b t h k (inl l) = grind (arith, h, k, l)
max_either a b t h k (inr l) = grind (arith, h, k, l)

either_read : {A : Type 0} → (b : Bool) (o : Option A) (x y : A) → o ≡ Some x → (if b then o else Some y) ≡ Some (if b then x else y)
either_read true o x y e = e
either_read false o x y e = refl

either_clock : {A : Type 0} → (b : Bool) (t : ℕ) (x y : A) → (if b then saved_at t x else saved_at 0 y).clock ≤ t
either_clock true t x y = omega arith
either_clock false t x y = omega arith

below : (i n : ℕ) → i < n → nat_lt i n ≡ true
below i n h = grind (arith, h)

not_below : (i n : ℕ) → nat_lt i n ≡ false → n ≤ i
not_below i n e = grind (arith, e)

-- A slot whose first half alone is open

counts_alone : (h : ℕ → ℕ) → h 0 ≡ 165 → h 3 ≡ 0 → is_counting h (λ i. 0) ≡ true
counts_alone h a b =
    let valid : is_valid h ≡ true = λ j. (a j == 165) && nat_le (b j) 2 in
    ap (λ v. v && (not (is_open (λ i. 0)) || (is_valid (λ i. 0) && sequence h == next (sequence (λ i. 0))))) valid

alone : {A : Type 0} → (read : (ℕ → ℕ) → Option A) (h : ℕ → ℕ) → h 0 ≡ 165 → h 3 ≡ 0 → entry_of read h (λ i. 0) ≡ held read h
alone read h a b = first_of (is_counting h (λ i. 0)) (is_counting (λ i. 0) h) (held read h) (held read (λ i. 0)) None (counts_alone h a b)

-- what was written of the slots is what is recovered
module _ (counts : List ℕ) (slots : Slots) (book : IsBook counts slots) (size4 : length slots.four ≡ 16) (size6 : length slots.six ≡ 16)
    (keys : (s : ℕ) → s < 32 → HasKey (content_at slots s)) (whole : (s : ℕ) → s < 32 → length (half_bytes 0 slots.clock (content_at slots s)) ≡ 256) (small : slots.clock ≤ last_clock)
    (f : ℕ → ℕ) (two : is_format2 f ≡ true) (bytes : (i : ℕ) → i < 16384 → f (16384 + i) ≡ moved_half slots i) where
  half_in : (m d s i : ℕ) → m ≡ i → d ≡ s → i < 256 → (if nat_lt m 256 then slice_index (half_bytes 0 slots.clock (content_at slots d)) m else 0) ≡ slice_index (half_bytes 0 slots.clock (content_at slots s)) i
  half_in m d s i e g l =
      (λ j. if nat_lt (e j) 256 then slice_index (half_bytes 0 slots.clock (content_at slots (g j))) (e j) else 0)
      ∙ ap (λ b. if b then slice_index (half_bytes 0 slots.clock (content_at slots s)) i else 0) (below i 256 l)

  first_byte_at : (s i : ℕ) (b : Bool) → s < 32 → nat_lt i 256 ≡ b → (if b then f (16384 + 512 * s + i) else 0) ≡ slice_index (half_bytes 0 slots.clock (content_at slots s)) i
  first_byte_at s i true few e =
      let l : i < 256 = grind (arith, e) in
      let at : 16384 + 512 * s + i ≡ 16384 + (512 * s + i) = omega arith in
      ap f at ∙ bytes (512 * s + i) (omega (arith, few, l)) ∙ half_in ((512 * s + i) % 512) ((512 * s + i) / 512) s i (omega arith) (omega arith) l
  first_byte_at s i false few e =
      let k : 256 ≤ i = not_below i 256 e in
      let size = whole s few in
      sym (get_or_past (half_bytes 0 slots.clock (content_at slots s)) i 0 (omega (arith, size, k)))

  none_in : (m : ℕ) (x : ℕ) → 256 ≤ m → (if nat_lt m 256 then x else 0) ≡ 0
  none_in m x h = let many : nat_lt m 256 ≡ false = grind (arith, h) in ap (λ b. if b then x else 0) many

  second_byte_at : (s i : ℕ) (b : Bool) → s < 32 → nat_lt i 256 ≡ b → (if b then f (16640 + 512 * s + i) else 0) ≡ 0
  second_byte_at s i true few e =
      let l : i < 256 = grind (arith, e) in
      let at : 16640 + 512 * s + i ≡ 16384 + (256 + 512 * s + i) = omega arith in
      ap f at ∙ bytes (256 + 512 * s + i) (omega (arith, few, l)) ∙ none_in ((256 + 512 * s + i) % 512) _ (omega arith)
  second_byte_at s i false few e = refl

  first_is : (s : ℕ) → s < 32 → half2 f s First ≡ slice_index (half_bytes 0 slots.clock (content_at slots s))
  first_is s few = λ j. λ i. first_byte_at s i (nat_lt i 256) few refl j

  second_is : (s : ℕ) → s < 32 → half2 f s Second ≡ (λ i. 0)
  second_is s few = λ j. λ i. second_byte_at s i (nat_lt i 256) few refl j

  entry_is : {A : Type 0} → (read : (ℕ → ℕ) → Option A) (s : ℕ) → s < 32 → entry2 read f s ≡ held read (slice_index (half_bytes 0 slots.clock (content_at slots s)))
  entry_is read s few =
      (λ j. entry_of read (first_is s few j) (second_is s few j))
      ∙ alone read (slice_index (half_bytes 0 slots.clock (content_at slots s))) (first_byte 0 slots.clock (content_at slots s)) (fourth_byte 0 slots.clock (content_at slots s))

  abbrev four_at : ℕ → Slot4
  four_at i = slice_index_or slots.four i S4.Free

  abbrev six_at : ℕ → Slot6
  six_at i = slice_index_or slots.six i S6.Free

  content4 : (i : ℕ) → i < 16 → content_at slots i ≡ Four (four_at i)
  content4 i few = ap (λ b. if b then Four (slice_index_or slots.four i S4.Free) else Six (slice_index_or slots.six (i - 16) S6.Free)) (below i 16 few)

  content6 : (i : ℕ) → i < 16 → content_at slots (16 + i) ≡ Six (six_at i)
  content6 i few =
      let many : nat_lt (16 + i) 16 ≡ false = grind arith in
      let back : 16 + i - 16 ≡ i = omega arith in
      ap (λ b. if b then Four (slice_index_or slots.four (16 + i) S4.Free) else Six (slice_index_or slots.six (16 + i - 16) S6.Free)) many ∙ ap (λ k. Six (slice_index_or slots.six k S6.Free)) back

  entry4 : (i : ℕ) → i < 16 → entry2 slot4_of f i ≡ Some (saved_at slots.clock (four_at i))
  entry4 i few =
      entry_is slot4_of i (omega (arith, few)) ∙ ap (λ c. held slot4_of (slice_index (half_bytes 0 slots.clock c))) (content4 i few)
      ∙ held4 (four_at i) 0 slots.clock small (subst HasKey (content4 i few) (keys i (omega (arith, few)))) (book.within4 i S4.Free (omega (arith, size4, few)))

  entry6 : (i : ℕ) → i < 16 → entry2 slot6_of f (16 + i) ≡ Some (saved_at slots.clock (six_at i))
  entry6 i few =
      entry_is slot6_of (16 + i) (omega (arith, few)) ∙ ap (λ c. held slot6_of (slice_index (half_bytes 0 slots.clock c))) (content6 i few)
      ∙ held6 (six_at i) 0 slots.clock small (subst HasKey (content6 i few) (keys (16 + i) (omega (arith, few)))) (book.within6 i S6.Free (omega (arith, size6, few)))

  abbrev g4 : ℕ → Entry Slot4
  g4 i = if nat_lt i (slice_index counts 0) then saved_at slots.clock (four_at i) else saved_at 0 S4.Free

  abbrev g6 : ℕ → Entry Slot6
  g6 i = if nat_lt i (slice_index counts 1) then saved_at slots.clock (six_at i) else saved_at 0 S6.Free

  has_clock : HasAddress counts → (slots.clock ≤ latest (build g4 0 16)) ⊎ (slots.clock ≤ latest (build g6 0 16))
  has_clock (inl some) =
      let first : (g4 0).clock ≡ slots.clock = ap (λ b. (if b then saved_at slots.clock (four_at 0) else saved_at 0 S4.Free).clock) (below 0 (slice_index counts 0) some) in
      inl (least_of (g4 0).clock (latest (build g4 1 15)) slots.clock (omega (arith, first)))
  has_clock (inr some) =
      let first : (g6 0).clock ≡ slots.clock = ap (λ b. (if b then saved_at slots.clock (six_at 0) else saved_at 0 S6.Free).clock) (below 0 (slice_index counts 1) some) in
      inr (least_of (g6 0).clock (latest (build g6 1 15)) slots.clock (omega (arith, first)))

  live_at4 : (k : ℕ) (b : Bool) → nat_lt k (slice_index counts 0) ≡ b → k < 16 → live4 slots.clock (if b then saved_at slots.clock (four_at k) else saved_at 0 S4.Free).content ≡ get_or slots.four k S4.Free
  live_at4 k true e few = book.live4 k S4.Free (omega (arith, size4, few))
  live_at4 k false e few = sym (book.past4 k (not_below k (slice_index counts 0) e))

  live_at6 : (k : ℕ) (b : Bool) → nat_lt k (slice_index counts 1) ≡ b → k < 16 → live6 slots.clock (if b then saved_at slots.clock (six_at k) else saved_at 0 S6.Free).content ≡ get_or slots.six k S6.Free
  live_at6 k true e few = book.live6 k S6.Free (omega (arith, size6, few))
  live_at6 k false e few = sym (book.past6 k (not_below k (slice_index counts 1) e))

  contents4 : contents_at live4 slots.clock (build g4 0 16) ≡ slots.four
  contents4 =
      let all : length (contents_at live4 slots.clock (build g4 0 16)) ≡ 16 = length-map (build g4 0 16) (λ e. live4 slots.clock e.content) ∙ build_size g4 0 16 in
      ext_get_or S4.Free (contents_at live4 slots.clock (build g4 0 16)) slots.four (all ∙ sym size4)
      (λ k h. let few : k < 16 = omega (arith, all, h) in
      get_or_in (λ e. live4 slots.clock e.content) (build g4 0 16) k S4.Free (saved_at 0 S4.Free) (let n = build_size g4 0 16 in omega (arith, few, n))
      ∙ ap (λ e. live4 slots.clock e.content) (build_at g4 0 16 k (saved_at 0 S4.Free) few ∙ ap g4 (zero-add k)) ∙ live_at4 k (nat_lt k (slice_index counts 0)) refl few)

  contents6 : contents_at live6 slots.clock (build g6 0 16) ≡ slots.six
  contents6 =
      let all : length (contents_at live6 slots.clock (build g6 0 16)) ≡ 16 = length-map (build g6 0 16) (λ e. live6 slots.clock e.content) ∙ build_size g6 0 16 in
      ext_get_or S6.Free (contents_at live6 slots.clock (build g6 0 16)) slots.six (all ∙ sym size6)
      (λ k h. let few : k < 16 = omega (arith, all, h) in
      get_or_in (λ e. live6 slots.clock e.content) (build g6 0 16) k S6.Free (saved_at 0 S6.Free) (let n = build_size g6 0 16 in omega (arith, few, n))
      ∙ ap (λ e. live6 slots.clock e.content) (build_at g6 0 16 k (saved_at 0 S6.Free) few ∙ ap g6 (zero-add k)) ∙ live_at6 k (nat_lt k (slice_index counts 1)) refl few)

  pub moved_book : HasAddress counts → recovered counts f ≡ Some slots
  unfolding recovered2
  moved_book some = as_format2 counts f two ∙ book_by counts (Some 0) (entry2 slot4_of f) (entry2 slot6_of f) slots (record {
    clock = 0;
    base_is = refl;
    entries4 = build g4 0 16;
    entries6 = build g6 0 16;
    four_are = all_built (λ i. if nat_lt i (slice_index counts 0) then entry2 slot4_of f i else Some (saved_at 0 S4.Free)) g4 0 16
        (λ j k l. either_read (nat_lt j (slice_index counts 0)) (entry2 slot4_of f j) (saved_at slots.clock (four_at j)) (saved_at 0 S4.Free) (entry4 j (omega (arith, l))));
    six_are = all_built (λ i. if nat_lt i (slice_index counts 1) then entry2 slot6_of f (16 + i) else Some (saved_at 0 S6.Free)) g6 0 16
        (λ j k l. either_read (nat_lt j (slice_index counts 1)) (entry2 slot6_of f (16 + j)) (saved_at slots.clock (six_at j)) (saved_at 0 S6.Free) (entry6 j (omega (arith, l))));
    has = record {
      clock_is = max_either (latest (build g4 0 16)) (latest (build g6 0 16)) slots.clock
          (latest_most g4 slots.clock 0 16 (λ j. either_clock (nat_lt j (slice_index counts 0)) slots.clock (four_at j) S4.Free))
          (latest_most g6 slots.clock 0 16 (λ j. either_clock (nat_lt j (slice_index counts 1)) slots.clock (six_at j) S6.Free)) (has_clock some);
      four_is = contents4;
      six_is = contents6;
      once4 = book.once4;
      once6 = book.once6;
    };
  })

-- Making the halves

-- those of the first slots
pub record AreFirst (slots : Slots) (n : ℕ) (halves : List ℕ) : Type 0 where
  pub size : length halves ≡ 16384
  pub bytes : (i : ℕ) → slice_index halves i ≡ (if nat_lt i (512 * n) then moved_half slots i else 0)
  pub keys : (s : ℕ) → s < n → HasKey (content_at slots s)
  pub whole : (s : ℕ) → s < n → length (half_bytes 0 slots.clock (content_at slots s)) ≡ 256
  pub small : 0 < n → slots.clock ≤ last_clock

-- one more
module _ (slots : Slots) (n : ℕ) (bytes : List ℕ) (is : bytes ≡ half_bytes 0 slots.clock (content_at slots n)) (size : length bytes ≡ 256) where
  in_slot : (m d i : ℕ) → m ≡ i - 512 * n → d ≡ n → i - 512 * n < 256 → slice_index bytes (i - 512 * n) ≡ (if nat_lt m 256 then slice_index (half_bytes 0 slots.clock (content_at slots d)) m else 0)
  in_slot m d i e g l =
      ap (λ xs. slice_index xs (i - 512 * n)) is ∙ sym (ap (λ b. if b then slice_index (half_bytes 0 slots.clock (content_at slots n)) (i - 512 * n) else 0) (below (i - 512 * n) 256 l))
      ∙ sym (λ j. if nat_lt (e j) 256 then slice_index (half_bytes 0 slots.clock (content_at slots (g j))) (e j) else 0)

  behind_slot : (m : ℕ) (x : ℕ) → 256 ≤ m → 0 ≡ (if nat_lt m 256 then x else 0)
  behind_slot m x h = let many : nat_lt m 256 ≡ false = grind (arith, h) in sym (ap (λ b. if b then x else 0) many)

  put_byte : (x i : ℕ) (b : Bool) → is_within (512 * n) 256 i ≡ b → x ≡ (if nat_lt i (512 * n) then moved_half slots i else 0)
      → (if b then slice_index bytes (i - 512 * n) else x) ≡ (if nat_lt i (512 * (n + 1)) then moved_half slots i else 0)
  put_byte x i true e was =
      let least : 512 * n ≤ i = grind (arith, e) in
      let most : i < 512 * n + 256 = grind (arith, e) in
      let now : nat_lt i (512 * (n + 1)) ≡ true = below i (512 * (n + 1)) (omega (arith, most)) in
      in_slot (i % 512) (i / 512) i (omega (arith, least, most)) (omega (arith, least, most)) (omega (arith, least, most)) ∙ sym (ap (λ b. if b then moved_half slots i else 0) now)
  put_byte x i false e was = was ∙ by (nat_lt i (512 * n)) refl (nat_lt i (512 * (n + 1))) refl where
    by : (c : Bool) → nat_lt i (512 * n) ≡ c → (d : Bool) → nat_lt i (512 * (n + 1)) ≡ d → (if c then moved_half slots i else 0) ≡ (if d then moved_half slots i else 0)
    by true g true h = refl
    by false g false h = refl
    by true g false h = absurd (grind (arith, g, h))
    by false g true h =
        let least : 512 * n + 256 ≤ i = grind (arith, e, g) in
        let most : i < 512 * (n + 1) = grind (arith, h) in
        behind_slot (i % 512) _ (omega (arith, least, most))

  pub first_more : (old new : List ℕ) → HasKey (content_at slots n) → slots.clock ≤ last_clock → AreFirst slots n old → length new ≡ length old
      → ((i : ℕ) → slice_index new i ≡ (if is_within (512 * n) (length bytes) i then slice_index bytes (i - 512 * n) else slice_index old i)) → AreFirst slots (n + 1) new
  first_more old new key small are same put = record {
    size = same ∙ are.size;
    bytes = λ i. put i ∙ ap (λ m. if is_within (512 * n) m i then slice_index bytes (i - 512 * n) else slice_index old i) size
        ∙ put_byte (slice_index old i) i (is_within (512 * n) 256 i) refl (are.bytes i);
    keys = λ s h. by_key s (s == n) refl h;
    whole = λ s h. by_size s (s == n) refl h;
    small = λ h. small;
  } where
    by_key : (s : ℕ) (b : Bool) → (s == n) ≡ b → s < n + 1 → HasKey (content_at slots s)
    by_key s true e h = let k : s ≡ n = grind (arith, e) in subst (λ t. HasKey (content_at slots t)) (sym k) key
    by_key s false e h = are.keys s (grind (arith, e, h))

    by_size : (s : ℕ) (b : Bool) → (s == n) ≡ b → s < n + 1 → length (half_bytes 0 slots.clock (content_at slots s)) ≡ 256
    by_size s true e h = let k : s ≡ n = grind (arith, e) in ap (λ t. length (half_bytes 0 slots.clock (content_at slots t))) k ∙ ap length (sym is) ∙ size
    by_size s false e h = are.whole s (grind (arith, e, h))

pub none_yet : (slots : Slots) (n : ℕ) (halves : List ℕ) → length halves ≡ 16384 → ((i : ℕ) → slice_index halves i ≡ (if nat_lt i n then 0 else 0)) → AreFirst slots 0 halves
none_yet slots n halves size zeros = record {
  size = size;
  bytes = λ i. zeros i ∙ same (nat_lt i n) ∙ sym (ap (λ b. if b then moved_half slots i else 0) (none i));
  keys = λ s h. absurd (omega arith);
  whole = λ s h. absurd (omega arith);
  small = λ h. absurd (omega arith);
} where
  same : (b : Bool) → ◌≡◌ {A = ℕ} (if b then 0 else 0) 0
  same true = refl
  same false = refl

  none : (i : ℕ) → nat_lt i (512 * 0) ≡ false
  none i = grind arith

pub all_first : (slots : Slots) (n : ℕ) (halves : List ℕ) → 32 ≤ n → AreFirst slots n halves → (i : ℕ) → i < 16384 → slice_index halves i ≡ moved_half slots i
all_first slots n halves end are i h = are.bytes i ∙ ap (λ b. if b then moved_half slots i else 0) (below i (512 * n) (omega (arith, end, h)))
