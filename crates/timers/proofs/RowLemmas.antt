-- Rows of numbers, and the least of each.
use Rattle.std.proofs.Common.{◌≡◌, ◌≢◌, ℕ, ◌+◌, ◌-◌, ◌*◌, ◌/◌, ◌<◌, ◌≤◌, List, length, get_or, take, drop, set, replicate, ap, sym, subst, ◌∙◌, arith, inl, inr, get_or-drop, length-drop}
use Rattle.std.specs.Prelude.{min, SomeIndex}
use Rattle.std.specs.Int.{div_ceil}
use Rattle.std.proofs.lemmas.Bool.{cases_eq, cases_lt}
use Rattle.std.proofs.lemmas.List.{get_or-take, length-take, get_or-replicate, get_or-set_same, get_or-set_other, drop-set-lt, drop-set-add, take-set-le}
use Rattle.std.proofs.Math.ListN.{length-set, length-replicate}
use Rattle.timers.specs.Rows.{row_of, IsLeast, AreRows}
use Rattle.timers.specs.declared.rows.TheConstants.{ROW}

-- ---- one row

get_or-row : (numbers : List ℕ) (k i : ℕ) → i < ROW → get_or (row_of numbers k) i 0 ≡ get_or numbers (ROW * k + i) 0
get_or-row numbers k i low = get_or-take ROW (drop (ROW * k) numbers) i 0 low ∙ get_or-drop (ROW * k) numbers i 0

length-row : (numbers : List ℕ) (k : ℕ) → length (row_of numbers k) ≡ min ROW (length numbers - ROW * k)
length-row numbers k = length-take ROW (drop (ROW * k) numbers) ∙ ap (min ROW) (length-drop (ROW * k) numbers)

-- a number of a row, among all numbers
in_row : (numbers : List ℕ) (k i : ℕ) → i < length (row_of numbers k) → (ROW * k + i < length numbers) × (get_or (row_of numbers k) i 0 ≡ get_or numbers (ROW * k + i) 0)
in_row numbers k i low =
    let count = length-row numbers k in
    (omega arith, get_or-row numbers k i (omega arith))

-- a loop over numbers has the least of them up to a place
pub record IsLeastUpTo (bound : ℕ) (numbers : List ℕ) (least : ℕ) : Type 0 where
  pub each : (i : ℕ) → i < bound → least ≤ get_or numbers i 0
  pub one : SomeIndex numbers (λ i. get_or numbers i 0 ≡ least)

pub least_more : (bound : ℕ) (numbers : List ℕ) (least number : ℕ) → bound < length numbers → get_or numbers bound 0 ≡ number → IsLeastUpTo bound numbers least → IsLeastUpTo (bound + 1) numbers (min least number)
least_more bound numbers least number low here up_to = record {
  each = λ i within. elim (cases_eq i bound) [
    | inl last ↦ let same = ap (λ j. get_or numbers j 0) last in omega arith
    | inr earlier ↦ omega (arith, up_to.each i (omega arith))
  ];
  one = elim (cases_lt number least) [
    | inl below ↦ (bound, low, omega arith)
    | inr not_below ↦ (up_to.one.0, up_to.one.1, omega (arith, up_to.one.2))
  ];
}

-- ---- all rows

-- each number is in a row that there is
row_there : (numbers least : List ℕ) → AreRows numbers least → (i : ℕ) → i < length numbers → i / ROW < length least
row_there numbers least rows i low = let count = rows.count in omega arith

-- and at least the least of it
row_below : (numbers least : List ℕ) → AreRows numbers least → (i : ℕ) → i < length numbers → get_or least (i / ROW) 0 ≤ get_or numbers i 0
row_below numbers least rows i low =
    let j = i - ROW * (i / ROW) in
    let within : j < ROW = omega arith in
    let of_row = (rows.each (i / ROW) (row_there numbers least rows i low)).each j (let count = length-row numbers (i / ROW) in omega arith) in
    let same : get_or numbers (ROW * (i / ROW) + j) 0 ≡ get_or numbers i 0 = ap (λ m. get_or numbers m 0) (omega arith) in
    omega (arith, of_row, get_or-row numbers (i / ROW) j within, same)

-- `value` is what shows of the numbers
module _ {numbers least value : List ℕ} (rows : AreRows numbers least) (view : numbers ≡ value) where
  pub least_there : (i : ℕ) → i < length value → i / ROW < length least
  least_there i low = let long = ap length view in row_there numbers least rows i (omega arith)

  pub least_at_most : (i : ℕ) → i < length value → get_or least (i / ROW) 0 ≤ get_or value i 0
  least_at_most i low =
      let long = ap length view in
      let same = ap (λ n. get_or n i 0) view in
      omega (arith, row_below numbers least rows i (omega arith))

-- `part` is row k, cut from a slice of the numbers
module _ {numbers lent part : List ℕ} (k : ℕ) (same : lent ≡ numbers) (cut : part ≡ row_of lent k) where
  -- the least of the row is in it
  pub among_row : (least : List ℕ) (lowest : ℕ) → AreRows numbers least → k < length least → lowest ≡ get_or least k 0 → SomeIndex part (λ i. get_or part i 0 ≡ lowest)
  among_row least lowest rows low is_lowest =
      let P : List ℕ → Type 0 = λ p. SomeIndex p (λ i. get_or p i 0 ≡ lowest) in
      let one = (rows.each k low).one in
      subst P (sym (cut ∙ ap (λ n. row_of n k) same)) (one.0, one.1, one.2 ∙ sym is_lowest)

  -- a place in the row, among the numbers that show
  pub place_shown : {value : List ℕ} → numbers ≡ value → (i : ℕ) → i < length part → (ROW * k + i < length value) × (get_or value (ROW * k + i) 0 ≡ get_or part i 0)
  place_shown {value} view i low =
      let whole : part ≡ row_of value k = cut ∙ ap (λ n. row_of n k) (same ∙ view) in
      let long = ap length whole in
      let there = in_row value k i (omega arith) in
      (there.0, sym (ap (λ p. get_or p i 0) whole ∙ there.1))

-- ---- all numbers the same

rows_at_first : (count number : ℕ) → AreRows (replicate count number) (replicate (div_ceil count ROW) number)
rows_at_first count number =
    let numbers = replicate count number in
    let least = replicate (div_ceil count ROW) number in
    let long = length-replicate count number in
    let many = length-replicate (div_ceil count ROW) number in
    record {
      count = omega arith;
      each = λ k low.
          let length_of_row = length-row numbers k in
          let of_row : (i : ℕ) → i < length (row_of numbers k) → get_or (row_of numbers k) i 0 ≡ number =
          λ i within. let there = in_row numbers k i within in there.1 ∙ get_or-replicate count (ROW * k + i) number 0 (omega (arith, there.0)) in
          let is_least : IsLeast (row_of numbers k) number = record {
            each = λ i within. omega (arith, of_row i within);
            one = (0, omega arith, of_row 0 (omega arith));
          } in
          subst (λ (n : ℕ). IsLeast (row_of numbers k) n) (sym (get_or-replicate (div_ceil count ROW) k number 0 (omega arith))) is_least;
    }

-- as `new` does it
pub rows_made : (numbers least : List ℕ) (count number many : ℕ) → numbers ≡ replicate count number → many ≡ div_ceil count ROW → least ≡ replicate many number → AreRows numbers least
rows_made numbers least count number many all rows made =
    let P : ℕ → Type 0 = λ m. AreRows (replicate count number) (replicate m number) in
    subst (λ (n : List ℕ). AreRows n least) (sym all) (subst (AreRows (replicate count number)) (sym made) (subst P (sym rows) (rows_at_first count number)))

-- ---- a number written

other_row : (numbers : List ℕ) (i k number : ℕ) → k ≢ i / ROW → row_of (set numbers i number) k ≡ row_of numbers k
other_row numbers i k number other = elim (cases_lt i (ROW * k)) [
  | inl before ↦ ap (take ROW) (drop-set-lt (ROW * k) numbers i number before)
  | inr behind ↦
      let j = i - ROW * k in
      let place : i ≡ ROW * k + j = omega arith in
      ap (λ m. row_of (set numbers m number) k) place
      ∙ ap (take ROW) (drop-set-add (ROW * k) numbers j number)
      ∙ take-set-le ROW (drop (ROW * k) numbers) j number (omega arith)
]

rows_renewed : (numbers least : List ℕ) (i number lowest : ℕ) → AreRows numbers least → i < length numbers → IsLeast (row_of (set numbers i number) (i / ROW)) lowest → AreRows (set numbers i number) (set least (i / ROW) lowest)
rows_renewed numbers least i number lowest rows low is_least =
    let written = set numbers i number in
    let long = length-set numbers i number in
    let many = length-set least (i / ROW) lowest in
    let there = row_there numbers least rows i low in
    let count = rows.count in
    record {
      count = omega arith;
      each = λ k within. elim (cases_eq k (i / ROW)) [
        | inl same ↦
            let P : ℕ → Type 0 = λ m. IsLeast (row_of written m) (get_or (set least (i / ROW) lowest) m 0) in
            let here : IsLeast (row_of written (i / ROW)) (get_or (set least (i / ROW) lowest) (i / ROW) 0) =
            subst (IsLeast (row_of written (i / ROW))) (sym (get_or-set_same least (i / ROW) lowest 0 there)) is_least in
            subst P (sym same) here
        | inr other ↦
            let P : List ℕ → Type 0 = λ r. IsLeast r (get_or least k 0) in
            let row : IsLeast (row_of written k) (get_or least k 0) = subst P (sym (other_row numbers i k number other)) (rows.each k (omega arith)) in
            subst (IsLeast (row_of written k)) (sym (get_or-set_other least (i / ROW) k lowest 0 other)) row
      ];
    }

-- as `set` does it: `value` is what showed before, `lent` the slice after the write, `part` the row of it
pub rows_after_write : (numbers least value lent part renewed : List ℕ) (i number lowest : ℕ) → AreRows numbers least → numbers ≡ value → i < length value
    → lent ≡ set numbers i number → part ≡ row_of lent (i / ROW) → IsLeast part lowest → renewed ≡ set least (i / ROW) lowest → AreRows (set numbers i number) renewed
rows_after_write numbers least value lent part renewed i number lowest rows view low write cut is_least renew =
    let long = ap length view in
    let P : List ℕ → Type 0 = λ p. IsLeast p lowest in
    let row : IsLeast (row_of (set numbers i number) (i / ROW)) lowest = subst P (cut ∙ ap (λ l. row_of l (i / ROW)) write) is_least in
    subst (AreRows (set numbers i number)) (sym renew) (rows_renewed numbers least i number lowest rows (omega arith) row)
