use Rattle.std.proofs.Common.{◌≡◌, ℕ, ◌<◌, ◌==◌, ◌||◌, if◌then◌else◌, Bool, true, false, List, [], ◌∷◌, length, map, suc, zero, slice_index, eq-eqb, subst, refl, ap, ap₂, ◌∙◌, arith}
use Rattle.std.specs.List.{list_any}
use Rattle.lease_disk.specs.Region.{effective}
use Rattle.batch_saves.specs.Batch.{first_of, is_sync_fault, is_write_fault, shared_fault}
use Rattle.batch_saves.proofs.laws.meets_each_fault.Goals as goal

-- the four kinds of a write's fault
by_write : (P : ℕ → Type 0) → P 0 → P 1 → P 3 → P 5 → (f : ℕ) → is_write_fault f ≡ true → P f
by_write P none one three five f is = by (f == 0) (f == 1) (f == 3) (f == 5) refl refl refl refl where
  by : (a b c d : Bool) → (f == 0) ≡ a → (f == 1) ≡ b → (f == 3) ≡ c → (f == 5) ≡ d → P f
  by true b c d e0 e1 e3 e5 = subst P (let k : 0 ≡ f = grind (arith, e0) in k) none
  by false true c d e0 e1 e3 e5 = subst P (let k : 1 ≡ f = grind (arith, e1) in k) one
  by false false true d e0 e1 e3 e5 = subst P (let k : 3 ≡ f = grind (arith, e3) in k) three
  by false false false true e0 e1 e3 e5 = subst P (let k : 5 ≡ f = grind (arith, e5) in k) five
  by false false false false e0 e1 e3 e5 = absurd (grind (arith, is, e0, e1, e3, e5))

by_sync : (P : ℕ → Type 0) → P 0 → P 2 → P 4 → P 6 → (f : ℕ) → is_sync_fault f ≡ true → P f
by_sync P none two four six f is = by (f == 0) (f == 2) (f == 4) (f == 6) refl refl refl refl where
  by : (a b c d : Bool) → (f == 0) ≡ a → (f == 2) ≡ b → (f == 4) ≡ c → (f == 6) ≡ d → P f
  by true b c d e0 e2 e4 e6 = subst P (let k : 0 ≡ f = grind (arith, e0) in k) none
  by false true c d e0 e2 e4 e6 = subst P (let k : 2 ≡ f = grind (arith, e2) in k) two
  by false false true d e0 e2 e4 e6 = subst P (let k : 4 ≡ f = grind (arith, e4) in k) four
  by false false false true e0 e2 e4 e6 = subst P (let k : 6 ≡ f = grind (arith, e6) in k) six
  by false false false false e0 e2 e4 e6 = absurd (grind (arith, is, e0, e2, e4, e6))

-- no region's fault is another sync
none_is : (sync n : ℕ) → ((f : ℕ) → is_write_fault f ≡ true → (first_of f sync == n) ≡ false) → (own : List ℕ) → ((i : ℕ) → i < length own → is_write_fault (slice_index own i) ≡ true)
    → list_any (λ f. f == n) (map (λ f. first_of f sync) own) ≡ false
none_is sync n each [] writes = refl
none_is sync n each (x ∷ xs) writes =
    ap₂ (λ a b. a || b) (each x (writes 0 (omega arith))) (none_is sync n each xs (λ i within. writes (suc i) (omega (arith, within))))

-- the sync that fails is this one, or none does
shared_2 : (own : List ℕ) → ((i : ℕ) → i < length own → is_write_fault (slice_index own i) ≡ true)
    → shared_fault (map (λ f. first_of f 2) own) ≡ (if list_any (λ f. f == 2) (map (λ f. first_of f 2) own) then 2 else 0)
shared_2 own writes =
    ap₂ (λ b c. if list_any (λ f. f == 2) (map (λ f. first_of f 2) own) then 2 else if b then 4 else if c then 6 else 0)
    (none_is 2 4 (by_write (λ f. (first_of f 2 == 4) ≡ false) refl refl refl refl) own writes)
    (none_is 2 6 (by_write (λ f. (first_of f 2 == 6) ≡ false) refl refl refl refl) own writes)

shared_4 : (own : List ℕ) → ((i : ℕ) → i < length own → is_write_fault (slice_index own i) ≡ true)
    → shared_fault (map (λ f. first_of f 4) own) ≡ (if list_any (λ f. f == 4) (map (λ f. first_of f 4) own) then 4 else 0)
shared_4 own writes =
    ap₂ (λ b c. if b then 2 else if list_any (λ f. f == 4) (map (λ f. first_of f 4) own) then 4 else if c then 6 else 0)
    (none_is 4 2 (by_write (λ f. (first_of f 4 == 2) ≡ false) refl refl refl refl) own writes)
    (none_is 4 6 (by_write (λ f. (first_of f 4 == 6) ≡ false) refl refl refl refl) own writes)

shared_6 : (own : List ℕ) → ((i : ℕ) → i < length own → is_write_fault (slice_index own i) ≡ true)
    → shared_fault (map (λ f. first_of f 6) own) ≡ (if list_any (λ f. f == 6) (map (λ f. first_of f 6) own) then 6 else 0)
shared_6 own writes =
    ap₂ (λ b c. if b then 2 else if c then 4 else if list_any (λ f. f == 6) (map (λ f. first_of f 6) own) then 6 else 0)
    (none_is 6 2 (by_write (λ f. (first_of f 6 == 2) ≡ false) refl refl refl refl) own writes)
    (none_is 6 4 (by_write (λ f. (first_of f 6 == 4) ≡ false) refl refl refl refl) own writes)

shared_0 : (own : List ℕ) → ((i : ℕ) → i < length own → is_write_fault (slice_index own i) ≡ true) → shared_fault (map (λ f. first_of f 0) own) ≡ 0
shared_0 own writes =
    ap (λ b. if b then 2 else if list_any (λ f. f == 4) (map (λ f. first_of f 0) own) then 4 else if list_any (λ f. f == 6) (map (λ f. first_of f 0) own) then 6 else 0)
    (none_is 0 2 (by_write (λ f. (first_of f 0 == 2) ≡ false) refl refl refl refl) own writes)
    ∙ ap₂ (λ b c. if b then 4 else if c then 6 else 0)
    (none_is 0 4 (by_write (λ f. (first_of f 0 == 4) ≡ false) refl refl refl refl) own writes)
    (none_is 0 6 (by_write (λ f. (first_of f 0 == 6) ≡ false) refl refl refl refl) own writes)

-- where some region's fault is this sync, one of the list is
has : (sync : ℕ) (own : List ℕ) (i : ℕ) → i < length own → first_of (slice_index own i) sync ≡ sync → list_any (λ f. f == sync) (map (λ f. first_of f sync) own) ≡ true
has sync [] i within is = absurd (omega (arith, within))
has sync (x ∷ xs) zero within is = ap (λ b. b || list_any (λ f. f == sync) (map (λ f. first_of f sync) xs)) (eq-eqb (first_of x sync) sync is)
has sync (x ∷ xs) (suc i) within is = ap (λ b. (first_of x sync == sync) || b) (has sync xs i (omega (arith, within)) is) ∙ or_true (first_of x sync == sync) where
  or_true : (b : Bool) → (b || true) ≡ true
  or_true true = refl
  or_true false = refl

-- a part whose fault is the sync, and one whose write fails before it
at_sync : (s : ℕ) → first_of (effective 6 s) s ≡ s → (b : Bool) → b ≡ true → first_of (effective 6 s) (if b then s else 0) ≡ s
at_sync s is b fails = ap (λ t. first_of (effective 6 s) (if t then s else 0)) fails ∙ is

before : (o s : ℕ) → first_of (effective 6 o) s ≡ o → first_of (effective 6 o) 0 ≡ o → (b : Bool) → first_of (effective 6 o) (if b then s else 0) ≡ o
before o s with_sync alone true = with_sync
before o s with_sync alone false = alone

meets_by : (s : ℕ) (own : List ℕ) → shared_fault (map (λ f. first_of f s) own) ≡ (if list_any (λ f. f == s) (map (λ f. first_of f s) own) then s else 0)
    → ((o : ℕ) → is_write_fault o ≡ true → (b : Bool) → (first_of o s ≡ s → b ≡ true) → first_of (effective 6 (first_of o s)) (if b then s else 0) ≡ first_of o s)
    → ((i : ℕ) → i < length own → is_write_fault (slice_index own i) ≡ true) → (i : ℕ) → i < length own
    → first_of (effective 6 (first_of (slice_index own i) s)) (shared_fault (map (λ f. first_of f s) own)) ≡ first_of (slice_index own i) s
meets_by s own shared each writes i within =
    ap (first_of (effective 6 (first_of (slice_index own i) s))) shared
    ∙ each (slice_index own i) (writes i within) (list_any (λ f. f == s) (map (λ f. first_of f s) own)) (has s own i within)

meets_0 : (own : List ℕ) → ((i : ℕ) → i < length own → is_write_fault (slice_index own i) ≡ true) → (i : ℕ) → i < length own
    → first_of (effective 6 (first_of (slice_index own i) 0)) (shared_fault (map (λ f. first_of f 0) own)) ≡ first_of (slice_index own i) 0
meets_0 own writes i within =
    ap (first_of (effective 6 (first_of (slice_index own i) 0))) (shared_0 own writes)
    ∙ by_write (λ o. first_of (effective 6 (first_of o 0)) 0 ≡ first_of o 0) refl refl refl refl (slice_index own i) (writes i within)

meets_2 : (own : List ℕ) → ((i : ℕ) → i < length own → is_write_fault (slice_index own i) ≡ true) → (i : ℕ) → i < length own
    → first_of (effective 6 (first_of (slice_index own i) 2)) (shared_fault (map (λ f. first_of f 2) own)) ≡ first_of (slice_index own i) 2
meets_2 own writes = meets_by 2 own (shared_2 own writes)
    (by_write (λ o. (b : Bool) → (first_of o 2 ≡ 2 → b ≡ true) → first_of (effective 6 (first_of o 2)) (if b then 2 else 0) ≡ first_of o 2)
    (λ b h. at_sync 2 refl b (h refl)) (λ b h. before 1 2 refl refl b) (λ b h. at_sync 2 refl b (h refl)) (λ b h. at_sync 2 refl b (h refl))) writes

meets_4 : (own : List ℕ) → ((i : ℕ) → i < length own → is_write_fault (slice_index own i) ≡ true) → (i : ℕ) → i < length own
    → first_of (effective 6 (first_of (slice_index own i) 4)) (shared_fault (map (λ f. first_of f 4) own)) ≡ first_of (slice_index own i) 4
meets_4 own writes = meets_by 4 own (shared_4 own writes)
    (by_write (λ o. (b : Bool) → (first_of o 4 ≡ 4 → b ≡ true) → first_of (effective 6 (first_of o 4)) (if b then 4 else 0) ≡ first_of o 4)
    (λ b h. at_sync 4 refl b (h refl)) (λ b h. before 1 4 refl refl b) (λ b h. before 3 4 refl refl b) (λ b h. at_sync 4 refl b (h refl))) writes

meets_6 : (own : List ℕ) → ((i : ℕ) → i < length own → is_write_fault (slice_index own i) ≡ true) → (i : ℕ) → i < length own
    → first_of (effective 6 (first_of (slice_index own i) 6)) (shared_fault (map (λ f. first_of f 6) own)) ≡ first_of (slice_index own i) 6
meets_6 own writes = meets_by 6 own (shared_6 own writes)
    (by_write (λ o. (b : Bool) → (first_of o 6 ≡ 6 → b ≡ true) → first_of (effective 6 (first_of o 6)) (if b then 6 else 0) ≡ first_of o 6)
    (λ b h. at_sync 6 refl b (h refl)) (λ b h. before 1 6 refl refl b) (λ b h. before 3 6 refl refl b) (λ b h. before 5 6 refl refl b)) writes

pub returns : goal.returns
returns c = λ sync own is.
    by_sync (λ s. (own : List ℕ) → ((i : ℕ) → i < length own → is_write_fault (slice_index own i) ≡ true) → (i : ℕ) → i < length own
    → first_of (effective 6 (first_of (slice_index own i) s)) (shared_fault (map (λ f. first_of f s) own)) ≡ first_of (slice_index own i) s)
    meets_0 meets_2 meets_4 meets_6 sync is own
