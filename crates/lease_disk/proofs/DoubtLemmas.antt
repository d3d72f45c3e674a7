-- Which regions are in doubt, one after the other, and after a call that names one or several.
use Rattle.std.proofs.Common.{◌≡◌, ◌≢◌, ℕ, ◌+◌, ◌<◌, ◌==◌, ◌||◌, Bool, true, false, List, [], ◌∷◌, length, take, slice_index_or, if◌then◌else◌, refl, sym, ap, subst, ◌∙◌, arith, Result, Ok, Err}
use Rattle.std.specs.Prelude.{IsErr, OnOk, is_ok}
use Rattle.std.proofs.lemmas.Bool.{eq-eqb}
use Rattle.lease_disk.specs.Device.{AreSettled, Device, IsCalledWithin, KeepsSettled, OthersStaySettled, RestStaysSettled, SettlesItsRegion, StaySettled, TouchesNothing, is_in, set_faults}
use Rattle.lease_disk.specs.FileDisk.{doubt_after, or_listed}
use Rattle.lease_disk.specs.Region.{faults_after}
use Rattle.lease_disk.proofs.Listed.{either_way, in_more}

or_false : (x : Bool) → (x || false) ≡ x
or_false true = refl
or_false false = refl

or_swap : (a b c : Bool) → (a || (b || c)) ≡ ((b || a) || c)
or_swap true true c = refl
or_swap true false c = refl
or_swap false true c = refl
or_swap false false c = refl

-- ---- a list of one region

pub only_in : (r : ℕ) → is_in (r ∷ []) r ≡ true
only_in r = ap (λ b. b || false) (eq-eqb r r refl)

pub is_only : (r q : ℕ) → is_in (r ∷ []) q ≡ true → q ≡ r
is_only r q listed = let same = sym (or_false (r == q)) ∙ listed in grind (arith, same)

pub not_only : (r q : ℕ) → q ≢ r → is_in (r ∷ []) q ≡ false
not_only r q apart = by (r == q) refl where
  by : (b : Bool) → (r == q) ≡ b → is_in (r ∷ []) q ≡ false
  by true e = absurd (apart (grind (arith, e)))
  by false e = ap (λ b. b || false) e

pub only_below : (r n : ℕ) → r < n → (q : ℕ) → is_in (r ∷ []) q ≡ true → q < n
only_below r n below q listed = subst (λ p. p < n) (sym (is_only r q listed)) below

pub one_fault : {T E : Type 0} (r : ℕ) (result : Result T E) (failures : ℕ → ℕ) → set_faults (r ∷ []) result failures ≡ faults_after r result failures
one_fault r (Ok x) failures = refl
one_fault r (Err e) failures = λ j. λ q. ap (λ b. if b then failures q + 1 else failures q) (or_false (r == q) ∙ either_way r q) j

-- ---- one more region of a list

-- each that was done and has P is settled
pub settled_more : (P : ℕ → Type 0) (xs : List ℕ) (i : ℕ) → i < length xs → (now new : ℕ → Bool) → ((q : ℕ) → is_in (take i xs) q ≡ true → P q → now q ≡ false) → StaySettled now new
    → (P (slice_index_or xs i 0) → new (slice_index_or xs i 0) ≡ false) → (q : ℕ) → is_in (take (i + 1) xs) q ≡ true → P q → new q ≡ false
settled_more P xs i within now new done stay own q listed p = by (slice_index_or xs i 0 == q) refl where
  by : (b : Bool) → (slice_index_or xs i 0 == q) ≡ b → new q ≡ false
  by true e =
      let same : slice_index_or xs i 0 ≡ q = grind (arith, e) in
      subst (λ r. new r ≡ false) same (own (subst P (sym same) p))
  by false e =
      let before : is_in (take i xs) q ≡ true = sym (in_more xs i q within ∙ ap (λ b. is_in (take i xs) q || b) e ∙ or_false (is_in (take i xs) q)) ∙ listed in
      stay q (done q before p)

pub listed_more : (xs : List ℕ) (i : ℕ) → i < length xs → (old now new : ℕ → Bool) → ((q : ℕ) → now q ≡ or_listed (take i xs) old q) → new (slice_index_or xs i 0) ≡ true
    → ((q : ℕ) → q ≢ slice_index_or xs i 0 → new q ≡ now q) → (q : ℕ) → new q ≡ or_listed (take (i + 1) xs) old q
listed_more xs i within old now new was own others q = puts (slice_index_or xs i 0 == q) refl ∙ ap (λ b. (slice_index_or xs i 0 == q) || b) (was q)
    ∙ or_swap (slice_index_or xs i 0 == q) (is_in (take i xs) q) (old q) ∙ sym (ap (λ b. b || old q) (in_more xs i q within)) where
      puts : (b : Bool) → (slice_index_or xs i 0 == q) ≡ b → new q ≡ ((slice_index_or xs i 0 == q) || now q)
      puts true e =
          let same : q ≡ slice_index_or xs i 0 = grind (arith, e) in
          ap new same ∙ own ∙ sym (ap (λ b. b || now q) e)
      puts false e = others q (λ same. absurd (grind (arith, e, same))) ∙ sym (ap (λ b. b || now q) e)

-- ---- after a call

pub one_settled : {A B C D : Type 0} (regions : List ℕ) (r : ℕ) (result : Result A B) (answer : Result C D) (middle new : ℕ → Bool) → is_ok result ≡ is_ok answer
    → ((q : ℕ) → new q ≡ doubt_after regions result middle q) → OnOk answer (middle r ≡ false) → OnOk result (new r ≡ false)
one_settled regions r (Ok x) (Ok y) middle new same is settled = is r ∙ settled
one_settled regions r (Ok x) (Err e) middle new same is settled = absurd cc
one_settled regions r (Err e) answer middle new same is settled = tt

pub all_settled : {A B C D : Type 0} (regions : List ℕ) (result : Result A B) (answer : Result C D) (middle new : ℕ → Bool) → is_ok result ≡ is_ok answer
    → ((q : ℕ) → new q ≡ doubt_after regions result middle q) → OnOk answer (AreSettled regions middle) → OnOk result (AreSettled regions new)
all_settled regions (Ok x) (Ok y) middle new same is settled = λ q listed. is q ∙ settled q listed
all_settled regions (Ok x) (Err e) middle new same is settled = absurd cc
all_settled regions (Err e) answer middle new same is settled = tt

pub rest_stays : {A B : Type 0} (regions : List ℕ) (result : Result A B) (old middle new : ℕ → Bool) → ((q : ℕ) → new q ≡ doubt_after regions result middle q) → StaySettled old middle
    → RestStaysSettled regions old new
rest_stays regions (Ok x) old middle new is stay = λ q apart was. is q ∙ stay q was
rest_stays regions (Err e) old middle new is stay = λ q apart was. is q ∙ ap (λ b. b || middle q) apart ∙ stay q was

pub others_stay : {A B : Type 0} (r : ℕ) (result : Result A B) (old middle new : ℕ → Bool) → KeepsSettled r result middle new → StaySettled old middle → OthersStaySettled r old new
others_stay r result old middle new keeps stay = λ q apart was. keeps.stay q apart (stay q was)

pub keeps_settled : {A B : Type 0} (r : ℕ) (result : Result A B) (old new : ℕ → Bool) → ((q : ℕ) → new q ≡ doubt_after (r ∷ []) result old q) → KeepsSettled r result old new
keeps_settled r (Ok x) old new is = record { settled = λ q was. is q ∙ was; stay = λ q apart was. is q ∙ was }
keeps_settled r (Err e) old new is = record { settled = tt; stay = λ q apart was. is q ∙ ap (λ b. b || old q) (not_only r q apart) ∙ was }

-- those that were in doubt were written, and then settled
pub settled_by : (regions : List ℕ) (old written new : ℕ → Bool) → ((q : ℕ) → is_in regions q ≡ true → old q ≡ true → written q ≡ false) → ((q : ℕ) → is_in regions q ≡ true → written q ≡ false → new q ≡ false)
    → StaySettled old new → AreSettled regions new
settled_by regions old written new wrote settled stay q listed = by (old q) refl where
  by : (b : Bool) → old q ≡ b → new q ≡ false
  by true e = settled q listed (wrote q listed e)
  by false e = stay q e

-- ---- two calls, one after the other

pub stay_then : (r : ℕ) (old middle new : ℕ → Bool) → OthersStaySettled r old middle → OthersStaySettled r middle new → OthersStaySettled r old new
stay_then r old middle new first last = λ q apart was. last q apart (first q apart was)

pub settles_stop : {T E : Type 0} (r : ℕ) (result : Result T E) (old new : ℕ → Bool) → IsErr result → OthersStaySettled r old new → SettlesItsRegion r result old new
settles_stop r (Ok x) old new is stay = absurd cc
settles_stop r (Err e) old new is stay = record { settled = tt; stay = stay }

pub keeps_stop : {T E A B : Type 0} (r : ℕ) (e : B) (result : Result T E) (old new : ℕ → Bool) → IsErr result → KeepsSettled {T = A} {E = B} r (Err e) old new → KeepsSettled r result old new
keeps_stop r e (Ok x) old new is keeps = absurd cc
keeps_stop r e (Err d) old new is keeps = record { settled = tt; stay = keeps.stay }

pub keeps_then : {T E A B : Type 0} (r : ℕ) (x : A) (result : Result T E) (old middle new : ℕ → Bool) → KeepsSettled {T = A} {E = B} r (Ok x) old middle → KeepsSettled r result middle new → KeepsSettled r result old new
keeps_then r x (Ok y) old middle new first last = record { settled = λ q was. last.settled q (first.settled q was); stay = stay_then r old middle new first.stay last.stay }
keeps_then r x (Err e) old middle new first last = record { settled = tt; stay = stay_then r old middle new first.stay last.stay }

pub keeps_synced : {T E : Type 0} (r : ℕ) (result : Result T E) (old middle new : ℕ → Bool) → OthersStaySettled r old middle → OnOk result (new r ≡ false) → OthersStaySettled r middle new → KeepsSettled r result old new
keeps_synced r (Ok x) old middle new first settled last = record { settled = λ q was. by q (q == r) refl was; stay = stay_then r old middle new first last } where
  by : (q : ℕ) (b : Bool) → (q == r) ≡ b → old q ≡ false → new q ≡ false
  by q true e was = let same : r ≡ q = grind (arith, e) in subst (λ p. new p ≡ false) same settled
  by q false e was = stay_then r old middle new first last q (λ same. absurd (grind (arith, e, same))) was
keeps_synced r (Err e) old middle new first settled last = record { settled = tt; stay = stay_then r old middle new first last }

-- ---- how often a device was read

pub one_read : (tells : Bool) (old new : Device) → TouchesNothing tells old new → new.reads ≡ old.reads + 1 → IsCalledWithin 1 2 0 old new
one_read tells old new frame reads = record { least = omega (arith, reads); reads = omega (arith, reads); writes = omega (arith, frame.writes) }

pub two_reads : (tells : Bool) (old middle new : Device) → TouchesNothing tells old middle → middle.reads ≡ old.reads + 1 → TouchesNothing tells middle new → new.reads ≡ middle.reads + 1 → IsCalledWithin 1 2 0 old new
two_reads tells old middle new frame reads again more = record { least = omega (arith, reads, more); reads = omega (arith, reads, more); writes = omega (arith, frame.writes, again.writes) }
