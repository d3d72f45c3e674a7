-- An answer that is added to those of a batch.
use Rattle.std.proofs.Common.{◌≡◌, ◌<◌, ◌≤◌, ◌+◌, ℕ, zero, suc, List, [], ◌∷◌, ◌++◌, length, map, set, take, refl, ap, subst, arith}
use Rattle.std.specs.Prelude.{Option, Result}
use Rattle.types.specs.declared.discard.Discard.{Discard}
use Rattle.dispatch.specs.Answers.{AnswersValue, answer_of}
use Rattle.dispatch.specs.declared.server.batch_answers.Answer.{Answer}

next_added : (n : ℕ) (places : List Answer) (a : Answer) (answer : Result (List ℕ) Discard) → n < length places → answer_of a ≡ answer → map answer_of (take (suc n) (set places n a)) ≡ map answer_of (take n places) ++ answer ∷ []
next_added n [] a answer within is = absurd (omega (arith, within))
next_added zero (p ∷ places) a answer within is = ap (λ x. x ∷ []) is
next_added (suc n) (p ∷ places) a answer within is = ap (λ xs. answer_of p ∷ xs) (next_added n places a answer (omega (arith, within)) is)

pub added : (n : ℕ) (places : List Answer) (a : Answer) (answer : Result (List ℕ) Discard) → n < length places → answer_of a ≡ answer → map answer_of (take (n + 1) (set places n a)) ≡ map answer_of (take n places) ++ answer ∷ []
added n places a answer within is =
    let one : suc n ≡ n + 1 = omega arith in
    subst (λ m. map answer_of (take m (set places n a)) ≡ map answer_of (take n places) ++ answer ∷ []) one (next_added n places a answer within is)

-- what shows of so many places
abbrev pub shown : List (Option ℕ) → ℕ → List Answer → AnswersValue
shown circuits n places = record { circuits = circuits; answers = map answer_of (take n places) }

pub added_to : (circuits : List (Option ℕ)) (n : ℕ) (places : List Answer) (a : Answer) (answer : Result (List ℕ) Discard) (now : AnswersValue) → shown circuits n places ≡ now → n < length places → answer_of a ≡ answer
    → shown circuits (n + 1) (set places n a) ≡ record now { answers = now.answers ++ answer ∷ [] }
added_to circuits n places a answer now is within made =
    let P : AnswersValue → Type 0 = λ v. shown circuits (n + 1) (set places n a) ≡ record v { answers = v.answers ++ answer ∷ [] } in
    subst P is (ap (λ (xs : List (Result (List ℕ) Discard)). record (shown circuits n places) { answers = xs }) (added n places a answer within made))

counted : (n : ℕ) (places : List Answer) → n ≤ length places → length (map answer_of (take n places)) ≡ n
counted zero places within = refl
counted (suc n) [] within = absurd (omega (arith, within))
counted (suc n) (p ∷ places) within = let inside = counted n places (omega (arith, within)) in omega (arith, inside)

-- there is a place for one more
pub room_for : (n : ℕ) (places : List Answer) (now : List (Result (List ℕ) Discard)) → map answer_of (take n places) ≡ now → n ≤ 16 → length places ≡ 16 → length now < 16 → n < length places
room_for n places now is few size room =
    let count = counted n places (omega (arith, few, size)) in
    let same = ap (λ (xs : List (Result (List ℕ) Discard)). length xs) is in
    omega (arith, count, same, size, room)
