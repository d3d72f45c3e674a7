-- The bits of words.
use Rattle.std.proofs.Common.{◌≡◌, ℕ, ◌-◌, ◌*◌, ◌%◌, ◌^◌, ◌<◌, ◌≤◌, ap, sym, subst, ◌∙◌, inl, inr, arith, w64}
use lib.Count.{trailing_of_zero}
use Rattle.std.proofs.lemmas.Nat.{and_le_l}
use Rattle.std.proofs.lemmas.Bool.{cases_eq, cases_lt}
use Rattle.std.proofs.lemmas.Nat.Bits.{bit_at_and, bit_at-zero, bit_at-trailing_zeros, bit_at_mask_inside, bit_at_mask_below, ones_shl}
use Rattle.std.specs.Prelude.{bit_and}
use Rattle.std.specs.Int.{bit_at, trailing_zeros}

-- where the bits of a word from one on end that are not set
pub record IsFirstSet (word from first : ℕ) : Type 0 where
  pub bound : first ≤ 64
  pub least : from ≤ first
  pub unset : (i : ℕ) → from ≤ i → i < first → bit_at word i ≡ 0

unmasked : (word from i : ℕ) → from ≤ i → i < 64 → bit_at (bit_and word (2 ^ 64 - 2 ^ from)) i ≡ 0 → bit_at word i ≡ 0
unmasked word from i least most none = omega (arith, bit_at_and word (2 ^ 64 - 2 ^ from) i, bit_at_mask_inside from 64 i least most)

-- none from there on is set
none_set : (word from : ℕ) → from < 64 → bit_and word (2 ^ 64 - 2 ^ from) ≡ 0 → IsFirstSet word from 64
none_set word from within none = record {
  bound = omega arith;
  least = omega arith;
  unset = λ i least most. unmasked word from i least most (ap (λ x. bit_at x i) none ∙ bit_at-zero i);
}

-- one is
one_set : (word from first : ℕ) → from < 64 → first < 64 → bit_at (bit_and word (2 ^ 64 - 2 ^ from)) first ≡ 1
    → ((i : ℕ) → i < first → bit_at (bit_and word (2 ^ 64 - 2 ^ from)) i ≡ 0) → IsFirstSet word from first
one_set word from first within bound set below = record {
  bound = omega arith;
  least =
      elim (cases_lt first from) [
        | inl less ↦ absurd (omega (arith, bit_at_and word (2 ^ 64 - 2 ^ from) first, bit_at_mask_below from 64 first less))
        | inr more ↦ more
      ];
  unset = λ i least less. unmasked word from i least (omega arith) (below i less);
}

pub first_set : (word from : ℕ) → word < 2 ^ 64 → from < 64 → IsFirstSet word from (trailing_zeros w64 (bit_and word ((2 ^ 64 - 1) * 2 ^ from % 2 ^ 64)))
first_set word from fits within =
    subst (λ mask. IsFirstSet word from (trailing_zeros w64 (bit_and word mask))) (sym (ones_shl 64 from (omega arith)))
    (elim (cases_eq (bit_and word (2 ^ 64 - 2 ^ from)) 0) [
      | inl none ↦ subst (λ bits. IsFirstSet word from (trailing_zeros w64 bits)) (sym none) (subst (IsFirstSet word from) (sym (trailing_of_zero 64)) (none_set word from within none))
      | inr some ↦
          let small : bit_and word (2 ^ 64 - 2 ^ from) < 2 ^ 64 = omega (arith, and_le_l word (2 ^ 64 - 2 ^ from)) in
          let h = bit_at-trailing_zeros w64 (bit_and word (2 ^ 64 - 2 ^ from)) (omega arith) small in
          one_set word from _ within h.0 h.1 h.2
    ])
