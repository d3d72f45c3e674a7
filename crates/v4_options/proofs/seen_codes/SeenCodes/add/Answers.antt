use Rattle.std.proofs.Common.{◌≡◌, ℕ, ◌*◌, ◌/◌, ◌%◌, ◌^◌, ◌<◌, eqb, List, length, get_or, set, bit_or, w64, refl, sym, ap, inl, inr, arith, eq-eqb, ne_eqb, get_or-set_same, get_or-set_other}
use Rattle.std.specs.Int.{bit_at}
use Rattle.std.proofs.lemmas.Bool.{cases_eq}
use Rattle.std.proofs.lemmas.Nat.Bits.{bit_at_set_same, bit_at_set_other}
use Rattle.v4_options.specs.Reading.{has_code, with_code}
use Rattle.v4_options.proofs.seen_codes.SeenCodes.add.Goals as goal

-- The words after the bit of the code is set.
abbrev added : List ℕ → ℕ → List ℕ
added words code = set words (code / 64) (bit_or (get_or words (code / 64) 0) (1 * 2 ^ (code % 64) % 2 ^ 64))

has_code_added : (words : List ℕ) (code other : ℕ) → code / 64 < length words → has_code (added words code) other ≡ with_code code (has_code words) other
has_code_added words code other within =
    let word : ℕ = get_or words (code / 64) 0 in
    let low : code % 64 < 64 = omega arith in
    elim (cases_eq other code) [
      | inl same ↦ rw (same, get_or-set_same words (code / 64) _ 0 within, bit_at_set_same w64 word (code % 64) low, eq-eqb code code refl) refl
      | inr apart ↦
          rw (ne_eqb code other (λ e. apart (sym e)))
          (elim (cases_eq (other / 64) (code / 64)) [
            | inl row ↦ rw (row, get_or-set_same words (code / 64) _ 0 within, bit_at_set_other w64 word (code % 64) low (other % 64) (omega arith)) refl
            | inr elsewhere ↦ ap (λ word. eqb (bit_at word (other % 64)) 1) (get_or-set_other words (code / 64) (other / 64) _ 0 elsewhere)
          ])
    ]

pub returns : goal.returns
returns c = rw c.from.ensures (λ i other. has_code_added c.args.self.now.words c.args.code other (omega arith) i)
