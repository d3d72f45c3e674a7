-- The bits that a waiter's words have.
use Rattle.std.proofs.Common.{◌≡◌, ◌≢◌, ℕ, ◌+◌, ◌-◌, ◌*◌, ◌/◌, ◌%◌, ◌^◌, ◌<◌, ◌≤◌, List, true, false, not, cond, eqb, ◌==◌, length, get_or, set, refl, sym, ap, subst, ◌∙◌, inl, inr, arith, eq-eqb, ne_eqb, eqb-true, w64}
use Rattle.std.proofs.lemmas.List.{get_or_default, get_or_past, get_or_read, get_or-set_same, get_or-set_other}
use Rattle.std.proofs.lemmas.Bool.{cases_eq, cases_lt}
use Rattle.std.proofs.lemmas.Nat.{pow_pos, pow_below}
use Rattle.std.proofs.lemmas.Nat.Bits.{and_pow, bit_at_and, bit_at_or, bit_at_not, bit_at_ones, bit_at-pow_same, bit_at-pow_other}
use Rattle.std.specs.Prelude.{bit_and, bit_or}
use Rattle.std.specs.Int.{bit_at}
use Rattle.types.specs.declared.dest.Proto.{Proto}
use Rattle.types.specs.declared.dest.Proto.TheVariants.{V4, V6}
use Rattle.udp.specs.declared.history.Role.{Role}
use Rattle.udp.specs.declared.history.Role.TheVariants.{Circuit, Server, Relay}
use Rattle.udp.specs.declared.waiting.Place.{Place}
use Rattle.udp.specs.Waiting.{IsPlace, OthersStay, bit_of, index_of, is_set, is_told, row_of}

-- no word has the bit
pub past : (words : List ℕ) (bit : ℕ) → length words ≤ bit / 64 → is_set words bit ≡ true
unfolding is_set
past words bit beyond = ap (λ x. eqb (bit_at x (bit % 64)) 1) (get_or_past words (bit / 64) _ beyond) ∙ eq-eqb _ 1 (bit_at_ones 64 (bit % 64) (omega arith))

-- this word has it
pub in_word : (words : List ℕ) (bit word : ℕ) → bit / 64 < length words → word ≡ get_or words (bit / 64) word → is_set words bit ≡ eqb (bit_at word (bit % 64)) 1
unfolding is_set
in_word words bit word within read = ap (λ x. eqb (bit_at x (bit % 64)) 1) (sym (get_or_read words (bit / 64) word within read _))

-- the test `word & mask != 0`
tests : (word k : ℕ) → not (eqb (bit_and word (2 ^ k)) 0) ≡ eqb (bit_at word k) 1
tests word k =
    elim (cases_eq (bit_at word k) 1) [
      | inl one ↦
          let some : bit_and word (2 ^ k) ≢ 0 = λ none. absurd (omega (arith, and_pow word k, ap (λ b. b * 2 ^ k) one, pow_pos k)) in
          ap not (ne_eqb _ 0 some) ∙ sym (eq-eqb _ 1 one)
      | inr other ↦
          let zero : bit_at word k ≡ 0 = omega arith in
          ap not (eq-eqb _ 0 (omega (arith, and_pow word k, ap (λ b. b * 2 ^ k) zero))) ∙ sym (ne_eqb _ 1 other)
    ]

pub ready : (words : List ℕ) (bit word : ℕ) (place : Place) → IsPlace bit place → place.word < length words → word ≡ get_or words place.word word
    → not (eqb (bit_and word place.mask) 0) ≡ is_set words bit
ready words bit word place is within read =
    ap (λ mask. not (eqb (bit_and word mask) 0)) is.mask ∙ tests word (bit % 64)
    ∙ sym (in_word words bit word (omega (arith, is.word)) (read ∙ ap (λ n. get_or words n word) is.word))

-- after a word is written
written : (words : List ℕ) (n word bit : ℕ) → n < length words → bit / 64 ≡ n → is_set (set words n word) bit ≡ eqb (bit_at word (bit % 64)) 1
unfolding is_set
written words n word bit within here =
    ap (λ x. eqb (bit_at x (bit % 64)) 1) (ap (λ m. get_or (set words n word) m (2 ^ 64 - 1)) here ∙ get_or-set_same words n word _ within)

unwritten : (words : List ℕ) (n word bit : ℕ) → bit / 64 ≢ n → is_set (set words n word) bit ≡ is_set words bit
unfolding is_set
unwritten words n word bit apart = ap (λ x. eqb (bit_at x (bit % 64)) 1) (get_or-set_other words n (bit / 64) word _ apart)

old_word : (words : List ℕ) (n bit : ℕ) → n < length words → bit / 64 ≡ n → is_set words bit ≡ eqb (bit_at (get_or words n 0) (bit % 64)) 1
unfolding is_set
old_word words n bit within here =
    ap (λ x. eqb (bit_at x (bit % 64)) 1) (ap (λ m. get_or words m (2 ^ 64 - 1)) here ∙ get_or_default words n _ 0 within)

module _ (words : List ℕ) (place : Place) (within : place.word < length words) where
  abbrev current : ℕ
  current = get_or words place.word 0

  pub set_same : (bit : ℕ) → IsPlace bit place → is_set (set words place.word (bit_or current place.mask)) bit ≡ true
  set_same bit is =
      let k : ℕ = bit % 64 in
      written words place.word _ bit within (sym is.word)
      ∙ eq-eqb _ 1 (ap (λ m. bit_at (bit_or current m) k) is.mask ∙ omega (arith, bit_at_or current (2 ^ k) k, bit_at-pow_same k))

  pub set_stays : (bit : ℕ) → is_set words bit ≡ true → is_set (set words place.word (bit_or current place.mask)) bit ≡ true
  set_stays bit was =
      let k : ℕ = bit % 64 in
      elim (cases_eq (bit / 64) place.word) [
        | inl here ↦
            let one : bit_at current k ≡ 1 = eqb-true _ 1 (sym (old_word words place.word bit within here) ∙ was) in
            written words place.word _ bit within here ∙ eq-eqb _ 1 (omega (arith, bit_at_or current place.mask k))
        | inr apart ↦ unwritten words place.word _ bit apart ∙ was
      ]

  pub clear_stays : (bit other : ℕ) → IsPlace bit place → other ≢ bit
      → is_set (set words place.word (bit_and current (2 ^ 64 - 1 - place.mask))) other ≡ is_set words other
  clear_stays bit other is differs =
      let k : ℕ = bit % 64 in
      let j : ℕ = other % 64 in
      elim (cases_eq (other / 64) place.word) [
        | inl here ↦
            let apart : j ≢ k = λ same. differs (omega (arith, is.word)) in
            let kept : bit_at (bit_and current (2 ^ 64 - 1 - 2 ^ k)) j ≡ bit_at current j =
            omega (arith, bit_at_and current (2 ^ 64 - 1 - 2 ^ k) j, bit_at_not w64 (2 ^ k) j (pow_below k 64 (omega arith)) (omega arith), bit_at-pow_other k j apart) in
            written words place.word _ other within here
            ∙ ap (λ m. eqb (bit_at (bit_and current (2 ^ 64 - 1 - m)) j) 1) is.mask ∙ ap (λ b. eqb b 1) kept
            ∙ sym (old_word words place.word other within here)
        | inr apart ↦ unwritten words place.word _ other apart
      ]

-- a circuit's bit that is not set in its word
pub untold : (words : List ℕ) (proto : Proto) (row c word : ℕ) → row ≡ row_of (Circuit c proto) → 3 * (c / 64) + row < length words
    → word ≡ get_or words (3 * (c / 64) + row) word → bit_at word (c % 64) ≡ 0 → is_told words (Circuit c proto) ≡ false
untold words proto row c word its within read none =
    let bit : ℕ = 64 * (3 * (c / 64) + row) + c % 64 in
    let number : bit / 64 ≡ 3 * (c / 64) + row = omega arith in
    let place : bit % 64 ≡ c % 64 = omega arith in
    ap (λ r. is_set words (64 * (3 * (c / 64) + r) + c % 64)) (sym its)
    ∙ in_word words bit word (omega arith) (read ∙ ap (λ n. get_or words n word) (sym number))
    ∙ ne_eqb _ 1 (λ one. absurd (omega (arith, ap (bit_at word) place)))

-- the circuits that one look at a word passes over
pub passed : (words : List ℕ) (proto : Proto) (row from next first word : ℕ) → ((c : ℕ) → row ≡ row_of (Circuit c proto))
    → 3 * (next / 64) + row < length words → word ≡ get_or words (3 * (next / 64) + row) word
    → first ≤ 64 → ((i : ℕ) → next % 64 ≤ i → i < first → bit_at word i ≡ 0)
    → ((c : ℕ) → from ≤ c → c < next → is_told words (Circuit c proto) ≡ false)
    → (c : ℕ) → from ≤ c → c < next - next % 64 + first → is_told words (Circuit c proto) ≡ false
passed words proto row from next first word its within read bound unset before c least most =
    elim (cases_lt c next) [
      | inl earlier ↦ before c least earlier
      | inr later ↦
          let same : next / 64 ≡ c / 64 = omega arith in
          untold words proto row c word (its c) (subst (λ n. 3 * n + row < length words) same within) (read ∙ ap (λ n. get_or words (3 * n + row) word) same)
          (unset (c % 64) (omega arith) (omega arith))
    ]

-- all bits are set
pub filled : (words : List ℕ) → ((k : ℕ) → k < length words → get_or words k 0 ≡ 2 ^ 64 - 1) → (bit : ℕ) → is_set words bit ≡ true
filled words all bit =
    elim (cases_lt (bit / 64) (length words)) [
      | inl within ↦ old_word words (bit / 64) bit within refl ∙ eq-eqb _ 1 (ap (λ x. bit_at x (bit % 64)) (all (bit / 64) within) ∙ bit_at_ones 64 (bit % 64) (omega arith))
      | inr beyond ↦ past words bit beyond
    ]

-- Two sockets have two bits.
abbrev role_at : ℕ → ℕ → Role
role_at row index =
    cond (row == 0) (Circuit index V4) (cond (row == 1) (Circuit index V6) (cond (index == 0) (Server V4) (cond (index == 1) (Server V6) (Relay (index - 2)))))

role_back : (role : Role) → role_at (row_of role) (index_of role) ≡ role
role_back (Circuit c V4) = refl
role_back (Circuit c V6) = refl
role_back (Server V4) = refl
role_back (Server V6) = refl
role_back (Relay r) =
    let zero : eqb (2 + r) 0 ≡ false = ne_eqb _ 0 (omega arith) in
    let one : eqb (2 + r) 1 ≡ false = ne_eqb _ 1 (omega arith) in
    let rest : 2 + r - 2 ≡ r = omega arith in
    rw (zero, one, rest) refl

row_bound : (role : Role) → row_of role < 3
row_bound (Circuit c V4) = omega arith
row_bound (Circuit c V6) = omega arith
row_bound (Server proto) = omega arith
row_bound (Relay r) = omega arith

same_role : (a b : Role) → bit_of a ≡ bit_of b → a ≡ b
same_role a b same =
    let row : row_of a ≡ row_of b = omega (arith, same, row_bound a, row_bound b) in
    let index : index_of a ≡ index_of b = omega (arith, same, row_bound a, row_bound b) in
    sym (role_back a) ∙ (λ i. role_at (row i) (index i)) ∙ role_back b

pub others_stay : (old new : List ℕ) (role : Role) → ((other : ℕ) → other ≢ bit_of role → is_set new other ≡ is_set old other) → OthersStay role old new
others_stay old new role bits other apart = bits (bit_of other) (λ same. apart (same_role other role same))
