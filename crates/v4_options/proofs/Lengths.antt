-- A written list is no longer than the bytes that it was read from.
use Rattle.std.proofs.Common.{◌≡◌, ℕ, ◌+◌, ◌≤◌, Bool, true, false, cond, eqb, List, [], ◌∷◌, ◌++◌, length, ap, arith}
use Rattle.std.proofs.lemmas.List.{length-append}
use Rattle.v4_options.specs.Codes.{END}
use Rattle.v4_options.specs.Spelling.{spelling, option, row, options, without, Piece, Pad, Whole, Spells}

length-option : (code : ℕ) (value rest : List ℕ) → length (option code value ++ rest) ≡ 2 + length value + length rest
length-option code value rest = omega (arith, length-append value rest)

-- Pads are left out.
length-front : (front : List Piece) → length (spelling (options front)) ≤ length (row front)
length-front [] = omega arith
length-front (Pad ∷ front) = omega (arith, length-front front)
length-front (Whole code value ∷ front) =
    omega (arith, length-option code value (row front), length-option code value (spelling (options front)), length-front front)

-- A list and its end are no longer than the bytes that spell it.
pub length-spelled : (bytes : List ℕ) (list : List (ℕ × List ℕ)) → Spells bytes list → length (spelling list) + 1 ≤ length bytes
length-spelled bytes list s =
    omega (arith, ap (λ (os : List (ℕ × List ℕ)). length (spelling os)) s.in_order, ap length s.whole, length-append (row s.front) (END ∷ s.rest), length-front s.front)

without_step : (b : Bool) (o : ℕ × List ℕ) (os rest : List (ℕ × List ℕ)) → length (spelling rest) ≤ length (spelling os) → length (spelling (cond b rest (o ∷ rest))) ≤ length (spelling (o ∷ os))
without_step true o os rest h = omega (arith, length-option o.0 o.1 (spelling os))
without_step false o os rest h = omega (arith, length-option o.0 o.1 (spelling os), length-option o.0 o.1 (spelling rest))

-- A list with an option left out is no longer.
pub length-without : (code : ℕ) (list : List (ℕ × List ℕ)) → length (spelling (without code list)) ≤ length (spelling list)
length-without code [] = omega arith
length-without code (o ∷ os) = without_step (eqb o.0 code) o os (without code os) (length-without code os)
