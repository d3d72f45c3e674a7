-- The texts of ports, sources and circuit ids, beside what std answers of them.
use Rattle.std.proofs.Common.{◌+◌, zero, suc, lit<, ◌≡◌, ℕ, ◌<◌, ◌≤◌, ◌^◌, List, [], ◌∷◌, length, get_or, Some, None, Result, Ok, Err, Bor, refl, sym, ap, subst, ◌∙◌, arith}
use Rattle.std.specs.Prelude.{decimal, All, IsAscii}
use Rattle.std.specs.Str.Parse.{ParsesUnsigned, digits_value, IsNumeral}
use Rattle.std.proofs.lemmas.Fmt.{parse-decimal, first_decimal, decimal_nonempty, decimal_digit, decimal-digits_value}
use Rattle.std.proofs.lemmas.Str.Parse.{numerals_by_value, tells_digits, without_leading_plus_none}
use Rattle.std.proofs.lemmas.Result.{OkIff-at_ok}
use Rattle.std.proofs.lemmas.Str.Pattern.{IsSplitOnceResult, split_after, split_parts}
use Rattle.std.specs.declared.num.ParseIntError.{ParseIntError}
use Rattle.types.specs.CircuitId.{IsVisible}
use Rattle.types.specs.declared.addr.Source.{Source}
use Rattle.settings.specs.Texts.{IsAddress, IsPort, IsSource}

-- a port's text begins with a digit other than zero
pub first_of_port : (text : List ℕ) (n : ℕ) → IsPort text n → 48 < get_or text 0 0
first_of_port text n h =
    let first = first_decimal n (omega (arith, h.least)) (omega (arith, h.most)) in
    subst (λ ds. 48 < get_or ds 0 0) (sym h.spelled) first

pub port_has_digits : (text : List ℕ) (n : ℕ) → IsPort text n → 0 < length text
port_has_digits text n h =
    subst (λ ds. 0 < length ds) (sym h.spelled) (decimal_nonempty n (omega (arith, h.most)))

-- a text that is refused is no port's
pub refused_port : (text : List ℕ) (e : ParseIntError) → ParsesUnsigned {E = ParseIntError} 16 10 text (Err e) → (n : ℕ) → IsPort text n → ⊥
refused_port text e parsed n h =
    let r : Result ℕ ParseIntError = Err e in
    let same : r ≡ Ok n = parse-decimal 16 n text r h.most (omega (arith, h.most)) h.spelled parsed in
    cc

-- zero's text begins with a zero
least_of : (n : ℕ) (text : List ℕ) → text ≡ decimal n → 48 < get_or text 0 0 → 1 ≤ n
least_of zero text e first =
    let begins : 48 < get_or (decimal 0) 0 0 = subst (λ ds. 48 < get_or ds 0 0) e first in
    let digit = decimal_digit 0 (lit< tt) in
    let none : 48 < get_or ((48 + 0) ∷ []) 0 0 = subst (λ ds. 48 < get_or ds 0 0) digit begins in
    absurd (omega arith)
least_of (suc n) text e first = omega arith

-- a text that is read is its port's
pub read_port : (text : List ℕ) (n : ℕ) → 48 < get_or text 0 0 → 0 < length text → ParsesUnsigned {E = ParseIntError} 16 10 text (Ok n) → IsPort text n
read_port text n first some parsed =
    let plain = without_leading_plus_none text (λ e. absurd (omega arith)) in
    let is = OkIff-at_ok {E = ParseIntError} (Ok n) _ _ n parsed refl in
    let numeral : IsNumeral 10 text = rw plain at is.0.0 in
    let value : n ≡ digits_value 10 text = rw plain at is.1 in
    let small : digits_value 10 text < 2 ^ 16 = rw plain at is.0.1 in
    let spelled = decimal-digits_value (numerals_by_value _ tells_digits) text numeral.1 some (λ e. absurd (omega arith)) (omega arith) in
    let spelled_so : text ≡ decimal n = sym spelled ∙ ap decimal (sym value) in
    record {
      spelled = spelled_so;
      least = least_of n text spelled_so first;
      most = omega arith;
    }

-- a source is split at its only colon
pub parts_of_source : (text : List ℕ) (x : Bor (List ℕ) × Bor (List ℕ)) → IsSplitOnceResult 58 text (Some x) → (s : Source) → IsSource text s → IsAddress x.0.now s.addr × IsPort x.1.now s.port
parts_of_source text x parted s h =
    let same = split_after 58 text h.front h.back (Some x) parted (lit< tt) h.joined h.no_colon in
    (subst (λ t. IsAddress t s.addr) (sym same.0) h.address, subst (λ t. IsPort t s.port) (sym same.1) h.port)

pub no_source : (text : List ℕ) → IsSplitOnceResult 58 text None → (s : Source) → IsSource text s → ⊥
no_source text parted s h = split_after 58 text h.front h.back None parted (lit< tt) h.joined h.no_colon

pub source_from_parts : (text : List ℕ) (x : Bor (List ℕ) × Bor (List ℕ)) → IsSplitOnceResult 58 text (Some x) → (s : Source) → IsAddress x.0.now s.addr → IsPort x.1.now s.port → IsSource text s
source_from_parts text x parted s address port =
    let parts = split_parts 58 text (Some x) parted (lit< tt) in
    record {
      front = x.0.now;
      back = x.1.now;
      joined = parts.0;
      no_colon = parts.1;
      address = address;
      port = port;
    }

pub visible_is_ascii : (id : List ℕ) → All IsVisible id → IsAscii id
visible_is_ascii [] visible i = lit< tt
visible_is_ascii (byte ∷ id) visible zero = let first = visible 0 0 (omega arith) in omega (arith, first.1)
visible_is_ascii (byte ∷ id) visible (suc i) = visible_is_ascii id (λ k d below. visible (suc k) d (omega (arith, below))) i
