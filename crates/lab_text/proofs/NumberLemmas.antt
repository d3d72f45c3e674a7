-- The digits of a number, one more at a time.
use Rattle.std.proofs.Common.{◌≡◌, ℕ, ◌+◌, ◌-◌, ◌*◌, ◌<◌, ◌≤◌, Bool, true, false, cond, List, [], ◌∷◌, length, drop, get_or, refl, ap, sym, ◌∙◌, arith}
use borrow.Author.Tests.{le-leb, lt-leb}
use Rattle.std.specs.Prelude.{Option, Some, None}
use Rattle.std.specs.Char.{is_ascii_digit}
use Rattle.std.proofs.lemmas.List.{at_drop_more, at_drop_all}
use Rattle.std.proofs.lemmas.Option.{same_Some}
use Rattle.lab_text.specs.Fields.{digits_after, lacks_first, at_most, value_of, number_to}

pub value_is : (text : List ℕ) → lacks_first text ≡ false → value_of text ≡ digits_after 0 text
value_is text h = ap (λ t. cond t None (digits_after 0 text)) h

one_digit : (n d : ℕ) (ds : List ℕ) (t : Bool) → is_ascii_digit d ≡ t → digits_after n (d ∷ ds) ≡ cond t (digits_after (10 * n + (d - 48)) ds) None
unfolding digits_after
one_digit n d ds t h = ap (λ v. cond v (digits_after (10 * n + (d - 48)) ds) None) h

-- the next digit
pub digit_next : (n : ℕ) (text : List ℕ) (i : ℕ) → i < length text → is_ascii_digit (get_or text i 0) ≡ true → digits_after (10 * n + (get_or text i 0 - 48)) (drop (i + 1) text) ≡ digits_after n (drop i text)
digit_next n text i inside h = sym (at_drop_more (digits_after n) text i 0 inside ∙ one_digit n (get_or text i 0) (drop (i + 1) text) true h)

-- what is no digit
pub no_digit : (most n : ℕ) (text : List ℕ) (i : ℕ) → i < length text → is_ascii_digit (get_or text i 0) ≡ false → lacks_first text ≡ false → digits_after n (drop i text) ≡ digits_after 0 text → None ≡ number_to most text
no_digit most n text i inside h first so_far =
    ap (at_most most) (sym (one_digit n (get_or text i 0) (drop (i + 1) text) false h) ∙ sym (at_drop_more (digits_after n) text i 0 inside) ∙ so_far ∙ sym (value_is text first))

-- a number is at least that of its first digits
grows_at : (n d m : ℕ) (ds : List ℕ) (t : Bool) → ((k : ℕ) → digits_after k ds ≡ Some m → k ≤ m) → cond t (digits_after (10 * n + (d - 48)) ds) None ≡ Some m → n ≤ m
grows_at n d m ds true more h = let k : 10 * n + (d - 48) ≤ m = more (10 * n + (d - 48)) h in omega arith
grows_at n d m ds false more h = absurd (cc)

grows : (n : ℕ) (ds : List ℕ) (m : ℕ) → digits_after n ds ≡ Some m → n ≤ m
unfolding digits_after
grows n [] m h = let e : n ≡ m = same_Some _ _ h in omega arith
grows n (d ∷ ds) m h = grows_at n d m ds (is_ascii_digit d) (λ k. grows k ds m) h

too_great_at : (most n : ℕ) (ds : List ℕ) (o : Option ℕ) → most < n → digits_after n ds ≡ o → None ≡ at_most most o
too_great_at most n ds None h e = refl
too_great_at most n ds (Some m) h e =
    let more : n ≤ m = grows n ds m e in
    sym (ap (λ t. cond t (Some m) None) (lt-leb m most (omega arith)))

pub too_great : (most n : ℕ) (text : List ℕ) (i : ℕ) → most < n → lacks_first text ≡ false → digits_after n (drop i text) ≡ digits_after 0 text → None ≡ number_to most text
too_great most n text i h first so_far =
    too_great_at most n (drop i text) (digits_after n (drop i text)) h refl ∙ ap (at_most most) (so_far ∙ sym (value_is text first))

at_end : (n : ℕ) → digits_after n [] ≡ Some n
unfolding digits_after
at_end n = refl

pub all_digits : (most n : ℕ) (text : List ℕ) (i : ℕ) → length text ≤ i → n ≤ most → lacks_first text ≡ false → digits_after n (drop i text) ≡ digits_after 0 text → Some n ≡ number_to most text
all_digits most n text i end within first so_far =
    sym (ap (λ t. cond t (Some n) None) (le-leb n most within))
    ∙ ap (at_most most) (sym (at_end n) ∙ sym (at_drop_all (digits_after n) text i end) ∙ so_far ∙ sym (value_is text first))
