-- Counting options token by token, and what a count says about the first option with a code.
use Rattle.std.proofs.Common.{◌≡◌, ℕ, ◌+◌, ◌-◌, ◌≤◌, ◌⊎◌, Bool, true, false, cond, eqb, leb, List, [], ◌∷◌, Some, None, refl, arith}
use Rattle.std.specs.Bool.{one_answer}
use Rattle.std.proofs.lemmas.Bool.{ne_eqb, le-leb, lt-leb, leb-true}
use Rattle.v6_options.specs.declared.token.Token.{Token}
use Rattle.v6_options.specs.declared.token.Token.TheVariants.{Nothing, Cut, Whole}
use Rattle.v6_options.specs.Spelling.{look_up}
use Rattle.v6_options.specs.Token.{Begins}
use Rattle.v6_options.specs.Reading.{listed}
use Rattle.v6_options.proofs.Tokens.{listed_is, listed_stops}
use Rattle.std.specs.Borrow.{Bor}
use Rattle.v6_message.specs.Lists.{count}
use Rattle.v6_message.proofs.Fronts.{same_code}

pub at_stop : (code free : ℕ) (token : Token) (old new : List ℕ) → (token ≡ Nothing) ⊎ (token ≡ Cut) → Begins token old new → leb (count code (listed old)) free ≡ true
at_stop code free token old new is b = rw (listed_stops token old new is b) (le-leb 0 free (omega arith))

pub at_other : (code free other : ℕ) (value : Bor (List ℕ)) (old new : List ℕ) → (other ≡ code → ⊥) → Begins (Whole other value) old new → leb (count code (listed old)) free ≡ leb (count code (listed new)) free
at_other code free other value old new h b = rw (listed_is (Whole other value) old new b, ne_eqb other code h) refl

pub at_full : (code free other : ℕ) (value : Bor (List ℕ)) (old new : List ℕ) → other ≡ code → free ≡ 0 → Begins (Whole other value) old new → leb (count code (listed old)) free ≡ false
at_full code free other value old new h z b =
    rw (listed_is (Whole other value) old new b, same_code other code h) (lt-leb (1 + count code (listed new)) free (omega (arith, z)))

one_less : (n free : ℕ) → (free ≡ 0 → ⊥) → leb (1 + n) free ≡ leb n (free - 1)
one_less n free h =
    one_answer (leb (1 + n) free) (leb n (free - 1)) (leb-true (1 + n) free, le-leb (1 + n) free) (
      λ e. omega (arith, leb-true n (free - 1) e, h),
      λ p. le-leb n (free - 1) (omega (arith, p, h)),
    )

pub at_code : (code free other : ℕ) (value : Bor (List ℕ)) (old new : List ℕ) → other ≡ code → (free ≡ 0 → ⊥) → Begins (Whole other value) old new → leb (count code (listed old)) free ≡ leb (count code (listed new)) (free - 1)
at_code code free other value old new h z b =
    rw (listed_is (Whole other value) old new b, same_code other code h) (one_less (count code (listed new)) free z)

-- ---- a count and the first option

pub none_found : (code : ℕ) (list : List (ℕ × List ℕ)) → look_up code list ≡ None → count code list ≡ 0
none_found code [] h = refl
none_found code (o ∷ os) h = by (eqb o.0 code) (none_found code os) h where
  by : (b : Bool) → (look_up code os ≡ None → count code os ≡ 0) → cond b (Some o.1) (look_up code os) ≡ None → cond b (1 + count code os) (count code os) ≡ 0
  by true r h = absurd cc
  by false r h = r h

pub some_found : (code : ℕ) (list : List (ℕ × List ℕ)) (value : List ℕ) → look_up code list ≡ Some value → 1 ≤ count code list
some_found code [] value h = absurd cc
some_found code (o ∷ os) value h = by (eqb o.0 code) (some_found code os value) h where
  by : (b : Bool) → (look_up code os ≡ Some value → 1 ≤ count code os) → cond b (Some o.1) (look_up code os) ≡ Some value → 1 ≤ cond b (1 + count code os) (count code os)
  by true r h = omega arith
  by false r h = r h
