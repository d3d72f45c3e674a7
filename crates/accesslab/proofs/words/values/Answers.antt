use Rattle.std.proofs.Common.{◌≡◌, ◌∙◌, ℕ, zero, suc, ◌≤◌, Bool, true, false, eqb-true, length, sym, ap, subst, inl, inr, arith, codes, refl, rules, map}
use Rattle.std.specs.Prelude.{◌==◌, Option, Some, None}
use Rattle.std.proofs.lemmas.List.{length-map}
use Rattle.std.proofs.lemmas.Option.{same_Some}
use Rattle.clap.specs.Words.{first_of, found_of, rows_of}
use Rattle.clap.proofs.WalkLemmas.{first_value-rows, raw_values-rows}
use Rattle.command_line.specs.CommandLine.{IsNumber}
use Rattle.accesslab.proofs.words.values.Goals as goal

-- what the test of a length says
is_none : (n : ℕ) (b : Bool) → b ≡ (n == 0) → b ≡ true → n ≡ 0
is_none n b is found = eqb-true n 0 (sym is ∙ found)

not_empty : (n : ℕ) (b : Bool) → b ≡ (n == 0) → b ≡ false → 1 ≤ n
not_empty zero b is found = let e : true ≡ false = sym is ∙ found in absurd cc
not_empty (suc n) b is found = omega arith

-- nothing is not something
not_there : {X : Type 0} (o : Option X) (a : X) → None ≡ o → o ≡ Some a → ⊥
not_there o a none some = let h : None ≡ Some a = none ∙ some in absurd cc

pub returns-in_err-configs-clause-none : goal.returns-in_err-configs-clause-none
returns-in_err-configs-clause-none c = λ _ configs quota has.
    not_there _ configs (c.in_err-configs.ensures ∙ raw_values-rows (found_of c.args.matches.now) (codes "CONFIG")) has.configs_are

pub returns-in_err-quota-clause-none : goal.returns-in_err-quota-clause-none
returns-in_err-quota-clause-none c = λ _ configs quota has.
    c.in_err-quota.ensures.none refl quota (subst (λ t. IsNumber t 1 256 quota) (sym (first_value-rows (found_of c.args.matches.now) (codes "quota"))) has.quota_is)

pub returns-then-is_empty-clause-none : goal.returns-then-is_empty-clause-none
returns-then-is_empty-clause-none c = λ _ configs quota has.
    let same : map (λ path. path.now) c.in_ok-configs.configs.now ≡ configs =
    same_Some _ _ (c.in_ok-configs.ensures ∙ raw_values-rows (found_of c.args.matches.now) (codes "CONFIG") ∙ has.configs_are) in
    let count : length configs ≡ length c.in_ok-configs.configs.now = ap length (sym same) ∙ length-map c.in_ok-configs.configs.now (λ path. path.now) in
    elim c.then-is_empty.either [
      | inl found ↦ let none = is_none _ _ c.is_empty.ensures found in let some = has.some in absurd (omega (arith, count, none, some))
      | inr more ↦ let many = more.1 in let few = has.few in absurd (omega (arith, count, many, few))
    ]

pub returns-clause-some : goal.returns-clause-some
returns-clause-some c =
    let found = found_of c.args.matches.now in
    let same : c.in_ok-quota.quota ≡ c.in_ok-quota-2.quota = search rules in
    let count = length-map c.in_ok-configs.configs.now (λ path. path.now) in
    let some = not_empty _ _ c.is_empty.ensures c.if-is_empty.false in
    record {
      configs_are = sym (c.in_ok-configs.ensures ∙ raw_values-rows found (codes "CONFIG"));
      some = omega (arith, count, some);
      few = omega (arith, count, c.if-configs-gt-MAX_PLANS.false);
      quota_is = subst (λ n. IsNumber (first_of (codes "quota") (rows_of found)) 1 256 n) same (subst (λ t. IsNumber t 1 256 c.in_ok-quota.quota) (first_value-rows found (codes "quota")) c.in_ok-quota.ensures.some);
    }
