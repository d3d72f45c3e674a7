use Rattle.std.proofs.Common.{◌≡◌, ◌∙◌, ℕ, List, sym, subst, codes, refl}
use Rattle.std.specs.Prelude.{Option, Some, None, ◌↔◌}
use Rattle.clap.specs.Words.{found_of}
use Rattle.clap.proofs.WalkLemmas.{first_value-rows}
use Rattle.lease_list.specs.declared.form.Form.TheVariants.{Json}
use Rattle.lease_list.specs.declared.form.What.TheVariants.{Pools}
use Rattle.leases.specs.Words.{IsMoment}
use Rattle.leases.proofs.words.values.Goals as goal

-- nothing is not something
not_there : (o : Option (List ℕ)) (a : List ℕ) → None ≡ o → o ≡ Some a → ⊥
not_there o a none some = let h : None ≡ Some a = none ∙ some in absurd cc

pub returns-in_err-config-clause-none : goal.returns-in_err-config-clause-none
returns-in_err-config-clause-none c = λ _ config disk moment what form has.
    not_there _ config (c.in_err-config.ensures ∙ first_value-rows (found_of c.args.matches.now) (codes "CONFIG")) has.config_is

pub returns-in_err-disk-clause-none : goal.returns-in_err-disk-clause-none
returns-in_err-disk-clause-none c = λ _ config disk moment what form has.
    not_there _ disk (c.in_err-disk.ensures ∙ first_value-rows (found_of c.args.matches.now) (codes "disk")) has.disk_is

pub returns-in_err-at-clause-none : goal.returns-in_err-at-clause-none
returns-in_err-at-clause-none c = λ _ config disk moment what form has.
    c.in_err-at.ensures.none refl moment (subst (λ t. IsMoment t moment) (sym (first_value-rows (found_of c.args.matches.now) (codes "at"))) has.at_is)

pub returns-clause-some : goal.returns-clause-some
returns-clause-some c =
    let found = found_of c.args.matches.now in
    record {
      config_is = sym (c.in_ok-config.ensures ∙ first_value-rows found (codes "CONFIG"));
      disk_is = sym (c.in_ok-disk.ensures ∙ first_value-rows found (codes "disk"));
      at_is = subst (λ t. IsMoment t c.in_ok-at.at) (first_value-rows found (codes "at")) c.in_ok-at.ensures.some;
      what_is = subst (λ t. (c.what_of-what.result ≡ Pools) ↔ (t ≡ Some (codes "true"))) (first_value-rows found (codes "pools")) c.what_of-what.ensures;
      form_is = subst (λ t. (c.form_of-form.result ≡ Json) ↔ (t ≡ Some (codes "true"))) (first_value-rows found (codes "json")) c.form_of-form.ensures;
    }
