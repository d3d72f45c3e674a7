use Rattle.std.proofs.Common.{◌≡◌, ◌∙◌, ℕ, List, sym, subst, codes, true, refl}
use Rattle.std.specs.Prelude.{Option, Some, None, ◌↔◌}
use Rattle.clap.specs.Words.{found_of}
use Rattle.clap.proofs.WalkLemmas.{first_value-rows}
use Rattle.command_line.specs.CommandLine.{IsNumber}
use Rattle.accessd.proofs.WordsLemmas.{same_given}
use Rattle.accessd.specs.Serving.{HasServing}
use Rattle.accessd.proofs.words.values.Goals as goal

-- nothing is not something
not_there : (o : Option (List ℕ)) (a : List ℕ) → None ≡ o → o ≡ Some a → ⊥
not_there o a none some = let h : None ≡ Some a = none ∙ some in absurd cc

pub returns-in_err-config-clause-none : goal.returns-in_err-config-clause-none
returns-in_err-config-clause-none c = λ _ values has.
    not_there _ values.config.now (c.in_err-config.ensures ∙ first_value-rows (found_of c.args.matches.now) (codes "CONFIG")) has.config_is

pub returns-in_err-disk-clause-none : goal.returns-in_err-disk-clause-none
returns-in_err-disk-clause-none c = λ _ values has.
    not_there _ values.disk.now (c.in_err-disk.ensures ∙ first_value-rows (found_of c.args.matches.now) (codes "disk")) has.disk_is

pub returns-in_err-serving-clause-none : goal.returns-in_err-serving-clause-none
returns-in_err-serving-clause-none c = λ _ values has.
    c.in_err-serving.ensures.none refl values.serving (subst (λ given. HasServing given values.serving) (sym (same_given (found_of c.args.matches.now))) has.serving_is)

pub returns-in_err-port-clause-none : goal.returns-in_err-port-clause-none
returns-in_err-port-clause-none c = λ _ values has.
    c.in_err-port.ensures.none refl values.port (subst (λ t. IsNumber t 1024 65472 values.port) (sym (first_value-rows (found_of c.args.matches.now) (codes "port"))) has.port_is)

pub returns-in_err-report-clause-none : goal.returns-in_err-report-clause-none
returns-in_err-report-clause-none c = λ _ values has.
    c.in_err-report.ensures.none refl values.report (subst (λ t. IsNumber t 0 86400 values.report) (sym (first_value-rows (found_of c.args.matches.now) (codes "report"))) has.report_is)

pub returns-clause-some : goal.returns-clause-some
returns-clause-some c =
    let found = found_of c.args.matches.now in
    record {
      config_is = sym (c.in_ok-config.ensures ∙ first_value-rows found (codes "CONFIG"));
      disk_is = sym (c.in_ok-disk.ensures ∙ first_value-rows found (codes "disk"));
      serving_is = subst (λ given. HasServing given c.in_ok-serving.serving) (same_given found) c.in_ok-serving.ensures.some;
      format_is = subst (λ t. (c.is_set-format.result ≡ true) ↔ (t ≡ Some (codes "true"))) (first_value-rows found (codes "format")) c.is_set-format.ensures;
      port_is = subst (λ t. IsNumber t 1024 65472 c.in_ok-port.port) (first_value-rows found (codes "port")) c.in_ok-port.ensures.some;
      report_is = subst (λ t. IsNumber t 0 86400 c.in_ok-report.report) (first_value-rows found (codes "report")) c.in_ok-report.ensures.some;
      leases_are = subst (λ t. (c.is_set-leases.result ≡ true) ↔ (t ≡ Some (codes "true"))) (first_value-rows found (codes "leases")) c.is_set-leases.ensures;
    }
