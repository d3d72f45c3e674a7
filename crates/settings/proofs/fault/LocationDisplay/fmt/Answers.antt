use Rattle.std.proofs.Common.{◌++◌, ap, sym, ◌∙◌}
use Rattle.std.proofs.Output.{has_written_of_eq}
use Rattle.std.specs.Prelude.{codes}
use Rattle.settings.specs.Names.{circuit_key}
use Rattle.settings.specs.Words.{circuit_name, missing_words}
use Rattle.settings.proofs.fault.LocationDisplay.fmt.Goals as goal

pub returns-in-Circuit-clause-writes : goal.returns-in-Circuit-clause-writes
returns-in-Circuit-clause-writes g c = λ plain ok.
    let named = c.in-Circuit in
    let kind = ap (λ k. codes "circuit " ++ (circuit_name named.circuit ++ (codes ": " ++ (circuit_key named.key ++ (codes " is missing or not " ++ k))))) c.kind-kind.ensures in
    has_written_of_eq _ _ _ _ _ (kind ∙ sym (ap missing_words named.is)) (c.write-in-Circuit.ensures.writes plain ok)
