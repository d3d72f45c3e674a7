use Rattle.std.proofs.Common.{ap, ◌∙◌, sym, option_map, Some}
use Rattle.toml.proofs.Views.{view-Table}
use Rattle.toml.specs.View.{view, table_view}
use Rattle.settings.specs.Field.{Value as Told}
use Rattle.settings.specs.Field.{table_of}
use Rattle.settings.proofs.lookup.table_at.Goals as goal

pub returns-in-Some-Table-clause-some : goal.returns-in-Some-Table-clause-some
returns-in-Some-Table-clause-some g c =
    let w = c.in-Some-Table in
    let at_key = ap table_of (sym c.value_at.ensures) in
    let found = ap (λ r. table_of (option_map (λ v. view v.now) r)) w.is in
    let seen = ap (λ d. table_of (Some d)) (ap view w.field-0-is ∙ view-Table w.keys) in
    at_key ∙ found ∙ seen ∙ ap (λ m. Told (table_view m)) (sym w.keys-is)
