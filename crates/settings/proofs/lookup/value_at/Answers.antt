use Rattle.std.proofs.Common.{ap, ◌∙◌}
use Rattle.toml.proofs.Views.{table_get}
use Rattle.toml.specs.Data.{get_member}
use Rattle.toml.specs.View.{table_view}
use Rattle.settings.proofs.lookup.value_at.Goals as goal

pub returns : goal.returns
returns g c =
    let table = c.args.table.now in
    table_get c.get.result c.name.result.now table.entries c.get.ensures.value ∙ ap (λ key. get_member key (table_view table)) c.name.ensures
