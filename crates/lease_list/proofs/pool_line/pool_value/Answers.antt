use Rattle.std.proofs.Common.{◌≡◌, ◌∙◌, ap}
use Rattle.serde_json.specs.Data.{no_members, object}
use Rattle.serde_json.specs.View.{members_view}
use Rattle.serde_json.proofs.Views.{view-Object}
use Rattle.lease_list.specs.Pool.{with_pool, with_range, with_usage}
use Rattle.lease_list.proofs.PoolLemmas.{all_members, members_stand}
use Rattle.lease_list.proofs.pool_line.pool_value.Goals as goal

pub returns : goal.returns
returns c =
    let empty : members_view c.new-map.result.entries ≡ no_members = ap members_view c.new-map.ensures.empty in
    let pool = c.in_ok-put_pool.ensures ∙ ap (with_pool _ _) empty in
    let range = c.in_ok-put_range.ensures ∙ ap (with_range _ _) pool in
    let used = c.in_ok-put_usage.ensures ∙ ap (with_usage _) range in
    view-Object c.put_usage.new.map ∙ ap object used ∙ ap all_members c.row.view_is ∙ members_stand c.args.row
