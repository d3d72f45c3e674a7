use Rattle.std.proofs.Common.{◌≡◌, ◌∙◌, ap}
use Rattle.serde_json.specs.Data.{no_members, object}
use Rattle.serde_json.specs.View.{members_view}
use Rattle.serde_json.proofs.Views.{view-Object}
use Rattle.lease_list.specs.Line.{with_client, with_end, with_place}
use Rattle.lease_list.proofs.LineLemmas.{all_members, members_stand}
use Rattle.lease_list.proofs.line.row_value.Goals as goal

pub returns : goal.returns
returns c =
    let empty : members_view c.new-map.result.entries ≡ no_members = ap members_view c.new-map.ensures.empty in
    let placed = c.in_ok-put_place.ensures ∙ ap (with_place _ _ _) empty in
    let whose = c.in_ok-put_client.ensures ∙ ap (with_client _ _) placed in
    let ended = c.in_ok-put_end.ensures ∙ ap (with_end _ _ _) whose in
    view-Object c.put_end.new.map ∙ ap object ended ∙ ap all_members c.row.view_is ∙ members_stand c.args.row
