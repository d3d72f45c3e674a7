-- The members of a line's JSON stand in the order of their names, in whichever order they are put in.
use Rattle.std.proofs.Common.{◌≡◌, refl}
use Rattle.serde_json.specs.Data.{Data, object, no_members}
use Rattle.serde_json.proofs.OnLiterals.{serde_json_on_literals}
use Rattle.lease_list.specs.Line.{with_client, with_end, with_place}
use Rattle.lease_list.specs.Row.{Texts, line_data}

-- all members, put in one after the other
abbrev pub all_members : Texts → Data
all_members t = object (with_end t.until t.date t.left (with_client t.client t.iaid (with_place t.circuit t.address t.state no_members)))

pub members_stand : (t : Texts) → all_members t ≡ line_data t
unfolding serde_json_on_literals
members_stand t = refl
