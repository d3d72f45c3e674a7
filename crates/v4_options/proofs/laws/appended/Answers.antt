use Rattle.v4_options.proofs.Left.{spelling-append, AreOptions-append, look_up-append_same, look_up-append_other}
use Rattle.v4_options.proofs.laws.appended.Goals as goal

pub returns : goal.returns
returns c = record {
  bytes = spelling-append;
  distinct = AreOptions-append;
  found = look_up-append_same;
  others = look_up-append_other;
}
