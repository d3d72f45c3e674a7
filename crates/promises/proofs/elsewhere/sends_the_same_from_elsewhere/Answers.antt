use Rattle.promises.proofs.ElsewhereLemmas.{frames_elsewhere}
use Rattle.promises.proofs.elsewhere.sends_the_same_from_elsewhere.Goals as goal

pub returns : goal.returns
returns x relay listen4 listen6 setup seen a = frames_elsewhere relay listen4 listen6 setup seen a
