use Rattle.dispatch.proofs.OneByOne.{batch_answers, batch_back, batch_books}
use Rattle.dispatch.proofs.laws.is_one_by_one.Goals as goal

pub returns : goal.returns
returns c = λ topology parts fails old new answers apart. (
  λ batch. (batch_answers topology fails parts old new answers apart batch, batch_books topology fails parts old new answers apart batch),
  λ both. batch_back topology fails parts old new answers apart both.0 both.1,
)
