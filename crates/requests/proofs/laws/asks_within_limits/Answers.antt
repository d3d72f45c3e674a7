use Rattle.requests.proofs.LimitLemmas6.{is_asked}
use Rattle.requests.proofs.laws.asks_within_limits.Goals as goal

pub returns : goal.returns
returns c = record {
  id = λ duid message m request e. (is_asked duid m request message e).id;
  least = λ duid message m request e. (is_asked duid m request message e).least;
  most = λ duid message m request e. (is_asked duid m request message e).most;
  few = λ duid message m request e. (is_asked duid m request message e).few;
  whole = λ duid message m request e. (is_asked duid m request message e).whole;
}
