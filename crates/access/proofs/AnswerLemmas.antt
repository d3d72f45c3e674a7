-- What is made of a datagram goes on, or is dropped.
use Rattle.std.proofs.Common.{◌≡◌, ◌∙◌, ℕ, List, ap, subst}
use Rattle.std.specs.Prelude.{Result, Ok, Err}
use Rattle.types.specs.declared.addr.Source.{Source}
use Rattle.types.specs.declared.discard.Discard.{Discard}
use Rattle.circuit_server.specs.Answered.{IsAnswer}
use Rattle.udp.specs.History.{Entry}
use Rattle.udp.specs.declared.history.Role.{Role}
use Rattle.access.specs.Turn.{HasSentOn, with_bytes}
use Rattle.counts.specs.declared.counts.Fate.{Fate}

-- what a call made is its answer
pub made_is : (made : Result (List ℕ) Discard) (result : Result (Unit {0}) Discard) (out : List ℕ) → IsAnswer made result out → with_bytes result out ≡ made
made_is (Ok bytes) (Ok unit) out is = ap Ok is.1
made_is (Ok bytes) (Err why) out is = let never : Err why ≡ Ok tt = is.0 in absurd cc
made_is (Err why) (Ok unit) out is = let never : Ok unit ≡ Err why = is.0 in absurd cc
made_is (Err why) (Err other) out is = let never : Err other ≡ Err why = is.0 in let same : other ≡ why = cc in ap Err same

-- what was sent on, by what the arguments of the call are
pub went : (socket its : Role) (to where_to : Source) (done : Fate) (made : Result (List ℕ) Discard) (result : Result (Unit {0}) Discard) (bytes out : List ℕ) (old new : List Entry) (became : Fate)
    → socket ≡ its → to ≡ where_to → bytes ≡ out → IsAnswer made result out → HasSentOn socket to done (with_bytes result bytes) old new became → HasSentOn its where_to done made old new became
went socket its to where_to done made result bytes out old new became s t b answer h =
    subst (λ x. HasSentOn x where_to done made old new became) s (subst (λ y. HasSentOn socket y done made old new became) t
    (subst (λ m. HasSentOn socket to done m old new became) (ap (with_bytes result) b ∙ made_is made result out answer) h))
