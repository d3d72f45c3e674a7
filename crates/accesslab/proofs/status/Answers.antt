use Rattle.std.proofs.Common.{length, arith}
use Rattle.std.proofs.lemmas.List.{length-map}
use Rattle.accesslab.proofs.status.Goals as goal

pub run-requires-clause-least : goal.run-requires-clause-least
run-requires-clause-least c = c.in-Ok-words.ensures.values.values.quota_is.at_least

pub run-requires-clause-most : goal.run-requires-clause-most
run-requires-clause-most c = c.in-Ok-words.ensures.values.values.quota_is.at_most

pub run-requires-clause-some : goal.run-requires-clause-some
run-requires-clause-some c =
    let count = length-map c.in-Ok-words.values.configs.items (λ path. path.now) in
    let some = c.in-Ok-words.ensures.values.values.some in
    omega (arith, count, some)

pub run-requires-clause-few : goal.run-requires-clause-few
run-requires-clause-few c =
    let count = length-map c.in-Ok-words.values.configs.items (λ path. path.now) in
    let few = c.in-Ok-words.ensures.values.values.few in
    omega (arith, count, few)
