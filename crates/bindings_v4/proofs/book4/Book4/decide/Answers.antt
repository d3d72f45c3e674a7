use Rattle.bindings_v4.specs.Lookup4.{lookup_of}
use Rattle.bindings_v4.proofs.RowLemmas.{decision_is, answer_is, keep_is, book_is, slot_is, slots_are, written_is}
use Rattle.bindings_v4.proofs.LimitLemmas.{decided_in_time, offered_in_time}
use Rattle.bindings_v4.proofs.book4.Book4.decide.Goals as goal

pub returns-clause-exact : goal.returns-clause-exact
returns-clause-exact c =
    let v = c.args.self.now in
    let m = c.args.request.now in
    let are = c.look_up-found.ensures.slots in
    decision_is v c.args.clock m are c.pool.result (lookup_of c.look_up-found.result) c.decision_for.result c.pool.ensures c.look_up-found.ensures.found c.decision_for.ensures

pub returns-clause-answer : goal.returns-clause-answer
returns-clause-answer c =
    let v = c.args.self.now in
    let m = c.args.request.now in
    let are = c.look_up-found.ensures.slots in
    let d = c.decision_for.result in
    answer_is v c.args.clock m are d (decision_is v c.args.clock m are c.pool.result (lookup_of c.look_up-found.result) d c.pool.ensures c.look_up-found.ensures.found c.decision_for.ensures)

pub returns-clause-keep : goal.returns-clause-keep
returns-clause-keep c =
    let v = c.args.self.now in
    let m = c.args.request.now in
    let are = c.look_up-found.ensures.slots in
    let d = c.decision_for.result in
    keep_is v c.args.clock m are d (decision_is v c.args.clock m are c.pool.result (lookup_of c.look_up-found.result) d c.pool.ensures c.look_up-found.ensures.found c.decision_for.ensures)

pub returns-clause-book : goal.returns-clause-book
returns-clause-book c =
    let v = c.args.self.now in
    let m = c.args.request.now in
    let are = c.look_up-found.ensures.slots in
    let d = c.decision_for.result in
    book_is v c.args.clock m are d (decision_is v c.args.clock m are c.pool.result (lookup_of c.look_up-found.result) d c.pool.ensures c.look_up-found.ensures.found c.decision_for.ensures)

pub returns-clause-within : goal.returns-clause-within
returns-clause-within c =
    let v = c.args.self.now in
    let m = c.args.request.now in
    let are = c.look_up-found.ensures.slots in
    let d = c.decision_for.result in
    decided_in_time v c.args.clock are m d (decision_is v c.args.clock m are c.pool.result (lookup_of c.look_up-found.result) d c.pool.ensures c.look_up-found.ensures.found c.decision_for.ensures)

pub returns-clause-offer : goal.returns-clause-offer
returns-clause-offer c =
    let v = c.args.self.now in
    let m = c.args.request.now in
    let are = c.look_up-found.ensures.slots in
    let d = c.decision_for.result in
    offered_in_time v c.args.clock are m d (decision_is v c.args.clock m are c.pool.result (lookup_of c.look_up-found.result) d c.pool.ensures c.look_up-found.ensures.found c.decision_for.ensures)

pub returns-clause-slot : goal.returns-clause-slot
returns-clause-slot c =
    let v = c.args.self.now in
    let m = c.args.request.now in
    let are = c.look_up-found.ensures.slots in
    let d = c.decision_for.result in
    slot_is v c.args.clock m are d (decision_is v c.args.clock m are c.pool.result (lookup_of c.look_up-found.result) d c.pool.ensures c.look_up-found.ensures.found c.decision_for.ensures)

pub returns-clause-kept : goal.returns-clause-kept
returns-clause-kept c =
    let v = c.args.self.now in
    let m = c.args.request.now in
    let are = c.look_up-found.ensures.slots in
    let d = c.decision_for.result in
    slots_are v c.args.clock m are d (decision_is v c.args.clock m are c.pool.result (lookup_of c.look_up-found.result) d c.pool.ensures c.look_up-found.ensures.found c.decision_for.ensures)

pub returns-clause-few : goal.returns-clause-few
returns-clause-few c = c.look_up-found.ensures.slots.limits.most

pub returns-clause-size : goal.returns-clause-size
returns-clause-size c = c.look_up-found.ensures.slots.size

pub returns-clause-others : goal.returns-clause-others
returns-clause-others c =
    let v = c.args.self.now in
    let m = c.args.request.now in
    let are = c.look_up-found.ensures.slots in
    let d = c.decision_for.result in
    written_is v c.args.clock m are d (decision_is v c.args.clock m are c.pool.result (lookup_of c.look_up-found.result) d c.pool.ensures c.look_up-found.ensures.found c.decision_for.ensures)
