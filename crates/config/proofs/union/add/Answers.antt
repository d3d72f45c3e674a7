use Rattle.std.proofs.Common.{◌++◌, [], ◌∷◌, ap, ◌∙◌}
use Rattle.config.proofs.UnionLemmas.{is_added, is_there_already}
use Rattle.config.proofs.union.add.Goals as goal

pub returns-in_ok-push-clause-once : goal.returns-in_ok-push-clause-once
returns-in_ok-push-clause-once c = λ before so_far.
    c.in_ok-push.ensures.items ∙ ap (λ one. c.args.circuits.now.items ++ one ∷ []) c.copy-then-branch.ensures
    ∙ is_added before c.args.circuits.now.items c.args.circuit.now c.args.index.now c.copy.result c.in_ok-add.field-0
    c.requires c.copy.ensures c.in_ok-add.ensures.added c.if-branch.true so_far

pub returns-else-branch-clause-once : goal.returns-else-branch-clause-once
returns-else-branch-clause-once c = λ before so_far.
    is_there_already before c.args.circuits.now.items c.args.circuit.now c.args.index.now c.copy.result c.in_ok-add.field-0
    c.requires c.copy.ensures c.in_ok-add.ensures.added c.if-branch.false so_far
