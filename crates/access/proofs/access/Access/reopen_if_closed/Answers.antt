use Rattle.std.proofs.Common.{◌≡◌, ◌∙◌, ap, true, rules}
use Rattle.circuit_server.specs.Ticked.{server_state}
use Rattle.access.specs.Access.{AccessValue}
use Rattle.access.proofs.ServiceLemmas.{closed_if, open_if, within_of}
use Rattle.access.proofs.access.Access.reopen_if_closed.Goals as goal

pub returns-then-not-is_open-clause-open : goal.returns-then-not-is_open-clause-open
returns-then-not-is_open-clause-open g c = λ o is.
    let here = ap (λ (s : AccessValue). server_state s.server.states c.args.circuit) c.self.view_is ∙ is in
    let within = within_of c.args.circuit _ _ c.self.view_is c.requires in
    let yes : c.is_open.result ≡ true = c.is_open.ensures.1 (open_if c.self.inside.server c.args.circuit o within here) in
    let no = c.if-not-is_open.true in
    absurd cc

pub returns-else-not-is_open-clause-closed : goal.returns-else-not-is_open-clause-closed
returns-else-not-is_open-clause-closed g c = λ is.
    let here = ap (λ (s : AccessValue). server_state s.server.states c.args.circuit) c.self.view_is ∙ is in
    let within = within_of c.args.circuit _ _ c.self.view_is c.requires in
    let closed = closed_if c.self.inside.server c.args.circuit within here in
    let yes = c.if-not-is_open.false in
    let opened = c.is_open.ensures.0 (search rules) in
    absurd cc
