use Rattle.std.proofs.Common.{sym, subst, rules}
use Rattle.circuit_server.specs.CircuitServerValue.{HasPools}
use Rattle.circuit_server.specs.Deadlines.{HasEntries}
use Rattle.circuit_server.specs.Ticked.{IsLater}
use Rattle.circuit_server.proofs.DeadlineLemmas.{unchanged_entries}
use Rattle.circuit_server.proofs.PreparedLemmas.{marked_entries, marked_later, marked_pools}
use Rattle.circuit_server.proofs.circuit_server.CircuitServer.settle_decision.Goals as goal

pub returns-clause-later : goal.returns-clause-later
returns-clause-later g c moment was = subst (IsLater moment) (sym c.set_marks.ensures) (marked_later moment c.in-Ok.marks c.args.self.now was)

pub returns-clause-pools : goal.returns-clause-pools
returns-clause-pools g c = subst (HasPools c.args.part.now) (sym c.set_marks.ensures) (marked_pools c.args.part.now c.in-Ok.marks c.args.self.now c.requires.pools)

pub returns-clause-entries : goal.returns-clause-entries
returns-clause-entries g c =
    unchanged_entries c.args.table.now c.args.circuit c.set_marks.new.self
    (subst (HasEntries c.args.table.now c.args.circuit) (sym c.set_marks.ensures) (marked_entries c.args.table.now c.args.circuit c.in-Ok.marks c.args.self.now c.requires.entries))

pub returns-clause-settled : goal.returns-clause-settled
returns-clause-settled c = search rules
