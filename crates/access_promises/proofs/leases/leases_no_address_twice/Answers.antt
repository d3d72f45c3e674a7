use Rattle.std.proofs.Common.{◌≡◌, ℕ, sym, ap, subst, ◌∙◌}
use Rattle.std.specs.Prelude.{Some, slice_get}
use Rattle.config.specs.CircuitPart.{CircuitPart, part_in}
use Rattle.config.specs.Topology.{Topology, topology_of}
use Rattle.promises.specs.Books.{IsInPool}
use Rattle.promises.proofs.ConfigLemmas.{pools_apart}
use Rattle.settings.specs.Settings.{Settings}
use Rattle.access_promises.proofs.LeasesInRuns.{inside_in, once_in}
use Rattle.access_promises.proofs.leases.leases_no_address_twice.Goals as goal

pub returns-clause-once : goal.returns-clause-once
returns-clause-once x c part old new exchanges before between after s t p g h its are grants again same apart =
    once_in c part old new exchanges its p g before between after s t h are grants again same apart

pub returns-clause-pool : goal.returns-clause-pool
returns-clause-pool x c part old new exchanges p g its grants = inside_in c part old new exchanges its p g grants

part_there : (settings : Settings) (c : ℕ) (part : CircuitPart) (topology : Topology) → topology ≡ topology_of settings → slice_get topology.circuits c ≡ Some part → part_in settings c ≡ Some part
part_there settings c part topology is at = ap (λ (t : Topology). slice_get t.circuits c) (sym is) ∙ at

pub returns-clause-apart : goal.returns-clause-apart
returns-clause-apart x settings c d part other old new start end exchanges others p g h sound here there differ its yours grants again same =
    let first = inside_in c part old new exchanges its p g grants in
    let second = inside_in d other start end others yours p h again in
    pools_apart settings sound p c d part other (part_there settings c part old.topology here its.at) (part_there settings d other start.topology there yours.at) differ g.address first
    (subst (IsInPool other p) (sym same) second)
