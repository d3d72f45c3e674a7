use Rattle.std.proofs.Common.{refl, arith, ◌∙◌}
use Rattle.lease_disk.proofs.Reading.{goes_first, goes_on, goes_not, goes_all}
use Rattle.lease_disk.proofs.pool.read_pool.Goals as goal

pub entries-init : goal.entries-init
entries-init g c = goes_first _ 16 _ refl

pub returns-in_err-entries : goal.returns-in_err-entries
returns-in_err-entries g c = c.from_residual.ensures ∙ goes_not _ 16 _ _ c.entries.invariant (omega arith) c.in_err-entries.ensures

pub entries-preserved : goal.entries-preserved
entries-preserved g c = goes_on _ 16 _ _ _ c.entries.invariant (omega arith) c.in_ok-entries.ensures

pub returns : goal.returns
returns g c = goes_all _ 16 _ _ c.entries.invariant (omega arith)
