use Rattle.lease_disk.proofs.WrittenLemmas.{not_written, then_synced}
use Rattle.lease_disk.proofs.DoubtLemmas.{keeps_stop, keeps_synced}
use Rattle.lease_disk.proofs.writing.write_synced.Goals as goal

pub returns-in_err-write_at-clause-written : goal.returns-in_err-write_at-clause-written
returns-in_err-write_at-clause-written g c =
    let e = c.in_err-write_at.ensures in
    not_written g.D.Disk.tells c.args.region c.args.at c.args.bytes.now c.from_residual.result (g.D.Disk.device c.args.disk.now) (g.D.Disk.device c.write_at.new.self) c.from_residual.ensures.0 e.err e.answer e.frame e.writes e.failures

pub returns-clause-written : goal.returns-clause-written
returns-clause-written g c =
    let e = c.in_ok-write_at.ensures in
    then_synced g.D.Disk.tells c.args.region c.args.at c.args.bytes.now c.sync.result (g.D.Disk.device c.args.disk.now) (g.D.Disk.device c.write_at.new.self) (g.D.Disk.device c.sync.new.self)
    (record { ok = e.ok; answer = e.answer; failing_call = e.failing_call; frame = e.frame; writes = e.writes; failures = e.failures })
    (record { ok = c.sync.ensures.ok; err = c.sync.ensures.err; answer = c.sync.ensures.answer; failing_call = c.sync.ensures.failing_call; frame = c.sync.ensures.frame; writes = c.sync.ensures.writes; failures = c.sync.ensures.failures })

pub returns-in_err-write_at-clause-doubt : goal.returns-in_err-write_at-clause-doubt
returns-in_err-write_at-clause-doubt g c =
    keeps_stop c.args.region _ c.from_residual.result (g.D.Disk.doubt c.args.disk.now) (g.D.Disk.doubt c.write_at.new.self) c.from_residual.ensures.0 c.in_err-write_at.ensures.settled

pub returns-clause-doubt : goal.returns-clause-doubt
returns-clause-doubt g c =
    keeps_synced c.args.region c.sync.result (g.D.Disk.doubt c.args.disk.now) (g.D.Disk.doubt c.write_at.new.self) (g.D.Disk.doubt c.sync.new.self) c.in_ok-write_at.ensures.settled.stay c.sync.ensures.settled c.sync.ensures.stay
