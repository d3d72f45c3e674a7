use Rattle.std.proofs.Common.{◌∙◌, arith}
use Rattle.lease_disk.proofs.Calls.{calls_stop, calls_then}
use Rattle.lease_disk.proofs.DoubtLemmas.{keeps_stop, keeps_then}
use Rattle.lease_disk.proofs.FormatLemmas.{at_err, on_fault}
use Rattle.lease_disk.proofs.Moves.{half_first, half_second}
use Rattle.lease_disk.proofs.migrating.write_moved.Goals as goal

pub returns-in_err-write_synced-clause-err : goal.returns-in_err-write_synced-clause-err
returns-in_err-write_synced-clause-err g c = λ tells.
    let e = c.in_err-write_synced.ensures.written in
    at_err c.from_residual.result (half_first c.args.halves.now c.requires.all ((g.D.Disk.device c.args.disk.now).region c.args.region) ((g.D.Disk.device c.args.disk.now).failing_call c.args.region) ((g.D.Disk.device c.write_synced.new.disk).region c.args.region)
    (e.calls.answer tells) (e.err tells) (e.reads tells))

pub returns-clause-err : goal.returns-clause-err
returns-clause-err g c = λ tells.
    let e = c.in_ok-write_synced.ensures.written in
    let last = c.write_synced-2.ensures.written in
    on_fault c.write_synced-2.result (λ failed torn.
    half_second c.args.halves.now c.requires.all ((g.D.Disk.device c.args.disk.now).region c.args.region) ((g.D.Disk.device c.args.disk.now).failing_call c.args.region) ((g.D.Disk.device c.write_synced.new.disk).failing_call c.args.region)
    ((g.D.Disk.device c.write_synced.new.disk).region c.args.region) ((g.D.Disk.device c.write_synced-2.new.disk).region c.args.region) (e.ok tells) (e.calls.failing_call tells) (failed ∙ last.calls.answer tells) torn (last.reads tells)) (last.err tells)

pub returns-in_err-write_synced-clause-calls : goal.returns-in_err-write_synced-clause-calls
returns-in_err-write_synced-clause-calls g c =
    calls_stop g.D.Disk.tells 2 4 c.args.region _ c.from_residual.result (g.D.Disk.device c.args.disk.now) (g.D.Disk.device c.write_synced.new.disk)
    c.from_residual.ensures.0 (omega arith) c.in_err-write_synced.ensures.written.calls

pub returns-clause-calls : goal.returns-clause-calls
returns-clause-calls g c =
    calls_then g.D.Disk.tells 2 2 c.args.region _ c.write_synced-2.result (g.D.Disk.device c.args.disk.now) (g.D.Disk.device c.write_synced.new.disk) (g.D.Disk.device c.write_synced-2.new.disk)
    c.in_ok-write_synced.ensures.written.calls c.write_synced-2.ensures.written.calls

pub returns-in_err-write_synced-clause-doubt : goal.returns-in_err-write_synced-clause-doubt
returns-in_err-write_synced-clause-doubt g c =
    keeps_stop c.args.region _ c.from_residual.result (g.D.Disk.doubt c.args.disk.now) (g.D.Disk.doubt c.write_synced.new.disk) c.from_residual.ensures.0 c.in_err-write_synced.ensures.doubt

pub returns-clause-doubt : goal.returns-clause-doubt
returns-clause-doubt g c =
    keeps_then c.args.region _ c.write_synced-2.result (g.D.Disk.doubt c.args.disk.now) (g.D.Disk.doubt c.write_synced.new.disk) (g.D.Disk.doubt c.write_synced-2.new.disk) c.in_ok-write_synced.ensures.doubt c.write_synced-2.ensures.doubt
