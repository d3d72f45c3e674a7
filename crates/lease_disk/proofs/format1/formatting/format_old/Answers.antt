use Rattle.std.proofs.Common.{◌∙◌, arith, refl, rules}
use Rattle.lease_disk.proofs.Calls.{calls_stop, calls_then}
use Rattle.lease_disk.proofs.FormatLemmas.{on_ok, on_err, on_fault, at_err, half_first, half_second, is_formatted_old, old_left_first, old_left_last, old_rest}
use Rattle.lease_disk.specs.Layout.{formatted_old, gate_open}
use Rattle.lease_disk.proofs.format1.formatting.format_old.Goals as goal

pub returns-in_err-write_synced-clause-err : goal.returns-in_err-write_synced-clause-err
returns-in_err-write_synced-clause-err g c = λ tells.
    at_err c.from_residual.result (old_left_first ((g.D.Disk.device c.args.disk.now).failing_call c.args.region) ((g.D.Disk.device c.write_synced.new.disk).region c.args.region) (c.in_err-write_synced.ensures.written.calls.answer tells))

pub returns-clause-ok : goal.returns-clause-ok
returns-clause-ok g c = λ tells.
    on_ok c.write_synced-2.result (is_formatted_old c.closed_banks.new.bytes ((g.D.Disk.device c.args.disk.now).region c.args.region) ((g.D.Disk.device c.write_synced.new.disk).region c.args.region) ((g.D.Disk.device c.write_synced-2.new.disk).region c.args.region)
    (search rules) c.closed_banks.ensures (c.in_ok-write_synced.ensures.written.ok tells)) (c.write_synced-2.ensures.written.ok tells)

pub returns-clause-err : goal.returns-clause-err
returns-clause-err g c = λ tells.
    on_err c.write_synced-2.result (old_left_last ((g.D.Disk.device c.args.disk.now).failing_call c.args.region) c.closed_banks.new.bytes ((g.D.Disk.device c.args.disk.now).region c.args.region) ((g.D.Disk.device c.write_synced.new.disk).region c.args.region) ((g.D.Disk.device c.write_synced-2.new.disk).region c.args.region)
    (search rules) c.closed_banks.ensures (c.in_ok-write_synced.ensures.written.ok tells)) (c.write_synced-2.ensures.written.err tells)

pub returns-in_err-write_synced-clause-left : goal.returns-in_err-write_synced-clause-left
returns-in_err-write_synced-clause-left g c = λ tells.
    let e = c.in_err-write_synced.ensures.written in
    let bytes = c.closed_banks.new.bytes in
    at_err c.from_residual.result (half_first 0 formatted_old bytes ((g.D.Disk.device c.args.disk.now).region c.args.region) (search rules) (omega arith) (old_rest bytes c.closed_banks.ensures) (c.closed_banks.ensures 0)
    ((g.D.Disk.device c.args.disk.now).failing_call c.args.region) ((g.D.Disk.device c.write_synced.new.disk).region c.args.region) (e.calls.answer tells) (e.err tells) (e.reads tells))

pub returns-clause-left : goal.returns-clause-left
returns-clause-left g c = λ tells.
    let e = c.in_ok-write_synced.ensures.written in
    let last = c.write_synced-2.ensures.written in
    let bytes = c.closed_banks.new.bytes in
    on_fault c.write_synced-2.result (λ failed torn.
    half_second 0 formatted_old bytes ((g.D.Disk.device c.args.disk.now).region c.args.region) (search rules) (omega arith) (old_rest bytes c.closed_banks.ensures) (c.closed_banks.ensures 0)
    ((g.D.Disk.device c.args.disk.now).failing_call c.args.region) ((g.D.Disk.device c.write_synced.new.disk).failing_call c.args.region) ((g.D.Disk.device c.write_synced.new.disk).region c.args.region) ((g.D.Disk.device c.write_synced-2.new.disk).region c.args.region)
    gate_open refl (e.ok tells) (e.calls.failing_call tells) (failed ∙ last.calls.answer tells) torn (last.reads tells)) (last.err tells)

pub returns-in_err-write_synced-clause-calls : goal.returns-in_err-write_synced-clause-calls
returns-in_err-write_synced-clause-calls g c =
    calls_stop g.D.Disk.tells 2 4 c.args.region _ c.from_residual.result (g.D.Disk.device c.args.disk.now) (g.D.Disk.device c.write_synced.new.disk)
    c.from_residual.ensures.0 (omega arith) c.in_err-write_synced.ensures.written.calls

pub returns-clause-calls : goal.returns-clause-calls
returns-clause-calls g c =
    calls_then g.D.Disk.tells 2 2 c.args.region _ c.write_synced-2.result (g.D.Disk.device c.args.disk.now) (g.D.Disk.device c.write_synced.new.disk) (g.D.Disk.device c.write_synced-2.new.disk)
    c.in_ok-write_synced.ensures.written.calls c.write_synced-2.ensures.written.calls
