use Rattle.std.proofs.Common.{◌∙◌, arith, refl, rules}
use Rattle.lease_disk.proofs.FormatLemmas.{on_ok, on_err, on_fault, at_err, half_first, half_second, is_formatted, left_first, left_last, open_rest}
use Rattle.lease_disk.specs.Layout.{formatted}
use Rattle.lease_disk.proofs.format2.formatting.format.Goals as goal

pub returns-in_err-write_synced-clause-err : goal.returns-in_err-write_synced-clause-err
returns-in_err-write_synced-clause-err g c = λ tells.
    at_err c.from_residual.result (left_first ((g.D.Disk.device c.args.disk.now).failing_call c.args.region) ((g.D.Disk.device c.write_synced.new.disk).region c.args.region) (c.in_err-write_synced.ensures.written.calls.answer tells))

pub returns-clause-ok : goal.returns-clause-ok
returns-clause-ok g c = λ tells.
    on_ok c.write_synced-2.result (is_formatted c.open_first_halves.new.bytes ((g.D.Disk.device c.args.disk.now).region c.args.region) ((g.D.Disk.device c.write_synced.new.disk).region c.args.region) ((g.D.Disk.device c.write_synced-2.new.disk).region c.args.region)
    (search rules) c.open_first_halves.ensures (c.in_ok-write_synced.ensures.written.ok tells)) (c.write_synced-2.ensures.written.ok tells)

pub returns-clause-err : goal.returns-clause-err
returns-clause-err g c = λ tells.
    on_err c.write_synced-2.result (left_last ((g.D.Disk.device c.args.disk.now).failing_call c.args.region) c.open_first_halves.new.bytes ((g.D.Disk.device c.args.disk.now).region c.args.region) ((g.D.Disk.device c.write_synced.new.disk).region c.args.region) ((g.D.Disk.device c.write_synced-2.new.disk).region c.args.region)
    (search rules) c.open_first_halves.ensures (c.in_ok-write_synced.ensures.written.ok tells)) (c.write_synced-2.ensures.written.err tells)

pub returns-in_err-write_synced-clause-left : goal.returns-in_err-write_synced-clause-left
returns-in_err-write_synced-clause-left g c = λ tells.
    let e = c.in_err-write_synced.ensures.written in
    let bytes = c.open_first_halves.new.bytes in
    at_err c.from_residual.result (half_first 8192 formatted bytes ((g.D.Disk.device c.args.disk.now).region c.args.region) (search rules) (omega arith) (open_rest bytes c.open_first_halves.ensures) (c.open_first_halves.ensures 8192)
    ((g.D.Disk.device c.args.disk.now).failing_call c.args.region) ((g.D.Disk.device c.write_synced.new.disk).region c.args.region) (e.calls.answer tells) (e.err tells) (e.reads tells))

pub returns-clause-left : goal.returns-clause-left
returns-clause-left g c = λ tells.
    let e = c.in_ok-write_synced.ensures.written in
    let last = c.write_synced-2.ensures.written in
    let bytes = c.open_first_halves.new.bytes in
    on_fault c.write_synced-2.result (λ failed torn.
    half_second 8192 formatted bytes ((g.D.Disk.device c.args.disk.now).region c.args.region) (search rules) (omega arith) (open_rest bytes c.open_first_halves.ensures) (c.open_first_halves.ensures 8192)
    ((g.D.Disk.device c.args.disk.now).failing_call c.args.region) ((g.D.Disk.device c.write_synced.new.disk).failing_call c.args.region) ((g.D.Disk.device c.write_synced.new.disk).region c.args.region) ((g.D.Disk.device c.write_synced-2.new.disk).region c.args.region)
    2 refl (e.ok tells) (e.calls.failing_call tells) (failed ∙ last.calls.answer tells) torn (last.reads tells)) (last.err tells)
