use Rattle.std.proofs.Common.{length, arith}
use Rattle.settings.specs.Keys.{HasRelayKeys}
use Rattle.settings.specs.Broken.{IsRelayUnfit}
use Rattle.settings.specs.Tables.{relay_entry}
use Rattle.settings.specs.Values.{IsRelay}
use Rattle.settings.proofs.ReadLemmas.{count_read, each_reads_all, length-entries, numbered, one_of_all, one_side}
use Rattle.settings.proofs.reading.relays_in.Goals as goal

pub returns-then-count-lt1-clause-unread : goal.returns-then-count-lt1-clause-unread
returns-then-count-lt1-clause-unread c = λ server circuits.
    (length-entries relay_entry c.args.entries.now, one_side (length c.args.entries.now) 8 c.then-count-lt1.either)

pub relay_in-requires : goal.relay_in-requires
relay_in-requires c =
    one_of_all HasRelayKeys relay_entry c.args.entries.now c.loop-i.i c.index-entries-i.result c.loop-i-test.true c.index-entries-i.is c.requires

pub returns-in-Err-clause-unread : goal.returns-in-Err-clause-unread
returns-in-Err-clause-unread c = λ server circuits.
    let entry = numbered (λ keys. IsRelayUnfit keys c.in-Err.key) relay_entry c.args.entries.now c.loop-i.i c.index-entries-i.result c.loop-i-test.true c.index-entries-i.is c.in-Err.ensures.err in
    (entry.0, entry.1, entry.3)

pub returns-clause-read : goal.returns-clause-read
returns-clause-read c = each_reads_all IsRelay relay_entry c.args.entries.now c.loop-i.i c.loop-i.relays.items c.loop-i-test.false c.loop-i.invariant

pub returns-clause-some : goal.returns-clause-some
returns-clause-some c =
    let read = each_reads_all IsRelay relay_entry c.args.entries.now c.loop-i.i c.loop-i.relays.items c.loop-i-test.false c.loop-i.invariant in
    let count = count_read IsRelay relay_entry c.args.entries.now c.loop-i.relays.items read in
    omega (arith, count, c.if-count-lt1.false)

pub returns-clause-few : goal.returns-clause-few
returns-clause-few c =
    let read = each_reads_all IsRelay relay_entry c.args.entries.now c.loop-i.i c.loop-i.relays.items c.loop-i-test.false c.loop-i.invariant in
    let count = count_read IsRelay relay_entry c.args.entries.now c.loop-i.relays.items read in
    omega (arith, count, c.if-count-gt-MAX_RELAYS.false)
