use Rattle.std.proofs.Common.{length, arith, subst}
use Rattle.std.specs.Prelude.{ℕ, List, IfSome, IfNone}
use Rattle.settings.specs.Broken.{HasId, IsCircuitUnfit}
use Rattle.settings.specs.Keys.{HasCircuitKeys}
use Rattle.settings.specs.Tables.{circuit_entry}
use Rattle.settings.specs.Values.{IsCircuit}
use Rattle.settings.proofs.ReadLemmas.{count_read, each_reads_all, length-entries, numbered, one_of_all, one_side}
use Rattle.settings.proofs.reading.circuits_in.Goals as goal

pub returns-then-count-lt1-clause-unread : goal.returns-then-count-lt1-clause-unread
returns-then-count-lt1-clause-unread c = λ server relays.
    (length-entries circuit_entry c.args.entries.now, one_side (length c.args.entries.now) 1024 c.then-count-lt1.either)

pub circuit_in-requires-clause-keys : goal.circuit_in-requires-clause-keys
circuit_in-requires-clause-keys c =
    let keys = c.requires.keys in
    (keys.0, keys.1, one_of_all (HasCircuitKeys keys.0) circuit_entry c.args.entries.now c.loop-i.i c.index-entries-i.result c.loop-i-test.true c.index-entries-i.is keys.2)

pub returns-in-Err-clause-unread : goal.returns-in-Err-clause-unread
returns-in-Err-clause-unread c = λ server relays.
    let entry = numbered (λ keys. IsCircuitUnfit keys c.in-Err.limit) circuit_entry c.args.entries.now c.loop-i.i c.index-entries-i.result c.loop-i-test.true c.index-entries-i.is c.in-Err.ensures.err in
    let id = subst (λ f. IfSome c.entry_id-id.result (HasId f)) entry.2 c.entry_id-id.ensures.some in
    let no_id = subst (λ f. IfNone c.entry_id-id.result ((id : List ℕ) → ¬ HasId f id)) entry.2 c.entry_id-id.ensures.none in
    (entry.0, record { is = entry.1; id = id; no_id = no_id }, entry.3)

pub returns-clause-read : goal.returns-clause-read
returns-clause-read c = each_reads_all (IsCircuit c.args.relays.now) circuit_entry c.args.entries.now c.loop-i.i c.loop-i.circuits.items c.loop-i-test.false c.loop-i.invariant

pub returns-clause-some : goal.returns-clause-some
returns-clause-some c =
    let read = each_reads_all (IsCircuit c.args.relays.now) circuit_entry c.args.entries.now c.loop-i.i c.loop-i.circuits.items c.loop-i-test.false c.loop-i.invariant in
    let count = count_read (IsCircuit c.args.relays.now) circuit_entry c.args.entries.now c.loop-i.circuits.items read in
    omega (arith, count, c.if-count-lt1.false)

pub returns-clause-few : goal.returns-clause-few
returns-clause-few c =
    let read = each_reads_all (IsCircuit c.args.relays.now) circuit_entry c.args.entries.now c.loop-i.i c.loop-i.circuits.items c.loop-i-test.false c.loop-i.invariant in
    let count = count_read (IsCircuit c.args.relays.now) circuit_entry c.args.entries.now c.loop-i.circuits.items read in
    omega (arith, count, c.if-count-gt-MAX_CIRCUITS.false)
