use Rattle.std.proofs.Common.{◌≡◌, ◌+◌, ◌-◌, Some, slice_get, ap, sym, ◌∙◌, arith}
use Rattle.toml.specs.View.{view, items_view}
use Rattle.settings.specs.Field.{each}
use Rattle.settings.specs.Tables.{circuit_entry}
use Rattle.settings.proofs.EntryLemmas.{entry_at}
use Rattle.settings.proofs.keys.circuits_lack.Goals as goal

pub returns-in-Some-clause-some : goal.returns-in-Some-clause-some
returns-in-Some-clause-some c =
    let vs = c.args.entries.now in
    let i = c.loop-i.i in
    let back : i + 1 - 1 ≡ i = omega arith in
    let there = ap (slice_get (each circuit_entry (items_view vs))) back ∙ entry_at circuit_entry vs i c.index-entries-i.result c.loop-i-test.true ∙ ap (λ x. Some (circuit_entry (Some (view x)))) (sym c.index-entries-i.is) in
    (circuit_entry (Some (view c.index-entries-i.result)), record { is = record { counted = omega arith; there = there }; id = c.entry_id.ensures.some; no_id = c.entry_id.ensures.none }, c.in-Some.ensures.some)
