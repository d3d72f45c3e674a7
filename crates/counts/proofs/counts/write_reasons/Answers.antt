use Rattle.std.proofs.Common.{[], take, ap, sym, ◌∙◌, rules}
use Rattle.std.proofs.Output.{has_written_append, has_written_of_eq}
use Rattle.std.proofs.lemmas.List.{take_more, flat_map_more}
use Rattle.std.specs.List.{flat_map}
use Rattle.std.specs.Result.{IsOk}
use Rattle.counts.specs.Counts.{reasons, dropped_text}
use Rattle.counts.proofs.counts.write_reasons.Goals as goal

pub reasons-preserved : goal.reasons-preserved
reasons-preserved g c = λ plain.
    let text = dropped_text c.args.counts.now.dropped in
    let at = c.reasons.why-index in
    let so_far = c.reasons.invariant plain in
    let ok : IsOk c.write_dropped.result = search rules in
    let one_more = flat_map_more text [] (take at reasons) _ ∙ ap (flat_map text) (sym (take_more reasons at _ c.reasons-test.true)) in
    has_written_of_eq _ _ _ _ _ one_more (has_written_append _ _ _ _ _ _ so_far (c.write_dropped.ensures so_far.plain ok))
