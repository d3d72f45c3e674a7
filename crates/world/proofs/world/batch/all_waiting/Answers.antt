use Rattle.std.proofs.Common.{[], ◌∷◌, ◌++◌, get_or, length, sym, ap, take, ◌∙◌, arith}
use Rattle.std.specs.Prelude.{slice_get}
use Rattle.std.specs.List.{cons_option, filter_map}
use Rattle.std.proofs.lemmas.List.{take_more}
use Rattle.std.proofs.lemmas.List.Elements.{filter_map-append}
use Rattle.wire.specs.Bytes.{AreBytes}
use Rattle.world.specs.Batch.{bytes_of, waiting_of}
use Rattle.world.proofs.BatchLoops.{added_length, each_added}
use Rattle.world.proofs.world.batch.all_waiting.Goals as goal

pub parts-preserved : goal.parts-preserved
parts-preserved c =
    let h = waiting_of c.args.relays.now.topology c.args.net.now c.args.sync in
    let i = c.parts.index in
    let ps = c.args.parts.now in
    let d = c.index-parts-index.result in
    let more = c.waiting_of-part.result in
    let before = c.parts.waiting.items in
    let size = ap length c.add_waiting.ensures in
    record {
      index = omega (arith, c.parts-test.true);
      few = omega (arith, size, added_length before more, c.parts.invariant.few);
      items =
          c.add_waiting.ensures ∙ (λ j. c.parts.invariant.items j ++ cons_option ((c.waiting_of-part.ensures.value ∙ ap h c.index-parts-index.is) j) [])
          ∙ sym (ap (filter_map h) (take_more ps i d c.parts-test.true) ∙ filter_map-append h (take i ps) (get_or ps i d ∷ []));
      bytes = λ j w at.
          each_added (λ w. AreBytes (bytes_of c.args.net.now w)) before more c.parts.invariant.bytes c.waiting_of-part.ensures.bytes j w (ap (λ ws. slice_get ws j) (sym c.add_waiting.ensures) ∙ at);
    }
