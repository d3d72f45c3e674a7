use Rattle.std.proofs.Common.{◌≡◌, Some, subst}
use Rattle.config.specs.CircuitPart.{part_in}
use Rattle.config.proofs.PartLemmas.{one_part_more, one_sound_more}
use Rattle.config.proofs.circuits.parts_of.Goals as goal

pub circuits-preserved : goal.circuits-preserved
circuits-preserved c =
    let there = subst (λ n. part_in c.args.config.now n ≡ Some c.of.result) c.at-circuit.ensures c.of.ensures.value in
    record {
      parts = one_part_more c.args.config.now c.circuits.index c.circuits.parts.items _ c.of.result c.circuits.invariant.parts there c.in_ok-push.ensures.items;
      sound = one_sound_more c.args.config.now c.circuits.index c.of.result there c.of.ensures.sound c.circuits.invariant.sound;
    }
