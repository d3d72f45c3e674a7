use Rattle.std.proofs.Common.{◌∙◌}
use Rattle.config.proofs.UnionLemmas.{all_share}
use Rattle.config.proofs.union.values_of.Goals as goal

pub returns : goal.returns
returns c =
    let first = c.index-configs-0.result in
    record {
      shared = all_share c.args.configs.now first _ c.index-configs-0.is c.requires.shared
          (c.copy.ensures ∙ c.server.ensures.value) (c.in_ok-copy_relays.ensures ∙ c.relays.ensures.value);
      circuits = c.in_ok-circuits_of.ensures;
    }
