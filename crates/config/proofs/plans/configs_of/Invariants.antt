use Rattle.std.proofs.Common.{map, take}
use Rattle.std.specs.List.{AllZip}
use Rattle.std.specs.Prelude.{All}
use Rattle.config.specs.Rules.{IsSound}
use Rattle.config.specs.Valid.{IsConfig}
use Rattle.config.proofs.plans.configs_of.Given as goal

abbrev pub invariant-loop-text : goal.invariant-loop-text
invariant-loop-text l = record {
  read : AllZip IsConfig (map (λ text. text.now) (take l.text-index l.texts)) l.configs.items;
  sound : All IsSound l.configs.items;
}
