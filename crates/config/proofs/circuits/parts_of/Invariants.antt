use Rattle.std.proofs.Common.{◌≡◌, take}
use Rattle.std.specs.Prelude.{All}
use Rattle.config.specs.CircuitPart.{IsPart, parts_of}
use Rattle.config.proofs.circuits.parts_of.Given as goal

abbrev pub invariant-circuits : goal.invariant-circuits
invariant-circuits l = record {
  parts : l.parts.items ≡ take l.index (parts_of l.config);
  sound : All IsPart (take l.index (parts_of l.config));
}
