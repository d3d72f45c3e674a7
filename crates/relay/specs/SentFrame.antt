-- A frame that leaves the relay towards a circuit, and where it goes there.
use Rattle.std.specs.Prelude.{ℕ, List}
use Rattle.types.specs.declared.dest.Dest.{Dest}

pub record SentFrame : Type 0 where
  pub dest : Dest
  pub bytes : List ℕ
