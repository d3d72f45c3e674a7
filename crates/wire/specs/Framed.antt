-- A datagram with bytes in front of it.
use Rattle.std.specs.Prelude.{ℕ, List}

pub record FramedValue : Type 0 where
  pub front : List ℕ
  pub datagram : List ℕ
