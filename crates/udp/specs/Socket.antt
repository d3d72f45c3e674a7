-- A bound socket as contracts see it.
use Rattle.std.specs.Prelude.{ℕ}
use Rattle.types.specs.declared.addr.Source.{Source}
use Rattle.udp.specs.declared.history.Role.{Role}

pub record SocketValue : Type 0 where
  -- what it is for, and the address and port that it is bound to
  pub role : Role
  pub at : Source
  -- which history says what happens at it
  pub history : ℕ
