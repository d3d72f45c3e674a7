-- What reaches the server.
use Rattle.std.specs.Prelude.{ℕ, List}
use Rattle.types.specs.declared.addr.Source.{Source}
use Rattle.types.specs.declared.dest.Proto.{Proto}

-- a datagram, where it came from, and when
pub record DeliveryValue : Type 0 where
  pub proto : Proto
  pub source : Source
  pub moment : ℕ
  pub bytes : List ℕ

abbrev pub delivery : Proto → Source → ℕ → List ℕ → DeliveryValue
delivery proto source now bytes = record { proto = proto; source = source; moment = now; bytes = bytes }
