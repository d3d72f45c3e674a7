-- What a buffer ends as where it is lent with the room in front of its datagram.
use Rattle.std.specs.Prelude.{ℕ, List}
use Rattle.std.specs.Borrow.{Lends, MutBor, Fml}
use Rattle.wire.specs.Framed.{FramedValue}
use Rattle.wire.specs.contracts.framed_buf.FramedBuf.{the_row as framed}
use Rattle.wire.specs.contracts.packet_buf.PacketBuf.{the_row}

-- once the borrow ends, the buffer has the datagram that it shows last
abbrev pub lends_framed : MutBor (List ℕ) → MutBor FramedValue → Fml
lends_framed buf r = Lends the_row framed buf r (λ written. written.datagram)
