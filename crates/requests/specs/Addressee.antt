-- Which circuit a datagram at the server is of. The first line that fits decides.
use Rattle.std.specs.Prelude.{ℕ, not, nat_lt, List, length, Result, Err, if◌then◌else◌}
use Rattle.types.specs.Delivery.{DeliveryValue}
use Rattle.types.specs.declared.addr.Source.{Source}
use Rattle.types.specs.declared.dest.Proto.{Proto}
use Rattle.types.specs.declared.dest.Proto.TheVariants.{V4, V6}
use Rattle.types.specs.declared.discard.Discard.{Discard}
use Rattle.types.specs.declared.discard.Discard.TheVariants.{UnknownSource, Malformed}
use Rattle.v4_message.specs.Reading.{message_of}
use Rattle.config.specs.Topology.{Topology, is_relay}
use Rattle.requests.specs.Addressee4.{message_check}
use Rattle.requests.specs.Addressee6.{forward_check}

abbrev pub datagram_check : Topology → Proto → Source → List ℕ → Result ℕ Discard
datagram_check topology V4 source datagram = message_check topology source (message_of datagram)
datagram_check topology V6 source datagram = forward_check topology source datagram

-- The circuit of a datagram of at most 1280 bytes, by its index, or why it is of none. The moment does not matter.
unfoldable pub addressee : Topology → DeliveryValue → Result ℕ Discard
addressee topology d =
    if not (is_relay topology d.source) then Err UnknownSource
    else if nat_lt 1280 (length d.bytes) then Err Malformed
    else datagram_check topology d.proto d.source d.bytes
