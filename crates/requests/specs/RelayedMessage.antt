-- What was read of a datagram. Only contracts between crates cite this.
use Rattle.std.specs.Prelude.{◌≡◌, ℕ, List, Ok}
use Rattle.types.specs.declared.dest.Proto.{Proto}
use Rattle.types.specs.declared.dest.Proto.TheVariants.{V4, V6}
use Rattle.v4_message.specs.Reading.{message_of}
use Rattle.v6_message.specs.RelayReading.{relay_of}
use Rattle.requests.specs.declared.relayed_message.RelayedMessage.{RelayedMessage}
use Rattle.requests.specs.declared.relayed_message.RelayedMessage.TheVariants as relayed

-- a datagram's message or relay message, by its protocol
abbrev pub IsRelayedMessage : Proto → List ℕ → RelayedMessage → Type 0
IsRelayedMessage V4 datagram (relayed.V4 m) = message_of datagram ≡ Ok m
IsRelayedMessage V6 datagram (relayed.V6 m) = relay_of datagram ≡ Ok m
IsRelayedMessage V4 datagram (relayed.V6 m) = ⊥
IsRelayedMessage V6 datagram (relayed.V4 m) = ⊥
