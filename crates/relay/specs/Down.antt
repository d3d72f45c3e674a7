-- What a relay does with a reply from the server, in either protocol.
use Rattle.std.specs.Prelude.{ℕ, List, Option, Result, Ok, Err, if◌then◌else◌}
use Rattle.std.specs.Str.{bytes_eq}
use Rattle.types.specs.declared.discard.Discard.{Discard}
use Rattle.types.specs.declared.discard.Discard.TheVariants as reason
use Rattle.config.specs.CircuitPart.{CircuitPart}
use Rattle.config.specs.Topology.{has_id}
use Rattle.relay.specs.SentFrame.{SentFrame}

-- the first step that refuses decides
infixl 10 ◌>>=◌
abbrev pub ◌>>=◌ : {A B : Type 0} → Result A Discard → (A → Result B Discard) → Result B Discard
Ok x >>= next = next x
Err why >>= next = Err why

-- A frame, with its circuit's id and an address of the circuit's link as the server names them.
pub record AddressedFrame : Type 0 where
  pub circuit_id : Option (List ℕ)
  pub link : List ℕ
  pub frame : SentFrame

-- the frame, if the address by which the server names the link is the one that it has to be
abbrev pub frame_on_link : List ℕ → List ℕ → SentFrame → Result SentFrame Discard
frame_on_link link named frame = if bytes_eq named link then Ok frame else Err reason.WrongLinkDown

-- a circuit's frame, if the reply is for the circuit
abbrev pub frame_for : CircuitPart → List ℕ → AddressedFrame → Result SentFrame Discard
frame_for part link reply =
    if has_id reply.circuit_id part then frame_on_link link reply.link reply.frame else Err reason.UnknownCircuitDown
