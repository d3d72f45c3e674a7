-- What one circuit's part alone makes of what is taken for it.
use Rattle.std.specs.Prelude.{◌≡◌, ⊤, ℕ, Bool, List, [], ◌∷◌, Option, Some, None, option_map, slice_get, Result}
use Rattle.std.specs.Option.{option_and_then}
use Rattle.std.specs.Result.{result_ok}
use Rattle.types.specs.declared.discard.Discard.{Discard}
use Rattle.config.specs.CircuitPart.{CircuitPart, listen_of}
use Rattle.relay.specs.Relays.{relayed_down, relayed_up}
use Rattle.relay.specs.SentFrame.{SentFrame}
use Rattle.circuit_server.specs.Answered.{answered}
use Rattle.circuit_server.specs.Server.{Book, book_at}
use Rattle.config.specs.Topology.{Topology}
use Rattle.sockets.specs.Sockets.{client_port, framed, proto_of}
use Rattle.udp.specs.History.{Entry, Sent, Took}
use Rattle.udp.specs.declared.history.Role.TheVariants.{Circuit}
use Rattle.access_promises.specs.Own.{Packet, Relayed, Step, Receive, Tick, Upward, packet}

-- A client's frame goes from its relay's address to the server's, unless the relay drops it.
abbrev pub relayed_alone : CircuitPart → Packet → Relayed
relayed_alone part frame = record {
  frame = frame;
  sent = option_map (λ datagram. record { from = Some part.relay; to = listen_of part frame.proto; datagram = datagram }) (result_ok (relayed_up part frame.proto frame.bytes));
}

-- what is sent up because of an entry: of a frame that was taken, what its circuit's relay makes of it
abbrev pub goes_up : Topology → Entry → Option Upward
goes_up topology (Took (Circuit c proto) from frame) = option_and_then (λ part. (relayed_alone part (packet proto frame)).sent) (slice_get topology.circuits c)
goes_up topology entry = None

-- a frame as a circuit's socket sends it
abbrev pub packet_of : SentFrame → Packet
packet_of frame = packet (proto_of frame.dest) (framed frame.dest frame.bytes)

-- what its clients are sent of a datagram from the server
abbrev pub frame_alone : CircuitPart → Packet → Option Packet
frame_alone part datagram = option_map packet_of (result_ok (relayed_down part datagram.proto datagram.bytes))

-- What a circuit's socket sends goes to the port of its clients.
abbrev pub GoesToItsClients : ℕ → Entry → Type 0
GoesToItsClients port (Sent (Circuit c proto) to frame accepted) = to ≡ client_port port c proto
GoesToItsClients port entry = ⊤

-- ---- its server

-- The answers that its server gives, from a book, or closed. The list says of each datagram whether its save failed.
abbrev pub answers_alone : CircuitPart → List Step → List Bool → Option Book → List (Result (List ℕ) Discard)
answers_alone part [] failed book = []
answers_alone part (Tick now ∷ steps) failed book = answers_alone part steps failed (option_map (book_at now) book)
answers_alone part (Receive d ∷ steps) [] book = []
answers_alone part (Receive d ∷ steps) (fails ∷ failed) book = (answered part d fails book).answer ∷ answers_alone part steps failed (answered part d fails book).book

-- and the book after that
abbrev pub book_alone : CircuitPart → List Step → List Bool → Option Book → Option Book
book_alone part [] failed book = book
book_alone part (Tick now ∷ steps) failed book = book_alone part steps failed (option_map (book_at now) book)
book_alone part (Receive d ∷ steps) [] book = book
book_alone part (Receive d ∷ steps) (fails ∷ failed) book = book_alone part steps failed (answered part d fails book).book
