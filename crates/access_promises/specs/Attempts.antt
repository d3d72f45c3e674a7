-- At which sockets of circuits a run looked for frames, and in which order a pass does.
use Rattle.std.specs.Prelude.{ℕ, zero, suc, ◌==◌, ◌&&◌, Bool, true, false, List, [], ◌∷◌, ◌++◌, length, Option, Some, None}
use Rattle.std.specs.List.{filter, filter_map}
use Rattle.types.specs.declared.dest.Proto.{Proto}
use Rattle.types.specs.declared.dest.Proto.TheVariants.{V4, V6}
use Rattle.udp.specs.History.{Entry, Empty, Failed, Took}
use Rattle.udp.specs.declared.history.Role.TheVariants.{Circuit}

-- a circuit's socket for a protocol
pub record CircuitSocket : Type 0 where
  pub circuit : ℕ
  pub proto : Proto

abbrev pub socket_of : ℕ → Proto → CircuitSocket
socket_of c proto = record { circuit = c; proto = proto }

-- the circuit's socket that was tried: a frame was taken, none waited, or the receive failed
abbrev pub tried_at : Entry → Option CircuitSocket
tried_at (Took (Circuit c proto) from bytes) = Some (socket_of c proto)
tried_at (Empty (Circuit c proto)) = Some (socket_of c proto)
tried_at (Failed (Circuit c proto)) = Some (socket_of c proto)
tried_at entry = None

abbrev pub attempts_in : List Entry → List CircuitSocket
attempts_in = filter_map tried_at

-- the circuit's socket that a frame was taken from
abbrev pub frame_from : Entry → Option CircuitSocket
frame_from (Took (Circuit c proto) from bytes) = Some (socket_of c proto)
frame_from entry = None

abbrev pub frames_from : List Entry → List CircuitSocket
frames_from = filter_map frame_from

-- how many datagrams were taken, from whichever socket
abbrev pub taken_in : List Entry → ℕ
taken_in [] = 0
taken_in (Took socket from bytes ∷ entries) = suc (taken_in entries)
taken_in (entry ∷ entries) = taken_in entries

abbrev pub same_proto : Proto → Proto → Bool
same_proto V4 V4 = true
same_proto V6 V6 = true
same_proto one other = false

abbrev pub is_same : CircuitSocket → CircuitSocket → Bool
is_same one other = one.circuit == other.circuit && same_proto one.proto other.proto

-- how often a socket is among these
abbrev pub times_of : CircuitSocket → List CircuitSocket → ℕ
times_of socket sockets = length (filter (is_same socket) sockets)

-- the sockets of a protocol of the first circuits, in order
abbrev pub sockets_of : Proto → ℕ → List CircuitSocket
sockets_of proto zero = []
sockets_of proto (suc n) = sockets_of proto n ++ socket_of n proto ∷ []

-- the order of a pass
abbrev pub all_sockets : ℕ → List CircuitSocket
all_sockets circuits = sockets_of V4 circuits ++ sockets_of V6 circuits

-- the order of so many passes
abbrev pub pass_after_pass : ℕ → ℕ → List CircuitSocket
pass_after_pass circuits zero = []
pass_after_pass circuits (suc n) = pass_after_pass circuits n ++ all_sockets circuits
