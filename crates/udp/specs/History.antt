-- What happened at the sockets and the clocks, in order.
use Rattle.std.specs.Prelude.{ℕ, zero, suc, ◌+◌, ◌≤◌, ⊤, Bool, List, [], ◌∷◌, ◌++◌, take, Option, option_map}
use Rattle.std.specs.Duration.{as_nanos}
use Rattle.types.specs.declared.addr.Source.{Source}
use Rattle.types.specs.declared.dest.Proto.{Proto}
use Rattle.udp.specs.declared.datagram_socket.Attempt.{Attempt}
use Rattle.udp.specs.declared.datagram_socket.Attempt.TheVariants as attempt
use Rattle.udp.specs.declared.history.Happened.{Happened}
use Rattle.udp.specs.declared.history.Happened.TheVariants as happened
use Rattle.udp.specs.declared.history.Role.{Role}
use Rattle.udp.specs.declared.history.Role.TheVariants as role

pub data Entry : Type 0 where
  -- a datagram was taken from this socket: where it came from, and its bytes, at most 1281 of them
  Took : Role → Source → List ℕ → Entry
  -- a receive from this socket failed
  Failed : Role → Entry
  -- nothing waited at this socket: a receive found none, or the system has told of none since one did
  Empty : Role → Entry
  -- the system was asked to send these bytes from this socket to there, and accepted them or did not
  Sent : Role → Source → List ℕ → Bool → Entry
  -- the moment at which a turn ended
  Ticked : ℕ → Entry
  -- the system refused to bind this socket to this address
  Refused : Role → Source → Entry
  -- the system's clock was read, in nanoseconds since 1970; None where it could not be read
  Read : Option ℕ → Entry
  -- the monotonic clock was read, in nanoseconds since an origin of its own; None where it could not be read
  Monotonic : Option ℕ → Entry

-- nothing waited at the sockets of this protocol of so many circuits, from this one on
abbrev pub idle_circuits : Proto → ℕ → ℕ → List Entry
idle_circuits proto from zero = []
idle_circuits proto from (suc n) = idle_circuits proto from n ++ Empty (role.Circuit (from + n) proto) ∷ []

-- what a thing that happened adds
abbrev pub entries_of : Happened → List Entry
entries_of (happened.Took socket from bytes) = Took socket from bytes.now ∷ []
entries_of (happened.Failed socket) = Failed socket ∷ []
entries_of (happened.Empty socket) = Empty socket ∷ []
entries_of (happened.Idle proto from count) = idle_circuits proto from count
entries_of (happened.Sent socket to bytes accepted) = Sent socket to bytes.now accepted ∷ []
entries_of (happened.Ticked now) = Ticked now ∷ []
entries_of (happened.Refused socket at) = Refused socket at ∷ []
entries_of (happened.Read time) = Read (option_map as_nanos time) ∷ []
entries_of (happened.Monotonic time) = Monotonic (option_map as_nanos time) ∷ []

abbrev pub with_entry : Entry → List Entry → List Entry
with_entry entry entries = entries ++ entry ∷ []

pub record HistoryValue : Type 0 where
  pub entries : List Entry
  -- which history it is: no contract gives a new one its number
  pub id : ℕ

-- what an attempt to take a datagram adds, by the buffer after it
abbrev pub attempt_entry : Role → List ℕ → Attempt → Entry
attempt_entry socket buffer (attempt.Took len from) = Took socket from (take len buffer)
attempt_entry socket buffer attempt.Empty = Empty socket
attempt_entry socket buffer attempt.Failed = Failed socket

-- A datagram that was taken has at most so many bytes.
abbrev pub IsWithin : ℕ → Attempt → Type 0
IsWithin most (attempt.Took len from) = len ≤ most
IsWithin most attempt.Empty = ⊤
IsWithin most attempt.Failed = ⊤
