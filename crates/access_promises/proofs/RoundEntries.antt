-- Of which kind the entries are that a move adds, and how a round ends.
use Rattle.std.proofs.Common.{◌≡◌, ◌∙◌, ℕ, ◌==◌, false, List, [], ◌∷◌, ◌++◌, refl, sym, ap, subst, append_assoc, append-nil}
use Rattle.std.specs.Prelude.{⊤, Bool, Some, Result, Ok, Err}
use Rattle.types.specs.declared.addr.Source.{Source}
use Rattle.types.specs.declared.dest.Proto.{Proto}
use Rattle.types.specs.declared.discard.Discard.{Discard}
use Rattle.relay.specs.Relays.{CircuitFrame}
use Rattle.sockets.specs.Sockets.{client_port, framed, proto_of}
use Rattle.udp.specs.History.{Entry, Took, Failed, Empty, Sent, Ticked, Refused, Read, Monotonic}
use Rattle.udp.specs.declared.history.Role.{Role}
use Rattle.udp.specs.declared.history.Role.TheVariants.{Circuit, Server, Relay}
use Rattle.counts.specs.Tally.{CircuitFate}
use Rattle.counts.specs.declared.counts.Fate.{Fate}
use Rattle.counts.specs.declared.counts.Fate.TheVariants as fate
use Rattle.access.specs.Polling.{AreTries, after_try, server_socket}
use Rattle.access.specs.Turn.{GoesOn, IsSentDown}
use Rattle.access.specs.declared.polling.Polling.{Polling}
use Rattle.access_promises.specs.Turns.{turns_after, turns_in}
use Rattle.access_promises.proofs.EntryKinds.{AreOf, goes_on, kind}

-- ---- their kinds

pub sent_of : (n : ℕ) (socket : Role) (to : Source) (done : Fate) (answer : Result (List ℕ) Discard) (rest : List Entry) (became : Fate)
    → ((bytes : List ℕ) (accepted : Bool) → kind (Sent socket to bytes accepted) ≡ n) → GoesOn socket to done answer rest became → AreOf n rest
sent_of n socket to done (Err why) rest became sent goes = subst (AreOf n) (sym goes.0) tt
sent_of n socket to done (Ok bytes) rest became sent goes = subst (AreOf n) (sym goes.1) (sent bytes goes.0, tt)

pub down_of : (port : ℕ) (made : Result CircuitFrame Discard) (rest : List Entry) (outcome : CircuitFate) → IsSentDown port made rest outcome → AreOf 4 rest
down_of port (Err why) rest outcome sent = subst (AreOf 4) (sym sent.0) tt
down_of port (Ok frame) rest outcome sent =
    sent_of 4 (Circuit frame.circuit (proto_of frame.frame.dest)) (client_port port frame.circuit (proto_of frame.frame.dest)) fate.Delivered (Ok (framed frame.frame.dest frame.frame.bytes)) rest outcome.became (λ bytes accepted. refl) sent.0

server_of : (entry : Entry) (proto : Proto) → server_socket entry ≡ Some proto → kind entry ≡ 2
server_of (Took (Circuit k p) from bytes) proto is = absurd cc
server_of (Took (Server p) from bytes) proto is = refl
server_of (Took (Relay r) from bytes) proto is = absurd cc
server_of (Failed (Circuit k p)) proto is = absurd cc
server_of (Failed (Server p)) proto is = refl
server_of (Failed (Relay r)) proto is = absurd cc
server_of (Empty (Circuit k p)) proto is = absurd cc
server_of (Empty (Server p)) proto is = refl
server_of (Empty (Relay r)) proto is = absurd cc
server_of (Sent (Circuit k p) to bytes accepted) proto is = absurd cc
server_of (Sent (Server p) to bytes accepted) proto is = absurd cc
server_of (Sent (Relay r) to bytes accepted) proto is = absurd cc
server_of (Ticked now) proto is = absurd cc
server_of (Refused socket at) proto is = absurd cc
server_of (Read time) proto is = absurd cc
server_of (Monotonic time) proto is = absurd cc

pub polls_of : (p : Polling) (entries : List Entry) → AreTries p entries → AreOf 2 entries
polls_of p [] tries = tt
polls_of p (entry ∷ entries) tries = (server_of entry tries.0.0 tries.0.2, polls_of (after_try entry p) entries tries.1)

-- ---- rounds

-- no round ends in them
abbrev pub GoOn : List Entry → Type 0
GoOn [] = ⊤
GoOn (entry ∷ entries) = ((kind entry == 5) ≡ false) × GoOn entries

pub go_on : (n : ℕ) → (n == 5) ≡ false → (entries : List Entry) → AreOf n entries → GoOn entries
go_on n other [] of = tt
go_on n other (entry ∷ entries) of = (ap (λ k. k == 5) of.0 ∙ other, go_on n other entries of.1)

pub go_on_more : (xs ys : List Entry) → GoOn xs → GoOn ys → GoOn (xs ++ ys)
go_on_more [] ys one two = two
go_on_more (x ∷ xs) ys one two = (one.0, go_on_more xs ys one.1 two)

pub turn_ends : (body : List Entry) → GoOn body → (before : List Entry) (now : ℕ) (more : List Entry) → turns_after before (body ++ Ticked now ∷ more) ≡ record { entries = before ++ body; now = now } ∷ turns_in more
turn_ends [] on before now more = ap (λ es. record { entries = es; now = now } ∷ turns_in more) (sym (append-nil before))
turn_ends (entry ∷ body) on before now more =
    goes_on before entry (body ++ Ticked now ∷ more) on.0
    ∙ (turn_ends body on.1 (before ++ entry ∷ []) now more ∙ ap (λ es. record { entries = es; now = now } ∷ turns_in more) (append_assoc before (entry ∷ []) body))
