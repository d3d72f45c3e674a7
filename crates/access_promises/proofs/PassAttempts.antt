-- At which circuits' sockets the tries of a slice look for frames, and how many datagrams they take.
use Rattle.std.proofs.Common.{inl, inr, ◌≡◌, ◌∙◌, ◌+◌, ◌==◌, ℕ, zero, suc, Bool, true, false, List, [], ◌∷◌, ◌++◌, length, refl, sym, ap, ap₂, subst, append_assoc, append-nil, length-append}
use Rattle.std.specs.Prelude.{◌⊎◌, Option, Result, Ok, Err}
use Rattle.types.specs.Delivery.{DeliveryValue}
use Rattle.types.specs.declared.addr.Source.{Source}
use Rattle.types.specs.declared.dest.Proto.{Proto}
use Rattle.types.specs.declared.discard.Discard.{Discard}
use Rattle.config.specs.Topology.{Topology, listen}
use Rattle.counts.specs.Tally.{CircuitFate}
use Rattle.counts.specs.declared.counts.Fate.{Fate}
use Rattle.counts.specs.declared.counts.Fate.TheVariants as fate
use Rattle.dispatch.specs.Answers.{circuit_at}
use Rattle.relay.specs.Relays.{CircuitFrame, relayed_down_in, relayed_up}
use Rattle.sockets.specs.Sockets.{client_port, framed, proto_of}
use Rattle.udp.specs.History.{Entry, Took, Failed, Empty, Sent, Ticked, Refused, Read, Monotonic}
use Rattle.udp.specs.declared.history.Role.{Role}
use Rattle.udp.specs.declared.history.Role.TheVariants.{Circuit, Server, Relay}
use Rattle.access.specs.Batch.{AreReceived, AreReceivedAgain, IsReceivedAgain, IsRepliedAt, IsReplied, Serving, is_repeated, made_of}
use Rattle.access.specs.Pass.{EndsBy, IsAnswerTaken, IsEmptied}
use Rattle.access.specs.Polling.{deliveries_in}
use Rattle.access.specs.Turn.{Both, GoesOn, InOrder, IsIdle, IsSentDown, IsSentUp, IsTaken, Tries}
use Rattle.access.specs.Turn as turn
use Rattle.access_promises.specs.Attempts.{CircuitSocket, attempts_in, socket_of, taken_in}
use Rattle.access_promises.proofs.AttemptCounts.{attempts_more, taken_more}
use Rattle.access_promises.proofs.EntryKinds.{AreOf, kind}
use Rattle.access_promises.proofs.Tried.{AddsUp, Gives}

-- These sockets are tried, and so many datagrams are taken.
pub record Finds (sockets : List CircuitSocket) (taken : ℕ) (entries : List Entry) : Type 0 where
  pub attempts : attempts_in entries ≡ sockets
  pub taken_is : taken_in entries ≡ taken

finds_more : (a b : List CircuitSocket) (t u : ℕ) (xs ys : List Entry) → Finds a t xs → Finds b u ys → Finds (a ++ b) (t + u) (xs ++ ys)
finds_more a b t u xs ys one two = record {
  attempts = attempts_more xs ys ∙ ap₂ (λ (c d : List CircuitSocket). c ++ d) one.attempts two.attempts;
  taken_is = taken_more xs ys ∙ ap₂ (λ n m. n + m) one.taken_is two.taken_is;
}

-- none is tried, and none is taken
abbrev pub Quiet : List Entry → Type 0
Quiet = Finds [] 0

pub quiet_adds : AddsUp Quiet
quiet_adds = record { none = record { attempts = refl; taken_is = refl }; more = λ xs ys one two. finds_more [] [] 0 0 xs ys one two }

sent_quiet : (socket : Role) (to : Source) (done : Fate) (answer : Result (List ℕ) Discard) (rest : List Entry) (became : Fate) → GoesOn socket to done answer rest became → Quiet rest
sent_quiet socket to done (Err why) rest became goes = subst Quiet (sym goes.0) (record { attempts = refl; taken_is = refl })
sent_quiet socket to done (Ok bytes) rest became goes = subst Quiet (sym goes.1) (record { attempts = refl; taken_is = refl })

down_quiet : (port : ℕ) (made : Result CircuitFrame Discard) (rest : List Entry) (outcome : CircuitFate) → IsSentDown port made rest outcome → Quiet rest
down_quiet port (Err why) rest outcome sent = subst Quiet (sym sent.0) (record { attempts = refl; taken_is = refl })
down_quiet port (Ok frame) rest outcome sent =
    sent_quiet (Circuit frame.circuit (proto_of frame.frame.dest)) (client_port port frame.circuit (proto_of frame.frame.dest)) fate.Delivered (Ok (framed frame.frame.dest frame.frame.bytes)) rest outcome.became sent.0

-- ---- tries, of which each datagram that is taken has an outcome

abbrev pub FindsBy : List CircuitSocket → Tries → Type 0
FindsBy sockets Try = (entries : List Entry) (outcomes : List CircuitFate) → Try entries outcomes → Finds sockets (length outcomes) entries

finds_both : (a b : List CircuitSocket) (First Second : Tries) → FindsBy a First → FindsBy b Second → FindsBy (a ++ b) (Both First Second)
finds_both a b First Second one two entries outcomes both =
    let all = finds_more a b (length both.done) (length both.more) both.before both.after (one both.before both.done both.one) (two both.after both.more both.other) in
    record {
      attempts = ap attempts_in both.entries_are ∙ all.attempts;
      taken_is = ap taken_in both.entries_are ∙ (all.taken_is ∙ sym (ap length both.outcomes_are ∙ length-append both.done both.more));
    }

abbrev pub each_of : (ℕ → List CircuitSocket) → ℕ → List CircuitSocket
each_of of zero = []
each_of of (suc n) = each_of of n ++ of n

none_each : (n : ℕ) → each_of (λ i. []) n ≡ []
none_each zero = refl
none_each (suc n) = append-nil (each_of (λ i. []) n) ∙ none_each n

pub finds_each : (of : ℕ → List CircuitSocket) (Try : ℕ → Tries) → ((k : ℕ) → FindsBy (of k) (Try k)) → (n : ℕ) → FindsBy (each_of of n) (InOrder Try n)
finds_each of Try one zero entries outcomes none = record { attempts = ap attempts_in none.0; taken_is = ap taken_in none.0 ∙ sym (ap length none.1) }
finds_each of Try one (suc n) entries outcomes both = finds_both (each_of of n) (of n) (InOrder Try n) (Try n) (finds_each of Try one n) (one n) entries outcomes both

pub finds_none : (Try : ℕ → Tries) → ((k : ℕ) → FindsBy [] (Try k)) → (n : ℕ) → FindsBy [] (InOrder Try n)
finds_none Try one n = subst (λ sockets. FindsBy sockets (InOrder Try n)) (none_each n) (finds_each (λ i. []) Try one n)

-- ---- a circuit's socket, and a relay's

pub circuit_finds : (topology : Topology) (c : ℕ) (proto : Proto) → FindsBy (socket_of c proto ∷ []) (turn.CircuitSocket topology c proto)
circuit_finds topology c proto entries outcomes (inl idle) = by idle.0 where
  by : (entries ≡ Empty (Circuit c proto) ∷ []) ⊎ (entries ≡ Failed (Circuit c proto) ∷ []) → Finds (socket_of c proto ∷ []) (length outcomes) entries
  by (inl is) = record { attempts = ap attempts_in is; taken_is = ap taken_in is ∙ sym (ap length idle.1) }
  by (inr is) = record { attempts = ap attempts_in is; taken_is = ap taken_in is ∙ sym (ap length idle.1) }
circuit_finds topology c proto entries outcomes (inr taken) =
    let sent = taken.made in
    let quiet = sent_quiet (Relay sent.relay) (listen topology proto) fate.Relayed (relayed_up sent.part proto taken.bytes) taken.rest taken.outcome.became sent.goes_on in
    record {
      attempts = ap attempts_in taken.entries_are ∙ ap (λ l. socket_of c proto ∷ l) quiet.attempts;
      taken_is = ap taken_in taken.entries_are ∙ (ap suc quiet.taken_is ∙ sym (ap length taken.outcomes_are));
    }

answer_finds : (topology : Topology) (port r : ℕ) → FindsBy [] (IsAnswerTaken topology port r)
answer_finds topology port r entries outcomes taken =
    let quiet = down_quiet port (relayed_down_in topology r taken.from taken.bytes) taken.rest taken.outcome taken.made in
    record {
      attempts = ap attempts_in taken.entries_are ∙ quiet.attempts;
      taken_is = ap taken_in taken.entries_are ∙ (ap suc quiet.taken_is ∙ sym (ap length taken.outcomes_are));
    }

end_finds : (r : ℕ) (full : Bool) → FindsBy [] (EndsBy (Relay r) full)
end_finds r true entries outcomes none = record { attempts = ap attempts_in none.0; taken_is = ap taken_in none.0 ∙ sym (ap length none.1) }
end_finds r false entries outcomes idle = by idle.0 where
  by : (entries ≡ Empty (Relay r) ∷ []) ⊎ (entries ≡ Failed (Relay r) ∷ []) → Finds [] (length outcomes) entries
  by (inl is) = record { attempts = ap attempts_in is; taken_is = ap taken_in is ∙ sym (ap length idle.1) }
  by (inr is) = record { attempts = ap attempts_in is; taken_is = ap taken_in is ∙ sym (ap length idle.1) }

pub emptied_finds : (topology : Topology) (port r : ℕ) → FindsBy [] (IsEmptied topology port r)
emptied_finds topology port r entries outcomes emptied =
    finds_both [] [] (InOrder (λ i. IsAnswerTaken topology port r) emptied.taken) (EndsBy (Relay r) (emptied.taken == 32))
    (finds_none (λ i. IsAnswerTaken topology port r) (λ i. answer_finds topology port r) emptied.taken) (end_finds r (emptied.taken == 32)) entries outcomes emptied.tried

-- ---- the server's sockets

at_server : (now : ℕ) (entry : Entry) (entries : List Entry) → kind entry ≡ 2 → Finds [] (length (deliveries_in now entries)) entries → Finds [] (length (deliveries_in now (entry ∷ entries))) (entry ∷ entries)
at_server now (Took (Circuit k p) from bytes) entries is rest = absurd cc
at_server now (Took (Server p) from bytes) entries is rest = record { attempts = rest.attempts; taken_is = ap suc rest.taken_is }
at_server now (Took (Relay r) from bytes) entries is rest = absurd cc
at_server now (Failed (Circuit k p)) entries is rest = absurd cc
at_server now (Failed (Server p)) entries is rest = record { attempts = rest.attempts; taken_is = rest.taken_is }
at_server now (Failed (Relay r)) entries is rest = absurd cc
at_server now (Empty (Circuit k p)) entries is rest = absurd cc
at_server now (Empty (Server p)) entries is rest = record { attempts = rest.attempts; taken_is = rest.taken_is }
at_server now (Empty (Relay r)) entries is rest = absurd cc
at_server now (Sent (Circuit k p) to bytes accepted) entries is rest = absurd cc
at_server now (Sent (Server p) to bytes accepted) entries is rest = absurd cc
at_server now (Sent (Relay r) to bytes accepted) entries is rest = absurd cc
at_server now (Ticked time) entries is rest = absurd cc
at_server now (Refused socket at) entries is rest = absurd cc
at_server now (Read time) entries is rest = absurd cc
at_server now (Monotonic time) entries is rest = absurd cc

pub polls_find : (now : ℕ) (entries : List Entry) → AreOf 2 entries → Finds [] (length (deliveries_in now entries)) entries
polls_find now [] of = record { attempts = refl; taken_is = refl }
polls_find now (entry ∷ entries) of = at_server now entry entries of.0 (polls_find now entries of.1)

-- ---- what the history grows by

pub record Grows (sockets : List CircuitSocket) (taken : ℕ) (old new : List Entry) : Type 0 where
  pub entries : List Entry
  pub history : new ≡ old ++ entries
  pub finds : Finds sockets taken entries

pub grows_none : (old new : List Entry) → new ≡ old → Grows [] 0 old new
grows_none old new is = record { entries = []; history = is ∙ sym (append-nil old); finds = record { attempts = refl; taken_is = refl } }

pub grows_then : (a b : List CircuitSocket) (t u : ℕ) (old middle new : List Entry) → Grows a t old middle → Grows b u middle new → Grows (a ++ b) (t + u) old new
grows_then a b t u old middle new one two = record {
  entries = one.entries ++ two.entries;
  history = two.history ∙ (ap (λ h. h ++ two.entries) one.history ∙ append_assoc old one.entries two.entries);
  finds = finds_more a b t u one.entries two.entries one.finds two.finds;
}

pub replied_quiet : (taken : List DeliveryValue) (circuits : List (Option ℕ)) (answers : List (Result (List ℕ) Discard)) (j : ℕ) → Gives (IsRepliedAt taken circuits answers j) Quiet
replied_quiet taken circuits answers j entries outcomes at = by (is_repeated at.its_answer) at.replied where
  by : (repeated : Bool) → IsReplied repeated (circuit_at circuits j) at.its_datagram at.its_answer entries outcomes → Quiet entries
  by true none = subst Quiet (sym none.0) (record { attempts = refl; taken_is = refl })
  by false replied = sent_quiet (Server at.its_datagram.proto) at.its_datagram.source fate.Answered at.its_answer entries replied.0 replied.2

again_once : (repeated : Bool) (d : DeliveryValue) (old new : Serving) → IsReceivedAgain repeated d old new → Grows [] 0 old.history new.history
again_once true d old new answered = record {
  entries = answered.rest;
  history = answered.history;
  finds = sent_quiet (Server d.proto) d.source fate.Answered (made_of d old new).answer answered.rest answered.became answered.goes_on;
}
again_once false d old new same = grows_none old.history new.history (ap (λ (s : Serving). s.history) same)

pub again_quiet : (taken : List DeliveryValue) (answers : List (Result (List ℕ) Discard)) (n : ℕ) (old new : Serving) → AreReceivedAgain taken answers n old new → Grows [] 0 old.history new.history
again_quiet taken answers zero old new same = grows_none old.history new.history (ap (λ (s : Serving). s.history) same)
again_quiet taken answers (suc n) old new again =
    let last = again.2 in
    grows_then [] [] 0 0 old.history (again.0).history new.history (again_quiet taken answers n old again.0 again.1)
    (again_once (is_repeated last.its_answer) last.its_datagram again.0 new last.received)

pub received_history : (taken : List DeliveryValue) (answers : List (Result (List ℕ) Discard)) (old new : Serving) → AreReceived taken answers old new → new.history ≡ old.history
received_history [] answers old new same = ap (λ (s : Serving). s.history) same
received_history (d ∷ taken) answers old new received = ap (λ (s : Serving). s.history) received.rest
