-- What comes down from the relays' sockets in a run.
use Rattle.std.proofs.Common.{inl, inr, ◌≡◌, ◌∙◌, ℕ, ◌==◌, Bool, true, false, List, [], ◌∷◌, ◌++◌, length, refl, sym, ap, ap₂, subst, eqb-true, arith}
use Rattle.std.specs.Prelude.{◌⊎◌, All, Option, Some, None, option_map, slice_get, Result, Ok, Err, if◌then◌else◌}
use Rattle.std.specs.List.{cons_option, filter_map}
use Rattle.std.specs.Result.{result_ok}
use Rattle.std.proofs.lemmas.List.Elements.{All-append, All-cons, filter_map-append}
use Rattle.types.specs.declared.addr.Source.{Source}
use Rattle.types.specs.declared.dest.Proto.{Proto}
use Rattle.types.specs.declared.discard.Discard.{Discard}
use Rattle.config.specs.CircuitPart.{CircuitPart}
use Rattle.config.specs.Topology.{Topology}
use Rattle.relay.specs.Relays.{CircuitFrame, proto_of, relayed_down, relayed_down_in, relayed_down_of}
use Rattle.relay.specs.SentFrame.{SentFrame}
use Rattle.relay.proofs.AllLemmas as relays
use Rattle.sockets.specs.Sockets as sockets
use Rattle.udp.specs.History.{Entry, Took, Failed, Empty, Sent, Ticked, Refused, Read, Monotonic}
use Rattle.udp.specs.declared.history.Role.TheVariants.{Circuit, Server, Relay}
use Rattle.counts.specs.Tally.{CircuitFate}
use Rattle.access.specs.Pass.{EndsBy, IsAnswerTaken, IsEmptied, RelaysEmptied}
use Rattle.access.specs.Turn.{InOrder, IsIdle, IsSentDown, RelaySocket, RelaysSockets}
use Rattle.access_promises.specs.Alone.{GoesToItsClients, frame_alone, packet_of}
use Rattle.access_promises.specs.Own.{Packet, datagrams_in, is_for, own_datagram, packet, sent_down, sent_in}
use Rattle.access_promises.proofs.EntryKinds.{AreOf, datagram_only, down_only, kind, kinds_more}
use Rattle.access_promises.proofs.RoundEntries.{down_of}
use Rattle.access_promises.proofs.Tried.{AddsUp, Gives, by_both, by_each}

port_only : (port : ℕ) (entry : Entry) → (kind entry == 4) ≡ false → GoesToItsClients port entry
port_only port (Took (Circuit k proto) from bytes) apart = tt
port_only port (Took (Server proto) from bytes) apart = tt
port_only port (Took (Relay r) from bytes) apart = absurd cc
port_only port (Failed (Circuit k proto)) apart = tt
port_only port (Failed (Server proto)) apart = tt
port_only port (Failed (Relay r)) apart = absurd cc
port_only port (Empty (Circuit k proto)) apart = tt
port_only port (Empty (Server proto)) apart = tt
port_only port (Empty (Relay r)) apart = absurd cc
port_only port (Sent (Circuit k proto) to bytes accepted) apart = absurd cc
port_only port (Sent (Server proto) to bytes accepted) apart = tt
port_only port (Sent (Relay r) to bytes accepted) apart = tt
port_only port (Ticked now) apart = tt
port_only port (Refused socket at) apart = tt
port_only port (Read time) apart = tt
port_only port (Monotonic time) apart = tt

module _ (topology : Topology) (port : ℕ) where
  -- what the laws say of some entries
  pub record AreDown (entries : List Entry) : Type 0 where
    pub own : (c : ℕ) (part : CircuitPart) → slice_get topology.circuits c ≡ Some part → sent_in c entries ≡ filter_map (frame_alone part) (datagrams_in topology c entries)
    pub ports : All (GoesToItsClients port) entries

  no_ports : All (GoesToItsClients port) []
  no_ports k d below = absurd (omega (arith, below))

  pub down_none : AreDown []
  down_none = record { own = λ c part there. refl; ports = no_ports }

  pub down_more : (xs ys : List Entry) → AreDown xs → AreDown ys → AreDown (xs ++ ys)
  down_more xs ys one two = record {
    own = λ c part there.
        filter_map-append (sent_down c) xs ys
        ∙ (ap₂ (λ (a b : List Packet). a ++ b) (one.own c part there) (two.own c part there)
        ∙ (sym (filter_map-append (frame_alone part) (datagrams_in topology c xs) (datagrams_in topology c ys)) ∙ ap (filter_map (frame_alone part)) (sym (filter_map-append (own_datagram topology c) xs ys))));
    ports = All-append (GoesToItsClients port) xs ys one.ports two.ports;
  }

  pub down_other : (entry : Entry) → (kind entry == 4) ≡ false → AreDown (entry ∷ [])
  down_other entry other = record {
    own = λ c part there. ap (λ o. cons_option o []) (down_only c entry other) ∙ sym (ap (λ o. filter_map (frame_alone part) (cons_option o [])) (datagram_only topology c entry other));
    ports = All-cons (GoesToItsClients port) entry [] (port_only port entry other) no_ports;
  }

  pub down_others : (n : ℕ) → (n == 4) ≡ false → (entries : List Entry) → AreOf n entries → AreDown entries
  down_others n other [] of = down_none
  down_others n other (entry ∷ entries) of = down_more (entry ∷ []) entries (down_other entry (ap (λ k. k == 4) of.0 ∙ other)) (down_others n other entries of.1)

  -- ---- a relay's socket

  module _ (r : ℕ) (from : Source) (bytes : List ℕ) where
    abbrev took : Entry
    took = Took (Relay r) from bytes

    own_protocol : (sent : CircuitFrame) (proto : Option Proto) → relayed_down_of topology r bytes proto ≡ Ok sent → (p : Proto) × (proto ≡ Some p)
    own_protocol sent None came = absurd cc
    own_protocol sent (Some p) came = (p, refl)

    its_protocol : (sent : CircuitFrame) → relayed_down_in topology r from bytes ≡ Ok sent → (p : Proto) × (proto_of topology from ≡ Some p)
    unfolding relayed_down_in
    its_protocol sent came = own_protocol sent (proto_of topology from) came

    -- what comes down for a circuit, if it is this one
    abbrev own_so : ℕ → Result CircuitFrame Discard → Option Packet
    own_so c made = if is_for c made then option_map (λ proto. packet proto bytes) (proto_of topology from) else None

    down_own : (c : ℕ) (part : CircuitPart) (sent : CircuitFrame) → slice_get topology.circuits c ≡ Some part → relayed_down_in topology r from bytes ≡ Ok sent → (same : Bool) → (sent.circuit == c) ≡ same
        → cons_option (if same then Some (packet_of sent.frame) else None) []
        ≡ filter_map (frame_alone part) (cons_option (if same then option_map (λ (proto : Proto). packet proto bytes) (proto_of topology from) else None) [])
    down_own c part sent there came false apart = refl
    down_own c part sent there came true is =
        let its = its_protocol sent came in
        let here : slice_get topology.circuits sent.circuit ≡ Some part = ap (slice_get topology.circuits) (eqb-true sent.circuit c is) ∙ there in
        let made : relayed_down part its.0 bytes ≡ Ok sent.frame = relays.own_frame topology r from its.0 bytes sent part its.1 came here in
        sym (ap (λ (o : Option Proto). filter_map (frame_alone part) (cons_option (option_map (λ (proto : Proto). packet proto bytes) o) [])) its.1
        ∙ ap (λ (m : Result SentFrame Discard). cons_option (option_map packet_of (result_ok m)) []) made)

    down_datagram : (made : Result CircuitFrame Discard) → relayed_down_in topology r from bytes ≡ made → (rest : List Entry) (outcome : CircuitFate) → IsSentDown port made rest outcome → AreDown (took ∷ rest)
    down_datagram (Err why) came rest outcome sent = subst (λ es. AreDown (took ∷ es)) (sym sent.0) (record {
      own = λ c part there. sym (ap (λ m. filter_map (frame_alone part) (cons_option (own_so c m) [])) came);
      ports = All-cons (GoesToItsClients port) took [] tt no_ports;
    })
    down_datagram (Ok frame) came rest outcome (sent, its) = subst (λ es. AreDown (took ∷ es)) (sym sent.1) (record {
      own = λ c part there. down_own c part frame there came (frame.circuit == c) refl ∙ sym (ap (λ m. filter_map (frame_alone part) (cons_option (own_so c m) [])) came);
      ports = All-cons (GoesToItsClients port) took
          (Sent (Circuit frame.circuit (sockets.proto_of frame.frame.dest)) (sockets.client_port port frame.circuit (sockets.proto_of frame.frame.dest)) (sockets.framed frame.frame.dest frame.frame.bytes) sent.0 ∷ []) tt
          (All-cons (GoesToItsClients port) (Sent (Circuit frame.circuit (sockets.proto_of frame.frame.dest)) (sockets.client_port port frame.circuit (sockets.proto_of frame.frame.dest)) (sockets.framed frame.frame.dest frame.frame.bytes) sent.0) [] refl no_ports);
    })

  -- the entries of the relays' sockets
  abbrev pub AreAnswers : List Entry → Type 0
  AreAnswers entries = AreOf 4 entries × AreDown entries

  answers_add : AddsUp AreAnswers
  answers_add = record { none = (tt, down_none); more = λ xs ys one two. (kinds_more 4 xs ys one.0 two.0, down_more xs ys one.1 two.1) }

  down_idle : (r : ℕ) → Gives (IsIdle (Relay r)) AreAnswers
  down_idle r entries outcomes idle = by idle.0 where
    by : (entries ≡ Empty (Relay r) ∷ []) ⊎ (entries ≡ Failed (Relay r) ∷ []) → AreAnswers entries
    by (inl is) = subst AreAnswers (sym is) ((refl, tt), record { own = λ c part there. refl; ports = All-cons (GoesToItsClients port) (Empty (Relay r)) [] tt no_ports })
    by (inr is) = subst AreAnswers (sym is) ((refl, tt), record { own = λ c part there. refl; ports = All-cons (GoesToItsClients port) (Failed (Relay r)) [] tt no_ports })

  down_taken : (r : ℕ) → Gives (IsAnswerTaken topology port r) AreAnswers
  down_taken r entries outcomes taken =
      subst AreAnswers (sym taken.entries_are) (
        (refl, down_of port (relayed_down_in topology r taken.from taken.bytes) taken.rest taken.outcome taken.made),
        down_datagram r taken.from taken.bytes (relayed_down_in topology r taken.from taken.bytes) refl taken.rest taken.outcome taken.made,
      )

  down_tried : (r : ℕ) → Gives (RelaySocket topology port r) AreAnswers
  down_tried r entries outcomes (inl idle) = down_idle r entries outcomes idle
  down_tried r entries outcomes (inr taken) = down_taken r entries outcomes taken

  down_ends : (r : ℕ) (full : Bool) → Gives (EndsBy (Relay r) full) AreAnswers
  down_ends r true entries outcomes none = subst AreAnswers (sym none.0) (tt, down_none)
  down_ends r false entries outcomes idle = down_idle r entries outcomes idle

  down_emptied : (r : ℕ) → Gives (IsEmptied topology port r) AreAnswers
  down_emptied r entries outcomes emptied =
      by_both AreAnswers answers_add (InOrder (λ i. IsAnswerTaken topology port r) emptied.taken) (EndsBy (Relay r) (emptied.taken == 32))
      (by_each AreAnswers answers_add (λ i. IsAnswerTaken topology port r) (λ i. down_taken r) emptied.taken) (down_ends r (emptied.taken == 32)) entries outcomes emptied.tried

  -- of a turn, and of a slice of a pass
  pub turn_down : Gives (RelaysSockets topology port) AreAnswers
  turn_down = by_each AreAnswers answers_add (RelaySocket topology port) down_tried (length topology.relays)

  pub slice_down : Gives (RelaysEmptied topology port) AreAnswers
  slice_down = by_each AreAnswers answers_add (IsEmptied topology port) down_emptied (length topology.relays)
