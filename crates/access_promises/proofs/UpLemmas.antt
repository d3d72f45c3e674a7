-- What goes up from the circuits' sockets in a run.
use Rattle.std.proofs.Common.{inl, inr, ◌≡◌, ◌∙◌, ℕ, ◌+◌, ◌==◌, Bool, true, false, List, [], ◌∷◌, ◌++◌, length, map, refl, sym, ap, ap₂, subst, eqb-true}
use Rattle.std.specs.Prelude.{◌⊎◌, Option, Some, None, option_map, slice_get, Result, Ok, Err, if◌then◌else◌}
use Rattle.std.specs.List.{cons_option, filter_map}
use Rattle.std.specs.Option.{option_and_then}
use Rattle.std.specs.Result.{result_ok}
use Rattle.std.proofs.lemmas.List.{map-append}
use Rattle.std.proofs.lemmas.List.Elements.{filter_map-append}
use Rattle.types.specs.declared.addr.Source.{Source}
use Rattle.types.specs.declared.dest.Proto.{Proto}
use Rattle.types.specs.declared.dest.Proto.TheVariants.{V4, V6}
use Rattle.types.specs.declared.discard.Discard.{Discard}
use Rattle.config.specs.CircuitPart.{CircuitPart}
use Rattle.config.specs.Topology.{IsTopology, Topology, listen}
use Rattle.relay.specs.Relays.{relayed_up}
use Rattle.udp.specs.History.{Entry, Took, Failed, Empty, Sent, Ticked, Refused, Read, Monotonic}
use Rattle.udp.specs.declared.history.Role.TheVariants.{Circuit, Server, Relay}
use Rattle.counts.specs.declared.counts.Fate.{Fate}
use Rattle.counts.specs.declared.counts.Fate.TheVariants as fate
use Rattle.access.specs.Pass.{SocketsFrom}
use Rattle.access.specs.Turn.{Both, CircuitSocket, CircuitsSockets, GoesOn}
use Rattle.access_promises.specs.Alone.{goes_up, relayed_alone}
use Rattle.access_promises.specs.Own.{Packet, Relayed, Upward, first_sent_up, frames_in, own_frame, packet, relayed_in, sent_up}
use Rattle.access_promises.proofs.EntryKinds.{AreOf, frame_only, kind, kinds_more, up_only}
use Rattle.access_promises.proofs.RoundEntries.{sent_of}
use Rattle.access_promises.proofs.Tried.{AddsUp, Gives, by_both, by_each}

goes_only : (topology : Topology) (entry : Entry) → (kind entry == 1) ≡ false → goes_up topology entry ≡ None
goes_only topology (Took (Circuit k proto) from bytes) apart = absurd cc
goes_only topology (Took (Server proto) from bytes) apart = refl
goes_only topology (Took (Relay r) from bytes) apart = refl
goes_only topology (Failed (Circuit k proto)) apart = absurd cc
goes_only topology (Failed (Server proto)) apart = refl
goes_only topology (Failed (Relay r)) apart = refl
goes_only topology (Empty (Circuit k proto)) apart = absurd cc
goes_only topology (Empty (Server proto)) apart = refl
goes_only topology (Empty (Relay r)) apart = refl
goes_only topology (Sent (Circuit k proto) to bytes accepted) apart = refl
goes_only topology (Sent (Server proto) to bytes accepted) apart = refl
goes_only topology (Sent (Relay r) to bytes accepted) apart = absurd cc
goes_only topology (Ticked now) apart = refl
goes_only topology (Refused socket at) apart = refl
goes_only topology (Read time) apart = refl
goes_only topology (Monotonic time) apart = refl

cons_more : {X : Type 0} (o : Option X) (xs ys : List X) → cons_option o (xs ++ ys) ≡ cons_option o xs ++ ys
cons_more None xs ys = refl
cons_more (Some x) xs ys = refl

same_part : (one other : CircuitPart) → Some one ≡ Some other → one ≡ other
same_part one other same = cc

module _ (topology : Topology) where
  first_same : (xs ys : List Entry) → first_sent_up topology ys ≡ None → first_sent_up topology (xs ++ ys) ≡ first_sent_up topology xs
  first_same [] ys none = none
  first_same (x ∷ xs) ys none = refl

  relayed_more : (c : ℕ) (xs ys : List Entry) → first_sent_up topology ys ≡ None → relayed_in topology c (xs ++ ys) ≡ relayed_in topology c xs ++ relayed_in topology c ys
  relayed_more c [] ys none = refl
  relayed_more c (x ∷ xs) ys none =
      ap₂ (λ (sent : Option Upward) (rest : List Relayed). cons_option (option_map (λ frame. record { frame = frame; sent = sent }) (own_frame c x)) rest) (first_same xs ys none) (relayed_more c xs ys none)
      ∙ cons_more (option_map (λ frame. record { frame = frame; sent = first_sent_up topology xs }) (own_frame c x)) (relayed_in topology c xs) (relayed_in topology c ys)

  -- what the laws say of some entries
  pub record AreUp (entries : List Entry) : Type 0 where
    pub first : first_sent_up topology entries ≡ None
    pub own : (c : ℕ) (part : CircuitPart) → slice_get topology.circuits c ≡ Some part → relayed_in topology c entries ≡ map (relayed_alone part) (frames_in c entries)
    pub all : filter_map (sent_up topology) entries ≡ filter_map (goes_up topology) entries

  pub up_none : AreUp []
  up_none = record { first = refl; own = λ c part there. refl; all = refl }

  pub up_more : (xs ys : List Entry) → AreUp xs → AreUp ys → AreUp (xs ++ ys)
  up_more xs ys one two = record {
    first = first_same xs ys two.first ∙ one.first;
    own = λ c part there.
        relayed_more c xs ys two.first
        ∙ (ap₂ (λ (a b : List Relayed). a ++ b) (one.own c part there) (two.own c part there)
        ∙ (sym (map-append (relayed_alone part) (frames_in c xs) (frames_in c ys)) ∙ ap (map (relayed_alone part)) (sym (filter_map-append (own_frame c) xs ys))));
    all = filter_map-append (sent_up topology) xs ys ∙ (ap₂ (λ (a b : List Upward). a ++ b) one.all two.all ∙ sym (filter_map-append (goes_up topology) xs ys));
  }

  pub up_other : (entry : Entry) → (kind entry == 1) ≡ false → AreUp (entry ∷ [])
  up_other entry other = record {
    first = up_only topology entry other;
    own = λ c part there.
        ap (λ o. cons_option (option_map (λ frame. record { frame = frame; sent = None }) o) []) (frame_only c entry other)
        ∙ sym (ap (λ o. map (relayed_alone part) (cons_option o [])) (frame_only c entry other));
    all = ap (λ o. cons_option o []) (up_only topology entry other) ∙ sym (ap (λ o. cons_option o []) (goes_only topology entry other));
  }

  pub up_others : (n : ℕ) → (n == 1) ≡ false → (entries : List Entry) → AreOf n entries → AreUp entries
  up_others n other [] of = up_none
  up_others n other (entry ∷ entries) of = up_more (entry ∷ []) entries (up_other entry (ap (λ k. k == 1) of.0 ∙ other)) (up_others n other entries of.1)

  -- ---- a circuit's socket

  module _ (sound : IsTopology topology) (k : ℕ) (proto : Proto) (from : Source) (frame : List ℕ) (its : CircuitPart) (r : ℕ) (there : slice_get topology.circuits k ≡ Some its) (relay : slice_get topology.relays r ≡ Some its.relay) where
    -- what is sent, by what the relay makes of the frame
    abbrev sent_so : Result (List ℕ) Discard → Option Upward
    sent_so made = option_map (λ datagram. record { from = slice_get topology.relays r; to = listen topology proto; datagram = datagram }) (result_ok made)

    alone_so : (relayed_alone its (packet proto frame)).sent ≡ sent_so (relayed_up its proto frame)
    alone_so = ap₂ (λ (source : Option Source) (to : Source). option_map (λ datagram. record { from = source; to = to; datagram = datagram }) (result_ok (relayed_up its proto frame))) (sym relay) (sound.listens k its proto there)

    record AreSo (made : Result (List ℕ) Discard) (rest : List Entry) : Type 0 where
      own : (c : ℕ) → relayed_in topology c (Took (Circuit k proto) from frame ∷ rest) ≡ cons_option (option_map (λ (p : Packet). record { frame = p; sent = sent_so made }) (own_frame c (Took (Circuit k proto) from frame))) []
      frames : (c : ℕ) → frames_in c (Took (Circuit k proto) from frame ∷ rest) ≡ cons_option (own_frame c (Took (Circuit k proto) from frame)) []
      sent : filter_map (sent_up topology) (Took (Circuit k proto) from frame ∷ rest) ≡ cons_option (sent_so made) []
      goes : filter_map (goes_up topology) (Took (Circuit k proto) from frame ∷ rest) ≡ cons_option (goes_up topology (Took (Circuit k proto) from frame)) []

    so : (made : Result (List ℕ) Discard) (rest : List Entry) (became : Fate) → GoesOn (Relay r) (listen topology proto) fate.Relayed made rest became → AreSo made rest
    so (Err why) rest became goes = subst (AreSo (Err why)) (sym goes.0) (record { own = λ c. refl; frames = λ c. refl; sent = refl; goes = refl })
    so (Ok bytes) rest became goes = subst (AreSo (Ok bytes)) (sym goes.1) (record { own = λ c. refl; frames = λ c. refl; sent = refl; goes = refl })

    own_same : (part : CircuitPart) → its ≡ part → record { frame = packet proto frame; sent = sent_so (relayed_up its proto frame) } ∷ [] ≡ relayed_alone part (packet proto frame) ∷ []
    own_same part same = ap (λ (sent : Option Upward). record { frame = packet proto frame; sent = sent } ∷ []) (sym alone_so) ∙ ap (λ (p : CircuitPart). relayed_alone p (packet proto frame) ∷ []) same

    own_so : (c : ℕ) (part : CircuitPart) → slice_get topology.circuits c ≡ Some part → (same : Bool) → (k == c) ≡ same
        → cons_option (option_map (λ (p : Packet). record { frame = p; sent = sent_so (relayed_up its proto frame) }) (if same then Some (packet proto frame) else None)) []
        ≡ map (relayed_alone part) (cons_option (if same then Some (packet proto frame) else None) [])
    own_so c part here false apart = refl
    own_so c part here true is =
        own_same part (same_part its part (sym there ∙ (ap (slice_get topology.circuits) (eqb-true k c is) ∙ here)))

    up_frame : (rest : List Entry) (became : Fate) → GoesOn (Relay r) (listen topology proto) fate.Relayed (relayed_up its proto frame) rest became → AreUp (Took (Circuit k proto) from frame ∷ rest)
    up_frame rest became goes =
        let is = so (relayed_up its proto frame) rest became goes in
        record {
          first = refl;
          own = λ c part here. is.own c ∙ (own_so c part here (k == c) refl ∙ ap (map (relayed_alone part)) (sym (is.frames c)));
          all = is.sent ∙ (ap (λ o. cons_option o []) (sym alone_so ∙ sym (ap (option_and_then (λ (part : CircuitPart). (relayed_alone part (packet proto frame)).sent)) there)) ∙ sym is.goes);
        }

  -- the entries of the circuits' sockets
  abbrev pub AreFrames : List Entry → Type 0
  AreFrames entries = AreOf 1 entries × AreUp entries

  frames_add : AddsUp AreFrames
  frames_add = record { none = (tt, up_none); more = λ xs ys one two. (kinds_more 1 xs ys one.0 two.0, up_more xs ys one.1 two.1) }

  up_tried : IsTopology topology → (k : ℕ) (proto : Proto) → Gives (CircuitSocket topology k proto) AreFrames
  up_tried sound k proto entries outcomes (inl idle) = by idle.0 where
    by : (entries ≡ Empty (Circuit k proto) ∷ []) ⊎ (entries ≡ Failed (Circuit k proto) ∷ []) → AreFrames entries
    by (inl is) = subst AreFrames (sym is) ((refl, tt), record { first = refl; own = λ c part there. refl; all = refl })
    by (inr is) = subst AreFrames (sym is) ((refl, tt), record { first = refl; own = λ c part there. refl; all = refl })
  up_tried sound k proto entries outcomes (inr taken) =
      let sent = taken.made in
      subst AreFrames (sym taken.entries_are) (
        (
          refl,
          sent_of 1 (Relay sent.relay) (listen topology proto) fate.Relayed (relayed_up sent.part proto taken.bytes) taken.rest taken.outcome.became (λ bytes accepted. refl) sent.goes_on,
        ),
        up_frame sound k proto taken.from taken.bytes sent.part sent.relay sent.its_part sent.its_relay taken.rest taken.outcome.became sent.goes_on,
      )

  -- of a turn, and of a slice of a pass
  pub turn_up : IsTopology topology → Gives (CircuitsSockets topology) AreFrames
  turn_up sound = by_each AreFrames frames_add (λ c. Both (CircuitSocket topology c V4) (CircuitSocket topology c V6))
      (λ c. by_both AreFrames frames_add (CircuitSocket topology c V4) (CircuitSocket topology c V6) (up_tried sound c V4) (up_tried sound c V6))
      (length topology.circuits)

  pub slice_up : (proto : Proto) (from circuits : ℕ) → IsTopology topology → Gives (SocketsFrom topology proto from circuits) AreFrames
  slice_up proto from circuits sound = by_each AreFrames frames_add (λ i. CircuitSocket topology (from + i) proto) (λ i. up_tried sound (from + i) proto) circuits
