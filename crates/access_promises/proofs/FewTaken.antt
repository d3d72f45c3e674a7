-- The relays take all that waits at their sockets.
use Rattle.std.proofs.Common.{inl, inr, ◌≡◌, ◌∙◌, ℕ, zero, suc, ◌+◌, ◌<◌, ◌≤◌, ◌==◌, Bool, true, false, cond, List, [], ◌∷◌, length, drop, refl, sym, ap, subst, eqb-true, eq-eqb, arith}
use Rattle.std.specs.Prelude.{◌⊎◌, ◌≢◌, Option, Some, None, slice_get, Result, Ok, Err}
use Rattle.std.specs.List.{position}
use Rattle.std.proofs.lemmas.Option.{slice_get_within}
use Rattle.types.specs.declared.addr.Source.{Source}
use Rattle.types.specs.declared.dest.Proto.{Proto}
use Rattle.types.specs.declared.discard.Discard.{Discard}
use Rattle.config.specs.CircuitPart.{CircuitPart}
use Rattle.config.specs.Topology.{Topology, has_id, relay_circuit}
use Rattle.relay.specs.Down.{◌>>=◌, AddressedFrame, frame_on_link}
use Rattle.relay.specs.Relays.{CircuitFrame, addressed_frame, for_circuit, link_of, or_unknown, own_circuit, own_circuit_from, proto_of, relayed_down_from, relayed_down_in, relayed_down_of}
use Rattle.relay.specs.SentFrame.{SentFrame}
use Rattle.relay.proofs.AllLemmas.{by_index}
use Rattle.sockets.specs.Sockets as sockets
use Rattle.udp.specs.History.{Entry, Took, Failed, Empty}
use Rattle.udp.specs.declared.history.Role.TheVariants.{Circuit, Relay}
use Rattle.counts.specs.Tally.{CircuitFate}
use Rattle.access.specs.Access.{AccessValue, HasCarried}
use Rattle.access.specs.Pass.{EndsBy, IsAnswerTaken, IsEmptied, RelaysEmptied}
use Rattle.access.specs.Turn.{InOrder, IsSentDown}
use Rattle.access_promises.specs.Waiting.{Underway, first}
use Rattle.access_promises.proofs.FewWait.{AreApart, FewWait, not_both, sent_down}
use Rattle.access_promises.proofs.Queues.{Adds, Leads, Queues, after, leads_both, leads_none}

-- ---- a frame is for a circuit that is there

of_circuit : (c : ℕ) (made : Result SentFrame Discard) (frame : CircuitFrame) → for_circuit c made ≡ Ok frame → c ≡ frame.circuit
of_circuit c (Err why) frame came = absurd cc
of_circuit c (Ok sent) frame came = let same : record { circuit = c; frame = sent } ≡ frame = cc in ap (λ (f : CircuitFrame). f.circuit) same

own_there : (topology : Topology) (id : Option (List ℕ)) (source : Option Source) (own : ℕ × CircuitPart) → own_circuit_from topology id source ≡ Ok own → own.0 < length topology.circuits
own_there topology id None own came = absurd cc
own_there topology id (Some source) own came = by (relay_circuit topology source id) refl came where
  by : (found : Option (ℕ × CircuitPart)) → relay_circuit topology source id ≡ found → or_unknown found ≡ Ok own → own.0 < length topology.circuits
  by None is given = absurd cc
  by (Some other) is given =
      let same : other ≡ own = cc in
      slice_get_within topology.circuits own.0 own.1 (by_index topology source id (position (has_id id) topology.circuits) own refl (is ∙ ap Some same)).0

down_there : (topology : Topology) (r : ℕ) (proto : Proto) (datagram : List ℕ) (frame : CircuitFrame) → relayed_down_from topology r proto datagram ≡ Ok frame → frame.circuit < length topology.circuits
unfolding relayed_down_from
down_there topology r proto datagram frame came = by_reply (addressed_frame proto datagram) came where
  by_own : (reply : AddressedFrame) (made : Result (ℕ × CircuitPart) Discard) → own_circuit topology r reply.circuit_id ≡ made
      → (made >>= λ own. for_circuit own.0 (frame_on_link (link_of proto own.1) reply.link reply.frame)) ≡ Ok frame → frame.circuit < length topology.circuits
  by_own reply (Err why) found is = absurd cc
  by_own reply (Ok own) found is =
      let below = own_there topology reply.circuit_id (slice_get topology.relays r) own found in
      subst (λ n. n < length topology.circuits) (of_circuit own.0 (frame_on_link (link_of proto own.1) reply.link reply.frame) frame is) below

  by_reply : (made : Result AddressedFrame Discard)
      → (made >>= λ reply. own_circuit topology r reply.circuit_id >>= λ own. for_circuit own.0 (frame_on_link (link_of proto own.1) reply.link reply.frame)) ≡ Ok frame → frame.circuit < length topology.circuits
  by_reply (Err why) is = absurd cc
  by_reply (Ok reply) is = by_own reply (own_circuit topology r reply.circuit_id) refl is

is_there : (topology : Topology) (r : ℕ) (from : Source) (datagram : List ℕ) (frame : CircuitFrame) → relayed_down_in topology r from datagram ≡ Ok frame → frame.circuit < length topology.circuits
unfolding relayed_down_in
is_there topology r from datagram frame came = by (proto_of topology from) came where
  by : (its : Option Proto) → relayed_down_of topology r datagram its ≡ Ok frame → frame.circuit < length topology.circuits
  by None is = absurd cc
  by (Some proto) is = down_there topology r proto datagram frame is

-- ---- one that waits is taken

dropped : (b : Bool) (xs : List Underway) → length (cond b (drop 1 xs) xs) ≤ length xs
dropped true [] = omega arith
dropped true (x ∷ xs) = omega arith
dropped false xs = omega arith

one_less : (b : Bool) (xs : List Underway) (x : Underway) → b ≡ true → first xs ≡ Some x → length xs ≡ suc (length (cond b (drop 1 xs) xs))
one_less true [] x is waits = absurd cc
one_less true (y ∷ xs) x is waits = refl
one_less false xs x is waits = absurd cc

at_index : {A : Type 0} (xs : List A) (k : ℕ) → k < length xs → (x : A) × (slice_get xs k ≡ Some x)
at_index [] k below = absurd (omega (arith, below))
at_index (x ∷ xs) zero below = (x, refl)
at_index (x ∷ xs) (suc k) below = at_index xs k (omega (arith, below))

module _ (topology : Topology) (port : ℕ) (apart : AreApart topology port) (Rest : Queues → Type 0) where
  -- nothing waits at the relays before this one
  record Emptied (k : ℕ) (q : Queues) : Type 0 where
    few : FewWait topology 0 32 q
    empty : (s : ℕ) → s < k → length (q (Relay s)) ≤ 0

  -- and so many were taken from it
  record Emptying (k n : ℕ) (q : Queues) : Type 0 where
    emptied : Emptied k q
    left : length (q (Relay k)) + n ≤ 32

  took : (k n : ℕ) (from : Source) (bytes : List ℕ) (q : Queues) → first (q (Relay k)) ≡ Some (record { from = Some from; bytes = bytes }) → Emptying k n q → Emptying k (suc n) (after topology (Took (Relay k) from bytes) q)
  took k n from bytes q waits emptying =
      let few = emptying.emptied.few in
      record {
        emptied = record {
          few = record {
            at_server = few.at_server;
            at_relays = λ r at there. let before = few.at_relays r at there in let less = dropped (k == r) (q (Relay r)) in omega (arith, before, less);
            ours = few.ours;
          };
          empty = λ s below. let before = emptying.emptied.empty s below in let less = dropped (k == s) (q (Relay s)) in omega (arith, before, less);
        };
        left = let before = emptying.left in let less = one_less (k == k) (q (Relay k)) (record { from = Some from; bytes = bytes }) (eq-eqb k k refl) waits in omega (arith, before, less);
      }

  -- what goes on changes nothing
  goes_down : (P : Queues → Type 0) (made : Result CircuitFrame Discard) (rest : List Entry) (outcome : CircuitFate) → ((frame : CircuitFrame) → made ≡ Ok frame → frame.circuit < length topology.circuits)
      → IsSentDown port made rest outcome → Leads topology Rest P P rest
  goes_down P (Err why) rest outcome there sent = subst (Leads topology Rest P P) (sym sent.0) (leads_none topology Rest P)
  goes_down P (Ok frame) rest outcome there (goes, its) = subst (Leads topology Rest P P) (sym goes.1) (λ q fair holds. record {
    ends = subst P (sym (sent_down topology port apart (Circuit frame.circuit (sockets.proto_of frame.frame.dest)) frame.circuit (sockets.proto_of frame.frame.dest) (sockets.framed frame.frame.dest frame.frame.bytes) goes.0 q (there frame refl))) holds;
    ticks = (tt, tt);
  })

  taken_leads : (k n : ℕ) (entries : List Entry) (outcomes : List CircuitFate) → IsAnswerTaken topology port k entries outcomes → Leads topology Rest (Emptying k n) (Emptying k (suc n)) entries
  taken_leads k n entries outcomes taken =
      subst (Leads topology Rest (Emptying k n) (Emptying k (suc n))) (sym taken.entries_are)
      (λ q fair emptying.
      let more =
      goes_down (Emptying k (suc n)) (relayed_down_in topology k taken.from taken.bytes) taken.rest taken.outcome (is_there topology k taken.from taken.bytes) taken.made
      (after topology (Took (Relay k) taken.from taken.bytes) q) fair.1 (took k n taken.from taken.bytes q fair.0 emptying) in
      record { ends = more.ends; ticks = (tt, more.ticks) })

  all_taken : (k n : ℕ) (entries : List Entry) (outcomes : List CircuitFate) → InOrder (λ i. IsAnswerTaken topology port k) n entries outcomes → Leads topology Rest (Emptying k 0) (Emptying k n) entries
  all_taken k zero entries outcomes none = subst (Leads topology Rest (Emptying k 0) (Emptying k 0)) (sym none.0) (leads_none topology Rest (Emptying k 0))
  all_taken k (suc n) entries outcomes both =
      leads_both topology Rest (Emptying k 0) (Emptying k n) (Emptying k (suc n)) (InOrder (λ i. IsAnswerTaken topology port k) n) (IsAnswerTaken topology port k) entries outcomes both
      (all_taken k n both.before both.done both.one) (taken_leads k n both.after both.more both.other)

  -- ---- a relay is empty

  one_more : (k : ℕ) (q : Queues) → Emptied k q → length (q (Relay k)) ≤ 0 → Emptied (suc k) q
  one_more k q emptied none = record { few = emptied.few; empty = λ s below. by s below (s == k) refl } where
    by : (s : ℕ) → s < suc k → (same : Bool) → (s == k) ≡ same → length (q (Relay s)) ≤ 0
    by s below true is = subst (λ n. length (q (Relay n)) ≤ 0) (sym (eqb-true s k is)) none
    by s below false is = emptied.empty s (let other : s ≢ k = λ same. not_both (s == k) is (eq-eqb s k same) in omega (arith, below, other))

  ends : (k n : ℕ) (full : Bool) (entries : List Entry) (outcomes : List CircuitFate) → (n == 32) ≡ full → EndsBy (Relay k) full entries outcomes → Leads topology Rest (Emptying k n) (Emptied (suc k)) entries
  ends k n true entries outcomes full none =
      subst (Leads topology Rest (Emptying k n) (Emptied (suc k))) (sym none.0)
      (λ q fair emptying. record { ends = one_more k q emptying.emptied (let left = emptying.left in let all = eqb-true n 32 full in omega (arith, left, all)); ticks = tt })
  ends k n false entries outcomes full idle = by idle.0 where
    by : (entries ≡ Empty (Relay k) ∷ []) ⊎ (entries ≡ Failed (Relay k) ∷ []) → Leads topology Rest (Emptying k n) (Emptied (suc k)) entries
    by (inl is) =
        subst (Leads topology Rest (Emptying k n) (Emptied (suc k))) (sym is)
        (λ q fair emptying. record { ends = one_more k q emptying.emptied (let none = ap length fair.0 in omega (arith, none)); ticks = (tt, tt) })
    by (inr is) = subst (Leads topology Rest (Emptying k n) (Emptied (suc k))) (sym is) (λ q fair emptying. absurd fair.0)

  relay_leads : (k : ℕ) (entries : List Entry) (outcomes : List CircuitFate) → k < length topology.relays → IsEmptied topology port k entries outcomes → Leads topology Rest (Emptied k) (Emptied (suc k)) entries
  relay_leads k entries outcomes below emptied =
      leads_both topology Rest (Emptied k) (Emptying k emptied.taken) (Emptied (suc k)) (InOrder (λ i. IsAnswerTaken topology port k) emptied.taken) (EndsBy (Relay k) (emptied.taken == 32)) entries outcomes emptied.tried
      (λ q fair before. all_taken k emptied.taken emptied.tried.before emptied.tried.done emptied.tried.one q fair (begins q before))
      (ends k emptied.taken (emptied.taken == 32) emptied.tried.after emptied.tried.more refl emptied.tried.other)
    where
      begins : (q : Queues) → Emptied k q → Emptying k 0 q
      begins q before =
          let at = at_index topology.relays k below in
          record { emptied = before; left = let least = before.few.at_relays k at.0 at.1 in omega (arith, least) }

  relays_lead : (m : ℕ) (entries : List Entry) (outcomes : List CircuitFate) → m ≤ length topology.relays → InOrder (IsEmptied topology port) m entries outcomes → Leads topology Rest (Emptied 0) (Emptied m) entries
  relays_lead zero entries outcomes least none = subst (Leads topology Rest (Emptied 0) (Emptied 0)) (sym none.0) (leads_none topology Rest (Emptied 0))
  relays_lead (suc m) entries outcomes least both =
      leads_both topology Rest (Emptied 0) (Emptied m) (Emptied (suc m)) (InOrder (IsEmptied topology port) m) (IsEmptied topology port m) entries outcomes both
      (relays_lead m both.before both.done (omega (arith, least)) both.one) (relay_leads m both.after both.more (omega (arith, least)) both.other)

  -- ---- all relays are

  all_empty : (q : Queues) → Emptied (length topology.relays) q → FewWait topology 0 0 q
  all_empty q emptied = record { at_server = emptied.few.at_server; at_relays = λ r at there. emptied.empty r (slice_get_within topology.relays r at there); ours = emptied.few.ours }

  none_empty : (q : Queues) → FewWait topology 0 32 q → Emptied 0 q
  none_empty q few = record { few = few; empty = λ s below. absurd (omega (arith, below)) }

  pub relays_add : (answers : ℕ) (old new : AccessValue) → HasCarried (RelaysEmptied topology port) answers old new → Adds topology Rest (FewWait topology 0 32) (FewWait topology 0 0) old.history new.history
  relays_add answers old new carried = record {
    entries = carried.entries;
    history = ap (λ (a : AccessValue). a.history) carried.after;
    leads = λ q fair few.
        let led = relays_lead (length topology.relays) carried.entries carried.outcomes (omega arith) carried.tried q fair (none_empty q few) in
        record { ends = all_empty _ led.ends; ticks = led.ticks };
  }
