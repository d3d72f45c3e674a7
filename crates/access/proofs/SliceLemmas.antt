-- Sockets that are tried in slices, and relays until none waits.
use Rattle.std.proofs.Common.{inl, inr, ◌≡◌, ◌∙◌, ◌+◌, ◌<◌, ◌≤◌, ◌==◌, ℕ, zero, suc, Bool, true, false, refl, sym, ap, subst, List, [], ◌∷◌, ◌++◌, length, arith, append_assoc, append-nil}
use Rattle.std.proofs.lemmas.Bool.{eqb-true}
use Rattle.types.specs.declared.addr.Source.{Source}
use Rattle.types.specs.declared.dest.Proto.{Proto}
use Rattle.config.specs.Topology.{Topology}
use Rattle.udp.specs.History.{Empty, Entry, idle_circuits}
use Rattle.udp.specs.declared.history.Role.{Role}
use Rattle.udp.specs.declared.history.Role.TheVariants as role
use Rattle.access.specs.Access.{AccessValue, HasCarried}
use Rattle.access.specs.Pass.{EndsBy, IsAnswerTaken, IsEmptied, SocketsFrom}
use Rattle.access.specs.Turn.{Both, CircuitSocket, InOrder, IsIdle, IsTaken, IsTried, Tries}
use Rattle.counts.specs.Tally.{CircuitFate}
use Rattle.access.proofs.CarryLemmas.{carried_again, carried_none, carried_then}

-- ---- circuits that are passed over

idle_tried : (topology : Topology) (proto : Proto) (from n : ℕ) → SocketsFrom topology proto from n (idle_circuits proto from n) []
idle_tried topology proto from zero = (refl, refl)
idle_tried topology proto from (suc n) = record {
  before = idle_circuits proto from n;
  after = Empty (role.Circuit (from + n) proto) ∷ [];
  done = [];
  more = [];
  one = idle_tried topology proto from n;
  other = inl (inl refl, refl);
  entries_are = refl;
  outcomes_are = refl;
}

pub carried_over : (topology : Topology) (proto : Proto) (from n : ℕ) (old : AccessValue) (history : List Entry) → history ≡ old.history ++ idle_circuits proto from n
    → HasCarried (SocketsFrom topology proto from n) 0 old (record old { history = history })
carried_over topology proto from n old history added = record {
  entries = idle_circuits proto from n;
  outcomes = [];
  tried = idle_tried topology proto from n;
  many = refl;
  after = ap (λ (h : List Entry). record old { history = h }) added;
}

-- those that are passed over, and then the socket of the next circuit
pub carried_next : (topology : Topology) (proto : Proto) (from n k : ℕ) (a b c : AccessValue) → HasCarried (SocketsFrom topology proto from n) 0 a b → HasCarried (CircuitSocket topology (from + n) proto) k b c
    → HasCarried (SocketsFrom topology proto from (n + 1)) k a c
carried_next topology proto from n k a b c first second =
    let same : 0 + k ≡ k = omega arith in
    subst (λ j. HasCarried (SocketsFrom topology proto from (n + 1)) j a c) same (carried_again (λ i. CircuitSocket topology (from + i) proto) n 0 k a b c first second)

-- ---- some circuits, and those after them

module _ (Try : ℕ → Tries) (a n : ℕ) where
  in_order_then : (m : ℕ) (first second : List Entry) (done more : List CircuitFate) → InOrder (λ i. Try (a + i)) n first done → InOrder (λ i. Try (a + n + i)) m second more
      → InOrder (λ i. Try (a + i)) (m + n) (first ++ second) (done ++ more)
  in_order_then zero first second done more these those =
      let none : n ≡ 0 + n = omega arith in
      subst (λ e. InOrder (λ i. Try (a + i)) (0 + n) (first ++ e) (done ++ more)) (sym those.0)
      (subst (λ o. InOrder (λ i. Try (a + i)) (0 + n) (first ++ []) (done ++ o)) (sym those.1)
      (subst (λ e. InOrder (λ i. Try (a + i)) (0 + n) e (done ++ [])) (sym (append-nil first))
      (subst (λ o. InOrder (λ i. Try (a + i)) (0 + n) first o) (sym (append-nil done)) (subst (λ k. InOrder (λ i. Try (a + i)) k first done) none these))))
  in_order_then (suc m) first second done more these both =
      let at : a + n + m ≡ a + (m + n) = omega arith in
      let one_more : suc (m + n) ≡ suc m + n = omega arith in
      let all : InOrder (λ i. Try (a + i)) (suc (m + n)) (first ++ second) (done ++ more) = record {
        before = first ++ both.before;
        after = both.after;
        done = done ++ both.done;
        more = both.more;
        one = in_order_then m first both.before done both.done these both.one;
        other = subst (λ i. Try i both.after both.more) at both.other;
        entries_are = ap (λ e. first ++ e) both.entries_are ∙ sym (append_assoc first both.before both.after);
        outcomes_are = ap (λ o. done ++ o) both.outcomes_are ∙ sym (append_assoc done both.done both.more);
      } in
      subst (λ k. InOrder (λ i. Try (a + i)) k (first ++ second) (done ++ more)) one_more all

pub carried_more : (topology : Topology) (proto : Proto) (from n m j k : ℕ) (a b c : AccessValue) → HasCarried (SocketsFrom topology proto from n) j a b → HasCarried (SocketsFrom topology proto (from + n) m) k b c
    → HasCarried (SocketsFrom topology proto from (m + n)) (j + k) a c
carried_more topology proto from n m j k a b c first second =
    let both = carried_then (SocketsFrom topology proto from n) (SocketsFrom topology proto (from + n) m) j k a b c first second in
    let these = both.tried in
    let all = in_order_then (λ i. CircuitSocket topology i proto) from n m these.before these.after these.done these.more these.one these.other in
    record {
      entries = both.entries;
      outcomes = both.outcomes;
      tried = subst (λ e. SocketsFrom topology proto from (m + n) e both.outcomes) (sym these.entries_are) (subst (λ o. SocketsFrom topology proto from (m + n) (these.before ++ these.after) o) (sym these.outcomes_are) all);
      many = both.many;
      after = both.after;
    }

-- ---- a socket of which something was taken, or nothing

module _ (socket : Role) (Made : Source → List ℕ → List Entry → CircuitFate → Type 0) where
  taken_tried : (entries : List Entry) (outcomes : List CircuitFate) → length outcomes ≡ 1 → IsTried socket Made entries outcomes → IsTaken socket Made entries outcomes
  taken_tried entries outcomes one (inl idle) = let none : length outcomes ≡ 0 = ap length idle.1 in absurd (omega (arith, none, one))
  taken_tried entries outcomes one (inr taken) = taken

  idle_tried_socket : (entries : List Entry) (outcomes : List CircuitFate) → length outcomes ≡ 0 → IsTried socket Made entries outcomes → IsIdle socket entries outcomes
  idle_tried_socket entries outcomes none (inl idle) = idle
  idle_tried_socket entries outcomes none (inr taken) = let one : length outcomes ≡ 1 = ap length taken.outcomes_are in absurd (omega (arith, none, one))

  pub carried_one : (a b : AccessValue) → HasCarried (IsTried socket Made) 1 a b → HasCarried (IsTaken socket Made) 1 a b
  carried_one a b carried = record { entries = carried.entries; outcomes = carried.outcomes; tried = taken_tried carried.entries carried.outcomes carried.many carried.tried; many = carried.many; after = carried.after }

  pub carried_nothing : (a b : AccessValue) → HasCarried (IsTried socket Made) 0 a b → HasCarried (IsIdle socket) 0 a b
  carried_nothing a b carried = record { entries = carried.entries; outcomes = carried.outcomes; tried = idle_tried_socket carried.entries carried.outcomes carried.many carried.tried; many = carried.many; after = carried.after }

-- ---- a relay's socket until none waits

module _ (topology : Topology) (port r : ℕ) where
  -- so many were taken, and then as it ends
  ended : (taken : ℕ) (a c : AccessValue) → taken ≤ 32 → HasCarried (Both (InOrder (λ i. IsAnswerTaken topology port r) taken) (EndsBy (role.Relay r) (taken == 32))) (taken + 0) a c
      → HasCarried (IsEmptied topology port r) taken a c
  ended taken a c few both =
      let same : taken + 0 ≡ taken = omega arith in
      record { entries = both.entries; outcomes = both.outcomes; tried = record { taken = taken; few = few; tried = both.tried }; many = both.many ∙ same; after = both.after }

  pub emptied : (taken : ℕ) (a b c : AccessValue) → taken < 32 → HasCarried (InOrder (λ i. IsAnswerTaken topology port r) taken) taken a b → HasCarried (IsIdle (role.Relay r)) 0 b c
      → HasCarried (IsEmptied topology port r) taken a c
  emptied taken a b c less these last = by (taken == 32) refl where
    by : (full : Bool) → (taken == 32) ≡ full → HasCarried (IsEmptied topology port r) taken a c
    by true full = let all : taken ≡ 32 = eqb-true taken 32 full in absurd (omega (arith, all, less))
    by false left =
        ended taken a c (omega (arith, less))
        (carried_then (InOrder (λ i. IsAnswerTaken topology port r) taken) (EndsBy (role.Relay r) (taken == 32)) taken 0 a b c these (subst (λ full. HasCarried (EndsBy (role.Relay r) full) 0 b c) (sym left) last))

  pub emptied_full : (taken : ℕ) (a b : AccessValue) → taken ≡ 32 → HasCarried (InOrder (λ i. IsAnswerTaken topology port r) taken) taken a b → HasCarried (IsEmptied topology port r) 32 a b
  emptied_full taken a b all these =
      let least : 32 ≤ 32 = omega arith in
      let full = subst (λ k. HasCarried (InOrder (λ i. IsAnswerTaken topology port r) k) k a b) all these in
      ended 32 a b least (carried_then (InOrder (λ i. IsAnswerTaken topology port r) 32) (EndsBy (role.Relay r) true) 32 0 a b b full (carried_none b (EndsBy (role.Relay r) true) (refl, refl)))
