-- Sockets that were tried one after the other.
use Rattle.std.proofs.Common.{inl, inr, ◌≡◌, ◌∙◌, ◌+◌, ℕ, suc, refl, sym, ap, ap₂, List, [], ◌∷◌, ◌++◌, length, arith, append_assoc, append-nil, subst}
use Rattle.std.specs.Prelude.{◌⊎◌}
use Rattle.types.specs.declared.addr.Source.{Source}
use Rattle.udp.specs.History.{Empty, Entry, Failed, Took, attempt_entry, with_entry}
use Rattle.udp.specs.declared.datagram_socket.Attempt.{Attempt}
use Rattle.udp.specs.declared.datagram_socket.Attempt.TheVariants as attempt
use Rattle.udp.specs.declared.history.Role.{Role}
use Rattle.access.specs.Access.{AccessValue, HasCarried}
use Rattle.counts.specs.Tally.{CircuitFate, tallied, tallied_all}
use Rattle.access.specs.Turn.{Both, CircuitSocket, InOrder, IsSentUp, IsTried, Tries}
use Rattle.config.specs.Topology.{Topology}
use Rattle.types.specs.declared.dest.Proto.TheVariants.{V4, V6}
use Rattle.udp.specs.declared.history.Role.TheVariants as role
use Rattle.counts.specs.declared.tally.Tally.{Tally}

pub tallied_append : (a b : List CircuitFate) (t : Tally) → tallied_all (a ++ b) t ≡ tallied_all b (tallied_all a t)
tallied_append [] b t = refl
tallied_append (o ∷ a) b t = tallied_append a b (tallied o t)

pub length_append : (a b : List CircuitFate) → length (a ++ b) ≡ length a + length b
length_append [] b = omega arith
length_append (o ∷ a) b = let inside : length (a ++ b) ≡ length a + length b = length_append a b in omega (arith, inside)

-- of the configuration and the ports nothing changes
pub carried_topology : (Try : Tries) (n : ℕ) (a b : AccessValue) → HasCarried Try n a b → b.topology ≡ a.topology
carried_topology Try n a b carried = ap (λ (s : AccessValue). s.topology) carried.after

pub carried_port : (Try : Tries) (n : ℕ) (a b : AccessValue) → HasCarried Try n a b → b.port ≡ a.port
carried_port Try n a b carried = ap (λ (s : AccessValue). s.port) carried.after

pub carried_then : (First Second : Tries) (m n : ℕ) (a b c : AccessValue) → HasCarried First m a b → HasCarried Second n b c → HasCarried (Both First Second) (m + n) a c
carried_then First Second m n a b c first second = record {
  entries = first.entries ++ second.entries;
  outcomes = first.outcomes ++ second.outcomes;
  tried = record { before = first.entries; after = second.entries; done = first.outcomes; more = second.outcomes; one = first.tried; other = second.tried; entries_are = refl; outcomes_are = refl };
  many = length_append first.outcomes second.outcomes ∙ ap₂ (λ i j. i + j) first.many second.many;
  after = second.after ∙ (ap (λ (s : AccessValue). record s { tally = tallied_all second.outcomes s.tally; history = s.history ++ second.entries }) first.after
      ∙ ap₂ (λ (tally : Tally) (history : List Entry). record a { tally = tally; history = history }) (sym (tallied_append first.outcomes second.outcomes a.tally))
      (append_assoc a.history first.entries second.entries));
}

-- no socket was tried yet
pub carried_none : (a : AccessValue) (Try : Tries) → Try [] [] → HasCarried Try 0 a a
carried_none a Try tried = record { entries = []; outcomes = []; tried = tried; many = refl; after = ap (λ (history : List Entry). record a { history = history }) (sym (append-nil a.history)) }

-- the next socket in order
pub carried_again : (Try : ℕ → Tries) (n m k : ℕ) (a b c : AccessValue) → HasCarried (InOrder Try n) m a b → HasCarried (Try n) k b c → HasCarried (InOrder Try (n + 1)) (m + k) a c
carried_again Try n m k a b c first second =
    let both = carried_then (InOrder Try n) (Try n) m k a b c first second in
    let more : suc n ≡ n + 1 = omega arith in
    subst (λ (i : ℕ). HasCarried (InOrder Try i) (m + k) a c) more (record { entries = both.entries; outcomes = both.outcomes; tried = both.tried; many = both.many; after = both.after })

-- what an attempt adds that took nothing
pub idle_attempt : (socket : Role) (buffer : List ℕ) (old new : List Entry) (made : Attempt) → ((len : ℕ) (from : Source) → made ≡ attempt.Took len from → ⊥) → new ≡ with_entry (attempt_entry socket buffer made) old
    → (new ≡ with_entry (Empty socket) old) ⊎ (new ≡ with_entry (Failed socket) old)
idle_attempt socket buffer old new (attempt.Took len from) none added = absurd (none len from refl)
idle_attempt socket buffer old new attempt.Empty none added = inl added
idle_attempt socket buffer old new attempt.Failed none added = inr added

-- a socket from which nothing was taken
pub carried_idle : (role : Role) (Made : Source → List ℕ → List Entry → CircuitFate → Type 0) (old : AccessValue) (history : List Entry)
    → (history ≡ with_entry (Empty role) old.history) ⊎ (history ≡ with_entry (Failed role) old.history) → HasCarried (IsTried role Made) 0 old (record old { history = history })
carried_idle role Made old history (inl empty) = record { entries = Empty role ∷ []; outcomes = []; tried = inl (inl refl, refl); many = refl; after = ap (λ (h : List Entry). record old { history = h }) empty }
carried_idle role Made old history (inr failed) = record { entries = Failed role ∷ []; outcomes = []; tried = inl (inr refl, refl); many = refl; after = ap (λ (h : List Entry). record old { history = h }) failed }

-- a socket from which a datagram was taken, something was made of it, and that was counted
pub carried_taken : (role : Role) (Made : Source → List ℕ → List Entry → CircuitFate → Type 0) (old : AccessValue) (taken history rest : List Entry) (tally : Tally) (from : Source) (bytes : List ℕ) (outcome : CircuitFate)
    → taken ≡ with_entry (Took role from bytes) old.history → history ≡ taken ++ rest → tally ≡ tallied outcome old.tally → Made from bytes rest outcome
    → HasCarried (IsTried role Made) 1 old (record old { tally = tally; history = history })
carried_taken role Made old taken history rest tally from bytes outcome took added count made = record {
  entries = Took role from bytes ∷ rest;
  outcomes = outcome ∷ [];
  tried = inr (record { from = from; bytes = bytes; rest = rest; outcome = outcome; entries_are = refl; outcomes_are = refl; made = made });
  many = refl;
  after = ap₂ (λ (t : Tally) (h : List Entry). record old { tally = t; history = h }) count (added ∙ ap (λ h. h ++ rest) took ∙ append_assoc old.history (Took role from bytes ∷ []) rest);
}

-- two sockets of a circuit, at neither of which a datagram waits
pub carried_both_idle : (topology : Topology) (index : ℕ) (old : AccessValue) (history : List Entry)
    → history ≡ with_entry (Empty (role.Circuit index V6)) (with_entry (Empty (role.Circuit index V4)) old.history)
    → HasCarried (Both (CircuitSocket topology index V4) (CircuitSocket topology index V6)) 0 old (record old { history = history })
carried_both_idle topology index old history empty =
    let middle : AccessValue = record old { history = with_entry (Empty (role.Circuit index V4)) old.history } in
    carried_then (CircuitSocket topology index V4) (CircuitSocket topology index V6) 0 0 old middle (record old { history = history })
    (carried_idle (role.Circuit index V4) (λ from frame. IsSentUp topology index V4 frame) old (with_entry (Empty (role.Circuit index V4)) old.history) (inl refl))
    (carried_idle (role.Circuit index V6) (λ from frame. IsSentUp topology index V6 frame) middle history (inl empty))
