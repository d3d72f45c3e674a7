-- How many datagrams wait at the server after the frames of a slice.
use Rattle.std.proofs.Common.{inl, inr, ◌≡◌, ◌∙◌, ℕ, zero, suc, ◌+◌, List, [], ◌∷◌, ◌++◌, length, sym, ap, subst, arith}
use Rattle.std.specs.Prelude.{◌⊎◌, Some, slice_get, Result, Ok, Err}
use Rattle.types.specs.declared.addr.Source.{Source}
use Rattle.types.specs.declared.dest.Proto.{Proto}
use Rattle.types.specs.declared.discard.Discard.{Discard}
use Rattle.config.specs.Topology.{Topology, listen}
use Rattle.relay.specs.Relays.{relayed_up}
use Rattle.udp.specs.History.{Entry, Took, Failed, Empty}
use Rattle.udp.specs.declared.history.Role.TheVariants.{Circuit, Relay}
use Rattle.counts.specs.Tally.{CircuitFate}
use Rattle.counts.specs.declared.counts.Fate.{Fate}
use Rattle.counts.specs.declared.counts.Fate.TheVariants as fate
use Rattle.access.specs.Access.{AccessValue}
use Rattle.access.specs.Pass.{HasTakenFrames, SocketsFrom}
use Rattle.access.specs.Turn.{CircuitSocket, GoesOn}
use Rattle.access_promises.proofs.FewWait.{AreApart, FewWait, few_more, sent_up}
use Rattle.access_promises.proofs.Queues.{Adds, Leads, Queues, leads_both, leads_none, leads_weaker}

pub length_both : {A : Type 0} (xs ys : List A) → length (xs ++ ys) ≡ length xs + length ys
length_both [] ys = omega arith
length_both (x ∷ xs) ys = let inside : length (xs ++ ys) ≡ length xs + length ys = length_both xs ys in omega (arith, inside)

module _ (topology : Topology) (port : ℕ) (apart : AreApart topology port) (Rest : Queues → Type 0) where
  -- after a frame
  up_goes : (up r : ℕ) (at : Source) (proto : Proto) (k : ℕ) (from : Source) (frame : List ℕ) (made : Result (List ℕ) Discard) (rest : List Entry) (became : Fate) → slice_get topology.relays r ≡ Some at
      → GoesOn (Relay r) (listen topology proto) fate.Relayed made rest became → Leads topology Rest (FewWait topology up 0) (FewWait topology (suc up) 0) (Took (Circuit k proto) from frame ∷ rest)
  up_goes up r at proto k from frame (Err why) rest became there goes =
      subst (λ es. Leads topology Rest (FewWait topology up 0) (FewWait topology (suc up) 0) (Took (Circuit k proto) from frame ∷ es)) (sym goes.0)
      (λ q fair few. record { ends = few_more topology up 0 (suc up) 0 (omega arith) (omega arith) q few; ticks = (tt, tt) })
  up_goes up r at proto k from frame (Ok bytes) rest became there goes =
      subst (λ es. Leads topology Rest (FewWait topology up 0) (FewWait topology (suc up) 0) (Took (Circuit k proto) from frame ∷ es)) (sym goes.1)
      (λ q fair few. record { ends = sent_up topology port apart up 0 r at proto bytes goes.0 q there few; ticks = (tt, (tt, tt)) })

  -- a socket of a circuit
  up_tried : (k : ℕ) (proto : Proto) (entries : List Entry) (outcomes : List CircuitFate) → CircuitSocket topology k proto entries outcomes → (up : ℕ) → Leads topology Rest (FewWait topology up 0) (FewWait topology (up + length outcomes) 0) entries
  up_tried k proto entries outcomes (inl idle) up =
      leads_weaker topology Rest (FewWait topology up 0) (FewWait topology up 0) (FewWait topology (up + length outcomes) 0) entries
      (few_more topology up 0 (up + length outcomes) 0 (omega arith) (omega arith)) (by idle.0)
    where
      by : (entries ≡ Empty (Circuit k proto) ∷ []) ⊎ (entries ≡ Failed (Circuit k proto) ∷ []) → Leads topology Rest (FewWait topology up 0) (FewWait topology up 0) entries
      by (inl is) = subst (Leads topology Rest (FewWait topology up 0) (FewWait topology up 0)) (sym is) (λ q fair few. record { ends = few; ticks = (tt, tt) })
      by (inr is) = subst (Leads topology Rest (FewWait topology up 0) (FewWait topology up 0)) (sym is) (λ q fair few. record { ends = few; ticks = (tt, tt) })
  up_tried k proto entries outcomes (inr taken) up =
      let sent = taken.made in
      let one : length outcomes ≡ 1 = ap length taken.outcomes_are in
      subst (Leads topology Rest (FewWait topology up 0) (FewWait topology (up + length outcomes) 0)) (sym taken.entries_are)
      (leads_weaker topology Rest (FewWait topology up 0) (FewWait topology (suc up) 0) (FewWait topology (up + length outcomes) 0) (Took (Circuit k proto) taken.from taken.bytes ∷ taken.rest)
      (few_more topology (suc up) 0 (up + length outcomes) 0 (omega (arith, one)) (omega arith))
      (up_goes up sent.relay sent.part.relay proto k taken.from taken.bytes (relayed_up sent.part proto taken.bytes) taken.rest taken.outcome.became sent.its_relay sent.goes_on))

  -- some of them
  all_tried : (proto : Proto) (from m : ℕ) (entries : List Entry) (outcomes : List CircuitFate) → SocketsFrom topology proto from m entries outcomes → Leads topology Rest (FewWait topology 0 0) (FewWait topology (length outcomes) 0) entries
  all_tried proto from zero entries outcomes none =
      subst (Leads topology Rest (FewWait topology 0 0) (FewWait topology (length outcomes) 0)) (sym none.0)
      (leads_weaker topology Rest (FewWait topology 0 0) (FewWait topology 0 0) (FewWait topology (length outcomes) 0) [] (few_more topology 0 0 (length outcomes) 0 (omega arith) (omega arith)) (leads_none topology Rest (FewWait topology 0 0)))
  all_tried proto from (suc m) entries outcomes both =
      let many : length outcomes ≡ length both.done + length both.more = ap length both.outcomes_are ∙ length_both both.done both.more in
      leads_both topology Rest (FewWait topology 0 0) (FewWait topology (length both.done) 0) (FewWait topology (length outcomes) 0) (SocketsFrom topology proto from m) (CircuitSocket topology (from + m) proto) entries outcomes both
      (all_tried proto from m both.before both.done both.one)
      (leads_weaker topology Rest (FewWait topology (length both.done) 0) (FewWait topology (length both.done + length both.more) 0) (FewWait topology (length outcomes) 0) both.after
      (few_more topology (length both.done + length both.more) 0 (length outcomes) 0 (omega (arith, many)) (omega arith)) (up_tried (from + m) proto both.after both.more both.other (length both.done)))

  pub frames_add : (proto : Proto) (from circuits frames : ℕ) (old new : AccessValue) → old.topology ≡ topology → HasTakenFrames proto from circuits frames old new
      → Adds topology Rest (FewWait topology 0 0) (FewWait topology 16 0) old.history new.history
  frames_add proto from circuits frames old new its taken = record {
    entries = taken.carried.entries;
    history = ap (λ (a : AccessValue). a.history) taken.carried.after;
    leads = leads_weaker topology Rest (FewWait topology 0 0) (FewWait topology (length taken.carried.outcomes) 0) (FewWait topology 16 0) taken.carried.entries
        (few_more topology (length taken.carried.outcomes) 0 16 0 (let few = taken.few in let many = taken.carried.many in omega (arith, few, many)) (omega arith))
        (all_tried proto from circuits taken.carried.entries taken.carried.outcomes (subst (λ (top : Topology). SocketsFrom top proto from circuits taken.carried.entries taken.carried.outcomes) its taken.carried.tried));
  }
