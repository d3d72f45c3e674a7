-- What passes try and take, one after the other.
use Rattle.std.proofs.Common.{◌≡◌, ◌∙◌, ◌≤◌, ◌+◌, ◌*◌, ◌==◌, ℕ, zero, suc, Bool, true, false, List, [], ◌∷◌, ◌++◌, length, drop, refl, sym, ap, ap₂, subst, append_assoc, append-nil, add-zero, add-suc, zero-add}
use Rattle.std.proofs.Math.Path.{subst₂}
use Rattle.std.proofs.Math.Seq.{drop-append_seam}
use Rattle.types.specs.declared.dest.Proto.{Proto}
use Rattle.types.specs.declared.dest.Proto.TheVariants.{V4, V6}
use Rattle.types.specs.Delivery.{DeliveryValue}
use Rattle.config.specs.Topology.{Topology}
use Rattle.dispatch.specs.Batch.{circuits_of}
use Rattle.udp.specs.History.{Entry, Monotonic, Read, Ticked}
use Rattle.access.specs.Access.{AccessValue, HasCarried, HasServed, HasTicked, serving_in}
use Rattle.access.specs.Batch.{IsRepliedAt, serving}
use Rattle.access.specs.Pass.{AreSlices, HasAnswered, HasMadePasses, HasPassed, HasPassedOnce, IsEmptied, IsSlice, RelaysEmptied, SecondBatch, SocketsFrom}
use Rattle.access.specs.Polling.{begun, deliveries_in}
use Rattle.access.specs.Turn.{Tries}
use Rattle.access.specs.Turn as turn
use Rattle.access_promises.specs.Attempts.{CircuitSocket, all_sockets, attempts_in, pass_after_pass, socket_of, sockets_of}
use Rattle.access_promises.specs.Turns.{added}
use Rattle.access_promises.proofs.AttemptBlocks.{AreBlocks, one_more_block}
use Rattle.access_promises.proofs.AttemptCounts.{attempts_more}
use Rattle.access_promises.proofs.PassAttempts.{Finds, FindsBy, Grows, Quiet, again_quiet, circuit_finds, each_of, emptied_finds, finds_each, finds_none, grows_none, grows_then, polls_find, quiet_adds, received_history, replied_quiet}
use Rattle.access_promises.proofs.RoundEntries.{polls_of}
use Rattle.access_promises.proofs.Tried.{by_each}

-- These sockets were tried and so many datagrams taken, with one configuration of the relays.
pub record Goes (sockets : List CircuitSocket) (taken : ℕ) (old new : AccessValue) : Type 0 where
  pub grows : Grows sockets taken old.history new.history
  pub same : new.topology ≡ old.topology

goes_none : (old new : AccessValue) → new ≡ old → Goes [] 0 old new
goes_none old new is = record { grows = grows_none old.history new.history (ap (λ (a : AccessValue). a.history) is); same = ap (λ (a : AccessValue). a.topology) is }

goes_then : (a b : List CircuitSocket) (t u : ℕ) (old middle new : AccessValue) → Goes a t old middle → Goes b u middle new → Goes (a ++ b) (t + u) old new
goes_then a b t u old middle new one two = record { grows = grows_then a b t u old.history middle.history new.history one.grows two.grows; same = two.same ∙ one.same }

goes_as : (a b : List CircuitSocket) (t u : ℕ) (old new : AccessValue) → a ≡ b → t ≡ u → Goes a t old new → Goes b u old new
goes_as a b t u old new sockets taken goes = subst₂ (λ (s : List CircuitSocket) (n : ℕ). Goes s n old new) sockets taken goes

-- ---- a slice

carried_goes : (sockets : List CircuitSocket) (Try : Tries) (count : ℕ) (old new : AccessValue) → FindsBy sockets Try → HasCarried Try count old new → Goes sockets count old new
carried_goes sockets Try count old new finds tries = record {
  grows = record {
    entries = tries.entries;
    history = ap (λ (a : AccessValue). a.history) tries.after;
    finds = subst (λ n. Finds sockets n tries.entries) tries.many (finds tries.entries tries.outcomes tries.tried);
  };
  same = ap (λ (a : AccessValue). a.topology) tries.after;
}

module _ (now count : ℕ) (old new : AccessValue) (served : HasServed now count old new) where
  abbrev taken : List DeliveryValue
  taken = deliveries_in now served.entries

  polled_grows : Grows [] (length taken) old.history (old.history ++ served.entries)
  polled_grows = record { entries = served.entries; history = refl; finds = polls_find now served.entries (polls_of (begun old.batch old.first) served.entries served.polled.tries) }

  replied_grows : Grows [] 0 (old.history ++ served.entries) served.history
  replied_grows = record {
    entries = served.replied.entries;
    history = served.replied.history
        ∙ ap (λ h. h ++ served.replied.entries) (received_history taken served.answers (serving old.server old.disk old.tally (old.history ++ served.entries)) served.saved served.received);
    finds = by_each Quiet quiet_adds (λ j. IsRepliedAt taken (circuits_of old.server.topology taken) served.answers j) (λ j. replied_quiet taken (circuits_of old.server.topology taken) served.answers j) count
        served.replied.entries served.replied.outcomes served.replied.tried;
  }

  after_grows : Grows [] 0 (old.history ++ served.entries) new.history
  after_grows = grows_then [] [] 0 0 (old.history ++ served.entries) served.history new.history replied_grows
      (again_quiet taken served.answers count (serving served.saved.server served.saved.disk served.tally served.history) (serving_in new) served.again)

  served_goes : Goes [] count old new
  served_goes = goes_as [] [] (length taken + 0) count old new refl (add-zero (length taken) ∙ sym served.many)
      (record { grows = grows_then [] [] (length taken) 0 old.history (old.history ++ served.entries) new.history polled_grows after_grows; same = served.kept.topology })

answered_goes : (now count : ℕ) (old new : AccessValue) → HasAnswered now count old new → Goes [] count old new
answered_goes now count old new answered =
    goes_as [] [] (answered.first + answered.second) count old new refl (sym answered.count_is)
    (goes_then [] [] answered.first answered.second old answered.middle new (served_goes now answered.first old answered.middle answered.batch) (by (answered.first == old.batch) answered.other)) where
      by : (full : Bool) → SecondBatch full now answered.second answered.middle new → Goes [] answered.second answered.middle new
      by true served = served_goes now answered.second answered.middle new served
      by false none = goes_as [] [] 0 answered.second answered.middle new refl (sym none.0) (goes_none answered.middle new none.1)

-- so many sockets of a protocol, from one circuit on
abbrev slice_of : Proto → ℕ → ℕ → List CircuitSocket
slice_of proto from = each_of (λ i. socket_of (from + i) proto ∷ [])

slice_goes : (now : ℕ) (proto : Proto) (from circuits count : ℕ) (old new : AccessValue) → IsSlice now proto from circuits count old new → Goes (slice_of proto from circuits) count old new
slice_goes now proto from circuits count old new slice =
    goes_as ((slice_of proto from circuits ++ []) ++ []) (slice_of proto from circuits) (slice.frames + slice.datagrams + slice.answers) count old new
    (append-nil (slice_of proto from circuits ++ []) ∙ append-nil (slice_of proto from circuits)) (sym slice.count_is)
    (goes_then (slice_of proto from circuits ++ []) [] (slice.frames + slice.datagrams) slice.answers old slice.served new
    (goes_then (slice_of proto from circuits) [] slice.frames slice.datagrams old slice.relayed slice.served frames (answered_goes now slice.datagrams slice.relayed slice.served slice.at_server)) answers) where
      frames : Goes (slice_of proto from circuits) slice.frames old slice.relayed
      frames = carried_goes (slice_of proto from circuits) (SocketsFrom old.topology proto from circuits) slice.frames old slice.relayed
          (finds_each (λ i. socket_of (from + i) proto ∷ []) (λ i. turn.CircuitSocket old.topology (from + i) proto) (λ i. circuit_finds old.topology (from + i) proto) circuits) slice.from_circuits.carried

      answers : Goes [] slice.answers slice.served new
      answers = carried_goes [] (RelaysEmptied old.topology old.port) slice.answers slice.served new
          (finds_none (IsEmptied old.topology old.port) (emptied_finds old.topology old.port) (length old.topology.relays)) slice.from_relays

-- ---- a pass

slice_then : (proto : Proto) (from n : ℕ) → sockets_of proto from ++ slice_of proto from n ≡ sockets_of proto (from + n)
slice_then proto from zero = append-nil (sockets_of proto from) ∙ ap (sockets_of proto) (sym (add-zero from))
slice_then proto from (suc n) =
    sym (append_assoc (sockets_of proto from) (slice_of proto from n) (socket_of (from + n) proto ∷ []))
    ∙ (ap (λ l. l ++ socket_of (from + n) proto ∷ []) (slice_then proto from n) ∙ ap (sockets_of proto) (sym (add-suc from n)))

slices_go : (now : ℕ) (proto : Proto) (n to count : ℕ) (old new : AccessValue) → AreSlices now proto n to count old new → Goes (sockets_of proto to) count old new
slices_go now proto zero to count old new none = goes_as [] (sockets_of proto to) 0 count old new (ap (sockets_of proto) (sym none.0)) (sym none.1) (goes_none old new none.2)
slices_go now proto (suc n) to count old new slices =
    let from = slices.0 in
    let before = slices.1 in
    let middle = slices.2 in
    let circuits = slices.4 in
    let more = slices.5 in
    goes_as (sockets_of proto from ++ slice_of proto from circuits) (sockets_of proto to) (before + more) count old new (slice_then proto from circuits ∙ ap (sockets_of proto) (sym slices.7)) (sym slices.8)
    (goes_then (sockets_of proto from) (slice_of proto from circuits) before more old middle new (slices_go now proto n from before old middle slices.3) (slice_goes now proto from circuits more middle new slices.6))

ticked_goes : (now : ℕ) (old new : AccessValue) → HasTicked now old new → Goes [] 0 old new
ticked_goes now old new ticks = record {
  grows = record { entries = Ticked now ∷ []; history = ticks.history; finds = record { attempts = refl; taken_is = refl } };
  same = ap (λ (a : AccessValue). a.topology) ticks.rest;
}

module _ (now count : ℕ) (old new : AccessValue) (pass : HasPassed now count old new) where
  abbrev all : ℕ
  all = length old.topology.circuits

  of4_goes : Goes (sockets_of V4 all) pass.count4 old pass.taken4
  of4_goes = slices_go now V4 pass.of4.slices all pass.count4 old pass.taken4 pass.of4.taken

  of6_goes : Goes (sockets_of V6 all) pass.count6 pass.taken4 pass.taken6
  of6_goes = subst (λ (t : Topology). Goes (sockets_of V6 (length t.circuits)) pass.count6 pass.taken4 pass.taken6) of4_goes.same
      (slices_go now V6 pass.of6.slices (length pass.taken4.topology.circuits) pass.count6 pass.taken4 pass.taken6 pass.of6.taken)

  passed_goes : Goes (all_sockets all) count old new
  passed_goes =
      goes_as (all_sockets all ++ []) (all_sockets all) (pass.count4 + pass.count6 + 0) count old new (append-nil (all_sockets all)) (add-zero (pass.count4 + pass.count6) ∙ sym pass.count_is)
      (goes_then (all_sockets all) [] (pass.count4 + pass.count6) 0 old pass.taken6 new
      (goes_then (sockets_of V4 all) (sockets_of V6 all) pass.count4 pass.count6 old pass.taken4 pass.taken6 of4_goes of6_goes) (ticked_goes now pass.taken6 new pass.ticks))

once_goes : (before now : ℕ) (old new : AccessValue) → (once : HasPassedOnce before now old new) → Goes (all_sockets (length old.topology.circuits)) once.count old new
once_goes before now old new once =
    goes_as (all_sockets (length old.topology.circuits)) (all_sockets (length old.topology.circuits)) (0 + once.count) once.count old new refl (zero-add once.count)
    (goes_then [] (all_sockets (length old.topology.circuits)) 0 once.count old once.read new reads passed) where
      same : once.read.topology ≡ old.topology
      same = ap (λ (a : AccessValue). a.topology) once.rest

      reads : Goes [] 0 old once.read
      reads = record {
        grows = record {
          entries = Read once.reads.system ∷ Monotonic once.reads.monotonic ∷ [];
          history = once.reads.entries ∙ append_assoc old.history (Read once.reads.system ∷ []) (Monotonic once.reads.monotonic ∷ []);
          finds = record { attempts = refl; taken_is = refl };
        };
        same = same;
      }

      passed : Goes (all_sockets (length old.topology.circuits)) once.count once.read new
      passed = subst (λ (t : Topology). Goes (all_sockets (length t.circuits)) once.count once.read new) same (passed_goes now once.count once.read new once.pass)

-- ---- passes

-- at most so many datagrams are taken in a pass
abbrev pub most_of : ℕ → ℕ
most_of circuits = 38 * (circuits + 15)

pub record MadePasses (n circuits : ℕ) (old new : AccessValue) : Type 0 where
  pub entries : List Entry
  pub history : new.history ≡ old.history ++ entries
  pub order : attempts_in entries ≡ pass_after_pass circuits n
  pub blocks : AreBlocks (all_sockets circuits) (most_of circuits) n entries
  pub same : new.topology ≡ old.topology

passes_none : (circuits : ℕ) (old new : AccessValue) → new ≡ old → MadePasses 0 circuits old new
passes_none circuits old new is = record {
  entries = [];
  history = ap (λ (a : AccessValue). a.history) is ∙ sym (append-nil old.history);
  order = refl;
  blocks = refl;
  same = ap (λ (a : AccessValue). a.topology) is;
}

passes_then : (n circuits count : ℕ) (old middle new : AccessValue) → MadePasses n circuits old middle → Goes (all_sockets circuits) count middle new → count ≤ most_of circuits → MadePasses (suc n) circuits old new
passes_then n circuits count old middle new made last few =
    let entries = last.grows.entries in
    record {
      entries = made.entries ++ entries;
      history = last.grows.history ∙ (ap (λ h. h ++ entries) made.history ∙ append_assoc old.history made.entries entries);
      order = attempts_more made.entries entries ∙ ap₂ (λ (a b : List CircuitSocket). a ++ b) made.order last.grows.finds.attempts;
      blocks = one_more_block (all_sockets circuits) (most_of circuits) n made.entries entries made.blocks
          (record { attempts = last.grows.finds.attempts; few = subst (λ t. t ≤ most_of circuits) (sym last.grows.finds.taken_is) few });
      same = last.same ∙ made.same;
    }

pub made_passes : (n now : ℕ) (old new : AccessValue) → HasMadePasses n now old new → MadePasses n (length old.topology.circuits) old new
made_passes zero now old new none = passes_none (length old.topology.circuits) old new none.1
made_passes (suc n) now old new passes =
    let middle = passes.1 in
    let last = passes.3 in
    let made = made_passes n passes.0 old middle passes.2 in
    passes_then n (length old.topology.circuits) last.count old middle new made
    (subst (λ (t : Topology). Goes (all_sockets (length t.circuits)) last.count middle new) made.same (once_goes passes.0 now middle new last))
    (subst (λ (t : Topology). last.count ≤ most_of (length t.circuits)) made.same last.few)

pub added_is : (n circuits : ℕ) (old new : AccessValue) → (made : MadePasses n circuits old new) → added old new ≡ made.entries
added_is n circuits old new made = ap (drop (length old.history)) made.history ∙ drop-append_seam old.history made.entries
