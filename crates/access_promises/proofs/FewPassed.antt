-- After each slice, and so at the end of each pass, nothing waits.
use Rattle.std.proofs.Common.{◌≡◌, ◌∙◌, ℕ, zero, suc, ◌<◌, ◌≤◌, ◌==◌, Bool, true, false, cond, List, [], ◌∷◌, ◌++◌, length, drop, refl, sym, ap, subst, append_assoc, arith}
use Rattle.std.specs.Prelude.{Option, Some, None, slice_get}
use Rattle.std.proofs.lemmas.List.Elements.{All-nil}
use Rattle.types.specs.declared.addr.Source.{Source}
use Rattle.types.specs.declared.dest.Proto.{Proto}
use Rattle.types.specs.declared.dest.Proto.TheVariants.{V4, V6}
use Rattle.settings.specs.Settings.{Settings}
use Rattle.config.specs.Topology.{Topology, is_relay, is_server}
use Rattle.sockets.specs.Sockets.{client_port}
use Rattle.udp.specs.History.{Entry, Took, Failed, Empty, Sent, Ticked, Refused, Read, Monotonic}
use Rattle.udp.specs.declared.history.Role.{Role}
use Rattle.udp.specs.declared.history.Role.TheVariants.{Circuit, Server, Relay}
use Rattle.access.specs.Access.{AccessValue, HasCarried, HasServed, HasTicked}
use Rattle.access.specs.Moments.{HasReadClocks}
use Rattle.access.specs.Pass.{AreSlices, HasAnswered, HasMadePasses, HasPassed, IsSlice, RelaysEmptied, SecondBatch}
use Rattle.access.specs.Turn.{Tries}
use Rattle.access_promises.specs.Turns.{added}
use Rattle.access_promises.specs.Waiting.{IsService, LosesNothing, Underway, address_of, is_at, is_socket, waiting}
use Rattle.access_promises.proofs.FewFrames.{frames_add}
use Rattle.access_promises.proofs.FewServed.{answered_adds}
use Rattle.access_promises.proofs.FewTaken.{relays_add}
use Rattle.access_promises.proofs.FewWait.{AreApart, FewWait, IsOurs, are_apart}
use Rattle.access_promises.proofs.Queues.{Adds, AreFair, AtTicks, Queues, adds_none, adds_then, after_all, all_is, are_fair, at_tick}

-- what a pass keeps
record IsSetUp (topology : Topology) (port : ℕ) (a : AccessValue) : Type 0 where
  topology_is : a.topology ≡ topology
  port_is : a.port ≡ port
  batch_is : a.batch ≡ 16

set_up_carried : (topology : Topology) (port : ℕ) (Try : Tries) (count : ℕ) (old new : AccessValue) → IsSetUp topology port old → HasCarried Try count old new → IsSetUp topology port new
set_up_carried topology port Try count old new set_up carried = record {
  topology_is = ap (λ (a : AccessValue). a.topology) carried.after ∙ set_up.topology_is;
  port_is = ap (λ (a : AccessValue). a.port) carried.after ∙ set_up.port_is;
  batch_is = ap (λ (a : AccessValue). a.batch) carried.after ∙ set_up.batch_is;
}

set_up_served : (topology : Topology) (port now count : ℕ) (old new : AccessValue) → IsSetUp topology port old → HasServed now count old new → IsSetUp topology port new
set_up_served topology port now count old new set_up served = record { topology_is = served.kept.topology ∙ set_up.topology_is; port_is = served.kept.port ∙ set_up.port_is; batch_is = served.kept.batch ∙ set_up.batch_is }

set_up_answered : (topology : Topology) (port now count : ℕ) (old new : AccessValue) → IsSetUp topology port old → HasAnswered now count old new → IsSetUp topology port new
set_up_answered topology port now count old new set_up answered = by (answered.first == old.batch) answered.other where
  first : IsSetUp topology port answered.middle
  first = set_up_served topology port now answered.first old answered.middle set_up answered.batch

  by : (full : Bool) → SecondBatch full now answered.second answered.middle new → IsSetUp topology port new
  by true served = set_up_served topology port now answered.second answered.middle new first served
  by false none = subst (IsSetUp topology port) (sym none.1) first

module _ (topology : Topology) (port : ℕ) (apart : AreApart topology port) where
  -- nothing waits
  abbrev Rest : Queues → Type 0
  Rest = FewWait topology 0 0

  record Passed (old new : AccessValue) : Type 0 where
    set_up : IsSetUp topology port new
    adds : Adds topology Rest Rest Rest old.history new.history

  passed_none : (old new : AccessValue) → IsSetUp topology port old → new ≡ old → Passed old new
  passed_none old new set_up same = record { set_up = subst (IsSetUp topology port) (sym same) set_up; adds = adds_none topology Rest Rest old.history new.history (ap (λ (a : AccessValue). a.history) same) }

  passed_then : (a b c : AccessValue) → Passed a b → Passed b c → Passed a c
  passed_then a b c one two = record { set_up = two.set_up; adds = adds_then topology Rest Rest Rest Rest a.history b.history c.history one.adds two.adds }

  slice_passed : (now : ℕ) (proto : Proto) (from circuits count : ℕ) (old new : AccessValue) → IsSetUp topology port old → IsSlice now proto from circuits count old new → Passed old new
  slice_passed now proto from circuits count old new set_up slice = record {
    set_up = set_up_carried topology port (RelaysEmptied old.topology old.port) slice.answers slice.served new served slice.from_relays;
    adds = adds_then topology Rest Rest (FewWait topology 0 32) Rest old.history slice.served.history new.history
        (adds_then topology Rest Rest (FewWait topology 16 0) (FewWait topology 0 32) old.history slice.relayed.history slice.served.history
        (frames_add topology port apart Rest proto from circuits slice.frames old slice.relayed set_up.topology_is slice.from_circuits)
        (answered_adds topology port apart Rest now slice.datagrams slice.relayed slice.served relayed.batch_is slice.at_server))
        (relays_add topology port apart Rest slice.answers slice.served new
        (subst (λ p. HasCarried (RelaysEmptied topology p) slice.answers slice.served new) set_up.port_is
        (subst (λ (top : Topology). HasCarried (RelaysEmptied top old.port) slice.answers slice.served new) set_up.topology_is slice.from_relays)));
  } where
    relayed : IsSetUp topology port slice.relayed
    relayed = set_up_carried topology port _ slice.frames old slice.relayed set_up slice.from_circuits.carried

    served : IsSetUp topology port slice.served
    served = set_up_answered topology port now slice.datagrams slice.relayed slice.served relayed slice.at_server

  slices_passed : (now : ℕ) (proto : Proto) (n to count : ℕ) (old new : AccessValue) → IsSetUp topology port old → AreSlices now proto n to count old new → Passed old new
  slices_passed now proto zero to count old new set_up none = passed_none old new set_up none.2
  slices_passed now proto (suc n) to count old new set_up (from, before, middle, were, circuits, more, slice, at, many) =
      let earlier = slices_passed now proto n from before old middle set_up were in
      passed_then old middle new earlier (slice_passed now proto from circuits more middle new earlier.set_up slice)

  -- ---- a pass

  tick_passed : (now : ℕ) (old new : AccessValue) → IsSetUp topology port old → HasTicked now old new → Passed old new
  tick_passed now old new set_up ticks = record {
    set_up = record {
      topology_is = ap (λ (a : AccessValue). a.topology) ticks.rest ∙ set_up.topology_is;
      port_is = ap (λ (a : AccessValue). a.port) ticks.rest ∙ set_up.port_is;
      batch_is = ap (λ (a : AccessValue). a.batch) ticks.rest ∙ set_up.batch_is;
    };
    adds = record { entries = Ticked now ∷ []; history = ticks.history; leads = λ q fair few. record { ends = few; ticks = (few, tt) } };
  }

  pass_passed : (now count : ℕ) (old new : AccessValue) → IsSetUp topology port old → HasPassed now count old new → Passed old new
  pass_passed now count old new set_up pass =
      let four = slices_passed now V4 pass.of4.slices (length old.topology.circuits) pass.count4 old pass.taken4 set_up pass.of4.taken in
      let six = slices_passed now V6 pass.of6.slices (length pass.taken4.topology.circuits) pass.count6 pass.taken4 pass.taken6 four.set_up pass.of6.taken in
      passed_then old pass.taken6 new (passed_then old pass.taken4 pass.taken6 four six) (tick_passed now pass.taken6 new six.set_up pass.ticks)

  read_passed : (now : ℕ) (old read : AccessValue) → IsSetUp topology port old → HasReadClocks now old.clock read.clock old.history read.history → read ≡ record old { history = read.history; clock = read.clock } → Passed old read
  read_passed now old read set_up reads rest = record {
    set_up = record {
      topology_is = ap (λ (a : AccessValue). a.topology) rest ∙ set_up.topology_is;
      port_is = ap (λ (a : AccessValue). a.port) rest ∙ set_up.port_is;
      batch_is = ap (λ (a : AccessValue). a.batch) rest ∙ set_up.batch_is;
    };
    adds = record {
      entries = Read reads.system ∷ Monotonic reads.monotonic ∷ [];
      history = reads.entries ∙ append_assoc old.history (Read reads.system ∷ []) (Monotonic reads.monotonic ∷ []);
      leads = λ q fair few. record { ends = few; ticks = (tt, (tt, tt)) };
    };
  }

  passes_passed : (n now : ℕ) (old new : AccessValue) → IsSetUp topology port old → HasMadePasses n now old new → Passed old new
  passes_passed zero now old new set_up made = passed_none old new set_up made.1
  passes_passed (suc n) now old new set_up (before, middle, were, once) =
      let earlier = passes_passed n before old middle set_up were in
      let read = read_passed now middle once.read earlier.set_up once.reads once.rest in
      passed_then old middle new earlier (passed_then middle once.read new read (pass_passed now once.count once.read new read.set_up once.pass))

-- ---- at the end of a pass

none_at_first : (topology : Topology) → FewWait topology 0 0 (λ socket. [])
none_at_first topology = record { at_server = omega arith; at_relays = λ r at there. omega arith; ours = λ proto. All-nil (IsOurs topology) }

abbrev no_datagram : List Underway
no_datagram = []

is_empty : (queue : List Underway) → length queue ≤ 0 → queue ≡ []
is_empty [] least = refl
is_empty (x ∷ queue) least = absurd (omega (arith, least))

drop_nothing : (b : Bool) → cond b (drop 1 no_datagram) no_datagram ≡ no_datagram
drop_nothing true = refl
drop_nothing false = refl

-- at a socket that has no address
nowhere : (topology : Topology) (socket : Role) → address_of topology socket ≡ None → (entries : List Entry) → waiting topology socket [] entries ≡ []
nowhere topology socket none [] = refl
nowhere topology socket none (Took at from bytes ∷ entries) = ap (λ queue. waiting topology socket queue entries) (drop_nothing (is_socket at socket)) ∙ nowhere topology socket none entries
nowhere topology socket none (Failed at ∷ entries) = nowhere topology socket none entries
nowhere topology socket none (Empty at ∷ entries) = nowhere topology socket none entries
nowhere topology socket none (Sent from to bytes true ∷ entries) =
    ap (λ (at : Option Source). waiting topology socket (cond (is_at at to) (record { from = address_of topology from; bytes = bytes } ∷ []) []) entries) none ∙ nowhere topology socket none entries
nowhere topology socket none (Sent from to bytes false ∷ entries) = nowhere topology socket none entries
nowhere topology socket none (Ticked now ∷ entries) = nowhere topology socket none entries
nowhere topology socket none (Refused at source ∷ entries) = nowhere topology socket none entries
nowhere topology socket none (Read time ∷ entries) = nowhere topology socket none entries
nowhere topology socket none (Monotonic time ∷ entries) = nowhere topology socket none entries

empty_at : (topology : Topology) (entries : List Entry) → FewWait topology 0 0 (after_all topology entries (λ socket. [])) → (socket : Role) → waiting topology socket [] entries ≡ []
empty_at topology entries few (Server V4) =
    sym (all_is topology entries (λ socket. []) (Server V4)) ∙ is_empty (after_all topology entries (λ socket. []) (Server V4)) (let least = few.at_server in omega (arith, least))
empty_at topology entries few (Server V6) =
    sym (all_is topology entries (λ socket. []) (Server V6)) ∙ is_empty (after_all topology entries (λ socket. []) (Server V6)) (let least = few.at_server in omega (arith, least))
empty_at topology entries few (Circuit c proto) = nowhere topology (Circuit c proto) refl entries
empty_at topology entries few (Relay r) = by (slice_get topology.relays r) refl where
  by : (there : Option Source) → slice_get topology.relays r ≡ there → waiting topology (Relay r) [] entries ≡ []
  by None is = nowhere topology (Relay r) is entries
  by (Some at) is = sym (all_is topology entries (λ socket. []) (Relay r)) ∙ is_empty (after_all topology entries (λ socket. []) (Relay r)) (few.at_relays r at is)

drop_seam : {A : Type 0} (xs ys : List A) → drop (length xs) (xs ++ ys) ≡ ys
drop_seam [] ys = refl
drop_seam (x ∷ xs) ys = drop_seam xs ys

pub nothing_waits : (n last now : ℕ) (settings : Settings) (old new : AccessValue) (before more : List Entry) (socket : Role) → IsService settings old → HasMadePasses n last old new → LosesNothing old.topology [] (added old new)
    → added old new ≡ before ++ Ticked now ∷ more → waiting old.topology socket [] before ≡ []
nothing_waits n last now settings old new before more socket service made loses is = empty_at old.topology before (at_tick old.topology (FewWait old.topology 0 0) before more now (λ at. []) ticks) socket where
  apart : AreApart old.topology old.port
  apart =
      subst (λ (top : Topology). AreApart top old.port) (sym service.topology)
      (are_apart settings old.port service.sound.rules.names
      (subst (λ (top : Topology). (c : ℕ) (proto : Proto) → c < length top.circuits → (is_relay top (client_port old.port c proto) ≡ false) × (is_server top (client_port old.port c proto) ≡ false)) service.topology service.apart))

  passed : Passed old.topology old.port apart old new
  passed = passes_passed old.topology old.port apart n last old new (record { topology_is = refl; port_is = refl; batch_is = service.batch }) made

  entries_are : added old new ≡ passed.adds.entries
  entries_are = ap (drop (length old.history)) passed.adds.history ∙ drop_seam old.history passed.adds.entries

  fair : AreFair old.topology (λ at. []) passed.adds.entries
  fair = subst (AreFair old.topology (λ at. [])) entries_are (are_fair old.topology [] (added old new) loses)

  ticks : AtTicks old.topology (FewWait old.topology 0 0) (λ at. []) (before ++ Ticked now ∷ more)
  ticks = subst (AtTicks old.topology (FewWait old.topology 0 0) (λ at. [])) (sym entries_are ∙ is) (passed.adds.leads (λ at. []) fair (none_at_first old.topology)).ticks
