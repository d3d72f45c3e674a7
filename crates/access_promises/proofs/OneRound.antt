-- One round, a turn or a pass: its moves, and then all clocks are moved.
use Rattle.std.proofs.Common.{inl, inr, ◌≡◌, ◌∙◌, ℕ, zero, suc, ◌==◌, Bool, true, false, List, [], ◌∷◌, ◌++◌, length, refl, sym, ap, subst, append_assoc}
use Rattle.types.specs.declared.dest.Proto.{Proto}
use Rattle.types.specs.declared.dest.Proto.TheVariants.{V4, V6}
use Rattle.service_clock.specs.Shown.{Shown}
use Rattle.udp.specs.History.{Entry, Monotonic, Read}
use Rattle.access.specs.Access.{AccessValue, HasTicked, HasTurned}
use Rattle.access.specs.Moments.{HasRead, HasReadClocks}
use Rattle.access.specs.Pass.{AreSlices, HasAnswered, HasPassed, IsSlice, RelaysEmptied, SecondBatch, SocketsFrom}
use Rattle.access.specs.Turn.{CircuitsSockets, RelaysSockets}
use Rattle.access_promises.specs.Turns.{IsRound}
use Rattle.access_promises.proofs.DownLemmas.{slice_down, turn_down}
use Rattle.access_promises.proofs.EntryKinds.{AreOf}
use Rattle.access_promises.proofs.Moves.{Moves, moves_none, moves_served, moves_then, moves_through, moves_up}
use Rattle.access_promises.proofs.UpLemmas.{slice_up, turn_up}

-- ---- its moves

turn_moves : (now count : ℕ) (old new : AccessValue) → (turn : HasTurned now count old new) → Moves now old turn.delivered
turn_moves now count old new turn =
    moves_through now turn.answers RelaysSockets old turn.relayed turn.served turn.delivered turn_down (moves_up now turn.frames (CircuitsSockets old.topology) old turn.relayed (turn_up old.topology) turn.from_circuits)
    (moves_served now turn.datagrams turn.relayed turn.served turn.at_server) turn.from_relays

answered_moves : (now count : ℕ) (old new : AccessValue) → HasAnswered now count old new → Moves now old new
answered_moves now count old new answered = by (answered.first == old.batch) answered.other where
  first : Moves now old answered.middle
  first = moves_served now answered.first old answered.middle answered.batch

  by : (full : Bool) → SecondBatch full now answered.second answered.middle new → Moves now old new
  by true served = moves_then now old answered.middle new first (moves_served now answered.second answered.middle new served)
  by false none = subst (Moves now old) (sym none.1) first

slice_moves : (now : ℕ) (proto : Proto) (from circuits count : ℕ) (old new : AccessValue) → IsSlice now proto from circuits count old new → Moves now old new
slice_moves now proto from circuits count old new slice =
    moves_through now slice.answers RelaysEmptied old slice.relayed slice.served new slice_down
    (moves_up now slice.frames (SocketsFrom old.topology proto from circuits) old slice.relayed (slice_up old.topology proto from circuits) slice.from_circuits.carried)
    (answered_moves now slice.datagrams slice.relayed slice.served slice.at_server) slice.from_relays

slices_move : (now : ℕ) (proto : Proto) (n to count : ℕ) (old new : AccessValue) → AreSlices now proto n to count old new → Moves now old new
slices_move now proto zero to count old new none = subst (Moves now old) (sym none.2) (moves_none now old)
slices_move now proto (suc n) to count old new slices =
    moves_then now old slices.2 new (slices_move now proto n slices.0 slices.1 old slices.2 slices.3) (slice_moves now proto slices.0 slices.4 slices.5 slices.2 new slices.6)

pass_moves : (now count : ℕ) (old new : AccessValue) → (pass : HasPassed now count old new) → Moves now old pass.taken6
pass_moves now count old new pass =
    moves_then now old pass.taken4 pass.taken6 (slices_move now V4 pass.of4.slices (length old.topology.circuits) pass.count4 old pass.taken4 pass.of4.taken)
    (slices_move now V6 pass.of6.slices (length pass.taken4.topology.circuits) pass.count6 pass.taken4 pass.taken6 pass.of6.taken)

-- ---- clocks are read before them, and all clocks are moved after them

pub record IsOneRound (old new : AccessValue) : Type 0 where
  pub now : ℕ
  pub readings : List Entry
  pub are : AreOf 0 readings
  pub clock : Shown
  pub moved : AccessValue
  pub moves : Moves now (record old { history = old.history ++ readings; clock = clock }) moved
  pub ticks : HasTicked now moved new

from_read : (before now : ℕ) (old read moved new : AccessValue) → (reads : HasRead before now old.history read.history) → read ≡ record old { history = read.history } → Moves now read moved → HasTicked now moved new → IsOneRound old new
from_read before now old read moved new reads rest moves ticks = record {
  now = now;
  readings = Read reads.reading ∷ [];
  are = (refl, tt);
  clock = old.clock;
  moved = moved;
  moves = subst (λ (a : AccessValue). Moves now a moved) (rest ∙ ap (λ h. record old { history = h }) reads.entry) moves;
  ticks = ticks;
}

from_clocks : (now : ℕ) (old read moved new : AccessValue) → (reads : HasReadClocks now old.clock read.clock old.history read.history) → read ≡ record old { history = read.history; clock = read.clock } → Moves now read moved → HasTicked now moved new
    → IsOneRound old new
from_clocks now old read moved new reads rest moves ticks = record {
  now = now;
  readings = Read reads.system ∷ Monotonic reads.monotonic ∷ [];
  are = (refl, (refl, tt));
  clock = read.clock;
  moved = moved;
  moves = subst (λ (a : AccessValue). Moves now a moved)
      (rest ∙ ap (λ h. record old { history = h; clock = read.clock }) (reads.entries ∙ append_assoc old.history (Read reads.system ∷ []) (Monotonic reads.monotonic ∷ []))) moves;
  ticks = ticks;
}

pub one_round : (before now : ℕ) (old new : AccessValue) → IsRound before now old new → IsOneRound old new
one_round before now old new (inl once) =
    let turn = once.turn in
    from_read before now old once.read turn.delivered new once.reads once.rest (turn_moves now once.count once.read new turn) turn.ticks
one_round before now old new (inr once) =
    from_clocks now old once.read once.pass.taken6 new once.reads once.rest (pass_moves now once.count once.read new once.pass) once.pass.ticks
