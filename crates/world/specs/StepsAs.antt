-- What a world keeps from step to step. Only proofs need these.
use Rattle.std.specs.Prelude.{◌≡◌, ℕ, ◌==◌, ◌&&◌, not, Bool, true, false, Option, List, [], ◌∷◌, length, slice_get, Some, None, Ok}
use Rattle.config.specs.CircuitPart.{CircuitPart}
use Rattle.requests.specs.Addressee.{addressee}
use Rattle.dispatch.specs.Regions.{HasRegions}
use Rattle.dispatch.specs.ServerValue.{AreReady}
use Rattle.lease_disk.specs.Model as disk
use Rattle.lossy_net.specs.Net.{Datagram, datagrams}
use Rattle.lossy_net.specs.declared.dir.Dir.TheVariants.{Up, Down}
use Rattle.config.specs.Membership.{MembershipValue, has}
use Rattle.config.specs.Topology.{IsTopology, Topology, listen, serves}
use Rattle.relay.specs.Relays.{for_circuit, relayed_down, relayed_down_in}
use Rattle.world.specs.Alone.{Alone, Effect, Setup, alone_step, delivery_of, writes}
use Rattle.world.specs.Headline.{CircuitState, IsOutcome, MovesRest, Shows}
use Rattle.events.specs.Seen.{Seen, Frame, Up, Down, Tick, Restart, Turn, turn_to}
use Rattle.world.specs.World.{WorldValue}
use Rattle.events.specs.declared.outcome.Outcome.{Outcome}

-- whether a circuit is on after what it sees
abbrev pub on_by : Seen → Bool → Bool
on_by (Turn next) on = next
on_by (Frame proto bytes) on = on
on_by (Up j now fault) on = on
on_by (Down j) on = on
on_by (Tick now) on = on
on_by (Restart comeback) on = on

-- What circuit c sees moves its state by the step of each machine that the state shows, and the outcome is
-- the machine's.
pub record StepsAs (c : ℕ) (s : Seen) (old new : CircuitState) (o : Outcome) (out : List ℕ) : Type 0 where
  pub effect : Effect
  pub outcome : IsOutcome c effect o out
  pub effect_is : (setup : Setup) (a : Alone) → Shows old setup a → (alone_step setup s a).effect ≡ effect
  pub next : (setup : Setup) (a : Alone) → Shows old setup a → Shows new setup (alone_step setup s a).next
  pub quiet : (setup : Setup) (a : Alone) → Shows old setup a → writes setup s a ≡ false → new.region ≡ old.region
  pub plans : new.plans ≡ old.plans
  pub turns : new.on ≡ on_by s old.on
  pub rest : MovesRest s old new

-- Circuit k's state moves so, and every other one stays.
pub record Moves (k : ℕ) (s : Seen) (old new : List CircuitState) (o : Outcome) (out : List ℕ) : Type 0 where
  pub count : length new ≡ length old
  pub before : CircuitState
  pub after : CircuitState
  pub was : slice_get old k ≡ Some before
  pub is : slice_get new k ≡ Some after
  pub steps : StepsAs k s before after o out
  pub others : (c : ℕ) → (k == c) ≡ false → slice_get new c ≡ slice_get old c

-- Every state moves so, by what its circuit sees.
pub record AllMove (s : ℕ → Seen) (old new : List CircuitState) (o : Outcome) (out : List ℕ) : Type 0 where
  pub count : length new ≡ length old
  pub each : (c : ℕ) (before : CircuitState) → slice_get old c ≡ Some before → (after : CircuitState) × (slice_get new c ≡ Some after) × StepsAs c (s c) before after o out

-- By what it sees, if anything, a circuit's state moves so.
abbrev pub MovesBy : ℕ → Option Seen → CircuitState → CircuitState → Outcome → List ℕ → Type 0
MovesBy c None old new o out = new ≡ old
MovesBy c (Some s) old new o out = StepsAs c s old new o out

-- whether a plan turns a circuit off
abbrev pub turns_off : Topology → ℕ → ℕ → Bool
turns_off t plan c = serves t c && not (has t.plans plan c)

-- Every circuit that is on or not, as it then is to be, moves so.
pub record AllTurn (next : ℕ → Bool) (old new : List CircuitState) (o : Outcome) (out : List ℕ) : Type 0 where
  pub count : length new ≡ length old
  pub each : (c : ℕ) (before : CircuitState) → slice_get old c ≡ Some before → (after : CircuitState) × (slice_get new c ≡ Some after) × MovesBy c (turn_to before.on (next c)) before after o out

-- each of the datagrams
abbrev pub Each : (Datagram → Type 0) → List Datagram → Type 0
Each P [] = Unit {0}
Each P (d ∷ ds) = P d × Each P ds

-- whichever circuits are served
abbrev pub under : Topology → MembershipValue → Topology
under t plans = record t { plans = plans }

-- the server finds that a datagram is circuit k's, at any moment, whenever it serves that
abbrev pub IsFor : Topology → ℕ → CircuitPart → Datagram → Type 0
IsFor t k part d = (plans : MembershipValue) (now : ℕ) → serves (under t plans) k ≡ true → addressee (under t plans) (delivery_of part now d) ≡ Ok k

-- and so does the circuit's relay, whatever its index
abbrev pub Returns : Topology → ℕ → CircuitPart → Datagram → Type 0
Returns t k part d = (plans : MembershipValue) (relay : ℕ) → serves (under t plans) k ≡ true → slice_get t.relays relay ≡ Some part.relay
    → relayed_down_in (under t plans) relay (listen t d.proto) d.bytes ≡ for_circuit k (relayed_down part d.proto d.bytes)

-- Relay, network and server know the circuits of this topology, and what the network keeps of each is its
-- own.
pub record IsWorldOf (t : Topology) (w : WorldValue) : Type 0 where
  pub sound : IsTopology t
  pub served : w.server.topology ≡ t
  pub count : length w.net.circuits ≡ length t.circuits
  -- each circuit has its region, which an open circuit can save to
  pub regions : HasRegions t.circuits (length w.disk.regions)
  pub ready : AreReady (disk.disk_region w.disk) w.server
  pub addressed : (c : ℕ) (part : CircuitPart) → slice_get t.circuits c ≡ Some part → Each (IsFor t c part) (datagrams w.net c Up)
  pub returned : (c : ℕ) (part : CircuitPart) → slice_get t.circuits c ≡ Some part → Each (Returns t c part) (datagrams w.net c Down)

abbrev pub IsWorld : WorldValue → Type 0
IsWorld w = IsWorldOf w.relays.topology w
