-- The states of a world, by parts and leases.
use Rattle.std.proofs.Common.{◌≡◌, ℕ, zero, suc, ◌<◌, ◌≤◌, Bool, false, eqb, List, [], ◌∷◌, length, set, refl, sym, ap, ◌∙◌, arith}
use Rattle.std.specs.Prelude.{Option, Some, None, slice_get}
use Rattle.std.specs.Option.{option_map_or}
use Rattle.std.proofs.lemmas.Option.{same_Some}
use Rattle.config.specs.CircuitPart.{CircuitPart}
use Rattle.circuit_server.specs.Leases.{Leases}
use Rattle.dispatch.specs.ServerValue.{leases_in}
use Rattle.world.specs.Headline.{CircuitState}
use Rattle.events.specs.Seen.{Seen}
use Rattle.world.specs.StepsAs.{StepsAs, Moves}
use Rattle.world.specs.World.{WorldValue, each_state, world_state, states}
use Rattle.lease_disk.specs.Model as disk
use Rattle.events.specs.declared.outcome.Outcome.{Outcome}

-- ---- lists

-- the element that was written, and every other one
pub get_set : {A : Type 0} (xs : List A) (k : ℕ) (x : A) → k < length xs → slice_get (set xs k x) k ≡ Some x
get_set [] k x h = absurd (omega (arith, h))
get_set (y ∷ ys) zero x h = refl
get_set (y ∷ ys) (suc k) x h = get_set ys k x (omega (arith, h))

pub get_set_other : {A : Type 0} (xs : List A) (k c : ℕ) (x : A) → (k ≡ c → ⊥) → slice_get (set xs k x) c ≡ slice_get xs c
get_set_other [] k c x apart = refl
get_set_other (y ∷ ys) zero zero x apart = absurd (apart refl)
get_set_other (y ∷ ys) zero (suc c) x apart = refl
get_set_other (y ∷ ys) (suc k) zero x apart = refl
get_set_other (y ∷ ys) (suc k) (suc c) x apart = get_set_other ys k c x (λ same. apart (ap suc same))

-- what is past the end is not
pub past_end : {A : Type 0} (xs : List A) (n : ℕ) → length xs ≤ n → slice_get xs n ≡ None
past_end [] n past = refl
past_end (x ∷ xs) zero past = absurd (omega (arith, past))
past_end (x ∷ xs) (suc n) past = past_end xs n (omega (arith, past))

-- what is within a list is there
pub is_there : {A : Type 0} (xs : List A) (k : ℕ) → k < length xs → (x : A) × (slice_get xs k ≡ Some x)
is_there [] k h = absurd (omega (arith, h))
is_there (x ∷ xs) zero h = (x, refl)
is_there (x ∷ xs) (suc k) h = is_there xs k (omega (arith, h))

-- ---- states

-- which plans have a circuit, and whether it is served, where it is there
abbrev pub plans_in : Option CircuitState → List Bool
plans_in slot = option_map_or (λ (state : CircuitState). state.plans) slot []

abbrev pub is_on_in : Option CircuitState → Bool
is_on_in slot = option_map_or (λ (state : CircuitState). state.on) slot false

pub state_at : (f : ℕ → CircuitPart → Leases → CircuitState) (parts : List CircuitPart) (all : List Leases) (k : ℕ) (p : CircuitPart) (b : Leases)
    → slice_get parts k ≡ Some p → slice_get all k ≡ Some b → slice_get (each_state f parts all) k ≡ Some (f k p b)
state_at f [] all k p b there its = absurd cc
state_at f (x ∷ parts) [] k p b there its = absurd cc
state_at f (x ∷ parts) (y ∷ all) zero p b there its = λ i. Some (f 0 (same_Some x p there i) (same_Some y b its i))
state_at f (x ∷ parts) (y ∷ all) (suc k) p b there its = state_at (λ c. f (suc c)) parts all k p b there its

pub record IsState (f : ℕ → CircuitPart → Leases → CircuitState) (parts : List CircuitPart) (all : List Leases) (k : ℕ) (s : CircuitState) : Type 0 where
  pub part : CircuitPart
  pub leases : Leases
  pub there : slice_get parts k ≡ Some part
  pub its : slice_get all k ≡ Some leases
  pub is : s ≡ f k part leases

pub is_state : (f : ℕ → CircuitPart → Leases → CircuitState) (parts : List CircuitPart) (all : List Leases) (k : ℕ) (s : CircuitState) → slice_get (each_state f parts all) k ≡ Some s → IsState f parts all k s
is_state f [] all k s at = absurd cc
is_state f (x ∷ parts) [] k s at = absurd cc
is_state f (x ∷ parts) (y ∷ all) zero s at = record { part = x; leases = y; there = refl; its = refl; is = sym (same_Some (f 0 x y) s at) }
is_state f (x ∷ parts) (y ∷ all) (suc k) s at =
    let r = is_state (λ c. f (suc c)) parts all k s at in
    record { part = r.part; leases = r.leases; there = r.there; its = r.its; is = r.is }

pub state_count : (f : ℕ → CircuitPart → Leases → CircuitState) (parts : List CircuitPart) (all : List Leases) → length all ≡ length parts → length (each_state f parts all) ≡ length parts
state_count f [] all same = refl
state_count f (x ∷ parts) [] same = absurd (omega (arith, same))
state_count f (x ∷ parts) (y ∷ all) same = ap suc (state_count (λ c. f (suc c)) parts all (omega (arith, same)))

pub same_state : (f g : ℕ → CircuitPart → Leases → CircuitState) (parts : List CircuitPart) (all changed : List Leases) (k : ℕ) → length changed ≡ length all
    → slice_get changed k ≡ slice_get all k → ((p : CircuitPart) (b : Leases) → slice_get parts k ≡ Some p → g k p b ≡ f k p b)
    → slice_get (each_state g parts changed) k ≡ slice_get (each_state f parts all) k
same_state f g [] all changed k size same alike = refl
same_state f g (x ∷ parts) [] [] k size same alike = refl
same_state f g (x ∷ parts) [] (z ∷ changed) k size same alike = absurd (omega (arith, size))
same_state f g (x ∷ parts) (y ∷ all) [] k size same alike = absurd (omega (arith, size))
same_state f g (x ∷ parts) (y ∷ all) (z ∷ changed) zero size same alike = ap Some (ap (g 0 x) (same_Some z y same) ∙ alike x y refl)
same_state f g (x ∷ parts) (y ∷ all) (z ∷ changed) (suc k) size same alike =
    same_state (λ c. f (suc c)) (λ c. g (suc c)) parts all changed k (omega (arith, size)) same alike

-- ---- a circuit's step

-- the leases of all circuits
abbrev pub leases_now : WorldValue → List Leases
leases_now w = leases_in (disk.disk_region w.disk) w.server

-- Only circuit k's leases, queues and counter may differ.
pub moves : (k : ℕ) (s : Seen) (w new : WorldValue) (p : CircuitPart) (l after : Leases) (o : Outcome) (out : List ℕ)
    → new.server.topology.circuits ≡ w.server.topology.circuits → length (leases_now w) ≡ length w.server.topology.circuits → length (leases_now new) ≡ length (leases_now w)
    → slice_get w.server.topology.circuits k ≡ Some p → slice_get (leases_now w) k ≡ Some l → slice_get (leases_now new) k ≡ Some after
    → ((c : ℕ) → eqb k c ≡ false → slice_get (leases_now new) c ≡ slice_get (leases_now w) c)
    → ((c : ℕ) → eqb k c ≡ false → (p : CircuitPart) (l : Leases) → slice_get w.server.topology.circuits c ≡ Some p → world_state new c p l ≡ world_state w c p l)
    → StepsAs k s (world_state w k p l) (world_state new k p after) o out → Moves k s (states w) (states new) o out
moves k s w new p l after o out parts whole size there its now same alike steps =
    let with_parts : List CircuitPart → List CircuitState = λ ps. each_state (world_state new) ps (leases_now new) in
    record {
      count =
          ap (λ ps. length (with_parts ps)) parts ∙ state_count (world_state new) w.server.topology.circuits (leases_now new) (size ∙ whole)
          ∙ sym (state_count (world_state w) w.server.topology.circuits (leases_now w) whole);
      before = world_state w k p l;
      after = world_state new k p after;
      was = state_at (world_state w) w.server.topology.circuits (leases_now w) k p l there its;
      is = ap (λ ps. slice_get (with_parts ps) k) parts ∙ state_at (world_state new) w.server.topology.circuits (leases_now new) k p after there now;
      steps = steps;
      others = λ c other.
          ap (λ ps. slice_get (with_parts ps) c) parts
          ∙ same_state (world_state w) (world_state new) w.server.topology.circuits (leases_now w) (leases_now new) c size (same c other) (alike c other);
    }
