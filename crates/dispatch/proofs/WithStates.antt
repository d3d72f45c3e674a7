-- Parts and states, side by side.
use Rattle.std.proofs.Common.{◌≡◌, ℕ, zero, suc, ◌<◌, List, [], ◌∷◌, map, length, get_or, set, refl, sym, ap, subst, ◌∙◌, arith}
use Rattle.std.specs.Prelude.{All, Option, Some, slice_get}
use Rattle.std.proofs.lemmas.Option.{get_or_from_slice_get, same_Some, slice_get-get_or, slice_get_within}
use Rattle.config.specs.CircuitPart.{CircuitPart}
use Rattle.circuit_server.specs.CircuitServerValue.{CircuitServerValue, OpenCircuitValue, part_of}
use Rattle.dispatch.specs.ServerValue.{with_states}

-- within a list there is an element
pub there_is : {X : Type 0} (xs : List X) (i : ℕ) → i < length xs → (x : X) × (slice_get xs i ≡ Some x)
there_is [] i within = absurd (omega (arith, within))
there_is (x ∷ xs) zero within = (x, refl)
there_is (x ∷ xs) (suc i) within = there_is xs i (omega (arith, within))

pub parts_with : (parts : List CircuitPart) (states : List (Option OpenCircuitValue)) → map part_of (with_states parts states) ≡ parts
parts_with [] states = refl
parts_with (part ∷ parts) [] = ap (λ ps. part ∷ ps) (parts_with parts [])
parts_with (part ∷ parts) (state ∷ states) = ap (λ ps. part ∷ ps) (parts_with parts states)

pub size_with : (parts : List CircuitPart) (states : List (Option OpenCircuitValue)) → length (with_states parts states) ≡ length parts
size_with [] states = refl
size_with (part ∷ parts) [] = ap suc (size_with parts [])
size_with (part ∷ parts) (state ∷ states) = ap suc (size_with parts states)

abbrev pub server : CircuitPart → Option OpenCircuitValue → CircuitServerValue
server part state = record { part = part; state = state }

-- one circuit's state
pub set_with : (parts : List CircuitPart) (states : List (Option OpenCircuitValue)) (i : ℕ) (p : CircuitPart) (state : Option OpenCircuitValue) → slice_get parts i ≡ Some p → i < length states
    → with_states parts (set states i state) ≡ set (with_states parts states) i (server p state)
set_with [] states i p state there within = absurd cc
set_with (part ∷ parts) [] i p state there within = absurd (omega (arith, within))
set_with (part ∷ parts) (s ∷ states) zero p state there within = ap (λ x. server x state ∷ with_states parts states) (same_Some part p there)
set_with (part ∷ parts) (s ∷ states) (suc i) p state there within = ap (λ xs. server part s ∷ xs) (set_with parts states i p state there (omega (arith, within)))

pub get_with : (parts : List CircuitPart) (states : List (Option OpenCircuitValue)) (i : ℕ) (p : CircuitPart) (state : Option OpenCircuitValue) (d : CircuitServerValue) → slice_get parts i ≡ Some p → i < length states
    → get_or (with_states parts states) i d ≡ server p (get_or states i state)
get_with [] states i p state d there within = absurd cc
get_with (part ∷ parts) [] i p state d there within = absurd (omega (arith, within))
get_with (part ∷ parts) (s ∷ states) zero p state d there within = ap (λ x. server x s) (same_Some part p there)
get_with (part ∷ parts) (s ∷ states) (suc i) p state d there within = get_with parts states i p state d there (omega (arith, within))

pub there_with : (parts : List CircuitPart) (states : List (Option OpenCircuitValue)) (i : ℕ) (p : CircuitPart) (state : Option OpenCircuitValue) → slice_get parts i ≡ Some p → i < length states
    → state ≡ get_or states i state → slice_get (with_states parts states) i ≡ Some (server p state)
there_with parts states i p state there within is =
    slice_get-get_or (with_states parts states) i (server p state) (subst (λ n. i < n) (sym (size_with parts states)) (slice_get_within parts i p there))
    ∙ ap Some (get_with parts states i p state (server p state) there within) ∙ ap (λ s. Some (server p s)) (sym is)

-- what holds of each holds of the one at an index
pub at_index : {X : Type 0} (P : X → Type 0) (xs : List X) (i : ℕ) (x : X) → slice_get xs i ≡ Some x → All P xs → P x
at_index P xs i x there all = subst P (get_or_from_slice_get xs i x x there) (all i x (slice_get_within xs i x there))
