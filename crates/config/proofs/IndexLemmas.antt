-- Circuits by their ids.
use Rattle.std.proofs.Common.{◌≡◌, ◌≢◌, ℕ, zero, suc, ◌+◌, ◌<◌, ◌≤◌, nat_lt, Bool, true, false, not, ◌||◌, if◌then◌else◌, List, [], ◌∷◌, ◌++◌, length, get_or, take, map, refl, sym, ap, ◌∙◌, arith}
use Rattle.std.specs.Prelude.{AllPairs, None, Some, slice_get}
use Rattle.std.specs.List.{list_any, position, position_or_len}
use Rattle.std.specs.Str.{bytes_eq}
use Rattle.std.proofs.lemmas.Bool.{false≢true}
use Rattle.std.proofs.lemmas.Grind.{common_steps}
use Rattle.std.proofs.lemmas.List.{length-map, take_more}
use Rattle.std.proofs.lemmas.List.Quantifiers.{position-Some}
use Rattle.std.proofs.lemmas.List.Sums.{fails_before_first}
use Rattle.std.proofs.lemmas.Option.{slice_get-map, slice_get-get_or, slice_get_within, get_or_from_slice_get}
use Rattle.std.proofs.lemmas.Slice.Eq.{bytes_eq-Decides}
use Rattle.indexmap.specs.IndexSet.{insert_key}
use Rattle.settings.specs.Settings.{Settings}
use Rattle.settings.specs.declared.settings.CircuitConfig.{CircuitConfig}
use Rattle.config.specs.CircuitPart.{CircuitPart, parts_of}
use Rattle.config.specs.Rules.{IsIdAt}

-- an id that is not among these
apart : (id : List ℕ) (ids : List (List ℕ)) → ((k : ℕ) → k < length ids → get_or ids k [] ≡ id → ⊥) → list_any (bytes_eq id) ids ≡ false
apart id [] h = refl
apart id (x ∷ xs) h = by_test (bytes_eq id x) refl (apart id xs (λ k inside same. h (suc k) (omega (arith, inside)) same))
  where
    by_test : (test : Bool) → bytes_eq id x ≡ test → list_any (bytes_eq id) xs ≡ false → list_any (bytes_eq id) (x ∷ xs) ≡ false
    by_test true same rest = absurd (h zero (omega arith) (sym ((bytes_eq-Decides id x).0 same)))
    by_test false other rest = ap (λ test. test || list_any (bytes_eq id) xs) other ∙ rest

-- the id of a circuit before another
earlier : (circuits : List CircuitConfig) (i k : ℕ) (circuit : CircuitConfig) → i < length circuits → k < length (map (λ c. c.id) (take i circuits))
    → (k < i) × (get_or (map (λ c. c.id) (take i circuits)) k [] ≡ (get_or circuits k circuit).id)
earlier circuits i k circuit inside before =
    let below : k < i = grind (arith, common_steps) in
    (below, grind (arith, common_steps))

-- one circuit more
pub one_id_more : (circuits : List CircuitConfig) (i : ℕ) (circuit : CircuitConfig) (ids : List (List ℕ))
    → AllPairs (λ c d. c.id ≢ d.id) circuits → i < length circuits → circuit ≡ get_or circuits i circuit
    → ids ≡ map (λ c. c.id) (take i circuits) → insert_key bytes_eq ids circuit.id ≡ map (λ c. c.id) (take (i + 1) circuits)
one_id_more circuits i circuit ids differ inside here so_far =
    let absent : list_any (bytes_eq circuit.id) (map (λ c. c.id) (take i circuits)) ≡ false =
    apart circuit.id (map (λ c. c.id) (take i circuits)) (λ k before same.
    let e = earlier circuits i k circuit inside before in
    differ k i circuit e.0 inside (sym e.1 ∙ same ∙ ap (λ c. c.id) here)) in
    let next : map (λ c. c.id) (take (i + 1) circuits) ≡ map (λ c. c.id) (take i circuits) ++ circuit.id ∷ [] = grind (arith, common_steps, take_more) in
    ap (λ l. insert_key bytes_eq l circuit.id) so_far
    ∙ ap (λ b. if b then map (λ c. c.id) (take i circuits) else map (λ c. c.id) (take i circuits) ++ circuit.id ∷ []) absent
    ∙ sym next

-- the id that is found in a list is there
pub is_there : (ids : List (List ℕ)) (i : ℕ) (id : List ℕ) → position (bytes_eq id) ids ≡ Some i → slice_get ids i ≡ Some id
is_there ids i id found =
    let at = position-Some (bytes_eq id) ids i id found in
    slice_get-get_or ids i id at.0 ∙ ap Some (sym ((bytes_eq-Decides id (get_or ids i id)).0 at.1))

-- and one that is not found is nowhere
pub is_nowhere : (ids : List (List ℕ)) (i : ℕ) (id : List ℕ) → position (bytes_eq id) ids ≡ None → slice_get ids i ≡ Some id → ⊥
is_nowhere ids i id none there =
    let past : length ids ≤ position_or_len (bytes_eq id) ids = grind (arith, common_steps) in
    let inside = slice_get_within ids i id there in
    let same = (bytes_eq-Decides id (get_or ids i id)).1 (sym (get_or_from_slice_get ids i id id there)) in
    false≢true (sym (fails_before_first (bytes_eq id) ids i id (omega (arith, past, inside))) ∙ same)

-- the circuit that is found by its id
pub is_id_at : (circuits : List CircuitConfig) (i : ℕ) (id : List ℕ) → position (bytes_eq id) (map (λ c. c.id) circuits) ≡ Some i → IsIdAt circuits i id
is_id_at circuits i id found = sym (slice_get-map (λ c. c.id) circuits i) ∙ is_there (map (λ c. c.id) circuits) i id found

pub no_id_at : (circuits : List CircuitConfig) (i : ℕ) (id : List ℕ) → position (bytes_eq id) (map (λ c. c.id) circuits) ≡ None → IsIdAt circuits i id → ⊥
no_id_at circuits i id none there = is_nowhere (map (λ c. c.id) circuits) i id none (slice_get-map (λ c. c.id) circuits i ∙ there)

-- a part is found by its id as the id is among theirs
first_of : {X : Type 0} (p : List ℕ → Bool) (f : X → List ℕ) (xs : List X) → position_or_len p (map f xs) ≡ position_or_len (λ x. p (f x)) xs
first_of p f [] = refl
first_of p f (x ∷ xs) = ap (λ n. if not (p (f x)) then 1 + n else 0) (first_of p f xs)

pub position_of : (parts : List CircuitPart) (id : List ℕ) → position (bytes_eq id) (map (λ part. part.id) parts) ≡ position (λ part. bytes_eq id part.id) parts
position_of parts id =
    let first = first_of (bytes_eq id) (λ (part : CircuitPart). part.id) parts in
    let size : length (map (λ part. part.id) parts) ≡ length parts = length-map parts (λ part. part.id) in
    λ j. if nat_lt (first j) (size j) then Some (first j) else None

-- the parts of a configuration have the ids of its circuits
same_ids : (f : CircuitConfig → CircuitPart) → ((c : CircuitConfig) → (f c).id ≡ c.id) → (circuits : List CircuitConfig) → map (λ c. c.id) circuits ≡ map (λ part. part.id) (map f circuits)
same_ids f same [] = refl
same_ids f same (c ∷ cs) = λ j. sym (same c) j ∷ same_ids f same cs j

pub ids_of_parts : (settings : Settings) → map (λ c. c.id) settings.circuits ≡ map (λ part. part.id) (parts_of settings)
ids_of_parts settings = same_ids _ (λ c. refl) settings.circuits
