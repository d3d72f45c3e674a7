-- One part of a batch more.
use Rattle.std.proofs.Common.{inl, inr, ◌≡◌, ◌∙◌, ◌+◌, ◌*◌, ◌<◌, ◌≤◌, ◌==◌, ◌||◌, ℕ, zero, suc, Bool, true, false, List, [], ◌∷◌, ◌++◌, length, map, take, refl, sym, ap, subst, arith}
use Rattle.std.specs.Prelude.{◌⊎◌, Option, Some, None, Result, Ok, Err, slice_get}
use Rattle.std.specs.List.{list_any}
use Rattle.std.proofs.lemmas.Bool.{or_right}
use Rattle.std.proofs.lemmas.List.{get_or-set_other, length-set}
use Rattle.std.proofs.lemmas.List.Folds.{list_any_more}
use Rattle.std.proofs.lemmas.Option.{get_or_from_slice_get, same_Some, slice_get-get_or, slice_get_within}
use Rattle.types.specs.Delivery.{DeliveryValue}
use Rattle.types.specs.declared.discard.Discard.{Discard}
use Rattle.config.specs.Topology.{Topology}
use Rattle.requests.specs.Addressee.{addressee}
use Rattle.circuit_server.specs.CircuitServerValue.{OpenCircuitValue}
use Rattle.circuit_server.specs.Prepared.{IsDropped, IsPrepared}
use Rattle.circuit_server.specs.Ticked.{server_state}
use Rattle.circuit_server.specs.declared.prepared.Prepared.{Prepared}
use Rattle.timers.specs.Deadlines.{DeadlinesValue, deadline}
use Rattle.circuit_server.specs.Deadlines.{held_in}
use Rattle.dispatch.specs.Answers.{circuit_in}
use Rattle.dispatch.specs.Batch.{circuits_of, is_circuit, is_named}
use Rattle.dispatch.specs.Deadlines.{AllUnchangedOrUntilHeld, KeepsDeadlines}
use Rattle.dispatch.specs.Parts.{AreDecided, IsDecided, IsOf, IsPart, has_named}
use Rattle.dispatch.proofs.HeldDeadlines.{kept_both, kept_wider, then_held}

module _ {A : Type 0} (f : A → Bool) where
  -- one place more of a list
  pub any_more : (xs : List A) (i : ℕ) (x : A) → slice_get xs i ≡ Some x → list_any f (take (i + 1) xs) ≡ (list_any f (take i xs) || f x)
  any_more xs i x is = list_any_more f xs i x (slice_get_within xs i x is) ∙ ap (λ y. list_any f (take i xs) || f y) (get_or_from_slice_get xs i x x is)

  -- one that is among the first is found there
  pub any_there : (xs : List A) (i j : ℕ) (x : A) → j < i → slice_get xs j ≡ Some x → f x ≡ true → list_any f (take i xs) ≡ true
  any_there [] i j x less is holds = absurd cc
  any_there (y ∷ xs) zero j x less is holds = absurd (omega (arith, less))
  any_there (y ∷ xs) (suc i) zero x less is holds = ap (λ b. b || list_any f (take i xs)) (ap f (same_Some y x is) ∙ holds)
  any_there (y ∷ xs) (suc i) (suc j) x less is holds = ap (λ b. f y || b) (any_there xs i j x (omega (arith, less)) is holds) ∙ or_right (f y) true refl

-- one place more of what is made of each
map_next : {A B : Type 0} (f : A → B) (xs : List A) (i : ℕ) (x : A) → slice_get xs i ≡ Some x → map f (take (suc i) xs) ≡ map f (take i xs) ++ f x ∷ []
map_next f [] i x is = absurd cc
map_next f (y ∷ xs) zero x is = ap (λ z. f z ∷ []) (same_Some y x is)
map_next f (y ∷ xs) (suc i) x is = ap (λ zs. f y ∷ zs) (map_next f xs i x is)

map_more : {A B : Type 0} (f : A → B) (xs : List A) (i : ℕ) (x : A) → slice_get xs i ≡ Some x → map f (take (i + 1) xs) ≡ map f (take i xs) ++ f x ∷ []
map_more f xs i x is =
    let one : suc i ≡ i + 1 = omega arith in
    subst (λ n. map f (take n xs) ≡ map f (take i xs) ++ f x ∷ []) one (map_next f xs i x is)

found_by : {A : Type 0} (f : A → Bool) (xs : List A) (i : ℕ) (y : A) → (list_any f (take i xs) ≡ true → (j : ℕ) × (x : A) × (j < i) × (slice_get xs j ≡ Some x) × (f x ≡ true))
    → (b : Bool) → f y ≡ b → (b || list_any f (take i xs)) ≡ true → (j : ℕ) × (x : A) × (j < suc i) × (slice_get (y ∷ xs) j ≡ Some x) × (f x ≡ true)
found_by f xs i y later true e any = (0, y, omega arith, refl, e)
found_by f xs i y later false e any = let one = later any in (suc one.0, one.1, (let less = one.2 in omega (arith, less)), one.3, one.4)

-- where one of the first is found
pub any_found : {A : Type 0} (f : A → Bool) (xs : List A) (i : ℕ) → list_any f (take i xs) ≡ true → (j : ℕ) × (x : A) × (j < i) × (slice_get xs j ≡ Some x) × (f x ≡ true)
any_found f xs zero any = absurd cc
any_found f [] (suc i) any = absurd cc
any_found f (y ∷ xs) (suc i) any = found_by f xs i y (any_found f xs i) (f y) refl any

pub get_before : {A : Type 0} (xs zs : List A) (j : ℕ) (y : A) → slice_get xs j ≡ Some y → slice_get (xs ++ zs) j ≡ Some y
get_before [] zs j y is = absurd cc
get_before (x ∷ xs) zs zero y is = is
get_before (x ∷ xs) zs (suc j) y is = get_before xs zs j y is

pub get_last : {A : Type 0} (xs : List A) (y : A) → slice_get (xs ++ y ∷ []) (length xs) ≡ Some y
get_last [] y = refl
get_last (x ∷ xs) y = get_last xs y

pub size_more : {A : Type 0} (xs : List A) (y : A) → length (xs ++ y ∷ []) ≡ length xs + 1
size_more [] y = refl
size_more (x ∷ xs) y = let inside : length (xs ++ y ∷ []) ≡ length xs + 1 = size_more xs y in omega (arith, inside)

pub left_false : (x y : Bool) → (x || y) ≡ false → x ≡ false
left_false false y e = refl
left_false true y e = absurd cc

pub right_false : (x y : Bool) → (x || y) ≡ false → y ≡ false
right_false false y e = e
right_false true y e = absurd cc

pub not_both : {b : Bool} → b ≡ true → b ≡ false → ⊥
not_both is is_not = let never : true ≡ false = sym is ∙ is_not in absurd cc

pub same_number : (n : ℕ) → (n == n) ≡ true
same_number n = grind arith

pub not_same : (c k : ℕ) → (c == k) ≡ false → k ≡ c → ⊥
not_same c k none same = not_both (ap (λ n. c == n) same ∙ same_number c) none

abbrev Part : Type 0
Part = Result (ℕ × Prepared) Discard

abbrev States : Type 0
States = List (Option OpenCircuitValue)

-- the circuit that a part is of is another one
apart : (topology : Topology) (ds : List DeliveryValue) (i c k : ℕ) (d : DeliveryValue) → addressee topology d ≡ Ok c → is_named topology (take i ds) c ≡ false
    → (is_named topology (take i ds) k ≡ true) ⊎ (is_circuit k (addressee topology d) ≡ false) → k ≡ c → ⊥
apart topology ds i c k d found first (inl named) same = not_both (sym (ap (is_named topology (take i ds)) same) ∙ named) first
apart topology ds i c k d found first (inr other) same =
    let is : is_circuit k (addressee topology d) ≡ true = ap (is_circuit k) found ∙ (ap (λ n. c == n) same ∙ same_number c) in
    not_both is other

module _ (topology : Topology) (ds : List DeliveryValue) (i : ℕ) (d : DeliveryValue) (named : List ℕ) (old now new : States) (parts : List (Option Part)) (part : Part)
    (here : slice_get ds i ≡ Some d) (made : AreDecided topology ds i named old now parts) (is : IsPart topology named d now new part) where
  first : (c : ℕ) → has_named named c ≡ false → is_named topology (take i ds) c ≡ false
  first c fresh = sym (made.names c) ∙ fresh

  of_keeps : (c : ℕ) → IsOf topology named d c now new → (k : ℕ) → (is_named topology (take i ds) k ≡ true) ⊎ (is_circuit k (addressee topology d) ≡ false) → server_state new k ≡ server_state now k
  of_keeps c its k which =
      ap (λ (s : States). server_state s k) its.others ∙ get_or-set_other now c k (server_state new c) None (apart topology ds i c k d its.found (first c its.fresh) which)

  -- every circuit but that of the part keeps its state
  keeps : (part : Part) → IsPart topology named d now new part → (k : ℕ) → (is_named topology (take i ds) k ≡ true) ⊎ (is_circuit k (addressee topology d) ≡ false) → server_state new k ≡ server_state now k
  keeps (Err why) (inl none) k which = ap (λ (s : States). server_state s k) none.0
  keeps (Err why) (inr (inl again)) k which = ap (λ (s : States). server_state s k) again.0
  keeps (Err why) (inr (inr dropped)) k which = of_keeps dropped.0 dropped.2 k which
  keeps (Ok (c, prepared)) prepared_is k which = of_keeps c prepared_is.1 k which

  sizes : (part : Part) → IsPart topology named d now new part → length new ≡ length now
  sizes (Err why) (inl none) = ap (λ (s : States). length s) none.0
  sizes (Err why) (inr (inl again)) = ap (λ (s : States). length s) again.0
  sizes (Err why) (inr (inr dropped)) = ap (λ (s : States). length s) dropped.2.others ∙ length-set now dropped.0 (server_state new dropped.0)
  sizes (Ok (c, prepared)) prepared_is = ap (λ (s : States). length s) prepared_is.1.others ∙ length-set now c (server_state new c)

  -- the part itself
  own : (part : Part) → IsPart topology named d now new part → IsDecided topology (take i ds) d old new part
  own (Err why) (inl none) = inl none.1
  own (Err why) (inr (inl again)) = inr (inl (again.1, (again.2.0, again.2.1, sym (made.names again.2.0) ∙ again.2.2)))
  own (Err why) (inr (inr dropped)) =
      let c = dropped.0 in
      let fresh = first c dropped.2.fresh in
      inr (inr (c, dropped.1, record { found = dropped.2.found; first = fresh }, dropped.3, subst (λ before. IsDropped dropped.1 d before (server_state new c) why) (made.others c fresh) dropped.4))
  own (Ok (c, prepared)) prepared_is =
      let fresh = first c prepared_is.1.fresh in
      (prepared_is.0, record { found = prepared_is.1.found; first = fresh }, prepared_is.2, subst (λ before. IsPrepared prepared_is.0 d before (server_state new c) prepared) (made.others c fresh) prepared_is.3)

  -- and those before it
  earlier : (j : ℕ) (other : DeliveryValue) → j < i → slice_get ds j ≡ Some other → (before : Part) → IsDecided topology (take j ds) other old now before → IsDecided topology (take j ds) other old new before
  earlier j other less there (Err why) (inl none) = inl none
  earlier j other less there (Err why) (inr (inl again)) = inr (inl again)
  earlier j other less there (Err why) (inr (inr dropped)) =
      let c = dropped.0 in
      let named_there = any_there (λ x. is_circuit c (addressee topology x)) ds i j other less there (ap (is_circuit c) dropped.2.found ∙ same_number c) in
      inr (inr (c, dropped.1, dropped.2, dropped.3, subst (λ after. IsDropped dropped.1 other (server_state old c) after why) (sym (keeps part is c (inl named_there))) dropped.4))
  earlier j other less there (Ok (c, prepared)) prepared_is =
      let named_there = any_there (λ x. is_circuit c (addressee topology x)) ds i j other less there (ap (is_circuit c) prepared_is.1.found ∙ same_number c) in
      (prepared_is.0, prepared_is.1, prepared_is.2, subst (λ after. IsPrepared prepared_is.0 other (server_state old c) after prepared) (sym (keeps part is c (inl named_there))) prepared_is.3)

  each : (j : ℕ) (other : DeliveryValue) → j < i + 1 → slice_get ds j ≡ Some other → (b : Bool) → (j == i) ≡ b
      → (p : Part) × (slice_get (parts ++ Some part ∷ []) j ≡ Some (Some p)) × IsDecided topology (take j ds) other old new p
  each j other less there false e =
      let before : j < i = grind (arith, less, e) in
      let was = made.each j other before there in
      (was.0, get_before parts (Some part ∷ []) j (Some was.0) was.1, earlier j other before there was.0 was.2)
  each j other less there true e =
      let last : j ≡ i = grind (arith, e) in
      let same : d ≡ other = same_Some d other (sym here ∙ (ap (slice_get ds) (sym last) ∙ there)) in
      let at : slice_get (parts ++ Some part ∷ []) j ≡ Some (Some part) = ap (slice_get (parts ++ Some part ∷ [])) (last ∙ sym made.count) ∙ get_last parts (Some part) in
      (part, at, subst (λ n. IsDecided topology (take n ds) other old new part) (sym last) (subst (λ x. IsDecided topology (take i ds) x old new part) same (own part is)))

  pub made_more : (names : List ℕ) → length names ≤ length named + 1 → ((c : ℕ) → has_named names c ≡ (has_named named c || is_circuit c (addressee topology d))) → AreDecided topology ds (i + 1) names old new (parts ++ Some part ∷ [])
  made_more names short are = record {
    size = sizes part is ∙ made.size;
    count = size_more parts (Some part) ∙ ap (λ n. n + 1) made.count;
    few = let was = made.few in omega (arith, short, was);
    names = λ c. are c ∙ (ap (λ b. b || is_circuit c (addressee topology d)) (made.names c) ∙ sym (any_more (λ x. is_circuit c (addressee topology x)) ds i d here));
    each = λ j other less there. each j other less there (j == i) refl;
    others = λ c none.
        let so = sym (any_more (λ x. is_circuit c (addressee topology x)) ds i d here) ∙ none in
        keeps part is c (inr (right_false (is_named topology (take i ds) c) (is_circuit c (addressee topology d)) so)) ∙ made.others c (left_false (is_named topology (take i ds) c) (is_circuit c (addressee topology d)) so);
  }

  -- the deadlines of a circuit that no part before was of are those from before the batch
  pub held_more : (start middle later : DeadlinesValue) → KeepsDeadlines (is_named topology (take i ds)) start middle → AllUnchangedOrUntilHeld start middle now → AllUnchangedOrUntilHeld middle later new → AllUnchangedOrUntilHeld start later new
  held_more start middle later kept before step k state there s below = by (is_named topology (take i ds) k) refl where
    by : (b : Bool) → is_named topology (take i ds) k ≡ b → (deadline later (32 * k + s) ≡ deadline start (32 * k + s)) ⊎ (deadline later (32 * k + s) ≡ held_in state s)
    by true e =
        let inside = slice_get_within new k state there in
        let size = sizes part is in
        let at = slice_get-get_or now k None (omega (arith, inside, size)) in
        let same : server_state now k ≡ state = sym (keeps part is k (inl e)) ∙ get_or_from_slice_get new k state None there in
        then_held (deadline start (32 * k + s)) (deadline middle (32 * k + s)) (deadline later (32 * k + s)) (held_in state s)
        (subst (λ (x : Option OpenCircuitValue). (deadline middle (32 * k + s) ≡ deadline start (32 * k + s)) ⊎ (deadline middle (32 * k + s) ≡ held_in x s)) same (before k (server_state now k) at s below)) (step k state there s below)
    by false e =
        then_held (deadline start (32 * k + s)) (deadline middle (32 * k + s)) (deadline later (32 * k + s)) (held_in state s) (inl (kept.others k s e below)) (step k state there s below)

-- before the first part
pub made_none : (topology : Topology) (ds : List DeliveryValue) (states : States) → AreDecided topology ds 0 [] states states []
made_none topology ds states = record { size = refl; count = refl; few = omega arith; names = λ c. refl; each = λ j d less there. absurd (omega (arith, less)); others = λ c none. refl }

-- the deadlines of every circuit that none of the parts is of stay
pub kept_more : (topology : Topology) (ds : List DeliveryValue) (i : ℕ) (d : DeliveryValue) (old now new : DeadlinesValue) → slice_get ds i ≡ Some d → KeepsDeadlines (is_named topology (take i ds)) old now
    → KeepsDeadlines (λ k. is_circuit k (addressee topology d)) now new → KeepsDeadlines (is_named topology (take (i + 1) ds)) old new
kept_more topology ds i d old now new here before next =
    kept_both (is_named topology (take (i + 1) ds)) old now new
    (kept_wider (is_named topology (take i ds)) (is_named topology (take (i + 1) ds)) old now (λ k none. left_false (is_named topology (take i ds) k) (is_circuit k (addressee topology d)) (so k none)) before)
    (kept_wider (λ k. is_circuit k (addressee topology d)) (is_named topology (take (i + 1) ds)) now new (λ k none. right_false (is_named topology (take i ds) k) (is_circuit k (addressee topology d)) (so k none)) next) where
      so : (k : ℕ) → is_named topology (take (i + 1) ds) k ≡ false → (is_named topology (take i ds) k || is_circuit k (addressee topology d)) ≡ false
      so k none = sym (any_more (λ x. is_circuit k (addressee topology x)) ds i d here) ∙ none

-- the circuit of one part more
pub circuits_more : (topology : Topology) (ds : List DeliveryValue) (i : ℕ) (d : DeliveryValue) (circuits : List (Option ℕ)) → slice_get ds i ≡ Some d → circuits ≡ circuits_of topology (take i ds)
    → circuits ++ circuit_in (addressee topology d) ∷ [] ≡ circuits_of topology (take (i + 1) ds)
circuits_more topology ds i d circuits here are = ap (λ cs. cs ++ circuit_in (addressee topology d) ∷ []) are ∙ sym (map_more (λ x. circuit_in (addressee topology x)) ds i d here)
