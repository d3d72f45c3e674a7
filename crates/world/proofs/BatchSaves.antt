-- Which regions a batch saves to, and which call fails for each.
use Rattle.std.proofs.Common.{◌≡◌, ℕ, zero, suc, ◌<◌, ◌≤◌, Bool, true, false, List, [], ◌∷◌, ◌++◌, length, map, take, refl, sym, ap, subst, ◌∙◌, arith, eq-eqb, ne_eqb}
use Rattle.std.specs.Prelude.{◌==◌, ◌||◌, if◌then◌else◌, Option, Some, None, Ok, slice_get, slice_index}
use Rattle.std.specs.List.{cons_option}
use Rattle.std.proofs.lemmas.Bool.{eqb-true, le-leb}
use Rattle.std.proofs.lemmas.List.{length-map}
use Rattle.std.proofs.lemmas.Option.{same_Some}
use Rattle.types.specs.Delivery.{DeliveryValue}
use Rattle.config.specs.Topology.{Topology}
use Rattle.requests.specs.Addressee.{addressee}
use Rattle.circuit_server.specs.Server.{Book}
use Rattle.lease_disk.specs.Device.{is_in}
use Rattle.lease_disk.specs.Region.{effective}
use Rattle.batch_saves.specs.Batch.{first_of, is_sync_fault, is_write_fault, shared_fault}
use Rattle.dispatch.specs.Batch.{batch_fault, batch_saves, comes_again, is_circuit, is_named, part_saves, saved_after}
use Rattle.dispatch.specs.Received.{received_saves}
use Rattle.events.specs.Batch.{part_fault}
use Rattle.world.specs.declared.world.batch.Waiting.{Waiting}
use Rattle.world.proofs.BatchParts.{AreApart, apart_back, is_waiting, neither}

or_true : (a b : Bool) → b ≡ true → (a || b) ≡ true
or_true true b h = refl
or_true false b h = h

module _ (t : Topology) (books : List (Option Book)) (deliver : Waiting → DeliveryValue) where
  -- each is its circuit's
  abbrev pub AreAddressed : List Waiting → Type 0
  AreAddressed [] = Unit {0}
  AreAddressed (x ∷ ws) = (addressee t (deliver x) ≡ Ok x.circuit) × AreAddressed ws

  pub addressed_by : (ws : List Waiting) → ((j : ℕ) (x : Waiting) → slice_get ws j ≡ Some x → addressee t (deliver x) ≡ Ok x.circuit) → AreAddressed ws
  addressed_by [] each = tt
  addressed_by (x ∷ ws) each = (each 0 x refl, addressed_by ws (λ j x at. each (suc j) x at))

  pub named_is : (ws : List Waiting) → AreAddressed ws → (c : ℕ) → is_named t (map deliver ws) c ≡ is_waiting c ws
  named_is [] its c = refl
  named_is (x ∷ ws) its c = λ i. is_circuit c (its.0 i) || named_is ws its.1 c i

  pub named_before : (ws : List Waiting) → AreAddressed ws → (j c : ℕ) → is_named t (take j (map deliver ws)) c ≡ is_waiting c (take j ws)
  named_before ws its zero c = refl
  named_before [] its (suc j) c = refl
  named_before (x ∷ ws) its (suc j) c = λ i. is_circuit c (its.0 i) || named_before ws its.1 j c i

  -- ---- the regions

  abbrev pub saves_of : Waiting → Option ℕ
  saves_of x = received_saves t (deliver x) books

  abbrev pub saves_by : List Waiting → List ℕ
  saves_by [] = []
  saves_by (x ∷ ws) = cons_option (saves_of x) (saves_by ws)

  -- none of these is of a circuit of the earlier ones
  abbrev Later : List DeliveryValue → List Waiting → Type 0
  Later earlier [] = Unit {0}
  Later earlier (x ∷ ws) = (is_named t earlier x.circuit ≡ false) × Later earlier ws

  after_nothing : (ws : List Waiting) → Later [] ws
  after_nothing [] = tt
  after_nothing (x ∷ ws) = (refl, after_nothing ws)

  not_named : (earlier : List DeliveryValue) (e : DeliveryValue) (c : ℕ) → is_named t earlier c ≡ false → is_circuit c (addressee t e) ≡ false → is_named t (earlier ++ e ∷ []) c ≡ false
  not_named [] e c none other = λ i. other i || false
  not_named (d ∷ earlier) e c none other =
      let h = neither (is_circuit c (addressee t d)) (is_named t earlier c) none in
      λ i. h.0 i || not_named earlier e c h.1 other i

  after_one : (earlier : List DeliveryValue) (x : Waiting) (ws : List Waiting) → addressee t (deliver x) ≡ Ok x.circuit → is_waiting x.circuit ws ≡ false → Later earlier ws → Later (earlier ++ deliver x ∷ []) ws
  after_one earlier x [] its apart later = tt
  after_one earlier x (y ∷ ws) its apart later =
      let h = neither (y.circuit == x.circuit) (is_waiting x.circuit ws) apart in
      (not_named earlier (deliver x) y.circuit later.0 (ap (is_circuit y.circuit) its ∙ apart_back y.circuit x.circuit h.0), after_one earlier x ws its h.1 later.1)

  saved_is : (earlier : List DeliveryValue) (ws : List Waiting) → AreAddressed ws → AreApart ws → Later earlier ws → saved_after t books earlier (map deliver ws) ≡ saves_by ws
  saved_is earlier [] its apart later = refl
  saved_is earlier (x ∷ ws) its apart later =
      let own : part_saves t earlier (deliver x) books ≡ saves_of x =
      ap (λ r. if comes_again t earlier r then None else saves_of x) its.0 ∙ ap (λ (b : Bool). if b then None else saves_of x) later.0 in
      let rest = saved_is (earlier ++ deliver x ∷ []) ws its.1 apart.1 (after_one earlier x ws its.0 apart.0 later.1) in
      λ i. cons_option (own i) (rest i)

  pub saves_are : (ws : List Waiting) → AreAddressed ws → AreApart ws → batch_saves t (map deliver ws) books ≡ saves_by ws
  saves_are ws its apart = saved_is [] ws its apart (after_nothing ws)

  pub out_of_saves : (ws : List Waiting) (r : ℕ) → ((j : ℕ) (y : Waiting) → slice_get ws j ≡ Some y → saves_of y ≡ Some r → ⊥) → is_in (saves_by ws) r ≡ false
  out_of_saves [] r none = refl
  out_of_saves (x ∷ ws) r none = by (saves_of x) refl (out_of_saves ws r (λ j y at. none (suc j) y at)) where
    by : (o : Option ℕ) → saves_of x ≡ o → is_in (saves_by ws) r ≡ false → is_in (cons_option o (saves_by ws)) r ≡ false
    by None is rest = rest
    by (Some q) is rest = λ i. ne_eqb q r (λ same. none 0 x refl (is ∙ ap Some same)) i || rest i

  pub in_saves : (ws : List Waiting) (j : ℕ) (x : Waiting) (r : ℕ) → slice_get ws j ≡ Some x → saves_of x ≡ Some r → is_in (saves_by ws) r ≡ true
  in_saves [] j x r at is = absurd cc
  in_saves (y ∷ ws) zero x r at is =
      subst (λ o. is_in (cons_option o (saves_by ws)) r ≡ true) (sym (ap saves_of (same_Some y x at) ∙ is)) (λ i. eq-eqb r r refl i || is_in (saves_by ws) r)
  in_saves (y ∷ ws) (suc j) x r at is = by (saves_of y) (in_saves ws j x r at is) where
    by : (o : Option ℕ) → is_in (saves_by ws) r ≡ true → is_in (cons_option o (saves_by ws)) r ≡ true
    by None rest = rest
    by (Some q) rest = or_true (q == r) (is_in (saves_by ws) r) rest

-- ---- the faults

-- a fault that is the first of a sync's and of a write's
pub record IsOwn (sync fault : ℕ) : Type 0 where
  pub own : ℕ
  pub is : first_of own sync ≡ fault
  pub write : is_write_fault own ≡ true

record HasOwn (sync : ℕ) (faults : List ℕ) : Type 0 where
  own : List ℕ
  same : map (λ f. first_of f sync) own ≡ faults
  writes : (i : ℕ) → i < length own → is_write_fault (slice_index own i) ≡ true

one_more : (sync fault : ℕ) (faults : List ℕ) → IsOwn sync fault → HasOwn sync faults → HasOwn sync (fault ∷ faults)
one_more sync fault faults o rest = record { own = o.own ∷ rest.own; same = λ i. o.is i ∷ rest.same i; writes = writes } where
  writes : (i : ℕ) → i < length (o.own ∷ rest.own) → is_write_fault (slice_index (o.own ∷ rest.own) i) ≡ true
  writes zero within = o.write
  writes (suc i) within = rest.writes i (omega (arith, within))

index_map : (g : ℕ → ℕ) (xs : List ℕ) (i : ℕ) → i < length xs → slice_index (map g xs) i ≡ g (slice_index xs i)
index_map g [] i within = absurd (omega (arith, within))
index_map g (x ∷ xs) zero within = refl
index_map g (x ∷ xs) (suc i) within = index_map g xs i (omega (arith, within))

record IsAt (xs : List ℕ) (r : ℕ) : Type 0 where
  index : ℕ
  within : index < length xs
  at : slice_index xs index ≡ r

is_at : (xs : List ℕ) (r : ℕ) → is_in xs r ≡ true → IsAt xs r
is_at [] r there = absurd cc
is_at (x ∷ xs) r there = by (x == r) refl (is_at xs r) there where
  by : (b : Bool) → (x == r) ≡ b → (is_in xs r ≡ true → IsAt xs r) → (b || is_in xs r) ≡ true → IsAt (x ∷ xs) r
  by true same rest h = record { index = 0; within = omega arith; at = eqb-true x r same }
  by false other rest h = let a = rest h in record { index = suc a.index; within = omega (arith, a.within); at = a.at }

-- what the law says of shared syncs
abbrev pub MeetsEach : Type 0
MeetsEach = (sync : ℕ) (own : List ℕ) → is_sync_fault sync ≡ true → ((i : ℕ) → i < length own → is_write_fault (slice_index own i) ≡ true)
    → (i : ℕ) → i < length own → first_of (effective 6 (first_of (slice_index own i) sync)) (shared_fault (map (λ f. first_of f sync) own)) ≡ first_of (slice_index own i) sync

module _ (t : Topology) (books : List (Option Book)) (deliver : Waiting → DeliveryValue) where
  has_own : (sync : ℕ) (faults : ℕ → ℕ) (ws : List Waiting) → ((j : ℕ) (x : Waiting) → slice_get ws j ≡ Some x → (r : ℕ) → saves_of t books deliver x ≡ Some r → IsOwn sync (faults r)) → HasOwn sync (map faults (saves_by t books deliver ws))
  has_own sync faults [] each = record { own = []; same = refl; writes = λ i within. absurd (omega (arith, within)) }
  has_own sync faults (x ∷ ws) each = by (saves_of t books deliver x) refl (has_own sync faults ws (λ j x at. each (suc j) x at)) where
    by : (o : Option ℕ) → saves_of t books deliver x ≡ o → HasOwn sync (map faults (saves_by t books deliver ws)) → HasOwn sync (map faults (cons_option o (saves_by t books deliver ws)))
    by None is rest = rest
    by (Some r) is rest = one_more sync (faults r) (map faults (saves_by t books deliver ws)) (each 0 x refl r is) rest

  -- Each region's fault is the one that was set for it.
  pub fault_stays : MeetsEach → (sync : ℕ) → is_sync_fault sync ≡ true → (faults : ℕ → ℕ) (ws : List Waiting)
      → ((j : ℕ) (x : Waiting) → slice_get ws j ≡ Some x → (r : ℕ) → saves_of t books deliver x ≡ Some r → IsOwn sync (faults r))
      → (r : ℕ) → is_in (saves_by t books deliver ws) r ≡ true → batch_fault faults (saves_by t books deliver ws) r ≡ faults r
  fault_stays law sync shared faults ws each r there =
      let saves = saves_by t books deliver ws in
      let has = has_own sync faults ws each in
      let a = is_at saves r there in
      let own = has.own in
      let i = a.index in
      let within : i < length own = omega (arith, a.within, length-map own (λ f. first_of f sync), length-map saves faults, ap length has.same) in
      let value : first_of (slice_index own i) sync ≡ faults r =
      sym (index_map (λ f. first_of f sync) own i within) ∙ ap (λ xs. slice_index xs i) has.same ∙ index_map faults saves i a.within ∙ ap faults a.at in
      (λ j. first_of (effective 6 (sym value j)) (shared_fault (sym has.same j))) ∙ law sync own shared has.writes i within ∙ value

-- ---- a part's fault

-- the four kinds of a fault of a sync, and of a write
sync_least : (f : ℕ) → is_sync_fault f ≡ true → f ≤ 6
sync_least f is = grind (arith, is)

write_least : (f : ℕ) → is_write_fault f ≡ true → f ≤ 6
write_least f is = grind (arith, is)

swapped : (a b : ℕ) → first_of a b ≡ first_of b a
swapped a b = grind arith

abbrev pub its_sync : ℕ → ℕ
its_sync sync = if is_sync_fault sync then sync else 0

abbrev its_write : ℕ → ℕ
its_write fault = if is_write_fault fault then fault else 0

pub is_shared : (sync : ℕ) → is_sync_fault (its_sync sync) ≡ true
is_shared sync = by (is_sync_fault sync) refl where
  by : (b : Bool) → is_sync_fault sync ≡ b → is_sync_fault (if b then sync else 0) ≡ true
  by true is = is
  by false is = refl

is_write : (fault : ℕ) → is_write_fault (its_write fault) ≡ true
is_write fault = by (is_write_fault fault) refl where
  by : (b : Bool) → is_write_fault fault ≡ b → is_write_fault (if b then fault else 0) ≡ true
  by true is = is
  by false is = refl

pub part_is_own : (sync fault : ℕ) → IsOwn (its_sync sync) (part_fault sync fault)
part_is_own sync fault = record { own = its_write fault; is = swapped (its_write fault) (its_sync sync); write = is_write fault }

least : (a b : ℕ) → a ≤ 6 → b ≤ 6 → first_of a b ≤ 6
least a b h k = grind (arith, h, k)

-- it is one of the six calls of a save, or none
pub part_effective : (sync fault : ℕ) → effective 6 (part_fault sync fault) ≡ part_fault sync fault
part_effective sync fault =
    let small = least (its_sync sync) (its_write fault) (sync_least (its_sync sync) (is_shared sync)) (write_least (its_write fault) (is_write fault)) in
    ap (λ b. if b then part_fault sync fault else 0) (le-leb (part_fault sync fault) 6 small)
