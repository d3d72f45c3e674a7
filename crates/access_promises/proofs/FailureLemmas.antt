-- What the server receives raises the count of a circuit's region exactly if the circuit's save failed.
use Rattle.std.proofs.Common.{◌≡◌, ◌∙◌, ℕ, ◌+◌, ◌≤◌, ◌==◌, ◌&&◌, ◌||◌, Bool, true, false, cond, List, [], ◌∷◌, ◌++◌, map, refl, sym, ap, subst, arith}
use Rattle.std.specs.Prelude.{Option, Some, None, slice_get, Result, Ok, Err, if◌then◌else◌}
use Rattle.std.specs.List.{cons_option, list_any}
use Rattle.std.proofs.lemmas.Bool.{eqb-true, le-ltb}
use Rattle.types.specs.Delivery.{DeliveryValue}
use Rattle.types.specs.declared.discard.Discard.{Discard}
use Rattle.lease_disk.specs.Device.{Device, has_failed, is_in}
use Rattle.config.specs.CircuitPart.{CircuitPart}
use Rattle.config.specs.Topology.{RegionsDiffer, Topology}
use Rattle.requests.specs.Addressee.{addressee}
use Rattle.circuit_server.specs.Answered.{circuit_saves}
use Rattle.circuit_server.specs.Calls.{IsCalledToSave, IsCalledToSaveAt}
use Rattle.circuit_server.specs.Server.{Book, served}
use Rattle.dispatch.specs.Batch.{IsBatch, batch_saves, comes_again, is_circuit, is_named, part_received, part_saves, saved_after}
use Rattle.dispatch.specs.Received.{Received, addressee_saves, received_saves}
use Rattle.dispatch.proofs.BatchLemmas.{circuit_is}
use Rattle.dispatch.proofs.PartLemmas.{not_both}
use Rattle.access.specs.Batch.{is_repeated}
use Rattle.access_promises.specs.Exchanges.{Exchange, failed_saves, own_exchanges}
use Rattle.access_promises.specs.Own.{is_own}
use Rattle.access_promises.proofs.BatchOrder.{Answer, Pair, answers_after, answers_are, chosen, datagrams_of, firsts, made}
use Rattle.access_promises.proofs.Counted.{Counts, CountsEach}
use Rattle.access_promises.proofs.ExchangeLemmas.{exchange, failed_so, own_received}
use Rattle.access_promises.proofs.NeverTwice.{never_repeated}

-- ---- what the device is called for

module _ (regions : List ℕ) (was later : Device) (calls : IsCalledToSave regions was later) (r : ℕ) where
  count_grows : was.failures r ≤ later.failures r
  count_grows = let count = calls.failures r in omega (arith, count)

  uncalled : is_in regions r ≡ false → has_failed was later r ≡ false
  uncalled none =
      let count : later.failures r ≡ was.failures r + 0 = calls.failures r ∙ ap (λ b. was.failures r + (if b && has_failed was later r then 1 else 0)) none in
      le-ltb (was.failures r) (later.failures r) (omega (arith, count))

-- ---- one of two

left_false : (a b : Bool) → (a || b) ≡ false → a ≡ false
left_false true b none = none
left_false false b none = refl

right_false : (a b : Bool) → (a || b) ≡ false → b ≡ false
right_false true b none = absurd cc
right_false false b none = none

absorbed : (named fails : Bool) → (fails || (named && fails)) ≡ fails
absorbed named true = refl
absorbed true false = refl
absorbed false false = refl

-- ---- one circuit

module _ (topology : Topology) (apart : RegionsDiffer topology.circuits) (fails : ℕ → Bool) (old : List (Option Book)) (c : ℕ) (part : CircuitPart) (there : slice_get topology.circuits c ≡ Some part) where
  -- a save that is not to its region
  abbrev Elsewhere : Option ℕ → Type 0
  Elsewhere save = (rest : List ℕ) → is_in (cons_option save rest) part.region ≡ is_in rest part.region

  region_elsewhere : (k : ℕ) (its : CircuitPart) → slice_get topology.circuits k ≡ Some its → (k == c) ≡ false → Elsewhere (Some its.region)
  region_elsewhere k its at other rest = by (its.region == part.region) refl where
    by : (same : Bool) → (its.region == part.region) ≡ same → (same || is_in rest part.region) ≡ is_in rest part.region
    by false e = refl
    by true e =
        let same : k ≡ c = apart k c its part at there (eqb-true its.region part.region e) in
        let never : (c == c) ≡ false = subst (λ n. (n == c) ≡ false) same other in
        absurd (grind (arith, never))

  saves_elsewhere : (k : ℕ) (its : CircuitPart) → slice_get topology.circuits k ≡ Some its → (k == c) ≡ false → (kept : Bool) → Elsewhere (if kept then Some its.region else None)
  saves_elsewhere k its at other true = region_elsewhere k its at other
  saves_elsewhere k its at other false = λ rest. refl

  circuit_elsewhere : (d : DeliveryValue) (k : ℕ) (its : Option CircuitPart) (book : Option (Option Book)) → slice_get topology.circuits k ≡ its → (k == c) ≡ false → Elsewhere (circuit_saves d its book)
  circuit_elsewhere d k (Some its) (Some (Some b)) at other = saves_elsewhere k its at other (served its d b).is_kept
  circuit_elsewhere d k (Some its) (Some None) at other = λ rest. refl
  circuit_elsewhere d k (Some its) None at other = λ rest. refl
  circuit_elsewhere d k None book at other = λ rest. refl

  addressee_elsewhere : (d : DeliveryValue) (r : Result ℕ Discard) → is_circuit c r ≡ false → Elsewhere (addressee_saves topology d old r)
  addressee_elsewhere d (Err why) other = λ rest. refl
  addressee_elsewhere d (Ok k) other = circuit_elsewhere d k (slice_get topology.circuits k) (slice_get old k) refl other

  -- ---- its exchanges

  abbrev failed_in_all : List Exchange → Bool
  failed_in_all xs = list_any (λ f. f) (failed_saves topology c xs)

  failed_made : (ps : List Pair) → failed_in_all (made topology fails old ps) ≡ (is_named topology (datagrams_of ps) c && fails part.region)
  failed_made [] = refl
  failed_made (p ∷ ps) = by (is_own topology c p.0) refl (failed_made ps) where
    by : (its : Bool) → is_own topology c p.0 ≡ its → failed_in_all (made topology fails old ps) ≡ (is_named topology (datagrams_of ps) c && fails part.region)
        → list_any (λ f. f) (map (λ (x : Exchange). x.failed) (cond its (exchange topology fails p.0 p.1 ∷ own_exchanges topology c (made topology fails old ps)) (own_exchanges topology c (made topology fails old ps))))
        ≡ ((its || is_named topology (datagrams_of ps) c) && fails part.region)
    by true own rest =
        ap (λ f. f || failed_in_all (made topology fails old ps)) (failed_so topology c part there p.0 fails old own)
        ∙ (ap (λ f. fails part.region || f) rest ∙ absorbed (is_named topology (datagrams_of ps) c) (fails part.region))
    by false other rest = rest

  -- ---- the first ones of a batch

  part_elsewhere : (earlier : List DeliveryValue) (d : DeliveryValue) (b : Option Book) → slice_get old c ≡ Some b → (is_repeated (part_received topology earlier d fails old).answer ≡ false → is_own topology c d ≡ false)
      → Elsewhere (part_saves topology earlier d old)
  part_elsewhere earlier d b at unless = by (is_own topology c d) (is_named topology earlier c) refl refl where
    again_or_not : (again : Bool) → is_own topology c d ≡ false → Elsewhere (if again then None else received_saves topology d old)
    again_or_not true other = λ rest. refl
    again_or_not false other = addressee_elsewhere d (addressee topology d) other

    none_again : is_own topology c d ≡ true → is_named topology earlier c ≡ true → part_saves topology earlier d old ≡ None
    none_again own named =
        ap (λ r. if comes_again topology earlier r then None else received_saves topology d old) (circuit_is c (addressee topology d) own)
        ∙ ap (λ again. if again then None else received_saves topology d old) named

    once : is_own topology c d ≡ true → is_named topology earlier c ≡ false → is_repeated (part_received topology earlier d fails old).answer ≡ false
    once own unnamed =
        ap (λ r. is_repeated (chosen topology fails old d (comes_again topology earlier r)).answer) (circuit_is c (addressee topology d) own)
        ∙ (ap (λ again. is_repeated (chosen topology fails old d again).answer) unnamed
        ∙ (ap (λ (r : Received). is_repeated r.answer) (own_received topology c part there d fails old b own at) ∙ never_repeated part d (fails part.region) b))

    by : (own named : Bool) → is_own topology c d ≡ own → is_named topology earlier c ≡ named → Elsewhere (part_saves topology earlier d old)
    by false named other is = again_or_not (comes_again topology earlier (addressee topology d)) other
    by true true own named = subst Elsewhere (sym (none_again own named)) (λ rest. refl)
    by true false own unnamed = absurd (not_both own (unless (once own unnamed)))

  rest_unnamed : (d : DeliveryValue) (a : Answer) (ps : List Pair) (repeated : Bool) → is_named topology (datagrams_of (cond repeated ps ((d, a) ∷ ps))) c ≡ false → is_named topology (datagrams_of ps) c ≡ false
  rest_unnamed d a ps true none = none
  rest_unnamed d a ps false none = right_false (is_own topology c d) (is_named topology (datagrams_of ps) c) none

  first_unnamed : (d : DeliveryValue) (a : Answer) (ps : List Pair) (repeated : Bool) → is_named topology (datagrams_of (cond repeated ps ((d, a) ∷ ps))) c ≡ false → repeated ≡ false → is_own topology c d ≡ false
  first_unnamed d a ps true none once = absurd cc
  first_unnamed d a ps false none once = left_false (is_own topology c d) (is_named topology (datagrams_of ps) c) none

  -- where none of them is the circuit's, its region is not saved
  none_saved : (b : Option Book) → slice_get old c ≡ Some b → (earlier ds : List DeliveryValue) → is_named topology (datagrams_of (firsts ds (answers_after topology fails old earlier ds))) c ≡ false
      → is_in (saved_after topology old earlier ds) part.region ≡ false
  none_saved b at earlier [] none = refl
  none_saved b at earlier (d ∷ ds) none =
      let a = (part_received topology earlier d fails old).answer in
      let rest = firsts ds (answers_after topology fails old (earlier ++ d ∷ []) ds) in
      part_elsewhere earlier d b at (first_unnamed d a rest (is_repeated a) none) (saved_after topology old (earlier ++ d ∷ []) ds)
      ∙ none_saved b at (earlier ++ d ∷ []) ds (rest_unnamed d a rest (is_repeated a) none)

-- ---- what was received

-- A circuit's region is saved only if one of these datagrams is its own.
counts_by : (topology : Topology) (apart : RegionsDiffer topology.circuits) (old : List (Option Book)) (c : ℕ) (part : CircuitPart) (there : slice_get topology.circuits c ≡ Some part) (ps : List Pair) (regions : List ℕ)
    (was later : Device) → IsCalledToSave regions was later → (is_named topology (datagrams_of ps) c ≡ false → is_in regions part.region ≡ false)
    → Counts topology c part (made topology (has_failed was later) old ps) was later
counts_by topology apart old c part there ps regions was later calls unsaved = record {
  grows = count_grows regions was later calls part.region;
  failed = by (is_named topology (datagrams_of ps) c) refl ∙ sym (failed_made topology apart (has_failed was later) old c part there ps);
} where
  by : (named : Bool) → is_named topology (datagrams_of ps) c ≡ named → has_failed was later part.region ≡ (is_named topology (datagrams_of ps) c && has_failed was later part.region)
  by true named = sym (ap (λ n. n && has_failed was later part.region) named)
  by false none = uncalled regions was later calls part.region (unsaved none) ∙ sym (ap (λ n. n && has_failed was later part.region) none)

pub counts_alone : (topology : Topology) → RegionsDiffer topology.circuits → (d : DeliveryValue) (answer : Answer) (old : List (Option Book)) (was later : Device) → IsCalledToSaveAt (received_saves topology d old) was later
    → CountsEach topology (exchange topology (has_failed was later) d answer ∷ []) was later
counts_alone topology apart d answer old was later calls c part there =
    counts_by topology apart old c part there ((d, answer) ∷ []) (cons_option (received_saves topology d old) []) was later calls
    (λ none. addressee_elsewhere topology apart (has_failed was later) old c part there d (addressee topology d) (left_false (is_own topology c d) false none) [])

pub counts_together : (topology : Topology) → RegionsDiffer topology.circuits → (taken : List DeliveryValue) (answers : List Answer) (old new : List (Option Book)) (was later : Device)
    → ((c : ℕ) (part : CircuitPart) → slice_get topology.circuits c ≡ Some part → (b : Option Book) × (slice_get old c ≡ Some b)) → IsBatch topology taken (has_failed was later) old new answers
    → IsCalledToSave (batch_saves topology taken old) was later → CountsEach topology (made topology (has_failed was later) old (firsts taken answers)) was later
counts_together topology apart taken answers old new was later books batch calls c part there =
    let fails = has_failed was later in
    let book = books c part there in
    counts_by topology apart old c part there (firsts taken answers) (batch_saves topology taken old) was later calls
    (λ none. none_saved topology apart fails old c part there book.0 book.1 [] taken
    (subst (λ given. is_named topology (datagrams_of (firsts taken given)) c ≡ false) (answers_are topology fails old taken new answers batch) none))
