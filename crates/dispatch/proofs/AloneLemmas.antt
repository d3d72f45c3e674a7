-- One datagram alone is a batch of one.
use Rattle.std.proofs.Common.{Bor, ◌<◌, ◌≤◌, ◌≡◌, ◌∙◌, ◌==◌, ◌||◌, ◌&&◌, nat_le, not, ℕ, zero, suc, Bool, true, false, List, [], ◌∷◌, length, map, take, refl, sym, ap, subst, arith}
use Rattle.std.specs.Prelude.{Option, Some, None, option_map, Result, Ok, Err, slice_get, slice_index_or, slice_set, if◌then◌else◌}
use Rattle.std.specs.List.{cons_option}
use Rattle.std.proofs.lemmas.Bool.{eqb-true, or_parts}
use Rattle.std.proofs.lemmas.Option.{same_Some, slice_get-map}
use Rattle.types.specs.Delivery.{DeliveryValue, delivery}
use Rattle.types.specs.declared.addr.Source.{Source}
use Rattle.types.specs.declared.dest.Proto.{Proto}
use Rattle.types.specs.declared.discard.Discard.{Discard}
use Rattle.lease_disk.specs.Device.{Device, WritesAt, has_failed, is_in}
use Rattle.lease_disk.specs.Region.{Region, effective}
use Rattle.batch_saves.specs.Batch.{first_of, shared_fault}
use Rattle.config.specs.CircuitPart.{CircuitPart}
use Rattle.config.specs.Topology.{Topology}
use Rattle.requests.specs.Addressee.{addressee}
use Rattle.circuit_server.specs.Answered.{circuit_saves, fails_at}
use Rattle.circuit_server.specs.Calls.{IsCalledToSave}
use Rattle.circuit_server.specs.CircuitServerValue.{CircuitServerValue, server_book, leases_of}
use Rattle.circuit_server.specs.Leases.{Leases, after_datagram, after_saving, kept, served_leases}
use Rattle.circuit_server.specs.Server.{Book, Served, served}
use Rattle.dispatch.specs.Answers.{answer_by}
use Rattle.dispatch.specs.Batch.{IsBatchOfLeases, IsWrittenTogether, batch_fault, batch_saves, comes_again, deliveries, is_circuit, is_named}
use Rattle.dispatch.specs.OneByOne.{AreOfOthers}
use Rattle.dispatch.specs.Parts.{IsReceivedBatch}
use Rattle.dispatch.specs.ReceivedAlone.{IsReceivedAlone}
use Rattle.dispatch.specs.Received.{addressee_leases, addressee_saves, leases_with, received, received_leases, received_saves}
use Rattle.dispatch.specs.ServerValue.{ServerValue, books_in, circuits_in, leases_in}
use Rattle.dispatch.proofs.BatchLemmas.{answer_is}
use Rattle.dispatch.proofs.OneByOne.{batch_back, set_elsewhere}
use Rattle.dispatch.proofs.PartLemmas.{not_both, same_number}

-- ---- nothing comes before it

of_others : (topology : Topology) (d : DeliveryValue) → AreOfOthers topology (d ∷ [])
of_others topology d zero c e there found = refl
of_others topology d (suc j) c e there found = absurd cc

never_again : (topology : Topology) (r : Result ℕ Discard) → comes_again topology [] r ≡ false
never_again topology (Ok c) = refl
never_again topology (Err why) = refl

saves_alone : (topology : Topology) (d : DeliveryValue) (books : List (Option Book)) → batch_saves topology (d ∷ []) books ≡ cons_option (received_saves topology d books) []
saves_alone topology d books = ap (λ b. cons_option (if b then None else received_saves topology d books) []) (never_again topology (addressee topology d))

-- ---- which call of its save fails

abbrev shared_by : Bool → Bool → Bool → ℕ
shared_by a b c = if a || false then 2 else if b || false then 4 else if c || false then 6 else 0

none_shared : (a b c : Bool) → a ≡ false → b ≡ false → c ≡ false → shared_by a b c ≡ 0
none_shared false false false x y z = refl
none_shared true b c x y z = absurd cc
none_shared false true c x y z = absurd cc
none_shared false false true x y z = absurd cc

first_none : (a : ℕ) → first_of a 0 ≡ a
first_none a = by (a == 0) refl where
  by : (b : Bool) → (a == 0) ≡ b → first_of a 0 ≡ a
  by true e = ap (λ b. if b then 0 else a) e ∙ sym (eqb-true a 0 e)
  by false e = ap (λ b. if b then 0 else a) e

-- the shared syncs of one save are its own
abbrev HasOwnFault : ℕ → Type 0
HasOwnFault f = first_of (effective 6 f) (shared_fault (f ∷ [])) ≡ effective 6 f

own_fault : (f : ℕ) → HasOwnFault f
own_fault f = by (f == 2) (f == 4) (f == 6) refl refl refl where
  by : (a b c : Bool) → (f == 2) ≡ a → (f == 4) ≡ b → (f == 6) ≡ c → HasOwnFault f
  by true b c two four six = subst HasOwnFault (sym (eqb-true f 2 two)) refl
  by false true c two four six = subst HasOwnFault (sym (eqb-true f 4 four)) refl
  by false false true two four six = subst HasOwnFault (sym (eqb-true f 6 six)) refl
  by false false false two four six = ap (first_of (effective 6 f)) (none_shared (f == 2) (f == 4) (f == 6) two four six) ∙ first_none (effective 6 f)

effective_twice : (f : ℕ) → effective 6 (effective 6 f) ≡ effective 6 f
effective_twice f = by (nat_le f 6) refl where
  by : (b : Bool) → nat_le f 6 ≡ b → effective 6 (effective 6 f) ≡ effective 6 f
  by true e = ap (effective 6) (ap (λ b. if b then f else 0) e)
  by false e = let none : effective 6 f ≡ 0 = ap (λ b. if b then f else 0) e in ap (effective 6) none ∙ sym none

-- what its save writes
abbrev alone : Option ℕ → List ℕ
alone saves = cons_option saves []

fails_alone : (faults : ℕ → ℕ) (saves : Option ℕ) (r : ℕ) → fails_at faults saves r ≡ (is_in (alone saves) r && not (batch_fault faults (alone saves) r == 0))
fails_alone faults None r = refl
fails_alone faults (Some q) r = by (q == r) refl where
  by : (b : Bool) → (q == r) ≡ b → fails_at faults (Some q) r ≡ (is_in (q ∷ []) r && not (batch_fault faults (q ∷ []) r == 0))
  by false e = ap (λ b. b && not (effective 6 (faults q) == 0)) e ∙ sym (ap (λ b. (b || false) && not (batch_fault faults (q ∷ []) r == 0)) e)
  by true e =
      ap (λ b. b && not (effective 6 (faults q) == 0)) e
      ∙ ap (λ n. not (n == 0)) (sym (own_fault (faults q)))
      ∙ ap (λ n. not (first_of (effective 6 (faults n)) (shared_fault (faults q ∷ [])) == 0)) (eqb-true q r e)
      ∙ sym (ap (λ b. (b || false) && not (batch_fault faults (q ∷ []) r == 0)) e)

-- ---- what is written

written_alone : (tells : Bool) (saves : Option ℕ) (old new : Device) → WritesAt tells saves old new → IsWrittenTogether tells (alone saves) old new
written_alone tells None old new same = record {
  touches = record {
    count = ap (λ (x : Device). x.count) same;
    reads = ap (λ (x : Device). x.reads) same;
    region = λ t q other. ap (λ (x : Device). x.region q) same;
    failing_call = λ t q other. ap (λ (x : Device). x.failing_call q) same;
  };
  nothing = λ none. same;
}
written_alone tells (Some r) old new touched = record {
  touches = record {
    count = touched.count;
    reads = touched.reads;
    region = λ t q other. touched.region t q (apart q other);
    failing_call = λ t q other. touched.failing_call t q (apart q other);
  };
  nothing = λ none. absurd cc;
} where
  apart : (q : ℕ) → is_in (r ∷ []) q ≡ false → q ≡ r → ⊥
  apart q other same = not_both (ap (λ n. n == q) (sym same) ∙ same_number q) (or_parts (r == q) false other).0

-- ---- the leases

module _ (d : DeliveryValue) (faults : ℕ → ℕ) where
  kept_alone : (r : ℕ) (done : Served) (l : Leases) → kept (faults r) done l ≡ kept (batch_fault faults (alone (if done.is_kept then Some r else None)) r) done l
  kept_alone r done l = by done.is_kept where
    by : (b : Bool)
        → (if b then after_saving (effective 6 (faults r)) done.book l else record l { book = Some done.book })
        ≡ (if b then after_saving (effective 6 (batch_fault faults (alone (if b then Some r else None)) r)) done.book l else record l { book = Some done.book })
    by true = ap (λ n. after_saving n done.book l) (sym (ap (effective 6) (own_fault (faults r)) ∙ effective_twice (faults r)))
    by false = refl

  served_alone : (part : CircuitPart) (l : Leases) (book : Option Book) → served_leases part d (faults part.region) l book ≡ served_leases part d (batch_fault faults (alone (circuit_saves d (Some part) (Some book))) part.region) l book
  served_alone part l None = refl
  served_alone part l (Some b) = kept_alone part.region (served part d b) l

  circuit_alone : (c : ℕ) (all : List Leases) (part : Option CircuitPart) (l : Option Leases)
      → leases_with c d faults all part l ≡ leases_with c d (batch_fault faults (alone (circuit_saves d part (option_map (λ (x : Leases). x.book) l)))) all part l
  circuit_alone c all (Some part) (Some l) = ap (slice_set all c) (served_alone part l l.book)
  circuit_alone c all (Some part) None = refl
  circuit_alone c all None (Some l) = refl
  circuit_alone c all None None = refl

  circuit_elsewhere : (c k : ℕ) (all : List Leases) (part : Option CircuitPart) (l : Option Leases) → (c == k) ≡ false → slice_get (leases_with c d faults all part l) k ≡ slice_get all k
  circuit_elsewhere c k all (Some part) (Some l) apart = set_elsewhere all c k (after_datagram part d (faults part.region) l) (λ same. not_both (ap (λ n. n == k) same ∙ same_number k) apart)
  circuit_elsewhere c k all (Some part) None apart = refl
  circuit_elsewhere c k all None (Some l) apart = refl
  circuit_elsewhere c k all None None apart = refl

  module _ (topology : Topology) (all : List Leases) where
    -- the faults of a batch are those of the datagram
    received_alone : (books : List (Option Book)) → ((c : ℕ) → slice_get books c ≡ option_map (λ (l : Leases). l.book) (slice_get all c))
        → received_leases topology d faults all ≡ received_leases topology d (batch_fault faults (alone (received_saves topology d books))) all
    received_alone books shown = by (addressee topology d) where
      by : (r : Result ℕ Discard) → addressee_leases topology d faults all r ≡ addressee_leases topology d (batch_fault faults (alone (addressee_saves topology d books r))) all r
      by (Err why) = refl
      by (Ok c) =
          circuit_alone c all (slice_get topology.circuits c) (slice_get all c)
          ∙ ap (λ book. leases_with c d (batch_fault faults (alone (circuit_saves d (slice_get topology.circuits c) book))) all (slice_get topology.circuits c) (slice_get all c)) (sym (shown c))

    leases_elsewhere : (k : ℕ) (r : Result ℕ Discard) → is_circuit k r ≡ false → slice_get (addressee_leases topology d faults all r) k ≡ slice_get all k
    leases_elsewhere k (Err why) other = refl
    leases_elsewhere k (Ok c) other = circuit_elsewhere c k all (slice_get topology.circuits c) (slice_get all c) other

    leases_alone : (new : List Leases) → new ≡ received_leases topology d faults all → IsBatchOfLeases topology (d ∷ []) faults all new
    leases_alone new is = record {
      leases = those;
      others = λ c none. ap (λ (xs : List Leases). slice_get xs c) is ∙ leases_elsewhere c (addressee topology d) (or_parts (is_circuit c (addressee topology d)) false none).0;
    } where
      those : (j c : ℕ) (e : DeliveryValue) → slice_get (d ∷ []) j ≡ Some e → addressee topology e ≡ Ok c → is_named topology (take j (d ∷ [])) c ≡ false → slice_get new c ≡ slice_get (received_leases topology e faults all) c
      those zero c e there found first = ap (λ (xs : List Leases). slice_get xs c) is ∙ ap (λ x. slice_get (received_leases topology x faults all) c) (same_Some d e there)
      those (suc j) c e there found first = absurd cc

-- ---- what the clauses say

-- a circuit's book is that of its leases
books_shown : (regions : ℕ → Region) (xs : List CircuitServerValue) (c : ℕ) → slice_get (map server_book xs) c ≡ option_map (λ (l : Leases). l.book) (slice_get (map (leases_of regions) xs) c)
books_shown regions xs c = slice_get-map server_book xs c ∙ one (slice_get xs c) ∙ sym (ap (option_map (λ (l : Leases). l.book)) (slice_get-map (leases_of regions) xs c)) where
  one : (x : Option CircuitServerValue) → option_map server_book x ≡ option_map (λ (l : Leases). l.book) (option_map (leases_of regions) x)
  one None = refl
  one (Some x) = refl

pub received_batch_of_one : (tells : Bool) (d : DeliveryValue) (s later_s : ServerValue) (was later : Device) (result : Result (Unit {0}) Discard) (out : List ℕ) (given : List (Result (List ℕ) Discard))
    → IsReceivedAlone tells d result out s later_s was later → given ≡ answer_by result out ∷ [] → IsReceivedBatch tells (d ∷ []) given s later_s was later
received_batch_of_one tells d s later_s was later result out given one is =
    let t = s.topology in
    let saves = received_saves t d (books_in s) in
    let its : batch_saves t (d ∷ []) (books_in s) ≡ alone saves = saves_alone t d (books_in s) in
    record {
      answers =
          batch_back t (has_failed was later) (d ∷ []) (books_in s) (books_in later_s) given (of_others t d)
          (is ∙ ap (λ a. a ∷ []) (sym (answer_is (received t d (has_failed was later) (books_in s)).answer result out one.answer))) one.books;
      frame = subst (λ regions. IsWrittenTogether tells regions was later) (sym its) (written_alone tells saves was later one.frame);
      calls = subst (λ regions. IsCalledToSave regions was later) (sym its) one.calls;
      fails = λ told r. one.fails told r ∙ fails_alone was.failing_call saves r ∙ ap (λ regions. is_in regions r && not (batch_fault was.failing_call regions r == 0)) (sym its);
      leases = λ told.
          subst (λ regions. IsBatchOfLeases t (d ∷ []) (batch_fault was.failing_call regions) (leases_in was.region s) (leases_in later.region later_s)) (sym its)
          (leases_alone d (batch_fault was.failing_call (alone saves)) t (leases_in was.region s) (leases_in later.region later_s)
          (one.leases told ∙ received_alone d was.failing_call t (leases_in was.region s) (books_in s) (books_shown was.region (circuits_in s))));
      ready = one.ready;
    }

-- the parts of a batch of one are its only part
pub only_one : (now : ℕ) (parts : List (Proto × Source × Bor (List ℕ))) (none : Proto × Source × Bor (List ℕ)) → 1 ≤ length parts → length parts < 2
    → deliveries now parts ≡ delivery (slice_index_or parts 0 none).0 (slice_index_or parts 0 none).1 now (slice_index_or parts 0 none).2.now ∷ []
only_one now [] none some few = absurd (omega (arith, some))
only_one now (part ∷ []) none some few = refl
only_one now (part ∷ other ∷ parts) none some few = absurd (omega (arith, few))
