-- What comes of a batch, by what was made of its parts, saved and answered.
use Rattle.std.proofs.Common.{inl, inr, ◌≡◌, ◌∙◌, ◌+◌, ◌<◌, ◌≤◌, ◌==◌, ◌||◌, ◌&&◌, nat_le, nat_lt, not, ℕ, zero, suc, Bool, true, false, List, [], ◌∷◌, length, take, refl, sym, ap, subst, arith}
use Rattle.std.specs.Prelude.{IfOk, Option, Some, None, option_map, is_some, Result, Ok, Err, is_ok, slice_get, slice_set, if◌then◌else◌}
use Rattle.std.specs.List.{list_any}
use Rattle.std.proofs.lemmas.Bool.{eqb-true, le-ltb, lt-ltb}
use Rattle.std.proofs.lemmas.List.{take_all}
use Rattle.std.proofs.lemmas.Option.{get_or_from_slice_get, same_Some, slice_get_within}
use Rattle.types.specs.Delivery.{DeliveryValue}
use Rattle.types.specs.declared.discard.Discard.{Discard}
use Rattle.types.specs.declared.discard.Discard.TheVariants.{BatchTwice}
use Rattle.lease_disk.specs.declared.device.Fault.{Fault}
use Rattle.lease_disk.specs.declared.marks.Marks.{Marks}
use Rattle.lease_disk.specs.Device.{Device, has_failed, is_in}
use Rattle.lease_disk.specs.Region.{effective}
use Rattle.lease_disk.specs.Save.{IsSaveOf}
use Rattle.batch_saves.specs.Batch.{IsSavedPart, first_of, failing_calls_of, no_part, part_at, regions_of, shared_fault}
use Rattle.lease_disk.specs.declared.saving.Saving.{Saving}
use Rattle.config.specs.CircuitPart.{CircuitPart}
use Rattle.config.specs.Topology.{IsTopology, Topology}
use Rattle.requests.specs.Addressee.{addressee}
use Rattle.circuit_server.specs.Answered.{Answered, IsAnswer, answered}
use Rattle.circuit_server.specs.CircuitDecision.{is_kept}
use Rattle.circuit_server.specs.CircuitServerValue.{IsReadyFor, OpenCircuitValue, open_book}
use Rattle.circuit_server.specs.Leases.{Leases, after_datagram}
use Rattle.circuit_server.specs.Prepared.{IsDropped, IsPrepared, IsSettled, marks_by}
use Rattle.circuit_server.specs.Server.{Book}
use Rattle.circuit_server.specs.Ticked.{server_state}
use Rattle.circuit_server.specs.declared.prepared.Prepared.{Prepared}
use Rattle.circuit_server.proofs.AnswerLemmas.{not_more}
use Rattle.circuit_server.proofs.PreparedLemmas.{WasSaved, came, left, not_not, settled}
use Rattle.dispatch.specs.Answers.{answer_by}
use Rattle.dispatch.specs.Batch.{IsBatch, IsBatchOfLeases, IsWrittenTogether, comes_again, is_circuit, is_named, part_received}
use Rattle.dispatch.specs.Received.{Received, addressee_answered, drop_all, received}
use Rattle.dispatch.proofs.ReceivedLemmas.{leases_at, received_at}
use Rattle.dispatch.specs.Parts.{AreAnswered, AreDecided, AreSavedTogether, IsAnswered, IsDecided, IsSettledSo, is_of, place_of, saved_by, saving_in, savings_of}
use Rattle.dispatch.proofs.PartLemmas.{any_found, any_there, not_both, same_number}
use Rattle.dispatch.proofs.SaverLemmas.{keeps_as, of_is, one_first, own_region, saver, settles_at}
use Rattle.dispatch.proofs.SavingLemmas.{placed}

abbrev Part : Type 0
Part = Result (ℕ × Prepared) Discard

abbrev States : Type 0
States = List (Option OpenCircuitValue)

-- ---- values

region_by : (ss : List Saving) (s : Saving) (r : ℕ) → (is_in (regions_of ss) r ≡ true → (n : ℕ) × (n < length ss) × ((part_at ss n).region ≡ r)) → (b : Bool) → (s.region == r) ≡ b → (b || is_in (regions_of ss) r) ≡ true
    → (n : ℕ) × (n < length (s ∷ ss)) × ((part_at (s ∷ ss) n).region ≡ r)
region_by ss s r later true e is = (0, omega arith, eqb-true s.region r e)
region_by ss s r later false e is = let n = later is in (suc n.0, (let less = n.1 in omega (arith, less)), n.2)

-- where a region is saved
pub region_found : (ss : List Saving) (r : ℕ) → is_in (regions_of ss) r ≡ true → (n : ℕ) × (n < length ss) × ((part_at ss n).region ≡ r)
region_found [] r is = absurd cc
region_found (s ∷ ss) r is = region_by ss s r (region_found ss r) (s.region == r) refl is

pub answer_is : (a : Result (List ℕ) Discard) (result : Result (Unit {0}) Discard) (out : List ℕ) → IsAnswer a result out → a ≡ answer_by result out
answer_is (Ok bytes) result out is = ap Ok (sym is.1) ∙ sym (ap (λ r. answer_by r out) is.0)
answer_is (Err why) result out is = sym (ap (λ r. answer_by r out) is.0)

ok_is : (b : Bool) (marks : Marks) (fault : Fault) → is_ok (if b then Ok (Some marks) else Err fault) ≡ b
ok_is true marks fault = refl
ok_is false marks fault = refl

marks_are : (b : Bool) (marks known : Marks) (fault : Fault) → (b ≡ false → marks ≡ known) → marks_by (if b then Ok (Some marks) else Err fault) known ≡ marks
marks_are true marks known fault kept = refl
marks_are false marks known fault kept = sym (kept refl)

marks_there : (b : Bool) (marks : Marks) (fault : Fault) → IfOk (if b then Ok (Some marks) else Err fault) (λ (m : Option Marks). is_some m ≡ true)
marks_there true marks fault = refl
marks_there false marks fault = tt

pub raised : (b : Bool) (n : ℕ) → nat_lt n (n + (if b then 0 else 1)) ≡ not b
raised true n = le-ltb n (n + 0) (omega arith)
raised false n = lt-ltb n (n + 1) (omega arith)

effective_is : (f : ℕ) → f ≤ 6 → effective 6 f ≡ f
effective_is f most = by (nat_le f 6) refl where
  by : (b : Bool) → nat_le f 6 ≡ b → effective 6 f ≡ f
  by true e = ap (λ b. if b then f else 0) e
  by false e = absurd (grind (arith, e, most))

pub circuit_is : (c : ℕ) (r : Result ℕ Discard) → is_circuit c r ≡ true → r ≡ Ok c
circuit_is c (Ok k) is = ap Ok (eqb-true k c is)
circuit_is c (Err why) is = absurd cc

pub get_set : {A : Type 0} (xs : List A) (c : ℕ) (x y : A) → slice_get xs c ≡ Some x → slice_get (slice_set xs c y) c ≡ Some y
get_set [] c x y there = absurd cc
get_set (z ∷ xs) zero x y there = refl
get_set (z ∷ xs) (suc c) x y there = get_set xs c x y there

first_from : {A : Type 0} (f : A → Bool) (x : A) (xs : List A) → (list_any f xs ≡ true → (j : ℕ) × (y : A) × (slice_get xs j ≡ Some y) × (f y ≡ true) × (list_any f (take j xs) ≡ false)) → (b : Bool) → f x ≡ b → (b || list_any f xs) ≡ true
    → (j : ℕ) × (y : A) × (slice_get (x ∷ xs) j ≡ Some y) × (f y ≡ true) × (list_any f (take j (x ∷ xs)) ≡ false)
first_from f x xs later true e any = (0, x, refl, e, refl)
first_from f x xs later false e any = let one = later any in (suc one.0, one.1, one.2, one.3, ap (λ b. b || list_any f (take one.0 xs)) e ∙ one.4)

-- the first of a list for which it holds
pub first_there : {A : Type 0} (f : A → Bool) (xs : List A) → list_any f xs ≡ true → (j : ℕ) × (y : A) × (slice_get xs j ≡ Some y) × (f y ≡ true) × (list_any f (take j xs) ≡ false)
first_there f [] any = absurd cc
first_there f (x ∷ xs) any = first_from f x xs (first_there f xs) (f x) refl any

abbrev is_settled : Option Part → Bool
is_settled (Some (Ok one)) = true
is_settled (Some (Err why)) = false
is_settled None = false

not_dropped : (x : Option Part) (why : Discard) (c : ℕ) (p : Prepared) → x ≡ Some (Err why) → x ≡ Some (Ok (c, p)) → ⊥
not_dropped x why c p dropped settled = let never : false ≡ true = sym (ap is_settled dropped) ∙ ap is_settled settled in absurd cc

one_saving : (x : Option Part) (c : ℕ) (p q : Prepared) (s : Saving) → x ≡ Some (Ok (c, p)) → x ≡ Some (Ok (c, q)) → p.saving ≡ None → q.saving ≡ Some s → ⊥
one_saving x c p q s one other none some = let never : None ≡ Some s = sym none ∙ (sym (ap saving_in one) ∙ ap saving_in other) ∙ some in absurd cc

abbrev circuit_in : Result ℕ Discard → ℕ
circuit_in (Ok c) = c
circuit_in (Err why) = 0

one_circuit : (r : Result ℕ Discard) (c k : ℕ) → r ≡ Ok c → r ≡ Ok k → c ≡ k
one_circuit r c k is other = sym (ap circuit_in is) ∙ ap circuit_in other

-- ---- a circuit's part is done

pub record IsDone (tells : Bool) (was later : Device) (fault : ℕ) (part : CircuitPart) (d : DeliveryValue) (old new : Option OpenCircuitValue) (answer : Result (List ℕ) Discard) : Type 0 where
  pub answered_so : answered part d (has_failed was later part.region) (option_map open_book old) ≡ record { answer = answer; book = option_map open_book new }
  pub leases : tells ≡ true → left part (later.region part.region) new ≡ after_datagram part d fault (left part (was.region part.region) old)
  pub ready : tells ≡ true → IsReadyFor (later.region part.region) new

dropped_done : (tells : Bool) (was later : Device) (fault : ℕ) (part : CircuitPart) (d : DeliveryValue) (old middle new : Option OpenCircuitValue) (why : Discard) (answer : Result (List ℕ) Discard) → IsDropped part d old middle why
    → new ≡ middle → answer ≡ Err why → (tells ≡ true → later.region part.region ≡ was.region part.region) → (tells ≡ true → IsReadyFor (was.region part.region) old) → IsDone tells was later fault part d old new answer
dropped_done tells was later fault part d old middle new why answer dropped same is stays ready = record {
  answered_so = dropped.answers (has_failed was later part.region) ∙ (λ i. record { answer = sym is i; book = option_map open_book (sym same i) });
  leases = λ told. (λ i. left part (stays told i) (same i)) ∙ dropped.leases (was.region part.region) fault;
  ready = λ told. subst (λ r. IsReadyFor r new) (sym (stays told)) (subst (IsReadyFor (was.region part.region)) (sym same) (dropped.ready (was.region part.region) (ready told)));
}

module _ (tells : Bool) (was later : Device) (part : CircuitPart) (d : DeliveryValue) (old middle new : Option OpenCircuitValue) (prepared : Prepared) (p : IsPrepared part d old middle prepared)
    (result : Result (Unit {0}) Discard) (out : List ℕ) (answer : Result (List ℕ) Discard) (given : answer ≡ answer_by result out) (ready : tells ≡ true → IsReadyFor (was.region part.region) old) where
  came_so : (saved : Result (Option Marks) Fault) → is_ok saved ≡ not (has_failed was later part.region) → (has_failed was later part.region ≡ true → is_kept prepared.decision ≡ true) → IsSettled part prepared saved middle new result out
      → answered part d (has_failed was later part.region) (option_map open_book old) ≡ record { answer = answer; book = option_map open_book new }
  came_so saved ok kept end =
      let both = came part d old middle prepared p (has_failed was later part.region) saved new result out ok kept end in
      let a = answered part d (has_failed was later part.region) (option_map open_book old) in
      let its : a.answer ≡ answer = answer_is a.answer result out both.0 ∙ sym given in
      λ i. record { answer = its i; book = sym both.1 i }

  unsaved_done : (fault : ℕ) → prepared.saving ≡ None → IsSettled part prepared (Ok None) middle new result out → has_failed was later part.region ≡ false → (tells ≡ true → later.region part.region ≡ was.region part.region)
      → IsDone tells was later fault part d old new answer
  unsaved_done fault none end held stays =
      let both : tells ≡ true → (left part (later.region part.region) new ≡ after_datagram part d fault (left part (was.region part.region) old)) × IsReadyFor (later.region part.region) new
      = λ told. settled part d old middle prepared p (was.region part.region) (ready told) fault (later.region part.region) (Ok None) new result out
      (subst (λ s. WasSaved s (Ok None) fault (was.region part.region) (later.region part.region)) (sym none) (refl, stays told)) end in
      record {
        answered_so = came_so (Ok None) (sym (ap not held)) (λ failed. absurd (not_both failed held)) end;
        leases = λ told. (both told).0;
        ready = λ told. (both told).1;
      }

  saved_done : (shared : ℕ) (s now : Saving) → prepared.saving ≡ Some s → IsSavedPart tells shared s now was later → IsSettled part prepared (saved_by (Some s) now) middle new result out
      → IsDone tells was later (first_of (effective 6 (was.failing_call part.region)) shared) part d old new answer
  saved_done shared s now some one end =
      let here : s.region ≡ part.region = own_region part d old middle prepared s p some in
      let fails : has_failed was later part.region ≡ not (now.failed == 0)
      = subst (λ r. nat_lt (was.failures r) (later.failures r) ≡ not (now.failed == 0)) here (ap (nat_lt (was.failures s.region)) one.failures ∙ raised (now.failed == 0) (was.failures s.region)) in
      let fault = first_of (effective 6 (was.failing_call part.region)) shared in
      let its : tells ≡ true → now.failed ≡ fault = λ told. one.failed told ∙ ap (λ r. first_of (effective 6 (was.failing_call r)) shared) here in
      let same : tells ≡ true → now.failed ≡ effective 6 fault = λ told. sym (effective_is now.failed one.most) ∙ ap (effective 6) (its told) in
      let kept_so : (now.failed == 0) ≡ false → now.marks ≡ s.marks = λ some_failed. one.kept (λ none. absurd (grind (arith, none, some_failed))) in
      let both : tells ≡ true → (left part (later.region part.region) new ≡ after_datagram part d fault (left part (was.region part.region) old)) × IsReadyFor (later.region part.region) new
      = λ told. settled part d old middle prepared p (was.region part.region) (ready told) fault (later.region part.region) (saved_by (Some s) now) new result out
      (subst (λ x. WasSaved x (saved_by (Some s) now) fault (was.region part.region) (later.region part.region)) (sym some) (
        subst (λ r. IsSaveOf (effective 6 fault) s.clock s.slot s.content s.marks (marks_by (saved_by (Some s) now) s.marks) (was.region r) (later.region r)) here
            (subst (λ k. IsSaveOf k s.clock s.slot s.content s.marks (marks_by (saved_by (Some s) now) s.marks) (was.region s.region) (later.region s.region)) (same told)
            (subst (λ m. IsSaveOf now.failed s.clock s.slot s.content s.marks m (was.region s.region) (later.region s.region)) (sym (marks_are (now.failed == 0) now.marks s.marks (record {}) kept_so)) (one.saved told))),
        ok_is (now.failed == 0) now.marks (record {}) ∙ ap (λ k. k == 0) (same told),
        marks_there (now.failed == 0) now.marks (record {}),
      )) end in
      record {
        answered_so = came_so (saved_by (Some s) now) (ok_is (now.failed == 0) now.marks (record {}) ∙ not_not (now.failed == 0) ∙ sym (ap not fails)) (λ failed. keeps_as part d old middle prepared p ∙ ap is_some some) end;
        leases = λ told. (both told).0;
        ready = λ told. (both told).1;
      }

-- ---- all parts

-- What came of the j-th part, which is circuit c's.
pub record IsFinished (tells : Bool) (was later : Device) (shared : ℕ) (old new : States) (given : List (Result (List ℕ) Discard)) (j c : ℕ) (d : DeliveryValue) (part : CircuitPart) : Type 0 where
  pub answer : Result (List ℕ) Discard
  pub there : slice_get given j ≡ Some answer
  pub done : IsDone tells was later (first_of (effective 6 (was.failing_call part.region)) shared) part d (server_state old c) (server_state new c) answer

module _ (topology : Topology) (ds : List DeliveryValue) (i : ℕ) (named : List ℕ) (old middle new : States) (parts : List (Option Part)) (whole : length ds ≡ i) (made : AreDecided topology ds i named old middle parts)
    (sound : IsTopology topology) (savings : List Saving) (tells : Bool) (was later : Device) (saved : AreSavedTogether tells (savings_of parts) savings was later)
    (given : List (Result (List ℕ) Discard)) (ended : AreAnswered topology parts savings (length parts) middle new given)
    (ready : (c : ℕ) (part : CircuitPart) → slice_get topology.circuits c ≡ Some part → tells ≡ true → IsReadyFor (was.region part.region) (server_state old c)) where
  abbrev shared : ℕ
  shared = shared_fault (failing_calls_of was (savings_of parts))

  -- no part of circuit c saves
  abbrev NoneSaves : ℕ → Type 0
  NoneSaves c = (j : ℕ) (p : Prepared) (s : Saving) → slice_get parts j ≡ Some (Some (Ok (c, p))) → p.saving ≡ Some s → ⊥

  elsewhere : (c : ℕ) (part : CircuitPart) → slice_get topology.circuits c ≡ Some part → NoneSaves c → is_in (regions_of (savings_of parts)) part.region ≡ false
  elsewhere c part there none = by (is_in (regions_of (savings_of parts)) part.region) refl where
    by : (b : Bool) → is_in (regions_of (savings_of parts)) part.region ≡ b → is_in (regions_of (savings_of parts)) part.region ≡ false
    by false e = e
    by true e =
        let n = region_found (savings_of parts) part.region e in
        let a = saver topology ds i named old middle parts whole made n.0 n.1 in
        let regions : a.settles.part.region ≡ part.region = sym (ap (λ (s : Saving). s.region) a.is ∙ a.region) ∙ n.2 in
        let circuits : a.c ≡ c = sound.regions a.c c a.settles.part part a.settles.there there regions in
        absurd (none a.j a.prepared a.s (subst (λ k. slice_get parts a.j ≡ Some (Some (Ok (k, a.prepared)))) circuits a.at) a.saving)

  held : (r : ℕ) → is_in (regions_of (savings_of parts)) r ≡ false → has_failed was later r ≡ false
  held r out = ap (nat_lt (was.failures r)) (saved.others r out) ∙ not_more (was.failures r)

  stays : (r : ℕ) → is_in (regions_of (savings_of parts)) r ≡ false → tells ≡ true → later.region r ≡ was.region r
  stays r out told = saved.frame.region told r out

  -- no part of circuit c is settled
  abbrev NoneSettles : ℕ → Type 0
  NoneSettles c = (j : ℕ) (p : Prepared) → slice_get parts j ≡ Some (Some (Ok (c, p))) → ⊥

  unsettled : (c : ℕ) → NoneSettles c → server_state new c ≡ server_state middle c
  unsettled c none = ended.others c (by (list_any (is_of c) (take (length parts) parts)) refl) where
    by : (b : Bool) → list_any (is_of c) (take (length parts) parts) ≡ b → list_any (is_of c) (take (length parts) parts) ≡ false
    by false e = e
    by true e = let one = any_found (is_of c) parts (length parts) e in let its = of_is c one.1 one.4 in absurd (none one.0 its.0 (one.3 ∙ ap Some its.1))

  -- ---- a part that is its circuit's first

  module _ (j c : ℕ) (d : DeliveryValue) (part : CircuitPart) (here : slice_get ds j ≡ Some d) (found : addressee topology d ≡ Ok c) (first : is_named topology (take j ds) c ≡ false) (there : slice_get topology.circuits c ≡ Some part) where
    -- any part of the circuit that is settled is this one
    same_part : (k : ℕ) (p : Prepared) → slice_get parts k ≡ Some (Some (Ok (c, p))) → k ≡ j
    same_part k p at =
        let its = settles_at topology ds i named old middle parts whole made k c p at in
        one_first topology ds i named old middle parts whole made k j c its.d d its.given here its.found found its.first first

    dropped_part : (why : Discard) → slice_get parts j ≡ Some (Some (Err why)) → IsDropped part d (server_state old c) (server_state middle c) why → IsAnswered topology (part_at savings (place_of parts j)) middle new (Err why) (Err why)
        → (answer : Result (List ℕ) Discard) → slice_get given j ≡ Some answer → answer ≡ Err why → IsFinished tells was later shared old new given j c d part
    dropped_part why at dropped answered_so answer said is =
        let none : NoneSettles c = λ k p settles. not_dropped (Some (Err why)) why c p refl (same_Some (Some (Err why)) (Some (Ok (c, p))) (sym at ∙ (ap (slice_get parts) (sym (same_part k p settles)) ∙ settles))) in
        let out = elsewhere c part there (λ k p s settles saving. none k p settles) in
        record {
          answer = answer;
          there = said;
          done = dropped_done tells was later (first_of (effective 6 (was.failing_call part.region)) shared) part d (server_state old c) (server_state middle c) (server_state new c) why answer dropped (unsettled c none) is (stays part.region out) (ready c part there);
        }

    settled_part : (p : Prepared) → slice_get parts j ≡ Some (Some (Ok (c, p))) → IsPrepared part d (server_state old c) (server_state middle c) p → (answer : Result (List ℕ) Discard) → slice_get given j ≡ Some answer
        → IsSettledSo topology p (saved_by p.saving (part_at savings (place_of parts j))) c middle new answer → IsFinished tells was later shared old new given j c d part
    settled_part p at prepared answer said so = by p.saving refl where
      its_part : so.part ≡ part
      its_part = same_Some so.part part (sym so.there ∙ there)

      end : (saving : Option Saving) → p.saving ≡ saving → IsSettled part p (saved_by saving (part_at savings (place_of parts j))) (server_state middle c) (server_state new c) so.result so.out
      end saving e =
          subst (λ x. IsSettled part p (saved_by x (part_at savings (place_of parts j))) (server_state middle c) (server_state new c) so.result so.out) e
          (subst (λ x. IsSettled x p (saved_by p.saving (part_at savings (place_of parts j))) (server_state middle c) (server_state new c) so.result so.out) its_part so.settled)

      by : (saving : Option Saving) → p.saving ≡ saving → IsFinished tells was later shared old new given j c d part
      by None e =
          let none : NoneSaves c = λ k q s settles saving. one_saving (Some (Ok (c, p))) c p q s refl (same_Some (Some (Ok (c, p))) (Some (Ok (c, q))) (sym at ∙ (ap (slice_get parts) (sym (same_part k q settles)) ∙ settles))) e saving in
          let out = elsewhere c part there none in
          record {
            answer = answer;
            there = said;
            done = unsaved_done tells was later part d (server_state old c) (server_state middle c) (server_state new c) p prepared so.result so.out answer so.given (ready c part there)
                (first_of (effective 6 (was.failing_call part.region)) shared) e (end None e) (held part.region out) (stays part.region out);
          }
      by (Some s) e =
          let place : slice_get (savings_of parts) (place_of parts j) ≡ Some s = placed saving_in parts j (Some (Ok (c, p))) s at e in
          let one = saved.each (place_of parts j) (slice_get_within (savings_of parts) (place_of parts j) s place) in
          let its = subst (λ x. IsSavedPart tells shared x (part_at savings (place_of parts j)) was later) (get_or_from_slice_get (savings_of parts) (place_of parts j) s no_part place) one in
          record {
            answer = answer;
            there = said;
            done = saved_done tells was later part d (server_state old c) (server_state middle c) (server_state new c) p prepared so.result so.out answer so.given (ready c part there) shared s (part_at savings (place_of parts j)) e its (end (Some s) e);
          }

  -- so is every first part
  first_by : (j c : ℕ) (d : DeliveryValue) → slice_get ds j ≡ Some d → addressee topology d ≡ Ok c → is_named topology (take j ds) c ≡ false → (p : Part) → slice_get parts j ≡ Some (Some p) → IsDecided topology (take j ds) d old middle p
      → (answer : Result (List ℕ) Discard) → slice_get given j ≡ Some answer → IsAnswered topology (part_at savings (place_of parts j)) middle new answer p
      → (part : CircuitPart) × (slice_get topology.circuits c ≡ Some part) × IsFinished tells was later shared old new given j c d part
  first_by j c d here found first (Err why) at (inl none) answer said is = let never : Ok c ≡ Err why = sym found ∙ none in absurd cc
  first_by j c d here found first (Err why) at (inr (inl again)) answer said is =
      absurd (not_both (subst (λ k. is_named topology (take j ds) k ≡ true) (one_circuit (addressee topology d) again.1.0 c again.1.1 found) again.1.2) first)
  first_by j c d here found first (Err why) at (inr (inr dropped)) answer said is =
      let same : dropped.0 ≡ c = one_circuit (addressee topology d) dropped.0 c dropped.2.found found in
      let there = subst (λ k. slice_get topology.circuits k ≡ Some dropped.1) same dropped.3 in
      (dropped.1, there, dropped_part j c d dropped.1 here found first there why at (subst (λ k. IsDropped dropped.1 d (server_state old k) (server_state middle k) why) same dropped.4) refl answer said is)
  first_by j c d here found first (Ok (k, p)) at m answer said so =
      let same : k ≡ c = one_circuit (addressee topology d) k c m.1.found found in
      let there = subst (λ n. slice_get topology.circuits n ≡ Some m.0) same m.2 in (
        m.0,
        there,
        settled_part j c d m.0 here found first there p (subst (λ n. slice_get parts j ≡ Some (Some (Ok (n, p)))) same at) (subst (λ n. IsPrepared m.0 d (server_state old n) (server_state middle n) p) same m.3) answer said
            (subst (λ n. IsSettledSo topology p (saved_by p.saving (part_at savings (place_of parts j))) n middle new answer) same so),
      )

  -- a part as it was made and answered
  pub record IsPartOf (j : ℕ) (d : DeliveryValue) : Type 0 where
    pub p : Part
    pub at : slice_get parts j ≡ Some (Some p)
    pub made_so : IsDecided topology (take j ds) d old middle p
    pub answer : Result (List ℕ) Discard
    pub said : slice_get given j ≡ Some answer
    pub answered_so : IsAnswered topology (part_at savings (place_of parts j)) middle new answer p

  part_there : (j : ℕ) (d : DeliveryValue) → slice_get ds j ≡ Some d → IsPartOf j d
  part_there j d here =
      let inside = slice_get_within ds j d here in
      let one = made.each j d (omega (arith, inside, whole)) here in
      let count = made.count in
      let said = ended.each j one.0 (omega (arith, inside, whole, count)) one.1 in
      record { p = one.0; at = one.1; made_so = one.2; answer = said.0; said = said.1; answered_so = said.2 }

  first_done : (j c : ℕ) (d : DeliveryValue) → slice_get ds j ≡ Some d → addressee topology d ≡ Ok c → is_named topology (take j ds) c ≡ false → (part : CircuitPart) × (slice_get topology.circuits c ≡ Some part) × IsFinished tells was later shared old new given j c d part
  first_done j c d here found first = let one = part_there j d here in first_by j c d here found first one.p one.at one.made_so one.answer one.said one.answered_so

  -- ---- a circuit that no part is of

  unnamed : (c : ℕ) → is_named topology ds c ≡ false → NoneSettles c
  unnamed c none j p at =
      let its = settles_at topology ds i named old middle parts whole made j c p at in
      let inside = slice_get_within ds j its.d its.given in
      let named_there = any_there (λ x. is_circuit c (addressee topology x)) ds (length ds) j its.d inside its.given (ap (is_circuit c) its.found ∙ same_number c) in
      not_both (sym (ap (λ xs. is_named topology xs c) (take_all (length ds) ds (omega arith))) ∙ named_there) none

  unnamed_state : (c : ℕ) → is_named topology ds c ≡ false → server_state new c ≡ server_state old c
  unnamed_state c none =
      unsettled c (unnamed c none)
      ∙ made.others c (ap (λ xs. is_named topology xs c) (take_all i ds (omega (arith, whole))) ∙ none)

  unnamed_region : (c : ℕ) (part : CircuitPart) → slice_get topology.circuits c ≡ Some part → is_named topology ds c ≡ false → tells ≡ true → later.region part.region ≡ was.region part.region
  unnamed_region c part there none told = stays part.region (elsewhere c part there (λ j p s at saving. unnamed c none j p at)) told

  -- ---- what the clauses say

  module _ (books after : List (Option Book)) (shown : (c : ℕ) (part : CircuitPart) → slice_get topology.circuits c ≡ Some part → slice_get books c ≡ Some (option_map open_book (server_state old c)))
      (shown_after : (c : ℕ) (part : CircuitPart) → slice_get topology.circuits c ≡ Some part → slice_get after c ≡ Some (option_map open_book (server_state new c)))
      (past : (c : ℕ) → slice_get topology.circuits c ≡ None → slice_get after c ≡ slice_get books c) where
    abbrev fails : ℕ → Bool
    fails = has_failed was later

    -- the first part of a circuit
    first_answer : (j c : ℕ) (d : DeliveryValue) → slice_get ds j ≡ Some d → addressee topology d ≡ Ok c → is_named topology (take j ds) c ≡ false → slice_get given j ≡ Some (part_received topology (take j ds) d fails books).answer
    first_answer j c d here found first =
        let f = first_done j c d here found first in
        f.2.there
        ∙ ap (λ (x : Answered). Some x.answer) (sym f.2.done.answered_so)
        ∙ ap (λ (x : Received). Some x.answer)
        (sym (ap (λ r. if comes_again topology (take j ds) r then drop_all BatchTwice books else received topology d fails books) found
        ∙ ap (λ b. if b then drop_all BatchTwice books else received topology d fails books) first
        ∙ received_at topology d c f.0 found f.1 fails books (option_map open_book (server_state old c)) (shown c f.0 f.1)))

    answer_by_part : (j : ℕ) (d : DeliveryValue) → slice_get ds j ≡ Some d → (p : Part) → IsDecided topology (take j ds) d old middle p → (answer : Result (List ℕ) Discard) → slice_get given j ≡ Some answer → IsAnswered topology (part_at savings (place_of parts j)) middle new answer p
        → slice_get given j ≡ Some (part_received topology (take j ds) d fails books).answer
    answer_by_part j d here (Err why) (inl none) answer said is =
        said ∙ ap Some is
        ∙ ap (λ (x : Received). Some x.answer) (sym (ap (λ r. if comes_again topology (take j ds) r then drop_all BatchTwice books else addressee_answered topology d fails books r) none))
    answer_by_part j d here (Err why) (inr (inl again)) answer said is =
        said ∙ ap Some is ∙ ap (λ w. Some (Err w)) again.0
        ∙ ap (λ (x : Received). Some x.answer)
        (sym (ap (λ r. if comes_again topology (take j ds) r then drop_all BatchTwice books else addressee_answered topology d fails books r) again.1.1
        ∙ ap (λ b. if b then drop_all BatchTwice books else addressee_answered topology d fails books (Ok again.1.0)) again.1.2))
    answer_by_part j d here (Err why) (inr (inr dropped)) answer said is = first_answer j dropped.0 d here dropped.2.found dropped.2.first
    answer_by_part j d here (Ok (c, p)) m answer said is = first_answer j c d here m.1.found m.1.first

    pub batch_answered : IsBatch topology ds fails books after given
    batch_answered = record {
      count = let a = ended.count in let b = made.count in omega (arith, a, b, whole);
      each = λ j d here. let one = part_there j d here in answer_by_part j d here one.p one.made_so one.answer one.said one.answered_so;
      books = λ j c d here found first.
          let f = first_done j c d here found first in
          shown_after c f.0 f.1
          ∙ ap (λ (x : Answered). Some x.book) (sym f.2.done.answered_so)
          ∙ sym (get_set books c (option_map open_book (server_state old c)) (answered f.0 d (fails f.0.region) (option_map open_book (server_state old c))).book (shown c f.0 f.1))
          ∙ ap (λ (x : Received). slice_get x.books c) (sym (received_at topology d c f.0 found f.1 fails books (option_map open_book (server_state old c)) (shown c f.0 f.1)));
      others = λ c none. other c none (slice_get topology.circuits c) refl;
    } where
      other : (c : ℕ) → is_named topology ds c ≡ false → (x : Option CircuitPart) → slice_get topology.circuits c ≡ x → slice_get after c ≡ slice_get books c
      other c none None e = past c e
      other c none (Some part) e = shown_after c part e ∙ ap (λ s. Some (option_map open_book s)) (unnamed_state c none) ∙ sym (shown c part e)

  module _ (told : tells ≡ true) (faults : ℕ → ℕ) (faults_are : (r : ℕ) → faults r ≡ first_of (effective 6 (was.failing_call r)) shared) where
    pub batch_leased : (all after : List Leases) → ((c : ℕ) (part : CircuitPart) → slice_get topology.circuits c ≡ Some part → slice_get all c ≡ Some (left part (was.region part.region) (server_state old c)))
        → ((c : ℕ) (part : CircuitPart) → slice_get topology.circuits c ≡ Some part → slice_get after c ≡ Some (left part (later.region part.region) (server_state new c)))
        → ((c : ℕ) → slice_get topology.circuits c ≡ None → slice_get after c ≡ slice_get all c) → IsBatchOfLeases topology ds faults all after
    batch_leased all after shown shown_after past = record {
      leases = λ j c d here found first.
          let f = first_done j c d here found first in
          shown_after c f.0 f.1
          ∙ ap Some (f.2.done.leases told)
          ∙ ap (λ n. Some (after_datagram f.0 d n (left f.0 (was.region f.0.region) (server_state old c)))) (sym (faults_are f.0.region))
          ∙ sym (get_set all c (left f.0 (was.region f.0.region) (server_state old c)) (after_datagram f.0 d (faults f.0.region) (left f.0 (was.region f.0.region) (server_state old c))) (shown c f.0 f.1))
          ∙ ap (λ xs. slice_get xs c) (sym (leases_at topology d c f.0 found f.1 faults all (left f.0 (was.region f.0.region) (server_state old c)) (shown c f.0 f.1)));
      others = λ c none. other c none (slice_get topology.circuits c) refl;
    } where
      other : (c : ℕ) → is_named topology ds c ≡ false → (x : Option CircuitPart) → slice_get topology.circuits c ≡ x → slice_get after c ≡ slice_get all c
      other c none None e = past c e
      other c none (Some part) e = shown_after c part e ∙ (λ i. Some (left part (unnamed_region c part e none told i) (unnamed_state c none i))) ∙ sym (shown c part e)

    pub batch_failed : (r : ℕ) → has_failed was later r ≡ (is_in (regions_of (savings_of parts)) r && not (faults r == 0))
    batch_failed r = by (is_in (regions_of (savings_of parts)) r) refl where
      by : (b : Bool) → is_in (regions_of (savings_of parts)) r ≡ b → has_failed was later r ≡ (is_in (regions_of (savings_of parts)) r && not (faults r == 0))
      by false e = held r e ∙ sym (ap (λ b. b && not (faults r == 0)) e)
      by true e =
          let n = region_found (savings_of parts) r e in
          let one = saved.each n.0 n.1 in
          let s = part_at (savings_of parts) n.0 in
          let now = part_at savings n.0 in
          let fails : has_failed was later r ≡ not (now.failed == 0) = subst (λ q. nat_lt (was.failures q) (later.failures q) ≡ not (now.failed == 0)) n.2 (ap (nat_lt (was.failures s.region)) one.failures ∙ raised (now.failed == 0) (was.failures s.region)) in
          let its : now.failed ≡ faults r = one.failed told ∙ ap (λ q. first_of (effective 6 (was.failing_call q)) shared) n.2 ∙ sym (faults_are r) in
          fails ∙ ap (λ k. not (k == 0)) its ∙ sym (ap (λ b. b && not (faults r == 0)) e)

    pub batch_ready : (c : ℕ) (part : CircuitPart) → slice_get topology.circuits c ≡ Some part → IsReadyFor (later.region part.region) (server_state new c)
    batch_ready c part there = by (is_named topology ds c) refl where
      by : (b : Bool) → is_named topology ds c ≡ b → IsReadyFor (later.region part.region) (server_state new c)
      by false e = subst (IsReadyFor (later.region part.region)) (sym (unnamed_state c e)) (subst (λ r. IsReadyFor r (server_state old c)) (sym (unnamed_region c part there e told)) (ready c part there told))
      by true e =
          let one = first_there (λ x. is_circuit c (addressee topology x)) ds e in
          let f = first_done one.0 c one.1 one.2 (circuit_is c (addressee topology one.1) one.3) one.4 in
          subst (λ (p : CircuitPart). IsReadyFor (later.region p.region) (server_state new c)) (same_Some f.0 part (sym f.1 ∙ there)) (f.2.done.ready told)

  pub batch_written : IsWrittenTogether tells (regions_of (savings_of parts)) was later
  batch_written = record { touches = saved.frame; nothing = λ none. saved.nothing (empty (savings_of parts) none) } where
    empty : (ss : List Saving) → regions_of ss ≡ [] → ss ≡ []
    empty [] none = refl
    empty (s ∷ ss) none = absurd cc
