-- One part of a batch more is answered.
use Rattle.std.proofs.Common.{◌≡◌, ◌∙◌, ◌+◌, ◌<◌, ◌==◌, ◌||◌, ℕ, Bool, true, false, List, [], ◌∷◌, ◌++◌, length, take, refl, sym, ap, subst, arith}
use Rattle.std.specs.Prelude.{Option, Some, Result, Ok, Err, slice_get}
use Rattle.std.specs.List.{list_any}
use Rattle.std.proofs.lemmas.Bool.{eqb-true}
use Rattle.std.proofs.lemmas.Option.{same_Some}
use Rattle.types.specs.declared.discard.Discard.{Discard}
use Rattle.lease_disk.specs.declared.device.Fault.{Fault}
use Rattle.lease_disk.specs.declared.marks.Marks.{Marks}
use Rattle.batch_saves.specs.Batch.{part_at}
use Rattle.lease_disk.specs.declared.saving.Saving.{Saving}
use Rattle.config.specs.Topology.{Topology}
use Rattle.circuit_server.specs.CircuitServerValue.{OpenCircuitValue}
use Rattle.circuit_server.specs.Prepared.{IsSettled}
use Rattle.circuit_server.specs.Ticked.{server_state}
use Rattle.circuit_server.specs.declared.prepared.Prepared.{Prepared}
use Rattle.timers.specs.Deadlines.{DeadlinesValue}
use Rattle.dispatch.specs.Deadlines.{KeepsDeadlines}
use Rattle.dispatch.specs.Parts.{AreAnswered, AreToSettle, IsAnswered, IsSettledSo, is_of, place_of}
use Rattle.dispatch.proofs.HeldDeadlines.{kept_both, kept_wider}
use Rattle.dispatch.proofs.PartLemmas.{any_more, any_there, get_before, get_last, left_false, not_both, right_false, same_number, size_more}

abbrev Part : Type 0
Part = Result (ℕ × Prepared) Discard

abbrev States : Type 0
States = List (Option OpenCircuitValue)

from_now : {topology : Topology} {prepared : Prepared} {saved : Result (Option Marks) Fault} {c : ℕ} {old now new : States} {answer : Result (List ℕ) Discard} → server_state now c ≡ server_state old c
    → IsSettledSo topology prepared saved c now new answer → IsSettledSo topology prepared saved c old new answer
from_now {prepared = prepared} {saved = saved} {c = c} {new = new} same its = record {
  part = its.part;
  there = its.there;
  result = its.result;
  out = its.out;
  given = its.given;
  settled = subst (λ state. IsSettled its.part prepared saved state (server_state new c) its.result its.out) same its.settled;
}

to_new : {topology : Topology} {prepared : Prepared} {saved : Result (Option Marks) Fault} {c : ℕ} {old now new : States} {answer : Result (List ℕ) Discard} → server_state new c ≡ server_state now c
    → IsSettledSo topology prepared saved c old now answer → IsSettledSo topology prepared saved c old new answer
to_new {prepared = prepared} {saved = saved} {c = c} {old = old} same its = record {
  part = its.part;
  there = its.there;
  result = its.result;
  out = its.out;
  given = its.given;
  settled = subst (λ state. IsSettled its.part prepared saved (server_state old c) state its.result its.out) (sym same) its.settled;
}

module _ (topology : Topology) (parts : List (Option Part)) (savings : List Saving) (i : ℕ) (old now new : States) (given : List (Result (List ℕ) Discard)) (part : Part)
    (here : slice_get parts i ≡ Some (Some part)) (settles : AreToSettle topology parts) (was : AreAnswered topology parts savings i old now given)
    (size : length new ≡ length now) (keeps : (k : ℕ) → is_of k (Some part) ≡ false → server_state new k ≡ server_state now k) (answer : Result (List ℕ) Discard) where
  -- a part before it is of another circuit
  other : (j c : ℕ) (prepared : Prepared) → j < i → slice_get parts j ≡ Some (Some (Ok (c, prepared))) → (p : Part) → slice_get parts i ≡ Some (Some p) → is_of c (Some p) ≡ false
  other j c prepared less there (Err why) at = refl
  other j c prepared less there (Ok (d, next)) at = by (d == c) refl where
    by : (b : Bool) → (d == c) ≡ b → (d == c) ≡ false
    by false e = e
    by true e =
        let same : d ≡ c = eqb-true d c e in
        let again : is_of d (Some (Ok (c, prepared))) ≡ true = ap (λ n. c == n) same ∙ same_number c in
        absurd (not_both (any_there (is_of d) parts i j (Some (Ok (c, prepared))) less there again) (settles.apart i d next at))

  earlier : (j : ℕ) (p : Part) (a : Result (List ℕ) Discard) → j < i → slice_get parts j ≡ Some (Some p) → IsAnswered topology (part_at savings (place_of parts j)) old now a p → IsAnswered topology (part_at savings (place_of parts j)) old new a p
  earlier j (Err why) a less there its = its
  earlier j (Ok (c, prepared)) a less there its = to_new (keeps c (other j c prepared less there part here)) its

  own : (p : Part) → slice_get parts i ≡ Some (Some p) → IsAnswered topology (part_at savings (place_of parts i)) now new answer p → IsAnswered topology (part_at savings (place_of parts i)) old new answer p
  own (Err why) at its = its
  own (Ok (c, prepared)) at its = from_now (was.others c (settles.apart i c prepared at)) its

  each : (j : ℕ) (p : Part) → j < i + 1 → slice_get parts j ≡ Some (Some p) → IsAnswered topology (part_at savings (place_of parts i)) now new answer part → (b : Bool) → (j == i) ≡ b
      → (a : Result (List ℕ) Discard) × (slice_get (given ++ answer ∷ []) j ≡ Some a) × IsAnswered topology (part_at savings (place_of parts j)) old new a p
  each j p less there its false e =
      let before : j < i = grind (arith, less, e) in
      let one = was.each j p before there in
      (one.0, get_before given (answer ∷ []) j one.0 one.1, earlier j p one.0 before there one.2)
  each j p less there its true e =
      let last : j ≡ i = grind (arith, e) in
      let same : Some part ≡ Some p = same_Some (Some part) (Some p) (sym here ∙ (ap (slice_get parts) (sym last) ∙ there)) in
      let at = ap (slice_get (given ++ answer ∷ [])) (last ∙ sym was.count) ∙ get_last given answer in (
        answer,
        at,
        subst (λ n. IsAnswered topology (part_at savings (place_of parts n)) old new answer p) (sym last)
            (subst (λ x. IsAnswered topology (part_at savings (place_of parts i)) old new answer x) (same_Some part p same) (own part here its)),
      )

  pub answered_more : IsAnswered topology (part_at savings (place_of parts i)) now new answer part → AreAnswered topology parts savings (i + 1) old new (given ++ answer ∷ [])
  answered_more its = record {
    size = size ∙ was.size;
    count = size_more given answer ∙ ap (λ n. n + 1) was.count;
    each = λ j p less there. each j p less there its (j == i) refl;
    others = λ c none.
        let so = sym (any_more (is_of c) parts i (Some part) here) ∙ none in
        keeps c (right_false (list_any (is_of c) (take i parts)) (is_of c (Some part)) so) ∙ was.others c (left_false (list_any (is_of c) (take i parts)) (is_of c (Some part)) so);
  }

-- the deadlines of every circuit of which nothing is to be settled stay
pub kept_answered : (parts : List (Option Part)) (i : ℕ) (x : Option Part) (old now new : DeadlinesValue) → slice_get parts i ≡ Some x → KeepsDeadlines (λ k. list_any (is_of k) (take i parts)) old now
    → KeepsDeadlines (λ k. is_of k x) now new → KeepsDeadlines (λ k. list_any (is_of k) (take (i + 1) parts)) old new
kept_answered parts i x old now new here before next =
    kept_both (λ k. list_any (is_of k) (take (i + 1) parts)) old now new
    (kept_wider (λ k. list_any (is_of k) (take i parts)) (λ k. list_any (is_of k) (take (i + 1) parts)) old now (λ k none. left_false (list_any (is_of k) (take i parts)) (is_of k x) (so k none)) before)
    (kept_wider (λ k. is_of k x) (λ k. list_any (is_of k) (take (i + 1) parts)) now new (λ k none. right_false (list_any (is_of k) (take i parts)) (is_of k x) (so k none)) next) where
      so : (k : ℕ) → list_any (is_of k) (take (i + 1) parts) ≡ false → (list_any (is_of k) (take i parts) || is_of k x) ≡ false
      so k none = sym (any_more (is_of k) parts i x here) ∙ none
