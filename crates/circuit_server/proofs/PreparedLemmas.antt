-- What comes of a datagram that was prepared, once its save is done or has failed.
use Rattle.std.proofs.Common.{◌≡◌, ◌⊎◌, inl, inr, ◌+◌, ◌*◌, ◌∙◌, ◌≤◌, ◌==◌, ◌&&◌, ◌<◌, nat_le, nat_lt, not, ℕ, Bool, true, false, List, refl, sym, ap, subst, arith}
use Rattle.std.specs.Prelude.{Option, Some, None, option_map, is_some, Result, Ok, Err, is_ok, IfErr, IfOk, IfSome, if◌then◌else◌}
use Rattle.std.proofs.lemmas.Bool.{eq-eqb, eqb-true, leb-true}
use Rattle.types.specs.Delivery.{DeliveryValue}
use Rattle.types.specs.declared.discard.Discard.{Discard}
use Rattle.config.specs.CircuitPart.{CircuitPart}
use Rattle.bindings_v4.specs.Decision4.{kept_slot}
use Rattle.lease_disk.specs.declared.content.Content.{Content}
use Rattle.lease_disk.specs.declared.device.Fault.{Fault}
use Rattle.lease_disk.specs.declared.marks.Marks.{Marks}
use Rattle.lease_disk.specs.Device.{Device, Touches}
use Rattle.lease_disk.specs.Region.{Region, effective}
use Rattle.lease_disk.specs.Save.{IsSaveOf}
use Rattle.lease_disk.proofs.Frames.{touches_none}
use Rattle.batch_saves.specs.Batch.{IsReady}
use Rattle.lease_disk.specs.declared.saving.Saving.{Saving}
use Rattle.circuit_server.specs.Answered.{IsAnswer, answered, saves}
use Rattle.circuit_server.specs.Calls.{IsCalledToSaveAt}
use Rattle.circuit_server.specs.CircuitDecision.{FitsCircuit, IsToSave, is_kept, kept_in, served_by, with_decision}
use Rattle.circuit_server.specs.CircuitServerValue.{HasPools, IsReadyFor, OpenCircuitValue, open_book}
use Rattle.circuit_server.specs.Leases.{Leases, after_datagram, formats_of, restarts_of}
use Rattle.circuit_server.specs.Prepared.{IsApplied, IsDropped, IsPrepared, IsSavedAlone, IsSettled, marks_by, saving_of, with_marks}
use Rattle.circuit_server.specs.Server.{Served, book_at, datagram_served, drop}
use Rattle.circuit_server.specs.Deadlines.{HasDeadlines, HasEntries, KeepsEntries, UnchangedOrUntilHeld, held_in}
use Rattle.circuit_server.specs.Ticked.{IsLater, open_at}
use Rattle.timers.specs.Deadlines.{DeadlinesValue, deadline}
use Rattle.circuit_server.specs.declared.decision.CircuitDecision.{CircuitDecision}
use Rattle.circuit_server.specs.declared.decision.CircuitDecision.TheVariants.{V4, V6}
use Rattle.circuit_server.specs.declared.prepared.Prepared.{Prepared}
use Rattle.circuit_server.proofs.AnswerLemmas.{WasAsked, as_served, asked, failed, fails_by, held, leases_as, none_fails, saves_so}
use Rattle.circuit_server.proofs.CalledLemmas.{called_none, called_one}
use Rattle.circuit_server.proofs.DeadlineLemmas.{ticked_entries}
use Rattle.circuit_server.proofs.SaveLemmas.{is_fit, is_to_save, still_ready}
use Rattle.circuit_server.proofs.SavedLemmas.{saved_formats, saved_ready, saved_restarts}

-- whether a decision keeps something
some_kept : {A B : Type 0} (f : A → B) (keep : Option A) (x : B) → option_map f keep ≡ Some x → is_some keep ≡ true
some_kept f None x e = absurd cc
some_kept f (Some k) x e = refl

none_kept : {A B : Type 0} (f : A → B) (keep : Option A) → option_map f keep ≡ None → is_some keep ≡ false
none_kept f None e = refl
none_kept f (Some k) e = absurd cc

pub keeps_some : (decision : CircuitDecision) (kept : ℕ × Content) → kept_in decision ≡ Some kept → is_kept decision ≡ true
keeps_some (V4 made) kept e = some_kept _ (kept_slot made.decision.change) kept e
keeps_some (V6 made) kept e = some_kept _ made.decision.keep kept e

pub keeps_none : (decision : CircuitDecision) → kept_in decision ≡ None → is_kept decision ≡ false
keeps_none (V4 made) e = none_kept _ (kept_slot made.decision.change) e
keeps_none (V6 made) e = none_kept _ made.decision.keep e

-- what became of a save, whose effective fault this is
abbrev pub WasSaved : Option Saving → Result (Option Marks) Fault → ℕ → Region → Region → Type 0
WasSaved None saved fault old new = (saved ≡ Ok None) × (new ≡ old)
WasSaved (Some s) saved fault old new =
    IsSaveOf (effective 6 fault) s.clock s.slot s.content s.marks (marks_by saved s.marks) old new × (is_ok saved ≡ (effective 6 fault == 0)) × IfOk saved (λ marks. is_some marks ≡ true)

abbrev pub left : CircuitPart → Region → Option OpenCircuitValue → Leases
left part region state = record { book = option_map open_book state; restarts = restarts_of part region; is_new = formats_of region }

differ : {b : Bool} → b ≡ true → b ≡ false → ⊥
differ is is_not = let never : true ≡ false = sym is ∙ is_not in absurd cc

few : (fault : ℕ) → effective 6 fault ≤ 6
few fault = by (nat_le fault 6) refl where
  by : (b : Bool) → nat_le fault 6 ≡ b → effective 6 fault ≤ 6
  by true e = subst (λ n. n ≤ 6) (sym (ap (λ b. if b then fault else 0) e)) (leb-true fault 6 e)
  by false e = subst (λ n. n ≤ 6) (sym (ap (λ b. if b then fault else 0) e)) (omega arith)

pub not_not : (x : Bool) → x ≡ not (not x)
not_not true = refl
not_not false = refl

module _ (part : CircuitPart) (d : DeliveryValue) (old new : Option OpenCircuitValue) (prepared : Prepared) (p : IsPrepared part d old new prepared) where
  abbrev done : Served
  done = served_by part (open_at d.moment p.before) prepared.decision

  pub case : WasAsked (record { part = part; state = old }) d part p.before done
  case = record { was = λ i. record { part = part; state = p.was i }; served_so = p.serves }

  own_book : (marks : Option Marks) → option_map open_book (with_marks marks new) ≡ Some done.book
  own_book None = ap (option_map open_book) p.is ∙ ap (λ (o : OpenCircuitValue). Some (open_book o)) p.decided
  own_book (Some marks) = ap (λ (state : Option OpenCircuitValue). option_map open_book (with_marks (Some marks) state)) p.is ∙ ap (λ (o : OpenCircuitValue). Some (open_book o)) p.decided

  -- its answer and the book after it, over any device
  pub came : (fails : Bool) (saved : Result (Option Marks) Fault) (final : Option OpenCircuitValue) (result : Result (Unit {0}) Discard) (out : List ℕ) → is_ok saved ≡ not fails → (fails ≡ true → is_kept prepared.decision ≡ true)
      → IsSettled part prepared saved new final result out
      → IsAnswer (answered part d fails (option_map open_book old)).answer result out × (option_map open_book final ≡ (answered part d fails (option_map open_book old)).book)
  came false (Ok marks) final result out ok kept settled =
      let h = held case false refl in (
        subst (λ a. IsAnswer a result out) (sym (ap (λ x. x.answer) h)) settled.1,
        ap (option_map open_book) settled.0 ∙ own_book marks ∙ sym (ap (λ x. x.book) h),
      )
  came true (Err fault) final result out ok kept settled =
      let f = failed case true refl (kept refl) in (
        subst (λ a. IsAnswer a result out) (sym (ap (λ x. x.answer) f)) (settled.1, settled.2),
        ap (option_map open_book) settled.0 ∙ sym (ap (λ x. x.book) f),
      )
  came true (Ok marks) final result out ok kept settled = absurd cc
  came false (Err fault) final result out ok kept settled = absurd cc

  -- ---- over a device that tells its bytes

  module _ (region : Region) (ready : IsReadyFor region old) (fault : ℕ) where
    settled_none : (after : Region) (saved : Result (Option Marks) Fault) (final : Option OpenCircuitValue) (result : Result (Unit {0}) Discard) (out : List ℕ) → kept_in prepared.decision ≡ None → saved ≡ Ok None → after ≡ region
        → IsSettled part prepared saved new final result out → (left part after final ≡ after_datagram part d fault (left part region old)) × IsReadyFor after final
    settled_none after (Ok None) final result out none is same settled =
        let book = ap (option_map open_book) settled.0 ∙ own_book None in
        let nothing = keeps_none prepared.decision none in
        let answer : true ≡ not (is_kept prepared.decision && not (effective 6 fault == 0)) = rw nothing refl in
        let leases = leases_as case (λ r. region) (λ r. region) (λ r. fault) done.book true refl (λ kept. absurd cc) (λ nothing. refl) answer refl in
        let own = still_ready prepared.decision (open_at d.moment p.before) p.after region p.decided p.keeps (p.ready region ready) none in (
          (λ i. record { book = book i; restarts = restarts_of part (same i); is_new = formats_of (same i) }) ∙ leases,
          subst (λ r. IsReadyFor r final) (sym same) (subst (IsReadyFor region) (sym (settled.0 ∙ p.is)) own),
        )
    settled_none after (Ok (Some marks)) final result out none is same settled = absurd cc
    settled_none after (Err why) final result out none is same settled = absurd cc

    settled_some : (after : Region) (kept : ℕ × Content) (saved : Result (Option Marks) Fault) (final : Option OpenCircuitValue) (result : Result (Unit {0}) Discard) (out : List ℕ) → kept_in prepared.decision ≡ Some kept
        → WasSaved (Some (saving_of part p.after kept)) saved fault region after → IsSettled part prepared saved new final result out
        → (left part after final ≡ after_datagram part d fault (left part region old)) × IsReadyFor after final
    settled_some after kept saved final result out is was settled = by saved was settled where
      own_pools : HasPools part (Some p.after)
      own_pools = subst (HasPools part) p.is p.pools

      to_save : IsToSave region kept.0 kept.1 p.after
      to_save = is_to_save prepared.decision (open_at d.moment p.before) p.after region kept.0 kept.1 p.decided p.keeps (p.ready region ready) is

      leases : (marks : Marks) (ok : Bool) → ok ≡ (effective 6 fault == 0) → IsSaveOf (effective 6 fault) p.after.clock kept.0 kept.1 p.after.marks marks region after
          → record { book = (if ok then Some (open_book p.after) else None); restarts = restarts_of part after; is_new = formats_of after } ≡ after_datagram part d fault (left part region old)
      leases marks ok answer save =
          let keeps = keeps_some prepared.decision kept is in
          let so : ok ≡ not (is_kept prepared.decision && not (effective 6 fault == 0)) = answer ∙ (not_not (effective 6 fault == 0) ∙ sym (ap (λ b. not (b && not (effective 6 fault == 0))) keeps)) in
          leases_as case (λ r. region) (λ r. after) (λ r. fault) (open_book p.after) ok (ap open_book p.decided)
          (λ some. saved_restarts part p.after kept.0 kept.1 marks (effective 6 fault) region after own_pools to_save (p.book kept is) (p.means kept is) save (few fault))
          (λ none. absurd (differ keeps none)) so (saved_formats part p.after kept.0 kept.1 marks (effective 6 fault) region after own_pools to_save (p.book kept is) (p.means kept is) save)

      by : (saved : Result (Option Marks) Fault) → WasSaved (Some (saving_of part p.after kept)) saved fault region after → IsSettled part prepared saved new final result out
          → (left part after final ≡ after_datagram part d fault (left part region old)) × IsReadyFor after final
      by (Ok (Some marks)) was settled =
          let none : effective 6 fault ≡ 0 = eqb-true (effective 6 fault) 0 (sym was.1) in
          let state : final ≡ Some (record p.after { marks = marks }) = settled.0 ∙ ap (with_marks (Some marks)) p.is in (
            (λ i. record { book = option_map open_book (state i); restarts = restarts_of part after; is_new = formats_of after }) ∙ leases marks true was.1 was.0,
            subst (IsReadyFor after) (sym state) (saved_ready part p.after kept.0 kept.1 marks (effective 6 fault) region after own_pools to_save (p.book kept is) (p.means kept is) was.0 none),
          )
      by (Ok None) was settled = absurd (differ was.2 refl)
      by (Err why) was settled = (
        (λ i. record { book = option_map open_book (settled.0 i); restarts = restarts_of part after; is_new = formats_of after }) ∙ leases p.after.marks false was.1 was.0,
        subst (IsReadyFor after) (sym settled.0) tt,
      )

    pub settled : (after : Region) (saved : Result (Option Marks) Fault) (final : Option OpenCircuitValue) (result : Result (Unit {0}) Discard) (out : List ℕ) → WasSaved prepared.saving saved fault region after
        → IsSettled part prepared saved new final result out → (left part after final ≡ after_datagram part d fault (left part region old)) × IsReadyFor after final
    settled after saved final result out was end = by (kept_in prepared.decision) refl where
      by : (kept : Option (ℕ × Content)) → kept_in prepared.decision ≡ kept → (left part after final ≡ after_datagram part d fault (left part region old)) × IsReadyFor after final
      by None is =
          let nothing = subst (λ s. WasSaved s saved fault region after) (p.saving ∙ ap (option_map (saving_of part p.after)) is) was in
          settled_none after saved final result out is nothing.0 nothing.1 end
      by (Some kept) is =
          let some = subst (λ s. WasSaved s saved fault region after) (p.saving ∙ ap (option_map (saving_of part p.after)) is) was in
          settled_some after kept saved final result out is some end

-- ---- its save, alone

module _ (part : CircuitPart) (d : DeliveryValue) (old new : Option OpenCircuitValue) (prepared : Prepared) (p : IsPrepared part d old new prepared) where
  -- what the save has to be given
  pub prepared_ready : (tells : Bool) (device : Device) → part.region < device.count → (tells ≡ true → IsReadyFor (device.region part.region) old) → IfSome prepared.saving (IsReady tells device)
  prepared_ready tells device exists ready = subst (λ s. IfSome s (IsReady tells device)) (sym p.saving) (by (kept_in prepared.decision) refl) where
    by : (kept : Option (ℕ × Content)) → kept_in prepared.decision ≡ kept → IfSome (option_map (saving_of part p.after) kept) (IsReady tells device)
    by None is = tt
    by (Some kept) is =
        let to_save : tells ≡ true → IsToSave (device.region part.region) kept.0 kept.1 p.after =
        λ told. is_to_save prepared.decision (open_at d.moment p.before) p.after (device.region part.region) kept.0 kept.1 p.decided p.keeps (p.ready (device.region part.region) (ready told)) is in
        record {
          fresh = refl;
          save = record {
            exists = exists;
            fits = is_fit prepared.decision (open_at d.moment p.before) kept.0 kept.1 p.keeps is;
            format = λ told. (to_save told).format;
            clean = λ told. (to_save told).clean;
            mark = λ told. (to_save told).marks kept.0 (to_save told).below;
          };
        }

  module _ (tells : Bool) (was later : Device) (saved : Result (Option Marks) Fault) (nothing : prepared.saving ≡ None → (saved ≡ Ok None) × (later ≡ was)) (some : IfSome prepared.saving (IsSavedAlone tells saved was later)) where
    none_is : kept_in prepared.decision ≡ None → (saved ≡ Ok None) × (later ≡ was)
    none_is is = nothing (p.saving ∙ ap (option_map (saving_of part p.after)) is)

    some_is : (kept : ℕ × Content) → kept_in prepared.decision ≡ Some kept → IsSavedAlone tells saved was later (saving_of part p.after kept)
    some_is kept is = subst (λ s. IfSome s (IsSavedAlone tells saved was later)) (p.saving ∙ ap (option_map (saving_of part p.after)) is) some

    fine : saved ≡ Ok None → not (is_ok saved) ≡ false
    fine is = ap (λ (r : Result (Option Marks) Fault). not (is_ok r)) is

    pub alone_fails : (q : ℕ) → nat_lt (was.failures q) (later.failures q) ≡ (part.region == q && not (is_ok saved))
    alone_fails q = by (kept_in prepared.decision) refl where
      by : (kept : Option (ℕ × Content)) → kept_in prepared.decision ≡ kept → nat_lt (was.failures q) (later.failures q) ≡ (part.region == q && not (is_ok saved))
      by None is =
          let none = none_is is in
          ap (λ (device : Device). nat_lt (was.failures q) (device.failures q)) none.1 ∙ none_fails part.region q (was.failures q) (not (is_ok saved)) (fine none.0)
      by (Some kept) is = fails_by saved part.region was.failures later.failures (not (is_ok saved)) (some_is kept is).failures (not_not (is_ok saved)) q

    pub alone_here : nat_lt (was.failures part.region) (later.failures part.region) ≡ not (is_ok saved)
    alone_here = alone_fails part.region ∙ ap (λ b. b && not (is_ok saved)) (eq-eqb part.region part.region refl)

    pub alone_cause : not (is_ok saved) ≡ true → is_kept prepared.decision ≡ true
    alone_cause fails = by (kept_in prepared.decision) refl where
      by : (kept : Option (ℕ × Content)) → kept_in prepared.decision ≡ kept → is_kept prepared.decision ≡ true
      by None is = absurd (differ fails (fine (none_is is).0))
      by (Some kept) is = keeps_some prepared.decision kept is

    pub alone_stays : is_kept prepared.decision ≡ false → later ≡ was
    alone_stays none = by (kept_in prepared.decision) refl where
      by : (kept : Option (ℕ × Content)) → kept_in prepared.decision ≡ kept → later ≡ was
      by None is = (none_is is).1
      by (Some kept) is = absurd (differ (keeps_some prepared.decision kept is) none)

    pub alone_touches : Touches tells part.region was later
    alone_touches = by (kept_in prepared.decision) refl where
      by : (kept : Option (ℕ × Content)) → kept_in prepared.decision ≡ kept → Touches tells part.region was later
      by None is = subst (Touches tells part.region was) (sym (none_is is).1) (touches_none tells part.region was)
      by (Some kept) is = (some_is kept is).frame

    pub alone_called : IsCalledToSaveAt (saves part (done part d old new prepared p)) was later
    alone_called = by (kept_in prepared.decision) refl where
      by : (kept : Option (ℕ × Content)) → kept_in prepared.decision ≡ kept → IsCalledToSaveAt (saves part (done part d old new prepared p)) was later
      by None is = subst (λ b. IsCalledToSaveAt (if b then Some part.region else None) was later) (sym (keeps_none prepared.decision is)) (called_none was later (none_is is).1)
      by (Some kept) is =
          let one = some_is kept is in
          subst (λ b. IsCalledToSaveAt (if b then Some part.region else None) was later) (sym (keeps_some prepared.decision kept is)) (called_one tells part.region saved was later one.frame one.writes one.most one.failures)

    module _ (told : tells ≡ true) where
      pub alone_ok : not (is_ok saved) ≡ (is_kept prepared.decision && not (effective 6 (was.failing_call part.region) == 0))
      alone_ok = by (kept_in prepared.decision) refl where
        by : (kept : Option (ℕ × Content)) → kept_in prepared.decision ≡ kept → not (is_ok saved) ≡ (is_kept prepared.decision && not (effective 6 (was.failing_call part.region) == 0))
        by None is = fine (none_is is).0 ∙ sym (ap (λ b. b && not (effective 6 (was.failing_call part.region) == 0)) (keeps_none prepared.decision is))
        by (Some kept) is = ap not ((some_is kept is).answer told) ∙ sym (ap (λ b. b && not (effective 6 (was.failing_call part.region) == 0)) (keeps_some prepared.decision kept is))

      pub alone_saved : WasSaved prepared.saving saved (was.failing_call part.region) (was.region part.region) (later.region part.region)
      alone_saved = subst (λ s. WasSaved s saved (was.failing_call part.region) (was.region part.region) (later.region part.region)) (sym p.saving) (by (kept_in prepared.decision) refl) where
        by : (kept : Option (ℕ × Content)) → kept_in prepared.decision ≡ kept → WasSaved (option_map (saving_of part p.after) kept) saved (was.failing_call part.region) (was.region part.region) (later.region part.region)
        by None is = let none = none_is is in (none.0, ap (λ (device : Device). device.region part.region) none.1)
        by (Some kept) is = let one = some_is kept is in (one.saved told, one.answer told, one.marks)

-- ---- a decision's change leaves the clock and the pools

pub decided_later : (moment : ℕ) (decision : CircuitDecision) (state : Option OpenCircuitValue) → IsLater moment state → IsLater moment (option_map (with_decision decision) state)
decided_later moment decision None later = later
decided_later moment (V4 made) (Some o) later = later
decided_later moment (V6 made) (Some o) later = later

pub decided_pools : (part : CircuitPart) (decision : CircuitDecision) (state : Option OpenCircuitValue) → HasPools part state → HasPools part (option_map (with_decision decision) state)
decided_pools part decision None pools = pools
decided_pools part (V4 made) (Some o) pools = pools
decided_pools part (V6 made) (Some o) pools = pools

-- ---- what is decided at a datagram's moment

-- An open circuit whose clock was moved to the moment of a datagram: nothing else of it is changed.
pub record WasTicked (d : DeliveryValue) (old : Option OpenCircuitValue) (before now : OpenCircuitValue) : Type 0 where
  pub was : old ≡ Some before
  pub at : now ≡ open_at d.moment before
  pub later : before.clock ≤ now.clock
  pub book : open_book now ≡ book_at d.moment (open_book before)
  pub ready : (region : Region) → IsReadyFor region (Some before) → IsReadyFor region (Some now)

pub was_ticked : {seen d : DeliveryValue} {old : Option OpenCircuitValue} {before now : OpenCircuitValue} → seen ≡ d → old ≡ Some before → now ≡ open_at seen.moment before → before.clock ≤ now.clock
    → open_book now ≡ book_at seen.moment (open_book before) → ((region : Region) → IsReadyFor region (Some before) → IsReadyFor region (Some now)) → WasTicked d old before now
was_ticked {seen} {d} {old} {before} {now} same was at later book ready = record {
  was = was;
  at = at ∙ ap (λ (x : DeliveryValue). open_at x.moment before) same;
  later = later;
  book = book ∙ ap (λ (x : DeliveryValue). book_at x.moment (open_book before)) same;
  ready = ready;
}

module _ {d : DeliveryValue} {old : Option OpenCircuitValue} {before now : OpenCircuitValue} (ticked : WasTicked d old before now) where
  pub pools_now : (part : CircuitPart) → HasPools part old → HasPools part (Some now)
  pools_now part pools = subst (λ (o : OpenCircuitValue). HasPools part (Some o)) (sym ticked.at) (subst (HasPools part) ticked.was pools)

  pub entries_now : (table : DeadlinesValue) (circuit : ℕ) → HasEntries table circuit old → HasEntries table circuit (Some now)
  entries_now table circuit has =
      ticked_entries table circuit before now (ap (λ (o : OpenCircuitValue). o.four) ticked.at) (ap (λ (o : OpenCircuitValue). o.six) ticked.at) ticked.later (subst (HasEntries table circuit) ticked.was has)

  ready_now : (region : Region) → IsReadyFor region old → IsReadyFor region (Some now)
  ready_now region ready = ticked.ready region (subst (IsReadyFor region) ticked.was ready)

  pub dropped_now : (part : CircuitPart) (why : Discard) → datagram_served part d.proto d.bytes (open_book now) ≡ drop why (open_book now) → IsDropped part d old (Some now) why
  dropped_now part why refused =
      let served_so = asked part d (open_book before) (open_book now) _ ticked.book refused in
      let its : WasAsked (record { part = part; state = old }) d part before (drop why (open_book now)) = record { was = λ i. record { part = part; state = ticked.was i }; served_so = served_so } in
      record {
        answers = λ fails. as_served its fails;
        saves = saves_so its;
        leases = λ region fault. leases_as its (λ r. region) (λ r. region) (λ r. fault) (open_book now) true refl (λ keeps. absurd cc) (λ changes. refl) refl refl;
        ready = ready_now;
      }

  -- by what was made of the circuit as it was then
  pub prepared_now : (part : CircuitPart) (decision made : CircuitDecision) (state new : Option OpenCircuitValue) (saving : Option Saving) → decision ≡ made → state ≡ Some now
      → datagram_served part d.proto d.bytes (open_book now) ≡ served_by part now made → FitsCircuit made now
      → ((was : OpenCircuitValue) → state ≡ Some was → IsApplied part decision was new saving) → HasPools part new → IsPrepared part d old new (record { decision = decision; saving = saving })
  prepared_now part decision made state new saving same left serves fits makes pools =
      let m = makes now left in
      let fits_so : FitsCircuit decision (open_at d.moment before) = subst (λ x. FitsCircuit x (open_at d.moment before)) (sym same) (subst (FitsCircuit made) ticked.at fits) in
      record {
        before = before;
        after = m.after;
        was = ticked.was;
        is = m.is;
        decided = m.decided ∙ ap (with_decision decision) ticked.at;
        serves = asked part d (open_book before) (open_book now) _ ticked.book serves ∙ ap (λ o. served_by part o made) ticked.at ∙ ap (served_by part (open_at d.moment before)) (sym same);
        saving = m.saving_is;
        keeps = fits_so.keeps;
        within = fits_so.within;
        pools = pools;
        ready = λ region ready. subst (λ o. IsReadyFor region (Some o)) ticked.at (ready_now region ready);
        book = m.book;
        means = m.means;
      }

  -- by a result that was looked at
  module _ {T : Type 0} (decision : T → CircuitDecision) (part : CircuitPart) (result : Result T Discard) where
    pub dropped_by : (why : Discard) → result ≡ Err why → IfErr result (λ why. datagram_served part d.proto d.bytes (open_book now) ≡ drop why (open_book now)) → IsDropped part d old (Some now) why
    dropped_by why is refused = dropped_now part why (subst (λ r. IfErr r (λ why. datagram_served part d.proto d.bytes (open_book now) ≡ drop why (open_book now))) is refused)

    pub prepared_by : (made : T) (new : Option OpenCircuitValue) (saving : Option Saving) → result ≡ Ok made → IfOk result (λ made. datagram_served part d.proto d.bytes (open_book now) ≡ served_by part now (decision made))
        → IfOk result (λ made. FitsCircuit (decision made) now) → ((was : OpenCircuitValue) → Some now ≡ Some was → IsApplied part (decision made) was new saving) → HasPools part new
        → IsPrepared part d old new (record { decision = decision made; saving = saving })
    prepared_by made new saving is serves fits makes pools =
        prepared_now part (decision made) (decision made) (Some now) new saving refl refl (subst (λ r. IfOk r (λ made. datagram_served part d.proto d.bytes (open_book now) ≡ served_by part now (decision made))) is serves)
        (subst (λ r. IfOk r (λ made. FitsCircuit (decision made) now)) is fits) makes pools

-- ---- marks alone change nothing else

pub marked_pools : (part : CircuitPart) (marks : Option Marks) (state : Option OpenCircuitValue) → HasPools part state → HasPools part (with_marks marks state)
marked_pools part None state pools = pools
marked_pools part (Some marks) None pools = pools
marked_pools part (Some marks) (Some o) pools = pools

marked_deadlines : (table : DeadlinesValue) (first : ℕ) (marks : Option Marks) (state : Option OpenCircuitValue) → HasDeadlines table first state → HasDeadlines table first (with_marks marks state)
marked_deadlines table first None state has = has
marked_deadlines table first (Some marks) None has = has
marked_deadlines table first (Some marks) (Some o) has = has

pub marked_entries : (table : DeadlinesValue) (circuit : ℕ) (marks : Option Marks) (state : Option OpenCircuitValue) → HasEntries table circuit state → HasEntries table circuit (with_marks marks state)
marked_entries table circuit marks state has = record { room = has.room; deadlines = marked_deadlines table (32 * circuit) marks state has.deadlines }

pub marked_later : (moment : ℕ) (marks : Option Marks) (state : Option OpenCircuitValue) → IsLater moment state → IsLater moment (with_marks marks state)
marked_later moment None state later = later
marked_later moment (Some marks) None later = later
marked_later moment (Some marks) (Some o) later = later

-- a slot's deadline after the save: what it was before the datagram, or until when the slot is held then
marked_held : (marks : Option Marks) (state : Option OpenCircuitValue) (s : ℕ) → held_in state s ≡ held_in (with_marks marks state) s
marked_held None state s = refl
marked_held (Some marks) None s = refl
marked_held (Some marks) (Some o) s = refl

pub answered_own : (part : CircuitPart) (prepared : Prepared) (saved : Result (Option Marks) Fault) (first : ℕ) (old middle new : DeadlinesValue) (state final : Option OpenCircuitValue) (result : Result (Unit {0}) Discard) (out : List ℕ)
    → IsSettled part prepared saved state final result out → UnchangedOrUntilHeld first old middle state → UnchangedOrUntilHeld first middle new final → HasDeadlines new first final → UnchangedOrUntilHeld first old new final
answered_own part prepared (Ok marks) first old middle new state final result out settled before after has = λ s below. by s (before s below) (after s below) where
  by : (s : ℕ) → (deadline middle (first + s) ≡ deadline old (first + s)) ⊎ (deadline middle (first + s) ≡ held_in state s) → (deadline new (first + s) ≡ deadline middle (first + s)) ⊎ (deadline new (first + s) ≡ held_in final s)
      → (deadline new (first + s) ≡ deadline old (first + s)) ⊎ (deadline new (first + s) ≡ held_in final s)
  by s was (inr held) = inr held
  by s (inl same) (inl still) = inl (still ∙ same)
  by s (inr held) (inl still) = inr (still ∙ held ∙ marked_held marks state s ∙ ap (λ (x : Option OpenCircuitValue). held_in x s) (sym settled.0))
answered_own part prepared (Err fault) first old middle new state final result out settled before after has = λ s below.
    inr (subst (HasDeadlines new first) settled.0 has s below ∙ ap (λ (x : Option OpenCircuitValue). held_in x s) (sym settled.0))

pub answered_entries : (part : CircuitPart) (prepared : Prepared) (saved : Result (Option Marks) Fault) (circuit : ℕ) (old middle new : DeadlinesValue) (state final : Option OpenCircuitValue) (result : Result (Unit {0}) Discard) (out : List ℕ)
    → IsSettled part prepared saved state final result out → KeepsEntries circuit old middle state → KeepsEntries circuit middle new final → KeepsEntries circuit old new final
answered_entries part prepared saved circuit old middle new state final result out settled before after = record {
  deadlines = after.deadlines;
  own = answered_own part prepared saved (32 * circuit) old middle new state final result out settled before.own after.own after.deadlines;
  others = record { size = after.others.size ∙ before.others.size; examined = after.others.examined ∙ before.others.examined; beside = λ n out. after.others.beside n out ∙ before.others.beside n out };
}
