-- What comes of a datagram that was dropped, or decided, saved alone and settled.
use Rattle.std.proofs.Common.{◌≡◌, ◌∙◌, ◌==◌, ◌&&◌, not, ℕ, Bool, true, List, [], refl, sym, ap, subst}
use Rattle.std.specs.Prelude.{Option, None, Result, Ok, Err, IfSome}
use Rattle.types.specs.Delivery.{DeliveryValue}
use Rattle.types.specs.declared.discard.Discard.{Discard}
use Rattle.config.specs.CircuitPart.{CircuitPart}
use Rattle.lease_disk.specs.declared.device.Fault.{Fault}
use Rattle.lease_disk.specs.declared.marks.Marks.{Marks}
use Rattle.lease_disk.specs.Device.{Device, WritesAt, has_failed}
use Rattle.lease_disk.proofs.Frames.{touches_none}
use Rattle.circuit_server.specs.Answered.{Answered, IsAnswer, fails_at}
use Rattle.circuit_server.specs.Calls.{IsCalledToSaveAt}
use Rattle.circuit_server.specs.CircuitServerValue.{HasPools, IsReadyFor, OpenCircuitValue}
use Rattle.circuit_server.specs.Prepared.{IsDropped, IsPrepared, IsSavedAlone, IsSettled}
use Rattle.circuit_server.specs.Served.{IsServed}
use Rattle.circuit_server.specs.declared.prepared.Prepared.{Prepared}
use Rattle.circuit_server.proofs.AnswerLemmas.{fails_as, not_more, saves_so, writes_as}
use Rattle.circuit_server.proofs.CalledLemmas.{called_none}
use Rattle.circuit_server.proofs.PreparedLemmas.{alone_called, alone_cause, alone_fails, alone_here, alone_ok, alone_saved, alone_stays, alone_touches, came, case, not_not, settled}

pub dropped_served : (part : CircuitPart) (d : DeliveryValue) (old new : Option OpenCircuitValue) (why : Discard) (tells : Bool) (device : Device) (out : List ℕ) → IsDropped part d old new why → HasPools part new
    → (tells ≡ true → IsReadyFor (device.region part.region) old) → out ≡ [] → IsServed tells part d old new (Err why) out device device
dropped_served part d old new why tells device out dropped pools ready empty =
    let answers = dropped.answers (has_failed device device part.region) in
    record {
      pools = pools;
      answer = subst (λ (a : Answered). IsAnswer a.answer (Err why) out) (sym answers) (refl, empty);
      book = sym (ap (λ (a : Answered). a.book) answers);
      fails = λ told r. not_more (device.failures r) ∙ sym (ap (λ (saved : Option ℕ). fails_at device.failing_call saved r) dropped.saves);
      leases = λ told. dropped.leases (device.region part.region) (device.failing_call part.region);
      ready = λ told. dropped.ready (device.region part.region) (ready told);
      writes = subst (λ (saved : Option ℕ). WritesAt tells saved device device) (sym dropped.saves) refl;
      frame = touches_none tells part.region device;
      calls = subst (λ (saved : Option ℕ). IsCalledToSaveAt saved device device) (sym dropped.saves) (called_none device device refl);
    }

module _ (part : CircuitPart) (d : DeliveryValue) (old middle : Option OpenCircuitValue) (prepared : Prepared) (p : IsPrepared part d old middle prepared) (tells : Bool) (was later : Device) (saved : Result (Option Marks) Fault)
    (nothing : prepared.saving ≡ None → (saved ≡ Ok None) × (later ≡ was)) (some : IfSome prepared.saving (IsSavedAlone tells saved was later)) where
  pub settled_served : (final : Option OpenCircuitValue) (result : Result (Unit {0}) Discard) (out : List ℕ) → (tells ≡ true → IsReadyFor (was.region part.region) old) → HasPools part final
      → IsSettled part prepared saved middle final result out → IsServed tells part d old final result out was later
  settled_served final result out ready pools end =
      let own = case part d old middle prepared p in
      let here = alone_here part d old middle prepared p tells was later saved nothing some in
      let cause = alone_cause part d old middle prepared p tells was later saved nothing some in
      let touches = alone_touches part d old middle prepared p tells was later saved nothing some in
      let fails = λ (q : ℕ). alone_fails part d old middle prepared p tells was later saved nothing some q in
      let came_so = came part d old middle prepared p (has_failed was later part.region) saved final result out (not_not _ ∙ sym (ap not here)) (λ fails. cause (sym here ∙ fails)) end in
      let alone = λ (told : tells ≡ true). alone_saved part d old middle prepared p tells was later saved nothing some told in
      let by = λ (told : tells ≡ true). settled part d old middle prepared p (was.region part.region) (ready told) (was.failing_call part.region) (later.region part.region) saved final result out (alone told) end in
      record {
        pools = pools;
        answer = came_so.0;
        book = came_so.1;
        fails = λ told q. fails_as own was.failing_call q _ (fails q ∙ ap (λ b. part.region == q && b) (alone_ok part d old middle prepared p tells was later saved nothing some told));
        leases = λ told. (by told).0;
        ready = λ told. (by told).1;
        writes = writes_as own tells was later (alone_stays part d old middle prepared p tells was later saved nothing some) touches;
        frame = touches;
        calls = subst (λ (region : Option ℕ). IsCalledToSaveAt region was later) (sym (saves_so own)) (alone_called part d old middle prepared p tells was later saved nothing some);
      }
