-- What a circuit answers to a message, by what its open circuit decides.
use Rattle.std.proofs.Common.{◌≡◌, ℕ, ◌+◌, ◌==◌, ◌&&◌, nat_lt, Bool, true, false, not, refl, sym, ap, ap₂, subst, ◌∙◌, Ok, Err, Result, is_ok, arith}
use Rattle.std.specs.Prelude.{List, Option, Some, None, IfErr, IfOk, if◌then◌else◌}
use Rattle.std.proofs.lemmas.Bool.{eq-eqb, lt-ltb, le-ltb}
use Rattle.types.specs.Delivery.{DeliveryValue}
use Rattle.types.specs.declared.dest.Proto.{Proto}
use Rattle.types.specs.declared.dest.Proto.TheVariants.{V4, V6}
use Rattle.types.specs.declared.discard.Discard.{Discard}
use Rattle.types.specs.declared.discard.Discard.TheVariants.{DiskFault}
use Rattle.v4_message.specs.Spelling.{MessageValue}
use Rattle.requests.specs.declared.relayed_message.RelayedMessage.TheVariants as relayed
use Rattle.requests.specs.RelayedMessage.{IsRelayedMessage}
use Rattle.requests.specs.Request4.{request4_in}
use Rattle.config.specs.CircuitPart.{CircuitPart}
use Rattle.lease_disk.specs.Device.{Device, Touches, WritesAt}
use Rattle.lease_disk.specs.Region.{Region, effective, faults_after}
use Rattle.circuit_server.specs.Leases.{Leases, after_datagram, formats_of, kept, restarts_of, restarts_after}
use Rattle.circuit_server.specs.Answered.{after_save, answered, circuit_saves, fails_at, saves}
use Rattle.circuit_server.specs.Server.{Book, Served, book_at, datagram_served, message4_served, request4_served, served}
use Rattle.circuit_server.specs.CircuitServerValue.{CircuitServerValue, OpenCircuitValue, server_book, leases_of, open_book}

-- ---- by whom a datagram is for

pub because_err : {T E : Type 0} (P : E → Type 0) (r : Result T E) (why : E) → r ≡ Err why → P why → IfErr r P
because_err P r why e holds = subst (λ x. IfErr x P) (sym e) holds

pub because_ok : {T E : Type 0} (P : E → Type 0) (r : Result T E) (x : T) → r ≡ Ok x → IfErr r P
because_ok P r x e = subst (λ y. IfErr y P) (sym e) tt

-- ---- what was read

-- what was read says which protocol the datagram has
pub by_message4 : (part : CircuitPart) (b : Book) (proto : Proto) (bytes : List ℕ) (m : MessageValue) → IsRelayedMessage proto bytes (relayed.V4 m)
    → datagram_served part proto bytes b ≡ request4_served part m b (request4_in m)
by_message4 part b V4 bytes m read = ap (message4_served part b) read
by_message4 part b V6 bytes m read = absurd read

pub served_alike : {T : Type 0} (one other : Served) (by : T → Served) (result : Result T Discard) → one ≡ other → IfOk result (λ made. other ≡ by made) → IfOk result (λ made. one ≡ by made)
served_alike one other by (Ok made) same is = same ∙ is
served_alike one other by (Err why) same is = is

-- ---- what is served

-- at the moment's book
pub asked : (part : CircuitPart) (d : DeliveryValue) (b later : Book) (done : Served) → later ≡ book_at d.moment b → datagram_served part d.proto d.bytes later ≡ done → served part d b ≡ done
unfolding served
asked part d b later done ticked is = ap (datagram_served part d.proto d.bytes) (sym ticked) ∙ is

-- ---- after the save

and_false : (x : Bool) → (x && false) ≡ false
and_false false = refl
and_false true = refl

and_true : (x : Bool) → (x && true) ≡ x
and_true false = refl
and_true true = refl

not_not : (x : Bool) → not (not x) ≡ x
not_not false = refl
not_not true = refl

pub not_more : (n : ℕ) → nat_lt n n ≡ false
not_more n = le-ltb n n (omega arith)

one_more : (n : ℕ) → nat_lt n (n + 1) ≡ true
one_more n = lt-ltb n (n + 1) (omega arith)

same_region : (r : ℕ) → (r == r) ≡ true
same_region r = eq-eqb r r refl

-- the device counts a failure exactly where a call fails, and of that call's region
counted_here : (r q before : ℕ) → (is_it : Bool) → (q == r) ≡ is_it → nat_lt before (if is_it then before + 1 else before) ≡ is_it
counted_here r q before true is = one_more before
counted_here r q before false is = not_more before

counted_each : {T E : Type 0} (result : Result T E) (r q : ℕ) (before after : ℕ → ℕ) → after ≡ faults_after r result before → nat_lt (before q) (after q) ≡ (q == r && not (is_ok result))
counted_each (Ok value) r q before after is = ap (λ (f : ℕ → ℕ). nat_lt (before q) (f q)) is ∙ (not_more (before q) ∙ sym (and_false (q == r)))
counted_each (Err fault) r q before after is = ap (λ (f : ℕ → ℕ). nat_lt (before q) (f q)) is ∙ (counted_here r q (before q) (q == r) refl ∙ sym (and_true (q == r)))

pub counted : {T E : Type 0} (result : Result T E) (r : ℕ) (before after : ℕ → ℕ) → after ≡ faults_after r result before → nat_lt (before r) (after r) ≡ not (is_ok result)
counted result r before after is = counted_each result r r before after is ∙ ap (λ b. b && not (is_ok result)) (same_region r)

pub save_held : (fails : Bool) (done : Served) → fails ≡ false → after_save fails done ≡ record { answer = done.answer; book = Some done.book }
save_held fails done held = rw held (rw (and_false done.is_kept) refl)

pub save_failed : (fails : Bool) (done : Served) → fails ≡ true → done.is_kept ≡ true → after_save fails done ≡ record { answer = Err DiskFault; book = None }
save_failed fails done failed is = rw failed (rw is refl)

-- whether a decision's save fails, by the failing_call of its region
abbrev pub save_fails : ℕ → Served → Bool
save_fails failing_call done = done.is_kept && not (effective 6 failing_call == 0)

fails_where : (failing_calls : ℕ → ℕ) (region q : ℕ) (is_kept : Bool) → (region == q && (is_kept && not (effective 6 (failing_calls region) == 0))) ≡ fails_at failing_calls (if is_kept then Some region else None) q
fails_where failing_calls region q true = refl
fails_where failing_calls region q false = and_false (region == q)

pub either_way : (r q : ℕ) → (q == r) ≡ (r == q)
either_way r q = by (q == r) (r == q) refl refl where
  by : (a b : Bool) → (q == r) ≡ a → (r == q) ≡ b → (q == r) ≡ (r == q)
  by true true one other = one ∙ sym other
  by false false one other = one ∙ sym other
  by true false one other = grind (arith, one, other)
  by false true one other = grind (arith, one, other)

-- whether the save fails, by the decision and the device
pub fails_by : {T E : Type 0} (result : Result T E) (r : ℕ) (before after : ℕ → ℕ) (x : Bool) → after ≡ faults_after r result before → is_ok result ≡ not x
    → (q : ℕ) → nat_lt (before q) (after q) ≡ (r == q && x)
fails_by result r before after x is ok q =
    counted_each result r q before after is ∙ ap₂ (λ a b. a && b) (either_way r q) (ap not ok ∙ not_not x)

-- nothing was called
pub none_fails : (r q n : ℕ) (x : Bool) → x ≡ false → nat_lt n n ≡ (r == q && x)
none_fails r q n x is = not_more n ∙ (sym (and_false (r == q)) ∙ ap (λ b. r == q && b) (sym is))

-- ---- the leases after it

abbrev left : CircuitPart → Region → Option Book → Leases
left part region book = record { book = book; restarts = restarts_of part region; is_new = formats_of region }

abbrev before : CircuitPart → (ℕ → Region) → Book → Leases
before part regions b = left part (regions part.region) (Some b)

module _ (part : CircuitPart) (regions later : ℕ → Region) (b : Book) (done : Served) (failing_call : ℕ) (ok : Bool) where
  leases_after : (is_kept : Bool) → done.is_kept ≡ is_kept
      → (is_kept ≡ true → restarts_of part (later part.region) ≡ restarts_after (effective 6 failing_call) done.book (restarts_of part (regions part.region)))
      → (is_kept ≡ false → later ≡ regions)
      → ok ≡ not (is_kept && not (effective 6 failing_call == 0))
      → formats_of (later part.region) ≡ formats_of (regions part.region)
      → left part (later part.region) (if ok then Some done.book else None) ≡ kept failing_call done (before part regions b)
  leases_after false is saves stays answer formats =
      rw is (rw answer (λ i. left part (stays refl i part.region) (Some done.book)))
  leases_after true is saves stays answer formats =
      rw is (rw (answer ∙ not_not (effective 6 failing_call == 0)) (λ i. record { book = if effective 6 failing_call == 0 then Some done.book else None; restarts = saves refl i; is_new = formats i }))

-- ---- what is written

writes_if : (tells is_kept : Bool) (region : ℕ) (old new : Device) → (is_kept ≡ false → new ≡ old) → Touches tells region old new
    → WritesAt tells (if is_kept then Some region else None) old new
writes_if tells true region old new stays touches = touches
writes_if tells false region old new stays touches = stays refl

-- ---- what the clauses say

-- an open circuit was asked, and served the datagram so
pub record WasAsked (s : CircuitServerValue) (d : DeliveryValue) (part : CircuitPart) (o : OpenCircuitValue) (done : Served) : Type 0 where
  pub was : s ≡ record { part = part; state = Some o }
  pub served_so : served part d (open_book o) ≡ done

module _ {s : CircuitServerValue} {d : DeliveryValue} {part : CircuitPart} {o : OpenCircuitValue} {done : Served} (case : WasAsked s d part o done) where
  pub as_served : (fails : Bool) → answered s.part d fails (server_book s) ≡ after_save fails done
  as_served fails = ap (λ v. answered v.part d fails (server_book v)) case.was ∙ ap (after_save fails) case.served_so

  pub held : (fails : Bool) → fails ≡ false → answered s.part d fails (server_book s) ≡ record { answer = done.answer; book = Some done.book }
  held fails saved = as_served fails ∙ save_held fails done saved

  pub failed : (fails : Bool) → fails ≡ true → done.is_kept ≡ true → answered s.part d fails (server_book s) ≡ record { answer = Err DiskFault; book = None }
  failed fails unsaved keeps = as_served fails ∙ save_failed fails done unsaved keeps

  -- what is saved, and where
  pub saves_so : circuit_saves d (Some s.part) (Some (server_book s)) ≡ saves part done
  saves_so = ap (λ v. circuit_saves d (Some v.part) (Some (server_book v))) case.was ∙ ap (saves part) case.served_so

  pub fails_as : (failing_calls : ℕ → ℕ) (q : ℕ) (fails : Bool) → fails ≡ (part.region == q && save_fails (failing_calls part.region) done) → fails ≡ fails_at failing_calls (circuit_saves d (Some s.part) (Some (server_book s))) q
  fails_as failing_calls q fails by_decision = by_decision ∙ fails_where failing_calls part.region q done.is_kept ∙ sym (ap (λ (saved : Option ℕ). fails_at failing_calls saved q) saves_so)

  pub writes_as : (tells : Bool) (old new : Device) → (done.is_kept ≡ false → new ≡ old) → Touches tells part.region old new
      → WritesAt tells (circuit_saves d (Some s.part) (Some (server_book s))) old new
  writes_as tells old new stays touches =
      subst (λ (region : Option ℕ). WritesAt tells region old new)
      (sym saves_so)
      (writes_if tells done.is_kept part.region old new stays touches)

  pub leases_as : (regions later : ℕ → Region) (failing_calls : ℕ → ℕ) (b : Book) (ok : Bool) → b ≡ done.book
      → (done.is_kept ≡ true → restarts_of part (later part.region) ≡ restarts_after (effective 6 (failing_calls part.region)) b (restarts_of part (regions part.region)))
      → (done.is_kept ≡ false → later ≡ regions)
      → ok ≡ not (save_fails (failing_calls part.region) done)
      → formats_of (later part.region) ≡ formats_of (regions part.region)
      → left part (later part.region) (if ok then Some b else None) ≡ after_datagram s.part d (failing_calls s.part.region) (leases_of regions s)
  leases_as regions later failing_calls b ok book saves stays answer formats =
      let K : Book → Type 0 = λ x. restarts_of part (later part.region) ≡ restarts_after (effective 6 (failing_calls part.region)) x (restarts_of part (regions part.region)) in
      ap (λ x. left part (later part.region) (if ok then Some x else None)) book
      ∙ leases_after part regions later (open_book o) done (failing_calls part.region) ok done.is_kept refl (λ keeps. subst K book (saves keeps)) stays answer formats
      ∙ ap (λ d. kept (failing_calls part.region) d (before part regions (open_book o))) (sym case.served_so)
      ∙ sym (ap (λ v. after_datagram v.part d (failing_calls v.part.region) (leases_of regions v)) case.was)
