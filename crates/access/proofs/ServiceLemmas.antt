-- Passes and minutes one after the other, and circuits that are tried again.
use Rattle.std.proofs.Common.{inl, inr, ◌≡◌, ◌∙◌, ◌≢◌, ◌+◌, ◌≤◌, ◌<◌, ℕ, zero, suc, Bool, true, false, List, [], ◌∷◌, map, length, refl, sym, ap, subst, arith, Option, Some, None, is_some, option_map, slice_get}
use Rattle.std.proofs.lemmas.Bool.{leb-true}
use Rattle.std.proofs.lemmas.Option.{same_Some}
use Rattle.std.specs.Prelude.{leb}
use Rattle.std.specs.Prelude.{◌⊎◌, IfSome}
use Rattle.types.specs.declared.slots.Slots.{Slots}
use Rattle.config.specs.Topology.{Topology}
use Rattle.lease_disk.specs.Device.{IsCalledWithin}
use Rattle.lease_disk.specs.FileDisk.{device_of}
use Rattle.circuit_server.specs.Leases.{book_in}
use Rattle.circuit_server.specs.Server.{book_at}
use Rattle.dispatch.specs.Reopened.{IsReopened}
use Rattle.config.specs.CircuitPart.{CircuitPart}
use Rattle.circuit_server.specs.CircuitServerValue.{OpenCircuitValue, open_book, server_book}
use Rattle.circuit_server.specs.Ticked.{server_state}
use Rattle.dispatch.specs.ServerValue.{ServerValue, books_in, with_states}
use Rattle.access.specs.Access.{AccessValue, StaysSetUp}
use Rattle.access.specs.Pass.{HasMadePasses, HasPassedOnce}
use Rattle.access.specs.Service.{AreMinutes, HasKeptServing, HasReopened, IsFoundAgain, IsMinute, IsReopenedAlone, IsStretch, IsWatched, Watched, watched_once_more}

-- ---- what a watch is shown

pub watched_none : (now : ℕ) (w : Watched) → IsWatched 0 now w w
watched_none now w = record { all = omega arith; last = λ some. absurd (omega (arith, some)) }

pub watched_more : (n before now : ℕ) (old middle new : Watched) → IsWatched n before old middle → new ≡ watched_once_more now middle → IsWatched (n + 1) now old new
watched_more n before now old middle new was is =
    let count : new.rounds ≡ middle.rounds + 1 = ap (λ (w : Watched). w.rounds) is in
    let all = was.all in
    record { all = omega (arith, count, all); last = λ some. ap (λ (w : Watched). w.moment) is }

-- ---- passes

again : (before other now : ℕ) (old new : AccessValue) → HasPassedOnce before now old new → HasPassedOnce other now old new
again before other now old new p = record { read = p.read; count = p.count; reads = p.reads; rest = p.rest; pass = p.pass; few = p.few }

pub one_pass : (now : ℕ) (old new : AccessValue) → ((before : ℕ) → HasPassedOnce before now old new) → HasMadePasses 1 now old new
one_pass now old new once = (0, old, (refl, refl), once 0)

-- the passes of a stretch, which are those of its beginning and the others
joined : (m first last : ℕ) (old begun new : AccessValue) → HasMadePasses 1 first old begun → HasMadePasses m last begun new → (now : ℕ) × HasMadePasses (suc m) now old new
joined zero first last old begun new one (none, same) = (first, subst (λ (s : AccessValue). HasMadePasses 1 first old s) (sym same) one)
joined (suc m) first last old begun new one (before, middle, rest, once) =
    let (now, so_far) = joined m first before old begun middle one rest in
    (last, (now, middle, so_far, again before now last middle new once))

pub passes_of : (made first last : ℕ) (old new : AccessValue) → IsStretch made first last old new → (now : ℕ) × HasMadePasses made now old new
passes_of made first last old new stretch =
    let (now, passes) = joined stretch.more first last old stretch.begun new stretch.begins stretch.goes_on in
    let all = stretch.all in
    let same : suc stretch.more ≡ made = omega (arith, all) in
    (now, subst (λ k. HasMadePasses k now old new) same passes)

pub stretch_begins : (first : ℕ) (old new : AccessValue) → ((before : ℕ) → HasPassedOnce before first old new) → IsStretch 1 first 0 old new
stretch_begins first old new once = record { more = 0; begun = new; begins = one_pass first old new once; goes_on = (refl, refl); all = omega arith }

pub stretch_more : (made first last now : ℕ) (old middle new : AccessValue) → IsStretch made first last old middle → ((before : ℕ) → HasPassedOnce before now middle new) → IsStretch (made + 1) first now old new
stretch_more made first last now old middle new stretch once =
    let all = stretch.all in
    record { more = suc stretch.more; begun = stretch.begun; begins = stretch.begins; goes_on = (last, middle, stretch.goes_on, once last); all = omega (arith, all) }

-- ---- minutes

abbrev pub some_minutes : (passes : ℕ) (old new : AccessValue) → Type 0
some_minutes passes old new = (n : ℕ) × AreMinutes n passes old new

pub minutes_more : (before more : ℕ) (old middle new : AccessValue) → some_minutes before old middle → IsMinute more middle new → some_minutes (before + more) old new
minutes_more before more old middle new (n, are) minute = (suc n, (before, more, middle, are, minute, refl))

pub minute_of : (made first last : ℕ) (old served new : AccessValue) → IsStretch made first last old served → first + 60 ≤ last → HasReopened served new → IsMinute made old new
minute_of made first last old served new stretch minute reopened = record { first = first; last = last; served = served; passed = stretch; minute = minute; reopened = reopened }

pub kept_with_rest : (before more now : ℕ) (old middle new : AccessValue) → some_minutes before old middle → HasMadePasses more now middle new → HasKeptServing (before + more) old new
kept_with_rest before more now old middle new (n, are) rest = record { minutes = n; before = before; middle = middle; are = are; more = more; now = now; rest = rest; all = refl }

pub kept_without : (before : ℕ) (old new : AccessValue) → some_minutes before old new → HasKeptServing before old new
kept_without before old new (n, are) = record { minutes = n; before = before; middle = new; are = are; more = 0; now = 0; rest = (refl, refl); all = omega arith }

pub no_minutes : (s : AccessValue) → some_minutes 0 s s
no_minutes s = (0, (refl, refl))

-- ---- set-up

pub set_up_same : (s : AccessValue) → StaysSetUp s s
set_up_same s = record { topology = refl; served = refl; regions = refl; formats = refl; port = refl; batch = refl }

pub set_up_reopened : (old new : AccessValue) → HasReopened old new → StaysSetUp old new
set_up_reopened old new r = record {
  topology = ap (λ (s : AccessValue). s.topology) r.rest;
  served = r.served;
  regions = r.regions;
  formats = ap (λ (s : AccessValue). s.formats) r.rest;
  port = ap (λ (s : AccessValue). s.port) r.rest;
  batch = ap (λ (s : AccessValue). s.batch) r.rest;
}

-- ---- a circuit by its state

book_at_index : (parts : List CircuitPart) (states : List (Option OpenCircuitValue)) (c : ℕ) → c < length parts
    → slice_get (map is_some (map server_book (with_states parts states))) c ≡ Some (is_some (option_map open_book (server_state states c)))
book_at_index [] states c within = absurd (omega (arith, within))
book_at_index (p ∷ parts) [] zero within = refl
book_at_index (p ∷ parts) (state ∷ states) zero within = refl
book_at_index (p ∷ parts) [] (suc c) within = book_at_index parts [] c (omega (arith, within))
book_at_index (p ∷ parts) (state ∷ states) (suc c) within = book_at_index parts states c (omega (arith, within))

-- whether a circuit is open, by its state
pub open_if : (s : ServerValue) (c : ℕ) (o : OpenCircuitValue) → c < length s.topology.circuits → server_state s.states c ≡ Some o → slice_get (map is_some (books_in s)) c ≡ Some true
open_if s c o within is = book_at_index s.topology.circuits s.states c within ∙ ap (λ (x : Option OpenCircuitValue). Some (is_some (option_map open_book x))) is

pub closed_if : (s : ServerValue) (c : ℕ) → c < length s.topology.circuits → server_state s.states c ≡ None → slice_get (map is_some (books_in s)) c ≡ Some false
closed_if s c within is = book_at_index s.topology.circuits s.states c within ∙ ap (λ (x : Option OpenCircuitValue). Some (is_some (option_map open_book x))) is

pub within_of : (c : ℕ) (a b : AccessValue) → a ≡ b → c < length b.server.topology.circuits → c < length a.server.topology.circuits
within_of c a b same within = subst (λ (s : AccessValue). c < length s.server.topology.circuits) (sym same) within

same_state : (xs ys : List (Option OpenCircuitValue)) (c : ℕ) → slice_get xs c ≡ slice_get ys c → server_state xs c ≡ server_state ys c
same_state [] [] c same = refl
same_state [] (y ∷ ys) zero same = absurd cc
same_state (x ∷ xs) [] zero same = absurd cc
same_state [] (y ∷ ys) (suc c) same = same_state [] ys c same
same_state (x ∷ xs) [] (suc c) same = same_state xs [] c same
same_state (x ∷ xs) (y ∷ ys) zero same = same_Some x y same
same_state (x ∷ xs) (y ∷ ys) (suc c) same = same_state xs ys c same

-- ---- circuits one after the other

-- The circuits up to this one were tried again if they were closed, and the others are as they were.
pub record HasReopenedTo (i : ℕ) (old new : AccessValue) : Type 0 where
  pub kept : (c : ℕ) (o : OpenCircuitValue) → server_state old.server.states c ≡ Some o → server_state new.server.states c ≡ Some o
  pub ahead : (c : ℕ) → i ≤ c → server_state new.server.states c ≡ server_state old.server.states c
  pub found : (c : ℕ) (part : CircuitPart) → c < i → slice_get old.server.topology.circuits c ≡ Some part
      → server_state old.server.states c ≡ None → IsFoundAgain part (server_state new.server.states c)
  pub tried : (c : ℕ) → c < i → server_state old.server.states c ≡ None → old.disk.reads + 1 ≤ new.disk.reads
  pub grows : old.disk.reads ≤ new.disk.reads
  pub served : new.server.topology ≡ old.server.topology
  pub regions : new.disk.regions ≡ old.disk.regions
  pub rest : new ≡ record old { server = new.server; disk = new.disk }

pub none_reopened : (s : AccessValue) → HasReopenedTo 0 s s
none_reopened s = record {
  kept = λ c o is. is;
  ahead = λ c past. refl;
  found = λ c part before there is. absurd (omega (arith, before));
  tried = λ c before is. absurd (omega (arith, before));
  grows = omega arith;
  served = refl;
  regions = refl;
  rest = refl;
}

some_is_not_none : {X : Type 0} (x : X) → Some x ≡ None → ⊥
some_is_not_none x same = cc

-- before the next index, or at this one
split : (c i : ℕ) → c < i + 1 → (c < i) ⊎ (c ≡ i)
split zero zero before = inr refl
split zero (suc i) before = inl (omega arith)
split (suc c) zero before = absurd (omega (arith, before))
split (suc c) (suc i) before = further (split c i (omega (arith, before))) where
  further : (c < i) ⊎ (c ≡ i) → (suc c < suc i) ⊎ (suc c ≡ suc i)
  further (inl less) = inl (omega (arith, less))
  further (inr same) = inr (ap suc same)

-- an open circuit stays as it is
open_stays : (i : ℕ) (o : OpenCircuitValue) (old middle : AccessValue) → HasReopenedTo i old middle → server_state middle.server.states i ≡ Some o → HasReopenedTo (i + 1) old middle
open_stays i o old middle so_far is = record {
  kept = so_far.kept;
  ahead = λ c past. so_far.ahead c (omega (arith, past));
  found = λ c part before there none. found_at c part there none (split c i before);
  tried = λ c before none. tried_at c none (split c i before);
  grows = so_far.grows;
  served = so_far.served;
  regions = so_far.regions;
  rest = so_far.rest;
} where
  was : server_state old.server.states i ≡ Some o
  was = sym (so_far.ahead i (omega arith)) ∙ is

  not_closed : (c : ℕ) → c ≡ i → server_state old.server.states c ≡ None → ⊥
  not_closed c at none = some_is_not_none o (sym was ∙ ap (λ k. server_state old.server.states k) (sym at) ∙ none)

  found_at : (c : ℕ) (part : CircuitPart) → slice_get old.server.topology.circuits c ≡ Some part → server_state old.server.states c ≡ None → (c < i) ⊎ (c ≡ i) → IsFoundAgain part (server_state middle.server.states c)
  found_at c part there none (inl less) = so_far.found c part less there none
  found_at c part there none (inr at) = absurd (not_closed c at none)

  tried_at : (c : ℕ) → server_state old.server.states c ≡ None → (c < i) ⊎ (c ≡ i) → old.disk.reads + 1 ≤ middle.disk.reads
  tried_at c none (inl less) = so_far.tried c less none
  tried_at c none (inr at) = absurd (not_closed c at none)

-- what a circuit that was opened again has
found_of : (c : ℕ) (part : CircuitPart) (old new : AccessValue) → slice_get old.server.topology.circuits c ≡ Some part → IsReopenedAlone c old new → IsFoundAgain part (server_state new.server.states c)
found_of c part old new there r =
    let its : IfSome (Some part) (λ p. IsReopened false c p new.server (device_of old.disk) (device_of new.disk)) = subst (λ x. IfSome x (λ p. IsReopened false c p new.server (device_of old.disk) (device_of new.disk))) there r.reopened in
    found_in (server_state new.server.states c) its.moment its.found where
      found_in : (state : Option OpenCircuitValue) (moment : ℕ) → IfSome state (λ o. (slots : Slots) × (open_book o ≡ book_at moment (book_in part slots))) → IsFoundAgain part state
      found_in None moment found = tt
      found_in (Some o) moment (slots, is) = (moment, slots, is)

calls_of : (c : ℕ) (part : CircuitPart) (old new : AccessValue) → slice_get old.server.topology.circuits c ≡ Some part → IsReopenedAlone c old new → old.disk.reads + 1 ≤ new.disk.reads
calls_of c part old new there r =
    let calls : IsCalledWithin 1 5 4 (device_of old.disk) (device_of new.disk) = subst (λ x. IfSome x (λ p. IsCalledWithin 1 5 4 (device_of old.disk) (device_of new.disk))) there r.calls in
    calls.least

-- a closed circuit is tried again
closed_reopens : (i : ℕ) (part : CircuitPart) (old middle new : AccessValue) → HasReopenedTo i old middle → slice_get middle.server.topology.circuits i ≡ Some part → server_state middle.server.states i ≡ None
    → IsReopenedAlone i middle new → HasReopenedTo (i + 1) old new
closed_reopens i part old middle new so_far here is r = record {
  kept = λ c o was. stays c (kept_not_here c o was) ∙ so_far.kept c o was;
  ahead = λ c past. stays c (λ at. absurd (omega (arith, past, at))) ∙ so_far.ahead c (omega (arith, past));
  found = λ c p before there none. found_at c p there none (split c i before);
  tried = λ c before none. more;
  grows = (let before = so_far.grows in omega (arith, before, one));
  served = r.served ∙ so_far.served;
  regions = r.regions ∙ so_far.regions;
  rest = r.rest ∙ ap (λ (s : AccessValue). record s { server = new.server; disk = new.disk }) so_far.rest;
} where
  one : middle.disk.reads + 1 ≤ new.disk.reads
  one = calls_of i part middle new here r

  more : old.disk.reads + 1 ≤ new.disk.reads
  more = let before = so_far.grows in omega (arith, before, one)

  stays : (c : ℕ) → c ≢ i → server_state new.server.states c ≡ server_state middle.server.states c
  stays c other = same_state new.server.states middle.server.states c (r.others.states c other)

  kept_not_here : (c : ℕ) (o : OpenCircuitValue) → server_state old.server.states c ≡ Some o → c ≢ i
  kept_not_here c o was at = some_is_not_none o (sym (so_far.kept c o was) ∙ ap (λ k. server_state middle.server.states k) at ∙ is)

  found_at : (c : ℕ) (p : CircuitPart) → slice_get old.server.topology.circuits c ≡ Some p → server_state old.server.states c ≡ None → (c < i) ⊎ (c ≡ i) → IsFoundAgain p (server_state new.server.states c)
  found_at c p there none (inl less) =
      subst (IsFoundAgain p) (sym (stays c (λ at. absurd (omega (arith, less, at))))) (so_far.found c p less there none)
  found_at c p there none (inr at) =
      let its : slice_get middle.server.topology.circuits i ≡ Some p = ap (λ k. slice_get middle.server.topology.circuits k) (sym at) ∙ ap (λ (t : Topology). slice_get t.circuits c) so_far.served ∙ there in
      subst (λ k. IsFoundAgain p (server_state new.server.states k)) (sym at) (found_of i p middle new its r)

-- one circuit more, open or closed
pub reopened_more : (i : ℕ) (part : CircuitPart) (old middle new : AccessValue) → HasReopenedTo i old middle → slice_get middle.server.topology.circuits i ≡ Some part
    → ((o : OpenCircuitValue) → server_state middle.server.states i ≡ Some o → new ≡ middle) → (server_state middle.server.states i ≡ None → IsReopenedAlone i middle new) → HasReopenedTo (i + 1) old new
reopened_more i part old middle new so_far here if_open if_closed = by_state (server_state middle.server.states i) refl where
  by_state : (state : Option OpenCircuitValue) → server_state middle.server.states i ≡ state → HasReopenedTo (i + 1) old new
  by_state (Some o) is = subst (λ (s : AccessValue). HasReopenedTo (i + 1) old s) (sym (if_open o is)) (open_stays i o old middle so_far is)
  by_state None is = closed_reopens i part old middle new so_far here is (if_closed is)

-- once all circuits were come to, or 1024 of them
pub all_reopened : (i : ℕ) (old new : AccessValue) → ((c : ℕ) (part : CircuitPart) → c < 1024 → slice_get old.server.topology.circuits c ≡ Some part → c < i) → HasReopenedTo i old new → HasReopened old new
all_reopened i old new all so_far = record {
  kept = so_far.kept;
  found = λ c part less there none. so_far.found c part (all c part less there) there none;
  tried = λ c part less there none. so_far.tried c (all c part less there) none;
  served = so_far.served;
  regions = so_far.regions;
  rest = so_far.rest;
}

pub element_at : {X : Type 0} (xs : List X) (i : ℕ) → i < length xs → (x : X) × (slice_get xs i ≡ Some x)
element_at [] i within = absurd (omega (arith, within))
element_at (x ∷ xs) zero within = (x, refl)
element_at (x ∷ xs) (suc i) within = element_at xs i (omega (arith, within))

pub within_circuits : {X : Type 0} (xs : List X) (c : ℕ) (x : X) → slice_get xs c ≡ Some x → c < length xs
within_circuits [] c x there = absurd cc
within_circuits (y ∷ ys) zero x there = omega arith
within_circuits (y ∷ ys) (suc c) x there = let more = within_circuits ys c x there in omega (arith, more)

-- ---- a minute's end

pub watched_count : (now : ℕ) (old new : Watched) → new ≡ watched_once_more now old → new.rounds ≡ old.rounds + 1
watched_count now old new is = ap (λ (w : Watched). w.rounds) is

pub full_if : (a b first now : ℕ) → a ≡ first → b ≡ now → leb (a + 60) b ≡ true → first + 60 ≤ now
full_if a b first now is_first is_now full =
    let less : a + 60 ≤ b = leb-true (a + 60) b full in
    omega (arith, less, is_first, is_now)
