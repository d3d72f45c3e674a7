-- What follows from what the server makes of the datagrams of a turn.
use Rattle.std.proofs.Common.{◌≡◌, ◌∙◌, ◌+◌, ◌≤◌, ℕ, zero, suc, Bool, true, false, List, [], ◌∷◌, ◌++◌, length, refl, sym, ap, ap₂, subst, arith}
use Rattle.std.specs.Prelude.{Option, Some, None, Result, Ok, Err, slice_get, slice_set}
use Rattle.types.specs.Delivery.{DeliveryValue}
use Rattle.types.specs.declared.discard.Discard.{Discard}
use Rattle.config.specs.CircuitPart.{CircuitPart}
use Rattle.config.specs.Topology.{Topology}
use Rattle.requests.specs.Addressee.{addressee}
use Rattle.circuit_server.specs.Answered.{answered}
use Rattle.circuit_server.specs.Server.{Book}
use Rattle.dispatch.specs.Answers.{circuit_at, circuit_in}
use Rattle.dispatch.specs.Batch.{IsBatch, circuits_of, is_circuit, is_named}
use Rattle.dispatch.specs.Received.{addressee_answered, circuit_answered}
use Rattle.dispatch.specs.ServerValue.{ServerValue, books_in}
use Rattle.dispatch.proofs.BatchLemmas.{circuit_is, first_there}
use Rattle.udp.specs.History.{Entry}
use Rattle.counts.specs.Tally.{CircuitFate, tallied_all}
use Rattle.counts.specs.declared.tally.Tally.{Tally}
use Rattle.sockets.specs.Sockets.{AreBound}
use Rattle.sockets.specs.declared.sockets.Sockets.{Sockets}
use Rattle.types.specs.declared.addr.Source.{Source}
use Rattle.dispatch.specs.Regions.{HasRegions}
use Rattle.access.specs.Access.{AccessValue, HasServed, IsAccess, StayClosed, serving_in}
use Rattle.access.specs.Batch.{AreReceived, AreReceivedAgain, AreReplied, HasTried, IsReceivedAgain, IsReplied, Serving, StaysServing, is_repeated, fate_at_server, serving}
use Rattle.access.specs.Polling.{deliveries_in}
use Rattle.access.proofs.CarryLemmas.{length_append, tallied_append}

-- ---- each datagram is counted once

-- something became of each of so many datagrams, and is counted
pub record HasTallied (count : ℕ) (old new : Tally) : Type 0 where
  pub outcomes : List CircuitFate
  pub many : length outcomes ≡ count
  pub after : new ≡ tallied_all outcomes old

pub tallied_then : (m n : ℕ) (a b c : Tally) → HasTallied m a b → HasTallied n b c → HasTallied (m + n) a c
tallied_then m n a b c first then = record {
  outcomes = first.outcomes ++ then.outcomes;
  many = length_append first.outcomes then.outcomes ∙ ap₂ (λ i j. i + j) first.many then.many;
  after = then.after ∙ (ap (tallied_all then.outcomes) first.after ∙ sym (tallied_append first.outcomes then.outcomes a));
}

abbrev one_if : Bool → ℕ
one_if true = 1
one_if false = 0

abbrev one_repeated : Option (Result (List ℕ) Discard) → ℕ
one_repeated (Some answer) = one_if (is_repeated answer)
one_repeated None = 0

module _ (taken : List DeliveryValue) (circuits : List (Option ℕ)) (answers : List (Result (List ℕ) Discard)) where
  -- how many of the first n answers are of repeated datagrams
  abbrev repeated : ℕ → ℕ
  repeated zero = 0
  repeated (suc n) = repeated n + one_repeated (slice_get answers n)

  one_replied : (b : Bool) (circuit : Option ℕ) (d : DeliveryValue) (answer : Result (List ℕ) Discard) (entries : List Entry) (outcomes : List CircuitFate) → IsReplied b circuit d answer entries outcomes → length outcomes + one_if b ≡ 1
  one_replied true circuit d answer entries outcomes replied = ap (λ (os : List CircuitFate). length os + 1) replied.1
  one_replied false circuit d answer entries outcomes replied = ap (λ (os : List CircuitFate). length os + 0) replied.1

  many_replied : (n : ℕ) (entries : List Entry) (outcomes : List CircuitFate) → AreReplied taken circuits answers n entries outcomes → length outcomes + repeated n ≡ n
  many_replied zero entries outcomes replied = ap (λ (os : List CircuitFate). length os + 0) replied.1
  many_replied (suc n) entries outcomes both =
      let before = many_replied n both.before both.done both.one in
      let last = both.other in
      let one : length both.more + one_repeated (slice_get answers n) ≡ 1 =
      ap (λ a. length both.more + one_repeated a) last.answered_at ∙ one_replied (is_repeated last.its_answer) (circuit_at circuits n) last.its_datagram last.its_answer both.after both.more last.replied in
      let all : length outcomes ≡ length both.done + length both.more = ap length both.outcomes_are ∙ length_append both.done both.more in
      omega (arith, before, one, all)

  one_again : (b : Bool) (d : DeliveryValue) (old new : Serving) → IsReceivedAgain b d old new → HasTallied (one_if b) old.tally new.tally
  one_again true d old new again = record { outcomes = fate_at_server (circuit_in (addressee old.server.topology d)) again.became ∷ []; many = refl; after = again.tally }
  one_again false d old new same = record { outcomes = []; many = refl; after = ap (λ (s : Serving). s.tally) same }

  many_again : (n : ℕ) (old new : Serving) → AreReceivedAgain taken answers n old new → HasTallied (repeated n) old.tally new.tally
  many_again zero old new same = record { outcomes = []; many = refl; after = ap (λ (s : Serving). s.tally) same }
  many_again (suc n) old new (middle, before, last) =
      let one = one_again (is_repeated last.its_answer) last.its_datagram middle new last.received in
      tallied_then (repeated n) (one_repeated (slice_get answers n)) old.tally middle.tally new.tally (many_again n old middle before)
      (subst (λ a. HasTallied (one_repeated a) middle.tally new.tally) (sym last.answered_at) one)

  all_tallied : (n : ℕ) (saved new : Serving) (tally : Tally) (history : List Entry) → HasTried (AreReplied taken circuits answers n) saved.tally tally saved.history history
      → AreReceivedAgain taken answers n (serving saved.server saved.disk tally history) new → HasTallied n saved.tally new.tally
  all_tallied n saved new tally history replied again =
      let first : HasTallied (length replied.outcomes) saved.tally tally = record { outcomes = replied.outcomes; many = refl; after = replied.tally } in
      subst (λ k. HasTallied k saved.tally new.tally) (many_replied n replied.entries replied.outcomes replied.tried)
      (tallied_then (length replied.outcomes) (repeated n) saved.tally tally new.tally first (many_again n _ new again))

same_tally : (taken : List DeliveryValue) (answers : List (Result (List ℕ) Discard)) (old new : Serving) → AreReceived taken answers old new → new.tally ≡ old.tally
same_tally [] answers old new same = ap (λ (s : Serving). s.tally) same
same_tally (d ∷ taken) answers old new received = ap (λ (s : Serving). s.tally) received.rest

pub served_tally : (now n : ℕ) (a b : AccessValue) → HasServed now n a b → HasTallied n a.tally b.tally
served_tally now n a b served =
    let taken = deliveries_in now served.entries in
    subst (λ tally. HasTallied n tally b.tally) (same_tally taken served.answers _ served.saved served.received)
    (all_tallied taken (circuits_of a.server.topology taken) served.answers n served.saved (serving_in b) served.tally served.history served.replied served.again)

-- ---- books

none_taken : (taken : List DeliveryValue) → length taken ≡ 0 → taken ≡ []
none_taken [] none = refl
none_taken (d ∷ taken) none = absurd (omega (arith, none))

-- where nothing was taken
pub idle_server : (now n : ℕ) (a b : AccessValue) → HasServed now n a b → n ≡ 0 → b.server ≡ a.server
idle_server now n a b served none =
    let taken = deliveries_in now served.entries in
    let empty = none_taken taken (sym served.many ∙ none) in
    let saved : served.saved ≡ serving a.server a.disk a.tally (a.history ++ served.entries) = subst (λ ds. AreReceived ds served.answers (serving a.server a.disk a.tally (a.history ++ served.entries)) served.saved) empty served.received in
    let again : serving_in b ≡ serving served.saved.server served.saved.disk served.tally served.history =
    subst (λ k. AreReceivedAgain taken served.answers k (serving served.saved.server served.saved.disk served.tally served.history) (serving_in b)) none served.again in
    ap (λ (s : Serving). s.server) again ∙ ap (λ (s : Serving). s.server) saved

set_closed : (books : List (Option Book)) (c at : ℕ) (book : Option Book) → slice_get books c ≡ Some None → (slice_get books at ≡ Some None → book ≡ None)
    → slice_get (slice_set books at book) c ≡ Some None
set_closed [] c at book closed stays = absurd cc
set_closed (b ∷ bs) zero zero book closed stays = ap Some (stays closed)
set_closed (b ∷ bs) zero (suc at) book closed stays = closed
set_closed (b ∷ bs) (suc c) zero book closed stays = closed
set_closed (b ∷ bs) (suc c) (suc at) book closed stays = set_closed bs c at book closed stays

answered_closed : (part : CircuitPart) (d : DeliveryValue) (fails : Bool) (book : Option Book) (found : Option (Option Book)) → found ≡ Some book → found ≡ Some None
    → (answered part d fails book).book ≡ None
answered_closed part d fails None found is closed = refl
answered_closed part d fails (Some b) found is closed = let never : Some (Some b) ≡ Some None = sym is ∙ closed in absurd cc

circuit_closed : (at : ℕ) (d : DeliveryValue) (fails : ℕ → Bool) (books : List (Option Book)) (part : Option CircuitPart) (book : Option (Option Book)) → slice_get books at ≡ book
    → (c : ℕ) → slice_get books c ≡ Some None → slice_get (circuit_answered at d fails books part book).books c ≡ Some None
circuit_closed at d fails books (Some part) (Some book) is c closed = set_closed books c at _ closed (answered_closed part d (fails part.region) book _ is)
circuit_closed at d fails books (Some part) None is c closed = closed
circuit_closed at d fails books None book is c closed = closed

addressee_closed : (topology : Topology) (d : DeliveryValue) (fails : ℕ → Bool) (books : List (Option Book)) (who : Result ℕ Discard)
    → (c : ℕ) → slice_get books c ≡ Some None → slice_get (addressee_answered topology d fails books who).books c ≡ Some None
addressee_closed topology d fails books (Err why) c closed = closed
addressee_closed topology d fails books (Ok at) c closed = circuit_closed at d fails books (slice_get topology.circuits at) (slice_get books at) refl c closed

-- of a closed circuit a batch leaves the book as it is
batch_closed : (topology : Topology) (taken : List DeliveryValue) (fails : ℕ → Bool) (old new : List (Option Book)) (answers : List (Result (List ℕ) Discard)) → IsBatch topology taken fails old new answers
    → (c : ℕ) → slice_get old c ≡ Some None → slice_get new c ≡ Some None
batch_closed topology taken fails old new answers batch c closed = by (is_named topology taken c) refl where
  by : (b : Bool) → is_named topology taken c ≡ b → slice_get new c ≡ Some None
  by false none = batch.others c none ∙ closed
  by true some =
      let one = first_there (λ d. is_circuit c (addressee topology d)) taken some in
      batch.books one.0 c one.1 one.2 (circuit_is c (addressee topology one.1) one.3) one.4 ∙ addressee_closed topology one.1 fails old (addressee topology one.1) c closed

received_closed : (taken : List DeliveryValue) (answers : List (Result (List ℕ) Discard)) (old new : Serving) → AreReceived taken answers old new → StayClosed old.server new.server
received_closed [] answers old new same c closed = subst (λ (s : Serving). slice_get (books_in s.server) c ≡ Some None) (sym same) closed
received_closed (d ∷ taken) answers old new received c closed = batch_closed old.server.topology (d ∷ taken) _ (books_in old.server) (books_in new.server) answers received.batch c closed

one_closed : (b : Bool) (d : DeliveryValue) (old new : Serving) → IsReceivedAgain b d old new → StayClosed old.server new.server
one_closed true d old new again c closed = subst (λ books. slice_get books c ≡ Some None) (sym again.books) (addressee_closed old.server.topology d _ (books_in old.server) (addressee old.server.topology d) c closed)
one_closed false d old new same c closed = subst (λ (s : Serving). slice_get (books_in s.server) c ≡ Some None) (sym same) closed

again_closed : (taken : List DeliveryValue) (answers : List (Result (List ℕ) Discard)) (n : ℕ) (old new : Serving) → AreReceivedAgain taken answers n old new → StayClosed old.server new.server
again_closed taken answers zero old new same c closed = subst (λ (s : Serving). slice_get (books_in s.server) c ≡ Some None) (sym same) closed
again_closed taken answers (suc n) old new (middle, before, last) c closed =
    one_closed (is_repeated last.its_answer) last.its_datagram middle new last.received c (again_closed taken answers n old middle before c closed)

pub served_closed : (now n : ℕ) (a b : AccessValue) → HasServed now n a b → StayClosed a.server b.server
served_closed now n a b served c closed =
    let taken = deliveries_in now served.entries in
    again_closed taken served.answers n _ (serving_in b) served.again c (received_closed taken served.answers _ served.saved served.received c closed)

-- ---- in the code

stays_then : (a b c : Serving) → StaysServing a b → StaysServing b c → StaysServing a c
stays_then a b c one other = record { topology = other.topology ∙ one.topology; regions = other.regions ∙ one.regions }

stays_same : (a b : Serving) → b ≡ a → StaysServing a b
stays_same a b same = record { topology = ap (λ (s : Serving). s.server.topology) same; regions = ap (λ (s : Serving). s.disk.regions) same }

pub received_stays : (taken : List DeliveryValue) (answers : List (Result (List ℕ) Discard)) (old new : Serving) → AreReceived taken answers old new → StaysServing old new
received_stays [] answers old new same = stays_same old new same
received_stays (d ∷ taken) answers old new received = received.stays

one_stays : (b : Bool) (d : DeliveryValue) (old new : Serving) → IsReceivedAgain b d old new → StaysServing old new
one_stays true d old new again = again.stays
one_stays false d old new same = stays_same old new same

again_stays : (taken : List DeliveryValue) (answers : List (Result (List ℕ) Discard)) (n : ℕ) (old new : Serving) → AreReceivedAgain taken answers n old new → StaysServing old new
again_stays taken answers zero old new same = stays_same old new same
again_stays taken answers (suc n) old new (middle, before, last) =
    stays_then old middle new (again_stays taken answers n old middle before) (one_stays (is_repeated last.its_answer) last.its_datagram middle new last.received)

pub all_stays : (taken later : List DeliveryValue) (answers : List (Result (List ℕ) Discard)) (n : ℕ) (old saved new : Serving) (tally : Tally) (history : List Entry) → AreReceived taken answers old saved
    → AreReceivedAgain later answers n (serving saved.server saved.disk tally history) new → StaysServing old new
all_stays taken later answers n old saved new tally history received again =
    let one = received_stays taken answers old saved received in
    let other = again_stays later answers n (serving saved.server saved.disk tally history) new again in
    record { topology = other.topology ∙ one.topology; regions = other.regions ∙ one.regions }

-- what an `Access` keeps
pub access_kept : (topology : Topology) (sockets : Sockets) (a b : ServerValue) (regions regions_after port most most_after history history_after : ℕ) (listen4 listen6 : Source) → IsAccess topology sockets a regions port most history listen4 listen6
    → b.topology ≡ a.topology → regions_after ≡ regions → most_after ≡ most → history_after ≡ history → IsAccess topology sockets b regions_after port most_after history_after listen4 listen6
access_kept topology sockets a b regions regions_after port most most_after history history_after listen4 listen6 is same count few log = (
  is.0,
  is.1,
  is.2,
  is.3,
  is.4,
  subst (λ r. HasRegions b.topology.circuits r) (sym count) (subst (λ (t : Topology). HasRegions t.circuits regions) (sym same) is.5),
  subst (λ h. AreBound topology port h sockets) (sym log) is.6,
  is.7,
  is.8,
  is.9,
  is.10,
  subst (λ k. k ≤ 16) (sym few) is.11,
)
