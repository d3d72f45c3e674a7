-- Ticks that the next step makes up for: without them a circuit gives the same answers and has the same book.
use Rattle.std.proofs.Common.{◌≡◌, ◌∙◌, ℕ, ◌≤◌, max, Bool, true, false, List, [], ◌∷◌, length, refl, sym, ap, arith}
use Rattle.std.specs.Prelude.{Option, Some, None, option_map, if◌then◌else◌}
use Rattle.std.specs.List.{filter_map}
use Rattle.std.proofs.lemmas.Bool.{leb-true}
use Rattle.types.specs.Delivery.{DeliveryValue}
use Rattle.bindings_v4.specs.Book4.{book4_at}
use Rattle.bindings_v4.proofs.ShownLemmas.{at_later as at_later4}
use Rattle.bindings_v6.specs.Book6.{book6_at}
use Rattle.bindings_v6.proofs.ShownLemmas.{at_later as at_later6}
use Rattle.config.specs.CircuitPart.{CircuitPart}
use Rattle.circuit_server.specs.Answered.{Answered, after_save, answered}
use Rattle.circuit_server.specs.Server.{Book, book_at, datagram_served, served}
use Rattle.access_promises.specs.Alone.{answers_alone, book_alone}
use Rattle.access_promises.specs.Exchanges.{received_by}
use Rattle.access_promises.specs.Own.{Step, Receive, Tick, reaches, without_idle_ticks}

-- ---- the book

module _ (now later : ℕ) (order : now ≤ later) where
  module _ (clock : ℕ) where
    same_clock : max (max clock now) later ≡ max clock later
    same_clock = omega (arith, order)

    is_later : max clock now ≤ max clock later
    is_later = omega (arith, order)

  book_later : (b : Book) → book_at later (book_at now b) ≡ book_at later b
  book_later b =
      let same = same_clock b.clock in
      let four = ap (λ clock. book4_at clock (book4_at (max b.clock now) b.four)) same ∙ at_later4 (max b.clock now) (max b.clock later) (is_later b.clock) b.four in
      let six = ap (λ clock. book6_at clock (book6_at (max b.clock now) b.six)) same ∙ at_later6 (max b.clock now) (max b.clock later) (is_later b.clock) b.six in
      λ i. record { clock = same i; four = four i; six = six i }

  option_later : (b : Option Book) → option_map (book_at later) (option_map (book_at now) b) ≡ option_map (book_at later) b
  option_later None = refl
  option_later (Some b) = ap Some (book_later b)

served_later : (part : CircuitPart) (now : ℕ) (d : DeliveryValue) → now ≤ d.moment → (b : Book) → served part d (book_at now b) ≡ served part d b
unfolding served
served_later part now d order b = ap (datagram_served part d.proto d.bytes) (book_later now d.moment order b)

answered_later : (part : CircuitPart) (now : ℕ) (d : DeliveryValue) (fails : Bool) → now ≤ d.moment → (b : Option Book) → answered part d fails (option_map (book_at now) b) ≡ answered part d fails b
answered_later part now d fails order None = refl
answered_later part now d fails order (Some b) = ap (after_save fails) (served_later part now d order b)

-- ---- its steps

-- for each of its datagrams it is said whether its save failed
abbrev pub IsForEach : List Bool → List Step → Type 0
IsForEach failed steps = length failed ≡ length (filter_map received_by steps)

abbrev pub AlikeFrom : CircuitPart → List Bool → List Step → Option Book → List Step → Option Book → Type 0
AlikeFrom part failed steps b others c = (answers_alone part steps failed b ≡ answers_alone part others failed c) × (book_alone part steps failed b ≡ book_alone part others failed c)

-- the next step moves the clock
moved_anyway : (part : CircuitPart) (now : ℕ) (steps : List Step) (failed : List Bool) (b : Option Book) → IsForEach failed steps → reaches now steps ≡ true
    → AlikeFrom part failed steps b steps (option_map (book_at now) b)
moved_anyway part now [] failed b size reached = absurd cc
moved_anyway part now (Tick later ∷ steps) failed b size reached =
    let same = sym (option_later now later (leb-true now later reached) b) in (ap (answers_alone part steps failed) same, ap (book_alone part steps failed) same)
moved_anyway part now (Receive d ∷ steps) [] b size reached = absurd (omega (arith, size))
moved_anyway part now (Receive d ∷ steps) (fails ∷ failed) b size reached =
    let same = sym (answered_later part now d fails (leb-true now d.moment reached) b) in
    (ap (λ (done : Answered). done.answer ∷ answers_alone part steps failed done.book) same, ap (λ (done : Answered). book_alone part steps failed done.book) same)

-- one tick, where the steps after it are as they are without idle ticks
one_tick : (part : CircuitPart) (now : ℕ) (steps : List Step) (failed : List Bool) (b : Option Book) → IsForEach failed steps → (idle : Bool) → reaches now steps ≡ idle
    → ((book : Option Book) → AlikeFrom part failed (without_idle_ticks steps) book steps book)
    → AlikeFrom part failed (if idle then without_idle_ticks steps else Tick now ∷ without_idle_ticks steps) b (Tick now ∷ steps) b
one_tick part now steps failed b size false reached rest = rest (option_map (book_at now) b)
one_tick part now steps failed b size true reached rest =
    let alike = rest b in
    let anyway = moved_anyway part now steps failed b size reached in (alike.0 ∙ anyway.0, alike.1 ∙ anyway.1)

pub without_ticks : (part : CircuitPart) (steps : List Step) (failed : List Bool) (b : Option Book) → IsForEach failed steps → AlikeFrom part failed (without_idle_ticks steps) b steps b
without_ticks part [] failed b size = (refl, refl)
without_ticks part (Receive d ∷ steps) [] b size = absurd (omega (arith, size))
without_ticks part (Receive d ∷ steps) (fails ∷ failed) b size =
    let rest = without_ticks part steps failed (answered part d fails b).book (omega (arith, size)) in (ap (λ answers. (answered part d fails b).answer ∷ answers) rest.0, rest.1)
without_ticks part (Tick now ∷ steps) failed b size =
    one_tick part now steps failed b size (reaches now steps) refl (λ book. without_ticks part steps failed book size)

-- ---- its datagrams

-- a tick is no datagram, whether it is left out or not
no_datagram : (now : ℕ) (steps others : List Step) (idle : Bool) → filter_map received_by steps ≡ filter_map received_by others
    → filter_map received_by (if idle then steps else Tick now ∷ steps) ≡ filter_map received_by others
no_datagram now steps others true same = same
no_datagram now steps others false same = same

pub same_received : (steps : List Step) → filter_map received_by (without_idle_ticks steps) ≡ filter_map received_by steps
same_received [] = refl
same_received (Receive d ∷ steps) = ap (λ (ds : List DeliveryValue). d ∷ ds) (same_received steps)
same_received (Tick now ∷ steps) = no_datagram now (without_idle_ticks steps) steps (reaches now steps) (same_received steps)
