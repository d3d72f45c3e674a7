-- A circuit that is open at the end was not closed by a save: where one failed, nothing had to be saved.
use Rattle.std.proofs.Common.{inl, inr, ◌≡◌, ◌∙◌, ◌&&◌, Bool, true, false, List, [], ◌∷◌, length, map, refl, sym, ap, arith}
use Rattle.std.specs.Prelude.{◌⊎◌, Option, Some, None, option_map, Err, if◌then◌else◌}
use Rattle.types.specs.Delivery.{DeliveryValue}
use Rattle.types.specs.declared.discard.Discard.TheVariants.{DiskFault}
use Rattle.config.specs.CircuitPart.{CircuitPart}
use Rattle.circuit_server.specs.Answered.{Answered, answered}
use Rattle.circuit_server.specs.Server.{Book, Served, book_at, served}
use Rattle.access_promises.specs.Alone.{answers_alone, book_alone}
use Rattle.access_promises.specs.Own.{Step, Receive, Tick}

abbrev pub unfailed : List Bool → List Bool
unfailed = map (λ fails. false)

pub same_unfailed : (f g : List Bool) → length f ≡ length g → unfailed f ≡ unfailed g
same_unfailed [] [] size = refl
same_unfailed [] (y ∷ g) size = absurd (omega (arith, size))
same_unfailed (x ∷ f) [] size = absurd (omega (arith, size))
same_unfailed (x ∷ f) (y ∷ g) size = ap (λ l. false ∷ l) (same_unfailed f g (omega (arith, size)))

closed_stays : (part : CircuitPart) (steps : List Step) (failed : List Bool) → book_alone part steps failed None ≡ None
closed_stays part [] failed = refl
closed_stays part (Tick now ∷ steps) failed = closed_stays part steps failed
closed_stays part (Receive d ∷ steps) [] = refl
closed_stays part (Receive d ∷ steps) (fails ∷ failed) = closed_stays part steps failed

abbrev saved : Served → Bool → Answered
saved done lost = if lost then record { answer = Err DiskFault; book = None } else record { answer = done.answer; book = Some done.book }

saved_or_closed : (done : Served) (kept : Bool) → ((saved done (kept && true)).book ≡ None) ⊎ (saved done (kept && true) ≡ saved done (kept && false))
saved_or_closed done true = inl refl
saved_or_closed done false = inr refl

answered_or_closed : (part : CircuitPart) (d : DeliveryValue) (fails : Bool) (b : Option Book) → ((answered part d fails b).book ≡ None) ⊎ (answered part d fails b ≡ answered part d false b)
answered_or_closed part d fails None = inr refl
answered_or_closed part d false (Some b) = inr refl
answered_or_closed part d true (Some b) = saved_or_closed (served part d b) (served part d b).is_kept

abbrev pub Same : CircuitPart → List Step → List Bool → Option Book → Type 0
Same part steps failed b = (answers_alone part steps failed b ≡ answers_alone part steps (unfailed failed) b) × (book_alone part steps failed b ≡ book_alone part steps (unfailed failed) b)

received_open : (part : CircuitPart) (d : DeliveryValue) (steps : List Step) (fails : Bool) (failed : List Bool) (b : Option Book) (e : Book) → book_alone part steps failed (answered part d fails b).book ≡ Some e
    → Same part steps failed (answered part d fails b).book → ((answered part d fails b).book ≡ None) ⊎ (answered part d fails b ≡ answered part d false b) → Same part (Receive d ∷ steps) (fails ∷ failed) b
received_open part d steps fails failed b e ends rest (inl closed) =
    let never : None ≡ Some e = sym (closed_stays part steps failed) ∙ (ap (book_alone part steps failed) (sym closed) ∙ ends) in absurd cc
received_open part d steps fails failed b e ends rest (inr same) = (
  ap (λ answers. (answered part d fails b).answer ∷ answers) rest.0 ∙ ap (λ (done : Answered). done.answer ∷ answers_alone part steps (unfailed failed) done.book) same,
  rest.1 ∙ ap (λ (done : Answered). book_alone part steps (unfailed failed) done.book) same,
)

pub open_at_the_end : (part : CircuitPart) (steps : List Step) (failed : List Bool) (b : Option Book) (e : Book) → book_alone part steps failed b ≡ Some e → Same part steps failed b
open_at_the_end part [] failed b e ends = (refl, refl)
open_at_the_end part (Tick now ∷ steps) failed b e ends = open_at_the_end part steps failed (option_map (book_at now) b) e ends
open_at_the_end part (Receive d ∷ steps) [] b e ends = (refl, refl)
open_at_the_end part (Receive d ∷ steps) (fails ∷ failed) b e ends =
    received_open part d steps fails failed b e ends (open_at_the_end part steps failed (answered part d fails b).book e ends) (answered_or_closed part d fails b)
