-- What a tick leaves of the books.
use Rattle.std.proofs.Common.{◌≡◌, ◌≤◌, ℕ, zero, suc, max, List, [], ◌∷◌, map, drop, get_or, refl, ap, ap₂, subst, arith}
use Rattle.std.specs.Prelude.{Option, Some, None, option_map, slice_get}
use Rattle.std.proofs.lemmas.Option.{same_Some}
use Rattle.circuit_server.specs.Leases.{Leases, after_tick}
use Rattle.circuit_server.specs.Server.{Book, book_at}
use Rattle.circuit_server.specs.CircuitServerValue.{CircuitServerValue, server_book, leases_of}
use Rattle.lease_disk.specs.Region.{Region}
use Rattle.access.specs.Access.{books_at}

-- by the leases after a tick, the books after it
pub ticked : (regions : ℕ → Region) (now : ℕ) (after before : List CircuitServerValue)
    → map (leases_of regions) after ≡ map (after_tick now) (map (leases_of regions) before) → map server_book after ≡ books_at now (map server_book before)
ticked regions now [] [] same = refl
ticked regions now [] (b ∷ bs) same = absurd cc
ticked regions now (a ∷ rest) [] same = absurd cc
ticked regions now (a ∷ rest) (b ∷ bs) same =
    ap₂ (λ x xs. x ∷ xs) (ap (λ (leases : List Leases). (get_or leases 0 (leases_of regions a)).book) same) (ticked regions now rest bs (ap (drop 1) same))

-- no clock is before the moment of the tick
of_book : (now : ℕ) (before : Option Book) (book : Book) → option_map (book_at now) before ≡ Some book → now ≤ book.clock
of_book now None book same = absurd cc
of_book now (Some b) book same =
    let reached : now ≤ max b.clock now = omega arith in
    let is : book_at now b ≡ book = same_Some (book_at now b) book same in
    subst (λ (after : Book). now ≤ after.clock) is reached

pub reached : (now : ℕ) (before : List (Option Book)) (c : ℕ) (book : Book) → slice_get (books_at now before) c ≡ Some (Some book) → now ≤ book.clock
reached now [] c book found = absurd cc
reached now (b ∷ bs) zero book found = of_book now b book (same_Some (option_map (book_at now) b) (Some book) found)
reached now (b ∷ bs) (suc c) book found = reached now bs c book found

-- a closed circuit stays closed
pub ticked_closed : (now : ℕ) (before : List (Option Book)) (c : ℕ) → slice_get before c ≡ Some None → slice_get (books_at now before) c ≡ Some None
ticked_closed now [] c closed = absurd cc
ticked_closed now (None ∷ bs) zero closed = refl
ticked_closed now (Some b ∷ bs) zero closed = absurd cc
ticked_closed now (b ∷ bs) (suc c) closed = ticked_closed now bs c closed
