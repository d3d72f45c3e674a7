-- What a clock leaves of the book that slots show.
use Rattle.std.proofs.Common.{◌≡◌, ℕ, ◌≤◌}
use Rattle.slots.specs.KeyLaws.{key6_is_key}
use Rattle.slots.specs.Slots.{bound_to, AreDistinct}
use Rattle.slots.proofs.ShownLemmas.{live_slots, bound_sort, live_leases, live_bars_of, later_clients, later_bars}
use Rattle.types.specs.Key6.{same_key6}
use Rattle.bindings_v6.specs.Book6.{Book6, book6_at}
use Rattle.bindings_v6.specs.Slots6.{Holders6, book_of_slots}

-- the book at a clock is the book of what is live
pub shown : (a t : ℕ) (ss : Holders6) → AreDistinct same_key6 ss → book6_at t (book_of_slots a ss) ≡ book_of_slots a (live_slots t ss)
unfolding book6_at
shown a t ss d = λ i. record { bindings = live_leases key6_is_key bound_to (bound_sort key6_is_key) a t ss d i; bars = live_bars_of a t ss i }

-- The book at a later clock is what that clock leaves of the book before.
pub at_later : (t later : ℕ) → t ≤ later → (b : Book6) → book6_at later (book6_at t b) ≡ book6_at later b
unfolding book6_at
at_later t later h b = λ i. record { bindings = later_clients key6_is_key t later h b.bindings i; bars = later_bars t later h b.bars i }
