-- What a clock leaves of the book that slots show.
use Rattle.std.proofs.Common.{◌≡◌, ℕ, ◌≤◌}
use Rattle.std.specs.Str.{bytes_eq}
use Rattle.slots.specs.KeyLaws.{key4_is_key}
use Rattle.slots.specs.Slots.{bound_to, offered_to, AreDistinct}
use Rattle.slots.proofs.ShownLemmas.{live_slots, bound_sort, offered_sort, live_leases, live_bars_of, later_clients, later_bars}
use Rattle.bindings_v4.specs.Book4.{Book4, book4_at}
use Rattle.bindings_v4.specs.Slots4.{Holders4, book_of_slots}

-- the book at a clock is the book of what is live
pub shown : (a t : ℕ) (ss : Holders4) → AreDistinct bytes_eq ss → book4_at t (book_of_slots a ss) ≡ book_of_slots a (live_slots t ss)
unfolding book4_at
shown a t ss d =
    λ i. record {
      bindings = live_leases key4_is_key bound_to (bound_sort key4_is_key) a t ss d i;
      offers = live_leases key4_is_key offered_to (offered_sort key4_is_key) a t ss d i;
      bars = live_bars_of a t ss i;
    }

-- The book at a later clock is what that clock leaves of the book before.
pub at_later : (t later : ℕ) → t ≤ later → (b : Book4) → book4_at later (book4_at t b) ≡ book4_at later b
unfolding book4_at
at_later t later h b =
    λ i. record {
      bindings = later_clients key4_is_key t later h b.bindings i;
      offers = later_clients key4_is_key t later h b.offers i;
      bars = later_bars t later h b.bars i;
    }
