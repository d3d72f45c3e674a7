-- What of a pool's slots a region keeps.
use Rattle.std.specs.Prelude.{ℕ, ◌-◌, ◌≤◌, Bool, false, List, ◌++◌, length, map, replicate, All, Option, Some, None}
use Rattle.types.specs.Slots.{last_until}
use Rattle.slots.specs.declared.holder.Holder.{Holder}
use Rattle.slots.specs.declared.holder.Holder.TheVariants.{Bound, Offered, Barred}
use Rattle.slots.specs.Lookup.{live}

module _ {K : Type 0} where
  -- a binding or a bar: offers are in memory only
  abbrev pub unoffered : Option (Holder K) → Option (Holder K)
  unoffered (Some (Offered key until)) = None
  unoffered slot = slot

  -- what is kept of a holder at a clock: a live binding or a live bar
  abbrev pub kept : ℕ → Option (Holder K) → Option (Holder K)
  kept clock holder = unoffered (live clock holder)

  -- what is kept of a pool's slots, 16 slots of a region: those past the pool are free
  abbrev pub kept_slots : ℕ → List (Option (Holder K)) → List (Option (Holder K))
  kept_slots clock slots = map (kept clock) slots ++ replicate (16 - length slots) None

  -- two bindings of one client
  abbrev pub same_client : (K → K → Bool) → Option (Holder K) → Option (Holder K) → Bool
  same_client eqk (Some (Bound a _)) (Some (Bound b _)) = eqk a b
  same_client eqk _ _ = false

  -- a binding or a bar that ends within the limit of what a region keeps
  abbrev pub IsWithin : Option (Holder K) → Type 0
  IsWithin None = Unit {0}
  IsWithin (Some (Bound key until)) = until ≤ last_until
  IsWithin (Some (Offered key until)) = Unit {0}
  IsWithin (Some (Barred until)) = until ≤ last_until

  abbrev pub AreWithin : List (Option (Holder K)) → Type 0
  AreWithin slots = All IsWithin slots

  -- an offer that ends within the same limit: it is in memory only, but the table of deadlines has its end too
  abbrev pub IsOfferedWithin : Option (Holder K) → Type 0
  IsOfferedWithin None = Unit {0}
  IsOfferedWithin (Some (Bound key until)) = Unit {0}
  IsOfferedWithin (Some (Offered key until)) = until ≤ last_until
  IsOfferedWithin (Some (Barred until)) = Unit {0}

  abbrev pub AreOffersWithin : List (Option (Holder K)) → Type 0
  AreOffersWithin slots = All IsOfferedWithin slots
