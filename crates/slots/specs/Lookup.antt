-- How slots are looked up at a clock.
use Rattle.std.specs.Prelude.{ℕ, ◌-◌, slice_index_or, not, Bool, true, false, List, Option, Some, None, if◌then◌else◌}
use Rattle.std.specs.List.{position}
use Rattle.std.specs.Option.{option_or}
use Rattle.slots.specs.declared.holder.Holder.{Holder}
use Rattle.slots.specs.declared.holder.Holder.TheVariants.{Bound, Offered, Barred}
use Rattle.slots.specs.Maps.{is_live, in_range}

-- the slot of an address of a pool; the first slot has the address `first`
abbrev pub slot_in : ℕ → ℕ → Option ℕ → Option ℕ
slot_in first count None = None
slot_in first count (Some address) = if in_range first count address then Some (address - first) else None

module _ {K : Type 0} where
  abbrev pub until_of : Holder K → ℕ
  until_of (Bound key until) = until
  until_of (Offered key until) = until
  until_of (Barred until) = until

  -- the holder, where it is live
  abbrev pub live : ℕ → Option (Holder K) → Option (Holder K)
  live clock None = None
  live clock (Some holder) = if is_live clock (until_of holder) then Some holder else None

  abbrev pub is_vacant : ℕ → Option (Holder K) → Bool
  is_vacant clock None = true
  is_vacant clock (Some holder) = not (is_live clock (until_of holder))

  abbrev pub is_bound_to : (K → K → Bool) → ℕ → K → Option (Holder K) → Bool
  is_bound_to eqk clock client None = false
  is_bound_to eqk clock client (Some (Bound key until)) = if is_live clock until then eqk client key else false
  is_bound_to eqk clock client (Some (Offered key until)) = false
  is_bound_to eqk clock client (Some (Barred until)) = false

  abbrev pub is_offered_to : (K → K → Bool) → ℕ → K → Option (Holder K) → Bool
  is_offered_to eqk clock client None = false
  is_offered_to eqk clock client (Some (Bound key until)) = false
  is_offered_to eqk clock client (Some (Offered key until)) = if is_live clock until then eqk client key else false
  is_offered_to eqk clock client (Some (Barred until)) = false

  -- whether somebody has a live binding of the slot, and a live offer
  abbrev pub is_bound : ℕ → Option (Holder K) → Bool
  is_bound clock (Some (Bound key until)) = is_live clock until
  is_bound clock slot = false

  abbrev pub is_offered : ℕ → Option (Holder K) → Bool
  is_offered clock (Some (Offered key until)) = is_live clock until
  is_offered clock slot = false

  -- the slot, where it is vacant
  abbrev pub where_vacant : ℕ → List (Option (Holder K)) → Option ℕ → Option ℕ
  where_vacant clock slots None = None
  where_vacant clock slots (Some slot) = if is_vacant clock (slice_index_or slots slot None) then Some slot else None

  -- the slot for a client: the one that it has, the one that it asks for, the first vacant one
  abbrev pub picked_slot : ℕ → List (Option (Holder K)) → Option ℕ → Option ℕ → Option ℕ
  picked_slot clock slots own requested = option_or own (option_or (where_vacant clock slots requested) (position (is_vacant clock) slots))
