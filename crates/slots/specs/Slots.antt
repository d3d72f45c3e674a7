-- Which maps the slots of a pool show, and how a slot is written: slot i is the pool's address i, the
-- lowest is 0. `eqk` is the equality of keys, `cmpk` their order.
use Rattle.std.specs.Prelude.{◌≡◌, ℕ, ◌+◌, slice_set, Bool, true, false, List, [], ◌∷◌, Option, Some, None}
use Rattle.std.specs.declared.cmp.Ordering.{Ordering}
use Rattle.std.specs.List.{position}
use Rattle.std.specs.FinMap.{empty, insert}
use Rattle.slots.specs.declared.holder.Holder.{Holder}
use Rattle.slots.specs.declared.holder.Holder.TheVariants.{Bound, Offered, Barred}
use Rattle.slots.specs.Maps.{Clients, Bars}

abbrev pub with_bar : ℕ → Option ℕ → Bars → Bars
with_bar address None m = m
with_bar address (Some until) m = insert m address until

module _ {K : Type 0} where
  -- whom a slot is bound or offered to and until when, and until when it is barred
  abbrev pub bound_to : Option (Holder K) → Option (K × ℕ)
  bound_to (Some (Bound key until)) = Some (key, until)
  bound_to slot = None

  abbrev pub offered_to : Option (Holder K) → Option (K × ℕ)
  offered_to (Some (Offered key until)) = Some (key, until)
  offered_to slot = None

  abbrev pub barred_until : Option (Holder K) → Option ℕ
  barred_until (Some (Barred until)) = Some until
  barred_until slot = None

  abbrev pub with_lease : {cmpk : K → K → Ordering} → ℕ → Option (K × ℕ) → Clients cmpk → Clients cmpk
  with_lease address None m = m
  with_lease address (Some lessee) m = insert m lessee.0 (record { address = address; until = lessee.1 })

  -- the leases of these slots, the first of which has this address
  abbrev pub leases : (cmpk : K → K → Ordering) → (Option (Holder K) → Option (K × ℕ)) → ℕ → List (Option (Holder K)) → Clients cmpk
  leases cmpk lessee address [] = empty
  leases cmpk lessee address (slot ∷ slots) = with_lease address (lessee slot) (leases cmpk lessee (address + 1) slots)

  abbrev pub bars_of : ℕ → List (Option (Holder K)) → Bars
  bars_of address [] = empty
  bars_of address (slot ∷ slots) = with_bar address (barred_until slot) (bars_of (address + 1) slots)

  -- whether a slot is bound or offered to this client, expired or not
  abbrev pub is_clients : (K → K → Bool) → K → Option (Holder K) → Bool
  is_clients eqk client None = false
  is_clients eqk client (Some (Bound key until)) = eqk client key
  is_clients eqk client (Some (Offered key until)) = eqk client key
  is_clients eqk client (Some (Barred until)) = false

  -- no slot is this client's
  abbrev pub IsWithout : (K → K → Bool) → K → List (Option (Holder K)) → Type 0
  IsWithout eqk client [] = Unit {0}
  IsWithout eqk client (slot ∷ slots) = (is_clients eqk client slot ≡ false) × IsWithout eqk client slots

  -- no client has two slots, live or expired
  abbrev pub AreDistinct : (K → K → Bool) → List (Option (Holder K)) → Type 0
  AreDistinct eqk [] = Unit {0}
  AreDistinct eqk (slot ∷ slots) = ((client : K) → is_clients eqk client slot ≡ true → IsWithout eqk client slots) × AreDistinct eqk slots

  abbrev pub with_vacancy : Option ℕ → List (Option (Holder K)) → List (Option (Holder K))
  with_vacancy None slots = slots
  with_vacancy (Some slot) slots = slice_set slots slot None

  -- the slots after the client's, of which there is at most one, is vacated
  abbrev pub without_client : (K → K → Bool) → K → List (Option (Holder K)) → List (Option (Holder K))
  without_client eqk client slots = with_vacancy (position (is_clients eqk client) slots) slots

  abbrev pub client_of : Option (Holder K) → Option K
  client_of (Some (Bound key until)) = Some key
  client_of (Some (Offered key until)) = Some key
  client_of slot = None

  abbrev pub without_lessee : (K → K → Bool) → Option K → List (Option (Holder K)) → List (Option (Holder K))
  without_lessee eqk None slots = slots
  without_lessee eqk (Some client) slots = without_client eqk client slots

  -- A slot with a new holder, who has no other slot.
  abbrev pub with_slot : (K → K → Bool) → ℕ → Option (Holder K) → List (Option (Holder K)) → List (Option (Holder K))
  with_slot eqk slot holder slots = slice_set (without_lessee eqk (client_of holder) slots) slot holder
