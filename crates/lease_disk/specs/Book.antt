-- The slots of a book.
use Rattle.std.specs.Prelude.{◌≡◌, ℕ, ◌≤◌, true, List, replicate, All, slice_index, slice_index_or}
use Rattle.types.specs.declared.slot4.Slot4.TheVariants as S4
use Rattle.types.specs.declared.slot6.Slot6.TheVariants as S6
use Rattle.types.specs.declared.slots.Slots.{Slots}
use Rattle.types.specs.Slots.{IsWithin4, IsWithin6, live4, live6, none_twice, same_client4, same_client6}

-- the slots of a book for pools of so many addresses: a slot past the pool is free, what is not free
-- is live, and no client has two
pub record IsBook (counts : List ℕ) (slots : Slots) : Type 0 where
  pub past4 : (i : ℕ) → slice_index counts 0 ≤ i → slice_index_or slots.four i S4.Free ≡ S4.Free
  pub past6 : (i : ℕ) → slice_index counts 1 ≤ i → slice_index_or slots.six i S6.Free ≡ S6.Free
  pub live4 : All (λ slot. live4 slots.clock slot ≡ slot) slots.four
  pub live6 : All (λ slot. live6 slots.clock slot ≡ slot) slots.six
  pub within4 : All IsWithin4 slots.four
  pub within6 : All IsWithin6 slots.six
  pub once4 : none_twice same_client4 slots.four ≡ true
  pub once6 : none_twice same_client6 slots.six ≡ true

-- no client has anything
abbrev pub empty_book : Slots
empty_book = record { four = replicate 16 S4.Free; six = replicate 16 S6.Free; clock = 0 }
