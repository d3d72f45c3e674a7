-- What the rows of both protocols' tables say: what a client is answered, and what that changes in its
-- circuit's book. Moments are in seconds.
use Rattle.std.specs.Prelude.{ℕ, Bool, true, false, Result, Ok, Err}
use Rattle.types.specs.declared.discard.Discard.{Discard}

-- What a row changes of the client's.
pub data Change : Type 0 where
  Unchanged : Change
  -- its one offer is this address, until this moment
  Offers : ℕ → ℕ → Change
  -- its offer, which is this address, is gone
  Withdraws : ℕ → Change
  -- this address is bound to it until this moment, and no offer is left
  Binds : ℕ → ℕ → Change
  -- its binding, which is this address, is gone, and the address is given to nobody until this moment
  Bars : ℕ → ℕ → Change
  -- its binding, which is this address, is gone
  Frees : ℕ → Change

-- Offers are in memory only; all else is kept on the disk.
abbrev pub is_kept : Change → Bool
is_kept (Binds address until) = true
is_kept (Bars address until) = true
is_kept (Frees address) = true
is_kept change = false

pub record Row (Reply : Type 0) : Type 0 where
  -- a reply, or why there is none
  pub answer : Result Reply Discard
  pub change : Change

abbrev pub replies : {Reply : Type 0} → Reply → Change → Row Reply
replies answer change = record { answer = Ok answer; change = change }

abbrev pub drops : {Reply : Type 0} → Discard → Change → Row Reply
drops why change = record { answer = Err why; change = change }

pub record Decision (Reply Book : Type 0) : Type 0 where
  -- a reply, or why there is none
  pub answer : Result Reply Discard
  -- the book after it
  pub book : Book
  -- whether a slot has to be kept on the disk
  pub is_kept : Bool
