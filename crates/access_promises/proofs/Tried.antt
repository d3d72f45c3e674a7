-- What is so of the entries of sockets that are tried one after the other, if it is so of each one's.
use Rattle.std.proofs.Common.{ℕ, zero, suc, List, [], ◌++◌, sym, subst}
use Rattle.udp.specs.History.{Entry}
use Rattle.counts.specs.Tally.{CircuitFate}
use Rattle.access.specs.Turn.{Both, InOrder, Tries}

-- It is so of no entries, and of some entries and more after them if of both.
pub record AddsUp (P : List Entry → Type 0) : Type 0 where
  pub none : P []
  pub more : (xs ys : List Entry) → P xs → P ys → P (xs ++ ys)

-- It is so of whatever these tries add.
abbrev pub Gives : Tries → (List Entry → Type 0) → Type 0
Gives Try P = (entries : List Entry) (outcomes : List CircuitFate) → Try entries outcomes → P entries

module _ (P : List Entry → Type 0) (adds : AddsUp P) where
  pub by_both : (First Second : Tries) → Gives First P → Gives Second P → Gives (Both First Second) P
  by_both First Second one two entries outcomes both =
      subst P (sym both.entries_are) (adds.more both.before both.after (one both.before both.done both.one) (two both.after both.more both.other))

  pub by_each : (Try : ℕ → Tries) → ((k : ℕ) → Gives (Try k) P) → (m : ℕ) → Gives (InOrder Try m) P
  by_each Try one zero entries outcomes none = subst P (sym none.0) adds.none
  by_each Try one (suc m) entries outcomes both = by_both (InOrder Try m) (Try m) (by_each Try one m) (one m) entries outcomes both
