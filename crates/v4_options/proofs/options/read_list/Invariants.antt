use Rattle.std.proofs.Common.{◌≡◌, ℕ, List, ◌++◌, length}
use Rattle.v4_options.specs.Front.{IsRead}
use Rattle.v4_options.specs.Places.{ArePlaced}
use Rattle.v4_options.specs.Reading.{fault_from, has_code, listed_from, no_code}
use Rattle.v4_options.specs.declared.token.Syntax.TheVariants as syntax
use Rattle.v4_options.proofs.options.read_list.Given as goal

abbrev pub invariant-row : goal.invariant-row
invariant-row l = record {
  faults : fault_from syntax.Options (has_code l.seen.words) 0 l.left ≡ fault_from syntax.Options no_code 0 l.bytes;
  places : ArePlaced l.bytes l.places (listed_from syntax.Options 0 l.left) (listed_from syntax.Options 0 l.bytes);
  front : IsRead l.has_pad l.places.agent l.bytes l.left;
  at : (before : List ℕ) × (before ++ l.left ≡ l.bytes);
}

abbrev pub decreases-row : goal.decreases-row
decreases-row l = length l.left
