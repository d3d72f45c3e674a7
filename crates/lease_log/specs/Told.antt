-- Who has an address, by who had it and by what was told since.
use Rattle.std.specs.Prelude.{ℕ, List, Option, Some, None}
use Rattle.types.specs.Key6.{Key6Value}
use Rattle.types.specs.declared.slot4.Slot4.{Slot4}
use Rattle.types.specs.declared.slot4.Slot4.TheVariants as S4
use Rattle.types.specs.declared.slot6.Slot6.{Slot6}
use Rattle.types.specs.declared.slot6.Slot6.TheVariants as S6
use Rattle.lease_log.specs.declared.change.Change.{Change}
use Rattle.lease_log.specs.declared.change.Holder.{Holder}
use Rattle.lease_log.specs.declared.change.Holder.TheVariants.{V4, V6}

-- the client that has a slot
abbrev pub client4 : Slot4 → Option (List ℕ)
client4 S4.Free = None
client4 (S4.Bound client until) = Some client
client4 (S4.Barred barred) = None

abbrev pub client6 : Slot6 → Option Key6Value
client6 S6.Free = None
client6 (S6.Bound client until) = Some client
client6 (S6.Barred barred) = None

-- the client of a change
abbrev pub told4 : Holder → Option (List ℕ)
told4 (V4 address client) = Some client
told4 (V6 address client) = None

abbrev pub told6 : Holder → Option Key6Value
told6 (V4 address client) = None
told6 (V6 address client) = Some client

-- Who has an address after an end and a start, where these were told: the client of the start; nobody after an end
-- alone; who had it before, where nothing was told.
abbrev pub after4 : Option (List ℕ) → Option Change → Option Change → Option (List ℕ)
after4 before None None = before
after4 before (Some end) None = None
after4 before end (Some start) = told4 start.holder

abbrev pub after6 : Option Key6Value → Option Change → Option Change → Option Key6Value
after6 before None None = before
after6 before (Some end) None = None
after6 before end (Some start) = told6 start.holder
