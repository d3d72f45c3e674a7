-- Counts that stay at their greatest value, and how they are written.
use Rattle.std.specs.Prelude.{ℕ, zero, suc, ◌+◌, ◌<◌, min, List, [], ◌∷◌, ◌++◌, All, replicate, slice_index, slice_set, codes, decimal}
use Rattle.std.specs.List.{flat_map, sum}
use Rattle.types.specs.declared.discard.Discard.{Discard}
use Rattle.types.specs.declared.discard.Discard.TheVariants.{TooLong, MalformedUp, NotRequest, HasGiaddr, HasOption82, Hops, WrongType, NestedRelay, UnknownSource, Malformed, NotRelayed, UnknownCircuit, WrongLink, NoOverride, ClientKey, OtherServer, NoAddress, NoRecord, CircuitClosed, NotServed, DiskFault, NothingToSay, BatchTwice, NotServer, MalformedDown, UnknownCircuitDown, WrongLinkDown}
use Rattle.types.specs.Discard.{number_of, words_of}
use Rattle.counts.specs.declared.counts.Counts.{Counts}
use Rattle.counts.specs.declared.counts.Fate.{Fate}
use Rattle.counts.specs.declared.counts.Fate.TheVariants as fate

-- one more, up to the greatest 64-bit number
abbrev pub one_more : ℕ → ℕ
one_more n = min 18446744073709551615 (n + 1)

-- so many more, up to the same number
abbrev pub more_by : ℕ → ℕ → ℕ
more_by k n = min 18446744073709551615 (n + k)

-- one more for a reason; the counts stand by the reasons' numbers
abbrev pub one_more_for : Discard → List ℕ → List ℕ
one_more_for why counts = slice_set counts (number_of why) (one_more (slice_index counts (number_of why)))

-- nothing was taken yet
abbrev pub none : Counts
none = record { received = 0; relayed = 0; answered = 0; delivered = 0; unsent = 0; dropped = replicate 35 0 }

-- one more datagram that was taken, by what became of it
abbrev pub counted : Fate → Counts → Counts
counted fate.Relayed c = record c { received = one_more c.received; relayed = one_more c.relayed }
counted fate.Answered c = record c { received = one_more c.received; answered = one_more c.answered }
counted fate.Delivered c = record c { received = one_more c.received; delivered = one_more c.delivered }
counted fate.Unsent c = record c { received = one_more c.received; unsent = one_more c.unsent }
counted (fate.Dropped why) c = record c { received = one_more c.received; dropped = one_more_for why c.dropped }

-- one datagram after the other
abbrev pub counted_all : List Fate → Counts → Counts
counted_all [] c = c
counted_all (o ∷ os) c = counted_all os (counted o c)

-- how many datagrams these are: sent on, answered, delivered, not sent, or dropped for any reason
abbrev pub total : Counts → ℕ
total c = c.relayed + c.answered + c.delivered + c.unsent + sum c.dropped

-- no counter stands at its greatest value
pub record HasRoom (c : Counts) : Type 0 where
  pub relayed : c.relayed < 18446744073709551615
  pub answered : c.answered < 18446744073709551615
  pub delivered : c.delivered < 18446744073709551615
  pub unsent : c.unsent < 18446744073709551615
  pub dropped : All (λ n. n < 18446744073709551615) c.dropped

-- the line of totals
abbrev pub totals_text : Counts → List ℕ
totals_text counts =
    decimal counts.received ++ (codes " datagrams received, " ++ (decimal counts.relayed ++ (codes " sent on to the server, "
    ++ (decimal counts.answered ++ (codes " answered, " ++ (decimal counts.delivered ++ (codes " sent on to a circuit, "
    ++ (decimal counts.unsent ++ codes " not sent"))))))))

-- the line of a reason for which so many datagrams were dropped; none, and no line
abbrev pub reason_text : ℕ → Discard → List ℕ
reason_text zero why = []
reason_text (suc n) why =
    10 ∷ (decimal (suc n) ++ (codes " dropped (" ++ (decimal (number_of why) ++ (codes "): " ++ words_of why))))

abbrev pub dropped_text : List ℕ → Discard → List ℕ
dropped_text counts why = reason_text (slice_index counts (number_of why)) why

-- every reason, in the order of the numbers
abbrev pub reasons : List Discard
reasons =
    TooLong ∷ MalformedUp ∷ NotRequest ∷ HasGiaddr ∷ HasOption82 ∷ Hops ∷ WrongType
    ∷ NestedRelay ∷ UnknownSource ∷ Malformed ∷ NotRelayed ∷ UnknownCircuit ∷ WrongLink ∷ NoOverride
    ∷ ClientKey ∷ OtherServer ∷ NoAddress ∷ NoRecord ∷ CircuitClosed ∷ NotServed ∷ DiskFault
    ∷ NothingToSay ∷ BatchTwice ∷ NotServer ∷ MalformedDown ∷ UnknownCircuitDown ∷ WrongLinkDown ∷ []

abbrev pub counts_text : Counts → List ℕ
counts_text counts = totals_text counts ++ flat_map (dropped_text counts.dropped) reasons
