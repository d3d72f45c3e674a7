-- Counters that have room grow by one.
use Rattle.std.proofs.Common.{◌⊎◌, ◌≡◌, ◌≢◌, ◌∙◌, ◌+◌, ◌<◌, ℕ, List, [], ◌∷◌, length, inl, inr, refl, sym, subst, arith}
use Rattle.std.specs.Prelude.{All, slice_index, slice_index_or, slice_set}
use Rattle.std.specs.List.{sum}
use Rattle.std.proofs.lemmas.Bool.{cases_eq}
use Rattle.std.proofs.lemmas.List.{get_or-set_same, get_or-set_other, get_or_default, length-set}
use Rattle.std.proofs.lemmas.List.Sums.{sum_by-set}
use Rattle.types.specs.Discard.{number_of}
use Rattle.types.specs.declared.discard.Discard.{Discard}
use Rattle.types.specs.declared.discard.Discard.TheVariants.{TooLong, MalformedUp, NotRequest, HasGiaddr, HasOption82, Hops, WrongType, NestedRelay, UnknownSource, Malformed, NotRelayed, UnknownCircuit, WrongLink, NoOverride, ClientKey, OtherServer, NoAddress, NoRecord, CircuitClosed, NotServed, DiskFault, NothingToSay, BatchTwice, NotServer, MalformedDown, UnknownCircuitDown, WrongLinkDown}
use Rattle.counts.specs.Counts.{HasRoom, counted, counted_all, one_more, total}
use Rattle.counts.specs.declared.counts.Counts.{Counts}
use Rattle.counts.specs.declared.counts.Fate.{Fate}
use Rattle.counts.specs.declared.counts.Fate.TheVariants as fate

-- each reason has its counter
within : (why : Discard) → number_of why < 35
within TooLong = omega arith
within MalformedUp = omega arith
within NotRequest = omega arith
within HasGiaddr = omega arith
within HasOption82 = omega arith
within Hops = omega arith
within WrongType = omega arith
within NestedRelay = omega arith
within UnknownSource = omega arith
within Malformed = omega arith
within NotRelayed = omega arith
within UnknownCircuit = omega arith
within WrongLink = omega arith
within NoOverride = omega arith
within ClientKey = omega arith
within OtherServer = omega arith
within NoAddress = omega arith
within NoRecord = omega arith
within CircuitClosed = omega arith
within NotServed = omega arith
within DiskFault = omega arith
within NothingToSay = omega arith
within BatchTwice = omega arith
within NotServer = omega arith
within MalformedDown = omega arith
within UnknownCircuitDown = omega arith
within WrongLinkDown = omega arith

-- what has room after one more had room before
room_before : (n : ℕ) → one_more n < 18446744073709551615 → n < 18446744073709551615
room_before n room = omega (arith, room)

rooms_before : (counts : List ℕ) (at : ℕ) → at < length counts → All (λ n. n < 18446744073709551615) (slice_set counts at (one_more (slice_index counts at)))
    → All (λ n. n < 18446744073709551615) counts
rooms_before counts at inside rooms k d lt = by (cases_eq k at)
  where
    by : (k ≡ at) ⊎ (k ≢ at) → slice_index_or counts k d < 18446744073709551615
    by (inl same) =
        let here : one_more (slice_index counts at) < 18446744073709551615 =
        subst (λ n. n < 18446744073709551615) (get_or-set_same counts at (one_more (slice_index counts at)) 0 inside)
        (rooms at 0 (subst (λ n. at < n) (sym (length-set counts at _)) inside)) in
        subst (λ i. slice_index_or counts i d < 18446744073709551615) (sym same)
        (subst (λ n. n < 18446744073709551615) (get_or_default counts at 0 d inside) (room_before (slice_index counts at) here))
    by (inr other) = subst (λ n. n < 18446744073709551615) (get_or-set_other counts at k (one_more (slice_index counts at)) d other) (rooms k d (subst (λ n. k < n) (sym (length-set counts at _)) lt))

counted_length : (o : Fate) (c : Counts) → length (counted o c).dropped ≡ length c.dropped
counted_length fate.Relayed c = refl
counted_length fate.Answered c = refl
counted_length fate.Delivered c = refl
counted_length fate.Unsent c = refl
counted_length (fate.Dropped why) c = length-set c.dropped (number_of why) _

counter_of : (why : Discard) (c : Counts) → length c.dropped ≡ 35 → number_of why < length c.dropped
counter_of why c many = subst (λ n. number_of why < n) (sym many) (within why)

counted_before : (o : Fate) (c : Counts) → length c.dropped ≡ 35 → HasRoom (counted o c) → HasRoom c
counted_before fate.Relayed c many room = record { relayed = room_before c.relayed room.relayed; answered = room.answered; delivered = room.delivered; unsent = room.unsent; dropped = room.dropped }
counted_before fate.Answered c many room = record { relayed = room.relayed; answered = room_before c.answered room.answered; delivered = room.delivered; unsent = room.unsent; dropped = room.dropped }
counted_before fate.Delivered c many room = record { relayed = room.relayed; answered = room.answered; delivered = room_before c.delivered room.delivered; unsent = room.unsent; dropped = room.dropped }
counted_before fate.Unsent c many room = record { relayed = room.relayed; answered = room.answered; delivered = room.delivered; unsent = room_before c.unsent room.unsent; dropped = room.dropped }
counted_before (fate.Dropped why) c many room = record {
  relayed = room.relayed;
  answered = room.answered;
  delivered = room.delivered;
  unsent = room.unsent;
  dropped = rooms_before c.dropped (number_of why) (counter_of why c many) room.dropped;
}

-- one more, where that has room
grows : (n : ℕ) → one_more n < 18446744073709551615 → one_more n ≡ n + 1
grows n room = omega (arith, room)

counted_total : (o : Fate) (c : Counts) → length c.dropped ≡ 35 → HasRoom (counted o c) → total (counted o c) ≡ total c + 1
counted_total fate.Relayed c many room = let more = grows c.relayed room.relayed in omega (arith, more)
counted_total fate.Answered c many room = let more = grows c.answered room.answered in omega (arith, more)
counted_total fate.Delivered c many room = let more = grows c.delivered room.delivered in omega (arith, more)
counted_total fate.Unsent c many room = let more = grows c.unsent room.unsent in omega (arith, more)
counted_total (fate.Dropped why) c many room =
    let at = number_of why in
    let inside = counter_of why c many in
    let next = one_more (slice_index c.dropped at) in
    let here : next < 18446744073709551615 =
    subst (λ n. n < 18446744073709551615) (get_or-set_same c.dropped at next 0 inside) (room.dropped at 0 (subst (λ n. at < n) (sym (length-set c.dropped at next)) inside)) in
    let more : next ≡ slice_index c.dropped at + 1 = grows (slice_index c.dropped at) here in
    let change : sum (slice_set c.dropped at next) + slice_index c.dropped at ≡ sum c.dropped + next = sum_by-set (λ n. n) c.dropped at next 0 inside in
    omega (arith, more, change)

all_before : (outcomes : List Fate) (c : Counts) → length c.dropped ≡ 35 → HasRoom (counted_all outcomes c) → HasRoom c
all_before [] c many room = room
all_before (o ∷ os) c many room = counted_before o c many (all_before os (counted o c) (counted_length o c ∙ many) room)

pub grow_together : (outcomes : List Fate) (c : Counts) → length c.dropped ≡ 35 → HasRoom (counted_all outcomes c) → total (counted_all outcomes c) ≡ total c + length outcomes
grow_together [] c many room = omega arith
grow_together (o ∷ os) c many room =
    let many_after = counted_length o c ∙ many in
    let rest = grow_together os (counted o c) many_after room in
    let first = counted_total o c many (all_before os (counted o c) many_after room) in
    omega (arith, rest, first)
