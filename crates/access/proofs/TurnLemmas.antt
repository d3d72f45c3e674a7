-- What follows from the steps of a turn.
use Rattle.std.proofs.Common.{◌≡◌, ◌∙◌, ◌+◌, ◌≤◌, ℕ, suc, List, [], ◌∷◌, length, map, refl, sym, ap, subst, arith}
use Rattle.std.specs.Prelude.{None, Some, slice_get}
use Rattle.dispatch.specs.ServerValue.{ServerValue, books_in}
use Rattle.udp.specs.History.{Entry}
use Rattle.access.specs.Access.{AccessValue, HasCarried, HasCounted, HasServedTurns, HasTurned, StayClosed, books_at}
use Rattle.counts.specs.Counts.{counted_all, more_by}
use Rattle.counts.specs.Tally.{CircuitFate}
use Rattle.counts.proofs.TallyLemmas.{all_counted}
use Rattle.std.proofs.lemmas.List.{length-map}
use Rattle.access.specs.Moments.{HasRead}
use Rattle.access.specs.Turn.{Tries}
use Rattle.counts.specs.declared.counts.Counts.{Counts}
use Rattle.counts.specs.declared.counts.Fate.{Fate}
use Rattle.counts.specs.declared.counts.Fate.TheVariants as fate
use Rattle.counts.specs.declared.tally.Tally.{Tally}
use Rattle.access.proofs.ClockLemmas.{ticked_closed}
use Rattle.access.proofs.ServedLemmas.{HasTallied, idle_server, served_closed, served_tally, tallied_then}

-- ---- counts

carried_tally : (Try : Tries) (n : ℕ) (a b : AccessValue) → HasCarried Try n a b → HasTallied n a.tally b.tally
carried_tally Try n a b carried = record { outcomes = carried.outcomes; many = carried.many; after = ap (λ (s : AccessValue). s.tally) carried.after }

turned_tally : (now n : ℕ) (old new : AccessValue) → HasTurned now n old new → HasTallied n old.tally new.tally
turned_tally now n old new t =
    let frames = carried_tally _ t.frames old t.relayed t.from_circuits in
    let served = served_tally now t.datagrams t.relayed t.served t.at_server in
    let answers = carried_tally _ t.answers t.served t.delivered t.from_relays in
    let all = tallied_then (t.frames + t.datagrams) t.answers _ _ _ (tallied_then t.frames t.datagrams _ _ _ frames served) answers in
    subst (λ k. HasTallied k old.tally new.tally) (sym t.many) (subst (λ tally. HasTallied (t.frames + t.datagrams + t.answers) old.tally tally) (sym (ap (λ (s : AccessValue). s.tally) t.ticks.rest)) all)

pub turned_counts : (now n : ℕ) (old new : AccessValue) → HasTurned now n old new → HasCounted n old.tally.all new.tally.all
turned_counts now n old new t =
    let all = turned_tally now n old new t in
    record {
      outcomes = map (λ (o : CircuitFate). o.became) all.outcomes;
      many = length-map all.outcomes (λ (o : CircuitFate). o.became) ∙ all.many;
      after = ap (λ (tally : Tally). tally.all) all.after ∙ all_counted all.outcomes old.tally;
    }

received_by : (outcomes : List Fate) (a : Counts) → (counted_all outcomes a).received ≤ 18446744073709551615
    → (counted_all outcomes a).received ≡ more_by (length outcomes) a.received
received_by [] a most = omega (arith, most)
received_by (fate.Relayed ∷ os) a most = let rest = received_by os _ most in omega (arith, rest)
received_by (fate.Answered ∷ os) a most = let rest = received_by os _ most in omega (arith, rest)
received_by (fate.Delivered ∷ os) a most = let rest = received_by os _ most in omega (arith, rest)
received_by (fate.Unsent ∷ os) a most = let rest = received_by os _ most in omega (arith, rest)
received_by (fate.Dropped why ∷ os) a most = let rest = received_by os _ most in omega (arith, rest)

pub counted_received : (n : ℕ) (a b : Counts) → HasCounted n a b → b.received ≤ 18446744073709551615 → b.received ≡ more_by n a.received
counted_received n a b counts most =
    ap (λ (c : Counts). c.received) counts.after
    ∙ (received_by counts.outcomes a (subst (λ (c : Counts). c.received ≤ 18446744073709551615) counts.after most) ∙ ap (λ k. more_by k a.received) counts.many)

-- ---- books

carried_server : (Try : Tries) (n : ℕ) (a b : AccessValue) → HasCarried Try n a b → b.server ≡ a.server
carried_server Try n a b carried = ap (λ (s : AccessValue). s.server) carried.after

pub quiet : (now n : ℕ) (old new : AccessValue) → HasTurned now n old new → n ≡ 0 → books_in new.server ≡ books_at now (books_in old.server)
quiet now n old new t none =
    let idle : t.datagrams ≡ 0 = omega (arith, t.many, none) in
    let same = carried_server _ t.answers t.served t.delivered t.from_relays ∙ (idle_server now t.datagrams t.relayed t.served t.at_server idle ∙ carried_server _ t.frames old t.relayed t.from_circuits) in
    t.ticks.ticked ∙ ap (λ (s : ServerValue). books_at now (books_in s)) same

carried_closed : (Try : Tries) (n : ℕ) (a b : AccessValue) → HasCarried Try n a b → StayClosed a.server b.server
carried_closed Try n a b carried c closed = subst (λ (s : ServerValue). slice_get (books_in s) c ≡ Some None) (sym (carried_server Try n a b carried)) closed

pub turned_closed : (now n : ℕ) (old new : AccessValue) → HasTurned now n old new → StayClosed old.server new.server
turned_closed now n old new t c closed =
    let relayed = carried_closed _ t.frames old t.relayed t.from_circuits c closed in
    let served = served_closed now t.datagrams t.relayed t.served t.at_server c relayed in
    let delivered = carried_closed _ t.answers t.served t.delivered t.from_relays c served in
    subst (λ books. slice_get books c ≡ Some None) (sym t.ticks.ticked) (ticked_closed now (books_in t.delivered.server) c delivered)

-- ---- turns

-- one turn more, at the moment of the next reading
pub served_once : (n before now count : ℕ) (old middle inside new : AccessValue) (history : List Entry) → HasServedTurns n before old middle → inside ≡ middle
    → HasRead before now inside.history history → HasTurned now count (record inside { history = history }) new → HasServedTurns (n + 1) now old new
served_once n before now count old middle inside new history were same read turn =
    let reads = subst (λ (s : AccessValue). HasRead before now s.history history) same read in
    let turned = subst (λ (s : AccessValue). HasTurned now count (record s { history = history }) new) same turn in
    let more : suc n ≡ n + 1 = omega arith in
    let once : HasServedTurns (suc n) now old new = (before, middle, were, record { read = record middle { history = history }; count = count; reads = reads; rest = refl; turn = turned }) in
    subst (λ k. HasServedTurns k now old new) more once
