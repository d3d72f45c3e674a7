-- What a pass keeps, and how much it takes.
use Rattle.std.proofs.Common.{inl, inr, ◌≡◌, ◌∙◌, ◌+◌, ◌*◌, ◌<◌, ◌≤◌, ◌==◌, ℕ, zero, suc, Bool, true, false, refl, sym, ap, subst, [], length, map, arith}
use Rattle.std.specs.Prelude.{◌⊎◌, Some, None, slice_get}
use Rattle.types.specs.declared.dest.Proto.{Proto}
use Rattle.types.specs.declared.dest.Proto.TheVariants.{V4, V6}
use Rattle.dispatch.specs.ServerValue.{ServerValue, books_in}
use Rattle.access.specs.Access.{AccessValue, HasCarried, HasCounted, HasServed, StayClosed, StaysSetUp, books_at}
use Rattle.access.specs.Pass.{AreSlices, HasAnswered, HasMadePasses, HasPassed, HasPassedOnce, HasTakenAll, IsSlice, SecondBatch}
use Rattle.access.specs.Turn.{Tries}
use Rattle.counts.proofs.TallyLemmas.{all_counted}
use Rattle.counts.specs.Tally.{CircuitFate}
use Rattle.counts.specs.declared.tally.Tally.{Tally}
use Rattle.std.proofs.lemmas.List.{length-map}
use Rattle.access.proofs.ClockLemmas.{ticked_closed}
use Rattle.access.proofs.ServedLemmas.{HasTallied, idle_server, served_closed, served_tally, tallied_then}

-- what a step keeps in which so many datagrams are taken
pub record Keeps (count : ℕ) (old new : AccessValue) : Type 0 where
  pub set_up : StaysSetUp old new
  pub turns : new.turns ≡ old.turns
  pub tallied : HasTallied count old.tally new.tally
  pub closed : StayClosed old.server new.server
  pub quiet : count ≡ 0 → new.server ≡ old.server

same_set_up : (a b : AccessValue) → b ≡ a → StaysSetUp a b
same_set_up a b same = record {
  topology = ap (λ (s : AccessValue). s.topology) same;
  served = ap (λ (s : AccessValue). s.server.topology) same;
  regions = ap (λ (s : AccessValue). s.disk.regions) same;
  formats = ap (λ (s : AccessValue). s.formats) same;
  port = ap (λ (s : AccessValue). s.port) same;
  batch = ap (λ (s : AccessValue). s.batch) same;
}

pub set_up_then : (a b c : AccessValue) → StaysSetUp a b → StaysSetUp b c → StaysSetUp a c
set_up_then a b c one other = record {
  topology = other.topology ∙ one.topology;
  served = other.served ∙ one.served;
  regions = other.regions ∙ one.regions;
  formats = other.formats ∙ one.formats;
  port = other.port ∙ one.port;
  batch = other.batch ∙ one.batch;
}

keeps_none : (a b : AccessValue) → b ≡ a → Keeps 0 a b
keeps_none a b same = record {
  set_up = same_set_up a b same;
  turns = ap (λ (s : AccessValue). s.turns) same;
  tallied = record { outcomes = []; many = refl; after = ap (λ (s : AccessValue). s.tally) same };
  closed = λ k closed. subst (λ (s : AccessValue). slice_get (books_in s.server) k ≡ Some None) (sym same) closed;
  quiet = λ none. ap (λ (s : AccessValue). s.server) same;
}

keeps_then : (m n : ℕ) (a b c : AccessValue) → Keeps m a b → Keeps n b c → Keeps (m + n) a c
keeps_then m n a b c one other = record {
  set_up = set_up_then a b c one.set_up other.set_up;
  turns = other.turns ∙ one.turns;
  tallied = tallied_then m n a.tally b.tally c.tally one.tallied other.tallied;
  closed = λ k closed. other.closed k (one.closed k closed);
  quiet = λ none. other.quiet (omega (arith, none)) ∙ one.quiet (omega (arith, none));
}

keeps_carried : (Try : Tries) (n : ℕ) (a b : AccessValue) → HasCarried Try n a b → Keeps n a b
keeps_carried Try n a b carried = record {
  set_up = record {
    topology = ap (λ (s : AccessValue). s.topology) carried.after;
    served = ap (λ (s : AccessValue). s.server.topology) carried.after;
    regions = ap (λ (s : AccessValue). s.disk.regions) carried.after;
    formats = ap (λ (s : AccessValue). s.formats) carried.after;
    port = ap (λ (s : AccessValue). s.port) carried.after;
    batch = ap (λ (s : AccessValue). s.batch) carried.after;
  };
  turns = ap (λ (s : AccessValue). s.turns) carried.after;
  tallied = record { outcomes = carried.outcomes; many = carried.many; after = ap (λ (s : AccessValue). s.tally) carried.after };
  closed = λ k closed. subst (λ (s : ServerValue). slice_get (books_in s) k ≡ Some None) (sym (ap (λ (s : AccessValue). s.server) carried.after)) closed;
  quiet = λ none. ap (λ (s : AccessValue). s.server) carried.after;
}

keeps_served : (now n : ℕ) (a b : AccessValue) → HasServed now n a b → Keeps n a b
keeps_served now n a b served = record {
  set_up = record { topology = served.kept.topology; served = served.kept.served; regions = served.kept.regions; formats = served.kept.formats; port = served.kept.port; batch = served.kept.batch };
  turns = served.kept.turns;
  tallied = served_tally now n a b served;
  closed = served_closed now n a b served;
  quiet = idle_server now n a b served;
}

keeps_second : (full : Bool) (now n : ℕ) (a b : AccessValue) → SecondBatch full now n a b → Keeps n a b
keeps_second true now n a b served = keeps_served now n a b served
keeps_second false now n a b (none, same) = subst (λ k. Keeps k a b) (sym none) (keeps_none a b same)

pub keeps_answered : (now n : ℕ) (a b : AccessValue) → HasAnswered now n a b → Keeps n a b
keeps_answered now n a b answered =
    subst (λ k. Keeps k a b) (sym answered.count_is)
    (keeps_then answered.first answered.second a answered.middle b (keeps_served now answered.first a answered.middle answered.batch)
    (keeps_second (answered.first == a.batch) now answered.second answered.middle b answered.other))

pub keeps_slice : (now : ℕ) (proto : Proto) (from circuits n : ℕ) (a b : AccessValue) → IsSlice now proto from circuits n a b → Keeps n a b
keeps_slice now proto from circuits n a b s =
    let frames = keeps_carried _ s.frames a s.relayed s.from_circuits.carried in
    let datagrams = keeps_answered now s.datagrams s.relayed s.served s.at_server in
    let answers = keeps_carried _ s.answers s.served b s.from_relays in
    subst (λ k. Keeps k a b) (sym s.count_is) (keeps_then (s.frames + s.datagrams) s.answers a s.served b (keeps_then s.frames s.datagrams a s.relayed s.served frames datagrams) answers)

pub keeps_slices : (now : ℕ) (proto : Proto) (slices to n : ℕ) (a b : AccessValue) → AreSlices now proto slices to n a b → Keeps n a b
keeps_slices now proto zero to n a b (at, none, same) = subst (λ k. Keeps k a b) (sym none) (keeps_none a b same)
keeps_slices now proto (suc slices) to n a b (from, before, middle, were, circuits, more, slice, at, many) =
    subst (λ k. Keeps k a b) (sym many) (keeps_then before more a middle b (keeps_slices now proto slices from before a middle were) (keeps_slice now proto from circuits more middle b slice))

pub keeps_all : (now : ℕ) (proto : Proto) (n : ℕ) (a b : AccessValue) → HasTakenAll now proto n a b → Keeps n a b
keeps_all now proto n a b taken = keeps_slices now proto taken.slices (length a.topology.circuits) n a b taken.taken

-- one slice more
pub slices_more : (now : ℕ) (proto : Proto) (n from before : ℕ) (a b c : AccessValue) (circuits more : ℕ) → AreSlices now proto n from before a b → IsSlice now proto from circuits more b c
    → AreSlices now proto (n + 1) (from + circuits) (before + more) a c
slices_more now proto n from before a b c circuits more were slice =
    let next : suc n ≡ n + 1 = omega arith in
    let all : AreSlices now proto (suc n) (from + circuits) (before + more) a c = (from, before, b, were, circuits, more, slice, refl, refl) in
    subst (λ k. AreSlices now proto k (from + circuits) (before + more) a c) next all

-- ---- the whole pass

-- both protocols, before the tick
pub keeps_both : (now n : ℕ) (old new : AccessValue) (p : HasPassed now n old new) → Keeps n old p.taken6
keeps_both now n old new p =
    subst (λ k. Keeps k old p.taken6) (sym p.count_is)
    (keeps_then p.count4 p.count6 old p.taken4 p.taken6 (keeps_all now V4 p.count4 old p.taken4 p.of4) (keeps_all now V6 p.count6 p.taken4 p.taken6 p.of6))

pub passed_set_up : (now n : ℕ) (old new : AccessValue) → HasPassed now n old new → StaysSetUp old new
passed_set_up now n old new p =
    let rest = p.ticks.rest in
    set_up_then old p.taken6 new (keeps_both now n old new p).set_up
    (record {
      topology = ap (λ (s : AccessValue). s.topology) rest;
      served = p.ticks.known;
      regions = ap (λ (s : AccessValue). s.disk.regions) rest;
      formats = ap (λ (s : AccessValue). s.formats) rest;
      port = ap (λ (s : AccessValue). s.port) rest;
      batch = ap (λ (s : AccessValue). s.batch) rest;
    })

pub passed_counts : (now n : ℕ) (old new : AccessValue) → HasPassed now n old new → HasCounted n old.tally.all new.tally.all
passed_counts now n old new p =
    let all = (keeps_both now n old new p).tallied in
    record {
      outcomes = map (λ (o : CircuitFate). o.became) all.outcomes;
      many = length-map all.outcomes (λ (o : CircuitFate). o.became) ∙ all.many;
      after = ap (λ (s : AccessValue). s.tally.all) p.ticks.rest ∙ (ap (λ (tally : Tally). tally.all) all.after ∙ all_counted all.outcomes old.tally);
    }

pub passed_quiet : (now n : ℕ) (old new : AccessValue) → HasPassed now n old new → n ≡ 0 → books_in new.server ≡ books_at now (books_in old.server)
passed_quiet now n old new p none = p.ticks.ticked ∙ ap (λ (s : ServerValue). books_at now (books_in s)) ((keeps_both now n old new p).quiet none)

pub passed_closed : (now n : ℕ) (old new : AccessValue) → HasPassed now n old new → StayClosed old.server new.server
passed_closed now n old new p c closed =
    subst (λ books. slice_get books c ≡ Some None) (sym p.ticks.ticked) (ticked_closed now (books_in p.taken6.server) c ((keeps_both now n old new p).closed c closed))

-- one pass more
pub passed_once : (n before now : ℕ) (old middle new : AccessValue) → HasMadePasses n before old middle → HasPassedOnce before now middle new → HasMadePasses (n + 1) now old new
passed_once n before now old middle new were once =
    let more : suc n ≡ n + 1 = omega arith in
    let passes : HasMadePasses (suc n) now old new = (before, middle, were, once) in
    subst (λ k. HasMadePasses k now old new) more passes

-- ---- slice by slice

-- so many slices so far, each of which took at most 304 datagrams and came to the last circuit or 16 further
pub record HasSlicesSoFar (now : ℕ) (proto : Proto) (next count : ℕ) (old new : AccessValue) : Type 0 where
  pub slices : ℕ
  pub are : AreSlices now proto slices next count old new
  pub most : count ≤ 304 * slices
  pub far : (next ≡ length old.topology.circuits) ⊎ (16 * slices ≤ next)
  pub near : 16 * slices ≤ next + 15

pub none_so_far : (now : ℕ) (proto : Proto) (a b : AccessValue) → b ≡ a → HasSlicesSoFar now proto 0 0 a b
none_so_far now proto a b same = record { slices = 0; are = (refl, refl, same); most = omega arith; far = inr (omega arith); near = omega arith }

pub one_so_far : (now : ℕ) (proto : Proto) (from circuits next before more : ℕ) (a b c : AccessValue) → (so_far : HasSlicesSoFar now proto from before a b) → from < length a.topology.circuits → next ≡ from + circuits
    → IsSlice now proto from circuits more b c → more ≤ 304 → (next ≡ length a.topology.circuits) ⊎ (from + 16 ≤ next) → from < next → HasSlicesSoFar now proto next (before + more) a c
one_so_far now proto from circuits next before more a b c so_far within at slice most far ahead =
    let n = so_far.slices in
    let bound = so_far.most in
    let all : before + more ≤ 304 * (n + 1) = omega (arith, bound, most) in
    record {
      slices = n + 1;
      are = subst (λ to. AreSlices now proto (n + 1) to (before + more) a c) (sym at) (slices_more now proto n from before a b c circuits more so_far.are slice);
      most = all;
      far = further so_far.far far;
      near = nearer so_far.far far;
    } where
      full : (from ≡ length a.topology.circuits) ⊎ (16 * so_far.slices ≤ from) → 16 * so_far.slices ≤ from
      full (inl end) = absurd (omega (arith, within, end))
      full (inr some) = some

      further : (from ≡ length a.topology.circuits) ⊎ (16 * so_far.slices ≤ from) → (next ≡ length a.topology.circuits) ⊎ (from + 16 ≤ next) → (next ≡ length a.topology.circuits) ⊎ (16 * (so_far.slices + 1) ≤ next)
      further was (inl end) = inl end
      further was (inr more_than) = let before_it = full was in inr (omega (arith, before_it, more_than))

      nearer : (from ≡ length a.topology.circuits) ⊎ (16 * so_far.slices ≤ from) → (next ≡ length a.topology.circuits) ⊎ (from + 16 ≤ next) → 16 * (so_far.slices + 1) ≤ next + 15
      nearer was (inl end) = let before_it = full was in omega (arith, before_it, ahead)
      nearer was (inr more_than) = let before_it = full was in omega (arith, before_it, more_than)

pub all_so_far : (now : ℕ) (proto : Proto) (next count : ℕ) (a b : AccessValue) → HasSlicesSoFar now proto next count a b → next ≡ length a.topology.circuits → HasTakenAll now proto count a b
all_so_far now proto next count a b so_far end = record { slices = so_far.slices; taken = subst (λ to. AreSlices now proto so_far.slices to count a b) end so_far.are }

pub most_so_far : (now : ℕ) (proto : Proto) (next count : ℕ) (a b : AccessValue) → HasSlicesSoFar now proto next count a b → next ≡ length a.topology.circuits → count ≤ 19 * (length a.topology.circuits + 15)
most_so_far now proto next count a b so_far end =
    let most = so_far.most in
    let near = so_far.near in
    omega (arith, most, near, end)
