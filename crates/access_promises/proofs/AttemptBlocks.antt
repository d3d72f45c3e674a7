-- What lies between two tries of a socket, where the entries are blocks that try each socket once in one order.
use Rattle.std.proofs.Common.{inl, inr, arith, ◌≡◌, ◌∙◌, ◌≤◌, ◌<◌, ◌+◌, ℕ, zero, suc, List, [], ◌∷◌, ◌++◌, refl, sym, ap, subst, append_assoc, append-nil}
use Rattle.std.specs.Prelude.{◌⊎◌, Some}
use Rattle.udp.specs.History.{Entry}
use Rattle.access_promises.specs.Attempts.{CircuitSocket, attempts_in, taken_in, times_of, tried_at}
use Rattle.access_promises.proofs.AttemptCounts.{IsPast, IsWithin, attempts_at, attempts_more, lies, once_around, taken_back, taken_front, taken_more, times_more, times_self}

module _ (block : List CircuitSocket) (most : ℕ) where
  -- These sockets were tried in this order, and at most so many datagrams were taken.
  pub record IsBlock (entries : List Entry) : Type 0 where
    pub attempts : attempts_in entries ≡ block
    pub few : taken_in entries ≤ most

  -- so many of them, one after the other
  abbrev pub AreBlocks : ℕ → List Entry → Type 0
  AreBlocks zero entries = entries ≡ []
  AreBlocks (suc n) entries = (first : List Entry) × (others : List Entry) × IsBlock first × AreBlocks n others × (entries ≡ first ++ others)

  pub one_more_block : (n : ℕ) (xs ys : List Entry) → AreBlocks n xs → IsBlock ys → AreBlocks (suc n) (xs ++ ys)
  one_more_block zero xs ys none last = (ys, [], last, refl, ap (λ es. es ++ ys) none ∙ sym (append-nil ys))
  one_more_block (suc n) xs ys blocks last =
      (blocks.0, blocks.1 ++ ys, blocks.2, one_more_block n blocks.1 ys blocks.3 last, ap (λ es. es ++ ys) blocks.4 ∙ append_assoc blocks.0 blocks.1 ys)

  module _ (once : (o : CircuitSocket) → times_of o block ≤ 1) (s : CircuitSocket) (first second : Entry) (at_first : tried_at first ≡ Some s) (at_second : tried_at second ≡ Some s) where
    -- what lies between them
    pub record IsBetween (between : List Entry) : Type 0 where
      pub each : (o : CircuitSocket) → times_of o (attempts_in between) ≤ 1
      pub few : taken_in between ≤ most + most

    -- A block has it once, and so at least once.
    times_in : (xs : List Entry) (entry : Entry) (ys : List Entry) → tried_at entry ≡ Some s → times_of s (attempts_in (xs ++ entry ∷ ys)) ≡ suc (times_of s (attempts_in xs) + times_of s (attempts_in ys))
    times_in xs entry ys is =
        let more = times_more s (attempts_in xs) (s ∷ attempts_in ys) in
        let self = times_self s (attempts_in ys) in
        let all = ap (times_of s) (attempts_at xs entry ys s is) in
        omega (arith, more, self, all)

    -- The second one is in the next block: its beginning is before it.
    record IsBegun (front : List Entry) : Type 0 where
      more : List Entry
      its : IsBlock (front ++ second ∷ more)

    begun : (n : ℕ) (entries front after : List Entry) → 0 < times_of s block → AreBlocks n entries → entries ≡ front ++ second ∷ after → times_of s (attempts_in front) ≡ 0 → IsBegun front
    begun zero entries front after has none is without =
        let times = times_in front second after at_second in
        let empty = ap (λ es. times_of s (attempts_in es)) (sym is ∙ none) in
        absurd (omega (arith, times, empty))
    begun (suc n) entries front after has blocks is without = by (lies blocks.0 blocks.1 front second after (sym blocks.4 ∙ is)) where
      by : IsPast blocks.0 blocks.1 front second after ⊎ IsWithin blocks.0 blocks.1 front second after → IsBegun front
      by (inl past) =
          let front_is = ap (λ es. times_of s (attempts_in es)) past.front_is in
          let apart = ap (times_of s) (attempts_more blocks.0 past.more) in
          let sum = times_more s (attempts_in blocks.0) (attempts_in past.more) in
          let whole = ap (times_of s) (blocks.2).attempts in
          absurd (omega (arith, has, without, front_is, apart, sum, whole))
      by (inr within) = record { more = within.more; its = subst IsBlock within.first_is blocks.2 }

    between_is : (front back between : List Entry) → IsBlock (front ++ first ∷ back) → (start : List Entry) → between ≡ back ++ start → IsBegun start → IsBetween between
    between_is front back between block_is start is begun_so = subst IsBetween (sym is) (record {
      each = λ o. subst (λ (l : List CircuitSocket). times_of o l ≤ 1) (sym (attempts_more back start))
          (once_around s block (attempts_in front) (attempts_in back) (attempts_in start) (attempts_in begun_so.more) once (sym block_is.attempts ∙ attempts_at front first back s at_first)
          (sym begun_so.its.attempts ∙ attempts_at start second begun_so.more s at_second) o);
      few =
          let both = taken_more back start in
          let one = taken_back front first back in
          let two = taken_front start second begun_so.more in
          let few = block_is.few in
          let fewer = begun_so.its.few in
          omega (arith, both, one, two, few, fewer);
    })

    in_one : (front back : List Entry) (n : ℕ) (others between after : List Entry) → IsBlock (front ++ first ∷ back) → AreBlocks n others → between ++ second ∷ after ≡ back ++ others
        → times_of s (attempts_in between) ≡ 0 → IsBetween between
    in_one front back n others between after its blocks is without = by (lies back others between second after (sym is)) where
      here : times_of s block ≡ suc (times_of s (attempts_in front) + times_of s (attempts_in back))
      here = ap (times_of s) (sym its.attempts) ∙ times_in front first back at_first

      by : IsPast back others between second after ⊎ IsWithin back others between second after → IsBetween between
      by (inl past) =
          let front_is = ap (λ es. times_of s (attempts_in es)) past.front_is in
          let apart = ap (times_of s) (attempts_more back past.more) in
          let sum = times_more s (attempts_in back) (attempts_in past.more) in
          between_is front back between its past.more past.front_is
          (begun n others past.more after (omega (arith, here)) blocks past.second_is (omega (arith, without, front_is, apart, sum)))
      by (inr within) =
          let twice = times_in between second within.more at_second in
          let back_is = ap (λ es. times_of s (attempts_in es)) within.first_is in
          let only = once s in
          absurd (omega (arith, here, twice, back_is, only))

    pub in_turn : (n : ℕ) (entries before between after : List Entry) → AreBlocks n entries → entries ≡ before ++ first ∷ (between ++ second ∷ after) → times_of s (attempts_in between) ≡ 0 → IsBetween between
    in_turn zero entries before between after none is without =
        let times = times_in before first (between ++ second ∷ after) at_first in
        let empty = ap (λ es. times_of s (attempts_in es)) (sym is ∙ none) in
        absurd (omega (arith, times, empty))
    in_turn (suc n) entries before between after blocks is without =
        by (λ more second_is. in_turn n blocks.1 more between after blocks.3 second_is without) (lies blocks.0 blocks.1 before first (between ++ second ∷ after) (sym blocks.4 ∙ is)) where
          by : ((more : List Entry) → blocks.1 ≡ more ++ first ∷ (between ++ second ∷ after) → IsBetween between)
              → IsPast blocks.0 blocks.1 before first (between ++ second ∷ after) ⊎ IsWithin blocks.0 blocks.1 before first (between ++ second ∷ after) → IsBetween between
          by later (inl past) = later past.more past.second_is
          by later (inr within) = in_one before within.more n blocks.1 between after (subst IsBlock within.first_is blocks.2) blocks.3 within.rest_is without
