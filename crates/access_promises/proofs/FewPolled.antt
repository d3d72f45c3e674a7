-- The server takes all that waits at its sockets, and all of it is from relays.
use Rattle.std.proofs.Common.{inl, inr, ◌≡◌, ℕ, suc, ◌-◌, ◌≤◌, ◌==◌, Bool, true, false, List, [], ◌∷◌, length, drop, refl, sym, ap, subst, eqb-true, arith}
use Rattle.std.specs.Prelude.{◌⊎◌, Some, None, All, if◌then◌else◌}
use Rattle.std.proofs.lemmas.List.Elements.{All-cons, All-drop, All-head, All-nil}
use Rattle.types.specs.Delivery.{DeliveryValue, delivery}
use Rattle.types.specs.declared.addr.Source.{Source}
use Rattle.types.specs.declared.dest.Proto.{Proto}
use Rattle.types.specs.declared.dest.Proto.TheVariants.{V4, V6}
use Rattle.config.specs.Topology.{Topology}
use Rattle.udp.specs.History.{Entry, Took, Failed, Empty, Sent, Ticked, Refused, Read, Monotonic}
use Rattle.udp.specs.declared.history.Role.TheVariants.{Circuit, Server, Relay}
use Rattle.access.specs.Polling.{AreTries, IsPolled, after_tries, after_try, again, begun, deliveries_in, may_wait, next_of, other, waiting_at}
use Rattle.access.specs.declared.polling.Polling.{Polling}
use Rattle.access.specs.declared.polling.Waiting.{Waiting}
use Rattle.access.specs.declared.polling.Waiting.TheVariants as polled
use Rattle.access_promises.specs.Waiting.{Underway, first}
use Rattle.access_promises.proofs.FewWait.{FewWait, IsFromRelay, IsOurs}
use Rattle.access_promises.proofs.Queues.{AreFair, AtTicks, Leads, Queues, after, after_all}

-- where the datagrams of a batch come from, and how many they are
pub record AreFew (topology : Topology) (most : ℕ) (taken : List DeliveryValue) : Type 0 where
  pub many : length taken ≤ most
  pub from : All (λ (d : DeliveryValue). IsFromRelay topology (Some d.source)) taken

-- at a socket that is not tried again nothing waits
abbrev IsKnown : Polling → Queues → Type 0
IsKnown p q = (proto : Proto) → may_wait (waiting_at proto p) ≡ false → q (Server proto) ≡ []

-- ---- one that waits is taken

record IsTaken (topology : Topology) (from : Source) (queue : List Underway) : Type 0 where
  less : length queue ≡ suc (length (drop 1 queue))
  ours : IsFromRelay topology (Some from)

taken_first : (topology : Topology) (from : Source) (bytes : List ℕ) (queue : List Underway) → first queue ≡ Some (record { from = Some from; bytes = bytes }) → All (IsOurs topology) queue → IsTaken topology from queue
taken_first topology from bytes [] is ours = absurd cc
taken_first topology from bytes (x ∷ queue) is ours =
    let its : x.from ≡ Some from = same_from x is in
    record { less = refl; ours = subst (IsFromRelay topology) its (All-head (IsOurs topology) x queue ours) }
  where
    same_from : (u : Underway) → Some u ≡ Some (record { from = Some from; bytes = bytes }) → u.from ≡ Some from
    same_from u same = let both : u ≡ record { from = Some from; bytes = bytes } = cc in ap (λ (v : Underway). v.from) both

drop_none : (queue : List Underway) → queue ≡ [] → drop 1 queue ≡ []
drop_none queue none = ap (drop 1) none

not_again : (w : Waiting) → may_wait (again w) ≡ false → may_wait w ≡ false
not_again polled.Perhaps never = absurd cc
not_again polled.No never = absurd cc
not_again polled.Lost never = refl

module _ (topology : Topology) (Rest : Queues → Type 0) where
  took_few : (up down : ℕ) (proto : Proto) (from : Source) (bytes : List ℕ) (q : Queues) → first (q (Server proto)) ≡ Some (record { from = Some from; bytes = bytes }) → FewWait topology up down q
      → (1 ≤ up) × FewWait topology (up - 1) down (after topology (Took (Server proto) from bytes) q)
  took_few up down V4 from bytes q is few =
      let less = (taken_first topology from bytes (q (Server V4)) is (few.ours V4)).less in
      let least = few.at_server in (
        omega (arith, less, least),
        record { at_server = omega (arith, less, least); at_relays = few.at_relays; ours = ours },
      )
    where
      ours : (own : Proto) → All (IsOurs topology) (after topology (Took (Server V4) from bytes) q (Server own))
      ours V4 = All-drop (IsOurs topology) 1 (q (Server V4)) (few.ours V4)
      ours V6 = few.ours V6
  took_few up down V6 from bytes q is few =
      let less = (taken_first topology from bytes (q (Server V6)) is (few.ours V6)).less in
      let least = few.at_server in (
        omega (arith, less, least),
        record { at_server = omega (arith, less, least); at_relays = few.at_relays; ours = ours },
      )
    where
      ours : (own : Proto) → All (IsOurs topology) (after topology (Took (Server V6) from bytes) q (Server own))
      ours V4 = few.ours V4
      ours V6 = All-drop (IsOurs topology) 1 (q (Server V6)) (few.ours V6)

  took_known : (p : Polling) (proto : Proto) (from : Source) (bytes : List ℕ) (q : Queues) → IsKnown p q → IsKnown (after_try (Took (Server proto) from bytes) p) (after topology (Took (Server proto) from bytes) q)
  took_known p V4 from bytes q known V4 never = drop_none (q (Server V4)) (known V4 (not_again p.v4 never))
  took_known p V4 from bytes q known V6 never = known V6 (not_again p.v6 never)
  took_known p V6 from bytes q known V4 never = known V4 (not_again p.v4 never)
  took_known p V6 from bytes q known V6 never = drop_none (q (Server V6)) (known V6 (not_again p.v6 never))

  empty_known : (p : Polling) (proto : Proto) (q : Queues) → q (Server proto) ≡ [] → IsKnown p q → IsKnown (after_try (Empty (Server proto)) p) q
  empty_known p V4 q none known V4 never = none
  empty_known p V4 q none known V6 never = known V6 never
  empty_known p V6 q none known V4 never = known V4 never
  empty_known p V6 q none known V6 never = none

  empty_left : (proto : Proto) (p : Polling) → (after_try (Empty (Server proto)) p).left ≡ p.left
  empty_left V4 p = refl
  empty_left V6 p = refl

  -- ---- the end

  ended : (none one two : Bool) (own more : Proto) → (if none then None else if one then Some own else if two then Some more else None) ≡ None → (none ≡ true) ⊎ ((one ≡ false) × (two ≡ false))
  ended true one two own more is = inl refl
  ended false true two own more is = absurd cc
  ended false false true own more is = absurd cc
  ended false false false own more is = inr (refl, refl)

  both_known : (p : Polling) (q : Queues) (own : Proto) → may_wait (waiting_at own p) ≡ false → may_wait (waiting_at (other own) p) ≡ false → IsKnown p q → (proto : Proto) → q (Server proto) ≡ []
  both_known p q V4 one two known V4 = known V4 one
  both_known p q V4 one two known V6 = known V6 two
  both_known p q V6 one two known V4 = known V4 two
  both_known p q V6 one two known V6 = known V6 one

  end_few : (p : Polling) (up down : ℕ) (q : Queues) → next_of p ≡ None → up ≤ p.left → IsKnown p q → FewWait topology up down q → FewWait topology 0 down q
  end_few p up down q end room known few = by (ended (p.left == 0) (may_wait (waiting_at p.first p)) (may_wait (waiting_at (other p.first) p)) p.first (other p.first) end) where
    by : ((p.left == 0) ≡ true) ⊎ ((may_wait (waiting_at p.first p) ≡ false) × (may_wait (waiting_at (other p.first) p) ≡ false)) → FewWait topology 0 down q
    by (inl full) =
        let left = eqb-true p.left 0 full in
        let least = few.at_server in
        record { at_server = omega (arith, least, room, left); at_relays = few.at_relays; ours = few.ours }
    by (inr (one, two)) =
        let four = ap length (both_known p q p.first one two known V4) in
        let six = ap length (both_known p q p.first one two known V6) in
        record { at_server = omega (arith, four, six); at_relays = few.at_relays; ours = few.ours }

  -- ---- all tries

  pub record HasPolledAll (now up down : ℕ) (entries : List Entry) (q : Queues) : Type 0 where
    pub few : FewWait topology 0 down (after_all topology entries q)
    pub taken : AreFew topology up (deliveries_in now entries)
    pub ticks : AtTicks topology Rest q entries

  polls_then : (now up down : ℕ) (proto : Proto) (from : Source) (bytes : List ℕ) (entries : List Entry) (q : Queues) → 1 ≤ up → IsFromRelay topology (Some from)
      → HasPolledAll now (up - 1) down entries (after topology (Took (Server proto) from bytes) q) → HasPolledAll now up down (Took (Server proto) from bytes ∷ entries) q
  polls_then now up down proto from bytes entries q some ours later = record {
    few = later.few;
    taken = record {
      many = let less = later.taken.many in omega (arith, less, some);
      from = All-cons (λ (d : DeliveryValue). IsFromRelay topology (Some d.source)) (delivery proto from now bytes) (deliveries_in now entries) ours later.taken.from;
    };
    ticks = (tt, later.ticks);
  }

  polls : (now : ℕ) (p : Polling) (entries : List Entry) (up down : ℕ) (q : Queues) → AreTries p entries → next_of (after_tries entries p) ≡ None → AreFair topology q entries → up ≤ p.left → IsKnown p q → FewWait topology up down q
      → HasPolledAll now up down entries q
  polls now p [] up down q tries end fair room known few = record { few = end_few p up down q end room known few; taken = record { many = omega arith; from = All-nil (λ (d : DeliveryValue). IsFromRelay topology (Some d.source)) }; ticks = tt }
  polls now p (Took (Server proto) from bytes ∷ entries) up down q tries end fair room known few =
      let took = took_few up down proto from bytes q fair.0 few in
      polls_then now up down proto from bytes entries q took.0 (taken_first topology from bytes (q (Server proto)) fair.0 (few.ours proto)).ours
      (polls now (after_try (Took (Server proto) from bytes) p) entries (up - 1) down (after topology (Took (Server proto) from bytes) q) tries.1 end fair.1 (let some = took.0 in omega (arith, room, some))
      (took_known p proto from bytes q known) took.1)
  polls now p (Empty (Server proto) ∷ entries) up down q tries end fair room known few =
      let later = polls now (after_try (Empty (Server proto)) p) entries up down q tries.1 end fair.1 (subst (λ n. up ≤ n) (sym (empty_left proto p)) room) (empty_known p proto q fair.0 known) few in
      record { few = later.few; taken = later.taken; ticks = (tt, later.ticks) }
  polls now p (Failed (Server proto) ∷ entries) up down q tries end fair room known few = absurd fair.0
  polls now p (Took (Circuit c proto) from bytes ∷ entries) up down q tries end fair room known few = absurd (let not = tries.0.2 in cc)
  polls now p (Took (Relay r) from bytes ∷ entries) up down q tries end fair room known few = absurd (let not = tries.0.2 in cc)
  polls now p (Empty (Circuit c proto) ∷ entries) up down q tries end fair room known few = absurd (let not = tries.0.2 in cc)
  polls now p (Empty (Relay r) ∷ entries) up down q tries end fair room known few = absurd (let not = tries.0.2 in cc)
  polls now p (Failed (Circuit c proto) ∷ entries) up down q tries end fair room known few = absurd (let not = tries.0.2 in cc)
  polls now p (Failed (Relay r) ∷ entries) up down q tries end fair room known few = absurd (let not = tries.0.2 in cc)
  polls now p (Sent from to bytes accepted ∷ entries) up down q tries end fair room known few = absurd (let not = tries.0.2 in cc)
  polls now p (Ticked moment ∷ entries) up down q tries end fair room known few = absurd (let not = tries.0.2 in cc)
  polls now p (Refused socket at ∷ entries) up down q tries end fair room known few = absurd (let not = tries.0.2 in cc)
  polls now p (Read time ∷ entries) up down q tries end fair room known few = absurd (let not = tries.0.2 in cc)
  polls now p (Monotonic time ∷ entries) up down q tries end fair room known few = absurd (let not = tries.0.2 in cc)

  -- from the beginning of a batch
  begins_known : (most : ℕ) (own : Proto) (q : Queues) → IsKnown (begun most own) q
  begins_known most own q V4 never = absurd cc
  begins_known most own q V6 never = absurd cc

  abbrev pub Batch : ℕ → ℕ → List DeliveryValue → Queues → Type 0
  Batch most down taken q = AreFew topology most taken × FewWait topology 0 down q

  pub polled_leads : (now most up down : ℕ) (own next : Proto) (entries : List Entry) → up ≤ most → IsPolled most own next entries → Leads topology Rest (FewWait topology up down) (Batch up down (deliveries_in now entries)) entries
  polled_leads now most up down own next entries room polled q fair few =
      let all = polls now (begun most own) entries up down q polled.tries polled.done fair room (begins_known most own q) few in
      record { ends = (all.taken, all.few); ticks = all.ticks }
