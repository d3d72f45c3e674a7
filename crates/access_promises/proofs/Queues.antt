-- What waits at all sockets at once, entry by entry.
use Rattle.std.proofs.Common.{◌≡◌, ◌∙◌, ℕ, List, [], ◌∷◌, ◌++◌, true, false, refl, sym, ap, subst, append_assoc, append-nil}
use Rattle.std.specs.Prelude.{⊤, Some}
use Rattle.config.specs.Topology.{Topology}
use Rattle.udp.specs.History.{Entry, Took, Failed, Empty, Sent, Ticked, Refused, Read, Monotonic}
use Rattle.udp.specs.declared.history.Role.{Role}
use Rattle.udp.specs.declared.history.Role.TheVariants.{Circuit, Server, Relay}
use Rattle.counts.specs.Tally.{CircuitFate}
use Rattle.access.specs.Turn.{Both, Tries}
use Rattle.access_promises.specs.Waiting.{IsHonest, LosesNothing, Underway, first, waiting}

abbrev pub Queues : Type 0
Queues = Role → List Underway

-- ---- more entries

pub waiting_more : (topology : Topology) (socket : Role) (queue : List Underway) (xs ys : List Entry) → waiting topology socket queue (xs ++ ys) ≡ waiting topology socket (waiting topology socket queue xs) ys
waiting_more topology socket queue [] ys = refl
waiting_more topology socket queue (Took at from bytes ∷ xs) ys = waiting_more topology socket (waiting topology socket queue (Took at from bytes ∷ [])) xs ys
waiting_more topology socket queue (Failed at ∷ xs) ys = waiting_more topology socket queue xs ys
waiting_more topology socket queue (Empty at ∷ xs) ys = waiting_more topology socket queue xs ys
waiting_more topology socket queue (Sent from to bytes true ∷ xs) ys = waiting_more topology socket (waiting topology socket queue (Sent from to bytes true ∷ [])) xs ys
waiting_more topology socket queue (Sent from to bytes false ∷ xs) ys = waiting_more topology socket queue xs ys
waiting_more topology socket queue (Ticked now ∷ xs) ys = waiting_more topology socket queue xs ys
waiting_more topology socket queue (Refused at source ∷ xs) ys = waiting_more topology socket queue xs ys
waiting_more topology socket queue (Read time ∷ xs) ys = waiting_more topology socket queue xs ys
waiting_more topology socket queue (Monotonic time ∷ xs) ys = waiting_more topology socket queue xs ys

-- what waits after an entry, and after some
abbrev pub after : Topology → Entry → Queues → Queues
after topology entry q = λ socket. waiting topology socket (q socket) (entry ∷ [])

abbrev pub after_all : Topology → List Entry → Queues → Queues
after_all topology [] q = q
after_all topology (entry ∷ entries) q = after_all topology entries (after topology entry q)

pub all_is : (topology : Topology) (entries : List Entry) (q : Queues) (socket : Role) → after_all topology entries q socket ≡ waiting topology socket (q socket) entries
all_is topology [] q socket = refl
all_is topology (entry ∷ entries) q socket = all_is topology entries (after topology entry q) socket ∙ sym (waiting_more topology socket (q socket) (entry ∷ []) entries)

after_more : (topology : Topology) (xs ys : List Entry) (q : Queues) → after_all topology (xs ++ ys) q ≡ after_all topology ys (after_all topology xs q)
after_more topology [] ys q = refl
after_more topology (x ∷ xs) ys q = after_more topology xs ys (after topology x q)

-- ---- the system gives what waits

abbrev pub IsFair : Queues → Entry → Type 0
IsFair q (Took (Server proto) from bytes) = first (q (Server proto)) ≡ Some (record { from = Some from; bytes = bytes })
IsFair q (Took (Relay r) from bytes) = first (q (Relay r)) ≡ Some (record { from = Some from; bytes = bytes })
IsFair q (Empty (Server proto)) = q (Server proto) ≡ []
IsFair q (Empty (Relay r)) = q (Relay r) ≡ []
IsFair q (Failed (Server proto)) = ⊥
IsFair q (Failed (Relay r)) = ⊥
IsFair q entry = ⊤

abbrev pub AreFair : Topology → Queues → List Entry → Type 0
AreFair topology q [] = ⊤
AreFair topology q (entry ∷ entries) = IsFair q entry × AreFair topology (after topology entry q) entries

is_fair : (topology : Topology) (before : List Entry) (entry : Entry) → IsHonest topology before entry → IsFair (λ socket. waiting topology socket [] before) entry
is_fair topology before (Took (Circuit c proto) from bytes) honest = tt
is_fair topology before (Took (Server proto) from bytes) honest = honest
is_fair topology before (Took (Relay r) from bytes) honest = honest
is_fair topology before (Failed (Circuit c proto)) honest = tt
is_fair topology before (Failed (Server proto)) honest = honest
is_fair topology before (Failed (Relay r)) honest = honest
is_fair topology before (Empty (Circuit c proto)) honest = tt
is_fair topology before (Empty (Server proto)) honest = honest
is_fair topology before (Empty (Relay r)) honest = honest
is_fair topology before (Sent from to bytes accepted) honest = tt
is_fair topology before (Ticked now) honest = tt
is_fair topology before (Refused at source) honest = tt
is_fair topology before (Read time) honest = tt
is_fair topology before (Monotonic time) honest = tt

pub are_fair : (topology : Topology) (before entries : List Entry) → LosesNothing topology before entries → AreFair topology (λ socket. waiting topology socket [] before) entries
are_fair topology before [] loses = tt
are_fair topology before (entry ∷ entries) loses = (
  is_fair topology before entry loses.0,
  subst (λ (q : Queues). AreFair topology q entries) (λ i. λ socket. waiting_more topology socket [] before (entry ∷ []) i) (are_fair topology (before ++ entry ∷ []) entries loses.1),
)

fair_before : (topology : Topology) (xs ys : List Entry) (q : Queues) → AreFair topology q (xs ++ ys) → AreFair topology q xs
fair_before topology [] ys q fair = tt
fair_before topology (x ∷ xs) ys q fair = (fair.0, fair_before topology xs ys (after topology x q) fair.1)

fair_after : (topology : Topology) (xs ys : List Entry) (q : Queues) → AreFair topology q (xs ++ ys) → AreFair topology (after_all topology xs q) ys
fair_after topology [] ys q fair = fair
fair_after topology (x ∷ xs) ys q fair = fair_after topology xs ys (after topology x q) fair.1

-- ---- what holds at each end of a pass

abbrev pub AtTick : (Queues → Type 0) → Queues → Entry → Type 0
AtTick Rest q (Ticked now) = Rest q
AtTick Rest q entry = ⊤

abbrev pub AtTicks : Topology → (Queues → Type 0) → Queues → List Entry → Type 0
AtTicks topology Rest q [] = ⊤
AtTicks topology Rest q (entry ∷ entries) = AtTick Rest q entry × AtTicks topology Rest (after topology entry q) entries

module _ (topology : Topology) (Rest : Queues → Type 0) where
  pub at_tick : (before more : List Entry) (now : ℕ) (q : Queues) → AtTicks topology Rest q (before ++ Ticked now ∷ more) → Rest (after_all topology before q)
  at_tick [] more now q at = at.0
  at_tick (entry ∷ before) more now q at = at_tick before more now (after topology entry q) at.1

  ticks_more : (xs ys : List Entry) (q : Queues) → AtTicks topology Rest q xs → AtTicks topology Rest (after_all topology xs q) ys → AtTicks topology Rest q (xs ++ ys)
  ticks_more [] ys q one two = two
  ticks_more (x ∷ xs) ys q one two = (one.0, ticks_more xs ys (after topology x q) one.1 two)

  -- ---- what some entries make of what waits

  pub record Led (After : Queues → Type 0) (entries : List Entry) (q : Queues) : Type 0 where
    pub ends : After (after_all topology entries q)
    pub ticks : AtTicks topology Rest q entries

  abbrev pub Leads : (Queues → Type 0) → (Queues → Type 0) → List Entry → Type 0
  Leads Before After entries = (q : Queues) → AreFair topology q entries → Before q → Led After entries q

  pub leads_none : (P : Queues → Type 0) → Leads P P []
  leads_none P q fair holds = record { ends = holds; ticks = tt }

  pub leads_weaker : (P Q R : Queues → Type 0) (entries : List Entry) → ((q : Queues) → Q q → R q) → Leads P Q entries → Leads P R entries
  leads_weaker P Q R entries weaker leads q fair holds = let led = leads q fair holds in record { ends = weaker (after_all topology entries q) led.ends; ticks = led.ticks }

  pub leads_then : (P Q R : Queues → Type 0) (xs ys : List Entry) → Leads P Q xs → Leads Q R ys → Leads P R (xs ++ ys)
  leads_then P Q R xs ys one two q fair holds =
      let led = one q (fair_before topology xs ys q fair) holds in
      let more = two (after_all topology xs q) (fair_after topology xs ys q fair) led.ends in
      record { ends = subst R (sym (after_more topology xs ys q)) more.ends; ticks = ticks_more xs ys q led.ticks more.ticks }

  pub leads_both : (P Q R : Queues → Type 0) (First Second : Tries) (entries : List Entry) (outcomes : List CircuitFate) (both : Both First Second entries outcomes)
      → Leads P Q both.before → Leads Q R both.after → Leads P R entries
  leads_both P Q R First Second entries outcomes both one two = subst (Leads P R) (sym both.entries_are) (leads_then P Q R both.before both.after one two)

  -- a history has such entries more
  pub record Adds (P Q : Queues → Type 0) (old new : List Entry) : Type 0 where
    pub entries : List Entry
    pub history : new ≡ old ++ entries
    pub leads : Leads P Q entries

  pub adds_none : (P : Queues → Type 0) (old new : List Entry) → new ≡ old → Adds P P old new
  adds_none P old new same = record { entries = []; history = same ∙ sym (append-nil old); leads = leads_none P }

  pub adds_then : (P Q R : Queues → Type 0) (a b c : List Entry) → Adds P Q a b → Adds Q R b c → Adds P R a c
  adds_then P Q R a b c one two = record {
    entries = one.entries ++ two.entries;
    history = two.history ∙ (ap (λ h. h ++ two.entries) one.history ∙ append_assoc a one.entries two.entries);
    leads = leads_then P Q R one.entries two.entries one.leads two.leads;
  }

  pub adds_weaker : (P Q R : Queues → Type 0) (a b : List Entry) → ((q : Queues) → Q q → R q) → Adds P Q a b → Adds P R a b
  adds_weaker P Q R a b weaker one = record { entries = one.entries; history = one.history; leads = leads_weaker P Q R one.entries weaker one.leads }
