-- Tries of the server's two sockets, one after the other.
use Rattle.std.proofs.Common.{inl, inr, ◌≡◌, ◌∙◌, ◌+◌, ◌*◌, ◌<◌, ◌≤◌, ◌==◌, ℕ, zero, suc, Bool, true, false, List, [], ◌∷◌, ◌++◌, length, refl, sym, ap, subst, arith, append_assoc}
use Rattle.std.specs.Prelude.{◌⊎◌, Some, None, if◌then◌else◌}
use Rattle.std.proofs.lemmas.List.Elements.{filter_map-append}
use Rattle.std.proofs.lemmas.Option.{same_Some}
use Rattle.types.specs.declared.dest.Proto.{Proto}
use Rattle.types.specs.declared.dest.Proto.TheVariants.{V4, V6}
use Rattle.udp.specs.History.{Entry, Took, Empty, Failed, Sent, Ticked, Refused, Read, Monotonic, attempt_entry, with_entry}
use Rattle.udp.specs.declared.datagram_socket.Attempt.{Attempt}
use Rattle.udp.specs.declared.datagram_socket.Attempt.TheVariants as attempt
use Rattle.udp.specs.declared.history.Role.{Role}
use Rattle.udp.specs.declared.history.Role.TheVariants.{Circuit, Server, Relay}
use Rattle.access.specs.Taken.{HasTriedNext, after_attempt, all_delivered, attempt_datagrams, delivered}
use Rattle.access.specs.Polling.{AreTries, IsNextTry, after_tries, after_try, again, begun, deliveries_in, delivery_in, may_wait, next_of, other, server_socket, waiting_at}
use Rattle.access.specs.declared.datagrams.Datagram.{Datagram}
use Rattle.access.specs.declared.polling.Polling.{Polling}
use Rattle.access.specs.declared.polling.Waiting.{Waiting}
use Rattle.access.specs.declared.polling.Waiting.TheVariants as waiting

-- Sockets were tried from the beginning of a turn on.
pub record HasPolled (most : ℕ) (first : Proto) (state : Polling) (taken : List Datagram) (old new : List Entry) : Type 0 where
  pub entries : List Entry
  pub tries : AreTries (begun most first) entries
  pub state_is : state ≡ after_tries entries (begun most first)
  pub history : new ≡ old ++ entries
  pub datagrams : (now : ℕ) → all_delivered now taken ≡ deliveries_in now entries

-- ---- one try more

tries_more : (p : Polling) (entries : List Entry) (entry : Entry) → AreTries p entries → IsNextTry (after_tries entries p) entry → AreTries p (entries ++ entry ∷ [])
tries_more p [] entry tries next = (next, tt)
tries_more p (e ∷ entries) entry tries next = (tries.0, tries_more (after_try e p) entries entry tries.1 next)

after_more : (p : Polling) (entries : List Entry) (entry : Entry) → after_tries (entries ++ entry ∷ []) p ≡ after_try entry (after_tries entries p)
after_more p [] entry = refl
after_more p (e ∷ entries) entry = after_more (after_try e p) entries entry

pub polled_more : (most : ℕ) (first proto : Proto) (before after : Polling) (taken more : List Datagram) (old middle new : List Entry)
    → HasPolled most first before taken old middle → HasTriedNext proto before after taken more middle new → HasPolled most first after more old new
polled_more most first proto before after taken more old middle new polled tried = record {
  entries = polled.entries ++ tried.entry ∷ [];
  tries = tries_more (begun most first) polled.entries tried.entry polled.tries (subst (λ p. IsNextTry p tried.entry) polled.state_is tried.next);
  state_is = tried.state ∙ ap (after_try tried.entry) polled.state_is ∙ sym (after_more (begun most first) polled.entries tried.entry);
  history = tried.history ∙ ap (λ h. h ++ tried.entry ∷ []) polled.history ∙ append_assoc old polled.entries (tried.entry ∷ []);
  datagrams = λ now. tried.datagrams now ∙ ap (λ ds. ds ++ deliveries_in now (tried.entry ∷ [])) (polled.datagrams now) ∙ sym (filter_map-append (delivery_in now) polled.entries (tried.entry ∷ []));
}

-- ---- by what came of a try

tried_at : (proto : Proto) (buffer : List ℕ) (made : Attempt) (p : Polling) → (server_socket (attempt_entry (Server proto) buffer made) ≡ Some proto)
    × (after_attempt proto made p ≡ after_try (attempt_entry (Server proto) buffer made) p)
    × ((now : ℕ) → all_delivered now (attempt_datagrams proto buffer made) ≡ deliveries_in now (attempt_entry (Server proto) buffer made ∷ []))
tried_at proto buffer (attempt.Took len from) p = (refl, refl, λ now. refl)
tried_at proto buffer attempt.Empty p = (refl, refl, λ now. refl)
tried_at proto buffer attempt.Failed p = (refl, refl, λ now. refl)

delivered_append : (now : ℕ) (xs ys : List Datagram) → all_delivered now (xs ++ ys) ≡ all_delivered now xs ++ all_delivered now ys
delivered_append now [] ys = refl
delivered_append now (x ∷ xs) ys = ap (λ ds. delivered now x ∷ ds) (delivered_append now xs ys)

pub tried_next : (proto : Proto) (socket : Role) (buffer : List ℕ) (made : Attempt) (before after : Polling) (taken more : List Datagram) (old new : List Entry) → next_of before ≡ Some proto → socket ≡ Server proto
    → new ≡ with_entry (attempt_entry socket buffer made) old → more ≡ taken ++ attempt_datagrams proto buffer made → after ≡ after_attempt proto made before → HasTriedNext proto before after taken more old new
tried_next proto socket buffer made before after taken more old new next own entry datagrams state =
    let its = tried_at proto buffer made before in
    record {
      entry = attempt_entry (Server proto) buffer made;
      next = (proto, next, its.0);
      state = state ∙ its.1;
      history = entry ∙ ap (λ s. with_entry (attempt_entry s buffer made) old) own;
      datagrams = λ now. ap (all_delivered now) datagrams ∙ delivered_append now taken (attempt_datagrams proto buffer made) ∙ ap (λ ds. all_delivered now taken ++ ds) (its.2 now);
    }

-- ---- the tries come to an end

abbrev weight : Waiting → ℕ
weight waiting.Perhaps = 1
weight waiting.No = 0
weight waiting.Lost = 0

-- more than how many tries are left
abbrev pub tries_left : Polling → ℕ
tries_left p = 3 * p.left + (weight p.v4 + weight p.v6)

light : (w : Waiting) → weight w ≤ 1
light waiting.Perhaps = omega arith
light waiting.No = omega arith
light waiting.Lost = omega arith

heavy : (w : Waiting) → may_wait w ≡ true → weight w ≡ 1
heavy waiting.Perhaps may = refl
heavy waiting.No may = absurd cc
heavy waiting.Lost may = absurd cc

some_left : (n : ℕ) → (n == 0) ≡ false → 0 < n
some_left zero none = absurd cc
some_left (suc n) none = omega arith

chosen : (none one two : Bool) (first second proto : Proto) → (if none then None else if one then Some first else if two then Some second else None) ≡ Some proto
    → (none ≡ false) × (((first ≡ proto) × (one ≡ true)) ⊎ ((second ≡ proto) × (two ≡ true)))
chosen true one two first second proto is = absurd cc
chosen false true two first second proto is = (refl, inl (same_Some first proto is, refl))
chosen false false true first second proto is = (refl, inr (same_Some second proto is, refl))
chosen false false false first second proto is = absurd cc

next_is : (p : Polling) (proto : Proto) → next_of p ≡ Some proto → (0 < p.left) × (may_wait (waiting_at proto p) ≡ true)
next_is p proto is = by (chosen (p.left == 0) (may_wait (waiting_at p.first p)) (may_wait (waiting_at (other p.first) p)) p.first (other p.first) proto is) where
  by : ((p.left == 0) ≡ false) × (((p.first ≡ proto) × (may_wait (waiting_at p.first p) ≡ true)) ⊎ ((other p.first ≡ proto) × (may_wait (waiting_at (other p.first) p) ≡ true)))
      → (0 < p.left) × (may_wait (waiting_at proto p) ≡ true)
  by (some, inl (same, may)) = (some_left p.left some, subst (λ t. may_wait (waiting_at t p) ≡ true) same may)
  by (some, inr (same, may)) = (some_left p.left some, subst (λ t. may_wait (waiting_at t p) ≡ true) same may)

length_more : (xs ys : List Datagram) → length (xs ++ ys) ≡ length xs + length ys
length_more [] ys = omega arith
length_more (x ∷ xs) ys = let inside : length (xs ++ ys) ≡ length xs + length ys = length_more xs ys in omega (arith, inside)

room_at : (proto : Proto) (buffer : List ℕ) (made : Attempt) (p : Polling) (taken : List Datagram) → 0 < p.left → length (taken ++ attempt_datagrams proto buffer made) + (after_attempt proto made p).left ≤ length taken + p.left
room_at proto buffer (attempt.Took len from) p taken some = let more = length_more taken (attempt_datagrams proto buffer (attempt.Took len from)) in omega (arith, more, some)
room_at V4 buffer attempt.Empty p taken some = let more = length_more taken [] in omega (arith, more)
room_at V6 buffer attempt.Empty p taken some = let more = length_more taken [] in omega (arith, more)
room_at V4 buffer attempt.Failed p taken some = let more = length_more taken [] in omega (arith, more)
room_at V6 buffer attempt.Failed p taken some = let more = length_more taken [] in omega (arith, more)

-- what may still be taken has room
pub room_after : (proto : Proto) (buffer : List ℕ) (made : Attempt) (before after : Polling) (taken more : List Datagram) (most : ℕ) → next_of before ≡ Some proto → more ≡ taken ++ attempt_datagrams proto buffer made
    → after ≡ after_attempt proto made before → length taken + before.left ≤ most → length more + after.left ≤ most
room_after proto buffer made before after taken more most next datagrams state room =
    let one = room_at proto buffer made before taken (next_is before proto next).0 in
    let both = subst (λ (p : Polling). length (taken ++ attempt_datagrams proto buffer made) + p.left ≤ length taken + before.left) (sym state) one in
    let all = subst (λ (ds : List Datagram). length ds + after.left ≤ length taken + before.left) (sym datagrams) both in
    omega (arith, all, room)

-- a try of a socket at which a datagram may wait
fewer_by : (p : Polling) (entry : Entry) (proto : Proto) → 0 < p.left → may_wait (waiting_at proto p) ≡ true → server_socket entry ≡ Some proto → tries_left (after_try entry p) < tries_left p
fewer_by p (Took (Server t) from bytes) proto left may is = let a = light (again p.v4) in let b = light (again p.v6) in omega (arith, a, b, left)
fewer_by p (Empty (Server V4)) V4 left may is = let w = heavy p.v4 may in omega (arith, w)
fewer_by p (Empty (Server V6)) V6 left may is = let w = heavy p.v6 may in omega (arith, w)
fewer_by p (Failed (Server V4)) V4 left may is = let w = heavy p.v4 may in omega (arith, w)
fewer_by p (Failed (Server V6)) V6 left may is = let w = heavy p.v6 may in omega (arith, w)
fewer_by p (Empty (Server V4)) V6 left may is = absurd cc
fewer_by p (Empty (Server V6)) V4 left may is = absurd cc
fewer_by p (Failed (Server V4)) V6 left may is = absurd cc
fewer_by p (Failed (Server V6)) V4 left may is = absurd cc
fewer_by p (Took (Circuit c t) from bytes) proto left may is = absurd cc
fewer_by p (Took (Relay r) from bytes) proto left may is = absurd cc
fewer_by p (Empty (Circuit c t)) proto left may is = absurd cc
fewer_by p (Empty (Relay r)) proto left may is = absurd cc
fewer_by p (Failed (Circuit c t)) proto left may is = absurd cc
fewer_by p (Failed (Relay r)) proto left may is = absurd cc
fewer_by p (Sent role to bytes accepted) proto left may is = absurd cc
fewer_by p (Ticked now) proto left may is = absurd cc
fewer_by p (Refused role at) proto left may is = absurd cc
fewer_by p (Read time) proto left may is = absurd cc
fewer_by p (Monotonic time) proto left may is = absurd cc

pub fewer : (proto : Proto) (before after : Polling) (taken more : List Datagram) (old new : List Entry) → HasTriedNext proto before after taken more old new → tries_left after < tries_left before
fewer proto before after taken more old new tried =
    let one = next_is before tried.next.0 tried.next.1 in
    subst (λ p. tries_left p < tries_left before) (sym tried.state) (fewer_by before tried.entry tried.next.0 one.0 one.1 tried.next.2)
