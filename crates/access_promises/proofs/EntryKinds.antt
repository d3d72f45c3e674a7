-- Which part of a round an entry is of.
use Rattle.std.proofs.Common.{◌≡◌, ◌∙◌, ℕ, ◌==◌, false, List, [], ◌∷◌, ◌++◌, refl, ap}
use Rattle.std.specs.Prelude.{⊤, Option, None}
use Rattle.std.specs.List.{cons_option, filter_map}
use Rattle.config.specs.Topology.{Topology}
use Rattle.udp.specs.History.{Entry, Took, Failed, Empty, Sent, Ticked, Refused, Read, Monotonic}
use Rattle.udp.specs.declared.history.Role.TheVariants.{Circuit, Server, Relay}
use Rattle.access.specs.Polling.{delivery_in}
use Rattle.access_promises.specs.Own.{own_datagram, own_frame, sent_down, sent_reply, sent_up}
use Rattle.access_promises.specs.Turns.{turns_after}
use Rattle.access_promises.proofs.Tried.{AddsUp}

-- 0 a clock is read, 1 the circuits' sockets, 2 the server's are tried, 3 its replies, 4 the relays' sockets, 5 the round ends
abbrev pub kind : Entry → ℕ
kind (Took (Circuit k proto) from bytes) = 1
kind (Took (Server proto) from bytes) = 2
kind (Took (Relay r) from bytes) = 4
kind (Failed (Circuit k proto)) = 1
kind (Failed (Server proto)) = 2
kind (Failed (Relay r)) = 4
kind (Empty (Circuit k proto)) = 1
kind (Empty (Server proto)) = 2
kind (Empty (Relay r)) = 4
kind (Sent (Circuit k proto) to bytes accepted) = 4
kind (Sent (Server proto) to bytes accepted) = 3
kind (Sent (Relay r) to bytes accepted) = 1
kind (Ticked now) = 5
kind (Refused socket at) = 6
kind (Read time) = 0
kind (Monotonic time) = 0

abbrev pub AreOf : ℕ → List Entry → Type 0
AreOf n [] = ⊤
AreOf n (entry ∷ entries) = (kind entry ≡ n) × AreOf n entries

pub kinds_more : (n : ℕ) (xs ys : List Entry) → AreOf n xs → AreOf n ys → AreOf n (xs ++ ys)
kinds_more n [] ys one two = two
kinds_more n (x ∷ xs) ys one two = (one.0, kinds_more n xs ys one.1 two)

pub kinds_add : (n : ℕ) → AddsUp (AreOf n)
kinds_add n = record { none = tt; more = kinds_more n }

-- what comes from entries of one kind alone does not come from those of another
pub skipped : {X : Type 0} (f : Entry → Option X) (m n : ℕ) → ((entry : Entry) → (kind entry == m) ≡ false → f entry ≡ None) → (n == m) ≡ false → (xs : List Entry) → AreOf n xs → filter_map f xs ≡ []
skipped f m n only other [] of = refl
skipped f m n only other (x ∷ xs) of = ap (λ o. cons_option o (filter_map f xs)) (only x (ap (λ k. k == m) of.0 ∙ other)) ∙ skipped f m n only other xs of.1

pub frame_only : (c : ℕ) (entry : Entry) → (kind entry == 1) ≡ false → own_frame c entry ≡ None
frame_only c (Took (Circuit k proto) from bytes) apart = absurd cc
frame_only c (Took (Server proto) from bytes) apart = refl
frame_only c (Took (Relay r) from bytes) apart = refl
frame_only c (Failed (Circuit k proto)) apart = absurd cc
frame_only c (Failed (Server proto)) apart = refl
frame_only c (Failed (Relay r)) apart = refl
frame_only c (Empty (Circuit k proto)) apart = absurd cc
frame_only c (Empty (Server proto)) apart = refl
frame_only c (Empty (Relay r)) apart = refl
frame_only c (Sent (Circuit k proto) to bytes accepted) apart = refl
frame_only c (Sent (Server proto) to bytes accepted) apart = refl
frame_only c (Sent (Relay r) to bytes accepted) apart = absurd cc
frame_only c (Ticked now) apart = refl
frame_only c (Refused socket at) apart = refl
frame_only c (Read time) apart = refl
frame_only c (Monotonic time) apart = refl

pub up_only : (topology : Topology) (entry : Entry) → (kind entry == 1) ≡ false → sent_up topology entry ≡ None
up_only topology (Took (Circuit k proto) from bytes) apart = absurd cc
up_only topology (Took (Server proto) from bytes) apart = refl
up_only topology (Took (Relay r) from bytes) apart = refl
up_only topology (Failed (Circuit k proto)) apart = absurd cc
up_only topology (Failed (Server proto)) apart = refl
up_only topology (Failed (Relay r)) apart = refl
up_only topology (Empty (Circuit k proto)) apart = absurd cc
up_only topology (Empty (Server proto)) apart = refl
up_only topology (Empty (Relay r)) apart = refl
up_only topology (Sent (Circuit k proto) to bytes accepted) apart = refl
up_only topology (Sent (Server proto) to bytes accepted) apart = refl
up_only topology (Sent (Relay r) to bytes accepted) apart = absurd cc
up_only topology (Ticked now) apart = refl
up_only topology (Refused socket at) apart = refl
up_only topology (Read time) apart = refl
up_only topology (Monotonic time) apart = refl

pub delivery_only : (moment : ℕ) (entry : Entry) → (kind entry == 2) ≡ false → delivery_in moment entry ≡ None
delivery_only moment (Took (Circuit k proto) from bytes) apart = refl
delivery_only moment (Took (Server proto) from bytes) apart = absurd cc
delivery_only moment (Took (Relay r) from bytes) apart = refl
delivery_only moment (Failed (Circuit k proto)) apart = refl
delivery_only moment (Failed (Server proto)) apart = absurd cc
delivery_only moment (Failed (Relay r)) apart = refl
delivery_only moment (Empty (Circuit k proto)) apart = refl
delivery_only moment (Empty (Server proto)) apart = absurd cc
delivery_only moment (Empty (Relay r)) apart = refl
delivery_only moment (Sent (Circuit k proto) to bytes accepted) apart = refl
delivery_only moment (Sent (Server proto) to bytes accepted) apart = refl
delivery_only moment (Sent (Relay r) to bytes accepted) apart = refl
delivery_only moment (Ticked now) apart = refl
delivery_only moment (Refused socket at) apart = refl
delivery_only moment (Read time) apart = refl
delivery_only moment (Monotonic time) apart = refl

pub reply_only : (entry : Entry) → (kind entry == 3) ≡ false → sent_reply entry ≡ None
reply_only (Took (Circuit k proto) from bytes) apart = refl
reply_only (Took (Server proto) from bytes) apart = refl
reply_only (Took (Relay r) from bytes) apart = refl
reply_only (Failed (Circuit k proto)) apart = refl
reply_only (Failed (Server proto)) apart = refl
reply_only (Failed (Relay r)) apart = refl
reply_only (Empty (Circuit k proto)) apart = refl
reply_only (Empty (Server proto)) apart = refl
reply_only (Empty (Relay r)) apart = refl
reply_only (Sent (Circuit k proto) to bytes accepted) apart = refl
reply_only (Sent (Server proto) to bytes accepted) apart = absurd cc
reply_only (Sent (Relay r) to bytes accepted) apart = refl
reply_only (Ticked now) apart = refl
reply_only (Refused socket at) apart = refl
reply_only (Read time) apart = refl
reply_only (Monotonic time) apart = refl

pub datagram_only : (topology : Topology) (c : ℕ) (entry : Entry) → (kind entry == 4) ≡ false → own_datagram topology c entry ≡ None
datagram_only topology c (Took (Circuit k proto) from bytes) apart = refl
datagram_only topology c (Took (Server proto) from bytes) apart = refl
datagram_only topology c (Took (Relay r) from bytes) apart = absurd cc
datagram_only topology c (Failed (Circuit k proto)) apart = refl
datagram_only topology c (Failed (Server proto)) apart = refl
datagram_only topology c (Failed (Relay r)) apart = absurd cc
datagram_only topology c (Empty (Circuit k proto)) apart = refl
datagram_only topology c (Empty (Server proto)) apart = refl
datagram_only topology c (Empty (Relay r)) apart = absurd cc
datagram_only topology c (Sent (Circuit k proto) to bytes accepted) apart = absurd cc
datagram_only topology c (Sent (Server proto) to bytes accepted) apart = refl
datagram_only topology c (Sent (Relay r) to bytes accepted) apart = refl
datagram_only topology c (Ticked now) apart = refl
datagram_only topology c (Refused socket at) apart = refl
datagram_only topology c (Read time) apart = refl
datagram_only topology c (Monotonic time) apart = refl

pub down_only : (c : ℕ) (entry : Entry) → (kind entry == 4) ≡ false → sent_down c entry ≡ None
down_only c (Took (Circuit k proto) from bytes) apart = refl
down_only c (Took (Server proto) from bytes) apart = refl
down_only c (Took (Relay r) from bytes) apart = absurd cc
down_only c (Failed (Circuit k proto)) apart = refl
down_only c (Failed (Server proto)) apart = refl
down_only c (Failed (Relay r)) apart = absurd cc
down_only c (Empty (Circuit k proto)) apart = refl
down_only c (Empty (Server proto)) apart = refl
down_only c (Empty (Relay r)) apart = absurd cc
down_only c (Sent (Circuit k proto) to bytes accepted) apart = absurd cc
down_only c (Sent (Server proto) to bytes accepted) apart = refl
down_only c (Sent (Relay r) to bytes accepted) apart = refl
down_only c (Ticked now) apart = refl
down_only c (Refused socket at) apart = refl
down_only c (Read time) apart = refl
down_only c (Monotonic time) apart = refl

-- a round goes on
pub goes_on : (before : List Entry) (entry : Entry) (entries : List Entry) → (kind entry == 5) ≡ false → turns_after before (entry ∷ entries) ≡ turns_after (before ++ entry ∷ []) entries
goes_on before (Took socket from bytes) entries apart = refl
goes_on before (Failed socket) entries apart = refl
goes_on before (Empty socket) entries apart = refl
goes_on before (Sent socket to bytes accepted) entries apart = refl
goes_on before (Ticked now) entries apart = absurd cc
goes_on before (Refused socket at) entries apart = refl
goes_on before (Read time) entries apart = refl
goes_on before (Monotonic time) entries apart = refl
