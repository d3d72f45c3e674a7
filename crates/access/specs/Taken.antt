-- The datagrams of a turn in the code. Only proofs need this.
use Rattle.std.specs.Prelude.{◌≡◌, ℕ, List, [], ◌∷◌, ◌++◌, map, take}
use Rattle.types.specs.Delivery.{DeliveryValue, delivery}
use Rattle.types.specs.declared.dest.Proto.{Proto}
use Rattle.udp.specs.History.{Entry}
use Rattle.udp.specs.declared.datagram_socket.Attempt.{Attempt}
use Rattle.udp.specs.declared.datagram_socket.Attempt.TheVariants as attempt
use Rattle.access.specs.Polling.{IsNextTry, IsPolled, after_take, after_try, deliveries_in, with_waiting}
use Rattle.access.specs.declared.datagrams.Datagram.{Datagram}
use Rattle.access.specs.declared.polling.Polling.{Polling}
use Rattle.access.specs.declared.polling.Waiting.TheVariants as waiting
use Rattle.sockets.specs.Sockets.{IsBound}
use Rattle.sockets.specs.declared.sockets.Sockets.{Sockets}
use Rattle.types.specs.declared.dest.Proto.TheVariants.{V4, V6}
use Rattle.udp.specs.declared.history.Role.TheVariants as role

-- a datagram in its buffer, as taken at a moment
abbrev pub delivered : ℕ → Datagram → DeliveryValue
delivered now d = delivery d.proto d.source now (take d.len d.buffer)

-- what came of an attempt into this buffer
abbrev pub attempt_datagrams : Proto → List ℕ → Attempt → List Datagram
attempt_datagrams proto buffer (attempt.Took len from) = record { proto = proto; source = from; len = len; buffer = buffer } ∷ []
attempt_datagrams proto buffer attempt.Empty = []
attempt_datagrams proto buffer attempt.Failed = []

abbrev pub all_delivered : ℕ → List Datagram → List DeliveryValue
all_delivered now = map (delivered now)

-- The server's two sockets have their roles and this history.
pub record AreBoundFor (sockets : Sockets) (history : ℕ) : Type 0 where
  pub listen4 : IsBound sockets.listen4 (role.Server V4) sockets.listen4.at history
  pub listen6 : IsBound sockets.listen6 (role.Server V6) sockets.listen6.at history

-- where a turn stands after an attempt at this socket
abbrev pub after_attempt : Proto → Attempt → Polling → Polling
after_attempt proto (attempt.Took len from) p = after_take proto p
after_attempt proto attempt.Empty p = with_waiting proto waiting.No p
after_attempt proto attempt.Failed p = with_waiting proto waiting.Lost p

-- One of the server's sockets was tried.
pub record HasTriedNext (proto : Proto) (before after : Polling) (taken more : List Datagram) (old new : List Entry) : Type 0 where
  pub entry : Entry
  pub next : IsNextTry before entry
  pub state : after ≡ after_try entry before
  pub history : new ≡ old ++ entry ∷ []
  pub datagrams : (now : ℕ) → all_delivered now more ≡ all_delivered now taken ++ deliveries_in now (entry ∷ [])

-- A turn has taken these datagrams.
pub record HasTaken (most : ℕ) (first next : Proto) (taken : List Datagram) (old new : List Entry) : Type 0 where
  pub entries : List Entry
  pub polled : IsPolled most first next entries
  pub history : new ≡ old ++ entries
  pub datagrams : (now : ℕ) → all_delivered now taken ≡ deliveries_in now entries
