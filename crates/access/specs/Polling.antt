-- In which order a turn takes datagrams from the server's two sockets.
use Rattle.std.specs.Prelude.{◌≡◌, ⊤, ℕ, ◌-◌, ◌==◌, Bool, true, false, if◌then◌else◌, List, [], ◌∷◌, Option, Some, None}
use Rattle.std.specs.List.{filter_map}
use Rattle.types.specs.Delivery.{DeliveryValue, delivery}
use Rattle.types.specs.declared.dest.Proto.{Proto}
use Rattle.types.specs.declared.dest.Proto.TheVariants.{V4, V6}
use Rattle.udp.specs.History.{Entry, Took, Empty, Failed}
use Rattle.udp.specs.declared.history.Role.TheVariants.{Server}
use Rattle.access.specs.declared.polling.Polling.{Polling}
use Rattle.access.specs.declared.polling.Waiting.{Waiting}
use Rattle.access.specs.declared.polling.Waiting.TheVariants as waiting

abbrev pub other : Proto → Proto
other V4 = V6
other V6 = V4

-- A turn begins: it takes so many at most, and tries this socket first.
abbrev pub begun : ℕ → Proto → Polling
begun most first = record { left = most; first = first; v4 = waiting.Perhaps; v6 = waiting.Perhaps }

abbrev pub waiting_at : Proto → Polling → Waiting
waiting_at V4 p = p.v4
waiting_at V6 p = p.v6

abbrev pub with_waiting : Proto → Waiting → Polling → Polling
with_waiting V4 w p = record p { v4 = w }
with_waiting V6 w p = record p { v6 = w }

abbrev pub may_wait : Waiting → Bool
may_wait waiting.Perhaps = true
may_wait waiting.No = false
may_wait waiting.Lost = false

-- The socket that is tried next: the first one, or else the other, where a datagram may wait; none when enough were taken.
abbrev pub next_of : Polling → Option Proto
next_of p =
    if p.left == 0 then None
    else if may_wait (waiting_at p.first p) then Some p.first
    else if may_wait (waiting_at (other p.first) p) then Some (other p.first)
    else None

-- A socket that was empty is tried again, one whose receive failed is not.
abbrev pub again : Waiting → Waiting
again waiting.Perhaps = waiting.Perhaps
again waiting.No = waiting.Perhaps
again waiting.Lost = waiting.Lost

-- after a datagram from this socket: the other one is tried first
abbrev pub after_take : Proto → Polling → Polling
after_take proto p = record { left = p.left - 1; first = other proto; v4 = again p.v4; v6 = again p.v6 }

-- ---- by what happened

-- which of the server's sockets was tried
abbrev pub server_socket : Entry → Option Proto
server_socket (Took (Server proto) from bytes) = Some proto
server_socket (Empty (Server proto)) = Some proto
server_socket (Failed (Server proto)) = Some proto
server_socket entry = None

abbrev pub after_try : Entry → Polling → Polling
after_try (Took (Server proto) from bytes) p = after_take proto p
after_try (Empty (Server proto)) p = with_waiting proto waiting.No p
after_try (Failed (Server proto)) p = with_waiting proto waiting.Lost p
after_try entry p = p

abbrev pub after_tries : List Entry → Polling → Polling
after_tries [] p = p
after_tries (entry ∷ entries) p = after_tries entries (after_try entry p)

-- This is a try of the socket that is next.
abbrev pub IsNextTry : Polling → Entry → Type 0
IsNextTry p entry = (proto : Proto) × (next_of p ≡ Some proto) × (server_socket entry ≡ Some proto)

abbrev pub AreTries : Polling → List Entry → Type 0
AreTries p [] = ⊤
AreTries p (entry ∷ entries) = IsNextTry p entry × AreTries (after_try entry p) entries

-- Sockets are tried until enough datagrams were taken, or none waits. The next turn tries this one first.
pub record IsPolled (most : ℕ) (first next : Proto) (entries : List Entry) : Type 0 where
  pub tries : AreTries (begun most first) entries
  pub done : next_of (after_tries entries (begun most first)) ≡ None
  pub next_first : (after_tries entries (begun most first)).first ≡ next

-- the datagrams that were taken from the server's sockets, at this moment
abbrev pub delivery_in : ℕ → Entry → Option DeliveryValue
delivery_in now (Took (Server proto) from bytes) = Some (delivery proto from now bytes)
delivery_in now entry = None

abbrev pub deliveries_in : ℕ → List Entry → List DeliveryValue
deliveries_in now = filter_map (delivery_in now)
