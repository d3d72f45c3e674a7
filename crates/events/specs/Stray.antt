-- Datagrams from outside: at the server from a source that is no relay's, and at a relay from a source that
-- is not the server's.
use Rattle.std.specs.Prelude.{ℕ, Bool, true, false, nat_lt, length, Option, Some, None, if◌then◌else◌}
use Rattle.types.specs.declared.addr.Source.{Source}
use Rattle.types.specs.declared.discard.Discard.TheVariants.{UnknownSource, NotServer}
use Rattle.config.specs.Topology.{Topology, is_relay, is_server}
use Rattle.events.specs.declared.event.Event.{Event}
use Rattle.events.specs.declared.event.Event.TheVariants as event
use Rattle.events.specs.declared.outcome.Outcome.{Outcome}
use Rattle.events.specs.declared.outcome.Outcome.TheVariants.{Dropped, Gone, NotAStray}

abbrev pub is_stray : Event → Bool
is_stray (event.StrayUp proto source bytes now) = true
is_stray (event.StrayDown relay source bytes) = true
is_stray event = false

abbrev pub stray_up_outcome : Topology → Source → Outcome
stray_up_outcome t source = if is_relay t source then NotAStray else Dropped UnknownSource

abbrev pub stray_down_outcome : Topology → ℕ → Source → Outcome
stray_down_outcome t relay source =
    if nat_lt relay (length t.relays) then (if is_server t source then NotAStray else Dropped NotServer) else Gone

-- What comes of a stray, whatever its bytes are.
abbrev pub stray_outcome : Topology → Event → Option Outcome
stray_outcome t (event.StrayUp proto source bytes now) = Some (stray_up_outcome t source)
stray_outcome t (event.StrayDown relay source bytes) = Some (stray_down_outcome t relay source)
stray_outcome t event = None
