-- What a circuit sees of a run of a world that was just opened.
use Rattle.std.proofs.Common.{◌≡◌, ℕ, List}
use Rattle.config.specs.Plans.{PlansValue}
use Rattle.events.specs.Seen.{seen_by}
use Rattle.events.specs.declared.event.Event.{Event}
use Rattle.lease_disk.specs.Device.{Device}
use Rattle.world.specs.Headline.{CircuitState, seen_from}
use Rattle.world.specs.Start.{Starts, seen_in}

pub begins : (plans : PlansValue) (quota : ℕ) (device : Device) (start : List CircuitState) → Starts plans quota device start → (c : ℕ) (events : List Event)
    → seen_from c start events ≡ seen_in plans c events
begins plans quota device start begun c events = λ i. seen_by (begun.members c i) c (begun.on c i) events
