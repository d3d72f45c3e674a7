-- Slots whose clients have keys of a key's length.
use Rattle.std.specs.Prelude.{◌^◌, ◌<◌, ◌≤◌, length}
use Rattle.types.specs.declared.slot4.Slot4.TheVariants as S4
use Rattle.types.specs.declared.slot6.Slot6.TheVariants as S6
use Rattle.lease_disk.specs.declared.content.Content.{Content}
use Rattle.lease_disk.specs.declared.content.Content.TheVariants.{Four, Six}

abbrev pub HasKey : Content → Type 0
HasKey (Four (S4.Bound key until)) = (2 ≤ length key) × (length key ≤ 64)
HasKey (Six (S6.Bound key until)) = (3 ≤ length key.duid) × (length key.duid ≤ 130) × (key.iaid < 2 ^ 32)
HasKey content = Unit {0}
