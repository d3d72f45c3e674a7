-- What a list of numbers has to be to be bytes.
use Rattle.std.specs.Prelude.{ℕ, ◌<◌, List, slice_index}

pub record AreBytes (bytes : List ℕ) : Type 0 where
  pub each : (i : ℕ) → slice_index bytes i < 256
