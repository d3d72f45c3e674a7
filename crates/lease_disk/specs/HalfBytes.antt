-- The bytes of a half that holds a slot, with its gate open. Bytes not named are 0.
use Rattle.std.specs.Prelude.{ℕ, ◌-◌, List, [], ◌∷◌, ◌++◌, length, replicate}
use Rattle.std.specs.Int.{w32, w64, to_be_bytes}
use Rattle.types.specs.declared.slot4.Slot4.TheVariants as S4
use Rattle.types.specs.declared.slot6.Slot6.TheVariants as S6
use Rattle.lease_disk.specs.declared.content.Content.{Content}
use Rattle.lease_disk.specs.declared.content.Content.TheVariants.{Four, Six}

-- by its sequence, state, IAID, clock, until, and key or DUID
abbrev pub half_with : ℕ → ℕ → ℕ → ℕ → ℕ → List ℕ → List ℕ
half_with sequence state iaid clock until key =
    (0xa5 ∷ state ∷ length key ∷ sequence ∷ []) ++ to_be_bytes w32 iaid ++ to_be_bytes w64 clock ++ to_be_bytes w64 until
    ++ replicate 8 0 ++ key ++ replicate (224 - length key) 0

abbrev pub half_bytes : ℕ → ℕ → Content → List ℕ
half_bytes sequence clock (Four S4.Free) = half_with sequence 0 0 clock 0 []
half_bytes sequence clock (Four (S4.Bound key until)) = half_with sequence 1 0 clock until key
half_bytes sequence clock (Four (S4.Barred until)) = half_with sequence 2 0 clock until []
half_bytes sequence clock (Six S6.Free) = half_with sequence 0 0 clock 0 []
half_bytes sequence clock (Six (S6.Bound key until)) = half_with sequence 1 key.iaid clock until key.duid
half_bytes sequence clock (Six (S6.Barred until)) = half_with sequence 2 0 clock until []
