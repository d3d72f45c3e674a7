-- The formats of regions, found one after the other.
use Rattle.std.proofs.Common.{◌≡◌, ◌∙◌, ◌<◌, ◌+◌, ℕ, Bool, true, List, [], ◌∷◌, ◌++◌, length, take, sym, ap, ap₂}
use Rattle.std.specs.Prelude.{◌&&◌, Option, Some, None, nat_lt, slice_get, if◌then◌else◌}
use Rattle.std.proofs.lemmas.List.{map-append, take_more}
use Rattle.std.proofs.lemmas.Option.{get_or_from_slice_get, slice_get_within}
use Rattle.settings.specs.declared.settings.CircuitConfig.{CircuitConfig}
use Rattle.lease_disk.specs.Device.{Device, TouchesNothing}
use Rattle.lease_disk.specs.Region.{Region}
use Rattle.opening.specs.Opening.{format_of, formats_of}

-- reads change no format
same_format : (tells : Bool) (old new : Device) (region : ℕ) → TouchesNothing tells old new → tells ≡ true → format_of new region ≡ format_of old region
same_format tells old new region frame told =
    ap₂ (λ (n : ℕ) (regions : ℕ → Region). if nat_lt region n && (regions region).readable then Some ((regions region).byte 8192) else None) frame.count (frame.region told)

pub one_more_format : (tells : Bool) (old new : Device) (circuits : List CircuitConfig) (index : ℕ) (circuit : CircuitConfig) (found : List (Option ℕ))
    → TouchesNothing tells old new → tells ≡ true → slice_get circuits index ≡ Some circuit → found ≡ formats_of old (take index circuits)
    → found ++ format_of new circuit.region ∷ [] ≡ formats_of old (take (index + 1) circuits)
one_more_format tells old new circuits index circuit found frame told is so_far =
    let within : index < length circuits = slice_get_within circuits index circuit is in
    let more : take (index + 1) circuits ≡ take index circuits ++ circuit ∷ [] =
    take_more circuits index circuit within ∙ ap (λ y. take index circuits ++ y ∷ []) (get_or_from_slice_get circuits index circuit circuit is) in
    ap₂ (λ before format. before ++ format ∷ []) so_far (same_format tells old new circuit.region frame told)
    ∙ sym (ap (formats_of old) more ∙ map-append (λ (c : CircuitConfig). format_of old c.region) (take index circuits) (circuit ∷ []))
