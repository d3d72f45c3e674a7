-- What a configuration alone says of its circuits.
use Rattle.std.proofs.Common.{◌<◌, [], ◌∷◌, length, ap, subst}
use Rattle.std.specs.Prelude.{List, Bool, false, true, slice_index_or}
use Rattle.std.proofs.lemmas.List.{get_or-replicate, length-map}
use Rattle.settings.specs.Settings.{Settings}
use Rattle.config.specs.Topology.{topology_of}
use Rattle.access.specs.Access.{ServesEach}

-- a configuration alone serves each of its circuits
pub serves_each : (settings : Settings) → ServesEach (topology_of settings)
serves_each settings c within =
    let there : c < length settings.circuits = subst (λ n. c < n) (length-map settings.circuits _) within in
    ap (λ (members : List Bool). slice_index_or members 0 false) (get_or-replicate (length settings.circuits) c (true ∷ []) [] there)
