-- Several configurations of one server, taken together.
use Rattle.std.specs.Prelude.{◌≡◌, ℕ, Bool, not, List, [], ◌∷◌, map, filter, flat_map, All}
use Rattle.std.specs.List.{list_any}
use Rattle.std.specs.Str.{bytes_eq}
use Rattle.settings.specs.declared.settings.CircuitConfig.{CircuitConfig}
use Rattle.settings.specs.Settings.{Settings}
use Rattle.config.specs.Differences.{SharesServer}

-- whether a circuit of the configuration has this id
abbrev pub has_circuit : List ℕ → Settings → Bool
has_circuit id settings = list_any (bytes_eq id) (map (λ c. c.id) settings.circuits)

-- the first circuit of each id, in their order
abbrev pub each_once : List CircuitConfig → List CircuitConfig
each_once [] = []
each_once (c ∷ cs) = c ∷ filter (λ d. not (bytes_eq c.id d.id)) (each_once cs)

-- the server and the relays that all have, and every circuit of any of them once
pub record IsUnion (all : List Settings) (union : Settings) : Type 0 where
  pub shared : All (SharesServer union) all
  pub circuits : union.circuits ≡ each_once (flat_map (λ settings. settings.circuits) all)
