-- What differs between two configurations of one server, and the words for it.
use Rattle.std.specs.Prelude.{ℕ, List, ◌++◌, ◌==◌, codes, decimal, if◌then◌else◌}
use Rattle.settings.specs.declared.differences.ServerPart.{ServerPart}
use Rattle.settings.specs.declared.differences.ServerPart.TheVariants.{Server, Relay, RelayCount}
use Rattle.settings.specs.declared.differences.ServerDifference.{ServerDifference}
use Rattle.settings.specs.declared.differences.CircuitDifference.{CircuitDifference}
use Rattle.settings.specs.Names.{server_key, relay_key, circuit_key}

abbrev pub relay_word : ℕ → List ℕ
relay_word count = if count == 1 then codes "relay" else codes "relays"

abbrev pub part_words : ℕ → ServerPart → List ℕ
part_words number (Server key) =
    codes "configuration " ++ (decimal number ++ (codes ": server: " ++ (server_key key ++ codes " differs from configuration 1")))
part_words number (Relay relay key) =
    codes "configuration " ++ (decimal number ++ (codes ": relay " ++ (decimal relay ++ (codes ": " ++ (relay_key key ++ codes " differs from configuration 1")))))
part_words number (RelayCount count first) =
    codes "configuration " ++ (decimal number ++ (codes " has " ++ (decimal count ++ (codes " " ++ (relay_word count ++ (codes ", and configuration 1 has " ++ decimal first))))))

-- rule 50
abbrev pub server_difference_words : ServerDifference → List ℕ
server_difference_words difference = part_words difference.number difference.part

-- rule 51
abbrev pub circuit_difference_words : CircuitDifference → List ℕ
circuit_difference_words difference =
    codes "circuit \"" ++ (difference.id ++ (codes "\": " ++ (circuit_key difference.key ++ (codes " differs between configurations " ++ (decimal difference.one ++ (codes " and " ++ decimal difference.other))))))
