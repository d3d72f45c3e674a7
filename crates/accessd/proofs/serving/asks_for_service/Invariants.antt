use Rattle.std.proofs.Common.{◌≡◌, map, drop}
use Rattle.std.specs.Prelude.{string_bytes}
use Rattle.accessd.specs.Serving.{asks_for_service}
use Rattle.accessd.proofs.serving.asks_for_service.Given as goal

-- the words that are left ask for it where all do
abbrev pub invariant-words : goal.invariant-words
invariant-words l =
    asks_for_service (map string_bytes (drop l.word-index l.words)) ≡ asks_for_service (map string_bytes l.fn.words)
