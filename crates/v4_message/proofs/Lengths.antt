-- A written message is no longer than the bytes that it was read from.
use Rattle.std.proofs.Common.{◌≡◌, ℕ, ◌+◌, ◌≤◌, List, [], ◌∷◌, ◌++◌, length, ap, arith}
use Rattle.std.proofs.lemmas.List.{length-append}
use Rattle.v4_options.specs.Codes.{END}
use Rattle.v4_options.specs.Spelling.{spelling}
use Rattle.v4_options.proofs.Lengths.{length-spelled}
use Rattle.v4_message.specs.Layout.{MAGIC_COOKIE}
use Rattle.v4_message.specs.Header.{IsSized, header_bytes}
use Rattle.v4_message.specs.Spelling.{MessageValue, Spells, message_bytes}
use Rattle.v4_message.proofs.Headers.{length-header_bytes}

pub length-message_bytes : (m : MessageValue) → IsSized m.header → length (message_bytes m) ≡ 240 + length (spelling m.options) + 1
length-message_bytes m s =
    omega (arith, length-header_bytes m.header s, length-append (header_bytes m.header) (MAGIC_COOKIE ++ (spelling m.options ++ END ∷ [])), length-append (spelling m.options) (END ∷ []))

-- A message is no longer than the bytes that spell it.
pub length-spelled_message : (bytes : List ℕ) (m : MessageValue) → Spells bytes m → length (message_bytes m) ≤ length bytes
length-spelled_message bytes m s =
    omega (arith, length-message_bytes m s.sized, length-header_bytes m.header s.sized, ap length s.whole, length-append (header_bytes m.header) (MAGIC_COOKIE ++ s.tail), length-spelled s.tail m.options s.options)
