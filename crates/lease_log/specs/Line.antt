-- The line of a change.
use Rattle.std.specs.Prelude.{ℕ, List, [], ◌++◌, codes, decimal}
use Rattle.std.specs.Int.{w32, to_be_bytes}
use Rattle.std.specs.Net.Addr.{segments_of}
use Rattle.std.specs.Net.Text.{ipv4_text, ipv6_text}
use Rattle.hex.specs.Hex.{encode_lower}
use Rattle.lease_log.specs.declared.change.Change.{Change}
use Rattle.lease_log.specs.declared.change.Happened.{Happened}
use Rattle.lease_log.specs.declared.change.Happened.TheVariants.{Leased, Released, Declined, Ended}
use Rattle.lease_log.specs.declared.change.Holder.{Holder}
use Rattle.lease_log.specs.declared.change.Holder.TheVariants.{V4, V6}

abbrev pub word_of : Happened → List ℕ
word_of (Leased until) = codes "leased"
word_of Released = codes "released"
word_of (Declined until) = codes "declined"
word_of Ended = codes "ended"

-- four decimal numbers, or groups of hexadecimal digits (RFC 5952)
abbrev pub address_text : Holder → List ℕ
address_text (V4 address client) = ipv4_text address.0
address_text (V6 address client) = ipv6_text (segments_of address.0)

-- the identifier and a dash, or the DUID and the IAID
abbrev pub client_text : Holder → List ℕ
client_text (V4 address client) = encode_lower client ++ codes " -"
client_text (V6 address client) = encode_lower client.duid ++ (codes " " ++ encode_lower (to_be_bytes w32 client.iaid))

abbrev pub until_text : Happened → List ℕ
until_text (Leased until) = codes " until " ++ decimal until
until_text Released = []
until_text (Declined until) = codes " until " ++ decimal until
until_text Ended = []

-- the line of a change in the circuit with this id
abbrev pub line_text : List ℕ → Change → List ℕ
line_text circuit change =
    decimal change.moment ++ (codes " " ++ (circuit ++ (codes " " ++ (address_text change.holder ++ (codes " "
    ++ (word_of change.happened ++ (codes " " ++ (client_text change.holder ++ until_text change.happened))))))))
