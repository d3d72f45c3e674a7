-- Options that a relay message and a client's or server's message can have, for other crates.
use Rattle.std.proofs.Common.{ℕ, ◌≤◌, List, [], ◌∷◌}
use Rattle.v6_options.specs.Codes.{RELAY_MESSAGE, INTERFACE_ID}
use Rattle.v6_message.specs.declared.scan.Sender.TheVariants.{Client, Relay}
use Rattle.v6_message.specs.Lists.{count, AreAllowed, AreFormed}

all_formed : (list : List (ℕ × List ℕ)) → AreFormed Relay list
all_formed [] = tt
all_formed (o ∷ os) = (tt, all_formed os)

pub relay_allowed : (list : List (ℕ × List ℕ)) → count RELAY_MESSAGE list ≤ 1 → count INTERFACE_ID list ≤ 1 → AreAllowed Relay list
relay_allowed list first second = record { formed = all_formed list; first = first; second = second }

abbrev pub AreFormedOptions : List (ℕ × List ℕ) → Type 0
AreFormedOptions list = AreFormed Client list

abbrev pub AreAllowedOptions : List (ℕ × List ℕ) → Type 0
AreAllowedOptions list = AreAllowed Client list
