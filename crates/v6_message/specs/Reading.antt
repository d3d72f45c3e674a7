-- Reading the options of a message from the left: the first fault.
use Rattle.std.specs.Prelude.{ℕ, Bool, true, false, ◌&&◌, ◌||◌, ◌==◌, nat_le, List, [], ◌∷◌, length, drop, Option, Some, None, if◌then◌else◌}
use Rattle.v6_options.specs.Codes.{IA_NA, IA_ADDRESS}
use Rattle.v6_options.specs.Reading.{listed, cut_from}
use Rattle.v6_message.specs.declared.scan.Sender.{Sender}
use Rattle.v6_message.specs.declared.scan.Sender.TheVariants.{Client, Relay}
use Rattle.v6_message.specs.declared.scan.ListFault.{ListFault}
use Rattle.v6_message.specs.declared.scan.ListFault.TheVariants.{Cut, Twice}
use Rattle.v6_message.specs.Layout.{IA_OPTIONS, IA_ADDRESS_OPTIONS}
use Rattle.v6_message.specs.Lists.{first_code, second_code}

abbrev pub is_long : ℕ → List ℕ → Bool
is_long code value = if code == IA_ADDRESS then nat_le IA_ADDRESS_OPTIONS (length value) else true

abbrev pub are_long : List (ℕ × List ℕ) → Bool
are_long [] = true
are_long (o ∷ os) = if is_long o.0 o.1 then are_long os else false

abbrev pub is_ia : List ℕ → Bool
is_ia value =
    if nat_le IA_OPTIONS (length value) then
    (if cut_from 0 (drop IA_OPTIONS value) then false else are_long (listed (drop IA_OPTIONS value)))
    else false

abbrev pub is_formed : Sender → ℕ → List ℕ → Bool
is_formed Client code value = if code == IA_NA then is_ia value else true
is_formed Relay code value = true

-- whether the code is one of the two, and was met
abbrev pub is_again : Sender → Bool → Bool → ℕ → Bool
is_again sender first second code = (first && code == first_code sender) || (second && code == second_code sender)

-- The fault of a list that a cut follows or not. `first` and `second` say which of the two codes were
-- met.
abbrev pub fault_of : Sender → Bool → Bool → Bool → List (ℕ × List ℕ) → Option ListFault
fault_of sender first second cut [] = if cut then Some Cut else None
fault_of sender first second cut (o ∷ os) =
    if is_formed sender o.0 o.1 then
    (if is_again sender first second o.0 then Some Twice
    else fault_of sender (first || o.0 == first_code sender) (second || o.0 == second_code sender) cut os)
    else Some Cut

abbrev pub first_fault : Sender → List ℕ → Option ListFault
first_fault sender bytes = fault_of sender false false (cut_from 0 bytes) (listed bytes)
