-- The addresses in an IA_NA are as many as its options of their code.
use Rattle.std.proofs.Common.{◌≡◌, ◌+◌, ◌==◌, ℕ, Bool, true, false, List, [], ◌∷◌, length, refl, arith}
use Rattle.std.specs.Prelude.{if◌then◌else◌}
use Rattle.v6_options.specs.Codes.{IA_ADDRESS}
use Rattle.v6_message.specs.Ia.{address_at, addresses_in}
use Rattle.v6_message.specs.Lists.{count}

by_code : (code : Bool) (first : List ℕ) (options : List (ℕ × List ℕ)) → length (addresses_in options) ≡ count IA_ADDRESS options
    → length (if code then address_at first ∷ addresses_in options else addresses_in options) ≡ (if code then 1 + count IA_ADDRESS options else count IA_ADDRESS options)
by_code true first options rest = omega (arith, rest)
by_code false first options rest = rest

pub length_addresses : (options : List (ℕ × List ℕ)) → length (addresses_in options) ≡ count IA_ADDRESS options
length_addresses [] = refl
length_addresses (o ∷ options) = by_code (o.0 == IA_ADDRESS) o.1 options (length_addresses options)
