-- The lines for what a circuit's region says.
use Rattle.std.specs.Prelude.{◌≡◌, ℕ, List, [], ◌∷◌, map, Result, Ok, Err, String, string_bytes}
use Rattle.std.specs.List.{AllZip}
use Rattle.std.specs.declared.alloc.Global.{Global}
use Rattle.types.specs.declared.slots.Slots.{Slots}
use Rattle.config.specs.CircuitPart.{CircuitPart, pool4_of, pool6_of}
use Rattle.region_reader.specs.declared.closed.Closed.{Closed}
use Rattle.lease_list.specs.declared.form.Form.{Form}
use Rattle.lease_list.specs.declared.form.What.{What}
use Rattle.lease_list.specs.declared.form.What.TheVariants.{Leases, Pools}
use Rattle.lease_list.specs.declared.lease.Lease.{Lease}
use Rattle.lease_list.specs.Lease.{leases_at}
use Rattle.lease_list.specs.Line.{IsLeaseLine, closed_written}
use Rattle.lease_list.specs.Pool.{pool4_texts, pool6_texts, pool_written}

-- the texts for the pools of a circuit that has these leases
abbrev pub pool_texts : CircuitPart → Form → List Lease → List (List ℕ)
pool_texts part form leases =
    pool_written form (pool4_texts part.id (pool4_of part) leases) ∷ pool_written form (pool6_texts part.id (pool6_of part) leases) ∷ []

-- a line for each live lease, in their order, or for each pool; or one that says why nothing is known of the circuit
abbrev pub AreLines : CircuitPart → ℕ → What → Form → Result Slots Closed → List (String Global) → Type 0
AreLines part at Leases form (Ok slots) lines = AllZip (λ lease line. IsLeaseLine part.id lease at form (string_bytes line)) (leases_at at part slots) lines
AreLines part at Pools form (Ok slots) lines = map string_bytes lines ≡ pool_texts part form (leases_at at part slots)
AreLines part at what form (Err why) lines = map string_bytes lines ≡ closed_written part.id why form ∷ []
