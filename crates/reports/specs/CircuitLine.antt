-- A circuit's line of a report.
use Rattle.std.specs.Prelude.{ℕ, zero, suc, Bool, true, false, List, [], ◌∷◌, ◌++◌, slice_index, codes, decimal}
use Rattle.std.specs.List.{flat_map}
use Rattle.types.specs.declared.discard.Discard.{Discard}
use Rattle.types.specs.Discard.{number_of}
use Rattle.counts.specs.Counts.{reasons}
use Rattle.counts.specs.declared.counts.Counts.{Counts}

-- what the line says of so many datagrams that were dropped for a reason; of none nothing
abbrev pub dropped_part : ℕ → Discard → List (List ℕ)
dropped_part zero why = []
dropped_part (suc n) why = (decimal (suc n) ++ (codes " dropped (" ++ (decimal (number_of why) ++ codes ")"))) ∷ []

-- of so many addresses that were declined; of none nothing
abbrev pub declined_part : ℕ → List (List ℕ)
declined_part zero = []
declined_part (suc n) = (decimal (suc n) ++ codes " declined by DECLINE") ∷ []

-- how many were dropped for a reason, and what the line says of each reason in turn
abbrev pub number_dropped : Counts → Discard → ℕ
number_dropped counts why = slice_index counts.dropped (number_of why)

abbrev pub dropped_parts_of : Counts → List Discard → List (List ℕ)
dropped_parts_of counts whys = flat_map (λ why. dropped_part (number_dropped counts why) why) whys

abbrev pub dropped_parts : Counts → List (List ℕ)
dropped_parts counts = dropped_parts_of counts reasons

-- what stands before a part: the circuit's id before the first, a comma before each other
abbrev pub lead : Bool → List ℕ → List ℕ
lead false id = id ++ codes ": "
lead true id = codes ", "

-- the parts in their order, where others stand before them or not
abbrev pub joined : Bool → List ℕ → List (List ℕ) → List ℕ
joined follows id [] = []
joined follows id (part ∷ parts) = lead follows id ++ (part ++ joined true id parts)

abbrev pub has_parts : List (List ℕ) → Bool
has_parts [] = false
has_parts (part ∷ parts) = true

-- a line that has begun ends with a line feed
abbrev pub end_text : Bool → List ℕ
end_text false = []
end_text true = 10 ∷ []

abbrev pub line_text : List ℕ → List (List ℕ) → List ℕ
line_text id parts = joined false id parts ++ end_text (has_parts parts)

-- the line of the circuit with this id; nothing where none was dropped and none declined
abbrev pub circuit_text : List ℕ → Counts → ℕ → List ℕ
circuit_text id counts declined = line_text id (dropped_parts counts ++ declined_part declined)
