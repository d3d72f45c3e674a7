-- Reading options and suboptions from the left: the list, and the first fault.
use Rattle.std.specs.Prelude.{ℕ, zero, suc, Bool, true, false, ◌||◌, ◌==◌, ◌/◌, ◌%◌, nat_le, List, [], ◌∷◌, length, take, slice_index_or, Option, Some, None, Result, Ok, Err, if◌then◌else◌}
use Rattle.std.specs.Int.{bit_at}
use Rattle.v4_options.specs.Codes.{PAD, END}
use Rattle.v4_options.specs.declared.fault.OptFault.{OptFault}
use Rattle.v4_options.specs.declared.fault.OptFault.TheVariants.{NoEnd, Cut, Twice}
use Rattle.v4_options.specs.declared.token.Syntax.{Syntax}
use Rattle.v4_options.specs.declared.token.Syntax.TheVariants.{Options, Suboptions}

-- Only lists of options have pads and an end.
abbrev pub is_pad : Syntax → ℕ → Bool
is_pad Options code = code == PAD
is_pad Suboptions code = false

abbrev pub is_end : Syntax → ℕ → Bool
is_end Options code = code == END
is_end Suboptions code = false

-- The bytes after a code lack a length, or are fewer than the length.
abbrev pub is_cut : List ℕ → Bool
is_cut [] = true
is_cut (len ∷ bytes) = if nat_le len (length bytes) then false else true

-- The value in the bytes after a code.
abbrev pub value : List ℕ → List ℕ
value [] = []
value (len ∷ bytes) = take len bytes

-- The options up to the end, or to one that is cut off. The first `skip` bytes belong to the option
-- before.
unfoldable pub listed_from : Syntax → ℕ → List ℕ → List (ℕ × List ℕ)
listed_from syntax skip [] = []
listed_from syntax (suc skip) (byte ∷ bytes) = listed_from syntax skip bytes
listed_from syntax zero (code ∷ bytes) =
    if is_pad syntax code then listed_from syntax 0 bytes
    else if is_end syntax code then []
    else if is_cut bytes then []
    else (code, value bytes) ∷ listed_from syntax (suc (length (value bytes))) bytes

-- A set of codes is a test. The empty set, and a set with one more code:
abbrev pub no_code : ℕ → Bool
no_code code = false

abbrev pub with_code : ℕ → (ℕ → Bool) → ℕ → Bool
with_code code seen = λ other. code == other || seen other

-- The set of the codes whose bit is set in words of 64 bits, counted from the lowest bit of the first word.
abbrev pub has_code : List ℕ → ℕ → Bool
has_code words = λ code. bit_at (slice_index_or words (code / 64) 0) (code % 64) == 1

-- The first fault from the left, where `seen` has the codes of the options before.
unfoldable pub fault_from : Syntax → (ℕ → Bool) → ℕ → List ℕ → Option OptFault
fault_from syntax seen skip [] = Some NoEnd
fault_from syntax seen (suc skip) (byte ∷ bytes) = fault_from syntax seen skip bytes
fault_from syntax seen zero (code ∷ bytes) =
    if is_pad syntax code then fault_from syntax seen 0 bytes
    else if is_end syntax code then None
    else if is_cut bytes then Some Cut
    else if seen code then Some Twice
    else fault_from syntax (with_code code seen) (suc (length (value bytes))) bytes

abbrev pub read_or : Option OptFault → List ℕ → Result (List (ℕ × List ℕ)) OptFault
read_or None bytes = Ok (listed_from Options 0 bytes)
read_or (Some fault) bytes = Err fault

-- The result of reading.
abbrev pub options_of : List ℕ → Result (List (ℕ × List ℕ)) OptFault
options_of bytes = read_or (fault_from Options no_code 0 bytes) bytes
