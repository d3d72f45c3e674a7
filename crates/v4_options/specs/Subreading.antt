-- Reading suboptions from the left: the list, and the first fault.
use Rattle.std.specs.Prelude.{ℕ, List, Option, Some, None, Result, Ok, Err}
use Rattle.v4_options.specs.declared.fault.OptFault.{OptFault}
use Rattle.v4_options.specs.declared.fault.OptFault.TheVariants as faults
use Rattle.v4_options.specs.declared.fault.SuboptFault.{SuboptFault}
use Rattle.v4_options.specs.declared.fault.SuboptFault.TheVariants.{Cut, Twice}
use Rattle.v4_options.specs.declared.token.Syntax.TheVariants.{Suboptions}
use Rattle.v4_options.specs.Reading.{listed_from, fault_from, no_code}

-- A list of suboptions has no end option, so none is missing.
abbrev pub subfault : Option OptFault → Option SuboptFault
subfault None = None
subfault (Some faults.NoEnd) = None
subfault (Some faults.Cut) = Some Cut
subfault (Some faults.Twice) = Some Twice

abbrev pub subread_or : Option SuboptFault → List ℕ → Result (List (ℕ × List ℕ)) SuboptFault
subread_or None bytes = Ok (listed_from Suboptions 0 bytes)
subread_or (Some fault) bytes = Err fault

-- The result of reading.
abbrev pub suboptions_of : List ℕ → Result (List (ℕ × List ℕ)) SuboptFault
suboptions_of bytes = subread_or (subfault (fault_from Suboptions no_code 0 bytes)) bytes
