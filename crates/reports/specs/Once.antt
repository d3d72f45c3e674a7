-- What is told when it is first so, and never again.
use Rattle.std.specs.Prelude.{Bool, not, ◌&&◌, ◌||◌, List, [], ◌∷◌}
use Rattle.reports.specs.declared.once.Once.{Once}

-- what was so before the first look is never told
abbrev pub once : Bool → Once
once was_so = record { was_told = was_so }

-- it is told where it is so, and was not at any look before
abbrev pub is_told : Once → Bool → Bool
is_told before is_so = is_so && not before.was_told

abbrev pub once_told : Once → Bool → Once
once_told before is_so = record { was_told = before.was_told || is_so }

-- at which looks it is told, by whether it was so at each
abbrev pub told_at : Once → List Bool → List Bool
told_at before [] = []
told_at before (is_so ∷ later) = is_told before is_so ∷ told_at (once_told before is_so) later
