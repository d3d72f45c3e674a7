-- The exit statuses of the program.
use Rattle.std.specs.Prelude.{◌≡◌, ◌⊎◌, ℕ, if◌then◌else◌}
use Rattle.region_reader.specs.declared.region_file.ReadFault.{ReadFault}
use Rattle.region_reader.specs.declared.region_file.ReadFault.TheVariants.{File, Memory}
use Rattle.leases.specs.declared.Noted.{Noted}

-- 0 where every circuit was listed, 2 where words or configuration are refused, 3 where a circuit is closed, 4 where
-- memory or regions are missing or a circuit is busy, 5 for a file that can't be read, 6 where the output failed
abbrev pub IsExitStatus : ℕ → Type 0
IsExitStatus status = (status ≡ 0) ⊎ (status ≡ 2) ⊎ (status ≡ 3) ⊎ (status ≡ 4) ⊎ (status ≡ 5) ⊎ (status ≡ 6)

-- after all lines were written
abbrev pub noted_status : Noted → ℕ
noted_status noted = if noted.is_busy then 4 else if noted.is_closed then 3 else 0

-- of a file that is refused
abbrev pub file_status : ReadFault → ℕ
file_status File = 5
file_status Memory = 4
