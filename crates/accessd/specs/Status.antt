-- The exit statuses of the program.
use Rattle.std.specs.Prelude.{◌≡◌, ◌⊎◌, ℕ}
use Rattle.access.specs.declared.access.AccessFault.{AccessFault}
use Rattle.access.specs.declared.access.AccessFault.TheVariants as fault
use Rattle.opening.specs.declared.device.DeviceFault.{DeviceFault}
use Rattle.opening.specs.declared.device.DeviceFault.TheVariants as device

-- why relay and server were not opened
abbrev pub status_of : AccessFault → ℕ
status_of fault.Memory = 4
status_of fault.Disk = 4
status_of (fault.Socket at) = 5
status_of fault.TooManyCircuits = 2
status_of fault.Ports = 2

-- why the file does not serve
abbrev pub device_status : DeviceFault → ℕ
device_status device.File = 5
device_status device.Memory = 4
device_status device.Format = 4

-- 0 after all turns or passes, 5 where a service has lost its file; 2 where words or configuration are refused, 4 where the opening is, 5 for a file or
-- socket, 6 where help can't be written
abbrev pub IsExitStatus : ℕ → Type 0
IsExitStatus status = (status ≡ 0) ⊎ (status ≡ 2) ⊎ (status ≡ 4) ⊎ (status ≡ 5) ⊎ (status ≡ 6)

-- how the program ends after it has served: 0, or 5 where a service has lost its file
abbrev pub IsEndStatus : ℕ → Type 0
IsEndStatus status = (status ≡ 0) ⊎ (status ≡ 5)

-- why the program ends before it has served: 2 where the configuration or what it asks for is refused, 4 where the opening is, 5 for a
-- file or socket
abbrev pub IsRefusalStatus : ℕ → Type 0
IsRefusalStatus status = (status ≡ 2) ⊎ (status ≡ 4) ⊎ (status ≡ 5)
