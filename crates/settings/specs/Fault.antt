-- The number of each fault: the lowest rule that is broken.
use Rattle.std.specs.Prelude.{ℕ}
use Rattle.settings.specs.declared.fault.ConfigFault.{ConfigFault}
use Rattle.settings.specs.declared.fault.ConfigFault.TheVariants.{Memory, Text, Missing, Limit, IdTwice, RegionTwice, Overlap4, Overlap6, GatewayInPool, OffSubnet, ServerDiffers, CircuitDiffers}

abbrev pub number_of : ConfigFault → ℕ
number_of Memory = 40
number_of (Text error) = 41
number_of (Missing location) = 42
number_of (Limit limit) = 43
number_of (IdTwice same) = 44
number_of (RegionTwice first second) = 45
number_of (Overlap4 first second) = 46
number_of (Overlap6 first second) = 47
number_of (GatewayInPool circuit key owner) = 48
number_of (OffSubnet circuit key) = 49
number_of (ServerDiffers difference) = 50
number_of (CircuitDiffers difference) = 51
