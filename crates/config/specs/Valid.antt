-- When a text is a configuration, and which fault it has otherwise.
use Rattle.std.specs.Prelude.{◌≡◌, ℕ, List, Some, None, ⊤}
use Rattle.toml.specs.Data.{Members}
use Rattle.toml.specs.Parse.{parse_document}
use Rattle.settings.specs.declared.limit_fault.LimitFault.{LimitFault}
use Rattle.settings.specs.declared.fault.ConfigFault.{ConfigFault}
use Rattle.settings.specs.declared.fault.ConfigFault.TheVariants.{Memory, Text, Missing, Limit, IdTwice, RegionTwice, Overlap4, Overlap6, GatewayInPool, OffSubnet}
use Rattle.config.specs.Broken.{AreSame, ShareRegion, SharePool4, SharePool6, IsGatewayInPool, IsOffSubnet}
use Rattle.settings.specs.Broken.{IsMissing, IsUnfit}
use Rattle.settings.specs.Keys.{HasAll}
use Rattle.settings.specs.Read.{IsRead}
use Rattle.settings.specs.Settings.{Settings}
use Rattle.config.specs.Rules.{NamesDiffer, RegionsDiffer, Pools4Apart, Pools6Apart, CircuitsApart, KeepsRules}
use Rattle.settings.specs.Tables.{Tables, tables_of}

-- no rule is broken, and these are the values
pub record IsValid (tables : Tables) (settings : Settings) : Type 0 where
  -- rule 42
  pub all : HasAll tables
  -- rule 43
  pub read : IsRead tables settings
  -- rules 44 to 49
  pub rules : KeepsRules settings

-- The fault is the lowest of rules 45 to 48 that the settings break, and the entries that it names break
-- it.
abbrev pub IsLeastOfCircuits : Settings → ConfigFault → Type 0
IsLeastOfCircuits s (RegionTwice first second) = ShareRegion s first second
IsLeastOfCircuits s (Overlap4 first second) = RegionsDiffer s × SharePool4 s first second
IsLeastOfCircuits s (Overlap6 first second) = RegionsDiffer s × Pools4Apart s × SharePool6 s first second
IsLeastOfCircuits s (GatewayInPool circuit key owner) =
    RegionsDiffer s × Pools4Apart s × Pools6Apart s × IsGatewayInPool s circuit key owner
IsLeastOfCircuits s fault = ⊥

-- the same of rules 44 to 49
abbrev pub IsLeastRule : Settings → ConfigFault → Type 0
IsLeastRule s (IdTwice same) = AreSame s same
IsLeastRule s (OffSubnet circuit key) = NamesDiffer s × CircuitsApart s × IsOffSubnet s circuit key
IsLeastRule s fault = NamesDiffer s × IsLeastOfCircuits s fault

-- the settings that were read break a rule, and the fault is the lowest one
pub record BreaksRule (tables : Tables) (fault : ConfigFault) : Type 0 where
  pub settings : Settings
  pub all : HasAll tables
  pub read : IsRead tables settings
  pub broken : IsLeastRule settings fault

-- no values within their limits are read, and the fault names one that is not
pub record BreaksLimit (tables : Tables) (fault : LimitFault) : Type 0 where
  pub all : HasAll tables
  pub broken : IsUnfit tables fault

-- the fault is the lowest rule that the tables break
abbrev pub IsLeastBroken : Tables → ConfigFault → Type 0
IsLeastBroken tables (Missing location) = IsMissing tables location
IsLeastBroken tables (Limit limit) = BreaksLimit tables limit
IsLeastBroken tables fault = BreaksRule tables fault

-- the text is a configuration with these settings
abbrev pub IsConfig : List ℕ → Settings → Type 0
IsConfig text settings = (doc : Members) × (parse_document text ≡ Some doc) × IsValid (tables_of doc) settings

-- The fault is right for the text. Out of memory says nothing about it.
abbrev pub IsFaultOf : List ℕ → ConfigFault → Type 0
IsFaultOf text Memory = ⊤
IsFaultOf text (Text error) = parse_document text ≡ None
IsFaultOf text fault = (doc : Members) × (parse_document text ≡ Some doc) × IsLeastBroken (tables_of doc) fault
