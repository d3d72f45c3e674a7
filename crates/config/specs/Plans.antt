-- Several configurations of one server, read together: when texts are such plans, and which fault they
-- have otherwise.
use Rattle.std.specs.Prelude.{◌≡◌, ◌⊎◌, ℕ, ◌<◌, ◌≤◌, Bool, true, List, [], ◌∷◌, length, map, replicate, take, slice_get, Some, AllPairs, ⊤}
use Rattle.std.specs.List.{AllZip}
use Rattle.settings.specs.declared.limit_fault.LimitFault.TheVariants.{Circuits}
use Rattle.settings.specs.declared.fault.ConfigFault.{ConfigFault}
use Rattle.settings.specs.declared.fault.ConfigFault.TheVariants.{Memory, Limit, ServerDiffers, CircuitDiffers}
use Rattle.settings.specs.Settings.{Settings}
use Rattle.config.specs.Differences.{SharesServer, CircuitsAgree, IsServerDifference, IsCircuitDifference}
use Rattle.config.specs.Rules.{IsSound}
use Rattle.config.specs.Union.{has_circuit, IsUnion}
use Rattle.config.specs.Valid.{IsConfig, IsFaultOf, IsLeastOfCircuits}

pub record PlansValue : Type 0 where
  -- the server and the relays of all, and every circuit of any of them once, in order of first appearance
  pub union : Settings
  -- for each circuit of the union, in order, whether each plan has it, in the plans' order
  pub members : List (List Bool)
  pub count : ℕ

-- a configuration alone
abbrev pub one_plan : Settings → PlansValue
one_plan settings = record { union = settings; members = replicate (length settings.circuits) (true ∷ []); count = 1 }

-- the plans that these configurations are
pub record ArePlansOf (all : List Settings) (plans : PlansValue) : Type 0 where
  pub agree : AllPairs CircuitsAgree all
  pub union : IsUnion all plans.union
  pub sound : IsSound plans.union
  pub members : plans.members ≡ map (λ c. map (has_circuit c.id) all) plans.union.circuits
  pub count : plans.count ≡ length all

-- the texts are configurations, and these are their plans
abbrev pub ArePlans : List (List ℕ) → PlansValue → Type 0
ArePlans texts plans = (all : List Settings) × AllZip IsConfig texts all × ArePlansOf all plans

-- the first of the texts that is not a configuration has this fault
pub record IsFirstFault (texts : List (List ℕ)) (fault : ConfigFault) : Type 0 where
  pub before : List Settings
  pub text : List ℕ
  pub read : AllZip IsConfig (take (length before) texts) before
  pub there : slice_get texts (length before) ≡ Some text
  pub broken : IsFaultOf text fault

-- The fault is the lowest of rules 43 and 45 to 48 that the union breaks. Each configuration keeps 44 and 49,
-- and so does their union.
abbrev pub IsLeastOfUnion : Settings → ConfigFault → Type 0
IsLeastOfUnion union (Limit (Circuits count)) = (length union.circuits ≡ count) × (1024 < count)
IsLeastOfUnion union fault = (length union.circuits ≤ 1024) × IsLeastOfCircuits union fault

-- The fault is that of their union. Out of memory says nothing about it.
abbrev pub IsUnionFault : List Settings → ConfigFault → Type 0
IsUnionFault all Memory = ⊤
IsUnionFault all fault = (union : Settings) × IsUnion all union × IsLeastOfUnion union fault

-- The fault is the first between configurations: their server or relays differ, circuits of one id do, or
-- their union breaks a rule. Out of memory says nothing about them.
abbrev pub IsFaultBetween : List Settings → ConfigFault → Type 0
IsFaultBetween all Memory = ⊤
IsFaultBetween all (ServerDiffers difference) = IsServerDifference all difference
IsFaultBetween all (CircuitDiffers difference) = AllPairs SharesServer all × IsCircuitDifference all difference
IsFaultBetween all fault = AllPairs CircuitsAgree all × IsUnionFault all fault

-- The fault is right for the texts. Out of memory says nothing about them.
abbrev pub IsPlansFaultOf : List (List ℕ) → ConfigFault → Type 0
IsPlansFaultOf texts Memory = ⊤
IsPlansFaultOf texts fault = IsFirstFault texts fault ⊎ ((all : List Settings) × AllZip IsConfig texts all × IsFaultBetween all fault)
