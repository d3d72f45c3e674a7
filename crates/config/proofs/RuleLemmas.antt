-- Rules between circuits, as the walks over pairs give them and as the rules have them.
use Rattle.std.proofs.Common.{◌≡◌, ℕ, List, sym, subst}
use Rattle.std.specs.Prelude.{AllPairs}
use Rattle.settings.specs.declared.fault.ConfigFault.{ConfigFault}
use Rattle.settings.specs.declared.fault.ConfigFault.TheVariants.{IdTwice, OffSubnet}
use Rattle.settings.specs.declared.settings.CircuitConfig.{CircuitConfig}
use Rattle.settings.specs.Settings.{Settings}
use Rattle.config.specs.Rules.{IsInPool4, IsInPool6, NamesDiffer, RegionsDiffer, Pools4Apart, Pools6Apart}
use Rattle.config.specs.Valid.{IsLeastOfCircuits, IsLeastRule}

pub regions_differ : (s : Settings) (circuits : List CircuitConfig) → s.circuits ≡ circuits → AllPairs (λ c d. c.region ≡ d.region → ⊥) circuits → RegionsDiffer s
regions_differ s circuits same h = subst (λ cs. AllPairs (λ c d. c.region ≡ d.region → ⊥) cs) (sym same) h

pub pools4_apart : (s : Settings) (circuits : List CircuitConfig) → s.circuits ≡ circuits → AllPairs (λ c d. ((n : ℕ) × IsInPool4 c n × IsInPool4 d n) → ⊥) circuits → Pools4Apart s
pools4_apart s circuits same h =
    let apart = subst (λ cs. AllPairs (λ c d. ((n : ℕ) × IsInPool4 c n × IsInPool4 d n) → ⊥) cs) (sym same) h in
    λ i j d ordered inside n one other. apart i j d ordered inside (n, one, other)

pub pools6_apart : (s : Settings) (circuits : List CircuitConfig) → s.circuits ≡ circuits → AllPairs (λ c d. ((n : ℕ) × IsInPool6 c n × IsInPool6 d n) → ⊥) circuits → Pools6Apart s
pools6_apart s circuits same h =
    let apart = subst (λ cs. AllPairs (λ c d. ((n : ℕ) × IsInPool6 c n × IsInPool6 d n) → ⊥) cs) (sym same) h in
    λ i j d ordered inside n one other. apart i j d ordered inside (n, one, other)

-- a rule between circuits is broken where all names differ
pub broken_by_circuits : (s : Settings) (fault : ConfigFault) → NamesDiffer s → IsLeastOfCircuits s fault → IsLeastRule s fault
broken_by_circuits s (IdTwice same) names h = absurd h
broken_by_circuits s (OffSubnet circuit key) names h = absurd h
broken_by_circuits s fault names h = (names, h)
