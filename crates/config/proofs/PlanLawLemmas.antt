-- Texts have one value as plans, and no fault besides.
use Rattle.std.proofs.Common.{◌≡◌, ◌≢◌, ◌⊎◌, ◌-◌, ℕ, zero, suc, ◌≤◌, List, [], ◌∷◌, length, map, Some, inl, inr, refl, sym, ap, ◌∙◌, subst, arith}
use Rattle.std.specs.Prelude.{All, AllPairs, slice_get}
use Rattle.std.specs.List.{AllZip}
use Rattle.std.proofs.lemmas.List.Elements.{All-contains, All-head}
use Rattle.std.proofs.lemmas.Option.{same_Some}
use Rattle.settings.specs.declared.differences.CircuitDifference.{CircuitDifference}
use Rattle.settings.specs.declared.differences.ServerDifference.{ServerDifference}
use Rattle.settings.specs.declared.differences.ServerPart.{ServerPart}
use Rattle.settings.specs.declared.differences.ServerPart.TheVariants.{Server, Relay, RelayCount}
use Rattle.settings.specs.declared.limit_fault.LimitFault.TheVariants.{Circuits}
use Rattle.settings.specs.declared.fault.ConfigFault.{ConfigFault}
use Rattle.settings.specs.declared.fault.ConfigFault.TheVariants.{Memory, Limit, ServerDiffers, CircuitDiffers}
use Rattle.settings.specs.declared.names.ServerKey.{ServerKey}
use Rattle.settings.specs.declared.names.ServerKey.TheVariants.{Listen4, Listen6, Duid}
use Rattle.settings.specs.declared.names.RelayKey.{RelayKey}
use Rattle.settings.specs.declared.names.RelayKey.TheVariants.{Name, Source as SourceKey}
use Rattle.settings.specs.declared.names.CircuitKey.{CircuitKey}
use Rattle.settings.specs.declared.names.CircuitKey.TheVariants.{Id, Relay as RelayOf, Region, Lease, Gateway4, Prefix4, First4, Count4, Dns, Link6, First6, Count6}
use Rattle.settings.specs.declared.settings.ServerConfig.{ServerConfig}
use Rattle.settings.specs.declared.settings.RelayConfig.{RelayConfig}
use Rattle.settings.specs.declared.settings.CircuitConfig.{CircuitConfig}
use Rattle.settings.specs.Settings.{Settings}
use Rattle.config.specs.Differences.{CircuitKeyDiffers, CircuitsAgree, IsCircuitDifference, IsServerDifference, PartDiffers, RelayKeyDiffers, ServerKeyDiffers, SharesServer}
use Rattle.config.specs.Plans.{ArePlans, ArePlansOf, IsFaultBetween, IsFirstFault, IsLeastOfUnion, IsPlansFaultOf, IsUnionFault, PlansValue}
use Rattle.config.specs.Rules.{IsSound}
use Rattle.config.specs.Union.{has_circuit, IsUnion}
use Rattle.config.specs.Valid.{IsConfig, IsLeastOfCircuits}
use Rattle.config.proofs.LawLemmas.{breaks_its, keeps_all, not_both, number_below, one_config, one_of, two}
use Rattle.config.proofs.PlanLemmas.{zip_length}
use Rattle.config.proofs.RuleLemmas.{broken_by_circuits}

-- ---- one value

one_configs : (texts : List (List ℕ)) (these those : List Settings) → AllZip IsConfig texts these → AllZip IsConfig texts those → these ≡ those
one_configs [] [] [] h k = refl
one_configs [] (a ∷ as_) those h k = absurd h
one_configs [] [] (b ∷ bs) h k = absurd k
one_configs (t ∷ ts) [] those h k = absurd h
one_configs (t ∷ ts) (a ∷ as_) [] h k = absurd k
one_configs (t ∷ ts) (a ∷ as_) (b ∷ bs) h k =
    let head = one_config t a b h.0 k.0 in
    let tail = one_configs ts as_ bs h.1 k.1 in
    λ i. head i ∷ tail i

one_union : (all : List Settings) (a b : Settings) → 1 ≤ length all → IsUnion all a → IsUnion all b → a ≡ b
one_union [] a b some h k = absurd (omega (arith, some))
one_union (s ∷ rest) a b some h k =
    let one = All-head (SharesServer a) s rest h.shared in
    let other = All-head (SharesServer b) s rest k.shared in
    let server = sym one.server ∙ other.server in
    let relays = sym one.relays ∙ other.relays in
    let circuits = h.circuits ∙ sym k.circuits in
    λ i. record { server = server i; relays = relays i; circuits = circuits i }

one_plans_of : (all : List Settings) (p q : PlansValue) → 1 ≤ length all → ArePlansOf all p → ArePlansOf all q → p ≡ q
one_plans_of all p q some h k =
    let union = one_union all p.union q.union some h.union k.union in
    let members = h.members ∙ ap (λ (s : Settings). map (λ c. map (has_circuit c.id) all) s.circuits) union ∙ sym k.members in
    let count = h.count ∙ sym k.count in
    λ i. record { union = union i; members = members i; count = count i }

pub one_plans : (texts : List (List ℕ)) (p q : PlansValue) → 1 ≤ length texts → ArePlans texts p → ArePlans texts q → p ≡ q
one_plans texts p q some h k =
    let same = one_configs texts h.0 k.0 h.1 k.1 in
    one_plans_of h.0 p q (subst (λ n. 1 ≤ n) (zip_length IsConfig texts h.0 h.1) some) h.2 (subst (λ all. ArePlansOf all q) (sym same) k.2)

-- ---- no fault

-- each text is a configuration
zip_at : (texts : List (List ℕ)) (all : List Settings) (n : ℕ) (text : List ℕ) → AllZip IsConfig texts all → slice_get texts n ≡ Some text → (s : Settings) × IsConfig text s
zip_at [] [] n text h there = absurd (cc)
zip_at [] (s ∷ ss) n text h there = absurd h
zip_at (t ∷ ts) [] n text h there = absurd h
zip_at (t ∷ ts) (s ∷ ss) zero text h there = (s, subst (λ x. IsConfig x s) (same_Some t text there) h.0)
zip_at (t ∷ ts) (s ∷ ss) (suc n) text h there = zip_at ts ss n text h.1 there

no_first_fault : (texts : List (List ℕ)) (all : List Settings) (fault : ConfigFault) → AllZip IsConfig texts all → fault ≢ Memory → IsFirstFault texts fault → ⊥
no_first_fault texts all fault read other h =
    let config = zip_at texts all (length h.before) h.text read h.there in
    not_both h.text config.0 fault config.1 other h.broken

-- servers, relays and circuits that are the same differ nowhere
same_server : (a b : ServerConfig) (key : ServerKey) → a ≡ b → ServerKeyDiffers a b key → ⊥
same_server a b Listen4 same differs = differs (ap (λ s. s.listen4) same)
same_server a b Listen6 same differs = differs (ap (λ s. s.listen6) same)
same_server a b Duid same differs = differs (ap (λ s. s.duid.items) same)

same_relay : (a b : RelayConfig) (key : RelayKey) → a ≡ b → RelayKeyDiffers a b key → ⊥
same_relay a b Name same differs = differs (ap (λ r. r.name.items) same)
same_relay a b SourceKey same differs = differs (ap (λ r. r.source) same)

same_circuit : (a b : CircuitConfig) (key : CircuitKey) → a ≡ b → CircuitKeyDiffers a b key → ⊥
same_circuit a b Id same differs = differs (ap (λ c. c.id) same)
same_circuit a b RelayOf same differs = differs (ap (λ c. c.relay) same)
same_circuit a b Region same differs = differs (ap (λ c. c.region) same)
same_circuit a b Lease same differs = differs (ap (λ c. c.lease) same)
same_circuit a b Gateway4 same differs = differs (ap (λ c. c.gateway4) same)
same_circuit a b Prefix4 same differs = differs (ap (λ c. c.prefix4) same)
same_circuit a b First4 same differs = differs (ap (λ c. c.first4) same)
same_circuit a b Count4 same differs = differs (ap (λ c. c.count4) same)
same_circuit a b Dns same differs = differs (ap (λ c. c.dns.items) same)
same_circuit a b Link6 same differs = differs (ap (λ c. c.link6) same)
same_circuit a b First6 same differs = differs (ap (λ c. c.first6) same)
same_circuit a b Count6 same differs = differs (ap (λ c. c.count6) same)

same_part : (first other : Settings) (part : ServerPart) → first.server ≡ other.server → first.relays ≡ other.relays → PartDiffers first other part → ⊥
same_part first other (Server key) server relays differs = same_server first.server other.server key server differs
same_part first other (Relay number key) server relays differs =
    let one = sym differs.one_is.there ∙ ap (λ rs. slice_get rs (number - 1)) relays ∙ differs.two_is.there in
    same_relay differs.one differs.two key (same_Some differs.one differs.two one) differs.differs
same_part first other (RelayCount count of_first) server relays differs =
    differs.2 (sym differs.0 ∙ ap length (sym relays) ∙ differs.1)

no_server_difference : (all : List Settings) (union : Settings) (difference : ServerDifference) → IsUnion all union → IsServerDifference all difference → ⊥
no_server_difference all union difference is h =
    let first = one_of (SharesServer union) all 1 h.first is.shared h.first_is in
    let other = one_of (SharesServer union) all difference.number h.other is.shared h.other_is in
    same_part h.first h.other difference.part (first.server ∙ sym other.server) (first.relays ∙ sym other.relays) h.differs

no_circuit_difference : (all : List Settings) (difference : CircuitDifference) → AllPairs CircuitsAgree all → IsCircuitDifference all difference → ⊥
no_circuit_difference all difference agree h =
    let both = two CircuitsAgree all difference.one difference.other h.one h.other agree h.ordered h.one_is h.other_is in
    let d = h.differs.circuit in
    let each = All-contains (λ d. All (λ c. c.id ≡ d.id → c ≡ d) h.one.circuits) h.other.circuits d both h.differs.there in
    let inner = h.differs.differs in
    let same = All-contains (λ c. c.id ≡ d.id → c ≡ d) h.one.circuits inner.other each inner.there inner.id in
    same_circuit inner.other d difference.key same inner.differs

no_rule_broken : (union : Settings) (fault : ConfigFault) → IsSound union → IsLeastOfCircuits union fault → ⊥
no_rule_broken union fault sound h =
    breaks_its union fault 52 (broken_by_circuits union fault sound.rules.names h) (keeps_all union sound.rules) (number_below fault)

no_least : (union : Settings) (fault : ConfigFault) → IsSound union → IsLeastOfUnion union fault → ⊥
no_least union (Limit (Circuits count)) sound h = omega (arith, sound.circuits, h.0, h.1)
no_least union fault sound h = no_rule_broken union fault sound h.1

no_union_fault : (all : List Settings) (plans : PlansValue) (fault : ConfigFault) → 1 ≤ length all → ArePlansOf all plans → fault ≢ Memory → IsUnionFault all fault → ⊥
no_union_fault all plans Memory some h other broken = absurd (other refl)
no_union_fault all plans fault some h other broken =
    no_least broken.0 fault (subst IsSound (one_union all plans.union broken.0 some h.union broken.1) h.sound) broken.2

no_fault_between : (all : List Settings) (plans : PlansValue) (fault : ConfigFault) → 1 ≤ length all → ArePlansOf all plans → fault ≢ Memory → IsFaultBetween all fault → ⊥
no_fault_between all plans Memory some h other broken = absurd (other refl)
no_fault_between all plans (ServerDiffers difference) some h other broken = no_server_difference all plans.union difference h.union broken
no_fault_between all plans (CircuitDiffers difference) some h other broken = no_circuit_difference all difference h.agree broken.1
no_fault_between all plans fault some h other broken = no_union_fault all plans fault some h other broken.1

either_fault : (texts : List (List ℕ)) (fault : ConfigFault) → fault ≢ Memory → IsPlansFaultOf texts fault → IsFirstFault texts fault ⊎ ((all : List Settings) × AllZip IsConfig texts all × IsFaultBetween all fault)
either_fault texts Memory other h = absurd (other refl)
either_fault texts fault other h = h

pub no_plans_fault : (texts : List (List ℕ)) (plans : PlansValue) (fault : ConfigFault) → 1 ≤ length texts → ArePlans texts plans → fault ≢ Memory → IsPlansFaultOf texts fault → ⊥
no_plans_fault texts plans fault some h other broken =
    let some_config : 1 ≤ length h.0 = subst (λ n. 1 ≤ n) (zip_length IsConfig texts h.0 h.1) some in
    elim (either_fault texts fault other broken) [
      | inl first ↦ no_first_fault texts h.0 fault h.1 other first
      | inr between ↦ no_fault_between h.0 plans fault some_config h.2 other (subst (λ all. IsFaultBetween all fault) (one_configs texts between.0 h.0 between.1 h.1) between.2)
    ]
