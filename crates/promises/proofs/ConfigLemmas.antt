-- The pools of the circuits of configurations.
use Rattle.std.proofs.Common.{◌≡◌, ◌≢◌, ℕ, ◌<◌, sym, subst, arith}
use Rattle.std.specs.Prelude.{Some, slice_get}
use Rattle.std.proofs.lemmas.List.Elements.{All-get_or}
use Rattle.std.proofs.lemmas.Option.{slice_get_within, get_or_from_slice_get}
use Rattle.types.specs.declared.dest.Proto.{Proto}
use Rattle.types.specs.declared.dest.Proto.TheVariants.{V4, V6}
use Rattle.settings.specs.Settings.{Settings, IsWithinLimits}
use Rattle.settings.specs.declared.settings.CircuitConfig.{CircuitConfig}
use Rattle.config.specs.CircuitPart.{CircuitPart, part_of, source_at, part_in}
use Rattle.config.specs.Rules.{IsInPool4, IsInPool6, IsSound, Pools4Apart, Pools6Apart}
use Rattle.config.proofs.TopologyLemmas.{of_map}
use Rattle.promises.specs.Books.{IsInPool}
use Rattle.promises.proofs.PoolLemmas.{HasLimits}

-- ---- the circuit of a part

module _ (settings : Settings) where
  abbrev values : CircuitConfig → CircuitPart
  values circuit = part_of circuit (source_at settings.relays circuit.relay) settings.server.listen4 settings.server.listen6 settings.server.duid.items

  its : (c : ℕ) (part : CircuitPart) → part_in settings c ≡ Some part → (circuit : CircuitConfig) × (slice_get settings.circuits c ≡ Some circuit) × (part ≡ values circuit)
  its c part at = of_map values settings.circuits c part at

  pub limits_of : IsSound settings → (c : ℕ) (part : CircuitPart) → part_in settings c ≡ Some part → HasLimits part
  limits_of sound c part at =
      let circuit = its c part at in
      let xs = settings.circuits in
      let within : IsWithinLimits settings.relays circuit.0 =
      subst (IsWithinLimits settings.relays) (get_or_from_slice_get xs c circuit.0 circuit.0 circuit.1)
      (All-get_or (IsWithinLimits settings.relays) xs c circuit.0 (slice_get_within xs c circuit.0 circuit.1) sound.limits) in
      subst HasLimits (sym circuit.2)
      (record {
        four = within.pool4;
        six = record { least = within.least_count6; most = within.most_count6; no_wrap = within.no_wrap6; shortest = within.pool4.shortest; longest = within.pool4.longest };
      })

  -- ---- no two pools have an address in common

  abbrev InCircuit : Proto → CircuitConfig → ℕ → Type 0
  InCircuit V4 circuit n = IsInPool4 circuit n
  InCircuit V6 circuit n = IsInPool6 circuit n

  abbrev PoolsApart : Proto → Type 0
  PoolsApart V4 = Pools4Apart settings
  PoolsApart V6 = Pools6Apart settings

  below_apart : (p : Proto) → PoolsApart p → (c d : ℕ) (x y : CircuitConfig) → slice_get settings.circuits c ≡ Some x → slice_get settings.circuits d ≡ Some y → c < d
      → (n : ℕ) → InCircuit p x n → InCircuit p y n → ⊥
  below_apart V4 apart c d x y at there below n one other =
      let xs = settings.circuits in
      apart c d x below (slice_get_within xs d y there) n
      (subst (λ (z : CircuitConfig). IsInPool4 z n) (sym (get_or_from_slice_get xs c x x at)) one)
      (subst (λ (z : CircuitConfig). IsInPool4 z n) (sym (get_or_from_slice_get xs d y x there)) other)
  below_apart V6 apart c d x y at there below n one other =
      let xs = settings.circuits in
      apart c d x below (slice_get_within xs d y there) n
      (subst (λ (z : CircuitConfig). IsInPool6 z n) (sym (get_or_from_slice_get xs c x x at)) one)
      (subst (λ (z : CircuitConfig). IsInPool6 z n) (sym (get_or_from_slice_get xs d y x there)) other)

  in_values : (p : Proto) (circuit : CircuitConfig) (n : ℕ) → IsInPool (values circuit) p n → InCircuit p circuit n
  in_values V4 circuit n inside = record { from = inside.from; below = inside.below }
  in_values V6 circuit n inside = record { from = inside.from; below = inside.below }

  in_its_pool : (p : Proto) (part : CircuitPart) (circuit : CircuitConfig) → part ≡ values circuit → (n : ℕ) → IsInPool part p n → InCircuit p circuit n
  in_its_pool p part circuit is n inside = in_values p circuit n (subst (λ (part : CircuitPart). IsInPool part p n) is inside)

  rules_apart : IsSound settings → (p : Proto) → PoolsApart p
  rules_apart sound V4 = sound.rules.pools4
  rules_apart sound V6 = sound.rules.pools6

  pub pools_apart : IsSound settings → (p : Proto) (c d : ℕ) (one other : CircuitPart) → part_in settings c ≡ Some one → part_in settings d ≡ Some other → c ≢ d
      → (n : ℕ) → IsInPool one p n → IsInPool other p n → ⊥
  pools_apart sound p c d one other at there differ n first second =
      let x = its c one at in
      let y = its d other there in
      let mine = in_its_pool p one x.0 x.2 n first in
      let yours = in_its_pool p other y.0 y.2 n second in
      let rules = rules_apart sound p in
      let before : c < d → ⊥ = λ below. below_apart p rules c d x.0 y.0 x.1 y.1 below n mine yours in
      let behind : d < c → ⊥ = λ above. below_apart p rules d c y.0 x.0 y.1 x.1 above n yours mine in
      let same : c ≡ d = omega arith in
      differ same
