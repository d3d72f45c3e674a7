-- What relays and server know of a configuration keeps what the configuration's rules say.
use Rattle.std.proofs.Common.{◌≡◌, ◌≢◌, ℕ, zero, suc, ◌<◌, ◌≤◌, Bool, true, false, List, [], ◌∷◌, length, map, get_or, refl, sym, ap, ◌∙◌, subst, arith}
use Rattle.std.specs.Prelude.{All, AllPairs, Option, Some, None, slice_get, ◌==◌, ◌&&◌}
use Rattle.std.specs.List.{position, position_or_len}
use Rattle.std.specs.Str.{bytes_eq}
use Rattle.std.proofs.lemmas.Bool.{eq-eqb, eqb-true, false≢true}
use Rattle.std.proofs.lemmas.Grind.{common_steps}
use Rattle.std.proofs.lemmas.List.{length-map}
use Rattle.std.proofs.lemmas.List.Folds.{list_any_at}
use Rattle.std.proofs.lemmas.List.Quantifiers.{position-Some}
use Rattle.std.proofs.lemmas.List.Sums.{fails_before_first}
use Rattle.std.proofs.lemmas.Option.{get_or_from_slice_get, same_Some, slice_get-get_or, slice_get_within}
use Rattle.std.proofs.lemmas.Slice.Eq.{bytes_eq-Decides}
use Rattle.types.specs.Addr.{same_source}
use Rattle.types.specs.declared.addr.Source.{Source}
use Rattle.types.specs.declared.dest.Proto.{Proto}
use Rattle.types.specs.declared.dest.Proto.TheVariants.{V4, V6}
use Rattle.settings.specs.Settings.{Settings, IsWithinLimits}
use Rattle.settings.specs.declared.settings.CircuitConfig.{CircuitConfig}
use Rattle.settings.specs.declared.settings.RelayConfig.{RelayConfig}
use Rattle.config.specs.CircuitPart.{CircuitPart, IsPart, listen_of, part_of, parts_of, source_at}
use Rattle.config.specs.Membership.{IsMembership, MembershipValue}
use Rattle.config.specs.Rules.{IsSound}
use Rattle.config.specs.Topology.{IsTopology, RegionsDiffer, Topology, circuit_found, circuit_at_index, has_id, is_relay, listen, relay_circuit, serves, topology_with}
use Rattle.config.proofs.PartLemmas.{all_at, never}

-- ---- elements by their indexes

-- what is at an index of a mapped list comes from there
pub of_map : {A B : Type 0} (f : A → B) (xs : List A) (n : ℕ) (y : B) → slice_get (map f xs) n ≡ Some y → (x : A) × (slice_get xs n ≡ Some x) × (y ≡ f x)
of_map f [] n y at = absurd cc
of_map f (x ∷ xs) zero y at = (x, refl, sym (same_Some (f x) y at))
of_map f (x ∷ xs) (suc n) y at = of_map f xs n y at

-- where no two are alike, one that is like the other is at its index
module _ {A B : Type 0} (f : A → B) (xs : List A) (apart : AllPairs (λ a b. f a ≢ f b) xs) where
  unlike : (c d : ℕ) (x y : A) → slice_get xs c ≡ Some x → slice_get xs d ≡ Some y → c < d → f x ≡ f y → ⊥
  unlike c d x y at other below same =
      apart c d x below (slice_get_within xs d y other) (ap f (get_or_from_slice_get xs c x x at) ∙ same ∙ sym (ap f (get_or_from_slice_get xs d y x other)))

  pub same_index : (c d : ℕ) (x y : A) → slice_get xs c ≡ Some x → slice_get xs d ≡ Some y → f y ≡ f x → d ≡ c
  same_index c d x y at other same =
      let before : c < d → ⊥ = λ below. unlike c d x y at other below (sym same) in
      let behind : d < c → ⊥ = λ above. unlike d c y x other at above same in
      omega arith

-- ---- sources

pub bytes_eq_self : (bytes : List ℕ) → bytes_eq bytes bytes ≡ true
bytes_eq_self bytes = (bytes_eq-Decides bytes bytes).1 refl

pub same_source_self : (source : Source) → same_source source source ≡ true
same_source_self source = rw (bytes_eq_self source.addr.0, eq-eqb source.port source.port refl) refl

pub same_is_one : (a b : Source) → same_source a b ≡ true → a ≡ b
same_is_one a b same = by_addr (bytes_eq a.addr.0 b.addr.0) refl same
  where
    by_addr : (t : Bool) → bytes_eq a.addr.0 b.addr.0 ≡ t → (t && (a.port == b.port)) ≡ true → a ≡ b
    by_addr true is both =
        let addr : a.addr.0 ≡ b.addr.0 = (bytes_eq-Decides a.addr.0 b.addr.0).0 is in
        let port : a.port ≡ b.port = eqb-true a.port b.port both in
        λ i. record { addr = record { 0 = addr i }; port = port i }
    by_addr false is both = absurd cc

-- a relay that is there is known by its source
pub is_known : (topology : Topology) (r : ℕ) (source : Source) → slice_get topology.relays r ≡ Some source → is_relay topology source ≡ true
is_known topology r source at =
    list_any_at (same_source source) topology.relays r source (slice_get_within topology.relays r source at)
    (ap (same_source source) (get_or_from_slice_get topology.relays r source source at) ∙ same_source_self source)

-- the relay that is found by its source is there
pub relay_there : (relays : List Source) (i : ℕ) (source : Source) → position (same_source source) relays ≡ Some i → slice_get relays i ≡ Some source
relay_there relays i source found =
    let at = position-Some (same_source source) relays i source found in
    slice_get-get_or relays i source at.0 ∙ ap Some (sym (same_is_one source (get_or relays i source) at.1))

-- and one that is not found is nowhere
pub relay_nowhere : (relays : List Source) (i : ℕ) (source : Source) → position (same_source source) relays ≡ None → slice_get relays i ≡ Some source → ⊥
relay_nowhere relays i source none there =
    let past : length relays ≤ position_or_len (same_source source) relays = grind (arith, common_steps) in
    let inside = slice_get_within relays i source there in
    let same = ap (same_source source) (get_or_from_slice_get relays i source source there) ∙ same_source_self source in
    false≢true (sym (fails_before_first (same_source source) relays i source (omega (arith, past, inside))) ∙ same)

-- ---- the topology of a configuration

source_is : (relays : List RelayConfig) (n : ℕ) → n < length relays → slice_get (map (λ (r : RelayConfig). r.source) relays) n ≡ Some (source_at relays n)
source_is [] n h = absurd (omega (arith, h))
source_is (r ∷ rs) zero h = refl
source_is (r ∷ rs) (suc n) h = source_is rs n (omega (arith, h))

module _ (settings : Settings) (plans : MembershipValue) (sound : IsSound settings) (each : IsMembership (length settings.circuits) plans) where
  abbrev t : Topology
  t = topology_with settings plans

  abbrev values : CircuitConfig → CircuitPart
  values circuit = part_of circuit (source_at settings.relays circuit.relay) settings.server.listen4 settings.server.listen6 settings.server.duid.items

  its : (c : ℕ) (part : CircuitPart) → slice_get t.circuits c ≡ Some part → (circuit : CircuitConfig) × (slice_get settings.circuits c ≡ Some circuit) × (part ≡ values circuit)
  its c part at = of_map values settings.circuits c part at

  its_relay : (c : ℕ) (part : CircuitPart) → slice_get t.circuits c ≡ Some part → (r : ℕ) × (slice_get t.relays r ≡ Some part.relay)
  its_relay c part at =
      let circuit = its c part at in
      let limits = all_at (IsWithinLimits settings.relays) settings.circuits c circuit.0 circuit.1 sound.limits in
      (circuit.0.relay, source_is settings.relays circuit.0.relay limits.relay ∙ ap (λ (p : CircuitPart). Some p.relay) (sym circuit.2))

  listened : (circuit : CircuitConfig) (proto : Proto) → listen_of (values circuit) proto ≡ listen t proto
  listened circuit V4 = refl
  listened circuit V6 = refl

  ids : (c : ℕ) (part : CircuitPart) → slice_get t.circuits c ≡ Some part
      → (d : ℕ) (other : CircuitPart) → slice_get t.circuits d ≡ Some other → other.id ≡ part.id → d ≡ c
  ids c part at d other there same =
      let one = its c part at in
      let two = its d other there in
      same_index (λ (x : CircuitConfig). x.id) settings.circuits sound.rules.names.ids c d one.0 two.0 one.1 two.1
      (ap (λ (p : CircuitPart). p.id) (sym two.2) ∙ same ∙ ap (λ (p : CircuitPart). p.id) one.2)

  pub regions_differ : RegionsDiffer (parts_of settings)
  regions_differ c d one other at there same =
      let x = its c one at in
      let y = its d other there in
      same_index (λ (circuit : CircuitConfig). circuit.region) settings.circuits sound.rules.regions d c y.0 x.0 y.1 x.1
      (ap (λ (p : CircuitPart). p.region) (sym x.2) ∙ same ∙ ap (λ (p : CircuitPart). p.region) y.2)

  pub is_topology : All IsPart (parts_of settings) → IsTopology (topology_with settings plans)
  is_topology are_parts = record {
    few_relays = subst (λ n. n ≤ 8) (sym (length-map settings.relays (λ (r : RelayConfig). r.source))) sound.relays;
    few_circuits = subst (λ n. n ≤ 1024) (sym (length-map settings.circuits values)) sound.circuits;
    parts = are_parts;
    listens_differ = sound.rules.names.listens;
    listens = λ c part proto at. let circuit = its c part at in ap (λ (p : CircuitPart). listen_of p proto) circuit.2 ∙ listened circuit.0 proto;
    relay = its_relay;
    ids = ids;
    regions = regions_differ;
    plans = subst (λ n. IsMembership n plans) (sym (length-map settings.circuits values)) each;
  }

-- ---- finding a relay's circuit

pub no_id : (topology : Topology) (relay : Source) → relay_circuit topology relay None ≡ None
no_id topology relay = ap (circuit_at_index topology relay) (never topology.circuits)

pub nowhere : (topology : Topology) (relay : Source) (id : Option (List ℕ)) → position (has_id id) topology.circuits ≡ None → relay_circuit topology relay id ≡ None
nowhere topology relay id none = ap (circuit_at_index topology relay) none

pub somewhere : (topology : Topology) (relay : Source) (id : Option (List ℕ)) (c : ℕ) (part : CircuitPart)
    → position (has_id id) topology.circuits ≡ Some c → slice_get topology.circuits c ≡ Some part
    → relay_circuit topology relay id ≡ circuit_found relay c (serves topology c) (Some part)
somewhere topology relay id c part found there = ap (circuit_at_index topology relay) found ∙ ap (circuit_found relay c (serves topology c)) there

pub own_relay : (relay : Source) (c : ℕ) (served : Bool) (part : CircuitPart) → same_source part.relay relay ≡ true → served ≡ true → circuit_found relay c served (Some part) ≡ Some (c, part)
own_relay relay c served part same is = rw (same, is) refl
