-- A world over regions that can be read.
use Rattle.std.proofs.Common.{◌≡◌, ℕ, ◌<◌, List, get_or, refl, sym, ap, subst, ◌∙◌}
use Rattle.std.specs.Prelude.{Option, Some, None, Result, Ok, Err, IfOk, IfErr, option_map, slice_get}
use Rattle.std.proofs.lemmas.Option.{same_Some, slice_get-map, slice_get-get_or}
use Rattle.config.specs.CircuitPart.{CircuitPart, part_in, part_of, parts_of, source_at}
use Rattle.config.specs.Plans.{PlansValue}
use Rattle.config.specs.Topology.{plans_topology}
use Rattle.settings.specs.Settings.{Settings}
use Rattle.settings.specs.declared.settings.CircuitConfig.{CircuitConfig}
use Rattle.dispatch.specs.Regions.{AreSynced, HasRegions}
use Rattle.dispatch.specs.declared.server.OpenFault.{OpenFault}
use Rattle.dispatch.specs.declared.server.OpenFault.TheVariants.{Memory, DiskTooSmall}
use Rattle.lease_disk.specs.Device.{Device}
use Rattle.lease_disk.specs.Region.{Region}
use Rattle.world.specs.Headline.{CircuitState, Represents}
use Rattle.world.specs.Start.{Opening, Starts, opening_in}
use Rattle.world.specs.World.{WorldValue, states}
use Rattle.world.proofs.SetupLemmas.{its_part}
use Rattle.lab_engine.specs.Lab.{first_machine, first_machines}
use Rattle.lab_engine.specs.Preparations.{AreOver, AreReady, AreWithin, IsOpening}
use Rattle.lab_engine.proofs.OpeningLemmas.{same_opened}
use Rattle.lab_engine.specs.Progress.{AllRepresent, KnowsPlans}

within_at : (settings : Settings) (count c : ℕ) (part : CircuitPart) (o : Option CircuitConfig) → AreWithin settings count → slice_get settings.circuits c ≡ o
    → option_map (λ (x : CircuitConfig). part_of x (source_at settings.relays x.relay) settings.server.listen4 settings.server.listen6 settings.server.duid.items) o ≡ Some part → part.region < count
within_at settings count c part None within there h = absurd (cc)
within_at settings count c part (Some circuit) within there h = subst (λ (p : CircuitPart). p.region < count) (same_Some _ _ h) (within c circuit there)

pub part_within : (settings : Settings) (count c : ℕ) (part : CircuitPart) → AreWithin settings count → part_in settings c ≡ Some part → part.region < count
part_within settings count c part within h =
    within_at settings count c part (slice_get settings.circuits c) within refl
    (sym (slice_get-map (λ (x : CircuitConfig). part_of x (source_at settings.relays x.relay) settings.server.listen4 settings.server.listen6 settings.server.duid.items) settings.circuits c) ∙ h)

-- it begins with the machines of the openings over this device
represents : (plans : PlansValue) (quota count : ℕ) (device : Device) (states : List CircuitState) → AreWithin plans.union count → AreReady count device.region → Starts plans quota device states
    → (openings : ℕ → Opening) → AreOver plans quota device openings → AllRepresent plans quota states (first_machines plans quota openings)
represents plans quota count device states within ready starts openings over = record {
  each = λ c setup h.
      let found : IsOpening device setup.part.region (openings c) = over.each c setup h in
      subst (Represents c states setup) (sym (ap (first_machine (openings c)) h ∙ same_opened setup (opening_in device setup) (openings c) found.byte found.move_fault))
      (starts.each c setup h (ready setup.part.region (part_within plans.union count c setup.part within (its_part plans quota c setup h))).readable);
  members = starts.members;
}

pub represents_ok : (plans : PlansValue) (quota count : ℕ) (device : Device) (r : Result WorldValue OpenFault) → AreWithin plans.union count → AreReady count device.region
    → IfOk r (λ world. Starts plans quota device (states world)) → IfOk r (λ world. (openings : ℕ → Opening) → AreOver plans quota device openings → AllRepresent plans quota (states world) (first_machines plans quota openings))
represents_ok plans quota count device (Ok world) within ready starts = represents plans quota count device (states world) within ready starts
represents_ok plans quota count device (Err why) within ready starts = tt

-- the first plan is in force
pub known_at_first : (plans : PlansValue) (world : WorldValue) → world.relays.topology ≡ plans_topology plans → KnowsPlans plans world.relays.topology
known_at_first plans world is = record { plan = 0; is = is }

-- what an opening asks of the device
pub are_synced : (settings : Settings) (count : ℕ) (regions : ℕ → Region) → AreWithin settings count → AreReady count regions → AreSynced (parts_of settings) regions
are_synced settings count regions within ready = λ k d inside readable.
    let part : CircuitPart = get_or (parts_of settings) k d in
    (ready part.region (part_within settings count k part within (slice_get-get_or (parts_of settings) k d inside))).clean

has_regions : (settings : Settings) (count : ℕ) → AreWithin settings count → HasRegions (parts_of settings) count
has_regions settings count within = λ k d inside.
    part_within settings count k (get_or (parts_of settings) k d) within (slice_get-get_or (parts_of settings) k d inside)

-- The device has each circuit's region, so that only memory may lack.
pub memory_lacks : (settings : Settings) (count n : ℕ) (r : Result WorldValue OpenFault) → AreWithin settings count → n ≡ count
    → IfErr r (λ why. why ≡ DiskTooSmall → HasRegions (parts_of settings) n → ⊥) → IfErr r (λ why. why ≡ Memory)
memory_lacks settings count n (Ok world) within same small = tt
memory_lacks settings count n (Err Memory) within same small = refl
memory_lacks settings count n (Err DiskTooSmall) within same small = absurd (small refl (subst (HasRegions (parts_of settings)) (sym same) (has_regions settings count within)))
