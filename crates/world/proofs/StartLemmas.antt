-- The states of a world that was just opened represent their circuits' machines at the start.
use Rattle.std.proofs.Common.{◌≡◌, ℕ, [], length, map, sym, ap, subst, ◌∙◌}
use Rattle.std.specs.Prelude.{Some, slice_get, slice_index_or, option_map, true, false}
use Rattle.std.proofs.lemmas.Option.{slice_get-map}
use Rattle.std.proofs.lemmas.List.{length-map}
use Rattle.config.specs.CircuitPart.{CircuitPart, part_of, source_at, part_in, parts_of}
use Rattle.config.specs.Membership.{has}
use Rattle.config.specs.Plans.{PlansValue}
use Rattle.config.specs.Topology.{IsTopology, Topology, plans_topology, serves}
use Rattle.settings.specs.Settings.{Settings}
use Rattle.settings.specs.declared.settings.CircuitConfig.{CircuitConfig}
use Rattle.circuit_server.specs.Leases.{come_back, found_leases, recovered_book, region_leases}
use Rattle.dispatch.specs.Regions.{HasRegions}
use Rattle.dispatch.specs.ServerValue.{AreReady}
use Rattle.lease_disk.specs.Device.{Device}
use Rattle.lease_disk.specs.Model as disk
use Rattle.lease_disk.specs.Layout.{is_format2}
use Rattle.lease_disk.specs.Region.{IsClean, Region}
use Rattle.lossy_net.specs.Net.{datagrams}
use Rattle.lossy_net.specs.declared.dir.Dir.{Dir}
use Rattle.lossy_net.specs.declared.dir.Dir.TheVariants as dir
use Rattle.world.specs.Alone.{setup_of, start, unsent}
use Rattle.world.specs.Headline.{Represents}
use Rattle.world.specs.Start.{IsReadable, Starts, begins_on, opened, opening_in, unread}
use Rattle.world.specs.StepsAs.{Each, IsFor, Returns, IsWorldOf, IsWorld}
use Rattle.world.specs.World.{WorldValue, world_state, states}
use Rattle.world.proofs.SetupLemmas.{by_part}
use Rattle.world.proofs.ShownLemmas.{holds_come_back, holds_unread, start_downs, start_on, start_ups}
use Rattle.world.proofs.StateLemmas.{leases_now, state_at}
use Rattle.world.proofs.WorldLemmas.{on_is_served, plans_are, states_count}

-- ---- a world that was just opened

module _ (plans : PlansValue) (quota : ℕ) (w : WorldValue) (sound : IsTopology (plans_topology plans)) (topology : w.relays.topology ≡ plans_topology plans) (served : w.server.topology ≡ plans_topology plans)
    (device : Device) (leases : leases_now w ≡ map (found_leases device.region device.failing_call) (parts_of plans.union))
    (large : HasRegions (parts_of plans.union) (length w.disk.regions)) (ready : AreReady (disk.disk_region w.disk) w.server)
    (count : length w.net.circuits ≡ length plans.union.circuits) (empty : (c : ℕ) (way : Dir) → datagrams w.net c way ≡ []) where
  abbrev settings : Settings
  settings = plans.union

  abbrev t : Topology
  t = plans_topology plans

  abbrev regions : ℕ → Region
  regions = device.region

  abbrev values : CircuitConfig → CircuitPart
  values circuit = part_of circuit (source_at settings.relays circuit.relay) settings.server.listen4 settings.server.listen6 settings.server.duid.items

  pub opens : IsWorld w
  opens = subst (λ v. IsWorldOf v w) (sym topology) (record {
    sound = sound;
    served = served;
    count = count ∙ sym (length-map settings.circuits values);
    regions = large;
    ready = ready;
    addressed = λ c part at. subst (Each (IsFor t c part)) (sym (empty c dir.Up)) tt;
    returned = λ c part at. subst (Each (Returns t c part)) (sym (empty c dir.Down)) tt;
  })

  pub starts : w.net.quota ≡ quota → Starts plans quota device (states w)
  starts quotas = record {
    count = states_count w opens ∙ count;
    members = λ c. (plans_are w opens c) ∙ ap (λ (v : Topology). slice_index_or v.plans.members c []) topology;
    on = λ c. (on_is_served w opens c) ∙ ap (λ v. serves v c) topology;
    each = λ c setup there readable.
        by_part (λ s. IsReadable device s → Represents c (states w) s (opened s (opening_in device s))) plans quota c setup there (λ part there readable. at c part there readable) readable;
    closed = λ c setup there unreadable clean.
        by_part (λ s. (regions s.part.region).readable ≡ false → IsClean (regions s.part.region) → Represents c (states w) s (unread s (regions s.part.region).byte)) plans quota c setup there
        (λ part there unreadable clean. closed_at c part there unreadable clean) unreadable clean;
  }
    where
      closed_at : (c : ℕ) (part : CircuitPart) → part_in settings c ≡ Some part → (regions part.region).readable ≡ false → IsClean (regions part.region)
          → Represents c (states w) (setup_of quota part (begins_on plans c)) (unread (setup_of quota part (begins_on plans c)) (regions part.region).byte)
      closed_at c part there unreadable clean =
          let fault = device.failing_call part.region in
          let found = region_leases part fault (regions part.region) false in
          let is_found : found_leases regions device.failing_call part ≡ found = ap (region_leases part fault (regions part.region)) unreadable in
          let begins = holds_unread part (begins_on plans c) (regions part.region) clean in
          record {
            state = world_state w c part found;
            there =
                state_at (world_state w) w.server.topology.circuits (leases_now w) c part found (ap (λ (v : Topology). slice_get v.circuits c) served ∙ there)
                (ap (λ xs. slice_get xs c) leases ∙ slice_get-map (found_leases regions device.failing_call) (parts_of settings) c ∙ ap (option_map (found_leases regions device.failing_call)) there ∙ ap Some is_found);
            shows = record {
              setup_is = λ i. setup_of (quotas i) part (has (topology i).plans 0 c);
              on = ap (λ v. serves v c) topology;
              up = empty c dir.Up;
              down = empty c dir.Down;
              book = begins.book;
              restarts = begins.restarts;
              formats = begins.formats;
              sure = begins.sure;
            };
          }

      at : (c : ℕ) (part : CircuitPart) → part_in settings c ≡ Some part → (regions part.region).readable ≡ true
          → Represents c (states w) (setup_of quota part (begins_on plans c)) (start (begins_on plans c) (device.failing_call part.region) (recovered_book part (regions part.region).byte) (is_format2 (regions part.region).byte))
      at c part there readable =
          let fault = device.failing_call part.region in
          let kept = recovered_book part (regions part.region).byte in
          let two = is_format2 (regions part.region).byte in
          let found = come_back fault kept two in
          let is_found : found_leases regions device.failing_call part ≡ found = ap (region_leases part fault (regions part.region)) readable in
          let on = begins_on plans c in
          let begins = holds_come_back fault kept two (unsent on) in
          record {
            state = world_state w c part found;
            there =
                state_at (world_state w) w.server.topology.circuits (leases_now w) c part found (ap (λ (v : Topology). slice_get v.circuits c) served ∙ there)
                (ap (λ xs. slice_get xs c) leases ∙ slice_get-map (found_leases regions device.failing_call) (parts_of settings) c ∙ ap (option_map (found_leases regions device.failing_call)) there ∙ ap Some is_found);
            shows = record {
              setup_is = λ i. setup_of (quotas i) part (has (topology i).plans 0 c);
              on = ap (λ v. serves v c) topology ∙ sym (start_on on fault kept two);
              up = empty c dir.Up ∙ sym (start_ups on fault kept two);
              down = empty c dir.Down ∙ sym (start_downs on fault kept two);
              book = begins.book;
              restarts = begins.restarts;
              formats = begins.formats;
              sure = begins.sure;
            };
          }
