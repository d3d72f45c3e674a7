-- What the server makes of a datagram that the network kept, and what is written to the device.
use Rattle.std.proofs.Common.{◌≡◌, ◌≢◌, ℕ, ◌+◌, ◌<◌, Bool, true, false, eqb, List, length, set, refl, sym, ap, subst, ◌∙◌, arith}
use Rattle.std.specs.Prelude.{All, ◌&&◌, ◌==◌, not, if◌then◌else◌, Option, Some, None, Result, Ok, slice_get}
use Rattle.std.proofs.lemmas.Option.{slice_get_within, get_or_from_slice_get, same_Some}
use Rattle.std.proofs.lemmas.Bool.{eq-eqb, eqb-true, eqb-false}
use Rattle.std.proofs.lemmas.List.{length-set}
use Rattle.types.specs.Delivery.{DeliveryValue, delivery}
use Rattle.types.specs.declared.addr.Source.{Source}
use Rattle.types.specs.declared.discard.Discard.{Discard}
use Rattle.config.specs.CircuitPart.{CircuitPart}
use Rattle.config.specs.Membership.{has}
use Rattle.config.specs.Topology.{RegionsDiffer, Topology, serves}
use Rattle.requests.specs.Addressee.{addressee}
use Rattle.circuit_server.specs.Leases.{Leases, after_datagram}
use Rattle.dispatch.specs.Regions.{AreSynced, KeepsOthers}
use Rattle.dispatch.specs.Received.{Received, addressee_answered, addressee_leases, addressee_saves, circuit_answered, leases_with, received, received_leases, received_saves, with_answered}
use Rattle.circuit_server.specs.Answered.{IsAnswer, answered, circuit_saves, fails_at}
use Rattle.circuit_server.specs.Server.{Book, served}
use Rattle.dispatch.specs.ServerValue.{books_in, leases_in}
use Rattle.lease_disk.specs.Crash.{crashed}
use Rattle.lease_disk.specs.Device.{Device, WritesAt}
use Rattle.lease_disk.specs.Model.{ModelDiskValue, SameBut}
use Rattle.lease_disk.specs.Model as disk
use Rattle.lease_disk.specs.Region.{IsClean, Region, effective}
use Rattle.lease_disk.specs.declared.image.Image.{Image}
use Rattle.lease_disk.specs.declared.image.Image.TheVariants.{Byte, Unreadable}
use Rattle.lossy_net.specs.Net.{Datagram, datagrams}
use Rattle.lossy_net.specs.declared.dir.Dir.TheVariants as dir
use Rattle.world.specs.Alone.{setup_of, Setup, delivery_of, book_writes, writes}
use Rattle.events.specs.declared.comeback.Comeback.{Comeback}
use Rattle.world.specs.StepsAs.{IsFor, IsWorld}
use Rattle.world.specs.World.{WorldValue}
use Rattle.world.proofs.ShownLemmas.{its_answer, its_fails}
use Rattle.world.proofs.StateLemmas.{is_there, leases_now, get_set, get_set_other}
use Rattle.world.proofs.WorldLemmas.{each_at, TheCircuit, all_at}

-- of a region that can be read after a crash no byte is unsynced
crashed_clean : (i : Image) (r : Region) → (crashed i r).readable ≡ true → IsClean (crashed i r)
crashed_clean (Byte byte) r readable = record { each = λ i. refl }
crashed_clean Unreadable r readable = absurd cc

pub are_synced : (parts : List CircuitPart) (comebacks : ℕ → Comeback) (old new : ℕ → Region)
    → ((c : ℕ) (part : CircuitPart) → slice_get parts c ≡ Some part → new part.region ≡ crashed (comebacks c).image (old part.region)) → AreSynced parts new
are_synced parts comebacks old new crash = λ k default within.
    let one = is_there parts k within in
    let P : CircuitPart → Type 0 = λ part. (new part.region).readable ≡ true → IsClean (new part.region) in
    let Q : Region → Type 0 = λ r. r.readable ≡ true → IsClean r in
    subst P (sym (get_or_from_slice_get parts k one.0 default one.1)) (subst Q (sym (crash k one.0 one.1)) (crashed_clean (comebacks k).image (old one.0.region)))

-- ---- what the server made of a datagram that the network kept

-- no region, or this one
abbrev pub OneOf : ℕ → Option ℕ → Type 0
OneOf r None = Unit {0}
OneOf r (Some n) = n ≡ r

fails_here : (faults : ℕ → ℕ) (region : ℕ) (is_kept : Bool) → fails_at faults (if is_kept then Some region else None) region ≡ (is_kept && not (effective 6 (faults region) == 0))
fails_here faults region true = ap (λ b. b && not (effective 6 (faults region) == 0)) (eq-eqb region region refl)
fails_here faults region false = refl

circuit_fails_is : (part : CircuitPart) (e : DeliveryValue) (faults : ℕ → ℕ) (book : Option Book)
    → fails_at faults (circuit_saves e (Some part) (Some book)) part.region ≡ its_fails part e (faults part.region) book
circuit_fails_is part e faults None = refl
circuit_fails_is part e faults (Some b) = fails_here faults part.region (served part e b).is_kept

-- the parts, the books and the leases at circuit k
module _ (topology : Topology) (p : CircuitPart) (e : DeliveryValue) (books : List (Option Book)) (all : List Leases) (faults : ℕ → ℕ) (k : ℕ) (l : Leases)
    (found : addressee topology e ≡ Ok k) (there : slice_get topology.circuits k ≡ Some p) (book : slice_get books k ≡ Some l.book) (its : slice_get all k ≡ Some l) where
  fails_is_its : fails_at faults (received_saves topology e books) p.region ≡ its_fails p e (faults p.region) l.book
  fails_is_its = ap (λ r. fails_at faults (addressee_saves topology e books r) p.region) found ∙ (λ i. fails_at faults (circuit_saves e (there i) (book i)) p.region) ∙ circuit_fails_is p e faults l.book

  pub received_is : (fails : ℕ → Bool) → received topology e fails books ≡ with_answered k books (answered p e (fails p.region) l.book)
  received_is fails = ap (addressee_answered topology e fails books) found ∙ λ i. circuit_answered k e fails books (there i) (book i)

  pub leases_are : received_leases topology e faults all ≡ set all k (after_datagram p e (faults p.region) l)
  leases_are = ap (addressee_leases topology e faults all) found ∙ λ i. leases_with k e faults all (there i) (its i)

-- the region that a datagram of circuit k is saved to, if any is
pub saves_own : (part : CircuitPart) (e : DeliveryValue) (book : Option Book) → OneOf part.region (circuit_saves e (Some part) (Some book))
saves_own part e None = tt
saves_own part e (Some b) = either part.region (served part e b).is_kept where
  either : (r : ℕ) (is_kept : Bool) → OneOf r (if is_kept then Some r else None)
  either r true = refl
  either r false = tt

pub record IsServed (w : WorldValue) (k : ℕ) (part : CircuitPart) (l : Leases) (now fault : ℕ) (d : Datagram) (result : Result (Unit {0}) Discard) (reply : List ℕ) (after : List Leases) : Type 0 where
  pub found : addressee w.relays.topology (delivery_of part now d) ≡ Ok k
  pub answer : IsAnswer (its_answer part (delivery_of part now d) fault l.book) result reply
  pub leases : slice_get after k ≡ Some (after_datagram part (delivery_of part now d) fault l)
  pub others : (c : ℕ) → eqb k c ≡ false → slice_get after c ≡ slice_get (leases_now w) c
  pub size : length after ≡ length (leases_now w)

pub is_served : (w : WorldValue) → IsWorld w → (k : ℕ) (the : TheCircuit w k) → serves w.relays.topology k ≡ true → (j : ℕ) (d : Datagram) (now fault : ℕ) (source : Source) (given : CircuitPart)
    → slice_get (datagrams w.net k dir.Up) j ≡ Some d → slice_get w.server.topology.circuits k ≡ Some given → source ≡ given.relay
    → (regions : ℕ → Region) (faults : ℕ → ℕ) → regions ≡ disk.disk_region w.disk → faults given.region ≡ fault
    → (result : Result (Unit {0}) Discard) (reply : List ℕ) (fails : ℕ → Bool) (after : List Leases)
    → ((r : ℕ) → fails r ≡ fails_at faults (received_saves w.server.topology (delivery d.proto source now d.bytes) (books_in w.server)) r)
    → IsAnswer (received w.server.topology (delivery d.proto source now d.bytes) fails (books_in w.server)).answer result reply
    → after ≡ received_leases w.server.topology (delivery d.proto source now d.bytes) faults (leases_in regions w.server)
    → IsServed w k the.part the.leases now fault d result reply after
is_served w is k the on j d now fault source given kept at from regions faults same_regions failing_call result reply fails after failing answer leases =
    let same : given ≡ the.part = same_Some given the.part (sym at ∙ the.served) in
    let comes : source ≡ the.part.relay = from ∙ ap (λ p. p.relay) same in
    let at_region : faults the.part.region ≡ fault = ap (λ (p : CircuitPart). faults p.region) (sym same) ∙ failing_call in
    let found = each_at (IsFor w.relays.topology k the.part) (datagrams w.net k dir.Up) j d (is.addressed k the.part the.there) kept w.relays.topology.plans now on in
    let here = ap (λ t. addressee t (delivery_of the.part now d)) is.served ∙ found in
    let topology = w.server.topology in
    let books = books_in w.server in
    let all = leases_now w in
    let its_fault : fails the.part.region ≡ its_fails the.part (delivery_of the.part now d) fault the.leases.book =
    failing the.part.region ∙ ap (λ s. fails_at faults (received_saves topology (delivery d.proto s now d.bytes) books) the.part.region) comes
    ∙ fails_is_its topology the.part (delivery_of the.part now d) books all faults k the.leases here the.served the.book the.its
    ∙ ap (λ f. its_fails the.part (delivery_of the.part now d) f the.leases.book) at_region in
    let answers = ap (λ s. received topology (delivery d.proto s now d.bytes) fails books) comes
    ∙ received_is topology the.part (delivery_of the.part now d) books all faults k the.leases here the.served the.book the.its fails
    ∙ ap (λ f. with_answered k books (answered the.part (delivery_of the.part now d) f the.leases.book)) its_fault in
    let done = after_datagram the.part (delivery_of the.part now d) fault the.leases in
    let written : after ≡ set all k done =
    leases ∙ (λ i. received_leases topology (delivery d.proto (comes i) now d.bytes) faults (leases_in (same_regions i) w.server))
    ∙ leases_are topology the.part (delivery_of the.part now d) books all faults k the.leases here the.served the.book the.its
    ∙ ap (λ f. set all k (after_datagram the.part (delivery_of the.part now d) f the.leases)) at_region in
    let P : Received → Type 0 = λ r. IsAnswer r.answer result reply in
    record {
      found = found;
      answer = subst P answers answer;
      leases = ap (λ ls. slice_get ls k) written ∙ get_set all k done (slice_get_within all k the.leases the.its);
      others = λ c other. ap (λ ls. slice_get ls c) written ∙ get_set_other all k c done (eqb-false k c other);
      size = ap length written ∙ length-set all k done;
    }

-- ---- what is written to the device

-- every region but this one stays, and so does its failing_call
pub record Beside (r : ℕ) (old new : Device) : Type 0 where
  pub region : (q : ℕ) → q ≢ r → new.region q ≡ old.region q
  pub failing_call : (q : ℕ) → q ≢ r → new.failing_call q ≡ old.failing_call q

pub beside_then : (r : ℕ) (old middle new : Device) → Beside r old middle → Beside r middle new → Beside r old new
beside_then r old middle new f g = record { region = λ q other. g.region q other ∙ f.region q other; failing_call = λ q other. g.failing_call q other ∙ f.failing_call q other }

pub beside_written : (r : ℕ) (x : Option ℕ) (old new : Device) → OneOf r x → WritesAt true x old new → Beside r old new
beside_written r None old new one written = record { region = λ q other. ap (λ (d : Device). d.region q) written; failing_call = λ q other. ap (λ (d : Device). d.failing_call q) written }
beside_written r (Some n) old new one written =
    let P : ℕ → Type 0 = λ m. Beside m old new in
    subst P one (record { region = written.region refl; failing_call = written.failing_call refl })

pub beside_set : (r : ℕ) (old new : ModelDiskValue) → SameBut r old new → Beside r (disk.device_of old) (disk.device_of new)
beside_set r old new same = record { region = λ q other. ap disk.region_of (same.others q other); failing_call = same.failing_calls }

pub spares_beside : (parts : List CircuitPart) (r : ℕ) (old new : Device) (k : ℕ) (part : CircuitPart) → slice_get parts k ≡ Some part → part.region ≡ r → Beside r old new → KeepsOthers parts old new
spares_beside parts r old new k part there its beside = record {
  region = λ q spare. beside.region q (λ same. is_spare q spare (its ∙ sym same));
  failing_call = λ q spare. beside.failing_call q (λ same. is_spare q spare (its ∙ sym same));
}
  where
    is_spare : (q : ℕ) → All (λ (one : CircuitPart). one.region ≢ q) parts → part.region ≢ q
    is_spare q spare = all_at (λ (one : CircuitPart). one.region ≢ q) parts k part spare there

pub spares_then : (parts : List CircuitPart) (old middle new : Device) → KeepsOthers parts old middle → KeepsOthers parts middle new → KeepsOthers parts old new
spares_then parts old middle new f g = record { region = λ q spare. g.region q spare ∙ f.region q spare; failing_call = λ q spare. g.failing_call q spare ∙ f.failing_call q spare }

-- one more circuit's region of a device in memory changes, by its index
module _ (parts : List CircuitPart) (n : ℕ) (here : CircuitPart) (is : slice_get parts n ≡ Some here) where
  pub by_index : (P : ℕ → CircuitPart → Type 0) → P n here → ((c : ℕ) (part : CircuitPart) → slice_get parts c ≡ Some part → c < n → P c part) → (c : ℕ) (part : CircuitPart) → slice_get parts c ≡ Some part → c < n + 1 → P c part
  by_index P own before c part there less = by (c == n) refl where
    by : (b : Bool) → (c == n) ≡ b → P c part
    by true e =
        let same : c ≡ n = grind (arith, e) in
        let part_is : here ≡ part = same_Some here part (sym is ∙ ap (slice_get parts) (sym same) ∙ there) in
        subst (λ (k : ℕ). P k part) (sym same) (subst (P n) part_is own)
    by false e = before c part there (grind (arith, e, less))

  pub not_its : RegionsDiffer parts → (c : ℕ) (part : CircuitPart) → slice_get parts c ≡ Some part → (c ≡ n → ⊥) → part.region ≢ here.region
  not_its differ c part there ne same = ne (differ c n part here there is same)

  pub spare_is_other : (r : ℕ) → All (λ (part : CircuitPart). part.region ≢ r) parts → r ≢ here.region
  spare_is_other r spare same = all_at (λ (part : CircuitPart). part.region ≢ r) parts n here spare is (sym same)

pub spares_stay : (parts : List CircuitPart) (old new : Device) → new ≡ old → KeepsOthers parts old new
spares_stay parts old new same = record { region = λ q spare. ap (λ (d : Device). d.region q) same; failing_call = λ q spare. ap (λ (d : Device). d.failing_call q) same }

pub same_device : (x : Option ℕ) (old new : Device) → x ≡ None → WritesAt true x old new → new ≡ old
same_device None old new none same = same
same_device (Some r) old new none writes = absurd cc

pub none_saved : (setup : Setup) (now : ℕ) (d : Datagram) (book : Option Book) → book_writes setup now d book ≡ false → circuit_saves (delivery_of setup.part now d) (Some setup.part) (Some book) ≡ None
none_saved setup now d None nothing = refl
none_saved setup now d (Some b) nothing = ap (λ (is_kept : Bool). if is_kept then Some setup.part.region else None) nothing

its_saves : (w : WorldValue) → IsWorld w → (k : ℕ) (the : TheCircuit w k) → serves w.relays.topology k ≡ true → (j : ℕ) (d : Datagram) (now : ℕ) (source : Source) (given : CircuitPart)
    → slice_get (datagrams w.net k dir.Up) j ≡ Some d → slice_get w.server.topology.circuits k ≡ Some given → source ≡ given.relay
    → received_saves w.server.topology (delivery d.proto source now d.bytes) (books_in w.server) ≡ circuit_saves (delivery_of the.part now d) (Some the.part) (Some the.leases.book)
its_saves w is k the on j d now source given kept at from =
    let same : given ≡ the.part = same_Some given the.part (sym at ∙ the.served) in
    let comes : source ≡ the.part.relay = from ∙ ap (λ p. p.relay) same in
    let found = each_at (IsFor w.relays.topology k the.part) (datagrams w.net k dir.Up) j d (is.addressed k the.part the.there) kept w.relays.topology.plans now on in
    let here = ap (λ t. addressee t (delivery_of the.part now d)) is.served ∙ found in
    ap (λ x. received_saves w.server.topology (delivery d.proto x now d.bytes) (books_in w.server)) comes
    ∙ ap (addressee_saves w.server.topology (delivery_of the.part now d) (books_in w.server)) here ∙ (λ i. circuit_saves (delivery_of the.part now d) (the.served i) (the.book i))

-- what a datagram of circuit k writes is its region, if anything
saves_its : (w : WorldValue) → IsWorld w → (k : ℕ) (the : TheCircuit w k) → serves w.relays.topology k ≡ true → (j : ℕ) (d : Datagram) (now : ℕ) (source : Source) (given : CircuitPart)
    → slice_get (datagrams w.net k dir.Up) j ≡ Some d → slice_get w.server.topology.circuits k ≡ Some given → source ≡ given.relay
    → OneOf given.region (received_saves w.server.topology (delivery d.proto source now d.bytes) (books_in w.server))
saves_its w is k the on j d now source given kept at from =
    let same : given ≡ the.part = same_Some given the.part (sym at ∙ the.served) in
    let saves = its_saves w is k the on j d now source given kept at from in
    subst (λ (p : CircuitPart). OneOf p.region (received_saves w.server.topology (delivery d.proto source now d.bytes) (books_in w.server))) (sym same)
    (subst (OneOf the.part.region) (sym saves) (saves_own the.part (delivery_of the.part now d) the.leases.book))

-- A datagram of circuit k: its failing_call is set, the server takes it, and the failing_call is put out.
pub beside_up : (w : WorldValue) → IsWorld w → (k : ℕ) (the : TheCircuit w k) → serves w.relays.topology k ≡ true → (j : ℕ) (d : Datagram) (now : ℕ) (source : Source) (given : CircuitPart) (region : ℕ)
    → slice_get (datagrams w.net k dir.Up) j ≡ Some d → slice_get w.server.topology.circuits k ≡ Some given → source ≡ given.relay → region ≡ given.region
    → (set served new : ModelDiskValue) → SameBut region w.disk set
    → WritesAt true (received_saves w.server.topology (delivery d.proto source now d.bytes) (books_in w.server)) (disk.device_of set) (disk.device_of served)
    → SameBut region served new → Beside region (disk.device_of w.disk) (disk.device_of new)
beside_up w is k the on j d now source given region kept at from its set served new first writes last =
    let one = subst (λ r. OneOf r (received_saves w.server.topology (delivery d.proto source now d.bytes) (books_in w.server))) (sym its) (saves_its w is k the on j d now source given kept at from) in
    let before = beside_set region w.disk set first in
    let while = beside_written region _ (disk.device_of set) (disk.device_of served) one writes in
    let after = beside_set region served new last in
    beside_then region (disk.device_of w.disk) (disk.device_of served) (disk.device_of new)
    (beside_then region (disk.device_of w.disk) (disk.device_of set) (disk.device_of served) before while) after

-- where a datagram of circuit k has nothing saved, every region stays
pub quiet_up : (w : WorldValue) → IsWorld w → (k : ℕ) (the : TheCircuit w k) → serves w.relays.topology k ≡ true → (j : ℕ) (d : Datagram) (now : ℕ) (source : Source) (given : CircuitPart)
    → slice_get (datagrams w.net k dir.Up) j ≡ Some d → slice_get w.server.topology.circuits k ≡ Some given → source ≡ given.relay
    → (set served : ModelDiskValue) → WritesAt true (received_saves w.server.topology (delivery d.proto source now d.bytes) (books_in w.server)) (disk.device_of set) (disk.device_of served)
    → book_writes (setup_of w.net.quota the.part (has w.relays.topology.plans 0 k)) now d the.leases.book ≡ false → disk.disk_region served ≡ disk.disk_region set
quiet_up w is k the on j d now source given kept at from set served writes nothing =
    let saves = its_saves w is k the on j d now source given kept at from in
    ap (λ (device : Device). device.region)
    (same_device (received_saves w.server.topology (delivery d.proto source now d.bytes) (books_in w.server)) (disk.device_of set) (disk.device_of served)
    (saves ∙ none_saved (setup_of w.net.quota the.part (has w.relays.topology.plans 0 k)) now d the.leases.book nothing) writes)

-- another circuit's region is another one
pub elsewhere : (w : WorldValue) → IsWorld w → (k n : ℕ) (mine p : CircuitPart) → slice_get w.server.topology.circuits k ≡ Some mine → slice_get w.server.topology.circuits n ≡ Some p → eqb k n ≡ false
    → (region : ℕ) → region ≡ mine.region → p.region ≢ region
elsewhere w is k n mine p here there other region its same =
    eqb-false k n other (is.sound.regions k n mine p (ap (λ (t : Topology). slice_get t.circuits k) (sym is.served) ∙ here) (ap (λ (t : Topology). slice_get t.circuits n) (sym is.served) ∙ there) (sym its ∙ sym same))

-- ---- a device of which only the failing_call of a region was set

pub state_stays : (region : ℕ) (old new : ModelDiskValue) → disk.disk_region new region ≡ disk.disk_region old region → SameBut region old new → disk.disk_region new ≡ disk.disk_region old
state_stays region old new own others = λ i q. each q (eqb q region) refl i where
  each : (q : ℕ) (b : Bool) → eqb q region ≡ b → disk.disk_region new q ≡ disk.disk_region old q
  each q true same = let P : ℕ → Type 0 = λ n. disk.disk_region new n ≡ disk.disk_region old n in subst P (sym (eqb-true q region same)) own
  each q false other = ap disk.region_of (others.others q (eqb-false q region other))
