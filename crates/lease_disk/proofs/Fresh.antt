-- A region that was just formatted.
use Rattle.std.proofs.Common.{◌≡◌, ◌<◌, ◌≤◌, ◌⊎◌, inl, inr, ℕ, false, List, length, sym, subst, refl, Result, Ok, Err, OnOk, ap}
use Rattle.std.specs.Prelude.{if◌then◌else◌}
use Rattle.std.proofs.lemmas.Bool.{cases_lt}
use Rattle.std.proofs.lemmas.List.{get_or_past}
use Rattle.lease_disk.specs.declared.image.Image.TheVariants.{Byte}
use Rattle.lease_disk.specs.Crash.{formatted_region, crashed}
use Rattle.lease_disk.specs.declared.model_disk.Stored.{Stored}
use Rattle.lease_disk.specs.Model.{absent, region_of, stored_at}
use Rattle.lease_disk.specs.Region.{Region, synced, image, IsClean}

pub fresh_clean : (r : Region) → r ≡ formatted_region → IsClean r
fresh_clean r e = let c : IsClean formatted_region = record { each = λ i. refl } in subst (λ (x : Region). IsClean x) (sym e) c

pub none_unsynced : (r : Region) → r.unsynced ≡ (λ i. false) → IsClean r
none_unsynced r e = record { each = λ i. λ j. e j i }

pub crashed_clean : (byte : ℕ) (old new : Region) → new ≡ crashed (Byte byte) old → IsClean new
crashed_clean byte old new e = none_unsynced new (ap (λ (r : Region). r.unsynced) e)

pub synced_clean : {T E : Type 0} → (result : Result T E) (old new : Region) → OnOk result (new ≡ synced old) → OnOk result (IsClean new)
synced_clean (Ok x) old new e = none_unsynced new (ap (λ (r : Region). r.unsynced) e)
synced_clean (Err x) old new e = tt

-- what is read is what a crash leaves
pub clean_image : (r : Region) → IsClean r → (byte : ℕ) → image byte r ≡ r.byte
clean_image r clean byte = λ j. λ i. if clean.each i j then byte else r.byte i

-- ---- a device in memory

-- of regions that are all formatted; one that does not exist has no bytes
pub new_clean : (regions : List Stored) → ((q : ℕ) → q < length regions → region_of (stored_at regions q) ≡ formatted_region) → (q : ℕ) → IsClean (region_of (stored_at regions q))
new_clean regions formatted q = by (cases_lt q (length regions)) where
  by : (q < length regions) ⊎ (length regions ≤ q) → IsClean (region_of (stored_at regions q))
  by (inl within) = fresh_clean (region_of (stored_at regions q)) (formatted q within)
  by (inr past) = none_unsynced (region_of (stored_at regions q)) (ap (λ s. (region_of s).unsynced) (get_or_past regions q absent past))
