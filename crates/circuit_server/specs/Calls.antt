-- How often a device is called for what is saved, whatever device it is.
use Rattle.std.specs.Prelude.{◌≡◌, ℕ, ◌+◌, ◌*◌, ◌==◌, ◌&&◌, ◌≤◌, true, false, if◌then◌else◌, List, [], length, Option}
use Rattle.std.specs.List.{cons_option}
use Rattle.lease_disk.specs.Device.{Device, has_failed, is_in}

-- the writes and syncs of saves to so many regions none of which fails: three writes for each, and three syncs for all
abbrev pub save_calls : ℕ → ℕ
save_calls n = if n == 0 then 0 else 3 * n + 3

-- These regions are saved to, and the device is called for nothing else: by so many writes and syncs where no call fails, by at most
-- so many where one does. A region whose save fails counts one failure more.
pub record IsCalledToSave (regions : List ℕ) (old new : Device) : Type 0 where
  pub reads : new.reads ≡ old.reads
  pub writes : ((r : ℕ) → is_in regions r ≡ true → has_failed old new r ≡ false) → new.writes ≡ old.writes + save_calls (length regions)
  pub most : new.writes ≤ old.writes + save_calls (length regions)
  pub failures : (r : ℕ) → new.failures r ≡ old.failures r + (if is_in regions r && has_failed old new r then 1 else 0)

-- This region is saved to, if there is one, and the device is called for nothing else.
abbrev pub IsCalledToSaveAt : Option ℕ → Device → Device → Type 0
IsCalledToSaveAt saves = IsCalledToSave (cons_option saves [])
