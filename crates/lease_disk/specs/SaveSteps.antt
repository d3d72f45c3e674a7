-- The three writes of a save of a slot, each of which a sync follows, and what one of them leaves.
use Rattle.std.specs.Prelude.{◌≡◌, ℕ, ◌+◌, ◌-◌, ◌==◌, ◌<◌, ◌≤◌, Bool, true, not, if◌then◌else◌, List, [], ◌∷◌, length, drop, slice_set, Result, is_ok, OnOk, OnErr}
use Rattle.lease_disk.specs.declared.content.Content.{Content}
use Rattle.lease_disk.specs.declared.format2.steps.SaveStep.{SaveStep}
use Rattle.lease_disk.specs.declared.format2.steps.SaveStep.TheVariants.{Close, Fill, Open}
use Rattle.lease_disk.specs.declared.marks.Mark.{Mark}
use Rattle.lease_disk.specs.declared.marks.Marks.{Marks}
use Rattle.lease_disk.specs.declared.saving.Saving.{Saving}
use Rattle.lease_disk.specs.Device.{Device, Touches}
use Rattle.lease_disk.specs.HalfBytes.{half_bytes}
use Rattle.lease_disk.specs.Layout.{gate_open}
use Rattle.lease_disk.specs.Recovered.{next}
use Rattle.lease_disk.specs.Region.{IsTorn, faults_after, written}
use Rattle.lease_disk.specs.Save.{Fits, gate_at, mark_at, other}

-- where a step writes
abbrev pub place_of : SaveStep → ℕ → Mark → ℕ
place_of Close s mark = gate_at s mark
place_of Fill s mark = gate_at s mark + 1
place_of Open s mark = gate_at s mark

-- and what, of the half that is saved: a gate that reads closed already is not written to
abbrev pub bytes_of : SaveStep → Mark → List ℕ → List ℕ
bytes_of Close mark half = if mark.other_open then 0 ∷ [] else []
bytes_of Fill mark half = drop 1 half
bytes_of Open mark half = gate_open ∷ []

-- the half that is saved: its sequence is the next after that of the half that counts
abbrev pub saved_half : Mark → ℕ → Content → List ℕ
saved_half mark clock content = half_bytes (next mark.sequence) clock content

-- what one of the writes needs, on a device with so many regions
pub record IsWritable (tells : Bool) (count : ℕ) (saving : Saving) : Type 0 where
  pub exists : saving.region < count
  pub fits : Fits saving.slot saving.content
  pub mark : tells ≡ true → (mark_at saving.marks saving.slot).sequence ≤ 2

-- Bytes of region r were written from an offset on, by one call; after a fault the range is in doubt.
pub record IsWrite {T E : Type 0} (tells : Bool) (r at : ℕ) (bytes : List ℕ) (result : Result T E) (old new : Device) : Type 0 where
  pub ok : tells ≡ true → OnOk result (new.region r ≡ written at bytes (old.region r))
  pub err : tells ≡ true → OnErr result (IsTorn at (length bytes) (old.region r) (new.region r))
  pub answer : tells ≡ true → is_ok result ≡ not (old.failing_call r == 1)
  pub failing_call : tells ≡ true → new.failing_call r ≡ old.failing_call r - 1
  pub frame : Touches tells r old new
  pub writes : new.writes ≡ old.writes + 1
  pub failures : new.failures ≡ faults_after r result old.failures

-- the marks after a save of this slot: the half that was written counts, and the other one's gate is open
abbrev pub marks_after : Marks → ℕ → Marks
marks_after marks s = record {
  slots = slice_set marks.slots s (record { half = other (mark_at marks s).half; sequence = next (mark_at marks s).sequence; other_open = true });
}
