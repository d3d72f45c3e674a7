-- One of the regions that are stored is synced.
use Rattle.std.proofs.Common.{◌≡◌, ◌≢◌, ◌<◌, ◌==◌, ℕ, Bool, true, false, List, length, set, slice_index_or, if◌then◌else◌, sym, ap, ◌∙◌, refl, arith}
use Rattle.std.proofs.lemmas.Grind.{get_or-set_at}
use Rattle.std.proofs.lemmas.List.{get_or-set_other, get_or_default}
use Rattle.lease_disk.specs.declared.model_disk.Stored.{Stored}
use Rattle.lease_disk.specs.Model.{absent, region_of, stored_at}
use Rattle.lease_disk.specs.Region.{synced}

pub synced_at : (xs : List Stored) (r here q : ℕ) (now d : Stored) → r ≡ here → r < length xs → region_of now ≡ synced (region_of (slice_index_or xs r d))
    → region_of (stored_at (set xs r now) q) ≡ (if here == q then synced (region_of (stored_at xs q)) else region_of (stored_at xs q))
synced_at xs r here q now d is within cleared = by (here == q) refl where
  by : (b : Bool) → (here == q) ≡ b → region_of (stored_at (set xs r now) q) ≡ (if here == q then synced (region_of (stored_at xs q)) else region_of (stored_at xs q))
  by true e =
      let same : q ≡ r = grind (arith, e, is) in
      ap region_of (get_or-set_at xs r q now absent same within) ∙ cleared ∙ ap (λ s. synced (region_of s)) (get_or_default xs r d absent within ∙ ap (stored_at xs) (sym same))
      ∙ sym (ap (λ b. if b then synced (region_of (stored_at xs q)) else region_of (stored_at xs q)) e)
  by false e =
      let other : q ≢ r = λ same. absurd (grind (arith, e, is, same)) in
      ap region_of (get_or-set_other xs r q now absent other) ∙ sym (ap (λ b. if b then synced (region_of (stored_at xs q)) else region_of (stored_at xs q)) e)
