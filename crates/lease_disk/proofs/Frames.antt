-- What two calls leave as it was, one after the other.
use Rattle.std.proofs.Common.{◌≡◌, ℕ, Bool, Option, Some, None, refl, ap, ◌∙◌}
use Rattle.lease_disk.specs.Device.{Device, Touches, TouchesNothing, WritesAt}

pub nothing_then : (tells : Bool) (old middle new : Device) → TouchesNothing tells old middle → TouchesNothing tells middle new → TouchesNothing tells old new
nothing_then tells old middle new f g = record {
  count = g.count ∙ f.count;
  writes = g.writes ∙ f.writes;
  region = λ t. g.region t ∙ f.region t;
  failing_call = λ t. g.failing_call t ∙ f.failing_call t;
}

pub touches_none : (tells : Bool) (r : ℕ) (device : Device) → Touches tells r device device
touches_none tells r device = record { count = refl; reads = refl; region = λ t q other. refl; failing_call = λ t q other. refl }

pub touches_then : (tells : Bool) (r : ℕ) (old middle new : Device) → Touches tells r old middle → Touches tells r middle new → Touches tells r old new
touches_then tells r old middle new f g = record {
  count = g.count ∙ f.count;
  reads = g.reads ∙ f.reads;
  region = λ t q other. g.region t q other ∙ f.region t q other;
  failing_call = λ t q other. g.failing_call t q other ∙ f.failing_call t q other;
}

pub writes_count : (tells : Bool) (x : Option ℕ) (old new : Device) → WritesAt tells x old new → new.count ≡ old.count
writes_count tells None old new same = ap (λ (d : Device). d.count) same
writes_count tells (Some r) old new touches = touches.count
