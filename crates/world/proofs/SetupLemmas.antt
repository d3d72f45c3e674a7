-- How the circuits of plans are set up, by their parts.
use Rattle.std.proofs.Common.{◌≡◌, ℕ, Bool, refl, ap, subst}
use Rattle.std.specs.Prelude.{Option, Some, None, option_map}
use Rattle.std.proofs.lemmas.Option.{same_Some}
use Rattle.config.specs.CircuitPart.{CircuitPart, part_in}
use Rattle.config.specs.Plans.{PlansValue}
use Rattle.world.specs.Alone.{Setup, setup_of}
use Rattle.world.specs.Start.{begins_on, setup_in}

by_found : (P : Setup → Type 0) (quota : ℕ) (on : Bool) (setup : Setup) (found : Option CircuitPart) → option_map (λ part. setup_of quota part on) found ≡ Some setup
    → ((part : CircuitPart) → found ≡ Some part → P (setup_of quota part on)) → P setup
by_found P quota on setup None is each = absurd cc
by_found P quota on setup (Some part) is each = subst P (same_Some _ setup is) (each part refl)

-- what holds with each part holds of the setup
pub by_part : (P : Setup → Type 0) (plans : PlansValue) (quota c : ℕ) (setup : Setup) → setup_in plans quota c ≡ Some setup
    → ((part : CircuitPart) → part_in plans.union c ≡ Some part → P (setup_of quota part (begins_on plans c))) → P setup
by_part P plans quota c setup is each = by_found P quota (begins_on plans c) setup (part_in plans.union c) is each

-- the circuit's part
pub its_part : (plans : PlansValue) (quota c : ℕ) (setup : Setup) → setup_in plans quota c ≡ Some setup → part_in plans.union c ≡ Some setup.part
its_part plans quota c setup is = by_part (λ s. part_in plans.union c ≡ Some s.part) plans quota c setup is (λ part there. there)

-- and how a circuit of this part is set up
pub setup_at : (plans : PlansValue) (quota c : ℕ) (part : CircuitPart) → part_in plans.union c ≡ Some part → setup_in plans quota c ≡ Some (setup_of quota part (begins_on plans c))
setup_at plans quota c part there = ap (option_map (λ part. setup_of quota part (begins_on plans c))) there
