-- A restart, circuit by circuit: each region is brought up once, and every other stays.
use Rattle.std.proofs.Common.{◌≡◌, ◌≢◌, ℕ, ◌+◌, ◌<◌, ◌≤◌, Bool, true, false, List, length, get_or, refl, sym, ap, subst, ◌∙◌, arith}
use Rattle.std.specs.Prelude.{◌==◌, All, IfSome, Option, Some, None, slice_get, slice_set}
use Rattle.std.proofs.lemmas.List.{get_or-set_same, get_or-set_other}
use Rattle.std.proofs.lemmas.Option.{get_or_from_slice_get, same_Some, slice_get_within}
use Rattle.config.specs.CircuitPart.{CircuitPart}
use Rattle.config.specs.Topology.{RegionsDiffer}
use Rattle.lease_disk.specs.Device.{Device, ChangesOne}
use Rattle.lease_disk.specs.Region.{Region}
use Rattle.circuit_server.specs.Leases.{IsRegionMigrated, counts_of, found_leases, region_leases}
use Rattle.dispatch.specs.Regions.{AreRegionsMigrated, KeepsOthers}
use Rattle.circuit_server.specs.CircuitServerValue.{CircuitServerValue, HasSettledRegion, IsReady, IsReadyFor, OpenCircuitValue, leases_of}
use Rattle.circuit_server.specs.Restarted.{SettlesOne}
use Rattle.dispatch.specs.ServerValue.{with_states}
use Rattle.circuit_server.specs.Ticked.{server_state}
use Rattle.dispatch.proofs.WithStates.{at_index, get_with, server, size_with, there_is}

-- what holds of each part with its state
pub all_with : (P : CircuitServerValue → Type 0) (parts : List CircuitPart) (states : List (Option OpenCircuitValue)) → length states ≡ length parts
    → ((c : ℕ) (part : CircuitPart) → slice_get parts c ≡ Some part → P (server part (server_state states c))) → All P (with_states parts states)
all_with P parts states size h k d within =
    let few : k < length parts = subst (λ n. k < n) (size_with parts states) within in
    let t = there_is parts k few in
    subst P (sym (get_with parts states k t.0 None d t.1 (subst (λ n. k < n) (sym size) few))) (h k t.0 t.1)

pub all_parts : (P : CircuitPart → Type 0) (parts : List CircuitPart) → ((c : ℕ) (part : CircuitPart) → slice_get parts c ≡ Some part → P part) → All P parts
all_parts P parts h k d within =
    let t = there_is parts k within in
    subst P (get_is parts k t.0 d t.1) (h k t.0 t.1) where
      get_is : (xs : List CircuitPart) (i : ℕ) (x d : CircuitPart) → slice_get xs i ≡ Some x → x ≡ get_or xs i d
      get_is xs i x d there = sym (get_or_from_slice_get xs i x d there)

-- a circuit whose region was brought up, between two devices
pub record IsUp (first now : Device) (part : CircuitPart) (state : Option OpenCircuitValue) : Type 0 where
  pub leases : leases_of now.region (server part state) ≡ found_leases first.region first.failing_call part
  pub ready : IsReadyFor (now.region part.region) state
  pub region : IsRegionMigrated (counts_of part) (first.failing_call part.region) (first.region part.region) (now.region part.region)

-- the first n circuits are up, and all else is as it was
pub record AreUp (parts : List CircuitPart) (n : ℕ) (states : List (Option OpenCircuitValue)) (first now : Device) : Type 0 where
  pub up : (c : ℕ) (part : CircuitPart) → c < n → slice_get parts c ≡ Some part → IsUp first now part (server_state states c)
  pub region : (c : ℕ) (part : CircuitPart) → n ≤ c → slice_get parts c ≡ Some part → now.region part.region ≡ first.region part.region
  pub failing_call : (c : ℕ) (part : CircuitPart) → n ≤ c → slice_get parts c ≡ Some part → now.failing_call part.region ≡ first.failing_call part.region
  pub others : KeepsOthers parts first now

pub none_up : (parts : List CircuitPart) (states : List (Option OpenCircuitValue)) (first : Device) → AreUp parts 0 states first first
none_up parts states first = record {
  up = λ c part h. absurd (omega (arith, h));
  region = λ c part h there. refl;
  failing_call = λ c part h there. refl;
  others = record { region = λ r h. refl; failing_call = λ r h. refl };
}

-- one more circuit
module _ (tells : Bool) (told : tells ≡ true) (parts : List CircuitPart) (differ : RegionsDiffer parts) (n : ℕ) (part : CircuitPart) (here : slice_get parts n ≡ Some part) (states : List (Option OpenCircuitValue)) (within : n < length states)
    (first now next : Device) (are : AreUp parts n states first now) (frame : ChangesOne tells part.region now next) (new : Option OpenCircuitValue)
    (leases : leases_of next.region (server part new) ≡ found_leases now.region now.failing_call part) (ready : IsReadyFor (next.region part.region) new)
    (region : IsRegionMigrated (counts_of part) (now.failing_call part.region) (now.region part.region) (next.region part.region)) where
  region_is : now.region part.region ≡ first.region part.region
  region_is = are.region n part (omega arith) here

  failing_call_is : now.failing_call part.region ≡ first.failing_call part.region
  failing_call_is = are.failing_call n part (omega arith) here

  own : IsUp first next part new
  own = record {
    leases = leases ∙ (λ j. region_leases part (failing_call_is j) (region_is j) (region_is j).readable);
    ready = ready;
    region = subst (λ (r : Region). IsRegionMigrated (counts_of part) (first.failing_call part.region) r (next.region part.region)) region_is
        (subst (λ k. IsRegionMigrated (counts_of part) k (now.region part.region) (next.region part.region)) failing_call_is region);
  }

  apart : (c : ℕ) (other : CircuitPart) → slice_get parts c ≡ Some other → (c ≡ n → ⊥) → other.region ≢ part.region
  apart c other there ne same = ne (differ c n other part there here same)

  stays : (c : ℕ) (other : CircuitPart) → slice_get parts c ≡ Some other → (c ≡ n → ⊥) → next.region other.region ≡ now.region other.region
  stays c other there ne = frame.region told other.region (apart c other there ne)

  up_before : (c : ℕ) (other : CircuitPart) → slice_get parts c ≡ Some other → (c ≡ n → ⊥) → IsUp first now other (server_state states c) → IsUp first next other (server_state states c)
  up_before c other there ne is =
      let same = stays c other there ne in record {
        leases = ap (λ (r : Region). leases_of (λ any. r) (server other (server_state states c))) same ∙ is.leases;
        ready = subst (λ (r : Region). IsReadyFor r (server_state states c)) (sym same) is.ready;
        region = subst (λ (r : Region). IsRegionMigrated (counts_of other) (first.failing_call other.region) (first.region other.region) r) (sym same) is.region;
      }

  state_at : (c : ℕ) (b : Bool) → (c == n) ≡ b → c < n + 1 → (other : CircuitPart) → slice_get parts c ≡ Some other → IsUp first next other (server_state (slice_set states n new) c)
  state_at c true e h other there =
      let is : c ≡ n = grind (arith, e) in
      let same : part ≡ other = same_Some part other (sym here ∙ ap (slice_get parts) (sym is) ∙ there) in
      subst (λ (p : CircuitPart). IsUp first next p (server_state (slice_set states n new) c)) same
      (subst (λ s. IsUp first next part s) (sym (ap (server_state (slice_set states n new)) is ∙ get_or-set_same states n new None within)) own)
  state_at c false e h other there =
      let ne : c ≡ n → ⊥ = λ is. absurd (grind (arith, e, is)) in
      subst (λ s. IsUp first next other s) (sym (get_or-set_other states n c new None ne)) (up_before c other there ne (are.up c other (less ne) there)) where
        less : (c ≡ n → ⊥) → c < n
        less ne = omega (arith, ne, h)

  pub one_more_up : AreUp parts (n + 1) (slice_set states n new) first next
  one_more_up = record {
    up = λ c other h there. state_at c (c == n) refl h other there;
    region = λ c other h there. stays c other there (λ is. absurd (omega (arith, h, is))) ∙ are.region c other (omega (arith, h)) there;
    failing_call = λ c other h there. frame.failing_call told other.region (apart c other there (λ is. absurd (omega (arith, h, is)))) ∙ are.failing_call c other (omega (arith, h)) there;
    others = record {
      region = λ r h. frame.region told r (λ same. at_index (λ (p : CircuitPart). p.region ≢ r) parts n part here h (sym same)) ∙ are.others.region r h;
      failing_call = λ r h. frame.failing_call told r (λ same. at_index (λ (p : CircuitPart). p.region ≢ r) parts n part here h (sym same)) ∙ are.others.failing_call r h;
    };
  }

-- all circuits
module _ (parts : List CircuitPart) (n : ℕ) (states : List (Option OpenCircuitValue)) (first now : Device) (size : length states ≡ length parts) (all : length parts ≤ n) (are : AreUp parts n states first now) where
  each_up : (c : ℕ) (part : CircuitPart) → slice_get parts c ≡ Some part → IsUp first now part (server_state states c)
  each_up c part there = let within = slice_get_within parts c part there in are.up c part (omega (arith, within, all)) there

  pub all_ready : All (IsReady now.region) (with_states parts states)
  all_ready = all_with (IsReady now.region) parts states size (λ c part there. (each_up c part there).ready)

  pub all_leases : All (λ s. leases_of now.region s ≡ found_leases first.region first.failing_call s.part) (with_states parts states)
  all_leases = all_with (λ s. leases_of now.region s ≡ found_leases first.region first.failing_call s.part) parts states size (λ c part there. (each_up c part there).leases)

  pub all_regions : AreRegionsMigrated parts first now
  all_regions = all_parts (λ part. IsRegionMigrated (counts_of part) (first.failing_call part.region) (first.region part.region) (now.region part.region)) parts (λ c part there. (each_up c part there).region)

-- ---- Regions are settled one after the other, and none comes to be in doubt again.

-- those of the first n circuits, where they are open
abbrev pub FirstSettled : List CircuitPart → ℕ → List (Option OpenCircuitValue) → (ℕ → Bool) → Type 0
FirstSettled parts n states doubt = (c : ℕ) (part : CircuitPart) → c < n → slice_get parts c ≡ Some part → IfSome (server_state states c) (λ o. doubt part.region ≡ false)

still_settled : (state : Option OpenCircuitValue) (before after : Bool) → (before ≡ false → after ≡ false) → IfSome state (λ o. before ≡ false) → IfSome state (λ o. after ≡ false)
still_settled None before after stays was = tt
still_settled (Some o) before after stays was = stays was

pub one_more_settled : (parts : List CircuitPart) → RegionsDiffer parts → (n : ℕ) (part : CircuitPart) → slice_get parts n ≡ Some part → (states : List (Option OpenCircuitValue)) → n < length states → (new : Option OpenCircuitValue)
    (now next : ℕ → Bool) → FirstSettled parts n states now → SettlesOne part.region new now next → FirstSettled parts (n + 1) (slice_set states n new) next
one_more_settled parts differ n part here states within new now next are one c other h there = by (c == n) refl where
  by : (b : Bool) → (c == n) ≡ b → IfSome (server_state (slice_set states n new) c) (λ o. next other.region ≡ false)
  by true e =
      let is : c ≡ n = grind (arith, e) in
      let same : part ≡ other = same_Some part other (sym here ∙ ap (slice_get parts) (sym is) ∙ there) in
      subst (λ (p : CircuitPart). IfSome (server_state (slice_set states n new) c) (λ o. next p.region ≡ false)) same
      (subst (λ (s : Option OpenCircuitValue). IfSome s (λ o. next part.region ≡ false)) (sym (ap (server_state (slice_set states n new)) is ∙ get_or-set_same states n new None within)) one.settled)
  by false e =
      let ne : c ≡ n → ⊥ = λ is. absurd (grind (arith, e, is)) in
      let less : c < n = omega (arith, ne, h) in
      subst (λ (s : Option OpenCircuitValue). IfSome s (λ o. next other.region ≡ false)) (sym (get_or-set_other states n c new None ne))
      (still_settled (server_state states c) (now other.region) (next other.region) (one.stay other.region (λ same. ne (differ c n other part there here same))) (are c other less there))

pub all_have_settled : (parts : List CircuitPart) (n : ℕ) (states : List (Option OpenCircuitValue)) (doubt : ℕ → Bool) → length states ≡ length parts → length parts ≤ n → FirstSettled parts n states doubt
    → All (HasSettledRegion doubt) (with_states parts states)
all_have_settled parts n states doubt size all are =
    all_with (HasSettledRegion doubt) parts states size (λ c part there. let within = slice_get_within parts c part there in are c part (omega (arith, within, all)) there)
