-- What differs between configurations, and what follows where nothing does.
use Rattle.std.proofs.Common.{◌≡◌, ◌≢◌, ℕ, List, Option, Some, None, ap, sym, ◌∙◌}
use Rattle.std.specs.Bool.{Decides}
use Rattle.std.specs.Prelude.{All, AllPairs, IfNone, option_map, slice_get}
use Rattle.std.specs.Str.{bytes_eq}
use Rattle.std.proofs.lemmas.Option.{get_or_from_slice_get, same_Some, slice_get-get_or, slice_get_within}
use Rattle.std.proofs.lemmas.Slice.Eq.{bytes_eq-Decides}
use Rattle.types.specs.declared.addr.Addr4.{Addr4}
use Rattle.settings.specs.declared.names.CircuitKey.{CircuitKey}
use Rattle.settings.specs.declared.settings.CircuitConfig.{CircuitConfig}
use Rattle.settings.specs.Settings.{Settings}
use Rattle.config.specs.Differences.{CircuitKeyDiffers, IsDifferentIn}
use Rattle.config.specs.Rules.{IsIdAt}
use Rattle.config.proofs.TopologyLemmas.{same_index}

-- the test for two addresses
pub address_decides : (a b : Addr4) → Decides (bytes_eq a.0 b.0) (a ≡ b)
address_decides a b =
    let bytes = bytes_eq-Decides a.0 b.0 in
    (λ same. let e = bytes.0 same in λ i. record { 0 = e i }, λ same. bytes.1 (ap (λ x. x.0) same))

-- what follows where nothing is found
pub none_then : {A : Type 0} {P Q : Type 0} (found : Option A) → (P → Q) → IfNone found P → IfNone found Q
none_then None then h = then h
none_then (Some x) then h = tt

-- the circuit that is found by an id has it
id_at : (circuits : List CircuitConfig) (index : ℕ) (id : List ℕ) (other : CircuitConfig) → IsIdAt circuits index id → slice_get circuits index ≡ Some other → other.id ≡ id
id_at circuits index id other named there = same_Some other.id id (sym (ap (option_map (λ c. c.id)) there) ∙ named)

-- it differs from another of its id
pub different_in : (s : Settings) (circuit other : CircuitConfig) (index : ℕ) (key : CircuitKey) → IsIdAt s.circuits index circuit.id → slice_get s.circuits index ≡ Some other → CircuitKeyDiffers other circuit key → IsDifferentIn s circuit key
different_in s circuit other index key named there differs = record {
  other = other;
  there = (index, slice_get_within s.circuits index other there, get_or_from_slice_get s.circuits index other other there);
  id = id_at s.circuits index circuit.id other named there;
  differs = differs;
}

-- or it does not, and it is the only one of this id
pub agrees_with_all : (s : Settings) (circuit other : CircuitConfig) (index : ℕ) → AllPairs (λ c d. c.id ≢ d.id) s.circuits → slice_get s.circuits index ≡ Some other → other ≡ circuit → All (λ c. c.id ≡ circuit.id → c ≡ circuit) s.circuits
agrees_with_all s circuit other index apart there same k d inside id =
    let here = slice_get-get_or s.circuits k d inside in
    let place = same_index (λ (c : CircuitConfig). c.id) s.circuits apart index k other _ there here (id ∙ sym (ap (λ c. c.id) same)) in
    same_Some _ other (sym here ∙ ap (slice_get s.circuits) place ∙ there) ∙ same
