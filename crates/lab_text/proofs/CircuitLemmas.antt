-- The circuit with an id.
use Rattle.std.proofs.Common.{◌≡◌, ℕ, zero, suc, ◌+◌, ◌<◌, Bool, true, false, cond, List, [], ◌∷◌, get_or, refl, ap, sym, subst, ◌∙◌, arith}
use Rattle.std.specs.Prelude.{Option, Some, None, slice_get, option_map, IfSome, IfNone, AllPairs}
use Rattle.std.specs.Str.{bytes_eq}
use Rattle.std.specs.List.{position_from}
use Rattle.std.proofs.lemmas.Iterator.Adapters.{position_from-zero}
use Rattle.std.proofs.lemmas.Option.{same_Some, slice_get_within, slice_get-get_or}
use Rattle.std.proofs.lemmas.Slice.Eq.{bytes_eq-Decides}
use Rattle.types.specs.CircuitId.{IsCircuitId}
use Rattle.config.specs.Rules.{IsSound, IsIdAt}
use Rattle.settings.specs.Settings.{Settings}
use Rattle.settings.specs.declared.settings.CircuitConfig.{CircuitConfig}
use Rattle.lab_text.specs.Fields.{circuit_named}

-- a circuit has this id
abbrev pub has_id : List ℕ → CircuitConfig → Bool
has_id id circuit = bytes_eq circuit.id id

named_is : (settings : Settings) (id : List ℕ) → circuit_named settings id ≡ position_from (has_id id) 0 settings.circuits
unfolding circuit_named
named_is settings id = position_from-zero (has_id id) settings.circuits

none_at : (id : List ℕ) (i : ℕ) (c : CircuitConfig) (cs : List CircuitConfig) (t : Bool) → bytes_eq c.id id ≡ t → (c.id ≡ id → ⊥) → position_from (has_id id) (i + 1) cs ≡ None → cond t (Some i) (position_from (has_id id) (i + 1) cs) ≡ None
none_at id i c cs true is other rest = absurd (other ((bytes_eq-Decides c.id id).0 is))
none_at id i c cs false is other rest = rest

none_from : (id : List ℕ) (i : ℕ) (circuits : List CircuitConfig) → ((index : ℕ) → IsIdAt circuits index id → ⊥) → position_from (has_id id) i circuits ≡ None
none_from id i [] h = refl
none_from id i (c ∷ cs) h =
    none_at id i c cs (bytes_eq c.id id) refl (λ e. h 0 (ap Some e)) (none_from id (i + 1) cs (λ index e. h (suc index) e))

pub none_named : (settings : Settings) (id : List ℕ) → ((index : ℕ) → IsIdAt settings.circuits index id → ⊥) → None ≡ circuit_named settings id
none_named settings id h = sym (named_is settings id ∙ none_from id 0 settings.circuits h)

found_at : (id : List ℕ) (i : ℕ) (c : CircuitConfig) (cs : List CircuitConfig) (index : ℕ) (t : Bool) → bytes_eq c.id id ≡ t → (c.id ≡ id → 0 ≡ suc index) → position_from (has_id id) (i + 1) cs ≡ Some (i + 1 + index) → cond t (Some i) (position_from (has_id id) (i + 1) cs) ≡ Some (i + suc index)
found_at id i c cs index true is other rest = let e : 0 ≡ suc index = other ((bytes_eq-Decides c.id id).0 is) in absurd (omega arith)
found_at id i c cs index false is other rest = let e : i + 1 + index ≡ i + suc index = omega arith in rest ∙ ap Some e

found_from : (id : List ℕ) (i : ℕ) (circuits : List CircuitConfig) (index : ℕ) → IsIdAt circuits index id → ((j : ℕ) → IsIdAt circuits j id → j ≡ index) → position_from (has_id id) i circuits ≡ Some (i + index)
found_from id i [] index h one = absurd (cc)
found_from id i (c ∷ cs) zero h one =
    let e : i ≡ i + 0 = omega arith in
    ap (λ t. cond t (Some i) (position_from (has_id id) (i + 1) cs)) ((bytes_eq-Decides c.id id).1 (same_Some _ _ h)) ∙ ap Some e
found_from id i (c ∷ cs) (suc index) h one =
    found_at id i c cs index (bytes_eq c.id id) refl (λ e. one 0 (ap Some e))
    (found_from id (i + 1) cs index h (λ j e. let k : suc j ≡ suc index = one (suc j) e in omega arith))

-- the circuit at an index
pub record CircuitAt (circuits : List CircuitConfig) (index : ℕ) (id : List ℕ) : Type 0 where
  pub circuit : CircuitConfig
  pub there : slice_get circuits index ≡ Some circuit
  pub is : circuit.id ≡ id

circuit_at_from : (circuits : List CircuitConfig) (index : ℕ) (id : List ℕ) (o : Option CircuitConfig) → slice_get circuits index ≡ o → option_map (λ c. c.id) o ≡ Some id → CircuitAt circuits index id
circuit_at_from circuits index id None there h = absurd (cc)
circuit_at_from circuits index id (Some c) there h = record { circuit = c; there = there; is = same_Some _ _ h }

pub circuit_at : (circuits : List CircuitConfig) (index : ℕ) (id : List ℕ) → IsIdAt circuits index id → CircuitAt circuits index id
circuit_at circuits index id h = circuit_at_from circuits index id (slice_get circuits index) refl h

-- the circuit at an index, with any default
read_at : (circuits : List CircuitConfig) (index : ℕ) (c d : CircuitConfig) → slice_get circuits index ≡ Some c → get_or circuits index d ≡ c
read_at circuits index c d h =
    same_Some _ _ (sym (slice_get-get_or circuits index d (slice_get_within circuits index c h)) ∙ h)

apart : (circuits : List CircuitConfig) (i j : ℕ) (id : List ℕ) → AllPairs (λ c d. c.id ≡ d.id → ⊥) circuits → i < j → CircuitAt circuits i id → CircuitAt circuits j id → ⊥
apart circuits i j id differ less a b =
    let d = a.circuit in
    let inside = slice_get_within circuits j b.circuit b.there in
    differ i j d less inside (ap (λ c. c.id) (read_at circuits i a.circuit d a.there) ∙ a.is ∙ sym (ap (λ c. c.id) (read_at circuits j b.circuit d b.there) ∙ b.is))

pub found_named : (settings : Settings) (id : List ℕ) (index : ℕ) → IsSound settings → IsIdAt settings.circuits index id → Some index ≡ circuit_named settings id
found_named settings id index sound h =
    let one = λ (j : ℕ) (e : IsIdAt settings.circuits j id).
    let before : j < index → ⊥ = λ less. apart settings.circuits j index id sound.rules.names.ids less (circuit_at settings.circuits j id e) (circuit_at settings.circuits index id h) in
    let after : index < j → ⊥ = λ less. apart settings.circuits index j id sound.rules.names.ids less (circuit_at settings.circuits index id h) (circuit_at settings.circuits j id e) in
    let same : j ≡ index = omega arith in
    same in
    let e : 0 + index ≡ index = omega arith in
    sym (named_is settings id ∙ found_from id 0 settings.circuits index h one ∙ ap Some e)

-- bytes that are not an id are no circuit's
pub no_id : (settings : Settings) (id : List ℕ) → IsSound settings → (IsCircuitId id → ⊥) → None ≡ circuit_named settings id
no_id settings id sound h =
    none_named settings id (λ index e.
    let s = circuit_at settings.circuits index id e in
    let inside = slice_get_within settings.circuits index s.circuit s.there in
    let limits = sound.limits index s.circuit inside in
    h (subst IsCircuitId (ap (λ c. c.id) (read_at settings.circuits index s.circuit s.circuit s.there) ∙ s.is) limits.id))

pub named_result : (settings : Settings) (id : List ℕ) (r : Option ℕ) → IsSound settings → IfSome r (λ index. IsIdAt settings.circuits index id) → IfNone r ((index : ℕ) → IsIdAt settings.circuits index id → ⊥) → r ≡ circuit_named settings id
named_result settings id None sound found none = none_named settings id none
named_result settings id (Some index) sound found none = found_named settings id index sound found
