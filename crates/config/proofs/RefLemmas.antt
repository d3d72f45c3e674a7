-- Circuits that a fault names, by their indices.
use Rattle.std.proofs.Common.{◌≡◌, ℕ, ◌+◌, ◌-◌, ◌≤◌, List, arith, subst, sym}
use Rattle.std.specs.Prelude.{Some, slice_get}
use Rattle.settings.specs.Settings.{Settings}
use Rattle.settings.specs.declared.names.CircuitRef.{CircuitRef}
use Rattle.settings.specs.declared.settings.CircuitConfig.{CircuitConfig}
use Rattle.config.specs.Broken.{IsCircuitOf, IsInside}
use Rattle.config.specs.Pairs.{AreRelated}

-- This names the circuit of an index.
abbrev pub IsRefOf : List CircuitConfig → ℕ → CircuitRef → Type 0
IsRefOf circuits index named = (named.number ≡ index + 1) × ((c : CircuitConfig) → slice_get circuits index ≡ Some c → named.id ≡ Some c.id)

pub named_at : (s : Settings) (circuits : List CircuitConfig) (index : ℕ) (named : CircuitRef) (c : CircuitConfig) → s.circuits ≡ circuits → slice_get circuits index ≡ Some c → IsRefOf circuits index named → IsCircuitOf s named c
named_at s circuits index named c same is ref =
    let before : index ≡ index + 1 - 1 = omega arith in
    record {
      entry = record {
        counted = subst (λ n. 1 ≤ n) (sym ref.0) (omega arith);
        there = subst (λ xs. slice_get xs (named.number - 1) ≡ Some c) (sym same)
            (subst (λ n. slice_get circuits (n - 1) ≡ Some c) (sym ref.0) (subst (λ k. slice_get circuits k ≡ Some c) before is));
      };
      id = ref.1 c is;
    }

pub inside : (R : CircuitConfig → CircuitConfig → Type 0) (s : Settings) (circuits : List CircuitConfig) (first second : ℕ) (circuit owner : CircuitRef) → s.circuits ≡ circuits
    → AreRelated R circuits first second → IsRefOf circuits first circuit → IsRefOf circuits second owner → IsInside s circuit owner R
inside R s circuits first second circuit owner same related one other = record {
  one = related.one;
  other = related.other;
  one_is = named_at s circuits first circuit related.one same related.one_is one;
  other_is = named_at s circuits second owner related.other same related.other_is other;
  related = related.related;
}
