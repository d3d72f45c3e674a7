-- In the order of a pass each socket is once.
use Rattle.std.proofs.Common.{arith, ◌≡◌, ◌∙◌, ◌≤◌, ◌+◌, ◌==◌, ◌&&◌, ℕ, zero, suc, Bool, true, false, cond, [], ◌∷◌, length, refl, ap, eqb-true, add-zero}
use Rattle.types.specs.declared.dest.Proto.{Proto}
use Rattle.types.specs.declared.dest.Proto.TheVariants.{V4, V6}
use Rattle.access_promises.specs.Attempts.{CircuitSocket, all_sockets, is_same, same_proto, socket_of, sockets_of, times_of}
use Rattle.access_promises.proofs.AttemptCounts.{times_more}

abbrev one_if : Bool → ℕ
one_if same = length (cond same (zero ∷ []) [])

times_one : (s x : CircuitSocket) → times_of s (x ∷ []) ≡ one_if (is_same s x)
times_one s x = by (is_same s x) where
  by : (same : Bool) → length (cond same (x ∷ []) []) ≡ one_if same
  by true = refl
  by false = refl

times_last : (s : CircuitSocket) (proto : Proto) (n : ℕ) → times_of s (sockets_of proto (suc n)) ≡ times_of s (sockets_of proto n) + one_if (s.circuit == n && same_proto s.proto proto)
times_last s proto n = times_more s (sockets_of proto n) (socket_of n proto ∷ []) ∙ ap (λ k. times_of s (sockets_of proto n) + k) (times_one s (socket_of n proto))

-- those of the other protocol
none_of : (s : CircuitSocket) (proto : Proto) → same_proto s.proto proto ≡ false → (n : ℕ) → times_of s (sockets_of proto n) ≡ 0
none_of s proto other zero = refl
none_of s proto other (suc n) = times_last s proto n ∙ (by (s.circuit == n) ∙ none_of s proto other n) where
  by : (same : Bool) → times_of s (sockets_of proto n) + one_if (same && same_proto s.proto proto) ≡ times_of s (sockets_of proto n)
  by true = ap (λ b. times_of s (sockets_of proto n) + one_if b) other ∙ add-zero (times_of s (sockets_of proto n))
  by false = add-zero (times_of s (sockets_of proto n))

if_most : (same : Bool) → one_if same ≤ 1
if_most true = omega arith
if_most false = omega arith

none_above : (s : CircuitSocket) (proto : Proto) (n : ℕ) → n ≤ s.circuit → times_of s (sockets_of proto n) ≡ 0
none_above s proto zero above = refl
none_above s proto (suc n) above = times_last s proto n ∙ by (s.circuit == n) refl (none_above s proto n (omega (arith, above))) where
  by : (same : Bool) → (s.circuit == n) ≡ same → times_of s (sockets_of proto n) ≡ 0 → times_of s (sockets_of proto n) + one_if (same && same_proto s.proto proto) ≡ 0
  by true is less = let at = eqb-true s.circuit n is in absurd (omega (arith, at, above))
  by false is less = omega (arith, less)

once_of : (s : CircuitSocket) (proto : Proto) (n : ℕ) → times_of s (sockets_of proto n) ≤ 1
once_of s proto zero = omega arith
once_of s proto (suc n) = let more = times_last s proto n in let least = by (s.circuit == n) refl (once_of s proto n) in omega (arith, more, least) where
  by : (same : Bool) → (s.circuit == n) ≡ same → times_of s (sockets_of proto n) ≤ 1 → times_of s (sockets_of proto n) + one_if (same && same_proto s.proto proto) ≤ 1
  by true is once =
      let at = eqb-true s.circuit n is in
      let none = none_above s proto n (omega (arith, at)) in
      let most = if_most (same_proto s.proto proto) in
      omega (arith, none, most)
  by false is once = omega (arith, once)

pub once_each : (circuits : ℕ) (s : CircuitSocket) → times_of s (all_sockets circuits) ≤ 1
once_each circuits s = let more = times_more s (sockets_of V4 circuits) (sockets_of V6 circuits) in let least = by s.proto refl in omega (arith, more, least) where
  by : (proto : Proto) → s.proto ≡ proto → times_of s (sockets_of V4 circuits) + times_of s (sockets_of V6 circuits) ≤ 1
  by V4 is =
      let once = once_of s V4 circuits in
      let none = none_of s V6 (ap (λ p. same_proto p V6) is) circuits in
      omega (arith, once, none)
  by V6 is =
      let once = once_of s V6 circuits in
      let none = none_of s V4 (ap (λ p. same_proto p V4) is) circuits in
      omega (arith, once, none)
