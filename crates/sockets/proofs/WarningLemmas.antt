-- Addresses that are compared, and circuits up to a number.
use Rattle.std.proofs.Common.{inl, inr, ◌≡◌, ◌∙◌, ◌<◌, ◌+◌, ℕ, Bool, true, false, List, [], ◌∷◌, refl, sym, ap, ap₂, arith}
use Rattle.std.specs.Prelude.{◌&&◌, ◌==◌}
use Rattle.std.specs.Str.{bytes_eq}
use Rattle.std.proofs.lemmas.Bool.{eq-eqb}
use Rattle.types.specs.Addr.{same_source}
use Rattle.types.specs.declared.addr.Source.{Source}
use Rattle.types.specs.declared.dest.Proto.TheVariants.{V4, V6}
use Rattle.sockets.specs.Sockets.{client_port}
use Rattle.sockets.specs.Warnings.{IsClients}

same_bytes : (xs : List ℕ) → bytes_eq xs xs ≡ true
same_bytes [] = refl
same_bytes (x ∷ xs) = ap₂ (λ a b. a && b) (eq-eqb x x refl) (same_bytes xs)

-- an address that compares as another is another
pub apart : (a b : Source) (is : Bool) → is ≡ same_source a b → is ≡ false → a ≡ b → ⊥
apart a b is means differs same =
    let yes : same_source a a ≡ true = ap₂ (λ x y. x && y) (same_bytes a.addr.0) (eq-eqb a.port a.port refl) in
    let never : true ≡ false = sym yes ∙ (ap (same_source a) same ∙ (sym means ∙ differs)) in
    absurd cc

-- the address is not that of the next circuit's clients either
pub none_yet : (port circuits n : ℕ) (at : Source) → ((c : ℕ) → c < n → ¬ IsClients port circuits at c) → ¬ (at ≡ client_port port n V4) → ¬ (at ≡ client_port port n V6)
    → (c : ℕ) → c < n + 1 → ¬ IsClients port circuits at c
none_yet port circuits n at before not4 not6 c less clients = by (c == n) refl where
  here : (k : ℕ) → k ≡ n → IsClients port circuits at k → ⊥
  here k same (within, inl four) = not4 (four ∙ ap (λ i. client_port port i V4) same)
  here k same (within, inr six) = not6 (six ∙ ap (λ i. client_port port i V6) same)

  by : (b : Bool) → (c == n) ≡ b → ⊥
  by true e = here c (grind (arith, e)) clients
  by false e = before c (grind (arith, e, less)) clients
