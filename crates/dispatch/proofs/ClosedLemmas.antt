-- A server whose circuits are all closed.
use Rattle.std.proofs.Common.{◌≡◌, ℕ, zero, suc, ◌+◌, ◌*◌, List, length, get_or, refl, sym, ap, subst, ◌∙◌}
use Rattle.std.specs.Prelude.{All, Option, None, replicate}
use Rattle.std.proofs.lemmas.List.{length-replicate}
use Rattle.std.proofs.lemmas.Option.{get_or_from_slice_get}
use Rattle.config.specs.CircuitPart.{CircuitPart}
use Rattle.timers.specs.Deadlines.{DeadlinesValue}
use Rattle.circuit_server.specs.Deadlines.{HasDeadlines}
use Rattle.dispatch.specs.ServerValue.{HoldsDeadlines, with_states}
use Rattle.circuit_server.specs.CircuitServerValue.{HasItsPools, OpenCircuitValue}
use Rattle.dispatch.proofs.RestartLemmas.{all_with}
use Rattle.dispatch.proofs.WithStates.{server}

none_at : {X : Type 0} (n i : ℕ) → get_or {A = Option X} (replicate n None) i None ≡ None
none_at zero i = refl
none_at (suc n) zero = refl
none_at (suc n) (suc i) = none_at n i

abbrev pub all_closed : ℕ → List (Option OpenCircuitValue)
all_closed n = replicate n None

pub closed_pools : (parts : List CircuitPart) (n : ℕ) → n ≡ length parts → All HasItsPools (with_states parts (all_closed n))
closed_pools parts n size =
    all_with HasItsPools parts (all_closed n) (length-replicate n None ∙ size)
    (λ c part there. subst (λ state. HasItsPools (server part state)) (sym (none_at n c)) tt)

-- nothing of a closed one is in the table
pub closed_held : (table : DeadlinesValue) (n : ℕ) → table.slots ≡ replicate (32 * n) None → HoldsDeadlines table (all_closed n)
closed_held table n empty =
    record {
      size = ap (λ (xs : List (Option ℕ)). length xs) empty ∙ length-replicate (32 * n) None ∙ ap (λ k. 32 * k) (sym (length-replicate n None));
      each = λ c state there.
          let none : None ≡ state = sym (none_at n c) ∙ get_or_from_slice_get (all_closed n) c state None there in
          subst (HasDeadlines table (32 * c)) none (λ s below. ap (λ xs. get_or xs (32 * c + s) None) empty ∙ none_at (32 * n) (32 * c + s));
    }
