-- What the slots of a circuit's pools show is a book of these pools.
use Rattle.std.proofs.Common.{◌≡◌, ℕ, zero, suc, ◌≤◌, List, [], ◌∷◌, length, get_or, map, refl, sym, ap, subst, arith}
use Rattle.std.specs.Prelude.{All, Option, Some, None, IfSome, option_map, slice_get, slice_index_or}
use Rattle.std.specs.Option.{option_flatten}
use Rattle.std.proofs.lemmas.List.Elements.{All-head, All-tail}
use Rattle.std.proofs.lemmas.Option.{same_Some}
use Rattle.types.specs.Addr.{number4, number6}
use Rattle.types.specs.Pool4.{PoolValue}
use Rattle.types.specs.Pool6.{Pool6Value}
use Rattle.types.specs.declared.dest.Proto.TheVariants.{V4, V6}
use Rattle.slots.specs.KeyLaws.{key4_is_key, key6_is_key}
use Rattle.slots.specs.Slots.{bound_to, offered_to}
use Rattle.bindings_v4.proofs.ShownBook as four_shown
use Rattle.bindings_v4.specs.Slots4 as slots4
use Rattle.bindings_v6.proofs.ShownBook as six_shown
use Rattle.bindings_v6.specs.Slots6 as slots6
use Rattle.config.specs.CircuitPart.{CircuitPart}
use Rattle.circuit_server.specs.CircuitServerValue.{HasPools, OpenCircuitValue, server_book, open_book}
use Rattle.circuit_server.specs.SlotsOfPools.{HasItsSlots, HasSlotsOfPools}
use Rattle.circuit_server.specs.Server.{Book}
use Rattle.dispatch.specs.ServerValue.{ServerValue, circuits_in, with_states}
use Rattle.dispatch.proofs.WithStates.{server}
use Rattle.promises.specs.Books.{IsBookOf, IsInPool}
use Rattle.promises.proofs.PooledMaps.{Between, leases_inside}
use Rattle.promises.proofs.PoolLemmas4.{IsPooled4, later4}
use Rattle.promises.proofs.PoolLemmas6.{IsPooled6, later6}
use Rattle.access_promises.specs.Exchanges.{book_in}

past_end : {A : Type 0} (ss : List (Option A)) (n : ℕ) → length ss ≡ n → (i : ℕ) → n ≤ i → get_or ss i None ≡ None
past_end [] n size i past = refl
past_end (s ∷ ss) n size zero past = absurd (omega (arith, size, past))
past_end (s ∷ ss) n size (suc i) past = past_end ss (length ss) refl i (omega (arith, size, past))

module _ (part : CircuitPart) (o : OpenCircuitValue) (four : slots4.AreSlots o.four.pool o.four.slots) (six : slots6.AreSlots o.six.pool o.six.slots) (pools : HasPools part (Some o)) where
  in_pool4 : (a : ℕ) → Between (number4 o.four.pool.first) o.four.pool.count a → IsInPool part V4 a
  in_pool4 a p = by (subst (λ (pool : PoolValue). Between (number4 pool.first) pool.count a) pools.0 p) where
    by : Between (number4 part.first4) part.count4 a → IsInPool part V4 a
    by p = record { from = p.0; below = p.1 }

  in_pool6 : (a : ℕ) → Between (number6 o.six.pool.first) o.six.pool.count a → IsInPool part V6 a
  in_pool6 a p = by (subst (λ (pool : Pool6Value). Between (number6 pool.first) pool.count a) pools.1 p) where
    by : Between (number6 (record { 0 = part.first6 })) part.count6 a → IsInPool part V6 a
    by p = record { from = p.0; below = p.1 }

  pooled4 : IsPooled4 part (slots4.book4_of o.clock o.four)
  pooled4 =
      let first = number4 o.four.pool.first in
      later4 part o.clock (slots4.book_of_slots first o.four.slots) (record {
        bindings = leases_inside key4_is_key (IsInPool part V4) bound_to first o.four.pool.count o.four.slots in_pool4 (λ i past. ap bound_to (past_end o.four.slots o.four.pool.count four.size i past));
        offers = leases_inside key4_is_key (IsInPool part V4) offered_to first o.four.pool.count o.four.slots in_pool4 (λ i past. ap offered_to (past_end o.four.slots o.four.pool.count four.size i past));
      })

  pooled6 : IsPooled6 part (slots6.book6_of o.clock o.six)
  pooled6 =
      let first = number6 o.six.pool.first in
      later6 part o.clock (slots6.book_of_slots first o.six.slots)
      (record { bindings = leases_inside key6_is_key (IsInPool part V6) bound_to first o.six.pool.count o.six.slots in_pool6 (λ i past. ap bound_to (past_end o.six.slots o.six.pool.count six.size i past)) })

  pub shown_book : IsBookOf part (open_book o)
  shown_book = record {
    book = record { four = four_shown.slots_show_a_book o.clock o.four four.distinct; six = six_shown.slots_show_a_book o.clock o.six six.distinct };
    bindings4 = pooled4.bindings;
    offers4 = pooled4.offers;
    bindings6 = pooled6.bindings;
  }

-- ---- of a server's circuit

book_at_index : (parts : List CircuitPart) (states : List (Option OpenCircuitValue)) (c : ℕ) (part : CircuitPart) → slice_get parts c ≡ Some part
    → slice_get (map server_book (with_states parts states)) c ≡ Some (option_map open_book (slice_index_or states c None))
book_at_index [] states c part there = absurd cc
book_at_index (p ∷ parts) [] zero part there = refl
book_at_index (p ∷ parts) (state ∷ states) zero part there = refl
book_at_index (p ∷ parts) [] (suc c) part there = book_at_index parts [] c part there
book_at_index (p ∷ parts) (state ∷ states) (suc c) part there = book_at_index parts states c part there

shown_if : (part : CircuitPart) (state : Option OpenCircuitValue) → IfSome state (HasSlotsOfPools part) → IfSome (option_map open_book state) (IsBookOf part)
shown_if part None has = tt
shown_if part (Some o) has = shown_book part o has.0.0 has.0.1 has.1

pub shown_in : (c : ℕ) (part : CircuitPart) (value : ServerValue) → slice_get value.topology.circuits c ≡ Some part → IfSome (slice_index_or value.states c None) (HasSlotsOfPools part)
    → IfSome (book_in value c) (IsBookOf part)
shown_in c part value there has =
    subst (λ (b : Option Book). IfSome b (IsBookOf part)) (sym (ap option_flatten (book_at_index value.topology.circuits value.states c part there)))
    (shown_if part (slice_index_or value.states c None) has)

-- ---- of each circuit of a server

shown_each : (parts : List CircuitPart) (states : List (Option OpenCircuitValue)) (c : ℕ) (part : CircuitPart) → slice_get parts c ≡ Some part → All HasItsSlots (with_states parts states)
    → IfSome (slice_index_or states c None) (HasSlotsOfPools part)
shown_each [] states c part there all = absurd cc
shown_each (p ∷ parts) [] c part there all = tt
shown_each (p ∷ parts) (state ∷ states) zero part there all =
    subst (λ (q : CircuitPart). IfSome state (HasSlotsOfPools q)) (same_Some p part there) (All-head HasItsSlots (server p state) (with_states parts states) all)
shown_each (p ∷ parts) (state ∷ states) (suc c) part there all = shown_each parts states c part there (All-tail HasItsSlots (server p state) (with_states parts states) all)

pub shown_of_each : (value : ServerValue) → All HasItsSlots (circuits_in value) → (c : ℕ) (part : CircuitPart) → slice_get value.topology.circuits c ≡ Some part → IfSome (book_in value c) (IsBookOf part)
shown_of_each value all c part there = shown_in c part value there (shown_each value.topology.circuits value.states c part there all)
