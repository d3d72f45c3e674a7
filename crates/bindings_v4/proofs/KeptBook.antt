-- What a region keeps is a book.
use Rattle.std.proofs.Common.{◌≡◌, ℕ, ◌+◌, ◌<◌, true, List, [], ◌∷◌, map, refl, sym, ap, ◌∙◌}
use Rattle.std.specs.Prelude.{Option, Some, None, IfSome}
use Rattle.std.specs.FinMap.{get, get-empty, same_map}
use Rattle.slots.specs.Key.{key4_cmp}
use Rattle.slots.specs.KeyLaws.{key4_is_key}
use Rattle.slots.specs.Maps.{Lease, address_of, live_clients}
use Rattle.slots.specs.Slots.{offered_to, with_lease, leases}
use Rattle.slots.proofs.FormLemmas.{held, held_distinct}
use Rattle.slots.proofs.ShownLemmas.{keep, get-live_clients}
use Rattle.types.specs.Addr.{number4}
use Rattle.types.specs.Pool4.{PoolValue}
use Rattle.types.specs.Slots.{live4, none_twice, same_client4}
use Rattle.types.specs.declared.slot4.Slot4.{Slot4}
use Rattle.types.specs.declared.slots.Slots.{Slots as RegionSlots}
use Rattle.bindings_v4.specs.Book4.{Book4, empty_book, book4_at}
use Rattle.bindings_v4.specs.IsBook4.{Entry, TheBinding, TheOffer, TheBar, Names, IsBook4}
use Rattle.bindings_v4.specs.Kept4.{kept_book, book4_in}
use Rattle.bindings_v4.specs.Slots4.{book_of_slots}
use Rattle.bindings_v4.proofs.KeptLemmas.{form4, never_offered}
use Rattle.bindings_v4.proofs.LaterBook.{if_none}
use Rattle.bindings_v4.proofs.ShownBook.{slots_show_a_book}

pub begun_is_a_book : (pool : PoolValue) (slots : RegionSlots) → none_twice same_client4 (map (live4 slots.clock) slots.four) ≡ true → IsBook4 slots.clock (book4_in pool slots)
begun_is_a_book pool slots once =
    slots_show_a_book slots.clock (record { pool = pool; slots = map (held form4 slots.clock) slots.four }) (held_distinct form4 key4_is_key slots.clock slots.four once)

-- ---- a book without its offers

no_offer : (client : List ℕ) → get empty_book.offers client ≡ None
no_offer client = get-empty key4_cmp client

kept_names : (b : Book4) (address : ℕ) (x : Entry) → Names (kept_book b) address x → Names b address x
kept_names b address (TheBinding client) h = h
kept_names b address (TheOffer client) h = let none : None ≡ Some address = sym (ap address_of (no_offer client)) ∙ h in absurd cc
kept_names b address TheBar h = h

offers_gone : (b : Book4) (o : Option Lease) (client : List ℕ) → IfSome o (λ lease. get (kept_book b).offers client ≡ None)
offers_gone b None client = tt
offers_gone b (Some lease) client = no_offer client

pub kept_is_a_book : (clock : ℕ) (b : Book4) → IsBook4 clock b → IsBook4 clock (kept_book b)
kept_is_a_book clock b book = record {
  bindings = book.bindings;
  offers = λ client. if_none (λ (lease : Lease). clock < lease.until) _ (no_offer client);
  bars = book.bars;
  once = λ address x y named again. book.once address x y (kept_names b address x named) (kept_names b address y again);
  apart = λ client. offers_gone b (get b.bindings client) client;
}

none_live : (t : ℕ) → live_clients t empty_book.offers ≡ empty_book.offers
none_live t = same_map key4_is_key.total key4_is_key.exact _ _ (λ q. get-live_clients key4_is_key t empty_book.offers q ∙ ap (keep t) (no_offer q) ∙ sym (no_offer q))

pub kept_later : (t : ℕ) (b : Book4) → kept_book (book4_at t b) ≡ book4_at t (kept_book b)
unfolding book4_at
kept_later t b = λ i. record { bindings = live_clients t b.bindings; offers = sym (none_live t) i; bars = (book4_at t b).bars }

-- ---- slots have no offers

without_offers : (t a : ℕ) (xs : List Slot4) → leases key4_cmp offered_to a (map (held form4 t) xs) ≡ empty_book.offers
without_offers t a [] = refl
without_offers t a (x ∷ xs) = ap (λ l. with_lease a l (leases key4_cmp offered_to (a + 1) (map (held form4 t) xs))) (never_offered (live4 t x)) ∙ without_offers t (a + 1) xs

pub begun_no_offers : (pool : PoolValue) (slots : RegionSlots) → kept_book (book4_in pool slots) ≡ book4_in pool slots
begun_no_offers pool slots =
    let b = book_of_slots (number4 pool.first) (map (held form4 slots.clock) slots.four) in
    let bare : kept_book b ≡ b = λ i. record { bindings = b.bindings; offers = sym (without_offers slots.clock (number4 pool.first) slots.four) i; bars = b.bars } in
    kept_later slots.clock b ∙ ap (book4_at slots.clock) bare
