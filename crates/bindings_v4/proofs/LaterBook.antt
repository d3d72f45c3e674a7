-- An empty book is a book, and so is what a later clock leaves of one.
use Rattle.std.proofs.Common.{◌≡◌, ℕ, ◌<◌, Bool, true, false, cond, List, refl, sym, ap, subst, ◌∙◌}
use borrow.Author.Tests.{ltb-true}
use Rattle.std.specs.Prelude.{Option, Some, None, IfSome, is_some}
use Rattle.std.specs.Ordering.{nat_cmp}
use Rattle.std.specs.FinMap.{get, get-empty}
use Rattle.std.specs.Option.{option_map_or}
use Rattle.slots.specs.Key.{key4_cmp}
use Rattle.slots.specs.KeyLaws.{key4_is_key}
use Rattle.slots.specs.Maps.{Lease, is_live, address_of, live_clients}
use Rattle.slots.proofs.ShownLemmas.{not_true, keep, get-live_clients, get-live_bars}
use Rattle.bindings_v4.specs.Book4.{Book4, empty_book, book4_at}
use Rattle.bindings_v4.specs.IsBook4.{Entry, TheBinding, TheOffer, TheBar, Names, IsBook4}

-- ---- an empty book

no_lease : (client : List ℕ) → get empty_book.bindings client ≡ None
no_lease client = get-empty key4_cmp client

nothing_named : (address : ℕ) (x : Entry) → Names empty_book address x → ⊥
nothing_named address (TheBinding client) h = let none : None ≡ Some address = sym (ap address_of (no_lease client)) ∙ h in absurd cc
nothing_named address (TheOffer client) h = let none : None ≡ Some address = sym (ap address_of (no_lease client)) ∙ h in absurd cc
nothing_named address TheBar h = absurd (not_true (sym (ap is_some (get-empty nat_cmp address)) ∙ h))

pub if_none : {A : Type 0} (P : A → Type 0) (o : Option A) → o ≡ None → IfSome o P
if_none P o is = subst (λ v. IfSome v P) (sym is) tt

pub empty_is_a_book : (clock : ℕ) → IsBook4 clock empty_book
empty_is_a_book clock = record {
  bindings = λ client. if_none (λ lease. clock < lease.until) _ (no_lease client);
  offers = λ client. if_none (λ lease. clock < lease.until) _ (no_lease client);
  bars = λ address. if_none (λ until. clock < until) _ (get-empty nat_cmp address);
  once = λ address x y named again. absurd (nothing_named address x named);
  apart = λ client. if_none (λ lease. get empty_book.offers client ≡ None) _ (no_lease client);
}

-- ---- what a later clock leaves

live_left : (t : ℕ) (lease : Lease) (live : Bool) → is_live t lease.until ≡ live → IfSome (cond live (Some lease) None) (λ left. t < left.until)
live_left t lease true is = ltb-true t lease.until is
live_left t lease false is = tt

pub kept_is_live : (t : ℕ) (o : Option Lease) → IfSome (keep t o) (λ left. t < left.until)
kept_is_live t None = tt
kept_is_live t (Some lease) = live_left t lease (is_live t lease.until) refl

bar_left : (t until : ℕ) (live : Bool) → is_live t until ≡ live → IfSome (cond live (Some until) None) (λ left. t < left)
bar_left t until true is = ltb-true t until is
bar_left t until false is = tt

pub bar_is_live : (t : ℕ) (o : Option ℕ) → IfSome (cond (option_map_or (is_live t) o false) o None) (λ left. t < left)
bar_is_live t None = tt
bar_is_live t (Some until) = bar_left t until (is_live t until) refl

-- what is left was there before
kept_cond : (b : Bool) (o : Option Lease) (address : ℕ) → address_of (cond b o None) ≡ Some address → address_of o ≡ Some address
kept_cond true o address h = h
kept_cond false o address h = absurd cc

bar_cond : (b : Bool) (o : Option ℕ) → is_some (cond b o None) ≡ true → is_some o ≡ true
bar_cond true o h = h
bar_cond false o h = absurd (not_true h)

apart_cond : (t : ℕ) (b : Bool) (o offer : Option Lease) → IfSome o (λ lease. offer ≡ None) → IfSome (cond b o None) (λ lease. keep t offer ≡ None)
apart_cond t false o offer h = tt
apart_cond t true None offer h = tt
apart_cond t true (Some lease) offer h = ap (keep t) h

module _ (later : ℕ) (b : Book4) where
  named_before : (address : ℕ) (x : Entry) → Names (book4_at later b) address x → Names b address x
  unfolding book4_at
  named_before address (TheBinding client) h = kept_cond _ _ address (sym (ap address_of (get-live_clients key4_is_key later b.bindings client)) ∙ h)
  named_before address (TheOffer client) h = kept_cond _ _ address (sym (ap address_of (get-live_clients key4_is_key later b.offers client)) ∙ h)
  named_before address TheBar h = bar_cond _ _ (sym (ap is_some (get-live_bars later b.bars address)) ∙ h)

  pub later_is_a_book : (clock : ℕ) → IsBook4 clock b → IsBook4 later (book4_at later b)
  unfolding book4_at
  later_is_a_book clock book = record {
    bindings = λ client. subst (λ o. IfSome o (λ (left : Lease). later < left.until)) (sym (get-live_clients key4_is_key later b.bindings client)) (kept_is_live later (get b.bindings client));
    offers = λ client. subst (λ o. IfSome o (λ (left : Lease). later < left.until)) (sym (get-live_clients key4_is_key later b.offers client)) (kept_is_live later (get b.offers client));
    bars = λ address. subst (λ o. IfSome o (λ left. later < left)) (sym (get-live_bars later b.bars address)) (bar_is_live later (get b.bars address));
    once = λ address x y named again. book.once address x y (named_before address x named) (named_before address y again);
    apart = λ client.
        let offered : Option Lease → Option Lease → Type 0 = λ o offer. IfSome o (λ (lease : Lease). offer ≡ None) in
        subst (λ o. offered o (get (live_clients later b.offers) client)) (sym (get-live_clients key4_is_key later b.bindings client))
        (subst (λ offer. offered (keep later (get b.bindings client)) offer) (sym (get-live_clients key4_is_key later b.offers client))
        (apart_cond later _ (get b.bindings client) (get b.offers client) (book.apart client)));
  }
