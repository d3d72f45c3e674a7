-- A row of the table is what its decision makes of the slots.
use Rattle.std.proofs.Common.{◌≡◌, ℕ, ◌+◌, ◌-◌, ◌<◌, Bool, true, false, cond, List, map, set, get_or, refl, sym, ap, subst, ◌∙◌, arith}
use Rattle.std.specs.Prelude.{Option, Some, None, IfSome, ◌==◌, is_some, option_map}
use Rattle.std.specs.List.{position}
use Rattle.std.specs.Str.{bytes_eq}
use Rattle.std.proofs.lemmas.Bool.Decides.{nat_tests}
use Rattle.std.specs.Option.{option_or}
use Rattle.slots.specs.declared.holder.Holder.{Holder}
use Rattle.slots.specs.declared.holder.Holder.TheVariants.{Bound, Offered, Barred}
use Rattle.slots.specs.KeyLaws.{key4_is_key}
use Rattle.slots.specs.Lookup.{live, is_bound_to, is_offered_to, slot_in, picked_slot}
use Rattle.slots.specs.Maps.{Lease, is_live, address_of}
use Rattle.slots.specs.Slots.{bound_to, offered_to, barred_until, with_slot}
use Rattle.slots.proofs.FitLemmas.{Fit, bound_own, bound_clients, offered_own, offered_clients, fit_bound, fit_offered, fit_picked}
use Rattle.slots.proofs.FormLemmas.{form_set, form_given}
use Rattle.slots.proofs.FreeLemmas.{from, bound_test, offered_test, binding_is}
use Rattle.slots.proofs.KeptWrites.{IsClear, IsOnly, clear_bound, clear_offered, kept_same, kept_bound, kept_barred, kept_offered, live_given, offered_unkept, only_bound, only_free, only_offered, unoffered_at}
use Rattle.slots.proofs.ShownLemmas.{not_true, live_slots, bound_sort, offered_sort}
use Rattle.slots.proofs.WriteLemmas.{distinct_slot, length_slot, leases_kept, leases_with, leases_gone, leases_without, leases_same, bars_kept, bars_same, bars_with}
use Rattle.types.specs.Addr.{number4}
use Rattle.types.specs.declared.kind4.Kind4.{Kind4}
use Rattle.types.specs.declared.kind4.Kind4.TheVariants.{Discover, Offer, Request, Decline, Ack, Nak, Release, Inform}
use Rattle.types.specs.Pool4.{PoolValue}
use Rattle.exchange.specs.declared.request4.Reply4.TheVariants as reply
use Rattle.exchange.specs.declared.request4.Request4.{Request4}
use Rattle.types.specs.declared.slot4.Slot4.{Slot4}
use Rattle.types.specs.declared.slot4.Slot4.TheVariants as slot4
use Rattle.exchange.specs.declared.request4.Reply4.{Reply4}
use Rattle.bindings_v4.specs.declared.decision4.Decision4.{Decision4}
use Rattle.bindings_v4.specs.declared.decision4.KeptSlot.{KeptSlot}
use Rattle.bindings_v4.specs.declared.decision4.OfferChange.{OfferChange}
use Rattle.bindings_v4.specs.declared.decision4.OfferChange.TheVariants as offer
use Rattle.bindings_v4.specs.Book4.{Book4, in_pool}
use Rattle.bindings_v4.specs.Decision4.{decision_of, keep_of, kept_slot, offer_of}
use Rattle.bindings_v4.specs.Kept4.{keep_in, slot_of, kept_slots}
use Rattle.bindings_v4.specs.Slots4.{Holders4, PoolSlots, book_of_slots, book4_of, AreSlots, with_offer, holder_of, with_kept, with_decision, with_written, with_written_offer, with_written_slot}
use Rattle.bindings_v4.specs.declared.server4.Server4.{Server4}
use Rattle.bindings_v4.specs.declared.server4.Server4.TheVariants.{Anybody, This, Another}
use Rattle.slots.specs.Row.{Change, Unchanged, Offers, Withdraws, Binds, Bars, Frees, is_kept, Row, replies}
use Rattle.bindings_v4.specs.Table4.{with_change, grants, discover_row, other_server_row, selecting_row, known_address_row, no_server_row, decline_row, release_row, inform_row, where_is, where_specified, server_of, Lookup, lookup_in, row_of, answer4}
use Rattle.bindings_v4.proofs.FreeLemmas.{picked, pick_is, bound_is, offered_is}
use Rattle.bindings_v4.proofs.KeptLemmas.{form4}
use Rattle.bindings_v4.proofs.ShownLemmas.{shown}

-- ---- what is written is a pool's slots still

are_with_slot : (pool : PoolValue) (i : ℕ) (new : Option (Holder (List ℕ))) (ss : Holders4) → AreSlots pool ss → AreSlots pool (with_slot bytes_eq i new ss)
are_with_slot pool i new ss are =
    record {
      limits = are.limits;
      size = length_slot key4_is_key i new ss are.distinct ∙ are.size;
      distinct = distinct_slot key4_is_key i new ss are.distinct;
    }

are_with_offer : (pool : PoolValue) (change : Option OfferChange) (ss : Holders4) → AreSlots pool ss → AreSlots pool (with_offer change ss)
are_with_offer pool None ss are = are
are_with_offer pool (Some (offer.Made i k u)) ss are = are_with_slot pool i (Some (Offered k u)) ss are
are_with_offer pool (Some (offer.Withdrawn i)) ss are = are_with_slot pool i None ss are

are_with_kept : (pool : PoolValue) (keep : Option KeptSlot) (ss : Holders4) → AreSlots pool ss → AreSlots pool (with_kept keep ss)
are_with_kept pool None ss are = are
are_with_kept pool (Some kept) ss are = are_with_slot pool kept.slot (holder_of kept.content) ss are

pub are_committed : (pool : PoolValue) (change : Option OfferChange) (keep : Option KeptSlot) (ss new : Holders4) → AreSlots pool ss → new ≡ with_kept keep (with_offer change ss) → AreSlots pool new
are_committed pool change keep ss new are e =
    subst (λ (xs : Holders4). AreSlots pool xs) (sym e) (are_with_kept pool keep (with_offer change ss) (are_with_offer pool change ss are))

-- ---- an offer

no_address : (o : Option Lease) → address_of o ≡ None → o ≡ None
no_address None e = refl
no_address (Some x) e = absurd cc

offered_book : (v : PoolSlots) (t : ℕ) (k : List ℕ) (u i : ℕ) → AreSlots v.pool v.slots → Fit key4_is_key t k v.slots i → position (is_bound_to bytes_eq t k) v.slots ≡ None → is_live t u ≡ true
    → book4_of t (record v { slots = with_slot bytes_eq i (Some (Offered k u)) v.slots }) ≡ with_change k (Offers (number4 v.pool.first + i) u) (book4_of t v)
offered_book v t k u i are fit none lasts =
    let a = number4 v.pool.first in
    let ss = v.slots in
    let new : Option (Holder (List ℕ)) = Some (Offered k u) in
    let stays : live t new ≡ new = ap (λ b. cond b new None) lasts in
    let unbound = no_address _ (binding_is key4_is_key t k a ss ∙ ap (from a) none) in
    let middle : book_of_slots a (live_slots t (with_slot bytes_eq i new ss)) ≡ with_change k (Offers (a + i) u) (book_of_slots a (live_slots t ss)) =
    λ j. record {
      bindings = leases_kept key4_is_key t k i new ss are.distinct fit.below fit.mine (λ q apart. apart) bound_to (bound_sort key4_is_key) a (ap bound_to stays) unbound j;
      offers = leases_with key4_is_key t k i new ss are.distinct fit.below fit.mine (λ q apart. apart) offered_to (offered_sort key4_is_key) a u (ap offered_to stays) j;
      bars = bars_kept key4_is_key t k i new ss are.distinct fit.below fit.mine (λ q apart. apart) a (ap barred_until stays) fit.unbarred j;
    } in
    shown a t (with_slot bytes_eq i new ss) (are_with_slot v.pool i new ss are).distinct ∙ middle ∙ ap (with_change k (Offers (a + i) u)) (sym (shown a t ss are.distinct))

-- ---- a lease, a bar, a free slot, an offer that is gone

not_offered : (t : ℕ) (k : List ℕ) (s : Option (Holder (List ℕ))) → is_bound_to bytes_eq t k s ≡ true → is_offered_to bytes_eq t k s ≡ false
not_offered t k None e = refl
not_offered t k (Some (Bound key u)) e = refl
not_offered t k (Some (Offered key u)) e = absurd (not_true e)
not_offered t k (Some (Barred u)) e = refl

not_bound : (t : ℕ) (k : List ℕ) (s : Option (Holder (List ℕ))) → is_offered_to bytes_eq t k s ≡ true → is_bound_to bytes_eq t k s ≡ false
not_bound t k None e = refl
not_bound t k (Some (Bound key u)) e = absurd (not_true e)
not_bound t k (Some (Offered key u)) e = refl
not_bound t k (Some (Barred u)) e = refl

bound_book : (v : PoolSlots) (t : ℕ) (k : List ℕ) (u i : ℕ) → AreSlots v.pool v.slots → Fit key4_is_key t k v.slots i → is_live t u ≡ true
    → book4_of t (record v { slots = with_slot bytes_eq i (Some (Bound k u)) v.slots }) ≡ with_change k (Binds (number4 v.pool.first + i) u) (book4_of t v)
bound_book v t k u i are fit lasts =
    let a = number4 v.pool.first in
    let ss = v.slots in
    let new : Option (Holder (List ℕ)) = Some (Bound k u) in
    let stays : live t new ≡ new = ap (λ b. cond b new None) lasts in
    let middle : book_of_slots a (live_slots t (with_slot bytes_eq i new ss)) ≡ with_change k (Binds (a + i) u) (book_of_slots a (live_slots t ss)) =
    λ j. record {
      bindings = leases_with key4_is_key t k i new ss are.distinct fit.below fit.mine (λ q apart. apart) bound_to (bound_sort key4_is_key) a u (ap bound_to stays) j;
      offers = leases_gone key4_is_key t k i new ss are.distinct fit.below fit.mine (λ q apart. apart) offered_to (offered_sort key4_is_key) a (ap offered_to stays) j;
      bars = bars_kept key4_is_key t k i new ss are.distinct fit.below fit.mine (λ q apart. apart) a (ap barred_until stays) fit.unbarred j;
    } in
    shown a t (with_slot bytes_eq i new ss) (are_with_slot v.pool i new ss are).distinct ∙ middle ∙ ap (with_change k (Binds (a + i) u)) (sym (shown a t ss are.distinct))

barred_book : (v : PoolSlots) (t : ℕ) (k : List ℕ) (u i : ℕ) → AreSlots v.pool v.slots → position (is_bound_to bytes_eq t k) v.slots ≡ Some i → is_live t u ≡ true
    → book4_of t (record v { slots = with_slot bytes_eq i (Some (Barred u)) v.slots }) ≡ with_change k (Bars (number4 v.pool.first + i) u) (book4_of t v)
barred_book v t k u i are found lasts =
    let a = number4 v.pool.first in
    let ss = v.slots in
    let s = get_or ss i None in
    let new : Option (Holder (List ℕ)) = Some (Barred u) in
    let stays : live t new ≡ new = ap (λ b. cond b new None) lasts in
    let p = bound_own key4_is_key t k ss i found in
    let own = bound_clients key4_is_key t k s p.1 in
    let middle : book_of_slots a (live_slots t (with_slot bytes_eq i new ss)) ≡ with_change k (Bars (a + i) u) (book_of_slots a (live_slots t ss)) =
    λ j. record {
      bindings = leases_without key4_is_key t k i new ss are.distinct own (λ q. refl) bound_to (bound_sort key4_is_key) a j;
      offers = leases_same key4_is_key t k i new ss are.distinct own (λ q. refl) offered_to (offered_sort key4_is_key) a (offered_test key4_is_key t k s ∙ not_offered t k s p.1) j;
      bars = bars_with key4_is_key t k i new ss are.distinct own (λ q. refl) a u p.0 (ap barred_until stays) j;
    } in
    shown a t (with_slot bytes_eq i new ss) (are_with_slot v.pool i new ss are).distinct ∙ middle ∙ ap (with_change k (Bars (a + i) u)) (sym (shown a t ss are.distinct))

freed_book : (v : PoolSlots) (t : ℕ) (k : List ℕ) (i : ℕ) → AreSlots v.pool v.slots → position (is_bound_to bytes_eq t k) v.slots ≡ Some i
    → book4_of t (record v { slots = with_slot bytes_eq i None v.slots }) ≡ with_change k (Frees (number4 v.pool.first + i)) (book4_of t v)
freed_book v t k i are found =
    let a = number4 v.pool.first in
    let ss = v.slots in
    let s = get_or ss i None in
    let p = bound_own key4_is_key t k ss i found in
    let own = bound_clients key4_is_key t k s p.1 in
    let middle : book_of_slots a (live_slots t (with_slot bytes_eq i None ss)) ≡ with_change k (Frees (a + i)) (book_of_slots a (live_slots t ss)) =
    λ j. record {
      bindings = leases_without key4_is_key t k i None ss are.distinct own (λ q. refl) bound_to (bound_sort key4_is_key) a j;
      offers = leases_same key4_is_key t k i None ss are.distinct own (λ q. refl) offered_to (offered_sort key4_is_key) a (offered_test key4_is_key t k s ∙ not_offered t k s p.1) j;
      bars = bars_same key4_is_key t k i None ss are.distinct own (λ q. refl) a refl j;
    } in
    shown a t (with_slot bytes_eq i None ss) (are_with_slot v.pool i None ss are).distinct ∙ middle ∙ ap (with_change k (Frees (a + i))) (sym (shown a t ss are.distinct))

withdrawn_book : (v : PoolSlots) (t : ℕ) (k : List ℕ) (i : ℕ) → AreSlots v.pool v.slots → position (is_offered_to bytes_eq t k) v.slots ≡ Some i
    → book4_of t (record v { slots = with_slot bytes_eq i None v.slots }) ≡ with_change k (Withdraws (number4 v.pool.first + i)) (book4_of t v)
withdrawn_book v t k i are found =
    let a = number4 v.pool.first in
    let ss = v.slots in
    let s = get_or ss i None in
    let p = offered_own key4_is_key t k ss i found in
    let own = offered_clients key4_is_key t k s p.1 in
    let middle : book_of_slots a (live_slots t (with_slot bytes_eq i None ss)) ≡ with_change k (Withdraws (a + i)) (book_of_slots a (live_slots t ss)) =
    λ j. record {
      bindings = leases_same key4_is_key t k i None ss are.distinct own (λ q. refl) bound_to (bound_sort key4_is_key) a (bound_test key4_is_key t k s ∙ not_bound t k s p.1) j;
      offers = leases_without key4_is_key t k i None ss are.distinct own (λ q. refl) offered_to (offered_sort key4_is_key) a j;
      bars = bars_same key4_is_key t k i None ss are.distinct own (λ q. refl) a refl j;
    } in
    shown a t (with_slot bytes_eq i None ss) (are_with_slot v.pool i None ss are).distinct ∙ middle ∙ ap (with_change k (Withdraws (a + i))) (sym (shown a t ss are.distinct))

-- ---- the rows

lasting : (t n : ℕ) → 0 < n → is_live t (t + n) ≡ true
lasting t n h = grind (arith, nat_tests)

slot_there : (a i : ℕ) → (a + i) - a ≡ i
slot_there a i = omega arith

-- an address that was looked up is that of the slot that was found
abbrev IsOf : ℕ → Option ℕ → Option ℕ → Type 0
IsOf a found o = (address : ℕ) → o ≡ Some address → (i : ℕ) × (address ≡ a + i) × (found ≡ Some i)

named_is : (a : ℕ) (found named : Option ℕ) → IsOf a found (where_is (from a found) named)
named_is a None None address e = absurd cc
named_is a None (Some n) address e = absurd cc
named_is a (Some i) None address e = absurd cc
named_is a (Some i) (Some n) address e = by (a + i == n) e where
  by : (b : Bool) → cond b (Some (a + i)) None ≡ Some address → (j : ℕ) × (address ≡ a + j) × (Some i ≡ Some j)
  by true e = (i, (let same : a + i ≡ address = cc in sym same), refl)
  by false e = absurd cc

module _ (v : PoolSlots) (t : ℕ) (k : List ℕ) (are : AreSlots v.pool v.slots) where
  abbrev a : ℕ
  a = number4 v.pool.first

  abbrev bound : Option ℕ
  bound = position (is_bound_to bytes_eq t k) v.slots

  abbrev offered : Option ℕ
  offered = position (is_offered_to bytes_eq t k) v.slots

  -- it holds of every change that a row makes
  pub record OfChanges (P : Change → Type 0) : Type 0 where
    pub unchanged : P Unchanged
    pub offers : (i : ℕ) → Fit key4_is_key t k v.slots i → bound ≡ None → IsOnly key4_is_key t k v.slots i → P (Offers (a + i) (t + 60))
    pub withdraws : (i : ℕ) → offered ≡ Some i → P (Withdraws (a + i))
    pub binds : (i : ℕ) → Fit key4_is_key t k v.slots i → IsClear key4_is_key t k v.slots i → IsOnly key4_is_key t k v.slots i → P (Binds (a + i) (t + v.pool.lease))
    pub bars : (i : ℕ) → bound ≡ Some i → P (Bars (a + i) (t + 3600))
    pub frees : (i : ℕ) → bound ≡ Some i → P (Frees (a + i))

  -- whom the client's slot is
  held_fits : (i : ℕ) → option_or bound offered ≡ Some i → Fit key4_is_key t k v.slots i
  held_fits i e = by bound refl e where
    by : (o : Option ℕ) → bound ≡ o → option_or o offered ≡ Some i → Fit key4_is_key t k v.slots i
    by None is e = fit_offered key4_is_key t k v.slots i e
    by (Some j) is e = fit_bound key4_is_key t k v.slots i (is ∙ e)

  fit_pick : (wanted : Option ℕ) (i : ℕ) → picked t v.pool v.slots k wanted ≡ Some i → Fit key4_is_key t k v.slots i
  fit_pick wanted i e = fit_picked key4_is_key t a k v.slots (option_or bound offered) wanted i held_fits (ap (λ n. picked_slot t v.slots (option_or bound offered) (slot_in a n wanted)) are.size ∙ e)

  -- a client without a binding is offered the slot that it was offered
  only_pick : (wanted : Option ℕ) (i : ℕ) → picked t v.pool v.slots k wanted ≡ Some i → bound ≡ None → IsOnly key4_is_key t k v.slots i
  only_pick wanted i e none = by offered refl e where
    by : (o : Option ℕ) → offered ≡ o → picked_slot t v.slots (option_or bound o) (slot_in a v.pool.count wanted) ≡ Some i → IsOnly key4_is_key t k v.slots i
    by None is e = only_free key4_is_key t k v.slots i none (unoffered_at key4_is_key t k v.slots is)
    by (Some j) is e =
        let own : Some j ≡ Some i = subst (λ o. picked_slot t v.slots (option_or o (Some j)) (slot_in a v.pool.count wanted) ≡ Some i) none e in
        only_offered key4_is_key t k v.slots i (is ∙ own)

  -- what is looked up, by slots
  abbrev by_slots : Option ℕ → Lookup
  by_slots wanted = record { binding = from a bound; offer = from a offered; pick = from a (picked t v.pool v.slots k wanted) }

  module _ (P : Change → Type 0) (of : OfChanges P) where
    discovered : (wanted found bound_slot : Option ℕ) → picked t v.pool v.slots k wanted ≡ found → bound ≡ bound_slot → P (discover_row t (from a found) (from a bound_slot)).change
    discovered wanted None bound_slot is_picked is_bound = of.unchanged
    discovered wanted (Some i) (Some j) is_picked is_bound = of.unchanged
    discovered wanted (Some i) None is_picked is_bound = of.offers i (fit_pick wanted i is_picked) is_bound (only_pick wanted i is_picked is_bound)

    withdrawn : (found : Option ℕ) → offered ≡ found → P (other_server_row (from a found)).change
    withdrawn None is = of.unchanged
    withdrawn (Some i) is = of.withdraws i is

    bound_granted : (i : ℕ) → bound ≡ Some i → P (Binds (a + i) (t + v.pool.lease))
    bound_granted i is = of.binds i (fit_bound key4_is_key t k v.slots i is) (clear_bound key4_is_key t k v.slots i is) (only_bound key4_is_key t k v.slots i is)

    offered_granted : (i : ℕ) → offered ≡ Some i → P (Binds (a + i) (t + v.pool.lease))
    offered_granted i is = of.binds i (fit_offered key4_is_key t k v.slots i is) (clear_offered key4_is_key t k v.slots i is) (only_offered key4_is_key t k v.slots i is)

    -- an address that is the client's binding or offer
    selected : (wanted held : Option ℕ) → ((address : ℕ) → held ≡ Some address → P (Binds address (t + v.pool.lease))) → P (selecting_row (t + v.pool.lease) wanted held).change
    selected None held is = of.unchanged
    selected (Some wanted) None is = of.unchanged
    selected (Some wanted) (Some address) is = is address refl

    held_is : (wanted : Option ℕ) (address : ℕ) → option_or (where_is (from a bound) wanted) (where_is (from a offered) wanted) ≡ Some address → P (Binds address (t + v.pool.lease))
    held_is wanted address e = by (where_is (from a bound) wanted) refl e where
      by : (o : Option ℕ) → where_is (from a bound) wanted ≡ o → option_or o (where_is (from a offered) wanted) ≡ Some address → P (Binds address (t + v.pool.lease))
      by None is e = let p = named_is a offered wanted address e in subst (λ x. P (Binds x (t + v.pool.lease))) (sym p.1) (offered_granted p.0 p.2)
      by (Some x) is e = let p = named_is a bound wanted address (is ∙ e) in subst (λ x. P (Binds x (t + v.pool.lease))) (sym p.1) (bound_granted p.0 p.2)

    verified : (inside : Bool) (found : Option ℕ) (address : ℕ) → bound ≡ found → P (known_address_row (t + v.pool.lease) inside (from a found) address).change
    verified false found address is = of.unchanged
    verified true None address is = of.unchanged
    verified true (Some i) address is = by (a + i == address) where
      by : (b : Bool) → P (cond b (grants (a + i) (t + v.pool.lease)) (replies reply.Nak Unchanged)).change
      by true = bound_granted i is
      by false = of.unchanged

    requested : (wanted ciaddr : Option ℕ) → P (no_server_row v.pool (t + v.pool.lease) (from a bound) wanted ciaddr).change
    requested (Some wanted) (Some ciaddr) = of.unchanged
    requested None None = of.unchanged
    requested (Some wanted) None = verified (in_pool v.pool wanted) bound wanted refl
    requested None (Some ciaddr) = verified (in_pool v.pool ciaddr) bound ciaddr refl

    declined : (o : Option ℕ) → IsOf a bound o → P (decline_row t o).change
    declined None is = of.unchanged
    declined (Some address) is = let p = is address refl in subst (λ x. P (Bars x (t + 3600))) (sym p.1) (of.bars p.0 p.2)

    released : (o : Option ℕ) → IsOf a bound o → P (release_row o).change
    released None is = of.unchanged
    released (Some address) is = let p = is address refl in subst (λ x. P (Frees x)) (sym p.1) (of.frees p.0 p.2)

    informed : (ciaddr : Option ℕ) → P (inform_row ciaddr).change
    informed None = of.unchanged
    informed (Some ciaddr) = of.unchanged

    row_is : (m : Request4) (kind : Kind4) (server : Server4) → P (row_of v.pool t (by_slots (option_map number4 m.wanted)) m kind server).change
    row_is m Discover server = discovered (option_map number4 m.wanted) (picked t v.pool v.slots k (option_map number4 m.wanted)) bound refl refl
    row_is m Request Another = withdrawn offered refl
    row_is m Request This = let wanted = option_map number4 m.wanted in selected wanted _ (held_is wanted)
    row_is m Request Anybody = requested (option_map number4 m.wanted) (where_specified m.ciaddr)
    row_is m Decline Another = of.unchanged
    row_is m Decline This = declined _ (named_is a bound (option_map number4 m.wanted))
    row_is m Decline Anybody = declined _ (named_is a bound (option_map number4 m.wanted))
    row_is m Release Another = of.unchanged
    row_is m Release This = released _ (named_is a bound (Some (number4 m.ciaddr)))
    row_is m Release Anybody = released _ (named_is a bound (Some (number4 m.ciaddr)))
    row_is m Inform Another = of.unchanged
    row_is m Inform This = informed (where_specified m.ciaddr)
    row_is m Inform Anybody = informed (where_specified m.ciaddr)
    row_is m Offer server = of.unchanged
    row_is m Ack server = of.unchanged
    row_is m Nak server = of.unchanged

  -- ---- what holds of every change

  abbrev changed_by : Change → Holders4
  changed_by c = with_kept (keep_of a k c) (with_offer (offer_of a k c) v.slots)

  -- the slots with it show the book with it
  abbrev ShowsItsBook : Change → Type 0
  ShowsItsBook c = book4_of t (record v { slots = changed_by c }) ≡ with_change k c (book4_of t v)

  shows_its_book : OfChanges ShowsItsBook
  shows_its_book =
      let written : ℕ → Option (Holder (List ℕ)) → Book4 = λ n new. book4_of t (record v { slots = with_slot bytes_eq n new v.slots }) in
      let term : 0 < v.pool.lease = omega (arith, are.limits.shortest) in
      record {
        unchanged = refl;
        offers = λ i fit none only. ap (λ n. written n (Some (Offered k (t + 60)))) (slot_there a i) ∙ offered_book v t k (t + 60) i are fit none (lasting t 60 (omega arith));
        withdraws = λ i is. ap (λ n. written n None) (slot_there a i) ∙ withdrawn_book v t k i are is;
        binds = λ i fit clear only. ap (λ n. written n (Some (Bound k (t + v.pool.lease)))) (slot_there a i) ∙ bound_book v t k (t + v.pool.lease) i are fit (lasting t v.pool.lease term);
        bars = λ i is. ap (λ n. written n (Some (Barred (t + 3600)))) (slot_there a i) ∙ barred_book v t k (t + 3600) i are is (lasting t 3600 (omega arith));
        frees = λ i is. ap (λ n. written n None) (slot_there a i) ∙ freed_book v t k i are is;
      }

  -- what is kept of the slots changes at the slot that is kept alone
  abbrev KeepsItsSlot : Change → Type 0
  KeepsItsSlot c = kept_slots t (changed_by c) ≡ keep_in (keep_of a k c) (kept_slots t v.slots)

  keeps_its_slot : OfChanges KeepsItsSlot
  keeps_its_slot =
      let ss = v.slots in
      let IsSet : Slot4 → ℕ → Type 0 = λ content n. kept_slots t (with_slot bytes_eq n (holder_of content) ss) ≡ set (kept_slots t ss) n content in
      let IsSame : Option (Holder (List ℕ)) → ℕ → Type 0 = λ new n. kept_slots t (with_slot bytes_eq n new ss) ≡ kept_slots t ss in
      let term : 0 < v.pool.lease = omega (arith, are.limits.shortest) in
      let stays = kept_bound t k (t + v.pool.lease) (lasting t v.pool.lease term) in
      let bar_stays = kept_barred {K = List ℕ} t (t + 3600) (lasting t 3600 (omega arith)) in
      record {
        unchanged = refl;
        offers = λ i fit none only. subst (IsSame (Some (Offered k (t + 60)))) (sym (slot_there a i)) (ap (map slot_of) (kept_offered key4_is_key t k (t + 60) i ss are.distinct fit none));
        withdraws = λ i is. subst (IsSame None) (sym (slot_there a i)) (ap (map slot_of) (kept_same t i None ss (sym (offered_unkept key4_is_key t k ss i is))));
        binds = λ i fit clear only. subst (IsSet (slot4.Bound k (t + v.pool.lease))) (sym (slot_there a i))
            (form_given form4 key4_is_key t k i (Some (Bound k (t + v.pool.lease))) ss (slot4.Bound k (t + v.pool.lease)) are.distinct fit.below clear (ap slot_of stays));
        bars = λ i is. subst (IsSet (slot4.Barred (t + 3600))) (sym (slot_there a i))
            (form_set form4 t i (Some (Barred (t + 3600))) ss (slot4.Barred (t + 3600)) (bound_own key4_is_key t k ss i is).0 (ap slot_of bar_stays));
        frees = λ i is. subst (IsSet slot4.Free) (sym (slot_there a i)) (form_set form4 t i None ss slot4.Free (bound_own key4_is_key t k ss i is).0 refl);
      }

  -- and that slot is the pool's
  abbrev KeepsInPool : Change → Type 0
  KeepsInPool c = IfSome (keep_of a k c) (λ kept. kept.slot < v.pool.count)

  keeps_in_pool : OfChanges KeepsInPool
  keeps_in_pool =
      record {
        unchanged = tt;
        offers = λ i fit none only. tt;
        withdraws = λ i is. tt;
        binds = λ i fit clear only. omega (arith, fit.below, are.size);
        bars = λ i is. omega (arith, (bound_own key4_is_key t k v.slots i is).0, are.size);
        frees = λ i is. omega (arith, (bound_own key4_is_key t k v.slots i is).0, are.size);
      }

  -- by the clock nothing else is lost
  abbrev WritesItsSlot : Change → Type 0
  WritesItsSlot c = map (live t) (changed_by c) ≡ map (live t) (with_written_slot (keep_of a k c) (with_written_offer (offer_of a k c) v.slots))

  writes_its_slot : OfChanges WritesItsSlot
  writes_its_slot =
      let ss = v.slots in
      let IsSame : Option (Holder (List ℕ)) → ℕ → Type 0 = λ new n. map (live t) (with_slot bytes_eq n new ss) ≡ map (live t) (set ss n new) in
      record {
        unchanged = refl;
        offers = λ i fit none only. subst (IsSame (Some (Offered k (t + 60)))) (sym (slot_there a i)) (live_given key4_is_key t k i (Some (Offered k (t + 60))) ss are.distinct only);
        withdraws = λ i is. refl;
        binds = λ i fit clear only. subst (IsSame (Some (Bound k (t + v.pool.lease)))) (sym (slot_there a i)) (live_given key4_is_key t k i (Some (Bound k (t + v.pool.lease))) ss are.distinct only);
        bars = λ i is. refl;
        frees = λ i is. refl;
      }

kept_is : (first : ℕ) (k : List ℕ) (change : Change) → is_some (keep_of first k change) ≡ is_kept change
kept_is first k Unchanged = refl
kept_is first k (Offers address until) = refl
kept_is first k (Withdraws address) = refl
kept_is first k (Binds address until) = refl
kept_is first k (Bars address until) = refl
kept_is first k (Frees address) = refl

module _ (v : PoolSlots) (t : ℕ) (m : Request4) (are : AreSlots v.pool v.slots) where
  abbrev pub found : Lookup
  found = lookup_in v.pool (book4_of t v) m

  found_is : found ≡ by_slots v t m.key are (option_map number4 m.wanted)
  found_is =
      let wanted = option_map number4 m.wanted in
      λ i. record { binding = bound_is v t m.key are i; offer = offered_is v t m.key are i; pick = pick_is v t m.key wanted are i }

  abbrev pub row : PoolValue → Lookup → Row Reply4
  row pool f = row_of pool t f m m.kind (server_of pool m.server)

  -- it holds of the change that the message calls for
  pub of_row : (P : Change → Type 0) → OfChanges v t m.key are P → P (row v.pool found).change
  of_row P of = subst (λ f. P (row v.pool f).change) (sym found_is) (row_is v t m.key are P of m m.kind (server_of v.pool m.server))

  -- the code's pool and what it looked up
  pub decision_is : (pool : PoolValue) (looked_up : Lookup) (d : Decision4) → pool ≡ v.pool → looked_up ≡ found → d ≡ decision_of (number4 pool.first) t m.key (row pool looked_up)
      → d ≡ decision_of (number4 v.pool.first) t m.key (row v.pool found)
  decision_is pool looked_up d same is e =
      e ∙ ap (λ (p : PoolValue). decision_of (number4 p.first) t m.key (row p looked_up)) same ∙ ap (λ f. decision_of (number4 v.pool.first) t m.key (row v.pool f)) is

  pub answer_is : (d : Decision4) → d ≡ decision_of (number4 v.pool.first) t m.key (row v.pool found) → d.answer ≡ (answer4 v.pool t (book4_of t v) m).answer
  unfolding answer4
  answer_is d e = ap (λ (x : Decision4). x.answer) e

  pub keep_is : (d : Decision4) → d ≡ decision_of (number4 v.pool.first) t m.key (row v.pool found) → is_some (kept_slot d.change) ≡ (answer4 v.pool t (book4_of t v) m).is_kept
  unfolding answer4
  keep_is d e = ap (λ (x : Decision4). is_some (kept_slot x.change)) e ∙ kept_is (number4 v.pool.first) m.key (row v.pool found).change

  pub book_is : (d : Decision4) → d ≡ decision_of (number4 v.pool.first) t m.key (row v.pool found) → book4_of t (with_decision d v) ≡ (answer4 v.pool t (book4_of t v) m).book
  unfolding answer4
  book_is d e = ap (λ (x : Decision4). book4_of t (with_decision x v)) e ∙ of_row (ShowsItsBook v t m.key are) (shows_its_book v t m.key are)

  pub slot_is : (d : Decision4) → d ≡ decision_of (number4 v.pool.first) t m.key (row v.pool found) → IfSome (kept_slot d.change) (λ kept. kept.slot < v.pool.count)
  slot_is d e =
      subst (λ (x : Decision4). IfSome (kept_slot x.change) (λ kept. kept.slot < v.pool.count)) (sym e) (of_row (KeepsInPool v t m.key are) (keeps_in_pool v t m.key are))

  pub slots_are : (d : Decision4) → d ≡ decision_of (number4 v.pool.first) t m.key (row v.pool found) → kept_slots t (with_decision d v).slots ≡ keep_in (kept_slot d.change) (kept_slots t v.slots)
  slots_are d e =
      subst (λ (x : Decision4). kept_slots t (with_decision x v).slots ≡ keep_in (kept_slot x.change) (kept_slots t v.slots)) (sym e) (of_row (KeepsItsSlot v t m.key are) (keeps_its_slot v t m.key are))

  pub written_is : (d : Decision4) → d ≡ decision_of (number4 v.pool.first) t m.key (row v.pool found) → map (live t) (with_decision d v).slots ≡ map (live t) (with_written d v.slots)
  written_is d e =
      subst (λ (x : Decision4). map (live t) (with_decision x v).slots ≡ map (live t) (with_written x v.slots)) (sym e) (of_row (WritesItsSlot v t m.key are) (writes_its_slot v t m.key are))
