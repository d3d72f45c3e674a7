-- A row of the table is what its decision makes of the slots.
use Rattle.std.proofs.Common.{◌≡◌, inr, ℕ, zero, suc, ◌+◌, ◌-◌, ◌<◌, Bool, true, false, cond, List, [], ◌∷◌, map, set, get_or, refl, sym, ap, subst, ◌∙◌, arith}
use Rattle.std.specs.Prelude.{Option, Some, None, IfSome, is_some}
use Rattle.std.specs.List.{position}
use Rattle.std.proofs.lemmas.Bool.Decides.{nat_tests}
use Rattle.slots.specs.declared.holder.Holder.{Holder}
use Rattle.slots.specs.declared.holder.Holder.TheVariants.{Bound, Offered, Barred}
use Rattle.slots.specs.KeyLaws.{key6_is_key}
use Rattle.slots.specs.Lookup.{live, is_bound_to, is_offered_to, slot_in, picked_slot}
use Rattle.slots.specs.Maps.{is_live}
use Rattle.slots.specs.Slots.{bound_to, offered_to, barred_until, is_clients, with_vacancy, with_slot}
use Rattle.slots.proofs.FitLemmas.{Fit, bound_own, bound_clients, fit_bound, fit_picked}
use Rattle.slots.proofs.FormLemmas.{form_set, form_given}
use Rattle.slots.proofs.FreeLemmas.{from}
use Rattle.slots.proofs.KeptWrites.{IsClear, IsOnly, clear_bound, kept_bound, kept_barred, live_given, only_bound, only_free}
use Rattle.slots.proofs.ShownLemmas.{live_slots, bound_sort}
use Rattle.slots.proofs.WriteLemmas.{distinct_slot, length_slot, leases_with, leases_without, bars_kept, bars_same, bars_with}
use Rattle.types.specs.Addr.{number6}
use Rattle.types.specs.Key6.{Key6Value, same_key6}
use Rattle.types.specs.Pool6.{Pool6Value}
use Rattle.types.specs.declared.addr.Addr6.{Addr6}
use Rattle.types.specs.declared.discard.Discard.TheVariants as reason
use Rattle.types.specs.declared.kind6.Kind6.{Kind6}
use Rattle.types.specs.declared.kind6.Kind6.TheVariants.{Solicit, Request, Confirm, Renew, Rebind, Release, Decline}
use Rattle.exchange.specs.declared.request6.Request6.{Request6}
use Rattle.types.specs.declared.slot6.Slot6.{Slot6}
use Rattle.types.specs.declared.slot6.Slot6.TheVariants as slot6
use Rattle.exchange.specs.declared.request6.Reply6.{Reply6}
use Rattle.bindings_v6.specs.declared.decision6.Decision6.{Decision6}
use Rattle.bindings_v6.specs.Book6.{Book6}
use Rattle.bindings_v6.specs.Decision6.{keep_of, decision_of}
use Rattle.bindings_v6.specs.Kept6.{keep_in, slot_of, kept_slots}
use Rattle.bindings_v6.specs.Slots6.{Holders6, PoolSlots, book_of_slots, book6_of, HaveNoOffers, AreSlots, holder_of, with_kept, with_decision, with_written, with_written_slot}
use Rattle.slots.specs.Row.{Change, Unchanged, Offers, Withdraws, Binds, Bars, Frees, is_kept, Row, drops}
use Rattle.bindings_v6.specs.Table6.{with_change, solicit_row, request_row, renew_row, confirm_row, release_row, decline_row, first_listed, where_listed, is_off_link, Lookup, lookup_in, row_of, is_for_us, answer6}
use Rattle.bindings_v6.proofs.FreeLemmas.{picked, pick_is, bound_is}
use Rattle.bindings_v6.proofs.KeptLemmas.{form6}
use Rattle.bindings_v6.proofs.ShownLemmas.{shown}

-- ---- what is written is a pool's slots still

none_set : (ss : Holders6) (i : ℕ) (new : Option (Holder Key6Value)) → HaveNoOffers ss → offered_to new ≡ None → HaveNoOffers (set ss i new)
none_set [] i new none e k = none k
none_set (s ∷ ss) zero new none e zero = e
none_set (s ∷ ss) zero new none e (suc k) = none (suc k)
none_set (s ∷ ss) (suc i) new none e zero = none 0
none_set (s ∷ ss) (suc i) new none e (suc k) = none_set ss i new (λ j. none (suc j)) e k

none_vacated : (found : Option ℕ) (ss : Holders6) → HaveNoOffers ss → HaveNoOffers (with_vacancy found ss)
none_vacated None ss none = none
none_vacated (Some i) ss none = none_set ss i None none refl

none_written : (i : ℕ) (new : Option (Holder Key6Value)) (ss : Holders6) → HaveNoOffers ss → offered_to new ≡ None → HaveNoOffers (with_slot same_key6 i new ss)
none_written i None ss none e = none_set ss i None none e
none_written i (Some (Bound k u)) ss none e =
    none_set (with_vacancy (position (is_clients same_key6 k) ss) ss) i (Some (Bound k u)) (none_vacated (position (is_clients same_key6 k) ss) ss none) e
none_written i (Some (Offered k u)) ss none e = absurd cc
none_written i (Some (Barred u)) ss none e = none_set ss i (Some (Barred u)) none e

pub are_with_slot : (pool : Pool6Value) (i : ℕ) (new : Option (Holder Key6Value)) (ss : Holders6) → offered_to new ≡ None → AreSlots pool ss → AreSlots pool (with_slot same_key6 i new ss)
are_with_slot pool i new ss e are =
    record {
      limits = are.limits;
      size = length_slot key6_is_key i new ss are.distinct ∙ are.size;
      distinct = distinct_slot key6_is_key i new ss are.distinct;
      no_offers = none_written i new ss are.no_offers e;
    }

-- ---- a lease, a bar, a free slot

bound_book : (v : PoolSlots) (t : ℕ) (k : Key6Value) (u i : ℕ) → AreSlots v.pool v.slots → Fit key6_is_key t k v.slots i → is_live t u ≡ true
    → book6_of t (record v { slots = with_slot same_key6 i (Some (Bound k u)) v.slots }) ≡ with_change k (Binds (number6 v.pool.first + i) u) (book6_of t v)
bound_book v t k u i are fit lasts =
    let a = number6 v.pool.first in
    let ss = v.slots in
    let new : Option (Holder Key6Value) = Some (Bound k u) in
    let stays : live t new ≡ new = ap (λ b. cond b new None) lasts in
    let middle : book_of_slots a (live_slots t (with_slot same_key6 i new ss)) ≡ with_change k (Binds (a + i) u) (book_of_slots a (live_slots t ss)) =
    λ j. record {
      bindings = leases_with key6_is_key t k i new ss are.distinct fit.below fit.mine (λ q apart. apart) bound_to (bound_sort key6_is_key) a u (ap bound_to stays) j;
      bars = bars_kept key6_is_key t k i new ss are.distinct fit.below fit.mine (λ q apart. apart) a (ap barred_until stays) fit.unbarred j;
    } in
    shown a t (with_slot same_key6 i new ss) (are_with_slot v.pool i new ss refl are).distinct ∙ middle ∙ ap (with_change k (Binds (a + i) u)) (sym (shown a t ss are.distinct))

barred_book : (v : PoolSlots) (t : ℕ) (k : Key6Value) (u i : ℕ) → AreSlots v.pool v.slots → position (is_bound_to same_key6 t k) v.slots ≡ Some i → is_live t u ≡ true
    → book6_of t (record v { slots = with_slot same_key6 i (Some (Barred u)) v.slots }) ≡ with_change k (Bars (number6 v.pool.first + i) u) (book6_of t v)
barred_book v t k u i are found lasts =
    let a = number6 v.pool.first in
    let ss = v.slots in
    let s = get_or ss i None in
    let new : Option (Holder Key6Value) = Some (Barred u) in
    let stays : live t new ≡ new = ap (λ b. cond b new None) lasts in
    let p = bound_own key6_is_key t k ss i found in
    let own = bound_clients key6_is_key t k s p.1 in
    let middle : book_of_slots a (live_slots t (with_slot same_key6 i new ss)) ≡ with_change k (Bars (a + i) u) (book_of_slots a (live_slots t ss)) =
    λ j. record {
      bindings = leases_without key6_is_key t k i new ss are.distinct own (λ q. refl) bound_to (bound_sort key6_is_key) a j;
      bars = bars_with key6_is_key t k i new ss are.distinct own (λ q. refl) a u p.0 (ap barred_until stays) j;
    } in
    shown a t (with_slot same_key6 i new ss) (are_with_slot v.pool i new ss refl are).distinct ∙ middle ∙ ap (with_change k (Bars (a + i) u)) (sym (shown a t ss are.distinct))

freed_book : (v : PoolSlots) (t : ℕ) (k : Key6Value) (i : ℕ) → AreSlots v.pool v.slots → position (is_bound_to same_key6 t k) v.slots ≡ Some i
    → book6_of t (record v { slots = with_slot same_key6 i None v.slots }) ≡ with_change k (Frees (number6 v.pool.first + i)) (book6_of t v)
freed_book v t k i are found =
    let a = number6 v.pool.first in
    let ss = v.slots in
    let s = get_or ss i None in
    let p = bound_own key6_is_key t k ss i found in
    let own = bound_clients key6_is_key t k s p.1 in
    let middle : book_of_slots a (live_slots t (with_slot same_key6 i None ss)) ≡ with_change k (Frees (a + i)) (book_of_slots a (live_slots t ss)) =
    λ j. record {
      bindings = leases_without key6_is_key t k i None ss are.distinct own (λ q. refl) bound_to (bound_sort key6_is_key) a j;
      bars = bars_same key6_is_key t k i None ss are.distinct own (λ q. refl) a refl j;
    } in
    shown a t (with_slot same_key6 i None ss) (are_with_slot v.pool i None ss refl are).distinct ∙ middle ∙ ap (with_change k (Frees (a + i))) (sym (shown a t ss are.distinct))

-- ---- the rows

lasting : (t n : ℕ) → 0 < n → is_live t (t + n) ≡ true
lasting t n h = grind (arith, nat_tests)

slot_there : (a i : ℕ) → (a + i) - a ≡ i
slot_there a i = omega arith

module _ (v : PoolSlots) (t : ℕ) (k : Key6Value) (are : AreSlots v.pool v.slots) where
  abbrev a : ℕ
  a = number6 v.pool.first

  abbrev bound : Option ℕ
  bound = position (is_bound_to same_key6 t k) v.slots

  -- it holds of every change that a row makes
  pub record OfChanges (P : Change → Type 0) : Type 0 where
    pub unchanged : P Unchanged
    pub binds : (i : ℕ) → Fit key6_is_key t k v.slots i → IsClear key6_is_key t k v.slots i → IsOnly key6_is_key t k v.slots i → P (Binds (a + i) (t + v.pool.lease))
    pub bars : (i : ℕ) → bound ≡ Some i → P (Bars (a + i) (t + 3600))
    pub frees : (i : ℕ) → bound ≡ Some i → P (Frees (a + i))

  fit_pick : (wanted : Option ℕ) (i : ℕ) → picked t v.pool v.slots k wanted ≡ Some i → Fit key6_is_key t k v.slots i
  fit_pick wanted i e = fit_picked key6_is_key t a k v.slots bound wanted i (fit_bound key6_is_key t k v.slots) (ap (λ n. picked_slot t v.slots bound (slot_in a n wanted)) are.size ∙ e)

  clear_pick : (wanted : Option ℕ) (i : ℕ) → picked t v.pool v.slots k wanted ≡ Some i → IsClear key6_is_key t k v.slots i
  clear_pick wanted i e = by bound refl e where
    by : (o : Option ℕ) → bound ≡ o → picked_slot t v.slots o (slot_in a v.pool.count wanted) ≡ Some i → IsClear key6_is_key t k v.slots i
    by None is e = inr is
    by (Some j) is e = clear_bound key6_is_key t k v.slots i (is ∙ e)

  unoffered : (s : Option (Holder Key6Value)) → offered_to s ≡ None → is_offered_to same_key6 t k s ≡ false
  unoffered None none = refl
  unoffered (Some (Bound key u)) none = refl
  unoffered (Some (Offered key u)) none = absurd cc
  unoffered (Some (Barred u)) none = refl

  only_pick : (wanted : Option ℕ) (i : ℕ) → picked t v.pool v.slots k wanted ≡ Some i → IsOnly key6_is_key t k v.slots i
  only_pick wanted i e = by bound refl e where
    by : (o : Option ℕ) → bound ≡ o → picked_slot t v.slots o (slot_in a v.pool.count wanted) ≡ Some i → IsOnly key6_is_key t k v.slots i
    by None is e = only_free key6_is_key t k v.slots i is (λ j. unoffered (get_or v.slots j None) (are.no_offers j))
    by (Some j) is e = only_bound key6_is_key t k v.slots i (is ∙ e)

  -- what is looked up, by slots
  abbrev by_slots : Option ℕ → Lookup
  by_slots wanted = record { binding = from a bound; pick = from a (picked t v.pool v.slots k wanted) }

  module _ (P : Change → Type 0) (of : OfChanges P) where
    solicited : (picked : Option ℕ) → P (solicit_row picked).change
    solicited (Some address) = of.unchanged
    solicited None = of.unchanged

    requested : (off_link : Bool) (wanted found : Option ℕ) → picked t v.pool v.slots k wanted ≡ found → P (request_row (t + v.pool.lease) off_link (from a found)).change
    requested true wanted found is = of.unchanged
    requested false wanted (Some i) is = of.binds i (fit_pick wanted i is) (clear_pick wanted i is) (only_pick wanted i is)
    requested false wanted None is = of.unchanged

    renewed : (listed : List Addr6) (found : Option ℕ) → bound ≡ found → P (renew_row (t + v.pool.lease) listed (from a found)).change
    renewed listed (Some i) is = of.binds i (fit_bound key6_is_key t k v.slots i is) (clear_bound key6_is_key t k v.slots i is) (only_bound key6_is_key t k v.slots i is)
    renewed listed None is = of.unchanged

    confirmed : (listed : List Addr6) (off_link : Bool) → P (confirm_row listed off_link).change
    confirmed [] off_link = of.unchanged
    confirmed (x ∷ xs) true = of.unchanged
    confirmed (x ∷ xs) false = of.unchanged

    released : (found : Option ℕ) (listed : Bool) → bound ≡ found → P (release_row (from a found) listed).change
    released (Some i) true is = of.frees i is
    released (Some i) false is = of.unchanged
    released None listed is = of.unchanged

    declined : (found : Option ℕ) (listed : Bool) → bound ≡ found → P (decline_row t (from a found) listed).change
    declined (Some i) true is = of.bars i is
    declined (Some i) false is = of.unchanged
    declined None listed is = of.unchanged

    row_is : (listed : List Addr6) (kind : Kind6) → P (row_of v.pool t (by_slots (first_listed listed)) listed kind).change
    row_is listed Solicit = solicited (from a (picked t v.pool v.slots k (first_listed listed)))
    row_is listed Request = requested (is_off_link v.pool listed) (first_listed listed) (picked t v.pool v.slots k (first_listed listed)) refl
    row_is listed Renew = renewed listed bound refl
    row_is listed Rebind = renewed listed bound refl
    row_is listed Confirm = confirmed listed (is_off_link v.pool listed)
    row_is listed Release = released bound (where_listed listed (from a bound)) refl
    row_is listed Decline = declined bound (where_listed listed (from a bound)) refl

  -- ---- what holds of every change

  -- the slots with it show the book with it
  abbrev ShowsItsBook : Change → Type 0
  ShowsItsBook c = book6_of t (record v { slots = with_kept (keep_of a k c) v.slots }) ≡ with_change k c (book6_of t v)

  shows_its_book : OfChanges ShowsItsBook
  shows_its_book =
      let written : ℕ → Option (Holder Key6Value) → Book6 = λ n new. book6_of t (record v { slots = with_slot same_key6 n new v.slots }) in
      let term : 0 < v.pool.lease = omega (arith, are.limits.shortest) in
      record {
        unchanged = refl;
        binds = λ i fit clear only. ap (λ n. written n (Some (Bound k (t + v.pool.lease)))) (slot_there a i) ∙ bound_book v t k (t + v.pool.lease) i are fit (lasting t v.pool.lease term);
        bars = λ i is. ap (λ n. written n (Some (Barred (t + 3600)))) (slot_there a i) ∙ barred_book v t k (t + 3600) i are is (lasting t 3600 (omega arith));
        frees = λ i is. ap (λ n. written n None) (slot_there a i) ∙ freed_book v t k i are is;
      }

  -- what is kept of the slots changes at the slot that is kept alone
  abbrev KeepsItsSlot : Change → Type 0
  KeepsItsSlot c = kept_slots t (with_kept (keep_of a k c) v.slots) ≡ keep_in (keep_of a k c) (kept_slots t v.slots)

  keeps_its_slot : OfChanges KeepsItsSlot
  keeps_its_slot =
      let ss = v.slots in
      let IsSet : Slot6 → ℕ → Type 0 = λ content n. kept_slots t (with_slot same_key6 n (holder_of content) ss) ≡ set (kept_slots t ss) n content in
      let term : 0 < v.pool.lease = omega (arith, are.limits.shortest) in
      let stays = kept_bound t k (t + v.pool.lease) (lasting t v.pool.lease term) in
      let bar_stays = kept_barred {K = Key6Value} t (t + 3600) (lasting t 3600 (omega arith)) in
      record {
        unchanged = refl;
        binds = λ i fit clear only. subst (IsSet (slot6.Bound k (t + v.pool.lease))) (sym (slot_there a i))
            (form_given form6 key6_is_key t k i (Some (Bound k (t + v.pool.lease))) ss (slot6.Bound k (t + v.pool.lease)) are.distinct fit.below clear (ap slot_of stays));
        bars = λ i is. subst (IsSet (slot6.Barred (t + 3600))) (sym (slot_there a i))
            (form_set form6 t i (Some (Barred (t + 3600))) ss (slot6.Barred (t + 3600)) (bound_own key6_is_key t k ss i is).0 (ap slot_of bar_stays));
        frees = λ i is. subst (IsSet slot6.Free) (sym (slot_there a i)) (form_set form6 t i None ss slot6.Free (bound_own key6_is_key t k ss i is).0 refl);
      }

  -- and that slot is the pool's
  abbrev KeepsInPool : Change → Type 0
  KeepsInPool c = IfSome (keep_of a k c) (λ kept. kept.slot < v.pool.count)

  keeps_in_pool : OfChanges KeepsInPool
  keeps_in_pool =
      record {
        unchanged = tt;
        binds = λ i fit clear only. omega (arith, fit.below, are.size);
        bars = λ i is. omega (arith, (bound_own key6_is_key t k v.slots i is).0, are.size);
        frees = λ i is. omega (arith, (bound_own key6_is_key t k v.slots i is).0, are.size);
      }

  -- by the clock nothing else is lost
  abbrev WritesItsSlot : Change → Type 0
  WritesItsSlot c = map (live t) (with_kept (keep_of a k c) v.slots) ≡ map (live t) (with_written_slot (keep_of a k c) v.slots)

  writes_its_slot : OfChanges WritesItsSlot
  writes_its_slot =
      let ss = v.slots in
      let IsSame : Option (Holder Key6Value) → ℕ → Type 0 = λ new n. map (live t) (with_slot same_key6 n new ss) ≡ map (live t) (set ss n new) in
      record {
        unchanged = refl;
        binds = λ i fit clear only. subst (IsSame (Some (Bound k (t + v.pool.lease)))) (sym (slot_there a i)) (live_given key6_is_key t k i (Some (Bound k (t + v.pool.lease))) ss are.distinct only);
        bars = λ i is. refl;
        frees = λ i is. refl;
      }

kept_is : (first : ℕ) (k : Key6Value) (change : Change) → is_some (keep_of first k change) ≡ is_kept change
kept_is first k Unchanged = refl
kept_is first k (Offers a u) = refl
kept_is first k (Withdraws a) = refl
kept_is first k (Binds address until) = refl
kept_is first k (Bars address until) = refl
kept_is first k (Frees address) = refl

abbrev pub other_server : Row Reply6
other_server = drops reason.OtherServer Unchanged

module _ (v : PoolSlots) (t : ℕ) (m : Request6) (are : AreSlots v.pool v.slots) where
  abbrev pub found : Lookup
  found = lookup_in v.pool (book6_of t v) m

  found_is : found ≡ by_slots v t m.key are (first_listed m.listed.items)
  found_is =
      let wanted = first_listed m.listed.items in
      λ i. record { binding = bound_is v t m.key are i; pick = pick_is v t m.key wanted are i }

  abbrev pub row : Pool6Value → Lookup → Row Reply6
  row pool f = cond (is_for_us m.kind m.server) (row_of pool t f m.listed.items m.kind) other_server

  row_if : (P : Change → Type 0) (b : Bool) (met other : Row Reply6) → P met.change → P other.change → P (cond b met other).change
  row_if P true met other h k = h
  row_if P false met other h k = k

  -- it holds of the change that the message calls for
  pub of_row : (P : Change → Type 0) → OfChanges v t m.key are P → P (row v.pool found).change
  of_row P of =
      row_if P (is_for_us m.kind m.server) (row_of v.pool t found m.listed.items m.kind) other_server
      (subst (λ f. P (row_of v.pool t f m.listed.items m.kind).change) (sym found_is) (row_is v t m.key are P of m.listed.items m.kind)) of.unchanged

  -- the code's pool and what it looked up
  pub decision_is : (pool : Pool6Value) (looked_up : Lookup) (d : Decision6) → pool ≡ v.pool → looked_up ≡ found → d ≡ decision_of (number6 pool.first) t m.key (row pool looked_up)
      → d ≡ decision_of (number6 v.pool.first) t m.key (row v.pool found)
  decision_is pool looked_up d same is e =
      e ∙ ap (λ (p : Pool6Value). decision_of (number6 p.first) t m.key (row p looked_up)) same ∙ ap (λ f. decision_of (number6 v.pool.first) t m.key (row v.pool f)) is

  pub answer_is : (d : Decision6) → d ≡ decision_of (number6 v.pool.first) t m.key (row v.pool found) → d.answer ≡ (answer6 v.pool t (book6_of t v) m).answer
  unfolding answer6
  answer_is d e = ap (λ (x : Decision6). x.answer) e

  pub keep_is : (d : Decision6) → d ≡ decision_of (number6 v.pool.first) t m.key (row v.pool found) → is_some d.keep ≡ (answer6 v.pool t (book6_of t v) m).is_kept
  unfolding answer6
  keep_is d e = ap (λ (x : Decision6). is_some x.keep) e ∙ kept_is (number6 v.pool.first) m.key (row v.pool found).change

  pub book_is : (d : Decision6) → d ≡ decision_of (number6 v.pool.first) t m.key (row v.pool found) → book6_of t (with_decision d v) ≡ (answer6 v.pool t (book6_of t v) m).book
  unfolding answer6
  book_is d e = ap (λ (x : Decision6). book6_of t (with_decision x v)) e ∙ of_row (ShowsItsBook v t m.key are) (shows_its_book v t m.key are)

  pub slot_is : (d : Decision6) → d ≡ decision_of (number6 v.pool.first) t m.key (row v.pool found) → IfSome d.keep (λ kept. kept.slot < v.pool.count)
  slot_is d e =
      subst (λ (x : Decision6). IfSome x.keep (λ kept. kept.slot < v.pool.count)) (sym e) (of_row (KeepsInPool v t m.key are) (keeps_in_pool v t m.key are))

  pub slots_are : (d : Decision6) → d ≡ decision_of (number6 v.pool.first) t m.key (row v.pool found) → kept_slots t (with_decision d v).slots ≡ keep_in d.keep (kept_slots t v.slots)
  slots_are d e =
      subst (λ (x : Decision6). kept_slots t (with_decision x v).slots ≡ keep_in x.keep (kept_slots t v.slots)) (sym e) (of_row (KeepsItsSlot v t m.key are) (keeps_its_slot v t m.key are))

  pub written_is : (d : Decision6) → d ≡ decision_of (number6 v.pool.first) t m.key (row v.pool found) → map (live t) (with_decision d v).slots ≡ map (live t) (with_written d v.slots)
  written_is d e =
      subst (λ (x : Decision6). map (live t) (with_decision x v).slots ≡ map (live t) (with_written x v.slots)) (sym e) (of_row (WritesItsSlot v t m.key are) (writes_its_slot v t m.key are))
