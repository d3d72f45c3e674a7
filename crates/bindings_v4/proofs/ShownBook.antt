-- What slots show is a book.
use Rattle.std.proofs.Common.{◌≡◌, ℕ, suc, ◌+◌, ◌-◌, ◌<◌, Bool, true, false, cond, List, [], ◌∷◌, get_or, ltb, refl, sym, ap, subst, ◌∙◌, arith}
use borrow.Author.Tests.{ltb-true}
use Rattle.std.specs.Prelude.{Option, Some, None, IfSome, is_some}
use Rattle.std.specs.FinMap.{get}
use Rattle.std.specs.Str.{bytes_eq}
use Rattle.slots.specs.declared.holder.Holder.{Holder}
use Rattle.slots.specs.declared.holder.Holder.TheVariants.{Bound, Offered, Barred}
use Rattle.slots.specs.Key.{key4_cmp}
use Rattle.slots.specs.KeyLaws.{key4_is_key}
use Rattle.slots.specs.Maps.{Lease, address_of}
use Rattle.slots.specs.Slots.{bound_to, offered_to, barred_until, bars_of, leases, AreDistinct}
use Rattle.slots.proofs.ShownLemmas.{Lessee, at, not_true, same_is, live_slots, distinct_live, hits, bound_sort, offered_sort, hit, got, get-leases, get-live_clients, get-live_bars, bars_below, bars_at, split}
use Rattle.slots.proofs.WriteLemmas.{other_sort}
use Rattle.types.specs.Addr.{number4}
use Rattle.bindings_v4.specs.Book4.{Book4, book4_at}
use Rattle.bindings_v4.specs.IsBook4.{Entry, TheBinding, TheOffer, TheBar, Names, IsBook4}
use Rattle.bindings_v4.specs.Slots4.{Holders4, PoolSlots, book_of_slots, book4_of}
use Rattle.bindings_v4.proofs.LaterBook.{kept_is_live, bar_is_live}
use Rattle.bindings_v4.proofs.ShownLemmas.{shown}

-- ---- whose entry a slot is

-- a slot makes this entry
abbrev Makes : Option (Holder (List ℕ)) → Entry → Type 0
Makes s (TheBinding q) = hits bytes_eq q (bound_to s) ≡ true
Makes s (TheOffer q) = hits bytes_eq q (offered_to s) ≡ true
Makes s TheBar = is_some (barred_until s) ≡ true

one_entry : (s : Option (Holder (List ℕ))) (x y : Entry) → Makes s x → Makes s y → x ≡ y
one_entry None (TheBinding q) y f g = absurd (not_true f)
one_entry None (TheOffer q) y f g = absurd (not_true f)
one_entry None TheBar y f g = absurd (not_true f)
one_entry (Some (Bound k u)) (TheBinding q) (TheBinding p) f g = ap TheBinding (same_is key4_is_key q k f ∙ sym (same_is key4_is_key p k g))
one_entry (Some (Bound k u)) (TheBinding q) (TheOffer p) f g = absurd (not_true g)
one_entry (Some (Bound k u)) (TheBinding q) TheBar f g = absurd (not_true g)
one_entry (Some (Bound k u)) (TheOffer q) y f g = absurd (not_true f)
one_entry (Some (Bound k u)) TheBar y f g = absurd (not_true f)
one_entry (Some (Offered k u)) (TheOffer q) (TheOffer p) f g = ap TheOffer (same_is key4_is_key q k f ∙ sym (same_is key4_is_key p k g))
one_entry (Some (Offered k u)) (TheOffer q) (TheBinding p) f g = absurd (not_true g)
one_entry (Some (Offered k u)) (TheOffer q) TheBar f g = absurd (not_true g)
one_entry (Some (Offered k u)) (TheBinding q) y f g = absurd (not_true f)
one_entry (Some (Offered k u)) TheBar y f g = absurd (not_true f)
one_entry (Some (Barred u)) TheBar TheBar f g = refl
one_entry (Some (Barred u)) TheBar (TheBinding p) f g = absurd (not_true g)
one_entry (Some (Barred u)) TheBar (TheOffer p) f g = absurd (not_true g)
one_entry (Some (Barred u)) (TheBinding q) y f g = absurd (not_true f)
one_entry (Some (Barred u)) (TheOffer q) y f g = absurd (not_true f)

-- the slot of an address that a client has
abbrev IsFound : (Option (Holder (List ℕ)) → Lessee (List ℕ)) → List ℕ → ℕ → ℕ → Holders4 → Type 0
IsFound f q a x ss = (i : ℕ) × (x ≡ a + i) × (hits bytes_eq q (f (get_or ss i None)) ≡ true)

found_later : (f : Option (Holder (List ℕ)) → Lessee (List ℕ)) (q : List ℕ) (a x : ℕ) (s : Option (Holder (List ℕ))) (ss : Holders4) → IsFound f q (a + 1) x ss → IsFound f q a x (s ∷ ss)
found_later f q a x s ss p = (suc p.0, omega (arith, p.1), p.2)

found_here : (f : Option (Holder (List ℕ)) → Lessee (List ℕ)) (q : List ℕ) (a x : ℕ) (s : Option (Holder (List ℕ))) (ss : Holders4) (l : List ℕ × ℕ) → f s ≡ Some l → (r : Bool) → bytes_eq q l.0 ≡ r
    → address_of (cond r (Some (at a l.1)) (got bytes_eq f q (a + 1) ss)) ≡ Some x → (address_of (got bytes_eq f q (a + 1) ss) ≡ Some x → IsFound f q (a + 1) x ss) → IsFound f q a x (s ∷ ss)
found_here f q a x s ss l is true same e rest =
    let first : a ≡ x = cc in
    (0, omega (arith, first), ap (hits bytes_eq q) is ∙ same)
found_here f q a x s ss l is false same e rest = found_later f q a x s ss (rest e)

got_at : (f : Option (Holder (List ℕ)) → Lessee (List ℕ)) (q : List ℕ) (a x : ℕ) (ss : Holders4) → address_of (got bytes_eq f q a ss) ≡ Some x → IsFound f q a x ss
got_at f q a x [] e = absurd cc
got_at f q a x (s ∷ ss) e = by (f s) refl e (got_at f q (a + 1) x ss) where
  by : (l : Lessee (List ℕ)) → f s ≡ l → address_of (hit bytes_eq q a l (got bytes_eq f q (a + 1) ss)) ≡ Some x → (address_of (got bytes_eq f q (a + 1) ss) ≡ Some x → IsFound f q (a + 1) x ss) → IsFound f q a x (s ∷ ss)
  by None is e rest = found_later f q a x s ss (rest e)
  by (Some l) is e rest = found_here f q a x s ss l is (bytes_eq q l.0) refl e rest

bar_at : (a x : ℕ) (ss : Holders4) → is_some (get (bars_of a ss) x) ≡ true → (i : ℕ) × (x ≡ a + i) × (is_some (barred_until (get_or ss i None)) ≡ true)
bar_at a x ss e = by (ltb x a) refl where
  by : (b : Bool) → ltb x a ≡ b → (i : ℕ) × (x ≡ a + i) × (is_some (barred_until (get_or ss i None)) ≡ true)
  by true is = absurd (not_true (sym (ap is_some (bars_below x a ss (ltb-true x a is))) ∙ e))
  by false is = (x - a, split a x is, ap is_some (sym (bars_at a (x - a) ss)) ∙ ap (λ n. is_some (get (bars_of a ss) n)) (sym (split a x is)) ∙ e)

named_at : (a : ℕ) (ss : Holders4) (n : ℕ) (x : Entry) → Names (book_of_slots a ss) n x → (i : ℕ) × (n ≡ a + i) × Makes (get_or ss i None) x
named_at a ss n (TheBinding q) e = got_at bound_to q a n ss (ap address_of (sym (get-leases key4_is_key bound_to q a ss)) ∙ e)
named_at a ss n (TheOffer q) e = got_at offered_to q a n ss (ap address_of (sym (get-leases key4_is_key offered_to q a ss)) ∙ e)
named_at a ss n TheBar e = bar_at a n ss e

named_once : (a : ℕ) (ss : Holders4) (n : ℕ) (x y : Entry) → Names (book_of_slots a ss) n x → Names (book_of_slots a ss) n y → x ≡ y
named_once a ss n x y f g =
    let p = named_at a ss n x f in
    let r = named_at a ss n y g in
    let same : p.0 ≡ r.0 = omega (arith, p.1, r.1) in
    one_entry (get_or ss r.0 None) x y (subst (λ i. Makes (get_or ss i None) x) same p.2) r.2

-- ---- a client has one slot

bound_only : (q : List ℕ) (s : Option (Holder (List ℕ))) → hits bytes_eq q (bound_to s) ≡ true → hits bytes_eq q (offered_to s) ≡ false
bound_only q None e = refl
bound_only q (Some (Bound k u)) e = refl
bound_only q (Some (Offered k u)) e = absurd (not_true e)
bound_only q (Some (Barred u)) e = refl

apart_slots : (a : ℕ) (ss : Holders4) → AreDistinct bytes_eq ss → (q : List ℕ) → IfSome (get (leases key4_cmp bound_to a ss) q) (λ lease. get (leases key4_cmp offered_to a ss) q ≡ None)
apart_slots a ss d q = by (get (leases key4_cmp bound_to a ss) q) refl where
  by : (o : Option Lease) → get (leases key4_cmp bound_to a ss) q ≡ o → IfSome o (λ lease. get (leases key4_cmp offered_to a ss) q ≡ None)
  by None is = tt
  by (Some lease) is =
      let p = got_at bound_to q a lease.address ss (ap address_of (sym (get-leases key4_is_key bound_to q a ss) ∙ is)) in
      let s = get_or ss p.0 None in
      get-leases key4_is_key offered_to q a ss ∙ other_sort key4_is_key offered_to (offered_sort key4_is_key) q a p.0 ss d ((bound_sort key4_is_key).own q s p.2) (bound_only q s p.2)

-- ---- the book

pub slots_show_a_book : (t : ℕ) (v : PoolSlots) → AreDistinct bytes_eq v.slots → IsBook4 t (book4_of t v)
unfolding book4_at
slots_show_a_book t v distinct =
    let a = number4 v.pool.first in
    let b = book_of_slots a v.slots in
    let ls = live_slots t v.slots in
    let e : book4_of t v ≡ book_of_slots a ls = shown a t v.slots distinct in
    record {
      bindings = λ q. subst (λ o. IfSome o (λ (lease : Lease). t < lease.until)) (sym (get-live_clients key4_is_key t b.bindings q)) (kept_is_live t (get b.bindings q));
      offers = λ q. subst (λ o. IfSome o (λ (lease : Lease). t < lease.until)) (sym (get-live_clients key4_is_key t b.offers q)) (kept_is_live t (get b.offers q));
      bars = λ x. subst (λ o. IfSome o (λ until. t < until)) (sym (get-live_bars t b.bars x)) (bar_is_live t (get b.bars x));
      once = λ n x y f g. named_once a ls n x y (subst (λ (c : Book4). Names c n x) e f) (subst (λ (c : Book4). Names c n y) e g);
      apart = λ q.
          subst (λ (c : Book4). IfSome (get c.bindings q) (λ (lease : Lease). get c.offers q ≡ None)) (sym e) (apart_slots a ls (distinct_live key4_is_key t v.slots distinct) q);
    }
