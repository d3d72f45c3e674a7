-- What slots show is a book.
use Rattle.std.proofs.Common.{◌≡◌, ℕ, suc, ◌+◌, ◌-◌, ◌<◌, Bool, true, false, cond, [], ◌∷◌, map, get_or, ltb, refl, sym, ap, subst, ◌∙◌, arith}
use borrow.Author.Tests.{ltb-true}
use Rattle.std.specs.Prelude.{Option, Some, None, IfSome, is_some}
use Rattle.std.specs.FinMap.{get}
use Rattle.slots.specs.declared.holder.Holder.{Holder}
use Rattle.slots.specs.declared.holder.Holder.TheVariants.{Bound, Offered, Barred}
use Rattle.slots.specs.KeyLaws.{key6_is_key}
use Rattle.slots.specs.Maps.{Lease, address_of}
use Rattle.slots.specs.Slots.{bound_to, barred_until, bars_of, AreDistinct}
use Rattle.slots.proofs.FormLemmas.{held, held_distinct}
use Rattle.slots.proofs.ShownLemmas.{Lessee, at, not_true, same_is, live_slots, hits, hit, got, get-leases, get-live_clients, get-live_bars, bars_below, bars_at, split}
use Rattle.types.specs.Addr.{number6}
use Rattle.types.specs.Key6.{Key6Value, same_key6}
use Rattle.types.specs.Pool6.{Pool6Value}
use Rattle.types.specs.Slots.{live6, none_twice, same_client6}
use Rattle.types.specs.declared.slots.Slots.{Slots as RegionSlots}
use Rattle.bindings_v6.specs.Book6.{Book6, book6_at}
use Rattle.bindings_v6.specs.IsBook6.{Entry, TheBinding, TheBar, Names, IsBook6}
use Rattle.bindings_v6.specs.Kept6.{book6_in}
use Rattle.bindings_v6.specs.Slots6.{Holders6, PoolSlots, book_of_slots, book6_of}
use Rattle.bindings_v6.proofs.KeptLemmas.{form6}
use Rattle.bindings_v6.proofs.LaterBook.{kept_is_live, bar_is_live}
use Rattle.bindings_v6.proofs.ShownLemmas.{shown}

-- ---- whose entry a slot is

-- a slot makes this entry
abbrev Makes : Option (Holder Key6Value) → Entry → Type 0
Makes s (TheBinding q) = hits same_key6 q (bound_to s) ≡ true
Makes s TheBar = is_some (barred_until s) ≡ true

one_entry : (s : Option (Holder Key6Value)) (x y : Entry) → Makes s x → Makes s y → x ≡ y
one_entry None (TheBinding q) y f g = absurd (not_true f)
one_entry None TheBar y f g = absurd (not_true f)
one_entry (Some (Bound k u)) (TheBinding q) (TheBinding p) f g = ap TheBinding (same_is key6_is_key q k f ∙ sym (same_is key6_is_key p k g))
one_entry (Some (Bound k u)) (TheBinding q) TheBar f g = absurd (not_true g)
one_entry (Some (Bound k u)) TheBar y f g = absurd (not_true f)
one_entry (Some (Offered k u)) (TheBinding q) y f g = absurd (not_true f)
one_entry (Some (Offered k u)) TheBar y f g = absurd (not_true f)
one_entry (Some (Barred u)) TheBar TheBar f g = refl
one_entry (Some (Barred u)) TheBar (TheBinding p) f g = absurd (not_true g)
one_entry (Some (Barred u)) (TheBinding q) y f g = absurd (not_true f)

-- the slot of an address that a client has
abbrev IsFound : Key6Value → ℕ → ℕ → Holders6 → Type 0
IsFound q a x ss = (i : ℕ) × (x ≡ a + i) × (hits same_key6 q (bound_to (get_or ss i None)) ≡ true)

found_later : (q : Key6Value) (a x : ℕ) (s : Option (Holder Key6Value)) (ss : Holders6) → IsFound q (a + 1) x ss → IsFound q a x (s ∷ ss)
found_later q a x s ss p = (suc p.0, omega (arith, p.1), p.2)

found_here : (q : Key6Value) (a x : ℕ) (s : Option (Holder Key6Value)) (ss : Holders6) (l : Key6Value × ℕ) → bound_to s ≡ Some l → (r : Bool) → same_key6 q l.0 ≡ r
    → address_of (cond r (Some (at a l.1)) (got same_key6 bound_to q (a + 1) ss)) ≡ Some x
    → (address_of (got same_key6 bound_to q (a + 1) ss) ≡ Some x → IsFound q (a + 1) x ss) → IsFound q a x (s ∷ ss)
found_here q a x s ss l is true same e rest =
    let first : a ≡ x = cc in
    (0, omega (arith, first), ap (hits same_key6 q) is ∙ same)
found_here q a x s ss l is false same e rest = found_later q a x s ss (rest e)

got_at : (q : Key6Value) (a x : ℕ) (ss : Holders6) → address_of (got same_key6 bound_to q a ss) ≡ Some x → IsFound q a x ss
got_at q a x [] e = absurd cc
got_at q a x (s ∷ ss) e = by (bound_to s) refl e (got_at q (a + 1) x ss) where
  by : (l : Lessee Key6Value) → bound_to s ≡ l → address_of (hit same_key6 q a l (got same_key6 bound_to q (a + 1) ss)) ≡ Some x
      → (address_of (got same_key6 bound_to q (a + 1) ss) ≡ Some x → IsFound q (a + 1) x ss) → IsFound q a x (s ∷ ss)
  by None is e rest = found_later q a x s ss (rest e)
  by (Some l) is e rest = found_here q a x s ss l is (same_key6 q l.0) refl e rest

bar_at : (a x : ℕ) (ss : Holders6) → is_some (get (bars_of a ss) x) ≡ true → (i : ℕ) × (x ≡ a + i) × (is_some (barred_until (get_or ss i None)) ≡ true)
bar_at a x ss e = by (ltb x a) refl where
  by : (b : Bool) → ltb x a ≡ b → (i : ℕ) × (x ≡ a + i) × (is_some (barred_until (get_or ss i None)) ≡ true)
  by true is = absurd (not_true (sym (ap is_some (bars_below x a ss (ltb-true x a is))) ∙ e))
  by false is = (x - a, split a x is, ap is_some (sym (bars_at a (x - a) ss)) ∙ ap (λ n. is_some (get (bars_of a ss) n)) (sym (split a x is)) ∙ e)

named_at : (a : ℕ) (ss : Holders6) (n : ℕ) (x : Entry) → Names (book_of_slots a ss) n x → (i : ℕ) × (n ≡ a + i) × Makes (get_or ss i None) x
named_at a ss n (TheBinding q) e = got_at q a n ss (ap address_of (sym (get-leases key6_is_key bound_to q a ss)) ∙ e)
named_at a ss n TheBar e = bar_at a n ss e

named_once : (a : ℕ) (ss : Holders6) (n : ℕ) (x y : Entry) → Names (book_of_slots a ss) n x → Names (book_of_slots a ss) n y → x ≡ y
named_once a ss n x y f g =
    let p = named_at a ss n x f in
    let r = named_at a ss n y g in
    let same : p.0 ≡ r.0 = omega (arith, p.1, r.1) in
    one_entry (get_or ss r.0 None) x y (subst (λ i. Makes (get_or ss i None) x) same p.2) r.2

pub slots_show_a_book : (t : ℕ) (v : PoolSlots) → AreDistinct same_key6 v.slots → IsBook6 t (book6_of t v)
unfolding book6_at
slots_show_a_book t v distinct =
    let a = number6 v.pool.first in
    let b = book_of_slots a v.slots in
    let ls = live_slots t v.slots in
    let e : book6_of t v ≡ book_of_slots a ls = shown a t v.slots distinct in
    record {
      bindings = λ q. subst (λ o. IfSome o (λ (lease : Lease). t < lease.until)) (sym (get-live_clients key6_is_key t b.bindings q)) (kept_is_live t (get b.bindings q));
      bars = λ x. subst (λ o. IfSome o (λ until. t < until)) (sym (get-live_bars t b.bars x)) (bar_is_live t (get b.bars x));
      once = λ n x y f g. named_once a ls n x y (subst (λ (c : Book6). Names c n x) e f) (subst (λ (c : Book6). Names c n y) e g);
    }

pub begun_is_a_book : (pool : Pool6Value) (slots : RegionSlots) → none_twice same_client6 (map (live6 slots.clock) slots.six) ≡ true → IsBook6 slots.clock (book6_in pool slots)
begun_is_a_book pool slots once =
    slots_show_a_book slots.clock (record { pool = pool; slots = map (held form6 slots.clock) slots.six }) (held_distinct form6 key6_is_key slots.clock slots.six once)
