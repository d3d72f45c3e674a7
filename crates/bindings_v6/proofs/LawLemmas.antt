-- What is true of every decision, over maps alone.
use Rattle.std.proofs.Common.{◌≡◌, ◌⊎◌, inl, inr, ℕ, ◌+◌, ◌<◌, Bool, true, false, not, ◌&&◌, ◌||◌, cond, eqb, List, [], ◌∷◌, map, refl, sym, ap, subst, ◌∙◌, arith, eq-eqb}
use Rattle.std.specs.Prelude.{Option, Some, None, Ok, Err, Result, IfSome, ◌==◌, is_some}
use Rattle.std.specs.List.{list_any, find, range_with_len}
use Rattle.std.specs.Ordering.{nat_cmp, eq_by_cmp, is_eq}
use Rattle.std.specs.Cmp.{nat_cmp_total}
use Rattle.std.specs.FinMap.{get, insert, remove, contains_key, entries, get-entries, get-insert, get-remove}
use Rattle.std.specs.FinMap.Entries as entry
use Rattle.std.proofs.lemmas.Bool.Decides.{nat_tests}
use Rattle.std.specs.Option.{option_or}
use Rattle.slots.specs.Key.{key6_cmp}
use Rattle.slots.specs.KeyLaws.{key6_is_key}
use Rattle.slots.specs.Maps.{Lease, Clients, names, address_of}
use Rattle.slots.proofs.ShownLemmas.{not_true, at, same_is, itself}
use Rattle.types.specs.Addr.{number6, addr6}
use Rattle.types.specs.Key6.{Key6Value, same_key6}
use Rattle.types.specs.Pool6.{IsPool6, Pool6Value}
use Rattle.types.specs.declared.addr.Addr6.{Addr6}
use Rattle.types.specs.declared.discard.Discard.{Discard}
use Rattle.types.specs.declared.discard.Discard.TheVariants as reason
use Rattle.types.specs.declared.kind6.Kind6.{Kind6}
use Rattle.types.specs.declared.kind6.Kind6.TheVariants.{Solicit, Request, Confirm, Renew, Rebind, Release, Decline}
use Rattle.exchange.specs.declared.request6.Reply6.{Reply6}
use Rattle.exchange.specs.declared.request6.ReplyIa.{ReplyIa}
use Rattle.exchange.specs.declared.request6.ReplyIa.TheVariants as reply_ia
use Rattle.exchange.specs.declared.request6.ReplyKind6.{ReplyKind6}
use Rattle.exchange.specs.declared.request6.ReplyKind6.TheVariants.{Advertise, Reply}
use Rattle.exchange.specs.declared.request6.Request6.{Request6}
use Rattle.exchange.specs.declared.request6.Status6.{Status6}
use Rattle.exchange.specs.declared.request6.Status6.TheVariants.{Success, NoAddrsAvail, NoBinding, NotOnLink}
use Rattle.bindings_v6.specs.Book6.{Book6, in_pool, is_free, lowest_free, where_free, pick}
use Rattle.bindings_v6.specs.IsBook6.{Entry, TheBinding, TheBar, Names, IsBook6, LeavesABook, KeepsOthers, ChangesNothing, GrantsItsOwn, RenewsInTime}
use Rattle.slots.specs.Row.{Change, Unchanged, Offers, Withdraws, Binds, Bars, Frees, is_kept, Row, replies, drops}
use Rattle.bindings_v6.specs.Table6.{with_change, refusal, assignment, message_status, grants, others, no_binding, solicit_row, request_row, renew_row, confirm_row, release_row, decline_row, is_off_link, where_listed, first_listed, lookup_in, row_of, is_for_us, row6, answer6}

-- ---- maps with one client changed

get_insert : (m : Clients key6_cmp) (k : Key6Value) (l : Lease) (q : Key6Value) → get (insert m k l) q ≡ cond (same_key6 q k) (Some l) (get m q)
get_insert m k l q = get-insert key6_is_key.total m k l q ∙ ap (λ b. cond b (Some l) (get m q)) (key6_is_key.agrees q k)

get_remove : (m : Clients key6_cmp) (k q : Key6Value) → get (remove m k) q ≡ cond (same_key6 q k) None (get m q)
get_remove m k q = get-remove key6_is_key.total m k q ∙ ap (λ b. cond b None (get m q)) (key6_is_key.agrees q k)

apart_is : (q k : Key6Value) → (q ≡ k → ⊥) → same_key6 q k ≡ false
apart_is q k other = by (same_key6 q k) refl where
  by : (b : Bool) → same_key6 q k ≡ b → same_key6 q k ≡ false
  by true is = absurd (other (same_is key6_is_key q k is))
  by false is = is

-- ---- no decision changes another client's binding

pub kept_apart : (k q : Key6Value) → same_key6 q k ≡ false → (c : Change) (b : Book6) → get (with_change k c b).bindings q ≡ get b.bindings q
kept_apart k q apart Unchanged b = refl
kept_apart k q apart (Offers a u) b = refl
kept_apart k q apart (Withdraws a) b = refl
kept_apart k q apart (Binds a u) b = get_insert b.bindings k (at a u) q ∙ ap (λ r. cond r (Some (at a u)) (get b.bindings q)) apart
kept_apart k q apart (Bars a u) b = get_remove b.bindings k q ∙ ap (λ r. cond r None (get b.bindings q)) apart
kept_apart k q apart (Frees a) b = get_remove b.bindings k q ∙ ap (λ r. cond r None (get b.bindings q)) apart

pub others_stay : (pool : Pool6Value) (t : ℕ) (m : Request6) → KeepsOthers pool t m
unfolding answer6
others_stay pool t m b q other = kept_apart m.key q (apart_is q m.key other) (row6 pool t b m).change b

-- ---- what is not kept changes nothing

nothing_changed : (k : Key6Value) (c : Change) (b : Book6) → is_kept c ≡ false → with_change k c b ≡ b
nothing_changed k Unchanged b e = refl
nothing_changed k (Offers a u) b e = refl
nothing_changed k (Withdraws a) b e = refl
nothing_changed k (Binds a u) b e = absurd (not_true (sym e))
nothing_changed k (Bars a u) b e = absurd (not_true (sym e))
nothing_changed k (Frees a) b e = absurd (not_true (sym e))

pub same_unless_kept : (pool : Pool6Value) (t : ℕ) (m : Request6) → ChangesNothing pool t m
unfolding answer6
same_unless_kept pool t m b e = nothing_changed m.key (row6 pool t b m).change b e

-- ---- renewing

pub bound_after : (k : Key6Value) (a u : ℕ) (b : Book6) → get (with_change k (Binds a u) b).bindings k ≡ Some (at a u)
bound_after k a u b = get_insert b.bindings k (at a u) k ∙ ap (λ r. cond r (Some (at a u)) (get b.bindings k)) (itself key6_is_key k)

abbrev pub OfRow : Pool6Value → ℕ → Book6 → Request6 → Kind6 → Row Reply6
OfRow pool t b m kind = row_of pool t (lookup_in pool b m) m.listed.items kind

renewed_kind : (pool : Pool6Value) (t : ℕ) (b : Book6) (m : Request6) (address : ℕ) → (m.kind ≡ Renew) ⊎ (m.kind ≡ Rebind)
    → OfRow pool t b m m.kind ≡ renew_row (t + pool.lease) m.listed.items (lookup_in pool b m).binding
renewed_kind pool t b m address (inl kind) = ap (OfRow pool t b m) kind
renewed_kind pool t b m address (inr kind) = ap (OfRow pool t b m) kind

pub renewed : (pool : Pool6Value) (t : ℕ) (m : Request6) → RenewsInTime pool t m
unfolding answer6
renewed pool t m b address kind ours bound =
    let row : row6 pool t b m ≡ grants (others address m.listed.items) address (t + pool.lease) =
    ap (λ r. cond r (OfRow pool t b m m.kind) (drops reason.OtherServer Unchanged)) ours
    ∙ renewed_kind pool t b m address kind ∙ ap (renew_row (t + pool.lease) m.listed.items) bound in
    (ap (λ (r : Row Reply6). r.answer) row, ap (λ (r : Row Reply6). get (with_change m.key r.change b).bindings m.key) row ∙ bound_after m.key address (t + pool.lease) b)

-- ---- a book in which a client has one new entry, or none

data New : Type 0 where
  NoNew : New
  NewBinding : ℕ → ℕ → New
  NewBar : ℕ → ℕ → New

abbrev new_binding : New → Option Lease
new_binding NoNew = None
new_binding (NewBinding a u) = Some (at a u)
new_binding (NewBar a u) = None

abbrev new_bar : New → ℕ → Option ℕ → Option ℕ
new_bar NoNew x rest = rest
new_bar (NewBinding a u) x rest = rest
new_bar (NewBar a u) x rest = cond (eq_by_cmp nat_cmp x a) (Some u) rest

record IsNew (k : Key6Value) (new : New) (b after : Book6) : Type 0 where
  bindings : (q : Key6Value) → get after.bindings q ≡ cond (same_key6 q k) (new_binding new) (get b.bindings q)
  bars : (x : ℕ) → get after.bars x ≡ new_bar new x (get b.bars x)

-- nobody but the client has this address
abbrev IsOwn : Key6Value → Book6 → ℕ → Type 0
IsOwn k b a = (x : Entry) → Names b a x → x ≡ TheBinding k

abbrev Suits : ℕ → Key6Value → Book6 → New → Type 0
Suits t k b NoNew = Unit {0}
Suits t k b (NewBinding a u) = IsOwn k b a × (t < u)
Suits t k b (NewBar a u) = IsOwn k b a × (t < u)

-- the new entry
abbrev IsFresh : Key6Value → New → ℕ → Entry → Type 0
IsFresh k NoNew a x = ⊥
IsFresh k (NewBinding n u) a x = (a ≡ n) × (x ≡ TheBinding k)
IsFresh k (NewBar n u) a x = (a ≡ n) × (x ≡ TheBar)

fresh_binding : (k q : Key6Value) (new : New) (a : ℕ) → same_key6 q k ≡ true → address_of (new_binding new) ≡ Some a → IsFresh k new a (TheBinding q)
fresh_binding k q NoNew a same e = absurd cc
fresh_binding k q (NewBinding n u) a same e = ((let is : n ≡ a = cc in sym is), ap TheBinding (same_is key6_is_key q k same))
fresh_binding k q (NewBar n u) a same e = absurd cc

other_key : (q k : Key6Value) → same_key6 q k ≡ false → q ≡ k → ⊥
other_key q k apart e = not_true (sym apart ∙ ap (same_key6 q) (sym e) ∙ itself key6_is_key q)

other_binding : (q k : Key6Value) → same_key6 q k ≡ false → TheBinding q ≡ TheBinding k → ⊥
other_binding q k apart e = let is : q ≡ k = cc in other_key q k apart is

no_client : (k : Key6Value) → TheBar ≡ TheBinding k → ⊥
no_client k e = absurd cc

origin_bar : (k : Key6Value) (new : New) (b : Book6) (a : ℕ) → is_some (new_bar new a (get b.bars a)) ≡ true → IsFresh k new a TheBar ⊎ (Names b a TheBar × (TheBar ≡ TheBinding k → ⊥))
origin_bar k NoNew b a e = inr (e, no_client k)
origin_bar k (NewBinding n u) b a e = inr (e, no_client k)
origin_bar k (NewBar n u) b a e = by (eq_by_cmp nat_cmp a n) refl e where
  by : (r : Bool) → eq_by_cmp nat_cmp a n ≡ r → is_some (cond r (Some u) (get b.bars a)) ≡ true → ((a ≡ n) × (TheBar ≡ TheBar)) ⊎ (Names b a TheBar × (TheBar ≡ TheBinding k → ⊥))
  by true is e = inl ((let same : a ≡ n = grind (arith, nat_tests) in same), refl)
  by false is e = inr (e, no_client k)

-- an entry is the new one, or one that another had
origin : (k : Key6Value) (new : New) (b after : Book6) → IsNew k new b after → (a : ℕ) (x : Entry) → Names after a x → IsFresh k new a x ⊎ (Names b a x × (x ≡ TheBinding k → ⊥))
origin k new b after is a (TheBinding q) e = by (same_key6 q k) refl (ap address_of (sym (is.bindings q)) ∙ e) where
  by : (r : Bool) → same_key6 q k ≡ r → address_of (cond r (new_binding new) (get b.bindings q)) ≡ Some a
      → IsFresh k new a (TheBinding q) ⊎ (Names b a (TheBinding q) × (TheBinding q ≡ TheBinding k → ⊥))
  by true same e = inl (fresh_binding k q new a same e)
  by false apart e = inr (e, other_binding q k apart)
origin k new b after is a TheBar e = origin_bar k new b a (ap is_some (sym (is.bars a)) ∙ e)

same_fresh : (k : Key6Value) (new : New) (a : ℕ) (x y : Entry) → IsFresh k new a x → IsFresh k new a y → x ≡ y
same_fresh k NoNew a x y f g = absurd f
same_fresh k (NewBinding n u) a x y f g = f.1 ∙ sym g.1
same_fresh k (NewBar n u) a x y f g = f.1 ∙ sym g.1

fresh_own : (t : ℕ) (k : Key6Value) (new : New) (b : Book6) (a : ℕ) (x y : Entry) → Suits t k b new → IsFresh k new a x → Names b a y → y ≡ TheBinding k
fresh_own t k NoNew b a x y suits f old = absurd f
fresh_own t k (NewBinding n u) b a x y suits f old = suits.0 y (subst (λ z. Names b z y) f.0 old)
fresh_own t k (NewBar n u) b a x y suits f old = suits.0 y (subst (λ z. Names b z y) f.0 old)

live_binding : (t : ℕ) (k : Key6Value) (new : New) (b : Book6) → Suits t k b new → IfSome (new_binding new) (λ lease. t < lease.until)
live_binding t k NoNew b suits = tt
live_binding t k (NewBinding n u) b suits = suits.1
live_binding t k (NewBar n u) b suits = tt

live_bar : (t : ℕ) (k : Key6Value) (new : New) (b : Book6) (x : ℕ) → Suits t k b new → IfSome (get b.bars x) (λ until. t < until) → IfSome (new_bar new x (get b.bars x)) (λ until. t < until)
live_bar t k NoNew b x suits old = old
live_bar t k (NewBinding n u) b x suits old = old
live_bar t k (NewBar n u) b x suits old = by (eq_by_cmp nat_cmp x n) where
  by : (r : Bool) → IfSome (cond r (Some u) (get b.bars x)) (λ until. t < until)
  by true = suits.1
  by false = old

with_new : (t : ℕ) (k : Key6Value) (new : New) (b after : Book6) → IsBook6 t b → IsNew k new b after → Suits t k b new → IsBook6 t after
with_new t k new b after book is suits =
    record {
      bindings = λ q. subst (λ o. IfSome o (λ (lease : Lease). t < lease.until)) (sym (is.bindings q)) (by_binding q (same_key6 q k));
      bars = λ x. subst (λ o. IfSome o (λ until. t < until)) (sym (is.bars x)) (live_bar t k new b x suits (book.bars x));
      once = λ a x y f g. by_origin a x y (origin k new b after is a x f) (origin k new b after is a y g);
    } where
      by_binding : (q : Key6Value) (r : Bool) → IfSome (cond r (new_binding new) (get b.bindings q)) (λ lease. t < lease.until)
      by_binding q true = live_binding t k new b suits
      by_binding q false = book.bindings q

      by_origin : (a : ℕ) (x y : Entry) → IsFresh k new a x ⊎ (Names b a x × (x ≡ TheBinding k → ⊥)) → IsFresh k new a y ⊎ (Names b a y × (y ≡ TheBinding k → ⊥)) → x ≡ y
      by_origin a x y (inl f) (inl g) = same_fresh k new a x y f g
      by_origin a x y (inl f) (inr old) = absurd (old.1 (fresh_own t k new b a x y suits f old.0))
      by_origin a x y (inr old) (inl g) = absurd (old.1 (fresh_own t k new b a y x suits g old.0))
      by_origin a x y (inr old) (inr older) = book.once a x y old.0 older.0

-- ---- each change leaves a book

no_address : (o : Option Lease) → address_of o ≡ None → o ≡ None
no_address None e = refl
no_address (Some x) e = absurd cc

module _ (t : ℕ) (b : Book6) (book : IsBook6 t b) (k : Key6Value) where
  own_bound : (a : ℕ) → address_of (get b.bindings k) ≡ Some a → IsOwn k b a
  own_bound a e x named = book.once a x (TheBinding k) named e

  abbrev FitsChange : Change → Type 0
  FitsChange Unchanged = Unit {0}
  FitsChange (Offers a u) = Unit {0}
  FitsChange (Withdraws a) = Unit {0}
  FitsChange (Binds a u) = IsOwn k b a × (t < u)
  FitsChange (Bars a u) = (address_of (get b.bindings k) ≡ Some a) × (t < u)
  FitsChange (Frees a) = address_of (get b.bindings k) ≡ Some a

  change_book : (c : Change) → FitsChange c → IsBook6 t (with_change k c b)
  change_book Unchanged fits = book
  change_book (Offers a u) fits = book
  change_book (Withdraws a) fits = book
  change_book (Binds a u) fits =
      with_new t k (NewBinding a u) b (with_change k (Binds a u) b) book (record { bindings = get_insert b.bindings k (at a u); bars = λ x. refl }) fits
  change_book (Bars a u) fits =
      with_new t k (NewBar a u) b (with_change k (Bars a u) b) book
      (record { bindings = get_remove b.bindings k; bars = λ x. get-insert nat_cmp_total b.bars a u x }) (own_bound a fits.0, fits.1)
  change_book (Frees a) fits =
      with_new t k NoNew b (with_change k (Frees a) b) book (record { bindings = get_remove b.bindings k; bars = λ x. refl }) tt

-- ---- addresses that nobody has

find_test : (test : ℕ → Bool) (xs : List ℕ) (x : ℕ) → find test xs ≡ Some x → test x ≡ true
find_test test [] x e = absurd cc
find_test test (y ∷ ys) x e = by (test y) refl e (find_test test ys x) where
  by : (r : Bool) → test y ≡ r → cond r (Some y) (find test ys) ≡ Some x → (find test ys ≡ Some x → test x ≡ true) → test x ≡ true
  by true is e rest = let same : y ≡ x = cc in ap test (sym same) ∙ is
  by false is e rest = rest e

or_true : (b c : Bool) → c ≡ true → (b || c) ≡ true
or_true true c e = refl
or_true false c e = e

abbrev any_address : ℕ → List (Key6Value × Lease) → Bool
any_address a es = list_any (λ (lease : Lease). lease.address == a) (map (λ (e : Key6Value × Lease). e.1) es)

named_in : (q : Key6Value) (a : ℕ) (es : List (Key6Value × Lease)) → address_of (entry.find key6_cmp q es) ≡ Some a → any_address a es ≡ true
named_in q a [] e = absurd cc
named_in q a (x ∷ es) e = by (is_eq (key6_cmp q x.0)) e (named_in q a es) where
  by : (r : Bool) → address_of (cond r (Some x.1) (entry.find key6_cmp q es)) ≡ Some a
      → (address_of (entry.find key6_cmp q es) ≡ Some a → any_address a es ≡ true) → (eqb x.1.address a || any_address a es) ≡ true
  by true e rest =
      let same : x.1.address ≡ a = cc in
      ap (λ r. r || any_address a es) (eq-eqb x.1.address a same)
  by false e rest = or_true (eqb x.1.address a) (any_address a es) (rest e)

named : (m : Clients key6_cmp) (q : Key6Value) (a : ℕ) → address_of (get m q) ≡ Some a → names a m ≡ true
named m q a e = named_in q a (entries m) (ap address_of (sym (get-entries m q)) ∙ e)

free_parts : (i x y : Bool) → (i && not (x || y)) ≡ true → (x ≡ false) × (y ≡ false)
free_parts false x y e = absurd (not_true e)
free_parts true true y e = absurd (not_true e)
free_parts true false true e = absurd (not_true e)
free_parts true false false e = (refl, refl)

free_nobody : (pool : Pool6Value) (b : Book6) (a : ℕ) → is_free pool b a ≡ true → (x : Entry) → Names b a x → ⊥
free_nobody pool b a free x n = by x n (free_parts (in_pool pool a) (names a b.bindings) (contains_key b.bars a) free) where
  by : (x : Entry) → Names b a x → (names a b.bindings ≡ false) × (contains_key b.bars a ≡ false) → ⊥
  by (TheBinding q) n p = not_true (sym p.0 ∙ named b.bindings q a n)
  by TheBar n p = not_true (sym p.1 ∙ n)

wanted_free : (pool : Pool6Value) (b : Book6) (wanted : Option ℕ) (a : ℕ) → where_free pool b wanted ≡ Some a → is_free pool b a ≡ true
wanted_free pool b None a e = absurd cc
wanted_free pool b (Some w) a e = by (is_free pool b w) refl e where
  by : (r : Bool) → is_free pool b w ≡ r → cond r (Some w) None ≡ Some a → is_free pool b a ≡ true
  by true is e = let same : w ≡ a = cc in ap (is_free pool b) (sym same) ∙ is
  by false is e = absurd cc

-- ---- which answers lease an address

abbrev IsReply : ReplyKind6 → Type 0
IsReply Advertise = ⊥
IsReply Reply = Unit {0}

abbrev Gives : ReplyIa → Type 0
Gives reply_ia.None = ⊥
Gives (reply_ia.Status status) = ⊥
Gives (reply_ia.Given zeroed address) = Unit {0}

abbrev Leases : Result Reply6 Discard → Type 0
Leases (Ok reply) = IsReply reply.kind × Gives reply.ia
Leases (Err why) = ⊥

-- the address that is leased
abbrev leased_ia : ReplyIa → Addr6
leased_ia (reply_ia.Given zeroed address) = address
leased_ia ia = addr6 0

abbrev leased : Result Reply6 Discard → Addr6
leased (Ok reply) = leased_ia reply.ia
leased (Err why) = addr6 0

leases : (answer : Result Reply6 Discard) (zeroed : List Addr6) (x : ℕ) → answer ≡ Ok (assignment Reply zeroed x) → Leases answer
leases answer zeroed x e = subst Leases (sym e) (tt, tt)

-- ---- the rows

module _ (pool : Pool6Value) (limits : IsPool6 pool.first pool.count pool.lease) (t : ℕ) (b : Book6) (book : IsBook6 t b) (k : Key6Value) where
  abbrev bound : Option ℕ
  bound = address_of (get b.bindings k)

  abbrev end : ℕ
  end = t + pool.lease

  pick_own : (wanted : Option ℕ) (a : ℕ) → pick pool b k wanted ≡ Some a → IsOwn k b a
  pick_own wanted a e = by_bound bound refl e where
    by_wanted : (o : Option ℕ) → where_free pool b wanted ≡ o → option_or o (lowest_free pool b) ≡ Some a → IsOwn k b a
    by_wanted None is e x n = absurd (free_nobody pool b a (find_test (is_free pool b) (range_with_len (number6 pool.first) pool.count) a e) x n)
    by_wanted (Some w) is e x n = absurd (free_nobody pool b a (wanted_free pool b wanted a (is ∙ e)) x n)

    by_bound : (o : Option ℕ) → bound ≡ o → option_or o (option_or (where_free pool b wanted) (lowest_free pool b)) ≡ Some a → IsOwn k b a
    by_bound None is e = by_wanted (where_free pool b wanted) refl e
    by_bound (Some n) is e = own_bound t b book k a (is ∙ e)

  -- its change suits the book, and it grants nothing but what is the client's own
  abbrev RowFits : Row Reply6 → Type 0
  RowFits row =
      FitsChange t b book k row.change
      × ((zeroed : List Addr6) (x : ℕ) → row.answer ≡ Ok (assignment Reply zeroed x) → (n : ℕ) × (others : List Addr6) × (row ≡ grants others n end) × IsOwn k b n)

  dropped : (why : Discard) → RowFits (drops why Unchanged)
  dropped why = (tt, λ zeroed x e. absurd cc)

  refused : (status : Status6) → RowFits (replies (refusal Reply status) Unchanged)
  refused status = (tt, λ zeroed x e. absurd (leases _ zeroed x e).1)

  told : (status : Status6) (c : Change) → FitsChange t b book k c → RowFits (replies (message_status status) c)
  told status c fits = (fits, λ zeroed x e. absurd (leases _ zeroed x e).1)

  granted : (zeroed : List Addr6) (n : ℕ) → IsOwn k b n → RowFits (grants zeroed n end)
  granted zeroed n own = ((own, omega (arith, limits.shortest)), λ z x e. (n, zeroed, refl, own))

  solicited : (picked : Option ℕ) → RowFits (solicit_row picked)
  solicited (Some a) = (tt, λ zeroed x e. absurd (leases _ zeroed x e).0)
  solicited None = (tt, λ zeroed x e. absurd (leases _ zeroed x e).0)

  requested : (wanted picked : Option ℕ) (off : Bool) → pick pool b k wanted ≡ picked → RowFits (request_row end off picked)
  requested wanted picked true is = refused NotOnLink
  requested wanted (Some a) false is = granted [] a (pick_own wanted a is)
  requested wanted None false is = refused NoAddrsAvail

  extended : (listed : List Addr6) (held : Option ℕ) → bound ≡ held → RowFits (renew_row end listed held)
  extended listed (Some a) is = granted (others a listed) a (own_bound t b book k a is)
  extended listed None is = refused NoBinding

  confirmed : (listed : List Addr6) (off : Bool) → RowFits (confirm_row listed off)
  confirmed [] off = dropped reason.NothingToSay
  confirmed (x ∷ xs) true = told NotOnLink Unchanged tt
  confirmed (x ∷ xs) false = told Success Unchanged tt

  unbound : RowFits no_binding
  unbound = (tt, λ zeroed x e. absurd (leases _ zeroed x e).1)

  released : (held : Option ℕ) (listed : Bool) → bound ≡ held → RowFits (release_row held listed)
  released (Some a) true is = told Success (Frees a) is
  released (Some a) false is = told Success Unchanged tt
  released None listed is = unbound

  declined : (held : Option ℕ) (listed : Bool) → bound ≡ held → RowFits (decline_row t held listed)
  declined (Some a) true is = told Success (Bars a (t + 3600)) (is, omega arith)
  declined (Some a) false is = told Success Unchanged tt
  declined None listed is = unbound

module _ (pool : Pool6Value) (limits : IsPool6 pool.first pool.count pool.lease) (t : ℕ) (m : Request6) (b : Book6) (book : IsBook6 t b) where
  kind_fits : (kind : Kind6) → RowFits pool limits t b book m.key (OfRow pool t b m kind)
  kind_fits Solicit = solicited pool limits t b book m.key _
  kind_fits Request = requested pool limits t b book m.key (first_listed m.listed.items) _ (is_off_link pool m.listed.items) refl
  kind_fits Renew = extended pool limits t b book m.key m.listed.items _ refl
  kind_fits Rebind = extended pool limits t b book m.key m.listed.items _ refl
  kind_fits Confirm = confirmed pool limits t b book m.key m.listed.items (is_off_link pool m.listed.items)
  kind_fits Release = released pool limits t b book m.key _ (where_listed m.listed.items (lookup_in pool b m).binding) refl
  kind_fits Decline = declined pool limits t b book m.key _ (where_listed m.listed.items (lookup_in pool b m).binding) refl

  row_fits : RowFits pool limits t b book m.key (row6 pool t b m)
  row_fits = by (is_for_us m.kind m.server) where
    by : (ours : Bool) → RowFits pool limits t b book m.key (cond ours (OfRow pool t b m m.kind) (drops reason.OtherServer Unchanged))
    by true = kind_fits m.kind
    by false = dropped pool limits t b book m.key reason.OtherServer

pub book_left : (pool : Pool6Value) → IsPool6 pool.first pool.count pool.lease → (t : ℕ) (m : Request6) → LeavesABook pool t m
unfolding answer6
book_left pool limits t m b book = change_book t b book m.key _ (row_fits pool limits t m b book).0

pub own_granted : (pool : Pool6Value) → IsPool6 pool.first pool.count pool.lease → (t : ℕ) (m : Request6) → GrantsItsOwn pool t m
unfolding answer6
own_granted pool limits t m b book zeroed n e =
    let p = (row_fits pool limits t m b book).1 zeroed n e in
    let same : addr6 n ≡ addr6 p.0 = ap leased (sym e ∙ ap (λ (r : Row Reply6). r.answer) p.2) in
    (p.0, same, ap (λ (r : Row Reply6). get (with_change m.key r.change b).bindings m.key) p.2 ∙ bound_after m.key p.0 (t + pool.lease) b, p.3)
