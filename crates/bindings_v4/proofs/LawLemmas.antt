-- What is true of every decision, over maps alone.
use Rattle.std.proofs.Common.{◌≡◌, ◌⊎◌, inl, inr, ℕ, ◌+◌, ◌<◌, Bool, true, false, not, ◌&&◌, ◌||◌, cond, eqb, List, [], ◌∷◌, map, refl, sym, ap, subst, ◌∙◌, arith, eq-eqb}
use Rattle.std.specs.Prelude.{Option, Some, None, Ok, IfSome, ◌==◌, is_some, option_map}
use Rattle.std.specs.List.{list_any, find, range_with_len}
use Rattle.std.specs.Ordering.{nat_cmp, eq_by_cmp, is_eq}
use Rattle.std.specs.Cmp.{nat_cmp_total}
use Rattle.std.specs.FinMap.{get, insert, remove, contains_key, entries, get-entries, get-insert, get-remove}
use Rattle.std.specs.FinMap.Entries as entry
use Rattle.std.specs.Str.{bytes_eq}
use Rattle.std.proofs.lemmas.Bool.Decides.{nat_tests}
use Rattle.std.specs.Option.{option_or}
use Rattle.slots.specs.Key.{key4_cmp}
use Rattle.slots.specs.KeyLaws.{key4_is_key}
use Rattle.slots.specs.Maps.{Lease, Clients, names, address_of}
use Rattle.slots.proofs.ShownLemmas.{not_true, at, same_is, itself}
use Rattle.types.specs.Addr.{number4, addr4}
use Rattle.types.specs.declared.addr.Addr4.{Addr4}
use Rattle.types.specs.declared.discard.Discard.{Discard}
use Rattle.types.specs.declared.discard.Discard.TheVariants as reason
use Rattle.types.specs.declared.kind4.Kind4.{Kind4}
use Rattle.types.specs.declared.kind4.Kind4.TheVariants.{Discover, Offer, Request, Decline, Ack, Nak, Release, Inform}
use Rattle.types.specs.Pool4.{IsPool4, PoolValue}
use Rattle.exchange.specs.declared.request4.Reply4.TheVariants as reply
use Rattle.exchange.specs.declared.request4.Request4.{Request4}
use Rattle.exchange.specs.declared.request4.Reply4.{Reply4}
use Rattle.bindings_v4.specs.declared.server4.Server4.{Server4}
use Rattle.bindings_v4.specs.declared.server4.Server4.TheVariants.{Anybody, This, Another}
use Rattle.bindings_v4.specs.Book4.{Book4, in_pool, is_free, lowest_free, where_free, pick}
use Rattle.bindings_v4.specs.IsBook4.{Entry, TheBinding, TheOffer, TheBar, Names, IsBook4, LeavesABook, KeepsOthers, ChangesOffersAlone, GrantsItsOwn, RenewsInTime}
use Rattle.slots.specs.Row.{Change, Unchanged, Offers, Withdraws, Binds, Bars, Frees, is_kept, Row, replies, drops}
use Rattle.bindings_v4.specs.Table4.{with_change, grants, discover_row, other_server_row, selecting_row, known_address_row, no_server_row, decline_row, release_row, inform_row, where_is, where_specified, server_of, Lookup, lookup_in, row_of, answer4}

-- ---- maps with one client changed

get_insert : (m : Clients key4_cmp) (k : List ℕ) (l : Lease) (q : List ℕ) → get (insert m k l) q ≡ cond (bytes_eq q k) (Some l) (get m q)
get_insert m k l q = get-insert key4_is_key.total m k l q ∙ ap (λ b. cond b (Some l) (get m q)) (key4_is_key.agrees q k)

get_remove : (m : Clients key4_cmp) (k q : List ℕ) → get (remove m k) q ≡ cond (bytes_eq q k) None (get m q)
get_remove m k q = get-remove key4_is_key.total m k q ∙ ap (λ b. cond b None (get m q)) (key4_is_key.agrees q k)

apart_is : (q k : List ℕ) → (q ≡ k → ⊥) → bytes_eq q k ≡ false
apart_is q k other = by (bytes_eq q k) refl where
  by : (b : Bool) → bytes_eq q k ≡ b → bytes_eq q k ≡ false
  by true is = absurd (other (same_is key4_is_key q k is))
  by false is = is

-- ---- no decision changes another client's entries

pub kept_apart : (k q : List ℕ) → bytes_eq q k ≡ false → (c : Change) (b : Book4) → (get (with_change k c b).bindings q ≡ get b.bindings q) × (get (with_change k c b).offers q ≡ get b.offers q)
kept_apart k q apart Unchanged b = (refl, refl)
kept_apart k q apart (Offers a u) b = (refl, get_insert b.offers k (at a u) q ∙ ap (λ r. cond r (Some (at a u)) (get b.offers q)) apart)
kept_apart k q apart (Withdraws a) b = (refl, get_remove b.offers k q ∙ ap (λ r. cond r None (get b.offers q)) apart)
kept_apart k q apart (Binds a u) b =
    (get_insert b.bindings k (at a u) q ∙ ap (λ r. cond r (Some (at a u)) (get b.bindings q)) apart, get_remove b.offers k q ∙ ap (λ r. cond r None (get b.offers q)) apart)
kept_apart k q apart (Bars a u) b = (get_remove b.bindings k q ∙ ap (λ r. cond r None (get b.bindings q)) apart, refl)
kept_apart k q apart (Frees a) b = (get_remove b.bindings k q ∙ ap (λ r. cond r None (get b.bindings q)) apart, refl)

pub others_stay : (pool : PoolValue) (t : ℕ) (m : Request4) → KeepsOthers pool t m
unfolding answer4
others_stay pool t m b q other = kept_apart m.key q (apart_is q m.key other) (row_of pool t (lookup_in pool b m) m m.kind (server_of pool m.server)).change b

-- ---- what is not kept changes offers alone

offers_alone : (k : List ℕ) (c : Change) (b : Book4) → is_kept c ≡ false → ((with_change k c b).bindings ≡ b.bindings) × ((with_change k c b).bars ≡ b.bars)
offers_alone k Unchanged b e = (refl, refl)
offers_alone k (Offers a u) b e = (refl, refl)
offers_alone k (Withdraws a) b e = (refl, refl)
offers_alone k (Binds a u) b e = absurd (not_true (sym e))
offers_alone k (Bars a u) b e = absurd (not_true (sym e))
offers_alone k (Frees a) b e = absurd (not_true (sym e))

pub only_offers : (pool : PoolValue) (t : ℕ) (m : Request4) → ChangesOffersAlone pool t m
unfolding answer4
only_offers pool t m b e = offers_alone m.key (row_of pool t (lookup_in pool b m) m m.kind (server_of pool m.server)).change b e

-- ---- renewing

renewed_row : (pool : PoolValue) (t : ℕ) (found : Lookup) (m : Request4) (address : ℕ) → m.kind ≡ Request → server_of pool m.server ≡ Anybody → m.wanted ≡ None → where_specified m.ciaddr ≡ Some address
    → in_pool pool address ≡ true → found.binding ≡ Some address → row_of pool t found m m.kind (server_of pool m.server) ≡ grants address (t + pool.lease)
renewed_row pool t found m address kind server wanted ciaddr inside bound =
    ap (λ k. row_of pool t found m k (server_of pool m.server)) kind
    ∙ ap (row_of pool t found m Request) server
    ∙ ap (λ w. no_server_row pool (t + pool.lease) found.binding (option_map number4 w) (where_specified m.ciaddr)) wanted
    ∙ ap (no_server_row pool (t + pool.lease) found.binding None) ciaddr
    ∙ ap (λ i. known_address_row (t + pool.lease) i found.binding address) inside
    ∙ ap (λ o. known_address_row (t + pool.lease) true o address) bound
    ∙ ap (λ r. cond r (grants address (t + pool.lease)) (replies reply.Nak Unchanged)) (eq-eqb address address refl)

pub bound_after : (k : List ℕ) (a u : ℕ) (b : Book4) → get (with_change k (Binds a u) b).bindings k ≡ Some (at a u)
bound_after k a u b = get_insert b.bindings k (at a u) k ∙ ap (λ r. cond r (Some (at a u)) (get b.bindings k)) (itself key4_is_key k)

pub renewed : (pool : PoolValue) (t : ℕ) (m : Request4) → RenewsInTime pool t m
unfolding answer4
renewed pool t m b address kind server wanted ciaddr inside bound =
    let e = renewed_row pool t (lookup_in pool b m) m address kind server wanted ciaddr inside bound in
    (ap (λ (r : Row Reply4). r.answer) e, ap (λ (r : Row Reply4). get (with_change m.key r.change b).bindings m.key) e ∙ bound_after m.key address (t + pool.lease) b)

-- ---- a book in which a client has one new entry, or none

data New : Type 0 where
  NoNew : New
  NewBinding : ℕ → ℕ → New
  NewOffer : ℕ → ℕ → New
  NewBar : ℕ → ℕ → New

abbrev new_binding : New → Option Lease
new_binding NoNew = None
new_binding (NewBinding a u) = Some (at a u)
new_binding (NewOffer a u) = None
new_binding (NewBar a u) = None

abbrev new_offer : New → Option Lease
new_offer NoNew = None
new_offer (NewBinding a u) = None
new_offer (NewOffer a u) = Some (at a u)
new_offer (NewBar a u) = None

abbrev new_bar : New → ℕ → Option ℕ → Option ℕ
new_bar NoNew x rest = rest
new_bar (NewBinding a u) x rest = rest
new_bar (NewOffer a u) x rest = rest
new_bar (NewBar a u) x rest = cond (eq_by_cmp nat_cmp x a) (Some u) rest

record IsNew (k : List ℕ) (new : New) (b after : Book4) : Type 0 where
  bindings : (q : List ℕ) → get after.bindings q ≡ cond (bytes_eq q k) (new_binding new) (get b.bindings q)
  offers : (q : List ℕ) → get after.offers q ≡ cond (bytes_eq q k) (new_offer new) (get b.offers q)
  bars : (x : ℕ) → get after.bars x ≡ new_bar new x (get b.bars x)

abbrev IsClients : List ℕ → Entry → Type 0
IsClients k x = (x ≡ TheBinding k) ⊎ (x ≡ TheOffer k)

-- nobody but the client has this address
abbrev IsOwn : List ℕ → Book4 → ℕ → Type 0
IsOwn k b a = (x : Entry) → Names b a x → IsClients k x

abbrev Suits : ℕ → List ℕ → Book4 → New → Type 0
Suits t k b NoNew = Unit {0}
Suits t k b (NewBinding a u) = IsOwn k b a × (t < u)
Suits t k b (NewOffer a u) = IsOwn k b a × (t < u)
Suits t k b (NewBar a u) = IsOwn k b a × (t < u)

-- the new entry
abbrev IsFresh : List ℕ → New → ℕ → Entry → Type 0
IsFresh k NoNew a x = ⊥
IsFresh k (NewBinding n u) a x = (a ≡ n) × (x ≡ TheBinding k)
IsFresh k (NewOffer n u) a x = (a ≡ n) × (x ≡ TheOffer k)
IsFresh k (NewBar n u) a x = (a ≡ n) × (x ≡ TheBar)

fresh_binding : (k q : List ℕ) (new : New) (a : ℕ) → bytes_eq q k ≡ true → address_of (new_binding new) ≡ Some a → IsFresh k new a (TheBinding q)
fresh_binding k q NoNew a same e = absurd cc
fresh_binding k q (NewBinding n u) a same e = ((let is : n ≡ a = cc in sym is), ap TheBinding (same_is key4_is_key q k same))
fresh_binding k q (NewOffer n u) a same e = absurd cc
fresh_binding k q (NewBar n u) a same e = absurd cc

fresh_offer : (k q : List ℕ) (new : New) (a : ℕ) → bytes_eq q k ≡ true → address_of (new_offer new) ≡ Some a → IsFresh k new a (TheOffer q)
fresh_offer k q NoNew a same e = absurd cc
fresh_offer k q (NewBinding n u) a same e = absurd cc
fresh_offer k q (NewOffer n u) a same e = ((let is : n ≡ a = cc in sym is), ap TheOffer (same_is key4_is_key q k same))
fresh_offer k q (NewBar n u) a same e = absurd cc

other_key : (q k : List ℕ) → bytes_eq q k ≡ false → q ≡ k → ⊥
other_key q k apart e = not_true (sym apart ∙ ap (bytes_eq q) (sym e) ∙ itself key4_is_key q)

other_binding : (q k : List ℕ) → bytes_eq q k ≡ false → IsClients k (TheBinding q) → ⊥
other_binding q k apart (inl e) = let is : q ≡ k = cc in other_key q k apart is
other_binding q k apart (inr e) = absurd cc

other_offer : (q k : List ℕ) → bytes_eq q k ≡ false → IsClients k (TheOffer q) → ⊥
other_offer q k apart (inl e) = absurd cc
other_offer q k apart (inr e) = let is : q ≡ k = cc in other_key q k apart is

no_client : (k : List ℕ) → IsClients k TheBar → ⊥
no_client k (inl e) = absurd cc
no_client k (inr e) = absurd cc

origin_bar : (k : List ℕ) (new : New) (b : Book4) (a : ℕ) → is_some (new_bar new a (get b.bars a)) ≡ true → IsFresh k new a TheBar ⊎ (Names b a TheBar × (IsClients k TheBar → ⊥))
origin_bar k NoNew b a e = inr (e, no_client k)
origin_bar k (NewBinding n u) b a e = inr (e, no_client k)
origin_bar k (NewOffer n u) b a e = inr (e, no_client k)
origin_bar k (NewBar n u) b a e = by (eq_by_cmp nat_cmp a n) refl e where
  by : (r : Bool) → eq_by_cmp nat_cmp a n ≡ r → is_some (cond r (Some u) (get b.bars a)) ≡ true → ((a ≡ n) × (TheBar ≡ TheBar)) ⊎ (Names b a TheBar × (IsClients k TheBar → ⊥))
  by true is e = inl ((let same : a ≡ n = grind (arith, nat_tests) in same), refl)
  by false is e = inr (e, no_client k)

-- an entry is the new one, or one that another had
origin : (k : List ℕ) (new : New) (b after : Book4) → IsNew k new b after → (a : ℕ) (x : Entry) → Names after a x → IsFresh k new a x ⊎ (Names b a x × (IsClients k x → ⊥))
origin k new b after is a (TheBinding q) e = by (bytes_eq q k) refl (ap address_of (sym (is.bindings q)) ∙ e) where
  by : (r : Bool) → bytes_eq q k ≡ r → address_of (cond r (new_binding new) (get b.bindings q)) ≡ Some a
      → IsFresh k new a (TheBinding q) ⊎ (Names b a (TheBinding q) × (IsClients k (TheBinding q) → ⊥))
  by true same e = inl (fresh_binding k q new a same e)
  by false apart e = inr (e, other_binding q k apart)
origin k new b after is a (TheOffer q) e = by (bytes_eq q k) refl (ap address_of (sym (is.offers q)) ∙ e) where
  by : (r : Bool) → bytes_eq q k ≡ r → address_of (cond r (new_offer new) (get b.offers q)) ≡ Some a
      → IsFresh k new a (TheOffer q) ⊎ (Names b a (TheOffer q) × (IsClients k (TheOffer q) → ⊥))
  by true same e = inl (fresh_offer k q new a same e)
  by false apart e = inr (e, other_offer q k apart)
origin k new b after is a TheBar e = origin_bar k new b a (ap is_some (sym (is.bars a)) ∙ e)

same_fresh : (k : List ℕ) (new : New) (a : ℕ) (x y : Entry) → IsFresh k new a x → IsFresh k new a y → x ≡ y
same_fresh k NoNew a x y f g = absurd f
same_fresh k (NewBinding n u) a x y f g = f.1 ∙ sym g.1
same_fresh k (NewOffer n u) a x y f g = f.1 ∙ sym g.1
same_fresh k (NewBar n u) a x y f g = f.1 ∙ sym g.1

fresh_own : (t : ℕ) (k : List ℕ) (new : New) (b : Book4) (a : ℕ) (x y : Entry) → Suits t k b new → IsFresh k new a x → Names b a y → IsClients k y
fresh_own t k NoNew b a x y suits f old = absurd f
fresh_own t k (NewBinding n u) b a x y suits f old = suits.0 y (subst (λ z. Names b z y) f.0 old)
fresh_own t k (NewOffer n u) b a x y suits f old = suits.0 y (subst (λ z. Names b z y) f.0 old)
fresh_own t k (NewBar n u) b a x y suits f old = suits.0 y (subst (λ z. Names b z y) f.0 old)

live_binding : (t : ℕ) (k : List ℕ) (new : New) (b : Book4) → Suits t k b new → IfSome (new_binding new) (λ lease. t < lease.until)
live_binding t k NoNew b suits = tt
live_binding t k (NewBinding n u) b suits = suits.1
live_binding t k (NewOffer n u) b suits = tt
live_binding t k (NewBar n u) b suits = tt

live_offer : (t : ℕ) (k : List ℕ) (new : New) (b : Book4) → Suits t k b new → IfSome (new_offer new) (λ lease. t < lease.until)
live_offer t k NoNew b suits = tt
live_offer t k (NewBinding n u) b suits = tt
live_offer t k (NewOffer n u) b suits = suits.1
live_offer t k (NewBar n u) b suits = tt

live_bar : (t : ℕ) (k : List ℕ) (new : New) (b : Book4) (x : ℕ) → Suits t k b new → IfSome (get b.bars x) (λ until. t < until) → IfSome (new_bar new x (get b.bars x)) (λ until. t < until)
live_bar t k NoNew b x suits old = old
live_bar t k (NewBinding n u) b x suits old = old
live_bar t k (NewOffer n u) b x suits old = old
live_bar t k (NewBar n u) b x suits old = by (eq_by_cmp nat_cmp x n) where
  by : (r : Bool) → IfSome (cond r (Some u) (get b.bars x)) (λ until. t < until)
  by true = suits.1
  by false = old

new_apart : (new : New) → IfSome (new_binding new) (λ lease. new_offer new ≡ None)
new_apart NoNew = tt
new_apart (NewBinding n u) = refl
new_apart (NewOffer n u) = tt
new_apart (NewBar n u) = tt

with_new : (t : ℕ) (k : List ℕ) (new : New) (b after : Book4) → IsBook4 t b → IsNew k new b after → Suits t k b new → IsBook4 t after
with_new t k new b after book is suits =
    record {
      bindings = λ q. subst (λ o. IfSome o (λ (lease : Lease). t < lease.until)) (sym (is.bindings q)) (by_binding q (bytes_eq q k));
      offers = λ q. subst (λ o. IfSome o (λ (lease : Lease). t < lease.until)) (sym (is.offers q)) (by_offer q (bytes_eq q k));
      bars = λ x. subst (λ o. IfSome o (λ until. t < until)) (sym (is.bars x)) (live_bar t k new b x suits (book.bars x));
      once = λ a x y f g. by_origin a x y (origin k new b after is a x f) (origin k new b after is a y g);
      apart = λ q.
          subst (λ o. IfSome o (λ (lease : Lease). get after.offers q ≡ None)) (sym (is.bindings q))
          (subst (λ o. IfSome (cond (bytes_eq q k) (new_binding new) (get b.bindings q)) (λ (lease : Lease). o ≡ None)) (sym (is.offers q)) (by_both q (bytes_eq q k)));
    } where
      by_binding : (q : List ℕ) (r : Bool) → IfSome (cond r (new_binding new) (get b.bindings q)) (λ lease. t < lease.until)
      by_binding q true = live_binding t k new b suits
      by_binding q false = book.bindings q

      by_offer : (q : List ℕ) (r : Bool) → IfSome (cond r (new_offer new) (get b.offers q)) (λ lease. t < lease.until)
      by_offer q true = live_offer t k new b suits
      by_offer q false = book.offers q

      by_both : (q : List ℕ) (r : Bool) → IfSome (cond r (new_binding new) (get b.bindings q)) (λ lease. cond r (new_offer new) (get b.offers q) ≡ None)
      by_both q true = new_apart new
      by_both q false = book.apart q

      by_origin : (a : ℕ) (x y : Entry) → IsFresh k new a x ⊎ (Names b a x × (IsClients k x → ⊥)) → IsFresh k new a y ⊎ (Names b a y × (IsClients k y → ⊥)) → x ≡ y
      by_origin a x y (inl f) (inl g) = same_fresh k new a x y f g
      by_origin a x y (inl f) (inr old) = absurd (old.1 (fresh_own t k new b a x y suits f old.0))
      by_origin a x y (inr old) (inl g) = absurd (old.1 (fresh_own t k new b a y x suits g old.0))
      by_origin a x y (inr old) (inr older) = book.once a x y old.0 older.0

-- ---- each change leaves a book

absent : (m : Clients key4_cmp) (k : List ℕ) → get m k ≡ None → (q : List ℕ) → get m q ≡ cond (bytes_eq q k) None (get m q)
absent m k none q = by (bytes_eq q k) refl where
  by : (r : Bool) → bytes_eq q k ≡ r → get m q ≡ cond r None (get m q)
  by true is = ap (get m) (same_is key4_is_key q k is) ∙ none
  by false is = refl

no_address : (o : Option Lease) → address_of o ≡ None → o ≡ None
no_address None e = refl
no_address (Some x) e = absurd cc

module _ (t : ℕ) (b : Book4) (book : IsBook4 t b) (k : List ℕ) where
  no_offer : (a : ℕ) → address_of (get b.bindings k) ≡ Some a → get b.offers k ≡ None
  no_offer a e = by (get b.bindings k) (book.apart k) e where
    by : (o : Option Lease) → IfSome o (λ lease. get b.offers k ≡ None) → address_of o ≡ Some a → get b.offers k ≡ None
    by None apart e = absurd cc
    by (Some lease) apart e = apart

  no_binding : (a : ℕ) → address_of (get b.offers k) ≡ Some a → get b.bindings k ≡ None
  no_binding a e = no_address (get b.bindings k) (by (address_of (get b.bindings k)) refl) where
    by : (o : Option ℕ) → address_of (get b.bindings k) ≡ o → address_of (get b.bindings k) ≡ None
    by None is = is
    by (Some n) is =
        let clash : None ≡ Some a = sym (ap address_of (no_offer n is)) ∙ e in
        absurd cc

  own_bound : (a : ℕ) → address_of (get b.bindings k) ≡ Some a → IsOwn k b a
  own_bound a e x named = inl (book.once a x (TheBinding k) named e)

  own_offered : (a : ℕ) → address_of (get b.offers k) ≡ Some a → IsOwn k b a
  own_offered a e x named = inr (book.once a x (TheOffer k) named e)

  abbrev FitsChange : Change → Type 0
  FitsChange Unchanged = Unit {0}
  FitsChange (Offers a u) = (get b.bindings k ≡ None) × IsOwn k b a × (t < u)
  FitsChange (Withdraws a) = address_of (get b.offers k) ≡ Some a
  FitsChange (Binds a u) = IsOwn k b a × (t < u)
  FitsChange (Bars a u) = (address_of (get b.bindings k) ≡ Some a) × (t < u)
  FitsChange (Frees a) = address_of (get b.bindings k) ≡ Some a

  change_book : (c : Change) → FitsChange c → IsBook4 t (with_change k c b)
  change_book Unchanged fits = book
  change_book (Offers a u) fits =
      with_new t k (NewOffer a u) b (with_change k (Offers a u) b) book
      (record { bindings = absent b.bindings k fits.0; offers = get_insert b.offers k (at a u); bars = λ x. refl }) (fits.1, fits.2)
  change_book (Withdraws a) fits =
      with_new t k NoNew b (with_change k (Withdraws a) b) book (record { bindings = absent b.bindings k (no_binding a fits); offers = get_remove b.offers k; bars = λ x. refl }) tt
  change_book (Binds a u) fits =
      with_new t k (NewBinding a u) b (with_change k (Binds a u) b) book (record { bindings = get_insert b.bindings k (at a u); offers = get_remove b.offers k; bars = λ x. refl }) fits
  change_book (Bars a u) fits =
      with_new t k (NewBar a u) b (with_change k (Bars a u) b) book
      (record { bindings = get_remove b.bindings k; offers = absent b.offers k (no_offer a fits.0); bars = λ x. get-insert nat_cmp_total b.bars a u x }) (own_bound a fits.0, fits.1)
  change_book (Frees a) fits =
      with_new t k NoNew b (with_change k (Frees a) b) book (record { bindings = get_remove b.bindings k; offers = absent b.offers k (no_offer a fits); bars = λ x. refl }) tt

-- ---- addresses that nobody has

find_test : (test : ℕ → Bool) (xs : List ℕ) (x : ℕ) → find test xs ≡ Some x → test x ≡ true
find_test test [] x e = absurd cc
find_test test (y ∷ ys) x e = by (test y) refl e (find_test test ys x) where
  by : (r : Bool) → test y ≡ r → cond r (Some y) (find test ys) ≡ Some x → (find test ys ≡ Some x → test x ≡ true) → test x ≡ true
  by true is e rest = let same : y ≡ x = cc in ap test (sym same) ∙ is
  by false is e rest = rest e

or_true : (b c : Bool) → c ≡ true → (b || c) ≡ true
or_true true c e = refl
or_true false c e = e

abbrev any_address : ℕ → List (List ℕ × Lease) → Bool
any_address a es = list_any (λ (lease : Lease). lease.address == a) (map (λ (e : List ℕ × Lease). e.1) es)

named_in : (q : List ℕ) (a : ℕ) (es : List (List ℕ × Lease)) → address_of (entry.find key4_cmp q es) ≡ Some a → any_address a es ≡ true
named_in q a [] e = absurd cc
named_in q a (x ∷ es) e = by (is_eq (key4_cmp q x.0)) e (named_in q a es) where
  by : (r : Bool) → address_of (cond r (Some x.1) (entry.find key4_cmp q es)) ≡ Some a
      → (address_of (entry.find key4_cmp q es) ≡ Some a → any_address a es ≡ true) → (eqb x.1.address a || any_address a es) ≡ true
  by true e rest =
      let same : x.1.address ≡ a = cc in
      ap (λ r. r || any_address a es) (eq-eqb x.1.address a same)
  by false e rest = or_true (eqb x.1.address a) (any_address a es) (rest e)

named : (m : Clients key4_cmp) (q : List ℕ) (a : ℕ) → address_of (get m q) ≡ Some a → names a m ≡ true
named m q a e = named_in q a (entries m) (ap address_of (sym (get-entries m q)) ∙ e)

free_parts : (i x y z : Bool) → (i && not (x || y || z)) ≡ true → (x ≡ false) × (y ≡ false) × (z ≡ false)
free_parts false x y z e = absurd (not_true e)
free_parts true true y z e = absurd (not_true e)
free_parts true false true z e = absurd (not_true e)
free_parts true false false true e = absurd (not_true e)
free_parts true false false false e = (refl, refl, refl)

free_nobody : (pool : PoolValue) (b : Book4) (a : ℕ) → is_free pool b a ≡ true → (x : Entry) → Names b a x → ⊥
free_nobody pool b a free x n = by x n (free_parts (in_pool pool a) (names a b.bindings) (names a b.offers) (contains_key b.bars a) free) where
  by : (x : Entry) → Names b a x → (names a b.bindings ≡ false) × (names a b.offers ≡ false) × (contains_key b.bars a ≡ false) → ⊥
  by (TheBinding q) n p = not_true (sym p.0 ∙ named b.bindings q a n)
  by (TheOffer q) n p = not_true (sym p.1 ∙ named b.offers q a n)
  by TheBar n p = not_true (sym p.2 ∙ n)

wanted_free : (pool : PoolValue) (b : Book4) (wanted : Option ℕ) (a : ℕ) → where_free pool b wanted ≡ Some a → is_free pool b a ≡ true
wanted_free pool b None a e = absurd cc
wanted_free pool b (Some w) a e = by (is_free pool b w) refl e where
  by : (r : Bool) → is_free pool b w ≡ r → cond r (Some w) None ≡ Some a → is_free pool b a ≡ true
  by true is e = let same : w ≡ a = cc in ap (is_free pool b) (sym same) ∙ is
  by false is e = absurd cc

where_some : (held asked : Option ℕ) (a : ℕ) → where_is held asked ≡ Some a → held ≡ Some a
where_some None None a e = absurd cc
where_some None (Some n) a e = absurd cc
where_some (Some h) None a e = absurd cc
where_some (Some h) (Some n) a e = by (h == n) e where
  by : (r : Bool) → cond r (Some h) None ≡ Some a → Some h ≡ Some a
  by true e = e
  by false e = absurd cc

-- ---- the rows

module _ (pool : PoolValue) (limits : IsPool4 pool.first pool.count pool.lease) (t : ℕ) (b : Book4) (book : IsBook4 t b) (k : List ℕ) where
  abbrev bound : Option ℕ
  bound = address_of (get b.bindings k)

  abbrev offered : Option ℕ
  offered = address_of (get b.offers k)

  abbrev end : ℕ
  end = t + pool.lease

  pick_own : (wanted : Option ℕ) (a : ℕ) → bound ≡ None → pick pool b k wanted ≡ Some a → IsOwn k b a
  pick_own wanted a none e = by_offer offered refl (ap (λ o. option_or o rest) (sym none) ∙ e) where
    rest : Option ℕ
    rest = option_or offered (option_or (where_free pool b wanted) (lowest_free pool b))

    by_wanted : (o : Option ℕ) → where_free pool b wanted ≡ o → option_or o (lowest_free pool b) ≡ Some a → IsOwn k b a
    by_wanted None is e x n = absurd (free_nobody pool b a (find_test (is_free pool b) (range_with_len (number4 pool.first) pool.count) a e) x n)
    by_wanted (Some w) is e x n = absurd (free_nobody pool b a (wanted_free pool b wanted a (is ∙ e)) x n)

    by_offer : (o : Option ℕ) → offered ≡ o → option_or o (option_or (where_free pool b wanted) (lowest_free pool b)) ≡ Some a → IsOwn k b a
    by_offer None is e = by_wanted (where_free pool b wanted) refl e
    by_offer (Some n) is e = own_offered t b book k a (is ∙ e)

  -- its change suits the book, and it grants nothing but what is the client's own
  abbrev RowFits : Row Reply4 → Type 0
  RowFits row = FitsChange t b book k row.change × ((x : Addr4) → row.answer ≡ Ok (reply.Ack x) → (n : ℕ) × (row ≡ grants n end) × IsOwn k b n)

  dropped : (why : Discard) (c : Change) → FitsChange t b book k c → RowFits (drops why c)
  dropped why c fits = (fits, λ x e. absurd cc)

  refused : RowFits (replies reply.Nak Unchanged)
  refused = (tt, λ x e. absurd cc)

  granted : (n : ℕ) → IsOwn k b n → RowFits (grants n end)
  granted n own = ((own, omega (arith, limits.shortest)), λ x e. (n, refl, own))

  discovered : (wanted picked held : Option ℕ) → pick pool b k wanted ≡ picked → bound ≡ held → RowFits (discover_row t picked held)
  discovered wanted None held is_picked is_bound = dropped reason.NoAddress Unchanged tt
  discovered wanted (Some a) (Some n) is_picked is_bound = (tt, λ x e. absurd cc)
  discovered wanted (Some a) None is_picked is_bound =
      ((no_address (get b.bindings k) is_bound, pick_own wanted a is_bound is_picked, omega arith), λ x e. absurd cc)

  withdrawn : (held : Option ℕ) → offered ≡ held → RowFits (other_server_row held)
  withdrawn None is = dropped reason.OtherServer Unchanged tt
  withdrawn (Some a) is = dropped reason.OtherServer (Withdraws a) is

  selected : (wanted held : Option ℕ) → ((a : ℕ) → held ≡ Some a → IsOwn k b a) → RowFits (selecting_row end wanted held)
  selected None held own = dropped reason.NothingToSay Unchanged tt
  selected (Some wanted) None own = refused
  selected (Some wanted) (Some a) own = granted a (own a refl)

  held_own : (wanted : Option ℕ) (a : ℕ) → option_or (where_is bound wanted) (where_is offered wanted) ≡ Some a → IsOwn k b a
  held_own wanted a e = by (where_is bound wanted) refl e where
    by : (o : Option ℕ) → where_is bound wanted ≡ o → option_or o (where_is offered wanted) ≡ Some a → IsOwn k b a
    by None is e = own_offered t b book k a (where_some offered wanted a e)
    by (Some n) is e = own_bound t b book k a (where_some bound wanted a (is ∙ e))

  verified : (inside : Bool) (held : Option ℕ) (address : ℕ) → bound ≡ held → RowFits (known_address_row end inside held address)
  verified false held address is = refused
  verified true None address is = dropped reason.NoRecord Unchanged tt
  verified true (Some n) address is = by (n == address) where
    by : (r : Bool) → RowFits (cond r (grants n end) (replies reply.Nak Unchanged))
    by true = granted n (own_bound t b book k n is)
    by false = refused

  requested : (wanted ciaddr : Option ℕ) → RowFits (no_server_row pool end bound wanted ciaddr)
  requested (Some wanted) (Some ciaddr) = dropped reason.NothingToSay Unchanged tt
  requested None None = dropped reason.NothingToSay Unchanged tt
  requested (Some wanted) None = verified (in_pool pool wanted) bound wanted refl
  requested None (Some ciaddr) = verified (in_pool pool ciaddr) bound ciaddr refl

  declined : (o : Option ℕ) → ((a : ℕ) → o ≡ Some a → bound ≡ Some a) → RowFits (decline_row t o)
  declined None is = dropped reason.NothingToSay Unchanged tt
  declined (Some a) is = dropped reason.NothingToSay (Bars a (t + 3600)) (is a refl, omega arith)

  released : (o : Option ℕ) → ((a : ℕ) → o ≡ Some a → bound ≡ Some a) → RowFits (release_row o)
  released None is = dropped reason.NothingToSay Unchanged tt
  released (Some a) is = dropped reason.NothingToSay (Frees a) (is a refl)

  informed : (ciaddr : Option ℕ) → RowFits (inform_row ciaddr)
  informed None = dropped reason.NothingToSay Unchanged tt
  informed (Some ciaddr) = (tt, λ x e. absurd cc)

module _ (pool : PoolValue) (limits : IsPool4 pool.first pool.count pool.lease) (t : ℕ) (m : Request4) (b : Book4) (book : IsBook4 t b) where
  row_fits : (kind : Kind4) (server : Server4) → RowFits pool limits t b book m.key (row_of pool t (lookup_in pool b m) m kind server)
  row_fits Discover server = discovered pool limits t b book m.key (option_map number4 m.wanted) _ _ refl refl
  row_fits Request Another = withdrawn pool limits t b book m.key _ refl
  row_fits Request This = let wanted = option_map number4 m.wanted in selected pool limits t b book m.key wanted _ (held_own pool limits t b book m.key wanted)
  row_fits Request Anybody = requested pool limits t b book m.key (option_map number4 m.wanted) (where_specified m.ciaddr)
  row_fits Decline Another = dropped pool limits t b book m.key reason.OtherServer Unchanged tt
  row_fits Decline This = declined pool limits t b book m.key _ (where_some _ (option_map number4 m.wanted))
  row_fits Decline Anybody = declined pool limits t b book m.key _ (where_some _ (option_map number4 m.wanted))
  row_fits Release Another = dropped pool limits t b book m.key reason.OtherServer Unchanged tt
  row_fits Release This = released pool limits t b book m.key _ (where_some _ (Some (number4 m.ciaddr)))
  row_fits Release Anybody = released pool limits t b book m.key _ (where_some _ (Some (number4 m.ciaddr)))
  row_fits Inform Another = dropped pool limits t b book m.key reason.OtherServer Unchanged tt
  row_fits Inform This = informed pool limits t b book m.key (where_specified m.ciaddr)
  row_fits Inform Anybody = informed pool limits t b book m.key (where_specified m.ciaddr)
  row_fits Offer server = dropped pool limits t b book m.key reason.NotServed Unchanged tt
  row_fits Ack server = dropped pool limits t b book m.key reason.NotServed Unchanged tt
  row_fits Nak server = dropped pool limits t b book m.key reason.NotServed Unchanged tt

pub book_left : (pool : PoolValue) → IsPool4 pool.first pool.count pool.lease → (t : ℕ) (m : Request4) → LeavesABook pool t m
unfolding answer4
book_left pool limits t m b book = change_book t b book m.key _ (row_fits pool limits t m b book m.kind (server_of pool m.server)).0

pub own_granted : (pool : PoolValue) → IsPool4 pool.first pool.count pool.lease → (t : ℕ) (m : Request4) → GrantsItsOwn pool t m
unfolding answer4
own_granted pool limits t m b book address e =
    let p = (row_fits pool limits t m b book m.kind (server_of pool m.server)).1 address e in
    let both : Ok (reply.Ack address) ≡ Ok (reply.Ack (addr4 p.0)) = sym e ∙ ap (λ (r : Row Reply4). r.answer) p.1 in
    let same : address ≡ addr4 p.0 = cc in
    (p.0, same, ap (λ (r : Row Reply4). get (with_change m.key r.change b).bindings m.key) p.1 ∙ bound_after m.key p.0 (t + pool.lease) b, p.2)
