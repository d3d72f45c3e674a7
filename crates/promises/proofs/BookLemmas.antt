-- Books with no entry and with one, and what a moment leaves of them.
use Rattle.std.proofs.Common.{◌≡◌, ℕ, Bool, true, false, not, ◌&&◌, ◌||◌, cond, List, [], ◌∷◌, length, refl, sym, ap, ◌∙◌, max}
use Rattle.std.specs.Prelude.{Some, None, map, is_some, ◌==◌}
use Rattle.std.specs.List.{list_any}
use Rattle.std.specs.Ordering.{nat_cmp, eq_by_cmp}
use Rattle.std.specs.Cmp.{nat_cmp_total}
use Rattle.std.specs.Cmp.Lexicographic.{slice_cmp, nat_list_cmp_total}
use Rattle.std.specs.FinMap.{get, empty, insert, remove, entries, values, put, nat_cmp-IsAntisymmetric, same_map, get-empty, get-insert, get-remove, entries-insert, len-entries, len-empty}
use Rattle.types.specs.Pool4.{PoolValue}
use Rattle.std.specs.declared.cmp.Ordering.{Ordering}
use Rattle.std.specs.Option.{option_map_or}
use Rattle.slots.specs.Key.{IsKey, key4_cmp}
use Rattle.slots.specs.KeyLaws.{key4_is_key, key6_is_key}
use Rattle.slots.specs.Maps.{Lease, Clients, is_live, live_clients, live_bars}
use Rattle.slots.proofs.ShownLemmas.{keep, get-live_clients, get-live_bars}
use Rattle.bindings_v6.specs.Book6.{book6_at, empty_book}
use Rattle.bindings_v4.specs.Book4.{in_pool, is_free, book4_at}
use Rattle.circuit_server.specs.Server.{Book, book_at}
use Rattle.promises.specs.Examples.{one_offer, offers_at}

pub live_none : {K : Type 0} {eqk : K → K → Bool} {cmpk : K → K → Ordering} → IsKey eqk cmpk → (clock : ℕ) → live_clients {cmpk = cmpk} clock empty ≡ empty
live_none {cmpk = cmpk} lawk clock =
    same_map lawk.total lawk.exact _ _ (λ q. get-live_clients lawk clock empty q ∙ ap (keep clock) (get-empty cmpk q) ∙ sym (get-empty cmpk q))

pub no_bars : (clock : ℕ) → live_bars clock empty ≡ empty
no_bars clock =
    same_map nat_cmp_total nat_cmp-IsAntisymmetric _ _ (λ q.
    get-live_bars clock empty q ∙ ap (λ o. cond (option_map_or (is_live clock) o false) o None) (get-empty nat_cmp q) ∙ sym (get-empty nat_cmp q))

-- DHCPv6's empty book stays empty
later_empty : (clock : ℕ) → book6_at clock empty_book ≡ empty_book
unfolding book6_at
later_empty clock = λ i. record { bindings = live_none key6_is_key clock i; bars = no_bars clock i }

nothing : {A : Type 0} (xs : List A) → length xs ≡ 0 → xs ≡ []
nothing [] e = refl
nothing (x ∷ xs) e = absurd cc

no_entries : {K : Type 0} (cmpk : K → K → Ordering) → entries (empty {X = Lease} {R = cmpk}) ≡ []
no_entries cmpk = nothing _ (sym (len-entries empty) ∙ len-empty cmpk Lease)

pub no_values : {K : Type 0} (cmpk : K → K → Ordering) → values (empty {X = Lease} {R = cmpk}) ≡ []
no_values {K} cmpk = ap (λ es. map (λ (e : K × Lease). e.1) es) (no_entries cmpk)

one_value : (client : List ℕ) (lease : Lease) → values (one_offer client lease) ≡ lease ∷ []
one_value client lease =
    ap (λ es. map (λ (e : List ℕ × Lease). e.1) es) (entries-insert nat_list_cmp_total empty client lease ∙ ap (put (slice_cmp nat_cmp) client lease) (no_entries key4_cmp))

-- ---- a map of one lease

kept_one : (test : Lease → Bool) (lease : Lease) (here live : Bool) → test lease ≡ live
    → cond (option_map_or test (cond here (Some lease) None) false) (cond here (Some lease) None) None ≡ cond live (cond here (Some lease) None) None
kept_one test lease true true e = ap (λ b. cond b (Some lease) None) e
kept_one test lease true false e = ap (λ b. cond b (Some lease) None) e
kept_one test lease false true e = refl
kept_one test lease false false e = refl

neither : (lease : Lease) (here : Bool) → cond here None (cond here (Some lease) None) ≡ None
neither lease true = refl
neither lease false = refl

the_newer : (old new : Lease) (here : Bool) → cond here (Some new) (cond here (Some old) None) ≡ cond here (Some new) None
the_newer old new true = refl
the_newer old new false = refl

module _ {K : Type 0} {eqk : K → K → Bool} {cmpk : K → K → Ordering} (lawk : IsKey eqk cmpk) where
  abbrev pub only : K → Lease → Clients cmpk
  only client lease = insert empty client lease

  pub get-only : (client : K) (lease : Lease) (q : K) → get (only client lease) q ≡ cond (eq_by_cmp cmpk q client) (Some lease) None
  get-only client lease q = get-insert lawk.total empty client lease q ∙ ap (cond (eq_by_cmp cmpk q client) (Some lease)) (get-empty cmpk q)

  get_cond : (client : K) (lease : Lease) (live : Bool) (q : K) → get (cond live (only client lease) empty) q ≡ cond live (cond (eq_by_cmp cmpk q client) (Some lease) None) None
  get_cond client lease true q = get-only client lease q
  get_cond client lease false q = get-empty cmpk q

  pub live-only : (clock : ℕ) (client : K) (lease : Lease) → live_clients clock (only client lease) ≡ cond (is_live clock lease.until) (only client lease) empty
  live-only clock client lease =
      let test : Lease → Bool = λ l. is_live clock l.until in
      same_map lawk.total lawk.exact _ _ (λ q.
      get-live_clients lawk clock (only client lease) q ∙ ap (keep clock) (get-only client lease q)
      ∙ kept_one test lease (eq_by_cmp cmpk q client) (test lease) refl ∙ sym (get_cond client lease (test lease) q))

  -- without it nothing is left, and another one stands in its place
  pub remove-only : (client : K) (lease : Lease) → remove (only client lease) client ≡ empty
  remove-only client lease =
      same_map lawk.total lawk.exact _ _ (λ q.
      get-remove lawk.total (only client lease) client q ∙ ap (cond (eq_by_cmp cmpk q client) None) (get-only client lease q)
      ∙ neither lease (eq_by_cmp cmpk q client) ∙ sym (get-empty cmpk q))

  pub insert-again : (client : K) (old new : Lease) → insert (only client old) client new ≡ only client new
  insert-again client old new =
      same_map lawk.total lawk.exact _ _ (λ q.
      get-insert lawk.total (only client old) client new q ∙ ap (cond (eq_by_cmp cmpk q client) (Some new)) (get-only client old q)
      ∙ the_newer old new (eq_by_cmp cmpk q client) ∙ sym (get-only client new q))

pub get-one : (client : List ℕ) (lease : Lease) (q : List ℕ) → get (one_offer client lease) q ≡ cond (eq_by_cmp (slice_cmp nat_cmp) q client) (Some lease) None
get-one = get-only key4_is_key

pub live_one : (clock : ℕ) (client : List ℕ) (lease : Lease) → live_clients clock (one_offer client lease) ≡ cond (is_live clock lease.until) (one_offer client lease) empty
live_one = live-only key4_is_key

pub at-offers : (now clock : ℕ) (offers : Clients key4_cmp) → book_at now (offers_at clock offers) ≡ offers_at (max clock now) (live_clients (max clock now) offers)
unfolding book4_at
at-offers now clock offers =
    let t = max clock now in
    λ i. record { clock = t; four = record { bindings = live_none key4_is_key t i; offers = live_clients t offers; bars = no_bars t i }; six = later_empty t i }

-- a book of DHCPv4 leases alone
abbrev pub bound_at : ℕ → Clients key4_cmp → Book
bound_at clock bindings = record { clock = clock; four = record { bindings = bindings; offers = empty; bars = empty }; six = empty_book }

pub at-bound : (now clock : ℕ) (bindings : Clients key4_cmp) → book_at now (bound_at clock bindings) ≡ bound_at (max clock now) (live_clients (max clock now) bindings)
unfolding book4_at
at-bound now clock bindings =
    let t = max clock now in
    λ i. record { clock = t; four = record { bindings = live_clients t bindings; offers = live_none key4_is_key t i; bars = no_bars t i }; six = later_empty t i }

-- with no offer all of the pool is free; with one all but that address
pub free-none : (pool : PoolValue) (clock a : ℕ) → is_free pool (offers_at clock empty).four a ≡ (in_pool pool a && true)
free-none pool clock a =
    ap (λ vs. in_pool pool a && not (list_any (λ (l : Lease). l.address == a) vs || list_any (λ (l : Lease). l.address == a) (values (empty {X = Lease} {R = slice_cmp nat_cmp})) || is_some (get (empty {X = ℕ} {R = nat_cmp}) a))) (no_values key4_cmp)
    ∙ ap (λ vs. in_pool pool a && not (list_any (λ (l : Lease). l.address == a) vs || is_some (get (empty {X = ℕ} {R = nat_cmp}) a))) (no_values key4_cmp)
    ∙ ap (λ o. in_pool pool a && not (is_some o)) (get-empty nat_cmp a)

pub free-one : (pool : PoolValue) (clock a : ℕ) (client : List ℕ) (lease : Lease)
    → is_free pool (offers_at clock (one_offer client lease)).four a ≡ (in_pool pool a && not (lease.address == a || false || false))
free-one pool clock a client lease =
    ap (λ vs. in_pool pool a && not (list_any (λ (l : Lease). l.address == a) vs || list_any (λ (l : Lease). l.address == a) (values (one_offer client lease)) || is_some (get (empty {X = ℕ} {R = nat_cmp}) a))) (no_values key4_cmp)
    ∙ ap (λ vs. in_pool pool a && not (list_any (λ (l : Lease). l.address == a) vs || is_some (get (empty {X = ℕ} {R = nat_cmp}) a))) (one_value client lease)
    ∙ ap (λ o. in_pool pool a && not (lease.address == a || false || is_some o)) (get-empty nat_cmp a)
