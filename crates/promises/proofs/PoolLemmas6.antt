-- What a circuit's book binds for DHCPv6 stays in the circuit's pool.
use Rattle.std.proofs.Common.{◌≡◌, ℕ, ◌+◌, ◌≤◌, Bool, true, false, cond, List, [], ◌∷◌, map, get_or, ap, subst, ◌∙◌, arith}
use Rattle.std.specs.Prelude.{Option, Some, None, IfSome}
use Rattle.std.specs.List.{range_with_len}
use Rattle.std.specs.FinMap.{get}
use Rattle.std.proofs.Math.ListN.{get_or-map}
use Rattle.types.specs.Addr.{number6, addr6}
use Rattle.types.specs.Key6.{Key6Value}
use Rattle.types.specs.Pool6.{IsPool6}
use Rattle.types.specs.Slots.{live6}
use Rattle.types.specs.declared.addr.Addr6.{Addr6}
use Rattle.types.specs.declared.dest.Proto.TheVariants.{V6}
use Rattle.types.specs.declared.discard.Discard.TheVariants as reason
use Rattle.types.specs.declared.kind6.Kind6.{Kind6}
use Rattle.types.specs.declared.kind6.Kind6.TheVariants.{Solicit, Request, Confirm, Renew, Rebind, Release, Decline}
use Rattle.exchange.specs.declared.request6.Request6.{Request6}
use Rattle.types.specs.declared.slot6.Slot6.{Slot6}
use Rattle.types.specs.declared.slot6.Slot6.TheVariants as slot6
use Rattle.types.specs.declared.slots.Slots.{Slots}
use Rattle.types.proofs.NumberLemmas.{from_be_bytes-to_be_bytes_16}
use Rattle.exchange.specs.declared.request6.Reply6.{Reply6}
use Rattle.slots.specs.declared.holder.Holder.{Holder}
use Rattle.slots.specs.KeyLaws.{key6_is_key}
use Rattle.slots.specs.Maps.{Lease, address_of}
use Rattle.slots.specs.Slots.{bound_to}
use Rattle.slots.proofs.ShownLemmas.{at}
use Rattle.bindings_v6.specs.Book6.{Book6, is_free, where_free, pick, book6_at}
use Rattle.bindings_v6.specs.Kept6.{book6_in}
use Rattle.bindings_v6.specs.Slots6.{holder_of, book_of_slots}
use Rattle.slots.specs.Row.{Change, Unchanged, Offers, Withdraws, Binds, Bars, Frees, Row, drops}
use Rattle.bindings_v6.specs.Table6.{with_change, solicit_row, request_row, renew_row, confirm_row, release_row, decline_row, is_off_link, where_listed, first_listed, lookup_in, row_of, is_for_us, row6, answer6}
use Rattle.config.specs.CircuitPart.{CircuitPart, pool6_of}
use Rattle.promises.specs.Books.{IsInPool}
use Rattle.promises.proofs.PooledMaps.{Every, Between, between, and_left, of_address, of_either, of_test, of_find, every_insert, every_remove, every_live, leases_inside}

-- the limits of a circuit's pool
abbrev pub HasLimits6 : CircuitPart → Type 0
HasLimits6 part = IsPool6 (record { 0 = part.first6 }) part.count6 part.lease

pub number_of_pool6 : (part : CircuitPart) → HasLimits6 part → (n : ℕ) → IsInPool part V6 n → number6 (addr6 n) ≡ n
number_of_pool6 part limits n inside =
    let limit = limits.no_wrap in let below = inside.below in
    from_be_bytes-to_be_bytes_16 n (omega (arith, limit, below))

pub record IsPooled6 (part : CircuitPart) (b : Book6) : Type 0 where
  pub bindings : Every (λ lease. IsInPool part V6 lease.address) b.bindings

module _ (part : CircuitPart) where
  abbrev Inside : Lease → Type 0
  Inside lease = IsInPool part V6 lease.address

  abbrev InPool : Option ℕ → Type 0
  InPool o = IfSome o (IsInPool part V6)

  -- ---- what a change needs

  abbrev Fits : Change → Type 0
  Fits Unchanged = Unit {0}
  Fits (Offers a u) = Unit {0}
  Fits (Withdraws a) = Unit {0}
  Fits (Binds address until) = IsInPool part V6 address
  Fits (Bars address until) = Unit {0}
  Fits (Frees address) = Unit {0}

  changed : (k : Key6Value) (c : Change) (b : Book6) → Fits c → IsPooled6 part b → IsPooled6 part (with_change k c b)
  changed k Unchanged b fits p = p
  changed k (Offers a u) b fits p = p
  changed k (Withdraws a) b fits p = p
  changed k (Binds a u) b fits p = record { bindings = every_insert key6_is_key Inside b.bindings k (at a u) p.bindings fits }
  changed k (Bars a u) b fits p = record { bindings = every_remove key6_is_key Inside b.bindings k p.bindings }
  changed k (Frees a) b fits p = record { bindings = every_remove key6_is_key Inside b.bindings k p.bindings }

  -- ---- what is looked up

  in_between : (a : ℕ) → Between (number6 (pool6_of part).first) part.count6 a → IsInPool part V6 a
  in_between a p = record { from = p.0; below = p.1 }

  free_inside : (b : Book6) (a : ℕ) → is_free (pool6_of part) b a ≡ true → IsInPool part V6 a
  free_inside b a e = in_between a (between _ _ a (and_left _ _ e))

  of_wanted : (b : Book6) (wanted : Option ℕ) → InPool (where_free (pool6_of part) b wanted)
  of_wanted b None = tt
  of_wanted b (Some a) = of_test (IsInPool part V6) a (is_free (pool6_of part) b a) (free_inside b a)

  module _ (b : Book6) (p : IsPooled6 part b) (k : Key6Value) where
    of_bound : InPool (address_of (get b.bindings k))
    of_bound = of_address (IsInPool part V6) (get b.bindings k) (p.bindings k)

    picked : (wanted : Option ℕ) → InPool (pick (pool6_of part) b k wanted)
    picked wanted =
        of_either (IsInPool part V6) (address_of (get b.bindings k)) _ of_bound
        (of_either (IsInPool part V6) (where_free (pool6_of part) b wanted) _ (of_wanted b wanted)
        (of_find (IsInPool part V6) (is_free (pool6_of part) b) (free_inside b) (range_with_len (number6 (pool6_of part).first) part.count6)))

  -- ---- the rows

  abbrev RowFits : Row Reply6 → Type 0
  RowFits row = Fits row.change

  solicited : (found : Option ℕ) → RowFits (solicit_row found)
  solicited None = tt
  solicited (Some a) = tt

  requested : (end : ℕ) (off_link : Bool) (found : Option ℕ) → InPool found → RowFits (request_row end off_link found)
  requested end true found p = tt
  requested end false None p = tt
  requested end false (Some a) p = p

  renewed : (end : ℕ) (listed : List Addr6) (bound : Option ℕ) → InPool bound → RowFits (renew_row end listed bound)
  renewed end listed None p = tt
  renewed end listed (Some a) p = p

  confirmed : (listed : List Addr6) (off_link : Bool) → RowFits (confirm_row listed off_link)
  confirmed [] off_link = tt
  confirmed (x ∷ xs) true = tt
  confirmed (x ∷ xs) false = tt

  released : (bound : Option ℕ) (listed : Bool) → RowFits (release_row bound listed)
  released None listed = tt
  released (Some a) true = tt
  released (Some a) false = tt

  declined : (t : ℕ) (bound : Option ℕ) (listed : Bool) → RowFits (decline_row t bound listed)
  declined t None listed = tt
  declined t (Some a) true = tt
  declined t (Some a) false = tt

  module _ (t : ℕ) (m : Request6) (b : Book6) (p : IsPooled6 part b) where
    kind_fits : (kind : Kind6) → RowFits (row_of (pool6_of part) t (lookup_in (pool6_of part) b m) m.listed.items kind)
    kind_fits Solicit = solicited _
    kind_fits Request = requested (t + part.lease) (is_off_link (pool6_of part) m.listed.items) _ (picked b p m.key (first_listed m.listed.items))
    kind_fits Renew = renewed (t + part.lease) m.listed.items _ (of_bound b p m.key)
    kind_fits Rebind = renewed (t + part.lease) m.listed.items _ (of_bound b p m.key)
    kind_fits Confirm = confirmed m.listed.items (is_off_link (pool6_of part) m.listed.items)
    kind_fits Release = released (address_of (get b.bindings m.key)) (where_listed m.listed.items (address_of (get b.bindings m.key)))
    kind_fits Decline = declined t (address_of (get b.bindings m.key)) (where_listed m.listed.items (address_of (get b.bindings m.key)))

    row_fits : RowFits (row6 (pool6_of part) t b m)
    row_fits = by (is_for_us m.kind m.server) where
      by : (ours : Bool) → RowFits (cond ours (row_of (pool6_of part) t (lookup_in (pool6_of part) b m) m.listed.items m.kind) (drops reason.OtherServer Unchanged))
      by true = kind_fits m.kind
      by false = tt

  -- ---- every decision, every clock

  pub decided6 : (t : ℕ) (m : Request6) (b : Book6) → IsPooled6 part b → IsPooled6 part (answer6 (pool6_of part) t b m).book
  unfolding answer6
  decided6 t m b p = changed m.key _ b (row_fits t m b p) p

  pub bound_in_pool6 : (t : ℕ) (m : Request6) (b : Book6) → IsPooled6 part b → (address until : ℕ)
      → get (answer6 (pool6_of part) t b m).book.bindings m.key ≡ Some (record { address = address; until = until }) → IsInPool part V6 address
  bound_in_pool6 t m b p address until bound = subst (λ (o : Option Lease). IfSome o Inside) bound ((decided6 t m b p).bindings m.key)

  pub later6 : (t : ℕ) (b : Book6) → IsPooled6 part b → IsPooled6 part (book6_at t b)
  unfolding book6_at
  later6 t b p = record { bindings = every_live key6_is_key Inside t b.bindings p.bindings }

  -- ---- what a region's slots mean

  abbrev held : Slots → Slot6 → Option (Holder Key6Value)
  held slots slot = holder_of (live6 slots.clock slot)

  past_is_free : (slots : Slots) → ((i : ℕ) → part.count6 ≤ i → get_or slots.six i slot6.Free ≡ slot6.Free)
      → (i : ℕ) → part.count6 ≤ i → bound_to (get_or (map (held slots) slots.six) i None) ≡ None
  past_is_free slots past i h = ap bound_to (get_or-map (held slots) slots.six i slot6.Free ∙ ap (held slots) (past i h))

  -- that it is a book at the region's clock is begun_is_a_book, of bindings_v6
  pub begun6 : (slots : Slots) → ((i : ℕ) → part.count6 ≤ i → get_or slots.six i slot6.Free ≡ slot6.Free) → IsPooled6 part (book6_in (pool6_of part) slots)
  begun6 slots past =
      let first = number6 (pool6_of part).first in
      let ss = map (held slots) slots.six in
      later6 slots.clock (book_of_slots first ss) (record { bindings = leases_inside key6_is_key (IsInPool part V6) bound_to first part.count6 ss in_between (past_is_free slots past) })
