-- What a circuit's book binds or offers for DHCPv4 stays in the circuit's pool.
use Rattle.std.proofs.Common.{◌≡◌, ℕ, ◌+◌, ◌≤◌, Bool, true, false, cond, List, map, get_or, refl, sym, ap, subst, ◌∙◌, arith}
use Rattle.std.specs.Prelude.{Option, Some, None, option_map, IfSome, ◌==◌}
use Rattle.std.specs.List.{range_with_len}
use Rattle.std.specs.Ordering.{nat_cmp}
use Rattle.std.specs.Cmp.Lexicographic.{slice_cmp}
use Rattle.std.specs.FinMap.{get, get-empty}
use Rattle.std.proofs.Math.ListN.{get_or-map}
use Rattle.std.proofs.lemmas.Nat.{from_be_bytes-to_be_bytes_4}
use Rattle.types.specs.Addr.{number4, addr4}
use Rattle.types.specs.Pool4.{IsPool4}
use Rattle.types.specs.Slots.{live4}
use Rattle.types.specs.declared.dest.Proto.TheVariants.{V4}
use Rattle.types.specs.declared.kind4.Kind4.{Kind4}
use Rattle.types.specs.declared.kind4.Kind4.TheVariants.{Discover, Offer, Request, Decline, Ack, Nak, Release, Inform}
use Rattle.exchange.specs.declared.request4.Reply4.TheVariants as reply
use Rattle.exchange.specs.declared.request4.Request4.{Request4}
use Rattle.types.specs.declared.slot4.Slot4.{Slot4}
use Rattle.types.specs.declared.slot4.Slot4.TheVariants as slot4
use Rattle.types.specs.declared.slots.Slots.{Slots}
use Rattle.exchange.specs.declared.request4.Reply4.{Reply4}
use Rattle.slots.specs.declared.holder.Holder.{Holder}
use Rattle.slots.specs.KeyLaws.{key4_is_key}
use Rattle.slots.specs.Maps.{Lease, address_of}
use Rattle.slots.specs.Slots.{bound_to, offered_to}
use Rattle.slots.proofs.ShownLemmas.{at}
use Rattle.bindings_v4.specs.declared.server4.Server4.{Server4}
use Rattle.bindings_v4.specs.declared.server4.Server4.TheVariants.{Anybody, This, Another}
use Rattle.bindings_v4.specs.Book4.{Book4, is_free, where_free, pick, book4_at}
use Rattle.bindings_v4.specs.Kept4.{book4_in, kept_book}
use Rattle.bindings_v4.specs.Slots4.{holder_of, book_of_slots}
use Rattle.slots.specs.Row.{Change, Unchanged, Offers, Withdraws, Binds, Bars, Frees, Row, replies}
use Rattle.bindings_v4.specs.Table4.{with_change, grants, discover_row, other_server_row, selecting_row, known_address_row, no_server_row, decline_row, release_row, inform_row, where_is, where_specified, server_of, lookup_in, row_of, answer4}
use Rattle.config.specs.CircuitPart.{CircuitPart, pool4_of}
use Rattle.promises.specs.Books.{IsInPool}
use Rattle.promises.proofs.PooledMaps.{Every, Between, between, and_left, of_address, of_either, of_test, of_find, every_insert, every_remove, every_live, leases_inside}

-- the limits of a circuit's pool
abbrev pub HasLimits4 : CircuitPart → Type 0
HasLimits4 part = IsPool4 part.first4 part.count4 part.lease

pub number_of_pool4 : (part : CircuitPart) → HasLimits4 part → (n : ℕ) → IsInPool part V4 n → number4 (addr4 n) ≡ n
number_of_pool4 part limits n inside =
    let limit = limits.no_wrap in let below = inside.below in
    from_be_bytes-to_be_bytes_4 n (omega (arith, limit, below))

pub record IsPooled4 (part : CircuitPart) (b : Book4) : Type 0 where
  pub bindings : Every (λ lease. IsInPool part V4 lease.address) b.bindings
  pub offers : Every (λ lease. IsInPool part V4 lease.address) b.offers

module _ (part : CircuitPart) where
  abbrev Inside : Lease → Type 0
  Inside lease = IsInPool part V4 lease.address

  abbrev InPool : Option ℕ → Type 0
  InPool o = IfSome o (IsInPool part V4)

  -- ---- what a change needs

  abbrev Fits : Change → Type 0
  Fits Unchanged = Unit {0}
  Fits (Offers address until) = IsInPool part V4 address
  Fits (Withdraws address) = Unit {0}
  Fits (Binds address until) = IsInPool part V4 address
  Fits (Bars address until) = Unit {0}
  Fits (Frees address) = Unit {0}

  changed : (k : List ℕ) (c : Change) (b : Book4) → Fits c → IsPooled4 part b → IsPooled4 part (with_change k c b)
  changed k Unchanged b fits p = p
  changed k (Offers a u) b fits p = record { bindings = p.bindings; offers = every_insert key4_is_key Inside b.offers k (at a u) p.offers fits }
  changed k (Withdraws a) b fits p = record { bindings = p.bindings; offers = every_remove key4_is_key Inside b.offers k p.offers }
  changed k (Binds a u) b fits p = record { bindings = every_insert key4_is_key Inside b.bindings k (at a u) p.bindings fits; offers = every_remove key4_is_key Inside b.offers k p.offers }
  changed k (Bars a u) b fits p = record { bindings = every_remove key4_is_key Inside b.bindings k p.bindings; offers = p.offers }
  changed k (Frees a) b fits p = record { bindings = every_remove key4_is_key Inside b.bindings k p.bindings; offers = p.offers }

  -- ---- what is looked up

  in_between : (a : ℕ) → Between (number4 part.first4) part.count4 a → IsInPool part V4 a
  in_between a p = record { from = p.0; below = p.1 }

  of_where : (held named : Option ℕ) → InPool held → InPool (where_is held named)
  of_where None None p = tt
  of_where None (Some n) p = tt
  of_where (Some a) None p = tt
  of_where (Some a) (Some n) p = of_test (IsInPool part V4) a (a == n) (λ same. p)

  free_inside : (b : Book4) (a : ℕ) → is_free (pool4_of part) b a ≡ true → IsInPool part V4 a
  free_inside b a e = in_between a (between _ _ a (and_left _ _ e))

  of_wanted : (b : Book4) (wanted : Option ℕ) → InPool (where_free (pool4_of part) b wanted)
  of_wanted b None = tt
  of_wanted b (Some a) = of_test (IsInPool part V4) a (is_free (pool4_of part) b a) (free_inside b a)

  module _ (b : Book4) (p : IsPooled4 part b) (k : List ℕ) where
    of_bound : InPool (address_of (get b.bindings k))
    of_bound = of_address (IsInPool part V4) (get b.bindings k) (p.bindings k)

    of_offered : InPool (address_of (get b.offers k))
    of_offered = of_address (IsInPool part V4) (get b.offers k) (p.offers k)

    picked : (wanted : Option ℕ) → InPool (pick (pool4_of part) b k wanted)
    picked wanted =
        of_either (IsInPool part V4) (address_of (get b.bindings k)) _ of_bound
        (of_either (IsInPool part V4) (address_of (get b.offers k)) _ of_offered
        (of_either (IsInPool part V4) (where_free (pool4_of part) b wanted) _ (of_wanted b wanted)
        (of_find (IsInPool part V4) (is_free (pool4_of part) b) (free_inside b) (range_with_len (number4 part.first4) part.count4))))

  -- ---- the rows

  abbrev RowFits : Row Reply4 → Type 0
  RowFits row = Fits row.change

  discovered : (t : ℕ) (picked bound : Option ℕ) → InPool picked → RowFits (discover_row t picked bound)
  discovered t None bound p = tt
  discovered t (Some a) (Some n) p = tt
  discovered t (Some a) None p = p

  other_server : (offer : Option ℕ) → RowFits (other_server_row offer)
  other_server None = tt
  other_server (Some a) = tt

  selected : (end : ℕ) (wanted held : Option ℕ) → InPool held → RowFits (selecting_row end wanted held)
  selected end None held p = tt
  selected end (Some w) (Some a) p = p
  selected end (Some w) None p = tt

  known : (end : ℕ) (is_in : Bool) (bound : Option ℕ) (a : ℕ) → InPool bound → RowFits (known_address_row end is_in bound a)
  known end false bound a p = tt
  known end true None a p = tt
  known end true (Some n) a p = by (n == a) where
    by : (r : Bool) → RowFits (cond r (grants n end) (replies reply.Nak Unchanged))
    by true = p
    by false = tt

  requested : (end : ℕ) (bound wanted ciaddr : Option ℕ) → InPool bound → RowFits (no_server_row (pool4_of part) end bound wanted ciaddr)
  requested end bound (Some w) (Some c) p = tt
  requested end bound None None p = tt
  requested end bound (Some w) None p = known end _ bound w p
  requested end bound None (Some c) p = known end _ bound c p

  declined : (t : ℕ) (bound : Option ℕ) → RowFits (decline_row t bound)
  declined t None = tt
  declined t (Some a) = tt

  released : (bound : Option ℕ) → RowFits (release_row bound)
  released None = tt
  released (Some a) = tt

  informed : (ciaddr : Option ℕ) → RowFits (inform_row ciaddr)
  informed None = tt
  informed (Some a) = tt

  module _ (t : ℕ) (m : Request4) (b : Book4) (p : IsPooled4 part b) where
    row_fits : (kind : Kind4) (server : Server4) → RowFits (row_of (pool4_of part) t (lookup_in (pool4_of part) b m) m kind server)
    row_fits Discover server = discovered t _ _ (picked b p m.key (option_map number4 m.wanted))
    row_fits Request Another = other_server _
    row_fits Request This =
        let wanted = option_map number4 m.wanted in
        selected (t + part.lease) wanted _ (of_either (IsInPool part V4) (where_is (address_of (get b.bindings m.key)) wanted) _
        (of_where (address_of (get b.bindings m.key)) wanted (of_bound b p m.key)) (of_where (address_of (get b.offers m.key)) wanted (of_offered b p m.key)))
    row_fits Request Anybody = requested (t + part.lease) _ (option_map number4 m.wanted) (where_specified m.ciaddr) (of_bound b p m.key)
    row_fits Decline Another = tt
    row_fits Decline This = declined t _
    row_fits Decline Anybody = declined t _
    row_fits Release Another = tt
    row_fits Release This = released _
    row_fits Release Anybody = released _
    row_fits Inform Another = tt
    row_fits Inform This = informed _
    row_fits Inform Anybody = informed _
    row_fits Offer server = tt
    row_fits Ack server = tt
    row_fits Nak server = tt

  -- ---- every decision, every clock, what is kept

  pub decided4 : (t : ℕ) (m : Request4) (b : Book4) → IsPooled4 part b → IsPooled4 part (answer4 (pool4_of part) t b m).book
  unfolding answer4
  decided4 t m b p = changed m.key _ b (row_fits t m b p m.kind (server_of (pool4_of part) m.server)) p

  pub bound_in_pool4 : (t : ℕ) (m : Request4) (b : Book4) → IsPooled4 part b → (address until : ℕ)
      → get (answer4 (pool4_of part) t b m).book.bindings m.key ≡ Some (record { address = address; until = until }) → IsInPool part V4 address
  bound_in_pool4 t m b p address until bound = subst (λ (o : Option Lease). IfSome o Inside) bound ((decided4 t m b p).bindings m.key)

  pub later4 : (t : ℕ) (b : Book4) → IsPooled4 part b → IsPooled4 part (book4_at t b)
  unfolding book4_at
  later4 t b p = record { bindings = every_live key4_is_key Inside t b.bindings p.bindings; offers = every_live key4_is_key Inside t b.offers p.offers }

  pub kept4 : (b : Book4) → IsPooled4 part b → IsPooled4 part (kept_book b)
  kept4 b p = record { bindings = p.bindings; offers = λ q. subst (λ (o : Option Lease). IfSome o Inside) (sym (get-empty (slice_cmp nat_cmp) q)) tt }

  -- ---- what a region's slots mean

  abbrev held : Slots → Slot4 → Option (Holder (List ℕ))
  held slots slot = holder_of (live4 slots.clock slot)

  past_is_free : (f : Option (Holder (List ℕ)) → Option (List ℕ × ℕ)) → f None ≡ None → (slots : Slots) → ((i : ℕ) → part.count4 ≤ i → get_or slots.four i slot4.Free ≡ slot4.Free)
      → (i : ℕ) → part.count4 ≤ i → f (get_or (map (held slots) slots.four) i None) ≡ None
  past_is_free f none slots past i h = ap f (get_or-map (held slots) slots.four i slot4.Free ∙ ap (held slots) (past i h)) ∙ none

  -- that it is a book at the region's clock is begun_is_a_book, of bindings_v4
  pub begun4 : (slots : Slots) → ((i : ℕ) → part.count4 ≤ i → get_or slots.four i slot4.Free ≡ slot4.Free) → IsPooled4 part (book4_in (pool4_of part) slots)
  begun4 slots past =
      let first = number4 part.first4 in
      let ss = map (held slots) slots.four in
      later4 slots.clock (book_of_slots first ss) (record {
        bindings = leases_inside key4_is_key (IsInPool part V4) bound_to first part.count4 ss in_between (past_is_free bound_to refl slots past);
        offers = leases_inside key4_is_key (IsInPool part V4) offered_to first part.count4 ss in_between (past_is_free offered_to refl slots past);
      })
