-- A client's lease is changed by the client alone.
use Rattle.std.proofs.Common.{◌≡◌, ◌⊎◌, inl, inr, ℕ, ◌+◌, ◌<◌, Bool, true, false, cond, eqb, List, refl, sym, ap, subst, ◌∙◌, arith}
use Rattle.std.specs.Prelude.{Option, Some, None, IfSome, ◌==◌, option_map}
use Rattle.std.specs.FinMap.{get}
use Rattle.std.specs.Str.{bytes_eq}
use Rattle.std.proofs.lemmas.Bool.Decides.{nat_tests}
use Rattle.std.specs.Option.{option_or}
use Rattle.slots.specs.KeyLaws.{key4_is_key}
use Rattle.slots.specs.Maps.{Lease, is_live, address_of}
use Rattle.slots.proofs.ShownLemmas.{at, same_is, keep, get-live_clients}
use Rattle.types.specs.Addr.{number4}
use Rattle.types.specs.Pool4.{PoolValue}
use Rattle.types.specs.declared.kind4.Kind4.{Kind4}
use Rattle.types.specs.declared.kind4.Kind4.TheVariants.{Discover, Offer, Request, Decline, Ack, Nak, Release, Inform}
use Rattle.exchange.specs.declared.request4.Reply4.TheVariants as reply
use Rattle.exchange.specs.declared.request4.Request4.{Request4}
use Rattle.bindings_v4.specs.declared.server4.Server4.{Server4}
use Rattle.bindings_v4.specs.declared.server4.Server4.TheVariants.{Anybody, This, Another}
use Rattle.bindings_v4.specs.Book4.{Book4, in_pool, book4_at}
use Rattle.bindings_v4.specs.IsBook4.{IsBook4, KeepsItsLease}
use Rattle.slots.specs.Row.{Change, Unchanged, Offers, Withdraws, Binds, Bars, Frees, is_kept, replies}
use Rattle.bindings_v4.specs.Table4.{with_change, grants, discover_row, other_server_row, selecting_row, known_address_row, no_server_row, decline_row, release_row, inform_row, where_is, where_specified, server_of, Lookup, lookup_in, row_of, answer4}
use Rattle.bindings_v4.proofs.LawLemmas.{kept_apart, bound_after}

-- the address that was named is the one that was found
record IsNamed (address n : ℕ) (named : Option ℕ) : Type 0 where
  same : n ≡ address
  is : named ≡ Some address

named_own : (address : ℕ) (found named : Option ℕ) → found ≡ Some address → (n : ℕ) → where_is found named ≡ Some n → IsNamed address n named
named_own address None named e n is = absurd cc
named_own address (Some held) None e n is = absurd cc
named_own address (Some held) (Some x) e n is = by (held == x) refl is where
  by : (b : Bool) → (held == x) ≡ b → cond b (Some held) None ≡ Some n → IsNamed address n (Some x)
  by true same is =
      let first : held ≡ address = cc in
      let second : held ≡ n = cc in
      let third : held ≡ x = grind (arith, nat_tests, same) in
      record { same = sym second ∙ first; is = ap Some (sym third ∙ first) }
  by false same is = absurd cc

module _ (pool : PoolValue) (t : ℕ) (m : Request4) (address : ℕ) where
  -- the client declined or released the address
  abbrev GivesUp : Kind4 → Type 0
  GivesUp kind = ((kind ≡ Decline) × (option_map number4 m.wanted ≡ Some address)) ⊎ ((kind ≡ Release) × (number4 m.ciaddr ≡ address))

  -- what a change makes of the client's lease of the address
  abbrev Spares : Kind4 → Change → Type 0
  Spares kind Unchanged = Unit {0}
  Spares kind (Offers n until) = Unit {0}
  Spares kind (Withdraws n) = Unit {0}
  Spares kind (Binds n until) = (n ≡ address) × (until ≡ t + pool.lease)
  Spares kind (Bars n until) = GivesUp kind
  Spares kind (Frees n) = GivesUp kind

  discovered : (pick binding : Option ℕ) → Spares Discover (discover_row t pick binding).change
  discovered None binding = tt
  discovered (Some n) (Some bound) = tt
  discovered (Some n) None = tt

  to_another : (offered : Option ℕ) → Spares Request (other_server_row offered).change
  to_another None = tt
  to_another (Some n) = tt

  selected : (wanted held : Option ℕ) → ((n : ℕ) → held ≡ Some n → n ≡ address) → Spares Request (selecting_row (t + pool.lease) wanted held).change
  selected None held is = tt
  selected (Some wanted) (Some n) is = (is n refl, refl)
  selected (Some wanted) None is = tt

  verified : (inside : Bool) (binding : Option ℕ) (n : ℕ) → binding ≡ Some address → Spares Request (known_address_row (t + pool.lease) inside binding n).change
  verified false binding n e = tt
  verified true None n e = tt
  verified true (Some bound) n e = by (eqb bound n) where
    by : (b : Bool) → Spares Request (cond b (grants bound (t + pool.lease)) (replies reply.Nak Unchanged)).change
    by true = let same : bound ≡ address = cc in (same, refl)
    by false = tt

  requested : (binding wanted ciaddr : Option ℕ) → binding ≡ Some address → Spares Request (no_server_row pool (t + pool.lease) binding wanted ciaddr).change
  requested binding (Some wanted) (Some ciaddr) e = tt
  requested binding None None e = tt
  requested binding (Some wanted) None e = verified (in_pool pool wanted) binding wanted e
  requested binding None (Some ciaddr) e = verified (in_pool pool ciaddr) binding ciaddr e

  declined : (bound : Option ℕ) → ((n : ℕ) → bound ≡ Some n → option_map number4 m.wanted ≡ Some address) → Spares Decline (decline_row t bound).change
  declined (Some bound) is = inl (refl, is bound refl)
  declined None is = tt

  released : (bound : Option ℕ) → ((n : ℕ) → bound ≡ Some n → number4 m.ciaddr ≡ address) → Spares Release (release_row bound).change
  released (Some bound) is = inr (refl, is bound refl)
  released None is = tt

  informed : (ciaddr : Option ℕ) → Spares Inform (inform_row ciaddr).change
  informed None = tt
  informed (Some ciaddr) = tt

  held_own : (binding offered wanted : Option ℕ) → binding ≡ Some address → offered ≡ None → (n : ℕ) → option_or (where_is binding wanted) (where_is offered wanted) ≡ Some n → n ≡ address
  held_own binding offered wanted e none n is = by (where_is binding wanted) refl (is_none ∙ is) where
    nowhere : (named : Option ℕ) → where_is None named ≡ None
    nowhere None = refl
    nowhere (Some n) = refl

    is_none : option_or (where_is binding wanted) None ≡ option_or (where_is binding wanted) (where_is offered wanted)
    is_none = ap (option_or (where_is binding wanted)) (sym (ap (λ o. where_is o wanted) none ∙ nowhere wanted))

    by : (o : Option ℕ) → where_is binding wanted ≡ o → option_or o None ≡ Some n → n ≡ address
    by None found is = absurd cc
    by (Some x) found is = (named_own address binding wanted e n (found ∙ is)).same

  ciaddr_is : (binding : Option ℕ) → binding ≡ Some address → (n : ℕ) → where_is binding (Some (number4 m.ciaddr)) ≡ Some n → number4 m.ciaddr ≡ address
  ciaddr_is binding e n is = let named = (named_own address binding (Some (number4 m.ciaddr)) e n is).is in cc

  module _ (found : Lookup) (e : found.binding ≡ Some address) (none : found.offer ≡ None) where
    wanted_is : (n : ℕ) → where_is found.binding (option_map number4 m.wanted) ≡ Some n → option_map number4 m.wanted ≡ Some address
    wanted_is n is = (named_own address found.binding (option_map number4 m.wanted) e n is).is

    row_spares : (kind : Kind4) (server : Server4) → Spares kind (row_of pool t found m kind server).change
    row_spares Discover server = discovered found.pick found.binding
    row_spares Request Another = to_another found.offer
    row_spares Request This = let wanted = option_map number4 m.wanted in selected wanted _ (held_own found.binding found.offer wanted e none)
    row_spares Request Anybody = requested found.binding (option_map number4 m.wanted) (where_specified m.ciaddr) e
    row_spares Decline Another = tt
    row_spares Decline This = declined _ wanted_is
    row_spares Decline Anybody = declined _ wanted_is
    row_spares Release Another = tt
    row_spares Release This = released _ (ciaddr_is found.binding e)
    row_spares Release Anybody = released _ (ciaddr_is found.binding e)
    row_spares Inform Another = tt
    row_spares Inform This = informed (where_specified m.ciaddr)
    row_spares Inform Anybody = informed (where_specified m.ciaddr)
    row_spares Offer server = tt
    row_spares Ack server = tt
    row_spares Nak server = tt

-- the lease after a change, or its end
abbrev Stays : PoolValue → ℕ → Request4 → List ℕ → Lease → Book4 → Change → Type 0
Stays pool t m client lease b c =
    ((until : ℕ) × ((until ≡ lease.until) ⊎ (until ≡ t + pool.lease)) × (get (with_change m.key c b).bindings client ≡ Some (at lease.address until)))
    ⊎ ((m.key ≡ client) × (is_kept c ≡ true) × GivesUp pool t m lease.address m.kind)

module _ (pool : PoolValue) (t : ℕ) (m : Request4) (b : Book4) (client : List ℕ) (lease : Lease) (e : get b.bindings client ≡ Some lease) where
  other_stays : bytes_eq client m.key ≡ false → (c : Change) → Stays pool t m client lease b c
  other_stays apart c = inl (lease.until, inl refl, (kept_apart m.key client apart c b).0 ∙ e)

  own_stays : client ≡ m.key → (c : Change) → Spares pool t m lease.address m.kind c → Stays pool t m client lease b c
  own_stays same Unchanged s = inl (lease.until, inl refl, e)
  own_stays same (Offers n until) s = inl (lease.until, inl refl, e)
  own_stays same (Withdraws n) s = inl (lease.until, inl refl, e)
  own_stays same (Binds n until) s =
      inl (until, inr s.1, ap (get (with_change m.key (Binds n until) b).bindings) same ∙ bound_after m.key n until b ∙ ap (λ a. Some (at a until)) s.0)
  own_stays same (Bars n until) s = inr (sym same, refl, s)
  own_stays same (Frees n) s = inr (sym same, refl, s)

  no_offer : (book : IsBook4 t b) → get b.offers client ≡ None
  no_offer book = subst (λ o. IfSome o (λ (l : Lease). get b.offers client ≡ None)) e (book.apart client)

pub lease_kept : (pool : PoolValue) (t : ℕ) (m : Request4) → KeepsItsLease pool t m
unfolding answer4
lease_kept pool t m b client lease book e = by (bytes_eq client m.key) refl where
  found : Lookup
  found = lookup_in pool b m

  by : (r : Bool) → bytes_eq client m.key ≡ r → Stays pool t m client lease b (row_of pool t found m m.kind (server_of pool m.server)).change
  by false apart = other_stays pool t m b client lease e apart _
  by true is =
      let same = same_is key4_is_key client m.key is in
      let bound : found.binding ≡ Some lease.address = ap (λ q. address_of (get b.bindings q)) (sym same) ∙ ap address_of e in
      let none : found.offer ≡ None = ap (λ q. address_of (get b.offers q)) (sym same) ∙ ap address_of (no_offer pool t m b client lease e book) in
      own_stays pool t m b client lease e same _ (row_spares pool t m lease.address found bound none m.kind (server_of pool m.server))

live_lease : (later : ℕ) (lease : Lease) → later < lease.until → keep later (Some lease) ≡ Some lease
live_lease later lease h = let is : is_live later lease.until ≡ true = grind (arith, nat_tests) in ap (λ b. cond b (Some lease) None) is

pub lease_lasts : (later : ℕ) (b : Book4) (client : List ℕ) (lease : Lease) → get b.bindings client ≡ Some lease → later < lease.until → get (book4_at later b).bindings client ≡ Some lease
unfolding book4_at
lease_lasts later b client lease e h = get-live_clients key4_is_key later b.bindings client ∙ ap (keep later) e ∙ live_lease later lease h
