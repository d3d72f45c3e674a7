-- A client's lease is changed by the client alone.
use Rattle.std.proofs.Common.{◌≡◌, ◌⊎◌, inl, inr, ℕ, ◌+◌, ◌<◌, Bool, true, false, cond, List, [], ◌∷◌, refl, sym, ap, ◌∙◌, arith}
use Rattle.std.specs.Prelude.{Option, Some, None}
use Rattle.std.specs.FinMap.{get}
use Rattle.std.proofs.lemmas.Bool.Decides.{nat_tests}
use Rattle.slots.specs.KeyLaws.{key6_is_key}
use Rattle.slots.specs.Maps.{Lease, is_live, address_of}
use Rattle.slots.proofs.ShownLemmas.{at, same_is, keep, get-live_clients}
use Rattle.types.specs.Key6.{Key6Value, same_key6}
use Rattle.types.specs.Pool6.{Pool6Value}
use Rattle.types.specs.declared.addr.Addr6.{Addr6}
use Rattle.types.specs.declared.discard.Discard.TheVariants as reason
use Rattle.types.specs.declared.kind6.Kind6.{Kind6}
use Rattle.types.specs.declared.kind6.Kind6.TheVariants.{Solicit, Request, Confirm, Renew, Rebind, Release, Decline}
use Rattle.exchange.specs.declared.request6.Request6.{Request6}
use Rattle.bindings_v6.specs.Book6.{Book6, pick, book6_at}
use Rattle.bindings_v6.specs.IsBook6.{KeepsItsLease}
use Rattle.slots.specs.Row.{Change, Unchanged, Offers, Withdraws, Binds, Bars, Frees, is_kept, drops}
use Rattle.bindings_v6.specs.Table6.{with_change, is_listed, is_off_link, where_listed, first_listed, solicit_row, request_row, renew_row, confirm_row, release_row, decline_row, Lookup, lookup_in, row_of, is_for_us, row6, answer6}
use Rattle.bindings_v6.proofs.LawLemmas.{kept_apart, bound_after, OfRow}

module _ (pool : Pool6Value) (t : ℕ) (m : Request6) (address : ℕ) where
  -- the client declined or released the address
  abbrev GivesUp : Kind6 → Type 0
  GivesUp kind = ((kind ≡ Release) ⊎ (kind ≡ Decline)) × (is_listed m.listed.items address ≡ true)

  -- what a change makes of the client's lease of the address
  abbrev Spares : Kind6 → Change → Type 0
  Spares kind Unchanged = Unit {0}
  Spares kind (Offers a u) = Unit {0}
  Spares kind (Withdraws a) = Unit {0}
  Spares kind (Binds n until) = (n ≡ address) × (until ≡ t + pool.lease)
  Spares kind (Bars n until) = GivesUp kind
  Spares kind (Frees n) = GivesUp kind

  solicited : (picked : Option ℕ) → Spares Solicit (solicit_row picked).change
  solicited (Some n) = tt
  solicited None = tt

  requested : (off : Bool) (picked : Option ℕ) → ((n : ℕ) → picked ≡ Some n → n ≡ address) → Spares Request (request_row (t + pool.lease) off picked).change
  requested true picked is = tt
  requested false (Some n) is = (is n refl, refl)
  requested false None is = tt

  extended : (kind : Kind6) (binding : Option ℕ) → binding ≡ Some address → Spares kind (renew_row (t + pool.lease) m.listed.items binding).change
  extended kind (Some n) e = let same : n ≡ address = cc in (same, refl)
  extended kind None e = tt

  confirmed : (listed : List Addr6) (off : Bool) → Spares Confirm (confirm_row listed off).change
  confirmed [] off = tt
  confirmed (x ∷ xs) true = tt
  confirmed (x ∷ xs) false = tt

  released : (binding : Option ℕ) (listed : Bool) → (listed ≡ true → is_listed m.listed.items address ≡ true) → Spares Release (release_row binding listed).change
  released (Some n) true is = (inl refl, is refl)
  released (Some n) false is = tt
  released None listed is = tt

  declined : (binding : Option ℕ) (listed : Bool) → (listed ≡ true → is_listed m.listed.items address ≡ true) → Spares Decline (decline_row t binding listed).change
  declined (Some n) true is = (inr refl, is refl)
  declined (Some n) false is = tt
  declined None listed is = tt

  module _ (found : Lookup) (e : found.binding ≡ Some address) (picked : (n : ℕ) → found.pick ≡ Some n → n ≡ address) where
    is_it : where_listed m.listed.items found.binding ≡ true → is_listed m.listed.items address ≡ true
    is_it h = ap (where_listed m.listed.items) (sym e) ∙ h

    kind_spares : (kind : Kind6) → Spares kind (row_of pool t found m.listed.items kind).change
    kind_spares Solicit = solicited found.pick
    kind_spares Request = requested (is_off_link pool m.listed.items) found.pick picked
    kind_spares Renew = extended Renew found.binding e
    kind_spares Rebind = extended Rebind found.binding e
    kind_spares Confirm = confirmed m.listed.items (is_off_link pool m.listed.items)
    kind_spares Release = released found.binding _ is_it
    kind_spares Decline = declined found.binding _ is_it

-- the lease after a change, or its end
abbrev Stays : Pool6Value → ℕ → Request6 → Key6Value → Lease → Book6 → Change → Type 0
Stays pool t m client lease b c =
    ((until : ℕ) × ((until ≡ lease.until) ⊎ (until ≡ t + pool.lease)) × (get (with_change m.key c b).bindings client ≡ Some (at lease.address until)))
    ⊎ ((m.key ≡ client) × (is_kept c ≡ true) × ((m.kind ≡ Release) ⊎ (m.kind ≡ Decline)) × (is_listed m.listed.items lease.address ≡ true))

module _ (pool : Pool6Value) (t : ℕ) (m : Request6) (b : Book6) (client : Key6Value) (lease : Lease) (e : get b.bindings client ≡ Some lease) where
  other_stays : same_key6 client m.key ≡ false → (c : Change) → Stays pool t m client lease b c
  other_stays apart c = inl (lease.until, inl refl, kept_apart m.key client apart c b ∙ e)

  own_stays : client ≡ m.key → (c : Change) → Spares pool t m lease.address m.kind c → Stays pool t m client lease b c
  own_stays same Unchanged s = inl (lease.until, inl refl, e)
  own_stays same (Offers a u) s = inl (lease.until, inl refl, e)
  own_stays same (Withdraws a) s = inl (lease.until, inl refl, e)
  own_stays same (Binds n until) s =
      inl (until, inr s.1, ap (get (with_change m.key (Binds n until) b).bindings) same ∙ bound_after m.key n until b ∙ ap (λ a. Some (at a until)) s.0)
  own_stays same (Bars n until) s = inr (sym same, refl, s.0, s.1)
  own_stays same (Frees n) s = inr (sym same, refl, s.0, s.1)

  module _ (same : client ≡ m.key) where
    bound : address_of (get b.bindings m.key) ≡ Some lease.address
    bound = ap (λ q. address_of (get b.bindings q)) (sym same) ∙ ap address_of e

    picked : (n : ℕ) → pick pool b m.key (first_listed m.listed.items) ≡ Some n → n ≡ lease.address
    picked n is = let first : Some lease.address ≡ Some n = rw bound at is in cc

    row_spares : Spares pool t m lease.address m.kind (row6 pool t b m).change
    row_spares = by (is_for_us m.kind m.server) where
      by : (ours : Bool) → Spares pool t m lease.address m.kind (cond ours (OfRow pool t b m m.kind) (drops reason.OtherServer Unchanged)).change
      by true = kind_spares pool t m lease.address (lookup_in pool b m) bound picked m.kind
      by false = tt

pub lease_kept : (pool : Pool6Value) (t : ℕ) (m : Request6) → KeepsItsLease pool t m
unfolding answer6
lease_kept pool t m b client lease book e = by (same_key6 client m.key) refl where
  by : (r : Bool) → same_key6 client m.key ≡ r → Stays pool t m client lease b (row6 pool t b m).change
  by false apart = other_stays pool t m b client lease e apart _
  by true is = let same = same_is key6_is_key client m.key is in own_stays pool t m b client lease e same _ (row_spares pool t m b client lease e same)

live_lease : (later : ℕ) (lease : Lease) → later < lease.until → keep later (Some lease) ≡ Some lease
live_lease later lease h = let is : is_live later lease.until ≡ true = grind (arith, nat_tests) in ap (λ b. cond b (Some lease) None) is

pub lease_lasts : (later : ℕ) (b : Book6) (client : Key6Value) (lease : Lease) → get b.bindings client ≡ Some lease → later < lease.until → get (book6_at later b).bindings client ≡ Some lease
unfolding book6_at
lease_lasts later b client lease e h = get-live_clients key6_is_key later b.bindings client ∙ ap (keep later) e ∙ live_lease later lease h
