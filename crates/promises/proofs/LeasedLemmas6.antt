-- What a DHCPv6 decision leases is kept, and is the client's own.
use Rattle.std.proofs.Common.{◌≡◌, ℕ, ◌+◌, Bool, true, false, cond, List, [], ◌∷◌, refl, ap, ◌∙◌}
use Rattle.std.specs.Prelude.{Option, Some, None, Result, Ok, Err}
use Rattle.std.specs.FinMap.{get}
use Rattle.types.specs.Addr.{addr6}
use Rattle.types.specs.Pool6.{IsPool6, Pool6Value}
use Rattle.types.specs.declared.addr.Addr6.{Addr6}
use Rattle.types.specs.declared.discard.Discard.{Discard}
use Rattle.types.specs.declared.discard.Discard.TheVariants as reason
use Rattle.types.specs.declared.kind6.Kind6.{Kind6}
use Rattle.types.specs.declared.kind6.Kind6.TheVariants.{Solicit, Request, Confirm, Renew, Rebind, Release, Decline}
use Rattle.exchange.specs.declared.request6.Reply6.{Reply6}
use Rattle.exchange.specs.declared.request6.ReplyIa.{ReplyIa}
use Rattle.exchange.specs.declared.request6.ReplyIa.TheVariants as reply_ia
use Rattle.exchange.specs.declared.request6.ReplyKind6.{ReplyKind6}
use Rattle.exchange.specs.declared.request6.ReplyKind6.TheVariants.{Advertise, Reply}
use Rattle.exchange.specs.declared.request6.Request6.{Request6}
use Rattle.bindings_v6.specs.Book6.{Book6}
use Rattle.bindings_v6.specs.IsBook6.{Entry, TheBinding, Names, IsBook6}
use Rattle.slots.specs.Row.{Unchanged, is_kept, Row, drops}
use Rattle.bindings_v6.specs.Table6.{grants, others, solicit_row, request_row, renew_row, confirm_row, release_row, decline_row, is_off_link, where_listed, Lookup, lookup_in, row_of, is_for_us, row6, answer6}
use Rattle.bindings_v6.proofs.LawLemmas.{own_granted}

-- ---- which answers lease an address

abbrev given : ReplyIa → Option Addr6
given reply_ia.None = None
given (reply_ia.Status status) = None
given (reply_ia.Given zeroed address) = Some address

abbrev by_kind : ReplyKind6 → Option Addr6 → Option Addr6
by_kind Advertise address = None
by_kind Reply address = address

-- the address that an answer leases, where it does
abbrev leased : Result Reply6 Discard → Option Addr6
leased (Ok reply) = by_kind reply.kind (given reply.ia)
leased (Err why) = None

-- ---- a row that leases an address binds it

record Granted (x : Addr6) (row : Row Reply6) : Type 0 where
  zeroed : List Addr6
  address : ℕ
  until : ℕ
  is : row ≡ grants zeroed address until
  same : x ≡ addr6 address

abbrev LeasesByGrant : Row Reply6 → Type 0
LeasesByGrant row = (x : Addr6) → leased row.answer ≡ Some x → Granted x row

by_grant : (zeroed : List Addr6) (a until : ℕ) → LeasesByGrant (grants zeroed a until)
by_grant zeroed a until x e = record { zeroed = zeroed; address = a; until = until; is = refl; same = cc }

solicited : (picked : Option ℕ) → LeasesByGrant (solicit_row picked)
solicited None x e = absurd cc
solicited (Some a) x e = absurd cc

requested : (end : ℕ) (off_link : Bool) (picked : Option ℕ) → LeasesByGrant (request_row end off_link picked)
requested end true picked x e = absurd cc
requested end false None x e = absurd cc
requested end false (Some a) x e = by_grant [] a end x e

renewed : (end : ℕ) (listed : List Addr6) (bound : Option ℕ) → LeasesByGrant (renew_row end listed bound)
renewed end listed None x e = absurd cc
renewed end listed (Some a) x e = by_grant (others a listed) a end x e

confirmed : (listed : List Addr6) (off_link : Bool) → LeasesByGrant (confirm_row listed off_link)
confirmed [] off_link x e = absurd cc
confirmed (y ∷ ys) true x e = absurd cc
confirmed (y ∷ ys) false x e = absurd cc

released : (bound : Option ℕ) (is_listed : Bool) → LeasesByGrant (release_row bound is_listed)
released None is_listed x e = absurd cc
released (Some a) true x e = absurd cc
released (Some a) false x e = absurd cc

declined : (t : ℕ) (bound : Option ℕ) (is_listed : Bool) → LeasesByGrant (decline_row t bound is_listed)
declined t None is_listed x e = absurd cc
declined t (Some a) true x e = absurd cc
declined t (Some a) false x e = absurd cc

kind_leases : (pool : Pool6Value) (t : ℕ) (found : Lookup) (listed : List Addr6) (kind : Kind6) → LeasesByGrant (row_of pool t found listed kind)
kind_leases pool t found listed Solicit = solicited found.pick
kind_leases pool t found listed Request = requested (t + pool.lease) (is_off_link pool listed) found.pick
kind_leases pool t found listed Renew = renewed (t + pool.lease) listed found.binding
kind_leases pool t found listed Rebind = renewed (t + pool.lease) listed found.binding
kind_leases pool t found listed Confirm = confirmed listed (is_off_link pool listed)
kind_leases pool t found listed Release = released found.binding (where_listed listed found.binding)
kind_leases pool t found listed Decline = declined t found.binding (where_listed listed found.binding)

row_leases : (pool : Pool6Value) (t : ℕ) (b : Book6) (m : Request6) → LeasesByGrant (row6 pool t b m)
row_leases pool t b m = by (is_for_us m.kind m.server) where
  by : (ours : Bool) → LeasesByGrant (cond ours (row_of pool t (lookup_in pool b m) m.listed.items m.kind) (drops reason.OtherServer Unchanged))
  by true x e = kind_leases pool t (lookup_in pool b m) m.listed.items m.kind x e
  by false x e = absurd cc

-- ---- a Reply that gives an address

leases : (answer : Result Reply6 Discard) (r : Reply6) (zeroed : _) (x : Addr6) → answer ≡ Ok r → r.kind ≡ Reply → r.ia ≡ reply_ia.Given zeroed x → leased answer ≡ Some x
leases answer r zeroed x e kind ia = ap leased e ∙ ap (λ k. by_kind k (given r.ia)) kind ∙ ap given ia

-- it is kept; an Advertise is not
pub reply_kept : (pool : Pool6Value) (t : ℕ) (b : Book6) (m : Request6) (r : Reply6) (zeroed : _) (x : Addr6) → (answer6 pool t b m).answer ≡ Ok r → r.kind ≡ Reply → r.ia ≡ reply_ia.Given zeroed x
    → (answer6 pool t b m).is_kept ≡ true
unfolding answer6
reply_kept pool t b m r zeroed x e kind ia =
    ap (λ (row : Row Reply6). is_kept row.change) (row_leases pool t b m x (leases _ r zeroed x e kind ia)).is

-- it leases what nobody but the client had
pub own_granted6 : (pool : Pool6Value) → IsPool6 pool.first pool.count pool.lease → (t : ℕ) (m : Request6) (b : Book6) → IsBook6 t b
    → (r : Reply6) (zeroed : _) (x : Addr6) → (answer6 pool t b m).answer ≡ Ok r → r.kind ≡ Reply → r.ia ≡ reply_ia.Given zeroed x
    → (n : ℕ) × (x ≡ addr6 n)
    × (get (answer6 pool t b m).book.bindings m.key ≡ Some (record { address = n; until = t + pool.lease }))
    × ((entry : Entry) → Names b n entry → entry ≡ TheBinding m.key)
unfolding answer6
own_granted6 pool limits t m b book r zeroed x e kind ia =
    let i = row_leases pool t b m x (leases _ r zeroed x e kind ia) in
    let own = own_granted pool limits t m b book i.zeroed i.address (ap (λ (row : Row Reply6). row.answer) i.is) in
    (own.0, i.same ∙ own.1, own.2, own.3)
