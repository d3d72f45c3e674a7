-- What a DHCPv4 decision grants and ends.
use Rattle.std.proofs.Common.{◌≡◌, ◌⊎◌, inl, inr, ℕ, ◌+◌, ◌≤◌, Bool, true, false, cond, List, [], refl, sym, ap, subst, ◌∙◌}
use Rattle.std.specs.Prelude.{Option, Some, None, Result, Ok, Err, ◌==◌, if◌then◌else◌}
use Rattle.std.specs.FinMap.{get}
use Rattle.types.specs.Addr.{number4}
use Rattle.types.specs.declared.addr.Addr4.{Addr4}
use Rattle.types.specs.declared.dest.Proto.TheVariants.{V4}
use Rattle.types.specs.declared.discard.Discard.{Discard}
use Rattle.types.specs.declared.kind4.Kind4.{Kind4}
use Rattle.types.specs.declared.kind4.Kind4.TheVariants.{Discover, Offer, Request, Decline, Ack, Nak, Release, Inform}
use Rattle.types.specs.Pool4.{PoolValue}
use Rattle.exchange.specs.declared.request4.Reply4.{Reply4}
use Rattle.exchange.specs.declared.request4.Reply4.TheVariants as reply
use Rattle.exchange.specs.declared.request4.Request4.{Request4}
use Rattle.v4_message.specs.declared.fault.MessageFault.{MessageFault}
use Rattle.v4_message.specs.Spelling.{MessageValue}
use Rattle.slots.specs.Maps.{Lease, address_of}
use Rattle.bindings_v4.specs.Book4.{Book4}
use Rattle.bindings_v4.specs.IsBook4.{TheBinding, TheOffer, EndsLease}
use Rattle.bindings_v4.specs.declared.server4.Server4.{Server4}
use Rattle.bindings_v4.specs.declared.server4.Server4.TheVariants.{Anybody, This, Another}
use Rattle.slots.specs.Row.{Unchanged, Row, is_kept, replies}
use Rattle.bindings_v4.specs.Table4.{Lookup, grants, discover_row, other_server_row, selecting_row, known_address_row, no_server_row, decline_row, release_row, inform_row, server_of, lookup_in, row_of, answer4}
use Rattle.bindings_v4.proofs.LawLemmas.{own_granted}
use Rattle.bindings_v4.proofs.LeaseLemmas.{lease_kept}
use Rattle.config.specs.CircuitPart.{CircuitPart, pool4_of}
use Rattle.requests.specs.Request4.{request4_in}
use Rattle.circuit_server.specs.Server.{Book, IsBook, request4_served, message4_served}
use Rattle.world.specs.Alone.{Effect}
use Rattle.promises.specs.Books.{IsBookOf}
use Rattle.promises.specs.Granted.{Grant, Line, Granted4, Ended4, Stands, Knows, granted4, end4_of, ended4, is_sent, request4_lines, message4_lines}
use Rattle.promises.proofs.LineLemmas.{stands_right, stands_either, IsGranted, Keeps}
use Rattle.promises.proofs.PoolLemmas.{HasLimits}
use Rattle.promises.proofs.PoolLemmas4.{number_of_pool4, bound_in_pool4}

-- ---- what a DHCPACK grants is kept

abbrev AckIsKept : Row Reply4 → Type 0
AckIsKept row = (x : Addr4) → row.answer ≡ Ok (reply.Ack x) → is_kept row.change ≡ true

ack_refused : (end n : ℕ) (b : Bool) → AckIsKept (cond b (grants n end) (replies reply.Nak Unchanged))
ack_refused end n true x e = refl
ack_refused end n false x e = absurd cc

ack_known : (end : ℕ) (is_in : Bool) (binding : Option ℕ) (a : ℕ) → AckIsKept (known_address_row end is_in binding a)
ack_known end false binding a x e = absurd cc
ack_known end true (Some bound) a x e = ack_refused end bound (bound == a) x e
ack_known end true None a x e = absurd cc

ack_discovered : (t : ℕ) (picked held : Option ℕ) → AckIsKept (discover_row t picked held)
ack_discovered t None held x e = absurd cc
ack_discovered t (Some a) (Some n) x e = absurd cc
ack_discovered t (Some a) None x e = absurd cc

ack_another : (offered : Option ℕ) → AckIsKept (other_server_row offered)
ack_another None x e = absurd cc
ack_another (Some a) x e = absurd cc

ack_selected : (end : ℕ) (wanted held : Option ℕ) → AckIsKept (selecting_row end wanted held)
ack_selected end None held x e = absurd cc
ack_selected end (Some w) (Some a) x e = refl
ack_selected end (Some w) None x e = absurd cc

ack_requested : (pool : PoolValue) (end : ℕ) (binding wanted ciaddr : Option ℕ) → AckIsKept (no_server_row pool end binding wanted ciaddr)
ack_requested pool end binding (Some w) (Some c) x e = absurd cc
ack_requested pool end binding None None x e = absurd cc
ack_requested pool end binding (Some w) None x e = ack_known end _ binding w x e
ack_requested pool end binding None (Some c) x e = ack_known end _ binding c x e

ack_declined : (t : ℕ) (o : Option ℕ) → AckIsKept (decline_row t o)
ack_declined t None x e = absurd cc
ack_declined t (Some a) x e = absurd cc

ack_released : (o : Option ℕ) → AckIsKept (release_row o)
ack_released None x e = absurd cc
ack_released (Some a) x e = absurd cc

ack_informed : (o : Option ℕ) → AckIsKept (inform_row o)
ack_informed None x e = absurd cc
ack_informed (Some a) x e = absurd cc

row_acks : (pool : PoolValue) (t : ℕ) (found : Lookup) (m : Request4) (kind : Kind4) (server : Server4) → AckIsKept (row_of pool t found m kind server)
row_acks pool t found m Discover server x e = ack_discovered t found.pick found.binding x e
row_acks pool t found m Request Another x e = ack_another found.offer x e
row_acks pool t found m Request This x e = ack_selected (t + pool.lease) _ _ x e
row_acks pool t found m Request Anybody x e = ack_requested pool (t + pool.lease) found.binding _ _ x e
row_acks pool t found m Decline Another x e = absurd cc
row_acks pool t found m Decline This x e = ack_declined t _ x e
row_acks pool t found m Decline Anybody x e = ack_declined t _ x e
row_acks pool t found m Release Another x e = absurd cc
row_acks pool t found m Release This x e = ack_released _ x e
row_acks pool t found m Release Anybody x e = ack_released _ x e
row_acks pool t found m Inform Another x e = absurd cc
row_acks pool t found m Inform This x e = ack_informed _ x e
row_acks pool t found m Inform Anybody x e = ack_informed _ x e
row_acks pool t found m Offer server x e = absurd cc
row_acks pool t found m Ack server x e = absurd cc
row_acks pool t found m Nak server x e = absurd cc

ack_kept : (pool : PoolValue) (t : ℕ) (b : Book4) (m : Request4) (x : Addr4) → (answer4 pool t b m).answer ≡ Ok (reply.Ack x) → (answer4 pool t b m).is_kept ≡ true
unfolding answer4
ack_kept pool t b m x e = row_acks pool t (lookup_in pool b m) m m.kind (server_of pool m.server) x e

-- ---- what stands of a grant

no_end_grants : (g : Grant (List ℕ)) (found : Option Lease) (client : List ℕ) → Stands (Granted4 g) (end4_of client found) → ⊥
no_end_grants g None client s = absurd s
no_end_grants g (Some l) client (inl e) = absurd cc
no_end_grants g (Some l) client (inr s) = absurd s

no_ended_grants : (g : Grant (List ℕ)) (r : Bool) (kind : Kind4) (client : List ℕ) (found : Option Lease) → Stands (Granted4 g) (if r then ended4 kind client found else []) → ⊥
no_ended_grants g false kind client found s = absurd s
no_ended_grants g true Decline client found s = no_end_grants g found client s
no_ended_grants g true Release client found s = no_end_grants g found client s
no_ended_grants g true Discover client found s = absurd s
no_ended_grants g true Offer client found s = absurd s
no_ended_grants g true Request client found s = absurd s
no_ended_grants g true Ack client found s = absurd s
no_ended_grants g true Nak client found s = absurd s
no_ended_grants g true Inform client found s = absurd s

record IsGrant (part : CircuitPart) (g : Grant (List ℕ)) (sent : Bool) (client : List ℕ) (clock : ℕ) (answer : Result Reply4 Discard) : Type 0 where
  is_sent : sent ≡ true
  address : Addr4
  is_ack : answer ≡ Ok (reply.Ack address)
  is : g ≡ record { client = client; address = number4 address; until = clock + part.lease; clock = clock }

the_grant : (part : CircuitPart) (g : Grant (List ℕ)) (sent : Bool) (client : List ℕ) (clock : ℕ) (answer : Result Reply4 Discard)
    → Stands (Granted4 g) (if sent then granted4 part client clock answer else []) → IsGrant part g sent client clock answer
the_grant part g false client clock answer s = absurd s
the_grant part g true client clock (Err why) s = absurd s
the_grant part g true client clock (Ok (reply.Ack address)) (inl e) = record { is_sent = refl; address = address; is_ack = refl; is = cc }
the_grant part g true client clock (Ok (reply.Ack address)) (inr s) = absurd s
the_grant part g true client clock (Ok (reply.Offer address)) s = absurd s
the_grant part g true client clock (Ok reply.Inform) s = absurd s
the_grant part g true client clock (Ok reply.Nak) s = absurd s

entry_is : (client key : List ℕ) → (TheBinding client ≡ TheBinding key) ⊎ (TheBinding client ≡ TheOffer key) → client ≡ key
entry_is client key (inl e) = cc
entry_is client key (inr e) = absurd cc

pub is_granted4 : (part : CircuitPart) → HasLimits part → (b : Book) → IsBookOf part b → (g : Grant (List ℕ)) (effect : Effect) (message : Result MessageValue MessageFault)
    → Stands (Granted4 g) (message4_lines part effect b message) → IsGranted V4 part b (message4_served part b message) effect g
is_granted4 part limits b book g effect (Err fault) s = absurd s
is_granted4 part limits b book g effect (Ok m) s = by (request4_in m) s where
  by : (request : Result Request4 Discard) → Stands (Granted4 g) (request4_lines part effect b request) → IsGranted V4 part b (request4_served part m b request) effect g
  by (Err why) s = absurd s
  by (Ok q) s = by_lines (stands_either (Granted4 g) _ _ s) where
    by_lines : Stands (Granted4 g) (if is_sent effect then granted4 part q.key b.clock (answer4 (pool4_of part) b.clock b.four q).answer else [])
        ⊎ Stands (Granted4 g) (if (answer4 (pool4_of part) b.clock b.four q).is_kept then ended4 q.kind q.key (get b.four.bindings q.key) else [])
        → IsGranted V4 part b (request4_served part m b (Ok q)) effect g
    by_lines (inr s) = absurd (no_ended_grants g _ q.kind q.key _ s)
    by_lines (inl s) =
        let i = the_grant part g (is_sent effect) q.key b.clock (answer4 (pool4_of part) b.clock b.four q).answer s in
        let own = own_granted (pool4_of part) limits.four b.clock q b.four book.book.four i.address i.is_ack in
        let inside = bound_in_pool4 part b.clock q b.four (record { bindings = book.bindings4; offers = book.offers4 }) own.0 (b.clock + part.lease) own.2 in
        let address : number4 i.address ≡ own.0 = ap number4 own.1 ∙ number_of_pool4 part limits.four own.0 inside in
        let whole : g ≡ record { client = q.key; address = own.0; until = b.clock + part.lease; clock = b.clock } =
        i.is ∙ ap (λ (n : ℕ). record { client = q.key; address = n; until = b.clock + part.lease; clock = b.clock }) address in
        let mine : (client : List ℕ) → address_of (get b.four.bindings client) ≡ Some own.0 → client ≡ q.key =
        λ client e. entry_is client q.key (own.3 (TheBinding client) e) in
        let fits : IsGranted V4 part b (request4_served part m b (Ok q)) effect (record { client = q.key; address = own.0; until = b.clock + part.lease; clock = b.clock }) =
        record {
          clock = refl;
          until = refl;
          bound = own.2;
          same_clock = refl;
          own = mine;
          in_pool = inside;
          is_kept = ack_kept (pool4_of part) b.clock b.four q i.address i.is_ack;
          sent = i.is_sent;
        } in
        subst (IsGranted V4 part b (request4_served part m b (Ok q)) effect) (sym whole) fits

-- ---- what is ended

end_stands : (r : Bool) (kind : Kind4) (client : List ℕ) (found : Option Lease) (l : Lease) → r ≡ true → (kind ≡ Decline) ⊎ (kind ≡ Release) → found ≡ Some l
    → Stands (Ended4 client l.address) (if r then ended4 kind client found else [])
end_stands r kind client found l kept ends is =
    subst (λ (r : Bool). Stands (Ended4 client l.address) (if r then ended4 kind client found else [])) (sym kept)
    (subst (λ (o : Option Lease). Stands (Ended4 client l.address) (ended4 kind client o)) (sym is) (by ends)) where
      by : (kind ≡ Decline) ⊎ (kind ≡ Release) → Stands (Ended4 client l.address) (ended4 kind client (Some l))
      by (inl e) = subst (λ (k : Kind4). Stands (Ended4 client l.address) (ended4 k client (Some l))) (sym e) (inl refl)
      by (inr e) = subst (λ (k : Kind4). Stands (Ended4 client l.address) (ended4 k client (Some l))) (sym e) (inl refl)

-- what is served keeps it, or its client ends it
pub keeps_served4 : (part : CircuitPart) (b : Book) → IsBook b → (g : Grant (List ℕ)) (effect : Effect) (message : Result MessageValue MessageFault) → Keeps part.lease V4 g b
    → Keeps part.lease V4 g (message4_served part b message).book ⊎ Stands (Ended4 g.client g.address) (message4_lines part effect b message)
keeps_served4 part b book g effect (Err fault) keeps = inl keeps
keeps_served4 part b book g effect (Ok m) keeps = by (request4_in m) where
  by : (request : Result Request4 Discard) → Keeps part.lease V4 g (request4_served part m b request).book ⊎ Stands (Ended4 g.client g.address) (request4_lines part effect b request)
  by (Err why) = inl keeps
  by (Ok q) = by_knowing keeps.1 where
    by_knowing : Knows V4 g b → Keeps part.lease V4 g (request4_served part m b (Ok q)).book ⊎ Stands (Ended4 g.client g.address) (request4_lines part effect b (Ok q))
    by_knowing (inl past) = inl (keeps.0, inl past)
    by_knowing (inr (l, is, address, more)) = by_law (lease_kept (pool4_of part) b.clock q b.four g.client l book.four is) where
      longer : (until : ℕ) → (until ≡ l.until) ⊎ (until ≡ b.clock + part.lease) → g.until ≤ until
      longer until (inl e) = subst (λ u. g.until ≤ u) (sym e) more
      longer until (inr e) = subst (λ u. g.until ≤ u) (sym e) keeps.0

      by_end : (kind : (q.kind ≡ Decline) ⊎ (q.kind ≡ Release)) → q.key ≡ g.client → (answer4 (pool4_of part) b.clock b.four q).is_kept ≡ true → Stands (Ended4 g.client g.address) (request4_lines part effect b (Ok q))
      by_end kind key kept =
          stands_right _ (if is_sent effect then granted4 part q.key b.clock (answer4 (pool4_of part) b.clock b.four q).answer else []) _
          (subst (λ (line : Line). Stands line (if (answer4 (pool4_of part) b.clock b.four q).is_kept then ended4 q.kind q.key (get b.four.bindings q.key) else [])) (λ i. Ended4 (key i) (address i))
          (end_stands (answer4 (pool4_of part) b.clock b.four q).is_kept q.kind q.key (get b.four.bindings q.key) l kept kind (ap (λ (k : List ℕ). get b.four.bindings k) key ∙ is)))

      by_law : ((until : ℕ) × ((until ≡ l.until) ⊎ (until ≡ b.clock + part.lease)) × (get (answer4 (pool4_of part) b.clock b.four q).book.bindings g.client ≡ Some (record { address = l.address; until = until })))
          ⊎ EndsLease (pool4_of part) b.clock b.four q g.client l.address
          → Keeps part.lease V4 g (request4_served part m b (Ok q)).book ⊎ Stands (Ended4 g.client g.address) (request4_lines part effect b (Ok q))
      by_law (inl (until, which, bound)) = inl (keeps.0, inr (record { address = l.address; until = until }, bound, address, longer until which))
      by_law (inr (key, kept, inl gave)) = inr (by_end (inl gave.0) key kept)
      by_law (inr (key, kept, inr gave)) = inr (by_end (inr gave.0) key kept)
