-- What a DHCPv6 decision grants and ends.
use Rattle.std.proofs.Common.{◌≡◌, ◌⊎◌, inl, inr, ℕ, ◌+◌, ◌≤◌, Bool, true, false, List, [], refl, sym, ap, subst, ◌∙◌}
use Rattle.std.specs.Prelude.{Option, Some, None, Result, Ok, Err, if◌then◌else◌}
use Rattle.std.specs.FinMap.{get}
use Rattle.types.specs.Addr.{number6}
use Rattle.types.specs.Key6.{Key6Value}
use Rattle.types.specs.declared.addr.Addr6.{Addr6}
use Rattle.types.specs.declared.dest.Proto.TheVariants.{V6}
use Rattle.types.specs.declared.discard.Discard.{Discard}
use Rattle.types.specs.declared.kind6.Kind6.{Kind6}
use Rattle.types.specs.declared.kind6.Kind6.TheVariants.{Solicit, Request, Confirm, Renew, Rebind, Release, Decline}
use Rattle.exchange.specs.declared.request6.Reply6.{Reply6}
use Rattle.exchange.specs.declared.request6.ReplyIa.{ReplyIa}
use Rattle.exchange.specs.declared.request6.ReplyIa.TheVariants as reply_ia
use Rattle.exchange.specs.declared.request6.ReplyKind6.{ReplyKind6}
use Rattle.exchange.specs.declared.request6.ReplyKind6.TheVariants.{Advertise, Reply}
use Rattle.exchange.specs.declared.request6.Request6.{Request6}
use Rattle.v6_options.specs.Codes.{RELAY_MESSAGE}
use Rattle.v6_options.specs.Spelling.{look_up}
use Rattle.v6_message.specs.declared.fault.RelayFault.{RelayFault}
use Rattle.v6_message.specs.Message.{MessageValue}
use Rattle.v6_message.specs.Relay.{RelayValue}
use Rattle.slots.specs.Maps.{Lease, address_of}
use Rattle.bindings_v6.specs.IsBook6.{TheBinding, EndsLease}
use Rattle.bindings_v6.specs.Table6.{answer6}
use Rattle.bindings_v6.proofs.LeaseLemmas.{lease_kept}
use Rattle.config.specs.CircuitPart.{CircuitPart, pool6_of}
use Rattle.requests.specs.Request6.{request6_in}
use Rattle.circuit_server.specs.Server.{Book, IsBook, request6_served, message6_served, forward_served}
use Rattle.world.specs.Alone.{Effect}
use Rattle.promises.specs.Books.{IsBookOf}
use Rattle.promises.specs.Granted.{Grant, Line, Granted6, Ended6, Stands, Knows, assigned6, granted6, end6_of, ended6, is_sent, request6_lines, message6_lines, forward_lines}
use Rattle.promises.proofs.LeasedLemmas6.{reply_kept, own_granted6}
use Rattle.promises.proofs.LineLemmas.{stands_right, stands_either, IsGranted, Keeps}
use Rattle.promises.proofs.PoolLemmas.{HasLimits}
use Rattle.promises.proofs.PoolLemmas6.{number_of_pool6, bound_in_pool6}

-- ---- what stands of a grant

no_end_grants : (g : Grant Key6Value) (found : Option Lease) (client : Key6Value) → Stands (Granted6 g) (end6_of client found) → ⊥
no_end_grants g None client s = absurd s
no_end_grants g (Some l) client (inl e) = absurd cc
no_end_grants g (Some l) client (inr s) = absurd s

no_ended_grants : (g : Grant Key6Value) (r : Bool) (kind : Kind6) (client : Key6Value) (found : Option Lease) → Stands (Granted6 g) (if r then ended6 kind client found else []) → ⊥
no_ended_grants g false kind client found s = absurd s
no_ended_grants g true Decline client found s = no_end_grants g found client s
no_ended_grants g true Release client found s = no_end_grants g found client s
no_ended_grants g true Solicit client found s = absurd s
no_ended_grants g true Request client found s = absurd s
no_ended_grants g true Confirm client found s = absurd s
no_ended_grants g true Renew client found s = absurd s
no_ended_grants g true Rebind client found s = absurd s

record IsGrant (part : CircuitPart) (g : Grant Key6Value) (sent : Bool) (client : Key6Value) (clock : ℕ) (answer : Result Reply6 Discard) : Type 0 where
  is_sent : sent ≡ true
  reply : Reply6
  zeroed : _
  address : Addr6
  is_answer : answer ≡ Ok reply
  kind : reply.kind ≡ Reply
  ia : reply.ia ≡ reply_ia.Given zeroed address
  is : g ≡ record { client = client; address = number6 address; until = clock + part.lease; clock = clock }

the_grant : (part : CircuitPart) (g : Grant Key6Value) (sent : Bool) (client : Key6Value) (clock : ℕ) (answer : Result Reply6 Discard)
    → Stands (Granted6 g) (if sent then granted6 part client clock answer else []) → IsGrant part g sent client clock answer
the_grant part g false client clock answer s = absurd s
the_grant part g true client clock (Err why) s = absurd s
the_grant part g true client clock (Ok r) s = by r.kind r.ia refl refl s where
  by : (kind : ReplyKind6) (ia : ReplyIa) → r.kind ≡ kind → r.ia ≡ ia → Stands (Granted6 g) (assigned6 part client clock kind ia) → IsGrant part g true client clock (Ok r)
  by Advertise ia k e s = absurd s
  by Reply reply_ia.None k e s = absurd s
  by Reply (reply_ia.Status status) k e s = absurd s
  by Reply (reply_ia.Given zeroed address) k e (inl same) = record { is_sent = refl; reply = r; zeroed = zeroed; address = address; is_answer = refl; kind = k; ia = e; is = cc }
  by Reply (reply_ia.Given zeroed address) k e (inr s) = absurd s

entry_is : (client key : Key6Value) → TheBinding client ≡ TheBinding key → client ≡ key
entry_is client key e = cc

pub is_granted6 : (part : CircuitPart) → HasLimits part → (b : Book) → IsBookOf part b → (g : Grant Key6Value) (effect : Effect) (forward : Result RelayValue RelayFault)
    → Stands (Granted6 g) (forward_lines part effect b forward) → IsGranted V6 part b (forward_served part b forward) effect g
is_granted6 part limits b book g effect (Err fault) s = absurd s
is_granted6 part limits b book g effect (Ok forward) s = by_message (look_up RELAY_MESSAGE forward.options) s where
  by : (asked : Result (MessageValue × Request6) Discard) → Stands (Granted6 g) (request6_lines part effect b asked) → IsGranted V6 part b (request6_served part forward b asked) effect g
  by (Err why) s = absurd s
  by (Ok asked) s = by_lines (stands_either (Granted6 g) _ _ s) where
    by_lines : Stands (Granted6 g) (if is_sent effect then granted6 part asked.1.key b.clock (answer6 (pool6_of part) b.clock b.six asked.1).answer else [])
        ⊎ Stands (Granted6 g) (if (answer6 (pool6_of part) b.clock b.six asked.1).is_kept then ended6 asked.1.kind asked.1.key (get b.six.bindings asked.1.key) else [])
        → IsGranted V6 part b (request6_served part forward b (Ok asked)) effect g
    by_lines (inr s) = absurd (no_ended_grants g _ asked.1.kind asked.1.key _ s)
    by_lines (inl s) =
        let q = asked.1 in
        let i = the_grant part g (is_sent effect) q.key b.clock (answer6 (pool6_of part) b.clock b.six q).answer s in
        let own = own_granted6 (pool6_of part) limits.six b.clock q b.six book.book.six i.reply i.zeroed i.address i.is_answer i.kind i.ia in
        let inside = bound_in_pool6 part b.clock q b.six (record { bindings = book.bindings6 }) own.0 (b.clock + part.lease) own.2 in
        let address : number6 i.address ≡ own.0 = ap number6 own.1 ∙ number_of_pool6 part limits.six own.0 inside in
        let whole : g ≡ record { client = q.key; address = own.0; until = b.clock + part.lease; clock = b.clock } =
        i.is ∙ ap (λ (n : ℕ). record { client = q.key; address = n; until = b.clock + part.lease; clock = b.clock }) address in
        let mine : (client : Key6Value) → address_of (get b.six.bindings client) ≡ Some own.0 → client ≡ q.key =
        λ client e. entry_is client q.key (own.3 (TheBinding client) e) in
        let fits : IsGranted V6 part b (request6_served part forward b (Ok asked)) effect (record { client = q.key; address = own.0; until = b.clock + part.lease; clock = b.clock }) =
        record {
          clock = refl;
          until = refl;
          bound = own.2;
          same_clock = refl;
          own = mine;
          in_pool = inside;
          is_kept = reply_kept (pool6_of part) b.clock b.six q i.reply i.zeroed i.address i.is_answer i.kind i.ia;
          sent = i.is_sent;
        } in
        subst (IsGranted V6 part b (request6_served part forward b (Ok asked)) effect) (sym whole) fits

  by_message : (message : Option (List ℕ)) → Stands (Granted6 g) (message6_lines part effect b message) → IsGranted V6 part b (message6_served part forward b message) effect g
  by_message None s = absurd s
  by_message (Some message) s = by (request6_in part.duid message) s

-- ---- what is ended

end_stands : (r : Bool) (kind : Kind6) (client : Key6Value) (found : Option Lease) (l : Lease) → r ≡ true → (kind ≡ Release) ⊎ (kind ≡ Decline) → found ≡ Some l
    → Stands (Ended6 client l.address) (if r then ended6 kind client found else [])
end_stands r kind client found l kept ends is =
    subst (λ (r : Bool). Stands (Ended6 client l.address) (if r then ended6 kind client found else [])) (sym kept)
    (subst (λ (o : Option Lease). Stands (Ended6 client l.address) (ended6 kind client o)) (sym is) (by ends)) where
      by : (kind ≡ Release) ⊎ (kind ≡ Decline) → Stands (Ended6 client l.address) (ended6 kind client (Some l))
      by (inl e) = subst (λ (k : Kind6). Stands (Ended6 client l.address) (ended6 k client (Some l))) (sym e) (inl refl)
      by (inr e) = subst (λ (k : Kind6). Stands (Ended6 client l.address) (ended6 k client (Some l))) (sym e) (inl refl)

-- what is served keeps it, or its client ends it
pub keeps_served6 : (part : CircuitPart) (b : Book) → IsBook b → (g : Grant Key6Value) (effect : Effect) (forward : Result RelayValue RelayFault) → Keeps part.lease V6 g b
    → Keeps part.lease V6 g (forward_served part b forward).book ⊎ Stands (Ended6 g.client g.address) (forward_lines part effect b forward)
keeps_served6 part b book g effect (Err fault) keeps = inl keeps
keeps_served6 part b book g effect (Ok forward) keeps = by_message (look_up RELAY_MESSAGE forward.options) where
  by : (asked : Result (MessageValue × Request6) Discard) → Keeps part.lease V6 g (request6_served part forward b asked).book ⊎ Stands (Ended6 g.client g.address) (request6_lines part effect b asked)
  by (Err why) = inl keeps
  by (Ok asked) = by_knowing keeps.1 where
    by_knowing : Knows V6 g b → Keeps part.lease V6 g (request6_served part forward b (Ok asked)).book ⊎ Stands (Ended6 g.client g.address) (request6_lines part effect b (Ok asked))
    by_knowing (inl past) = inl (keeps.0, inl past)
    by_knowing (inr (l, is, address, more)) = by_law (lease_kept (pool6_of part) b.clock asked.1 b.six g.client l book.six is) where
      longer : (until : ℕ) → (until ≡ l.until) ⊎ (until ≡ b.clock + part.lease) → g.until ≤ until
      longer until (inl e) = subst (λ u. g.until ≤ u) (sym e) more
      longer until (inr e) = subst (λ u. g.until ≤ u) (sym e) keeps.0

      by_end : (kind : (asked.1.kind ≡ Release) ⊎ (asked.1.kind ≡ Decline)) → asked.1.key ≡ g.client → (answer6 (pool6_of part) b.clock b.six asked.1).is_kept ≡ true
          → Stands (Ended6 g.client g.address) (request6_lines part effect b (Ok asked))
      by_end kind key kept =
          stands_right _ (if is_sent effect then granted6 part asked.1.key b.clock (answer6 (pool6_of part) b.clock b.six asked.1).answer else []) _
          (subst (λ (line : Line). Stands line (if (answer6 (pool6_of part) b.clock b.six asked.1).is_kept then ended6 asked.1.kind asked.1.key (get b.six.bindings asked.1.key) else [])) (λ i. Ended6 (key i) (address i))
          (end_stands (answer6 (pool6_of part) b.clock b.six asked.1).is_kept asked.1.kind asked.1.key (get b.six.bindings asked.1.key) l kept kind (ap (λ (k : Key6Value). get b.six.bindings k) key ∙ is)))

      by_law : ((until : ℕ) × ((until ≡ l.until) ⊎ (until ≡ b.clock + part.lease)) × (get (answer6 (pool6_of part) b.clock b.six asked.1).book.bindings g.client ≡ Some (record { address = l.address; until = until })))
          ⊎ EndsLease (pool6_of part) b.clock b.six asked.1 g.client l.address
          → Keeps part.lease V6 g (request6_served part forward b (Ok asked)).book ⊎ Stands (Ended6 g.client g.address) (request6_lines part effect b (Ok asked))
      by_law (inl (until, which, bound)) = inl (keeps.0, inr (record { address = l.address; until = until }, bound, address, longer until which))
      by_law (inr (key, kept, ends, listed)) = inr (by_end ends key kept)

  by_message : (message : Option (List ℕ)) → Keeps part.lease V6 g (message6_served part forward b message).book ⊎ Stands (Ended6 g.client g.address) (message6_lines part effect b message)
  by_message None = inl keeps
  by_message (Some message) = by (request6_in part.duid message)
