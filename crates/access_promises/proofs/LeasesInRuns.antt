-- What a circuit's transactions of a run grant, and what is known of it.
use Rattle.std.proofs.Common.{◌≡◌, ◌⊎◌, inl, inr, ℕ, ◌≤◌, List, ◌∷◌, ◌++◌, map, sym, subst}
use Rattle.std.specs.Prelude.{Option, Some, None, IfSome, Ok}
use Rattle.std.proofs.lemmas.List.Elements.{All-get_or}
use Rattle.std.proofs.lemmas.Option.{slice_get_within, get_or_from_slice_get}
use Rattle.types.specs.declared.dest.Proto.{Proto}
use Rattle.types.specs.declared.dest.Proto.TheVariants.{V4}
use Rattle.v4_message.specs.Reading.{message_of}
use Rattle.v4_message.specs.Spelling.{MessageValue}
use Rattle.wire.specs.Bytes.{AreBytes}
use Rattle.config.specs.CircuitPart.{CircuitPart, IsPart}
use Rattle.circuit_server.specs.Server.{Book}
use Rattle.promises.specs.Books.{IsBookOf, IsInPool}
use Rattle.promises.specs.Granted.{ClientOf, Grant, Granted, Ended, Knows, Stands}
use Rattle.promises.proofs.LineLemmas.{Keeps}
use Rattle.promises.proofs.PoolLemmas.{HasLimits}
use Rattle.access.specs.Access.{AccessValue}
use Rattle.access_promises.specs.Alone.{book_alone}
use Rattle.access_promises.specs.Exchanges.{AreAlone, Exchange, book_in, failed_saves, own_exchanges}
use Rattle.access_promises.specs.Own.{Step, steps_in}
use Rattle.access_promises.specs.Transactions.{GrantsAddress, IsCircuitOf, IsSaved, LeasesAddress, Transaction, ledger_of, lines_of, transactions_in}
use Rattle.access_promises.specs.Turns.{added}
use Rattle.access_promises.proofs.AckLemmas.{AreRead, ack_grants}
use Rattle.access_promises.proofs.LeaseLemmas.{IsReached, another, each_exchange, grants_so, inside, knew_at_end, knew_there, own_after, own_at_end, reached}

known_if : (lease : ℕ) (p : Proto) (g : Grant (ClientOf p)) (b : Option Book) → IfSome b (Keeps lease p g) → IfSome b (Knows p g)
known_if lease p g None keeps = tt
known_if lease p g (Some b) keeps = keeps.1

module _ (c : ℕ) (part : CircuitPart) (old new : AccessValue) (exchanges : List Exchange) (its : IsCircuitOf c part old new exchanges) where
  is_part : IsPart part
  is_part =
      let parts = old.topology.circuits in
      subst IsPart (get_or_from_slice_get parts c part part its.at) (All-get_or IsPart parts c part (slice_get_within parts c part its.at) its.run.topology.parts)

  limits : HasLimits part
  limits = record { four = is_part.pool4; six = is_part.pool6 }

  abbrev steps : List Step
  steps = steps_in old.topology c (added old new)

  abbrev own : List Exchange
  own = own_exchanges old.topology c exchanges

  alone : AreAlone old.topology c part steps exchanges (book_in old.server c) (book_in new.server c)
  alone = its.exchanged.each c part its.at

  pub each_in : map (λ (t : Transaction). t.exchange) (transactions_in c part old new exchanges) ≡ own
  each_in = each_exchange part limits steps own (book_in old.server c) alone.datagrams

  pub ends_with_its_book : IfSome (book_in new.server c) (IsBookOf part)
  ends_with_its_book =
      subst (λ (b : Option Book). IfSome b (IsBookOf part)) (sym alone.book) (own_at_end part limits steps (failed_saves old.topology c exchanges) (book_in old.server c) its.begins)

  there : (before after : List Transaction) (t : Transaction) → transactions_in c part old new exchanges ≡ before ++ t ∷ after → IsReached part limits t after (book_in new.server c)
  there before after t are = reached part limits steps own (book_in old.server c) (book_in new.server c) before after t its.begins alone.datagrams alone.answers (sym alone.book) are

  pub ack_in : AreRead → (before after : List Transaction) (t : Transaction) (datagram : List ℕ) (m : MessageValue) → transactions_in c part old new exchanges ≡ before ++ t ∷ after
      → t.exchange.datagram.proto ≡ V4 → AreBytes t.exchange.datagram.bytes → t.exchange.answer ≡ Ok datagram → message_of datagram ≡ Ok m → LeasesAddress m → GrantsAddress part t m.header.yiaddr
  ack_in reads before after t datagram m are four fits leaves read leases =
      ack_grants reads part is_part datagram m read leases t.exchange t.old t.new four fits (there before after t are).answer leaves

  module _ (p : Proto) (g : Grant (ClientOf p)) where
    pub inside_in : Stands (Granted p g) (ledger_of part (transactions_in c part old new exchanges)) → IsInPool part p g.address
    inside_in stands = inside part limits p g steps own (book_in old.server c) its.begins stands

    pub saved_in : (before after : List Transaction) (t : Transaction) → transactions_in c part old new exchanges ≡ before ++ t ∷ after → Stands (Granted p g) (lines_of part t) → IsSaved part p g t
    saved_in before after t are stands = (grants_so part limits p g t after (book_in new.server c) (there before after t are) stands).saved

    pub known_in : (before after : List Transaction) (t : Transaction) → transactions_in c part old new exchanges ≡ before ++ t ∷ after → Stands (Granted p g) (lines_of part t)
        → IfSome (book_in new.server c) (Knows p g) ⊎ Stands (Ended p g.client g.address) (ledger_of part after)
    known_in before after t are stands =
        let r = there before after t are in
        let end = book_in new.server c in
        by (subst (λ (b : Option Book). IfSome b (Keeps part.lease p g) ⊎ Stands (Ended p g.client g.address) (ledger_of part after)) r.ends
        (subst (λ (ts : List Transaction). IfSome (book_alone part r.steps (map (λ (x : Exchange). x.failed) r.exchanges) t.new) (Keeps part.lease p g) ⊎ Stands (Ended p g.client g.address) (ledger_of part ts)) r.rest
        (knew_at_end part limits p g r.steps r.exchanges t.new (own_after part limits t after end r) r.datagrams (grants_so part limits p g t after end r stands).keeps))) where
          by : IfSome (book_in new.server c) (Keeps part.lease p g) ⊎ Stands (Ended p g.client g.address) (ledger_of part after)
              → IfSome (book_in new.server c) (Knows p g) ⊎ Stands (Ended p g.client g.address) (ledger_of part after)
          by (inl keeps) = inl (known_if part.lease p g (book_in new.server c) keeps)
          by (inr ended) = inr ended

    pub once_in : (before between after : List Transaction) (s t : Transaction) (h : Grant (ClientOf p)) → transactions_in c part old new exchanges ≡ before ++ s ∷ (between ++ t ∷ after)
        → Stands (Granted p g) (lines_of part s) → Stands (Granted p h) (lines_of part t) → h.address ≡ g.address → (g.client ≡ h.client → ⊥)
        → (g.until ≤ h.clock) ⊎ Stands (Ended p g.client g.address) (ledger_of part between)
    once_in before between after s t h are grants again same apart =
        let rest = between ++ t ∷ after in
        let end = book_in new.server c in
        let r = there before rest s are in
        let own_new = own_after part limits s rest end r in
        let second = reached part limits r.steps r.exchanges s.new end between after t own_new r.datagrams r.answers r.ends r.rest in
        by second.own (knew_there part limits p g r.steps r.exchanges s.new between after t own_new r.datagrams (grants_so part limits p g s rest end r grants).keeps r.rest) where
          by : IfSome t.old (IsBookOf part) → IfSome t.old (Keeps part.lease p g) ⊎ Stands (Ended p g.client g.address) (ledger_of part between)
              → (g.until ≤ h.clock) ⊎ Stands (Ended p g.client g.address) (ledger_of part between)
          by book (inl keeps) = inl (another part limits p g h t book keeps again same apart)
          by book (inr ended) = inr ended
