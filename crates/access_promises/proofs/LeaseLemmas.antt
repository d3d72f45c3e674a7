-- What a circuit's transactions grant, and what its books know of a grant.
use Rattle.std.proofs.Common.{◌≡◌, ◌∙◌, ◌⊎◌, inl, inr, ℕ, ◌+◌, ◌≤◌, ◌&&◌, Bool, true, false, List, [], ◌∷◌, ◌++◌, map, refl, sym, ap, subst}
use Rattle.std.specs.Prelude.{Option, Some, None, option_map, Result, Err, IfSome, if◌then◌else◌}
use Rattle.std.specs.List.{filter_map}
use Rattle.types.specs.Delivery.{DeliveryValue}
use Rattle.types.specs.declared.dest.Proto.{Proto}
use Rattle.types.specs.declared.discard.Discard.{Discard}
use Rattle.types.specs.declared.discard.Discard.TheVariants.{DiskFault}
use Rattle.slots.specs.Maps.{address_of}
use Rattle.config.specs.CircuitPart.{CircuitPart}
use Rattle.circuit_server.specs.Answered.{Answered, answered}
use Rattle.circuit_server.specs.Server.{Book, Served, book_at, served}
use Rattle.promises.specs.Books.{IsBookOf, IsInPool}
use Rattle.promises.specs.Granted.{ClientOf, Grant, Granted, Ended, Knows, Line, Stands, binding_of, is_sent}
use Rattle.promises.proofs.GrantsOfBoth.{served_grants, served_keeps}
use Rattle.promises.proofs.LineLemmas.{Keeps, keeps_later, keeps_new, stands_either, stands_left, stands_right}
use Rattle.promises.proofs.PoolLemmas.{HasLimits, later_of, served_of}
use Rattle.access_promises.specs.Alone.{answers_alone, book_alone}
use Rattle.access_promises.specs.Exchanges.{Exchange, received_by}
use Rattle.access_promises.specs.Own.{Step, Receive, Tick}
use Rattle.access_promises.specs.Transactions.{IsSaved, Transaction, effect_of, ledger_of, lines_of, transaction, transactions}
use Rattle.access_promises.proofs.TwoRuns.{same_head, same_tail}

-- ---- a save that fails or does not

abbrev pub saved : Bool → Served → Answered
saved lost done = if lost then record { answer = Err DiskFault; book = None } else record { answer = done.answer; book = Some done.book }

saved_or_closed : (P : Book → Type 0) (lost : Bool) (done : Served) → P done.book → IfSome (saved lost done).book P
saved_or_closed P true done p = tt
saved_or_closed P false done p = p

not_lost : (kept fails : Bool) (done : Served) (answer : Result (List ℕ) Discard) → kept ≡ true → answer ≡ (saved (kept && fails) done).answer → is_sent (effect_of answer) ≡ true → fails ≡ false
not_lost false fails done answer is e sent = absurd cc
not_lost true false done answer is e sent = refl
not_lost true true done answer is e sent =
    let never : false ≡ true = subst (λ (a : Result (List ℕ) Discard). is_sent (effect_of a) ≡ true) e sent in absurd cc

stays_open : (kept fails : Bool) (done : Served) → fails ≡ false → (saved (kept && fails) done).book ≡ Some done.book
stays_open kept true done e = absurd cc
stays_open true false done e = refl
stays_open false false done e = refl

module _ (part : CircuitPart) (limits : HasLimits part) where
  -- ---- its books are books of its pools

  abbrev IsOwn : Option Book → Type 0
  IsOwn b = IfSome b (IsBookOf part)

  own_ticked : (now : ℕ) (b : Option Book) → IsOwn b → IsOwn (option_map (book_at now) b)
  own_ticked now None own = tt
  own_ticked now (Some b) own = later_of part now b own

  own_answered : (d : DeliveryValue) (fails : Bool) (b : Option Book) → IsOwn b → IsOwn (answered part d fails b).book
  own_answered d fails None own = tt
  own_answered d fails (Some b) own = saved_or_closed (IsBookOf part) ((served part d b).is_kept && fails) (served part d b) (served_of part limits d b own)

  pub own_at_end : (steps : List Step) (fail : List Bool) (b : Option Book) → IsOwn b → IsOwn (book_alone part steps fail b)
  own_at_end [] fail b own = own
  own_at_end (Tick now ∷ steps) fail b own = own_at_end steps fail (option_map (book_at now) b) (own_ticked now b own)
  own_at_end (Receive d ∷ steps) [] b own = own
  own_at_end (Receive d ∷ steps) (fails ∷ fail) b own = own_at_end steps fail (answered part d fails b).book (own_answered d fails b own)

  -- ---- up to one of its transactions

  abbrev HasDatagrams : List Step → List Exchange → Type 0
  HasDatagrams steps xs = map (λ (x : Exchange). x.datagram) xs ≡ filter_map received_by steps

  abbrev failed : List Exchange → List Bool
  failed = map (λ (x : Exchange). x.failed)

  abbrev HasAnswers : List Step → List Exchange → Option Book → Type 0
  HasAnswers steps xs b = map (λ (x : Exchange). x.answer) xs ≡ answers_alone part steps (failed xs) b

  answers_then : (d : DeliveryValue) (steps : List Step) (x : Exchange) (xs : List Exchange) (b : Option Book) → x.datagram ≡ d → HasAnswers (Receive d ∷ steps) (x ∷ xs) b
      → HasAnswers steps xs (transaction part x b).new
  answers_then d steps x xs b its given =
      subst (λ (e : DeliveryValue). HasAnswers steps xs (answered part e x.failed b).book) (sym its)
      (same_tail x.answer (answered part d x.failed b).answer (map (λ (y : Exchange). y.answer) xs) (answers_alone part steps (failed xs) (answered part d x.failed b).book) given)

  answer_is : (d : DeliveryValue) (steps : List Step) (x : Exchange) (xs : List Exchange) (b : Option Book) → x.datagram ≡ d → HasAnswers (Receive d ∷ steps) (x ∷ xs) b
      → x.answer ≡ (answered part x.datagram x.failed b).answer
  answer_is d steps x xs b its given =
      subst (λ (e : DeliveryValue). x.answer ≡ (answered part e x.failed b).answer) (sym its)
      (same_head x.answer (answered part d x.failed b).answer (map (λ (y : Exchange). y.answer) xs) (answers_alone part steps (failed xs) (answered part d x.failed b).book) given)

  its_datagram : (d : DeliveryValue) (steps : List Step) (x : Exchange) (xs : List Exchange) → HasDatagrams (Receive d ∷ steps) (x ∷ xs) → x.datagram ≡ d
  its_datagram d steps x xs same = same_head x.datagram d (map (λ (y : Exchange). y.datagram) xs) (filter_map received_by steps) same

  datagrams_then : (d : DeliveryValue) (steps : List Step) (x : Exchange) (xs : List Exchange) → HasDatagrams (Receive d ∷ steps) (x ∷ xs) → HasDatagrams steps xs
  datagrams_then d steps x xs same = same_tail x.datagram d (map (λ (y : Exchange). y.datagram) xs) (filter_map received_by steps) same

  -- what is so at a transaction, and how the run goes on after it
  pub record IsReached (t : Transaction) (after : List Transaction) (end : Option Book) : Type 0 where
    pub own : IsOwn t.old
    pub answer : t.exchange.answer ≡ (answered part t.exchange.datagram t.exchange.failed t.old).answer
    pub new : t.new ≡ (answered part t.exchange.datagram t.exchange.failed t.old).book
    pub steps : List Step
    pub exchanges : List Exchange
    pub datagrams : HasDatagrams steps exchanges
    pub answers : HasAnswers steps exchanges t.new
    pub rest : transactions part steps exchanges t.new ≡ after
    pub ends : book_alone part steps (failed exchanges) t.new ≡ end

  ends_then : (d : DeliveryValue) (steps : List Step) (x : Exchange) (xs : List Exchange) (b end : Option Book) → x.datagram ≡ d → book_alone part (Receive d ∷ steps) (failed (x ∷ xs)) b ≡ end
      → book_alone part steps (failed xs) (transaction part x b).new ≡ end
  ends_then d steps x xs b end its ends = subst (λ (e : DeliveryValue). book_alone part steps (failed xs) (answered part e x.failed b).book ≡ end) (sym its) ends

  reached_first : (d : DeliveryValue) (steps : List Step) (x : Exchange) (xs : List Exchange) (b end : Option Book) → IsOwn b → HasDatagrams (Receive d ∷ steps) (x ∷ xs) → HasAnswers (Receive d ∷ steps) (x ∷ xs) b
      → book_alone part (Receive d ∷ steps) (failed (x ∷ xs)) b ≡ end → IsReached (transaction part x b) (transactions part steps xs (transaction part x b).new) end
  reached_first d steps x xs b end own same given ends =
      let its = its_datagram d steps x xs same in record {
        own = own;
        answer = answer_is d steps x xs b its given;
        new = refl;
        steps = steps;
        exchanges = xs;
        datagrams = datagrams_then d steps x xs same;
        answers = answers_then d steps x xs b its given;
        rest = refl;
        ends = ends_then d steps x xs b end its ends;
      }

  pub reached : (steps : List Step) (xs : List Exchange) (b end : Option Book) (before after : List Transaction) (t : Transaction) → IsOwn b → HasDatagrams steps xs → HasAnswers steps xs b
      → book_alone part steps (failed xs) b ≡ end → transactions part steps xs b ≡ before ++ t ∷ after → IsReached t after end
  reached [] xs b end [] after t own same given ends are = absurd cc
  reached [] xs b end (y ∷ before) after t own same given ends are = absurd cc
  reached (Tick now ∷ steps) xs b end before after t own same given ends are = reached steps xs (option_map (book_at now) b) end before after t (own_ticked now b own) same given ends are
  reached (Receive d ∷ steps) [] b end before after t own same given ends are = absurd cc
  reached (Receive d ∷ steps) (x ∷ xs) b end [] after t own same given ends are =
      let more = transactions part steps xs (transaction part x b).new in
      subst (λ (u : Transaction). IsReached u after end) (same_head (transaction part x b) t more after are)
      (subst (λ (us : List Transaction). IsReached (transaction part x b) us end) (same_tail (transaction part x b) t more after are) (reached_first d steps x xs b end own same given ends))
  reached (Receive d ∷ steps) (x ∷ xs) b end (y ∷ before) after t own same given ends are =
      let its = its_datagram d steps x xs same in
      reached steps xs (transaction part x b).new end before after t (own_answered x.datagram x.failed b own) (datagrams_then d steps x xs same) (answers_then d steps x xs b its given)
      (ends_then d steps x xs b end its ends) (same_tail (transaction part x b) y (transactions part steps xs (transaction part x b).new) (before ++ t ∷ after) are)

  pub own_after : (t : Transaction) (after : List Transaction) (end : Option Book) → IsReached t after end → IsOwn t.new
  own_after t after end r = subst (λ (b : Option Book). IsOwn b) (sym r.new) (own_answered t.exchange.datagram t.exchange.failed t.old r.own)

  -- these are the exchanges
  pub each_exchange : (steps : List Step) (xs : List Exchange) (b : Option Book) → HasDatagrams steps xs → map (λ (t : Transaction). t.exchange) (transactions part steps xs b) ≡ xs
  each_exchange [] [] b same = refl
  each_exchange [] (x ∷ xs) b same = absurd cc
  each_exchange (Tick now ∷ steps) xs b same = each_exchange steps xs (option_map (book_at now) b) same
  each_exchange (Receive d ∷ steps) [] b same = refl
  each_exchange (Receive d ∷ steps) (x ∷ xs) b same = ap (λ ys. x ∷ ys) (each_exchange steps xs (transaction part x b).new (datagrams_then d steps x xs same))

  -- ---- what is granted is in the pool

  module _ (p : Proto) (g : Grant (ClientOf p)) where
    granted_inside : (x : Exchange) (b : Option Book) → IsOwn b → Stands (Granted p g) (lines_of part (transaction part x b)) → IsInPool part p g.address
    granted_inside x None own stands = absurd stands
    granted_inside x (Some b) own stands =
        (served_grants p x.datagram.proto part limits (book_at x.datagram.moment b) (later_of part x.datagram.moment b own) g (effect_of x.answer) x.datagram.bytes stands).in_pool

    inside_either : (x : Exchange) (b : Option Book) → IsOwn b → (more : List Line) → (Stands (Granted p g) more → IsInPool part p g.address)
        → Stands (Granted p g) (lines_of part (transaction part x b)) ⊎ Stands (Granted p g) more → IsInPool part p g.address
    inside_either x b own more rest (inl here) = granted_inside x b own here
    inside_either x b own more rest (inr there) = rest there

    pub inside : (steps : List Step) (xs : List Exchange) (b : Option Book) → IsOwn b → Stands (Granted p g) (ledger_of part (transactions part steps xs b)) → IsInPool part p g.address
    inside [] xs b own stands = absurd stands
    inside (Tick now ∷ steps) xs b own stands = inside steps xs (option_map (book_at now) b) (own_ticked now b own) stands
    inside (Receive d ∷ steps) [] b own stands = absurd stands
    inside (Receive d ∷ steps) (x ∷ xs) b own stands =
        inside_either x b own (ledger_of part (transactions part steps xs (transaction part x b).new))
        (inside steps xs (transaction part x b).new (own_answered x.datagram x.failed b own))
        (stands_either (Granted p g) (lines_of part (transaction part x b)) (ledger_of part (transactions part steps xs (transaction part x b).new)) stands)

    -- ---- whoever grants has saved it, and knows of it

    abbrev Knew : Option Book → Type 0
    Knew b = IfSome b (Keeps part.lease p g)

    pub record IsGrantedSo (t : Transaction) : Type 0 where
      pub saved : IsSaved part p g t
      pub keeps : Knew t.new

    pub grants_saved : (x : Exchange) (b n : Option Book) → IsOwn b → x.answer ≡ (answered part x.datagram x.failed b).answer → n ≡ (answered part x.datagram x.failed b).book
        → Stands (Granted p g) (lines_of part (record { exchange = x; old = b; new = n })) → IsGrantedSo (record { exchange = x; old = b; new = n })
    unfolding served
    grants_saved x None n own answer new stands = absurd stands
    grants_saved x (Some b) n own answer new stands =
        let m = x.datagram.moment in
        let done = served part x.datagram b in
        let i = served_grants p x.datagram.proto part limits (book_at m b) (later_of part m b own) g (effect_of x.answer) x.datagram.bytes stands in
        let unfailed = not_lost done.is_kept x.failed done x.answer i.is_kept answer i.sent in
        let after : n ≡ Some done.book = new ∙ stays_open done.is_kept x.failed done unfailed in record {
          saved = record {
            book = b;
            before = refl;
            is_kept = i.is_kept;
            unfailed = unfailed;
            after = after;
            clock = i.clock;
            until = i.until ∙ ap (λ (n : ℕ). n + part.lease) (sym i.clock);
            bound = i.bound;
          };
          keeps = subst (λ (o : Option Book). Knew o) (sym after) (keeps_new p part (book_at m b) done (effect_of x.answer) g i);
        }

    -- an answer that does not leave grants nothing
    pub unsent_grants : (x : Exchange) (b n : Option Book) (why : Discard) → IsOwn b → x.answer ≡ Err why → Stands (Granted p g) (lines_of part (record { exchange = x; old = b; new = n })) → ⊥
    unsent_grants x None n why own none stands = absurd stands
    unsent_grants x (Some b) n why own none stands =
        let m = x.datagram.moment in
        let i = served_grants p x.datagram.proto part limits (book_at m b) (later_of part m b own) g (effect_of x.answer) x.datagram.bytes stands in
        let never : false ≡ true = ap (λ (a : Result (List ℕ) Discard). is_sent (effect_of a)) (sym none) ∙ i.sent in absurd cc

    pub grants_so : (t : Transaction) (after : List Transaction) (end : Option Book) → IsReached t after end → Stands (Granted p g) (lines_of part t) → IsGrantedSo t
    grants_so t after end r stands = grants_saved t.exchange t.old t.new r.own r.answer r.new stands

    -- ---- a book that knows of a grant keeps it, or its client ends it

    knew_ticked : (now : ℕ) (b : Option Book) → Knew b → Knew (option_map (book_at now) b)
    knew_ticked now None keeps = tt
    knew_ticked now (Some b) keeps = keeps_later part.lease now p g b keeps

    knew_answered : (x : Exchange) (b : Option Book) → IsOwn b → Knew b → Knew (transaction part x b).new ⊎ Stands (Ended p g.client g.address) (lines_of part (transaction part x b))
    unfolding served
    knew_answered x None own keeps = inl tt
    knew_answered x (Some b) own keeps =
        by (served_keeps p x.datagram.proto part (book_at x.datagram.moment b) (later_of part x.datagram.moment b own).book g (effect_of x.answer) x.datagram.bytes (keeps_later part.lease x.datagram.moment p g b keeps)) where
          by : Keeps part.lease p g (served part x.datagram b).book ⊎ Stands (Ended p g.client g.address) (lines_of part (transaction part x (Some b)))
              → Knew (transaction part x (Some b)).new ⊎ Stands (Ended p g.client g.address) (lines_of part (transaction part x (Some b)))
          by (inl kept) = inl (saved_or_closed (Keeps part.lease p g) ((served part x.datagram b).is_kept && x.failed) (served part x.datagram b) kept)
          by (inr ended) = inr ended

    abbrev Ends : List Transaction → Type 0
    Ends ts = Stands (Ended p g.client g.address) (ledger_of part ts)

    -- from step to step
    knew_more : {A : Type 0} (t : Transaction) (ts : List Transaction) → Knew t.new ⊎ Stands (Ended p g.client g.address) (lines_of part t) → (Knew t.new → A ⊎ Ends ts) → A ⊎ Ends (t ∷ ts)
    knew_more {A} t ts (inl keeps) on = by (on keeps) where
      by : A ⊎ Ends ts → A ⊎ Ends (t ∷ ts)
      by (inl a) = inl a
      by (inr ended) = inr (stands_right (Ended p g.client g.address) (lines_of part t) (ledger_of part ts) ended)
    knew_more t ts (inr ended) on = inr (stands_left (Ended p g.client g.address) (lines_of part t) (ledger_of part ts) ended)

    pub knew_at_end : (steps : List Step) (xs : List Exchange) (b : Option Book) → IsOwn b → HasDatagrams steps xs → Knew b
        → Knew (book_alone part steps (failed xs) b) ⊎ Ends (transactions part steps xs b)
    knew_at_end [] xs b own same keeps = inl keeps
    knew_at_end (Tick now ∷ steps) xs b own same keeps = knew_at_end steps xs (option_map (book_at now) b) (own_ticked now b own) same (knew_ticked now b keeps)
    knew_at_end (Receive d ∷ steps) [] b own same keeps = absurd cc
    knew_at_end (Receive d ∷ steps) (x ∷ xs) b own same keeps =
        subst (λ (e : DeliveryValue). Knew (book_alone part steps (failed xs) (answered part e x.failed b).book) ⊎ Ends (transactions part (Receive d ∷ steps) (x ∷ xs) b)) (its_datagram d steps x xs same)
        (knew_more (transaction part x b) (transactions part steps xs (transaction part x b).new) (knew_answered x b own keeps)
        (λ next. knew_at_end steps xs (transaction part x b).new (own_answered x.datagram x.failed b own) (datagrams_then d steps x xs same) next))

    pub knew_there : (steps : List Step) (xs : List Exchange) (b : Option Book) (between after : List Transaction) (t : Transaction) → IsOwn b → HasDatagrams steps xs → Knew b
        → transactions part steps xs b ≡ between ++ t ∷ after → Knew t.old ⊎ Ends between
    knew_there [] xs b [] after t own same keeps are = absurd cc
    knew_there [] xs b (y ∷ between) after t own same keeps are = absurd cc
    knew_there (Tick now ∷ steps) xs b between after t own same keeps are =
        knew_there steps xs (option_map (book_at now) b) between after t (own_ticked now b own) same (knew_ticked now b keeps) are
    knew_there (Receive d ∷ steps) [] b between after t own same keeps are = absurd cc
    knew_there (Receive d ∷ steps) (x ∷ xs) b [] after t own same keeps are =
        inl (subst (λ (u : Transaction). Knew u.old) (same_head (transaction part x b) t (transactions part steps xs (transaction part x b).new) after are) keeps)
    knew_there (Receive d ∷ steps) (x ∷ xs) b (y ∷ between) after t own same keeps are =
        subst (λ (u : Transaction). Knew t.old ⊎ Ends (u ∷ between)) (same_head (transaction part x b) y (transactions part steps xs (transaction part x b).new) (between ++ t ∷ after) are)
        (knew_more (transaction part x b) between (knew_answered x b own keeps)
        (λ next. knew_there steps xs (transaction part x b).new between after t (own_answered x.datagram x.failed b own) (datagrams_then d steps x xs same) next
        (same_tail (transaction part x b) y (transactions part steps xs (transaction part x b).new) (between ++ t ∷ after) are)))

    -- ---- who grants the address to another client

    to_another : (h : Grant (ClientOf p)) (b : Book) → h.clock ≡ b.clock → ((client : ClientOf p) → address_of (binding_of p b client) ≡ Some h.address → client ≡ h.client) → h.address ≡ g.address
        → (g.client ≡ h.client → ⊥) → Knows p g b → g.until ≤ h.clock
    to_another h b clock own same apart (inl past) = subst (λ t. g.until ≤ t) (sym clock) past
    to_another h b clock own same apart (inr (l, is, address, more)) = absurd (apart (own g.client (ap address_of is ∙ ap Some (address ∙ sym same))))

    another_so : (h : Grant (ClientOf p)) (x : Exchange) (b n : Option Book) → IsOwn b → Knew b → Stands (Granted p h) (lines_of part (record { exchange = x; old = b; new = n }))
        → h.address ≡ g.address → (g.client ≡ h.client → ⊥) → g.until ≤ h.clock
    another_so h x None n own keeps stands same apart = absurd stands
    another_so h x (Some b) n own keeps stands same apart =
        let m = x.datagram.moment in
        let i = served_grants p x.datagram.proto part limits (book_at m b) (later_of part m b own) h (effect_of x.answer) x.datagram.bytes stands in
        to_another h (book_at m b) i.clock i.own same apart (keeps_later part.lease m p g b keeps).1

    pub another : (h : Grant (ClientOf p)) (t : Transaction) → IsOwn t.old → Knew t.old → Stands (Granted p h) (lines_of part t) → h.address ≡ g.address → (g.client ≡ h.client → ⊥) → g.until ≤ h.clock
    another h t own keeps stands same apart = another_so h t.exchange t.old t.new own keeps stands same apart
