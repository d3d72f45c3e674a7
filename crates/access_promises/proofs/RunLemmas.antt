-- A run, round by round.
use Rattle.std.proofs.Common.{inl, inr, ◌≡◌, ◌∙◌, ℕ, zero, suc, List, [], ◌∷◌, ◌++◌, length, map, drop, refl, sym, ap, ap₂, subst, append_assoc, append-nil}
use Rattle.std.specs.Prelude.{Some, All, option_map, slice_get}
use Rattle.std.specs.List.{filter, filter_map, flat_map}
use Rattle.std.specs.Option.{option_flatten}
use Rattle.std.proofs.lemmas.List.Concat.{flat_map-append}
use Rattle.std.specs.List.Sorted.{IsPermutation}
use Rattle.std.proofs.lemmas.List.{map-append}
use Rattle.std.proofs.lemmas.List.Sorted.{IsPermutation-append, IsPermutation-refl}
use Rattle.std.proofs.lemmas.List.Elements.{All-append, filter_map-append}
use Rattle.std.proofs.lemmas.Option.{slice_get-map}
use Rattle.types.specs.Delivery.{DeliveryValue}
use Rattle.config.specs.CircuitPart.{CircuitPart}
use Rattle.config.specs.Topology.{IsTopology, Topology}
use Rattle.circuit_server.specs.Server.{book_at}
use Rattle.lease_disk.specs.FileDisk.{device_of}
use Rattle.dispatch.specs.ServerValue.{books_in}
use Rattle.service_clock.specs.Shown.{Shown}
use Rattle.udp.specs.History.{Entry, Ticked}
use Rattle.access.specs.Access.{AccessValue, AreRounds, HasServedTurns, HasTicked}
use Rattle.access.specs.Pass.{HasMadePasses}
use Rattle.access.specs.Polling.{deliveries_in, delivery_in}
use Rattle.access_promises.specs.Exchanges.{AreAlone, AreExchanges, Exchange, DropsStray, book_in, reply_of}
use Rattle.access_promises.specs.Own.{Receive, Tick, is_own, replies_in, sent_reply, steps_in, steps_of, taken_at_server}
use Rattle.access_promises.specs.Turns.{IsRound, IsRun, Turn, added, turns_in}
use Rattle.access_promises.proofs.Counted.{CountsEach, counts_none, counts_then}
use Rattle.access_promises.proofs.DownLemmas.{AreDown, down_more, down_none, down_other, down_others}
use Rattle.access_promises.proofs.EachBook.{has_book}
use Rattle.access_promises.proofs.Moves.{HasMoved}
use Rattle.access_promises.proofs.OneRound.{IsOneRound, one_round}
use Rattle.access_promises.proofs.EntryKinds.{AreOf, delivery_only, reply_only, skipped}
use Rattle.access_promises.proofs.RoundEntries.{GoOn, go_on, go_on_more, turn_ends}
use Rattle.access_promises.proofs.Serves.{datagrams, no_strays, receives}
use Rattle.access_promises.proofs.StepLemmas.{alone_more, alone_none, alone_ticked}
use Rattle.access_promises.proofs.UpLemmas.{AreUp, up_more, up_none, up_other, up_others}

drop_seam : {A : Type 0} (xs ys : List A) → drop (length xs) (xs ++ ys) ≡ ys
drop_seam [] ys = refl
drop_seam (x ∷ xs) ys = drop_seam xs ys

pub record Ran (topology : Topology) (port : ℕ) (old new : AccessValue) : Type 0 where
  pub entries : List Entry
  pub history : new.history ≡ old.history ++ entries
  pub up : AreUp topology entries
  pub down : AreDown topology port entries
  pub same : new.topology ≡ topology
  pub its : new.server.topology ≡ topology
  pub port_is : new.port ≡ port
  pub whole : (more : List Entry) → turns_in (entries ++ more) ≡ turns_in entries ++ turns_in more
  pub exchanges : List Exchange
  pub once : IsPermutation (datagrams exchanges) (taken_at_server entries)
  pub replies : replies_in entries ≡ filter_map reply_of exchanges
  pub strays : All (DropsStray topology) exchanges
  pub each : (c : ℕ) (part : CircuitPart) → slice_get topology.circuits c ≡ Some part → AreAlone topology c part (steps_in topology c entries) exchanges (book_in old.server c) (book_in new.server c)
  pub failures : CountsEach topology exchanges (device_of old.disk) (device_of new.disk)

ran_none : (old new : AccessValue) → old.server.topology ≡ old.topology → new ≡ old → Ran old.topology old.port old new
ran_none old new known is = subst (λ (a : AccessValue). Ran old.topology old.port old a) (sym is) (record {
  entries = [];
  history = sym (append-nil old.history);
  up = up_none old.topology;
  down = down_none old.topology old.port;
  same = refl;
  its = known;
  port_is = refl;
  whole = λ more. refl;
  exchanges = [];
  once = IsPermutation-refl [];
  replies = refl;
  strays = no_strays old.topology;
  each = λ c part there. alone_none old.topology c part (book_in old.server c);
  failures = counts_none old.topology (device_of old.disk);
})

-- ---- a round

module _ (topology : Topology) (port now : ℕ) (readings : List Entry) (are : AreOf 0 readings) (clock : Shown) (old last new : AccessValue) (known : old.server.topology ≡ topology)
    (moved : HasMoved topology port now (record old { history = old.history ++ readings; clock = clock }) last) (ticks : HasTicked now last new) where
  abbrev body : List Entry
  body = readings ++ moved.serves.entries

  abbrev round : List Entry
  round = body ++ Ticked now ∷ []

  goes_on : GoOn body
  goes_on = go_on_more readings moved.serves.entries (go_on 0 refl readings are) moved.serves.are.on

  taken_in_body : deliveries_in now body ≡ moved.taken
  taken_in_body =
      filter_map-append (delivery_in now) readings moved.serves.entries
      ∙ (ap (λ ds. ds ++ deliveries_in now moved.serves.entries) (skipped (delivery_in now) 2 0 (delivery_only now) refl readings are) ∙ moved.deliveries)

  replies_in_body : replies_in body ≡ filter_map reply_of moved.serves.exchanges
  replies_in_body =
      filter_map-append sent_reply readings moved.serves.entries
      ∙ (ap (λ rs. rs ++ replies_in moved.serves.entries) (skipped sent_reply 3 0 reply_only refl readings are) ∙ moved.serves.replies)

  ends : (more : List Entry) → turns_in (round ++ more) ≡ record { entries = body; now = now } ∷ turns_in more
  ends more = ap turns_in (append_assoc body (Ticked now ∷ []) more) ∙ turn_ends body goes_on [] now more

  its_turns : turns_in round ≡ record { entries = body; now = now } ∷ []
  its_turns = turn_ends body goes_on [] now []

  taken_in_round : taken_at_server round ≡ moved.taken
  taken_in_round = ap (flat_map (λ (t : Turn). deliveries_in t.now t.entries)) its_turns ∙ (append-nil (deliveries_in now body) ∙ taken_in_body)

  steps_in_round : (c : ℕ) → steps_in topology c round ≡ receives topology c moved.taken ++ Tick now ∷ []
  steps_in_round c =
      ap (flat_map (steps_of topology c)) its_turns
      ∙ (append-nil (steps_of topology c (record { entries = body; now = now })) ∙ ap (λ (ds : List DeliveryValue). map Receive (filter (is_own topology c) ds) ++ Tick now ∷ []) taken_in_body)

  round_history : new.history ≡ old.history ++ round
  round_history =
      ticks.history
      ∙ (ap (λ h. h ++ Ticked now ∷ []) (moved.serves.history ∙ append_assoc old.history readings moved.serves.entries)
      ∙ append_assoc old.history body (Ticked now ∷ []))

  round_alone : (c : ℕ) (part : CircuitPart) → slice_get topology.circuits c ≡ Some part → AreAlone topology c part (steps_in topology c round) moved.serves.exchanges (book_in old.server c) (book_in new.server c)
  round_alone c part there =
      let book = has_book old.server c part (ap (λ (top : Topology). slice_get top.circuits c) known ∙ there) in
      let served = moved.serves.each c part book.0 there book.1 in
      let new_book : book_in new.server c ≡ option_map (book_at now) served.after =
      ap (λ books. option_flatten (slice_get books c)) ticks.ticked
      ∙ (ap option_flatten (slice_get-map (option_map (book_at now)) (books_in last.server) c) ∙ ap (λ o. option_flatten (option_map (option_map (book_at now)) o)) served.at) in
      let alone : AreAlone topology c part (receives topology c moved.taken ++ Tick now ∷ []) (moved.serves.exchanges ++ []) book.0 (option_map (book_at now) served.after) =
      alone_more topology c part (receives topology c moved.taken) (Tick now ∷ []) moved.serves.exchanges [] book.0 served.after (option_map (book_at now) served.after) served.alone (alone_ticked topology c part now served.after) in
      subst (λ steps. AreAlone topology c part steps moved.serves.exchanges (book_in old.server c) (book_in new.server c)) (sym (steps_in_round c))
      (subst (λ xs. AreAlone topology c part (receives topology c moved.taken ++ Tick now ∷ []) xs (book_in old.server c) (book_in new.server c)) (append-nil moved.serves.exchanges)
      (subst (λ b. AreAlone topology c part (receives topology c moved.taken ++ Tick now ∷ []) (moved.serves.exchanges ++ []) b (book_in new.server c)) (sym (ap option_flatten book.1))
      (subst (λ b. AreAlone topology c part (receives topology c moved.taken ++ Tick now ∷ []) (moved.serves.exchanges ++ []) book.0 b) (sym new_book) alone)))

  ran_moved : Ran topology port old new
  ran_moved = record {
    entries = round;
    history = round_history;
    up = up_more topology body (Ticked now ∷ []) (up_more topology readings moved.serves.entries (up_others topology 0 refl readings are) moved.serves.are.up) (up_other topology (Ticked now) refl);
    down = down_more topology port body (Ticked now ∷ []) (down_more topology port readings moved.serves.entries (down_others topology port 0 refl readings are) moved.serves.are.down)
        (down_other topology port (Ticked now) refl);
    same = ap (λ (a : AccessValue). a.topology) ticks.rest ∙ moved.same;
    its = ticks.known ∙ moved.serves.its;
    port_is = ap (λ (a : AccessValue). a.port) ticks.rest ∙ moved.port_is;
    whole = λ more. ends more ∙ ap (λ ts. ts ++ turns_in more) (sym its_turns);
    exchanges = moved.serves.exchanges;
    once = subst (IsPermutation (datagrams moved.serves.exchanges)) (sym taken_in_round) moved.serves.once;
    replies = filter_map-append sent_reply body (Ticked now ∷ []) ∙ (append-nil (replies_in body) ∙ replies_in_body);
    strays = moved.serves.strays;
    each = round_alone;
    failures = subst (λ d. CountsEach topology moved.serves.exchanges (device_of old.disk) (device_of d)) (sym (ap (λ (a : AccessValue). a.disk) ticks.rest)) moved.serves.failures;
  }

ran_once : (old new : AccessValue) → IsTopology old.topology → old.server.topology ≡ old.topology → IsOneRound old new → Ran old.topology old.port old new
ran_once old new sound known one = ran_moved old.topology old.port one.now one.readings one.are one.clock old one.moved new known (one.moves sound known) one.ticks

-- ---- one after the other

ran_then : (topology : Topology) (port : ℕ) (old middle new : AccessValue) → Ran topology port old middle → Ran topology port middle new → Ran topology port old new
ran_then topology port old middle new one two = record {
  entries = one.entries ++ two.entries;
  history = two.history ∙ (ap (λ h. h ++ two.entries) one.history ∙ append_assoc old.history one.entries two.entries);
  up = up_more topology one.entries two.entries one.up two.up;
  down = down_more topology port one.entries two.entries one.down two.down;
  same = two.same;
  its = two.its;
  port_is = two.port_is;
  whole = λ more.
      ap turns_in (append_assoc one.entries two.entries more)
      ∙ (one.whole (two.entries ++ more)
      ∙ (ap (λ ts. turns_in one.entries ++ ts) (two.whole more)
      ∙ (sym (append_assoc (turns_in one.entries) (turns_in two.entries) (turns_in more)) ∙ ap (λ ts. ts ++ turns_in more) (sym (one.whole two.entries)))));
  exchanges = one.exchanges ++ two.exchanges;
  once = subst (λ l. IsPermutation l (taken_at_server (one.entries ++ two.entries))) (sym (map-append (λ (x : Exchange). x.datagram) one.exchanges two.exchanges))
      (subst (IsPermutation (datagrams one.exchanges ++ datagrams two.exchanges))
      (sym (ap (flat_map (λ (t : Turn). deliveries_in t.now t.entries)) (one.whole two.entries) ∙ flat_map-append (λ (t : Turn). deliveries_in t.now t.entries) (turns_in one.entries) (turns_in two.entries)))
      (IsPermutation-append (datagrams one.exchanges) (taken_at_server one.entries) (datagrams two.exchanges) (taken_at_server two.entries) one.once two.once));
  replies = filter_map-append sent_reply one.entries two.entries ∙ (ap₂ (λ a b. a ++ b) one.replies two.replies ∙ sym (filter_map-append reply_of one.exchanges two.exchanges));
  strays = All-append (DropsStray topology) one.exchanges two.exchanges one.strays two.strays;
  each = λ c part there.
      subst (λ steps. AreAlone topology c part steps (one.exchanges ++ two.exchanges) (book_in old.server c) (book_in new.server c))
      (sym (ap (flat_map (steps_of topology c)) (one.whole two.entries) ∙ flat_map-append (steps_of topology c) (turns_in one.entries) (turns_in two.entries)))
      (alone_more topology c part (steps_in topology c one.entries) (steps_in topology c two.entries) one.exchanges two.exchanges (book_in old.server c) (book_in middle.server c) (book_in new.server c) (one.each c part there) (two.each c part there));
  failures = counts_then topology one.exchanges two.exchanges (device_of old.disk) (device_of middle.disk) (device_of new.disk) one.failures two.failures;
}

rounds_ran : (n now : ℕ) (old new : AccessValue) → IsTopology old.topology → old.server.topology ≡ old.topology → AreRounds IsRound n now old new → Ran old.topology old.port old new
rounds_ran zero now old new sound known made = ran_none old new known made.1
rounds_ran (suc n) now old new sound known made =
    let middle = made.1 in
    let before = rounds_ran n made.0 old middle sound known made.2 in
    let last = ran_once middle new (subst IsTopology (sym before.same) sound) (before.its ∙ sym before.same) (one_round made.0 now middle new made.3) in
    ran_then old.topology old.port old middle new before
    (subst (λ p. Ran old.topology p middle new) before.port_is (subst (λ top. Ran top middle.port middle new) before.same last))

pub run_ran : (old new : AccessValue) → IsRun old new → Ran old.topology old.port old new
run_ran old new run = rounds_ran run.rounds run.now old new run.topology run.served run.made

-- ---- what a run added

pub added_is : (topology : Topology) (port : ℕ) (old new : AccessValue) → (ran : Ran topology port old new) → added old new ≡ ran.entries
added_is topology port old new ran = ap (drop (length old.history)) ran.history ∙ drop_seam old.history ran.entries

pub run_exchanges : (old new : AccessValue) → IsRun old new → (exchanges : List Exchange) × AreExchanges old new exchanges
run_exchanges old new run =
    let ran = run_ran old new run in
    let is = sym (added_is old.topology old.port old new ran) in (
      ran.exchanges,
      record {
        once = subst (λ es. IsPermutation (datagrams ran.exchanges) (taken_at_server es)) is ran.once;
        sent = subst (λ es. replies_in es ≡ filter_map reply_of ran.exchanges) is ran.replies;
        strays = ran.strays;
        each = λ c part there. subst (λ es. AreAlone old.topology c part (steps_in old.topology c es) ran.exchanges (book_in old.server c) (book_in new.server c)) is (ran.each c part there);
        failures = λ c part there. (ran.failures c part there).failed;
      },
    )

-- ---- turns alone, and passes alone

pub turns_made : (n now : ℕ) (old new : AccessValue) → HasServedTurns n now old new → AreRounds IsRound n now old new
turns_made zero now old new none = none
turns_made (suc n) now old new turns = (turns.0, turns.1, turns_made n turns.0 old turns.1 turns.2, inl turns.3)

pub passes_made : (n now : ℕ) (old new : AccessValue) → HasMadePasses n now old new → AreRounds IsRound n now old new
passes_made zero now old new none = none
passes_made (suc n) now old new passes = (passes.0, passes.1, passes_made n passes.0 old passes.1 passes.2, inr passes.3)
