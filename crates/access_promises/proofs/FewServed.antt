-- Each datagram that the server takes is answered with one at most, at a relay.
use Rattle.std.proofs.Common.{◌≡◌, ◌∙◌, ℕ, zero, suc, ◌+◌, ◌≤◌, ◌==◌, Bool, true, false, List, [], ◌∷◌, ◌++◌, sym, ap, subst, arith}
use Rattle.std.specs.Prelude.{Option, Some, slice_get, Result, Ok, Err}
use Rattle.types.specs.Delivery.{DeliveryValue}
use Rattle.types.specs.declared.addr.Source.{Source}
use Rattle.types.specs.declared.dest.Proto.{Proto}
use Rattle.types.specs.declared.discard.Discard.{Discard}
use Rattle.config.specs.Topology.{Topology}
use Rattle.config.proofs.PartLemmas.{all_at}
use Rattle.dispatch.specs.Answers.{circuit_at}
use Rattle.dispatch.specs.Batch.{circuits_of}
use Rattle.udp.specs.History.{Entry}
use Rattle.udp.specs.declared.history.Role.TheVariants.{Server}
use Rattle.counts.specs.Tally.{CircuitFate}
use Rattle.counts.specs.declared.counts.Fate.{Fate}
use Rattle.counts.specs.declared.counts.Fate.TheVariants as fate
use Rattle.access.specs.Access.{AccessValue, HasServed}
use Rattle.access.specs.Batch.{AreReceived, AreReceivedAgain, AreReplied, IsReceivedAgain, IsRepliedAt, IsReplied, Serving, is_repeated, made_of, serving}
use Rattle.access.specs.Pass.{HasAnswered, SecondBatch}
use Rattle.access.specs.Polling.{deliveries_in}
use Rattle.access.specs.Turn.{GoesOn}
use Rattle.access_promises.proofs.FewPolled.{Batch, polled_leads}
use Rattle.access_promises.proofs.FewWait.{AreApart, FewWait, IsFromRelay, few_more, sent_back}
use Rattle.access_promises.proofs.Queues.{Adds, Leads, Queues, adds_none, adds_then, adds_weaker, leads_both, leads_none, leads_weaker}

-- What is received adds nothing to the history.
received_history : (taken : List DeliveryValue) (answers : List (Result (List ℕ) Discard)) (old new : Serving) → AreReceived taken answers old new → new.history ≡ old.history
received_history [] answers old new same = ap (λ (s : Serving). s.history) same
received_history (d ∷ taken) answers old new received = ap (λ (s : Serving). s.history) received.rest

module _ (topology : Topology) (port : ℕ) (apart : AreApart topology port) (Rest : Queues → Type 0) where
  -- ---- one answer

  back : (down : ℕ) (proto : Proto) (to : Source) (answer : Result (List ℕ) Discard) (entries : List Entry) (became : Fate) → IsFromRelay topology (Some to) → GoesOn (Server proto) to fate.Answered answer entries became
      → Leads topology Rest (FewWait topology 0 down) (FewWait topology 0 (suc down)) entries
  back down proto to (Err why) entries became ours goes =
      subst (Leads topology Rest (FewWait topology 0 down) (FewWait topology 0 (suc down))) (sym goes.0)
      (leads_weaker topology Rest (FewWait topology 0 down) (FewWait topology 0 down) (FewWait topology 0 (suc down)) [] (few_more topology 0 down 0 (suc down) (omega arith) (omega arith)) (leads_none topology Rest (FewWait topology 0 down)))
  back down proto to (Ok bytes) entries became (r, at, there, is) goes =
      subst (Leads topology Rest (FewWait topology 0 down) (FewWait topology 0 (suc down))) (sym goes.1)
      (λ q fair few. record { ends = sent_back topology port apart 0 down r to proto bytes goes.0 q (there ∙ sym is) few; ticks = (tt, tt) })

  module _ (most : ℕ) (taken : List DeliveryValue) where
    abbrev Answering : ℕ → Queues → Type 0
    Answering down = Batch topology Rest most down taken

    answering_more : (down more : ℕ) → down ≤ more → (q : Queues) → Answering down q → Answering more q
    answering_more down more least q (are, few) = (are, few_more topology 0 down 0 more (omega arith) least q few)

    answer_leads : (down j : ℕ) (d : DeliveryValue) (answer : Result (List ℕ) Discard) (entries : List Entry) (became : Fate) → slice_get taken j ≡ Some d → GoesOn (Server d.proto) d.source fate.Answered answer entries became
        → Leads topology Rest (Answering down) (Answering (suc down)) entries
    answer_leads down j d answer entries became at goes q fair (are, few) =
        let led = back down d.proto d.source answer entries became (all_at (λ (e : DeliveryValue). IsFromRelay topology (Some e.source)) taken j d at are.from) goes q fair few in
        record { ends = (are, led.ends); ticks = led.ticks }

    -- ---- all together

    replied_leads : (down j : ℕ) (repeated : Bool) (circuit : Option ℕ) (d : DeliveryValue) (answer : Result (List ℕ) Discard) (entries : List Entry) (outcomes : List CircuitFate) → slice_get taken j ≡ Some d
        → IsReplied repeated circuit d answer entries outcomes → Leads topology Rest (Answering down) (Answering (suc down)) entries
    replied_leads down j true circuit d answer entries outcomes at none =
        subst (Leads topology Rest (Answering down) (Answering (suc down))) (sym none.0)
        (leads_weaker topology Rest (Answering down) (Answering down) (Answering (suc down)) [] (answering_more down (suc down) (omega arith)) (leads_none topology Rest (Answering down)))
    replied_leads down j false circuit d answer entries outcomes at goes = answer_leads down j d answer entries goes.0 at goes.2

    all_replied : (circuits : List (Option ℕ)) (answers : List (Result (List ℕ) Discard)) (down n : ℕ) (entries : List Entry) (outcomes : List CircuitFate) → AreReplied taken circuits answers n entries outcomes
        → Leads topology Rest (Answering down) (Answering (down + n)) entries
    all_replied circuits answers down zero entries outcomes none =
        subst (Leads topology Rest (Answering down) (Answering (down + 0))) (sym none.0)
        (leads_weaker topology Rest (Answering down) (Answering down) (Answering (down + 0)) [] (answering_more down (down + 0) (omega arith)) (leads_none topology Rest (Answering down)))
    all_replied circuits answers down (suc n) entries outcomes both =
        let one = both.other in
        leads_both topology Rest (Answering down) (Answering (down + n)) (Answering (down + suc n)) (AreReplied taken circuits answers n) (IsRepliedAt taken circuits answers n) entries outcomes both
        (all_replied circuits answers down n both.before both.done both.one)
        (leads_weaker topology Rest (Answering (down + n)) (Answering (suc (down + n))) (Answering (down + suc n)) both.after (answering_more (suc (down + n)) (down + suc n) (omega arith))
        (replied_leads (down + n) n (is_repeated one.its_answer) (circuit_at circuits n) one.its_datagram one.its_answer both.after both.more one.taken_at one.replied))

    -- ---- those that are received again

    again_adds : (down j : ℕ) (repeated : Bool) (d : DeliveryValue) (old new : Serving) → slice_get taken j ≡ Some d → IsReceivedAgain repeated d old new → Adds topology Rest (Answering down) (Answering (suc down)) old.history new.history
    again_adds down j true d old new at answered = record { entries = answered.rest; history = answered.history; leads = answer_leads down j d (made_of d old new).answer answered.rest answered.became at answered.goes_on }
    again_adds down j false d old new at same =
        adds_weaker topology Rest (Answering down) (Answering down) (Answering (suc down)) old.history new.history (answering_more down (suc down) (omega arith))
        (adds_none topology Rest (Answering down) old.history new.history (ap (λ (s : Serving). s.history) same))

    all_again : (answers : List (Result (List ℕ) Discard)) (down n : ℕ) (old new : Serving) → AreReceivedAgain taken answers n old new → Adds topology Rest (Answering down) (Answering (down + n)) old.history new.history
    all_again answers down zero old new same =
        adds_weaker topology Rest (Answering down) (Answering down) (Answering (down + 0)) old.history new.history (answering_more down (down + 0) (omega arith))
        (adds_none topology Rest (Answering down) old.history new.history (ap (λ (s : Serving). s.history) same))
    all_again answers down (suc n) old new (middle, before, one) =
        adds_then topology Rest (Answering down) (Answering (down + n)) (Answering (down + suc n)) old.history middle.history new.history (all_again answers down n old middle before)
        (adds_weaker topology Rest (Answering (down + n)) (Answering (suc (down + n))) (Answering (down + suc n)) middle.history new.history (answering_more (suc (down + n)) (down + suc n) (omega arith))
        (again_adds (down + n) n (is_repeated one.its_answer) one.its_datagram middle new one.taken_at one.received))

  -- ---- a batch

  served_adds : (now count up down : ℕ) (old new : AccessValue) → up ≤ old.batch → HasServed now count old new → Adds topology Rest (FewWait topology up down) (FewWait topology 0 (down + (up + up))) old.history new.history
  served_adds now count up down old new room served =
      adds_weaker topology Rest (FewWait topology up down) (Answers (down + count + count)) (FewWait topology 0 (down + (up + up))) old.history new.history
      (λ q (are, few). few_more topology 0 (down + count + count) 0 (down + (up + up)) (omega arith) (let many = served.many in let least = are.many in omega (arith, many, least)) q few)
      (adds_then topology Rest (FewWait topology up down) (Answers (down + count)) (Answers (down + count + count)) old.history served.history new.history
      (adds_then topology Rest (FewWait topology up down) (Answers down) (Answers (down + count)) old.history served.saved.history served.history polled replied)
      (all_again up taken served.answers (down + count) count (serving served.saved.server served.saved.disk served.tally served.history) _ served.again))
    where
      taken : List DeliveryValue
      taken = deliveries_in now served.entries

      Answers : ℕ → Queues → Type 0
      Answers n = Batch topology Rest up n (deliveries_in now served.entries)

      polled : Adds topology Rest (FewWait topology up down) (Batch topology Rest up down (deliveries_in now served.entries)) old.history served.saved.history
      polled = record {
        entries = served.entries;
        history = received_history (deliveries_in now served.entries) served.answers (serving old.server old.disk old.tally (old.history ++ served.entries)) served.saved served.received;
        leads = polled_leads topology Rest now old.batch up down old.first new.first served.entries room served.polled;
      }

      replied : Adds topology Rest (Batch topology Rest up down (deliveries_in now served.entries)) (Batch topology Rest up (down + count) (deliveries_in now served.entries)) served.saved.history served.history
      replied = record {
        entries = served.replied.entries;
        history = served.replied.history;
        leads = all_replied up (deliveries_in now served.entries) (circuits_of old.server.topology (deliveries_in now served.entries)) served.answers down count served.replied.entries served.replied.outcomes served.replied.tried;
      }

  -- and the second one
  pub answered_adds : (now count : ℕ) (old new : AccessValue) → old.batch ≡ 16 → HasAnswered now count old new → Adds topology Rest (FewWait topology 16 0) (FewWait topology 0 32) old.history new.history
  answered_adds now count old new size answered =
      adds_then topology Rest (FewWait topology 16 0) (FewWait topology 0 32) (FewWait topology 0 32) old.history answered.middle.history new.history
      (served_adds now answered.first 16 0 old answered.middle (omega (arith, size)) answered.batch) (by (answered.first == old.batch) answered.other)
    where
      by : (full : Bool) → SecondBatch full now answered.second answered.middle new → Adds topology Rest (FewWait topology 0 32) (FewWait topology 0 32) answered.middle.history new.history
      by true served = served_adds now answered.second 0 32 answered.middle new (omega arith) served
      by false none = adds_none topology Rest (FewWait topology 0 32) answered.middle.history new.history (ap (λ (a : AccessValue). a.history) none.1)
