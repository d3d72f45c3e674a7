use Rattle.std.proofs.Common.{◌≡◌, ◌∙◌, ℕ, Bool, false, List, length, map, sym, ap, ap₂}
use Rattle.std.specs.Prelude.{Some, slice_get}
use Rattle.std.specs.List.{filter_map}
use Rattle.config.specs.CircuitPart.{CircuitPart}
use Rattle.circuit_server.specs.Server.{Book}
use Rattle.access.specs.Access.{AccessValue}
use Rattle.access_promises.specs.Alone.{answers_alone, book_alone, frame_alone, relayed_alone}
use Rattle.access_promises.specs.Exchanges.{AreExchanges, Exchange, book_in, failed_saves, own_exchanges, received_by, reply_of}
use Rattle.access_promises.specs.Histories.{Taken, taken_for}
use Rattle.access_promises.specs.Own.{Step, steps_in, without_idle_ticks}
use Rattle.access_promises.specs.Turns.{added}
use Rattle.access_promises.proofs.IdleTicks.{AlikeFrom, IsForEach, same_received, without_ticks}
use Rattle.access_promises.proofs.OpenLemmas.{Same, open_at_the_end, same_unfailed, unfailed}
use Rattle.access_promises.proofs.StepLemmas.{length_map, size_of}
use Rattle.access_promises.proofs.TwoRuns.{same_replies}
use Rattle.access_promises.proofs.histories.isolation_of_histories.Goals as goal

same_book_of : (a b : Book) → Some a ≡ Some b → a ≡ b
same_book_of a b same = cc

-- ---- what the server of each makes of it

module _ (c d : ℕ) (part : CircuitPart) (old new start end : AccessValue) (exchanges others : List Exchange) (one : AreExchanges old new exchanges) (there : slice_get old.topology.circuits c ≡ Some part)
    (two : AreExchanges start end others) (here : slice_get start.topology.circuits d ≡ Some part) (begins : book_in old.server c ≡ book_in start.server d)
    (taken : taken_for old.topology c (added old new) ≡ taken_for start.topology d (added start end)) where
  abbrev steps : List Step
  steps = steps_in old.topology c (added old new)

  abbrev steps_there : List Step
  steps_there = steps_in start.topology d (added start end)

  abbrev failed : List Bool
  failed = failed_saves old.topology c exchanges

  abbrev failed_there : List Bool
  failed_there = failed_saves start.topology d others

  size : IsForEach failed steps
  size = size_of old.topology c part steps exchanges (one.each c part there).datagrams

  size_there : IsForEach failed_there steps_there
  size_there = size_of start.topology d part steps_there others (two.each d part here).datagrams

  -- by which saves are said to have failed
  module _ (f g : List Bool) (for_each : IsForEach f steps) (for_each_there : IsForEach g steps_there) (same : f ≡ g) where
    ticked : AlikeFrom part f (without_idle_ticks steps) (book_in old.server c) steps (book_in old.server c)
    ticked = without_ticks part steps f (book_in old.server c) for_each

    ticked_there : AlikeFrom part g (without_idle_ticks steps_there) (book_in start.server d) steps_there (book_in start.server d)
    ticked_there = without_ticks part steps_there g (book_in start.server d) for_each_there

    answers_by : answers_alone part steps f (book_in old.server c) ≡ answers_alone part steps_there g (book_in start.server d)
    answers_by =
        sym ticked.0
        ∙ (ap₂ (λ (t : Taken) (l : List Bool). answers_alone part t.steps l (book_in old.server c)) taken same ∙ (ap (answers_alone part (without_idle_ticks steps_there) g) begins ∙ ticked_there.0))

    books_by : book_alone part steps f (book_in old.server c) ≡ book_alone part steps_there g (book_in start.server d)
    books_by =
        sym ticked.1
        ∙ (ap₂ (λ (t : Taken) (l : List Bool). book_alone part t.steps l (book_in old.server c)) taken same ∙ (ap (book_alone part (without_idle_ticks steps_there) g) begins ∙ ticked_there.1))

  same_book : failed ≡ failed_there → book_in new.server c ≡ book_in end.server d
  same_book same = (one.each c part there).book ∙ (books_by failed failed_there size size_there same ∙ sym (two.each d part here).book)

  same_datagrams : map (λ (x : Exchange). x.datagram) (own_exchanges old.topology c exchanges) ≡ map (λ (x : Exchange). x.datagram) (own_exchanges start.topology d others)
  same_datagrams = (one.each c part there).datagrams ∙ (sym (same_received steps) ∙ (ap (λ (t : Taken). filter_map received_by t.steps) taken ∙ (same_received steps_there ∙ sym (two.each d part here).datagrams)))

  same_sent : answers_alone part steps failed (book_in old.server c) ≡ answers_alone part steps_there failed_there (book_in start.server d)
      → filter_map reply_of (own_exchanges old.topology c exchanges) ≡ filter_map reply_of (own_exchanges start.topology d others)
  same_sent same = same_replies (own_exchanges old.topology c exchanges) (own_exchanges start.topology d others) same_datagrams ((one.each c part there).answers ∙ (same ∙ sym (two.each d part here).answers))

  -- ---- both are open at the end

  same_size : length failed ≡ length failed_there
  same_size =
      length_map (λ (x : Exchange). x.failed) (own_exchanges old.topology c exchanges)
      ∙ (sym (length_map (λ (x : Exchange). x.datagram) (own_exchanges old.topology c exchanges))
      ∙ (ap length same_datagrams
      ∙ (length_map (λ (x : Exchange). x.datagram) (own_exchanges start.topology d others) ∙ sym (length_map (λ (x : Exchange). x.failed) (own_exchanges start.topology d others)))))

  unfailed_size : IsForEach (unfailed failed) steps
  unfailed_size = length_map (λ fails. false) failed ∙ size

  unfailed_size_there : IsForEach (unfailed failed_there) steps_there
  unfailed_size_there = length_map (λ fails. false) failed_there ∙ size_there

  module _ (book other : Book) (ends : book_in new.server c ≡ Some book) (ends_there : book_in end.server d ≡ Some other) where
    one_open : Same part steps failed (book_in old.server c)
    one_open = open_at_the_end part steps failed (book_in old.server c) book (sym (one.each c part there).book ∙ ends)

    two_open : Same part steps_there failed_there (book_in start.server d)
    two_open = open_at_the_end part steps_there failed_there (book_in start.server d) other (sym (two.each d part here).book ∙ ends_there)

    open_sent : filter_map reply_of (own_exchanges old.topology c exchanges) ≡ filter_map reply_of (own_exchanges start.topology d others)
    open_sent = same_sent (one_open.0 ∙ (answers_by (unfailed failed) (unfailed failed_there) unfailed_size unfailed_size_there (same_unfailed failed failed_there same_size) ∙ sym two_open.0))

    open_book : book ≡ other
    open_book =
        let both : Some book ≡ Some other =
        sym ends ∙ ((one.each c part there).book ∙ (one_open.1 ∙ (books_by (unfailed failed) (unfailed failed_there) unfailed_size unfailed_size_there (same_unfailed failed failed_there same_size) ∙ (sym two_open.1 ∙ (sym (two.each d part here).book ∙ ends_there))))) in
        same_book_of book other both

pub returns-clause-sent : goal.returns-clause-sent
returns-clause-sent x c d part old new start end exchanges others run one there other_run two here begins taken failed =
    let up = x.relays_each_circuit_up_alone.ensures.own c part old new run there ∙ (ap (λ (t : Taken). map (relayed_alone part) t.frames) taken ∙ sym (x.relays_each_circuit_up_alone.ensures.own d part start end other_run here)) in
    let down = x.relays_each_circuit_down_alone.ensures.own c part old new run there ∙ (ap (λ (t : Taken). filter_map (frame_alone part) t.datagrams) taken ∙ sym (x.relays_each_circuit_down_alone.ensures.own d part start end other_run here)) in
    let replies = same_sent c d part old new start end exchanges others one there two here begins taken
    (answers_by c d part old new start end exchanges others one there two here begins taken (failed_saves old.topology c exchanges) (failed_saves start.topology d others) (size c d part old new start end exchanges others one there two here begins taken)
    (size_there c d part old new start end exchanges others one there two here begins taken) failed) in
    λ i. record { up = up i; replies = replies i; down = down i }

pub returns-clause-book : goal.returns-clause-book
returns-clause-book x c d part old new start end exchanges others run one there other_run two here begins taken failed = same_book c d part old new start end exchanges others one there two here begins taken failed

pub returns-clause-open : goal.returns-clause-open
returns-clause-open x c d part old new start end exchanges others book other run one there other_run two here begins taken ends ends_there =
    let up = x.relays_each_circuit_up_alone.ensures.own c part old new run there ∙ (ap (λ (t : Taken). map (relayed_alone part) t.frames) taken ∙ sym (x.relays_each_circuit_up_alone.ensures.own d part start end other_run here)) in
    let down = x.relays_each_circuit_down_alone.ensures.own c part old new run there ∙ (ap (λ (t : Taken). filter_map (frame_alone part) t.datagrams) taken ∙ sym (x.relays_each_circuit_down_alone.ensures.own d part start end other_run here)) in
    let replies = open_sent c d part old new start end exchanges others one there two here begins taken book other ends ends_there in
    (λ i. record { up = up i; replies = replies i; down = down i }, open_book c d part old new start end exchanges others one there two here begins taken book other ends ends_there)
