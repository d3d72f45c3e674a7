use Rattle.std.proofs.Common.{◌≡◌, ap, ◌∙◌}
use Rattle.slots.specs.KeyLaws.{key6_is_key}
use Rattle.slots.proofs.FormLemmas.{all_live, kept_twice}
use Rattle.bindings_v6.specs.Kept6.{kept_slots}
use Rattle.bindings_v6.proofs.KeptLemmas.{form6, all_within, past_free, book_put}
use Rattle.bindings_v6.proofs.book6.Book6.put.Goals as goal

pub returns-clause-book : goal.returns-clause-book
returns-clause-book c =
    let v = c.args.self.now in
    let written : c.kept_slots-slots.result ≡ kept_slots c.args.slots.now.clock v.slots =
    c.kept_slots-slots.ensures ∙ ap (λ t. kept_slots t c.slots.result.now) c.seconds.ensures.value ∙ ap (kept_slots c.args.slots.now.clock) c.slots.ensures.value in
    book_put v c.slots.ensures.within (record { four = c.args.slots.now.four; six = c.kept_slots-slots.result; clock = c.args.slots.now.clock }) written

pub returns-clause-live : goal.returns-clause-live
returns-clause-live c =
    let v = c.args.self.now in
    let written : c.kept_slots-slots.result ≡ kept_slots c.args.slots.now.clock v.slots =
    c.kept_slots-slots.ensures ∙ ap (λ t. kept_slots t c.slots.result.now) c.seconds.ensures.value ∙ ap (kept_slots c.args.slots.now.clock) c.slots.ensures.value in
    all_live form6 c.args.slots.now.clock v.slots c.kept_slots-slots.result written

pub returns-clause-once : goal.returns-clause-once
returns-clause-once c =
    let v = c.args.self.now in
    let written : c.kept_slots-slots.result ≡ kept_slots c.args.slots.now.clock v.slots =
    c.kept_slots-slots.ensures ∙ ap (λ t. kept_slots t c.slots.result.now) c.seconds.ensures.value ∙ ap (kept_slots c.args.slots.now.clock) c.slots.ensures.value in
    kept_twice form6 key6_is_key c.args.slots.now.clock v.slots c.kept_slots-slots.result written c.slots.ensures.within.distinct

pub returns-clause-within : goal.returns-clause-within
returns-clause-within c =
    let v = c.args.self.now in
    let written : c.kept_slots-slots.result ≡ kept_slots c.args.slots.now.clock v.slots =
    c.kept_slots-slots.ensures ∙ ap (λ t. kept_slots t c.slots.result.now) c.seconds.ensures.value ∙ ap (kept_slots c.args.slots.now.clock) c.slots.ensures.value in
    all_within c.args.slots.now.clock v.slots c.kept_slots-slots.result written

pub returns-clause-past : goal.returns-clause-past
returns-clause-past c =
    let v = c.args.self.now in
    let written : c.kept_slots-slots.result ≡ kept_slots c.args.slots.now.clock v.slots =
    c.kept_slots-slots.ensures ∙ ap (λ t. kept_slots t c.slots.result.now) c.seconds.ensures.value ∙ ap (kept_slots c.args.slots.now.clock) c.slots.ensures.value in
    past_free v.pool c.args.slots.now.clock v.slots c.kept_slots-slots.result c.slots.ensures.within written
