use Rattle.std.proofs.Common.{◌∙◌, ap, length, arith}
use Rattle.bindings_v4.proofs.KeptLemmas.{begun_distinct, begun_slots, begun_book, begun_kept, begun_within, begun_offers}
use Rattle.bindings_v4.proofs.book4.Book4.new.Goals as goal

pub of-requires : goal.of-requires
of-requires c = (
  omega arith,
  (
    omega arith,
    begun_distinct c.args.pool c.args.slots.now c.seconds.result c.count.result c.live_holders-holders.result.items c.seconds.ensures.value c.count.ensures.value
        c.live_holders-holders.ensures.holders c.requires.once,
  ),
)

pub invariant_of-result : goal.invariant_of-result
invariant_of-result c =
    begun_slots c.args.pool c.args.slots.now c.seconds.result c.count.result c.of.result c.seconds.ensures.value c.count.ensures.value (c.of.ensures ∙ c.live_holders-holders.ensures.holders)
    c.count.ensures.within (ap length c.of.ensures ∙ c.live_holders-holders.ensures.size) c.requires.once

pub returns-clause-book : goal.returns-clause-book
returns-clause-book c =
    begun_book c.args.pool c.args.slots.now c.seconds.result c.count.result c.of.result c.seconds.ensures.value c.count.ensures.value (c.of.ensures ∙ c.live_holders-holders.ensures.holders)
    c.requires.past

pub returns-clause-within : goal.returns-clause-within
returns-clause-within c =
    begun_within c.args.pool c.args.slots.now c.seconds.result c.count.result c.of.result c.seconds.ensures.value c.count.ensures.value (c.of.ensures ∙ c.live_holders-holders.ensures.holders)

pub returns-clause-offers : goal.returns-clause-offers
returns-clause-offers c =
    begun_offers c.args.pool c.args.slots.now c.seconds.result c.count.result c.of.result c.seconds.ensures.value c.count.ensures.value (c.of.ensures ∙ c.live_holders-holders.ensures.holders)

pub returns-clause-kept : goal.returns-clause-kept
returns-clause-kept c =
    begun_kept c.args.pool c.args.slots.now c.seconds.result c.count.result c.of.result c.seconds.ensures.value c.count.ensures.value (c.of.ensures ∙ c.live_holders-holders.ensures.holders)
    c.live_holders-holders.ensures.whole (ap length c.of.ensures ∙ c.live_holders-holders.ensures.size) c.requires.past
