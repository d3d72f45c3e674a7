use Rattle.std.proofs.Common.{refl}
use Rattle.slots.specs.KeyLaws.{key6_is_key}
use Rattle.slots.proofs.FormLemmas.{all_live, kept_twice}
use Rattle.bindings_v6.specs.Kept6.{kept_slots}
use Rattle.bindings_v6.proofs.KeptLemmas.{form6, kept_size, all_within, past_free, book_kept}
use Rattle.bindings_v6.proofs.laws.keeps_a_book.Goals as goal

pub returns-clause-size : goal.returns-clause-size
returns-clause-size c = let v = c.args.book.now in kept_size v.pool c.args.clock v.slots c.slots-slots.ensures.within

pub returns-clause-past : goal.returns-clause-past
returns-clause-past c =
    let v = c.args.book.now in past_free v.pool c.args.clock v.slots (kept_slots c.args.clock v.slots) c.slots-slots.ensures.within refl

pub returns-clause-live : goal.returns-clause-live
returns-clause-live c = let ss = c.args.book.now.slots in all_live form6 c.args.clock ss (kept_slots c.args.clock ss) refl

pub returns-clause-once : goal.returns-clause-once
returns-clause-once c =
    let ss = c.args.book.now.slots in kept_twice form6 key6_is_key c.args.clock ss (kept_slots c.args.clock ss) refl c.slots-slots.ensures.within.distinct

pub returns-clause-within : goal.returns-clause-within
returns-clause-within c = let ss = c.args.book.now.slots in all_within c.args.clock ss (kept_slots c.args.clock ss) refl

pub returns-clause-book : goal.returns-clause-book
returns-clause-book c region six clock = book_kept c.args.book.now c.args.clock c.slots-slots.ensures.within region six clock
