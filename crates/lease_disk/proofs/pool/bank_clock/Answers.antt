use Rattle.std.proofs.Common.{ap, ◌∙◌}
use Rattle.lease_disk.proofs.Reading.{clock_first, clock_if, clock_new, clock_none, clock_second}
use Rattle.lease_disk.proofs.pool.bank_clock.Goals as goal

pub returns-then-counts_before : goal.returns-then-counts_before
returns-then-counts_before c =
    clock_new c.new.result c.number8.result c.new.ensures.within c.new.ensures.value ∙ ap clock_if c.number8.ensures
    ∙ clock_first _ _ _ _ c.half_of-first.ensures.bytes c.half_of-second.ensures.bytes c.if-counts_before.ensures

pub returns-then-counts_before-2 : goal.returns-then-counts_before-2
returns-then-counts_before-2 c =
    clock_new c.new-then-counts_before-2.result c.number8-then-counts_before-2.result c.new-then-counts_before-2.ensures.within c.new-then-counts_before-2.ensures.value ∙ ap clock_if c.number8-then-counts_before-2.ensures
    ∙ clock_second _ _ _ _ c.half_of-first.ensures.bytes c.half_of-second.ensures.bytes c.if-counts_before.ensures c.if-counts_before-2.ensures

pub returns : goal.returns
returns c = clock_none _ _ _ _ c.half_of-first.ensures.bytes c.half_of-second.ensures.bytes c.if-counts_before.ensures c.if-counts_before-2.ensures
