use Rattle.std.proofs.Common.{◌≡◌, ◌+◌, ◌<◌, ◌∙◌, length, take, cond, nat_lt, true, sym, ap, arith}
use Rattle.std.specs.Prelude.{Some, None}
use Rattle.std.specs.List.{position}
use Rattle.std.specs.Option.{option_or}
use Rattle.slots.specs.Lookup.{is_vacant}
use Rattle.slots.proofs.UsedLemmas.{from_first, from_next, next, vacant_used}
use Rattle.slots.proofs.table.SlotTable.vacant_slot.Goals as goal

pub returns-then-is_some-clause-slot : goal.returns-then-is_some-clause-slot
returns-then-is_some-clause-slot g c =
    let ss = c.self.inside.slots.items in
    let n = c.self.inside.used in
    let first = c.first_vacant-held.ensures.slot ∙ ap (λ xs. position (is_vacant c.args.clock) (take n xs)) c.as_slice.ensures.value in
    sym (from_first c.first_vacant-held.result (next 0 n ss) (sym c.is_some.ensures ∙ c.if-is_some.true))
    ∙ ap (λ o. option_or o (next 0 n ss)) first ∙ sym (vacant_used c.args.clock n ss c.self.invariant.used) ∙ ap (position (is_vacant c.args.clock)) c.self.view_is

pub returns-then-self-len-clause-slot : goal.returns-then-self-len-clause-slot
returns-then-self-len-clause-slot g c =
    let ss = c.self.inside.slots.items in
    let n = c.self.inside.used in
    let first = c.first_vacant-held.ensures.slot ∙ ap (λ xs. position (is_vacant c.args.clock) (take n xs)) c.as_slice.ensures.value in
    let below : n < length ss = omega (arith, c.if-self-len.true, c.len.ensures.value) in
    let there : nat_lt n (length ss) ≡ true = grind (arith, below) in
    let index : n ≡ 0 + n = omega arith in
    ap Some index ∙ ap (λ b. cond b (Some (0 + n)) None) (sym there)
    ∙ sym (from_next c.first_vacant-held.result (next 0 n ss) (sym c.is_some.ensures ∙ c.if-is_some.false))
    ∙ ap (λ o. option_or o (next 0 n ss)) first ∙ sym (vacant_used c.args.clock n ss c.self.invariant.used) ∙ ap (position (is_vacant c.args.clock)) c.self.view_is
