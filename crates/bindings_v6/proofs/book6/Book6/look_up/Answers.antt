use Rattle.std.proofs.Common.{◌∙◌, ap, subst}
use Rattle.std.specs.List.{position}
use Rattle.slots.specs.Lookup.{is_bound_to, slot_in, picked_slot}
use Rattle.types.specs.Addr.{number6}
use Rattle.types.specs.Key6.{same_key6}
use Rattle.bindings_v6.specs.Table6.{first_listed}
use Rattle.bindings_v6.specs.Slots6.{AreSlots, PoolSlots}
use Rattle.bindings_v6.proofs.FreeLemmas.{bound_found, pick_found}
use Rattle.bindings_v6.proofs.book6.Book6.look_up.Goals as goal

pub returns-clause-found : goal.returns-clause-found
returns-clause-found c =
    let v = c.args.self.now in
    let m = c.args.request.now in
    let now = c.seconds-seconds in
    let ss = c.self.inside.slots in
    let shown = ap (λ x. x.slots) c.self.view_is in
    let are = subst (λ (x : PoolSlots). AreSlots x.pool x.slots) c.self.view_is c.self.invariant in
    let bound = c.bound_slot-bound in
    let wanted = c.slot_of-wanted in
    let binding = c.located.ensures.address ∙ bound_found v c.args.clock m.key are ss now.result bound.result shown now.ensures.value bound.ensures.slot in
    let bound_is = position (is_bound_to same_key6 now.result m.key) ss in
    let listed = wanted.ensures.slot ∙ ap (slot_in (number6 v.pool.first) v.pool.count) (c.first_listed.ensures ∙ ap first_listed c.as_slice.ensures.value) in
    let picked =
    c.picked_slot-picked.ensures.slot ∙ ap (λ o. picked_slot now.result ss o wanted.result) bound.ensures.slot ∙ ap (picked_slot now.result ss bound_is) listed in
    let pick = c.located-2.ensures.address ∙ pick_found v c.args.clock m.key (first_listed m.listed.items) are ss now.result c.picked_slot-picked.result shown now.ensures.value picked in
    λ i. record { binding = binding i; pick = pick i }
