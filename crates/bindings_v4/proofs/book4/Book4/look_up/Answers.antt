use Rattle.std.proofs.Common.{◌∙◌, ap, subst, rules}
use Rattle.std.specs.Prelude.{option_map}
use Rattle.std.specs.List.{position}
use Rattle.std.specs.Str.{bytes_eq}
use Rattle.std.specs.Option.{option_or}
use Rattle.slots.specs.Lookup.{is_bound_to, is_offered_to, picked_slot}
use Rattle.types.specs.Addr.{number4}
use Rattle.bindings_v4.specs.Slots4.{AreSlots, PoolSlots}
use Rattle.bindings_v4.proofs.FreeLemmas.{bound_found, offered_found, pick_found}
use Rattle.bindings_v4.proofs.book4.Book4.look_up.Goals as goal

pub returns-clause-found : goal.returns-clause-found
returns-clause-found c =
    let v = c.args.self.now in
    let m = c.args.request.now in
    let now = c.seconds-seconds in
    let ss = c.self.inside.slots in
    let shown = ap (λ x. x.slots) c.self.view_is in
    let are = subst (λ (x : PoolSlots). AreSlots x.pool x.slots) c.self.view_is c.self.invariant in
    let held_slots = c.held_slots-bound in
    let bound = held_slots.result.0 in
    let offered = held_slots.result.1 in
    let wanted = c.slot_of-wanted in
    let binding = c.located.ensures.address ∙ bound_found v c.args.clock m.key are ss now.result bound shown now.ensures.value held_slots.ensures.bound in
    let offer = c.located-2.ensures.address ∙ offered_found v c.args.clock m.key are ss now.result offered shown now.ensures.value held_slots.ensures.offered in
    let bound_is = position (is_bound_to bytes_eq now.result m.key) ss in
    let offered_is = position (is_offered_to bytes_eq now.result m.key) ss in
    let held = c.or.ensures ∙ ap (λ o. option_or o offered) held_slots.ensures.bound ∙ ap (option_or bound_is) held_slots.ensures.offered in
    let picked =
    c.picked_slot-picked.ensures.slot ∙ ap (λ o. picked_slot now.result ss o wanted.result) held ∙ ap (picked_slot now.result ss (option_or bound_is offered_is)) wanted.ensures.slot in
    let pick = c.located-3.ensures.address ∙ pick_found v c.args.clock m.key (option_map number4 m.wanted) are ss now.result c.picked_slot-picked.result shown now.ensures.value picked in
    λ i. record { binding = binding i; offer = offer i; pick = pick i }

pub located-requires-3 : goal.located-requires-3
located-requires-3 c = search rules
