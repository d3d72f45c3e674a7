use Rattle.std.proofs.Common.{◌≡◌, ◌∙◌, ap, sym, get_or}
use Rattle.std.specs.Prelude.{Some, None}
use Rattle.std.specs.Bool.{then_some}
use Rattle.std.specs.List.{position}
use Rattle.slots.specs.Lookup.{is_bound, is_bound_to, is_offered, is_offered_to}
use Rattle.slots.specs.Slots.{is_clients}
use Rattle.std.proofs.lemmas.List.Quantifiers.{position-Some}
use Rattle.slots.proofs.KeptLemmas.{get_or_any}
use Rattle.slots.proofs.OwnLemmas.{bound_is_clients, bound_own, offered_is_clients, offered_own, own_slot, where_true}
use Rattle.slots.proofs.table.SlotTable.held_slots.Goals as goal

pub returns-in_default-clause-bound : goal.returns-in_default-clause-bound
returns-in_default-clause-bound g c =
    let eqk = g.K.PartialEq.eq in
    let law = g.met.K.SlotKey.is_key in
    let k = c.args.client.now in
    let items = c.self.inside.slots.items in
    let own : position (is_clients eqk k) items ≡ None = ap (position (is_clients eqk k)) (sym c.as_slice-slots.ensures.value) ∙ sym c.clients_slot.ensures.slot ∙ c.in_default.is in
    sym (ap (position (is_bound_to eqk c.args.clock k)) (sym c.self.view_is) ∙ own_slot law (is_bound_to eqk c.args.clock k) k items (bound_is_clients law c.args.clock k) c.self.invariant.distinct None own)

pub returns-clause-bound : goal.returns-clause-bound
returns-clause-bound g c =
    let eqk = g.K.PartialEq.eq in
    let law = g.met.K.SlotKey.is_key in
    let k = c.args.client.now in
    let slot = c.in-Some.slot in
    let slots = c.as_slice-slots.result.now in
    let items = c.self.inside.slots.items in
    let test = is_bound_to eqk c.args.clock k in
    let own : position (is_clients eqk k) items ≡ Some slot = ap (position (is_clients eqk k)) (sym c.as_slice-slots.ensures.value) ∙ sym c.clients_slot.ensures.slot ∙ c.in-Some.is in
    let held : c.index-slots-slot.result ≡ get_or items slot None =
    c.index-slots-slot.is ∙ get_or_any slots slot c.index-slots-slot.result None c.in-Some.ensures.below ∙ ap (λ ss. get_or ss slot None) c.as_slice-slots.ensures.value in
    c.then_some.ensures ∙ ap (λ b. then_some b slot) (c.is_bound.ensures ∙ ap (is_bound c.args.clock) held ∙ bound_own law c.args.clock k (get_or items slot None) (position-Some (is_clients eqk k) items slot None own).1) ∙ where_true (test (get_or items slot None)) slot
    ∙ sym (own_slot law test k items (bound_is_clients law c.args.clock k) c.self.invariant.distinct (Some slot) own) ∙ ap (position test) c.self.view_is

pub returns-in_default-clause-offered : goal.returns-in_default-clause-offered
returns-in_default-clause-offered g c =
    let eqk = g.K.PartialEq.eq in
    let law = g.met.K.SlotKey.is_key in
    let k = c.args.client.now in
    let items = c.self.inside.slots.items in
    let own : position (is_clients eqk k) items ≡ None = ap (position (is_clients eqk k)) (sym c.as_slice-slots.ensures.value) ∙ sym c.clients_slot.ensures.slot ∙ c.in_default.is in
    sym (ap (position (is_offered_to eqk c.args.clock k)) (sym c.self.view_is) ∙ own_slot law (is_offered_to eqk c.args.clock k) k items (offered_is_clients law c.args.clock k) c.self.invariant.distinct None own)

pub returns-clause-offered : goal.returns-clause-offered
returns-clause-offered g c =
    let eqk = g.K.PartialEq.eq in
    let law = g.met.K.SlotKey.is_key in
    let k = c.args.client.now in
    let slot = c.in-Some.slot in
    let slots = c.as_slice-slots.result.now in
    let items = c.self.inside.slots.items in
    let test = is_offered_to eqk c.args.clock k in
    let own : position (is_clients eqk k) items ≡ Some slot = ap (position (is_clients eqk k)) (sym c.as_slice-slots.ensures.value) ∙ sym c.clients_slot.ensures.slot ∙ c.in-Some.is in
    let held : c.index-slots-slot.result ≡ get_or items slot None =
    c.index-slots-slot.is ∙ get_or_any slots slot c.index-slots-slot.result None c.in-Some.ensures.below ∙ ap (λ ss. get_or ss slot None) c.as_slice-slots.ensures.value in
    c.then_some-2.ensures ∙ ap (λ b. then_some b slot) (c.is_offered.ensures ∙ ap (is_offered c.args.clock) held ∙ offered_own law c.args.clock k (get_or items slot None) (position-Some (is_clients eqk k) items slot None own).1) ∙ where_true (test (get_or items slot None)) slot
    ∙ sym (own_slot law test k items (offered_is_clients law c.args.clock k) c.self.invariant.distinct (Some slot) own) ∙ ap (position test) c.self.view_is
