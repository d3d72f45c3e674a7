use Rattle.std.proofs.Common.{◌∙◌, ap, sym, subst}
use Rattle.std.specs.Prelude.{Option, Some, IfSome}
use Rattle.slots.specs.Kept.{AreWithin, AreOffersWithin}
use Rattle.slots.specs.Slots.{with_slot}
use Rattle.types.specs.Key6.{same_key6}
use Rattle.types.specs.Slots.{IsWithin6}
use Rattle.bindings_v6.specs.declared.decision6.KeptSlot.{KeptSlot}
use Rattle.bindings_v6.specs.Slots6.{Holders6, PoolSlots, AreSlots, holder_of}
use Rattle.bindings_v6.proofs.KeptLemmas.{never_offered}
use Rattle.bindings_v6.proofs.LimitLemmas.{keep_within, keep_offered}
use Rattle.bindings_v6.proofs.RowLemmas.{are_with_slot}
use Rattle.bindings_v6.proofs.book6.Book6.commit.Goals as goal

pub invariant_of-self : goal.invariant_of-self
invariant_of-self c =
    let kept = c.in-Some.kept in
    let e = c.write.ensures ∙ ap (λ h. with_slot same_key6 kept.slot h c.self.inside.slots) c.holder_of.ensures in
    subst (λ (ss : Holders6). AreSlots c.self.inside.pool ss) (sym e)
    (are_with_slot c.self.inside.pool kept.slot (holder_of kept.content) c.self.inside.slots (never_offered kept.content) c.self.invariant)

pub returns-in-Some-clause-within : goal.returns-in-Some-clause-within
returns-in-Some-clause-within c =
    let kept = c.in-Some.kept in
    let e = c.write.ensures ∙ ap (λ h. with_slot same_key6 kept.slot h c.self.inside.slots) c.holder_of.ensures in
    λ within keep. subst (λ (ss : Holders6). AreWithin ss) (sym e)
    (keep_within (Some kept) c.self.inside.slots (subst (λ (v : PoolSlots). AreWithin v.slots) (sym c.self.view_is) within)
    (subst (λ (o : Option KeptSlot). IfSome o (λ (k : KeptSlot). IsWithin6 k.content)) c.in-Some.is keep))

pub returns-in-Some-clause-offers : goal.returns-in-Some-clause-offers
returns-in-Some-clause-offers c =
    let kept = c.in-Some.kept in
    let e = c.write.ensures ∙ ap (λ h. with_slot same_key6 kept.slot h c.self.inside.slots) c.holder_of.ensures in
    λ within. subst (λ (ss : Holders6). AreOffersWithin ss) (sym e)
    (keep_offered (Some kept) c.self.inside.slots (subst (λ (v : PoolSlots). AreOffersWithin v.slots) (sym c.self.view_is) within))
