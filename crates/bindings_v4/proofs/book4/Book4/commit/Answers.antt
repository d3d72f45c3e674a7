use Rattle.std.proofs.Common.{sym, subst}
use Rattle.slots.specs.Kept.{AreWithin, AreOffersWithin}
use Rattle.bindings_v4.specs.Decision4.{kept_slot, offer_change}
use Rattle.bindings_v4.specs.Slots4.{PoolSlots}
use Rattle.bindings_v4.proofs.LimitLemmas.{committed_within, committed_offers}
use Rattle.bindings_v4.proofs.RowLemmas.{are_committed}
use Rattle.bindings_v4.proofs.book4.Book4.commit.Goals as goal

pub invariant_of-self : goal.invariant_of-self
invariant_of-self c =
    let d = c.args.decision.now in
    are_committed c.self.inside.pool (offer_change d.change) (kept_slot d.change) c.self.inside.slots _ c.self.invariant c.write_change.ensures

pub returns-clause-within : goal.returns-clause-within
returns-clause-within c =
    let d = c.args.decision.now in
    λ within keep. committed_within (offer_change d.change) (kept_slot d.change) c.self.inside.slots _ c.write_change.ensures
    (subst (λ (v : PoolSlots). AreWithin v.slots) (sym c.self.view_is) within) keep

pub returns-clause-offers : goal.returns-clause-offers
returns-clause-offers c =
    let d = c.args.decision.now in
    λ within offer. committed_offers (offer_change d.change) (kept_slot d.change) c.self.inside.slots _ c.write_change.ensures
    (subst (λ (v : PoolSlots). AreOffersWithin v.slots) (sym c.self.view_is) within) offer
