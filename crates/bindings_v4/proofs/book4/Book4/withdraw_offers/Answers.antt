use Rattle.std.proofs.Common.{sym, ap, subst, ◌∙◌}
use Rattle.slots.specs.Kept.{AreWithin, AreOffersWithin}
use Rattle.bindings_v4.specs.Kept4.{kept_book, kept_slots}
use Rattle.bindings_v4.specs.Slots4.{PoolSlots, book4_of}
use Rattle.bindings_v4.proofs.OfferLemmas.{still_slots, shown_without, same_kept, still_within, no_offer_left}
use Rattle.bindings_v4.proofs.book4.Book4.withdraw_offers.Goals as goal

pub invariant_of-self : goal.invariant_of-self
invariant_of-self c = still_slots c.self.inside.pool c.self.inside.slots _ c.self.invariant c.withdraw_offers.ensures

pub returns-clause-book : goal.returns-clause-book
returns-clause-book c = λ clock.
    ap (λ ss. book4_of clock (record { pool = c.self.inside.pool; slots = ss })) c.withdraw_offers.ensures
    ∙ shown_without clock (record { pool = c.self.inside.pool; slots = c.self.inside.slots })
    ∙ ap (λ (v : PoolSlots). kept_book (book4_of clock v)) c.self.view_is

pub returns-clause-kept : goal.returns-clause-kept
returns-clause-kept c = λ clock.
    ap (kept_slots clock) c.withdraw_offers.ensures ∙ same_kept clock c.self.inside.slots ∙ ap (λ (v : PoolSlots). kept_slots clock v.slots) c.self.view_is

pub returns-clause-within : goal.returns-clause-within
returns-clause-within c = λ within.
    subst AreWithin (sym c.withdraw_offers.ensures) (still_within c.self.inside.slots (subst (λ (v : PoolSlots). AreWithin v.slots) (sym c.self.view_is) within))

pub returns-clause-offers : goal.returns-clause-offers
returns-clause-offers c = subst AreOffersWithin (sym c.withdraw_offers.ensures) (no_offer_left c.self.inside.slots)
