use Rattle.std.proofs.Common.{sym, ap, ◌∙◌}
use Rattle.std.specs.Prelude.{Some}
use Rattle.bindings_v4.specs.Slots4.{with_offer}
use Rattle.bindings_v4.specs.declared.decision4.OfferChange.{OfferChange}
use Rattle.bindings_v4.proofs.write.write_offer.Goals as goal

pub returns-in-Made : goal.returns-in-Made
returns-in-Made c = c.write.ensures ∙ sym (ap (λ (change : OfferChange). with_offer (Some change) c.args.slots.now) c.in-Made.is)
