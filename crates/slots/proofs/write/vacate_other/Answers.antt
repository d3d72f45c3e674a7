use Rattle.std.proofs.Common.{◌≡◌, true, get_or, set, sym, ap, ◌∙◌}
use Rattle.std.specs.Prelude.{None}
use Rattle.std.proofs.lemmas.List.{get_or_default, set-set}
use Rattle.slots.specs.Slots.{is_clients, with_vacancy}
use Rattle.slots.proofs.KeptWrites.{place_is}
use Rattle.slots.proofs.write.vacate_other.Goals as goal

pub returns-then-is_clients : goal.returns-then-is_clients
returns-then-is_clients g c = λ holder.
    let slots = c.args.slots.now in
    let next = c.args.next in
    let own : is_clients g.K.PartialEq.eq c.args.client.now (get_or slots next None) ≡ true = ap (is_clients g.K.PartialEq.eq c.args.client.now) (get_or_default slots next None _ c.if-next-slots.true) ∙ sym c.is_clients.ensures ∙ c.if-is_clients.true in
    sym (ap (λ o. set (with_vacancy o slots) next holder) (place_is g.met.K.SlotKey.is_key c.args.client.now next slots c.requires.distinct own) ∙ set-set slots next None holder)
