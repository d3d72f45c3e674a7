use Rattle.settings.proofs.TextLemmas.{parts_of_source, no_source, source_from_parts}
use Rattle.settings.proofs.text_forms.source.Goals as goal

pub returns-in_default-clause-none : goal.returns-in_default-clause-none
returns-in_default-clause-none c = no_source _ c.in_default.ensures.cases

pub returns-in_default-address-clause-none : goal.returns-in_default-address-clause-none
returns-in_default-address-clause-none c = λ s h.
    let parts = parts_of_source _ (c.in-Some.front, c.in-Some.back) c.in-Some.ensures.cases s h in
    c.in_default-address.ensures.none s.addr parts.0

pub returns-in_default-port-clause-none : goal.returns-in_default-port-clause-none
returns-in_default-port-clause-none c = λ s h.
    let parts = parts_of_source _ (c.in-Some.front, c.in-Some.back) c.in-Some.ensures.cases s h in
    c.in_default-port.ensures.none s.port parts.1

pub returns-clause-some : goal.returns-clause-some
returns-clause-some c =
    source_from_parts _ (c.in-Some.front, c.in-Some.back) c.in-Some.ensures.cases _ c.in-Some-address.ensures.some c.in-Some-port.ensures.some
