use Rattle.settings.proofs.text_forms.address.Goals as goal

pub returns-in-Err-clause-none : goal.returns-in-Err-clause-none
returns-in-Err-clause-none c = λ a h. c.in-Err.ensures.value (record { octets = a.0 }) h
