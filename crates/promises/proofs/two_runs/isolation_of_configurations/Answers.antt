use Rattle.std.proofs.Common.{sym, ap, ◌∙◌}
use Rattle.world.specs.Alone.{frames}
use Rattle.world.specs.Start.{opened, opening_in, seen_in}
use Rattle.promises.proofs.SeenLemmas.{begins}
use Rattle.promises.proofs.two_runs.isolation_of_configurations.Goals as goal

pub returns-clause-same : goal.returns-clause-same
returns-clause-same x c d quota one two device other_device setup events others start other sent received begun begun_too here there readable legible alike first second same =
    let a = opened setup (opening_in device setup) in
    first.each c setup a (begun.each c setup here readable)
    ∙ ap (λ seen. frames setup seen a) (begins one quota device start begun c events ∙ same)
    ∙ ap (λ opening. frames setup (seen_in two d others) (opened setup opening)) alike
    ∙ sym (second.each d setup (opened setup (opening_in other_device setup)) (begun_too.each d setup there legible) ∙ ap (λ seen. frames setup seen (opened setup (opening_in other_device setup))) (begins two quota other_device other begun_too d others))

pub returns-clause-alone : goal.returns-clause-alone
returns-clause-alone x c quota plans device setup events start sent begun here readable are =
    are.each c setup (opened setup (opening_in device setup)) (begun.each c setup here readable)
    ∙ ap (λ seen. frames setup seen (opened setup (opening_in device setup))) (begins plans quota device start begun c events)
