use Rattle.std.proofs.Common.{sym, ap, ◌∙◌}
use Rattle.world.specs.Alone.{frames}
use Rattle.world.specs.Start.{opened, opening_in, seen_in}
use Rattle.promises.specs.Elsewhere.{served_elsewhere}
use Rattle.promises.proofs.ElsewhereLemmas.{frames_elsewhere}
use Rattle.promises.proofs.SeenLemmas.{begins}
use Rattle.promises.proofs.elsewhere.isolation_of_split_configurations.Goals as goal

pub returns : goal.returns
returns x c d quota one two device other_device setup relay listen4 listen6 events others start other sent received begun begun_too here there readable legible alike first second same =
    let a = opened setup (opening_in device setup) in
    let b = opened setup (opening_in other_device setup) in
    first.each c setup a (begun.each c setup here readable)
    ∙ ap (λ seen. frames setup seen a) (begins one quota device start begun c events ∙ same)
    ∙ ap (λ opening. frames setup (seen_in two d others) (opened setup opening)) alike
    ∙ sym (frames_elsewhere relay listen4 listen6 setup (seen_in two d others) b)
    ∙ sym (second.each d (served_elsewhere relay listen4 listen6 setup) b (begun_too.each d (served_elsewhere relay listen4 listen6 setup) there legible)
    ∙ ap (λ seen. frames (served_elsewhere relay listen4 listen6 setup) seen b) (begins two quota other_device other begun_too d others))
