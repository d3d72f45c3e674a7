use Rattle.std.proofs.Common.{sym, ap, ◌∙◌}
use Rattle.world.specs.Alone.{frames}
use Rattle.promises.proofs.two_runs.isolation.Goals as goal

pub returns : goal.returns
returns x c d setup a events others start other sent received one two here there same =
    one.each c setup a here ∙ ap (λ seen. frames setup seen a) same ∙ sym (two.each d setup a there)
