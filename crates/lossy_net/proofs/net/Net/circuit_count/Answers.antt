use Rattle.std.proofs.Common.{length, sym, ap, ◌∙◌}
use Rattle.lossy_net.specs.Net.{NetValue}
use Rattle.lossy_net.proofs.Lists.{length-circuits}
use Rattle.lossy_net.proofs.net.Net.circuit_count.Goals as goal

pub returns : goal.returns
returns c = sym (length-circuits c.self.inside) ∙ ap (λ (net : NetValue). length net.circuits) c.self.view_is
