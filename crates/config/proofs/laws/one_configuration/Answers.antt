use Rattle.config.proofs.LawLemmas.{one_config}
use Rattle.config.proofs.laws.one_configuration.Goals as goal

pub returns : goal.returns
returns c = one_config
