use Rattle.v6_options.proofs.Exact.{written_is_read, written_spells}
use Rattle.v6_options.proofs.laws.written_is_read.Goals as goal

pub returns : goal.returns
returns c = record { read = written_is_read; spelled = written_spells }
