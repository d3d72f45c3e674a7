use Rattle.v6_message.proofs.IaExact.{formed, read, address}
use Rattle.v6_message.proofs.laws.written_ia_is_read.Goals as goal

pub returns : goal.returns
returns c = record { formed = formed; read = read; address = address }
