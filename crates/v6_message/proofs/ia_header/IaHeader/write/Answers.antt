use Rattle.v6_message.proofs.ia_header.IaHeader.write.Goals as goal

pub returns-clause-ok : goal.returns-clause-ok
returns-clause-ok c = rw (c.to_be_bytes.ensures, c.to_be_bytes-2.ensures, c.to_be_bytes-3.ensures) at c.put_parts.ensures.ok
