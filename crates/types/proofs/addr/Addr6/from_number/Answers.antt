use Rattle.std.proofs.Common.{ap, ◌∙◌}
use Rattle.std.specs.Int.{w128, from_be_bytes}
use Rattle.types.proofs.NumberLemmas.{from_be_bytes-to_be_bytes_16}
use Rattle.types.proofs.addr.Addr6.from_number.Goals as goal

pub returns-clause-number : goal.returns-clause-number
returns-clause-number c = ap (from_be_bytes w128) c.to_be_bytes.ensures ∙ from_be_bytes-to_be_bytes_16 c.args.number c.ranges.number.fits
