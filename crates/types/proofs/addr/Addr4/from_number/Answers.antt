use Rattle.std.proofs.Common.{ap, ◌∙◌}
use Rattle.std.specs.Int.{w32, from_be_bytes}
use Rattle.std.proofs.lemmas.Nat.{from_be_bytes-to_be_bytes_4}
use Rattle.types.proofs.addr.Addr4.from_number.Goals as goal

pub returns-clause-number : goal.returns-clause-number
returns-clause-number c = ap (from_be_bytes w32) c.to_be_bytes.ensures ∙ from_be_bytes-to_be_bytes_4 c.args.number c.ranges.number.fits
