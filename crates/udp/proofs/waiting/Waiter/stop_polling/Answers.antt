use Rattle.std.proofs.Common.{arith, refl}
use Rattle.udp.specs.Waiting.{bit_of}
use Rattle.udp.proofs.WordLemmas.{filled}
use Rattle.udp.proofs.waiting.Waiter.stop_polling.Goals as goal

pub returns : goal.returns
returns c role = filled c.fill.new.self.items (λ k within. c.fill.ensures.clones k 0 (omega (arith, within, c.fill.ensures.len)) refl) (bit_of role)
