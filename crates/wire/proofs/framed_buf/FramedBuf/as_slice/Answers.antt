use Rattle.std.proofs.Common.{◌++◌, arith, ap, ◌∙◌}
use Rattle.wire.specs.Framed.{FramedValue}
use Rattle.wire.proofs.FramedLemmas.{whole}
use Rattle.wire.proofs.framed_buf.FramedBuf.as_slice.Goals as goal

pub returns : goal.returns
returns c =
    let b = c.self.inside in
    record { value = whole b.bytes b.start b.len c.self.invariant.0 (omega (arith, c.self.invariant.1, c.self.told)) ∙ ap (λ (v : FramedValue). v.front ++ v.datagram) c.self.view_is }
