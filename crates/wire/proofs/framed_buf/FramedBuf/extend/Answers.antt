use Rattle.std.proofs.Common.{List, ℕ, ◌+◌, ◌-◌, ◌≤◌, ◌++◌, length, take, drop, arith, ap, ◌∙◌}
use borrow.Rule.Slice.PartMut.{put_mid}
use Rattle.wire.specs.Framed.{FramedValue}
use Rattle.wire.proofs.FramedLemmas.{appended, front_stays}
use Rattle.wire.proofs.framed_buf.FramedBuf.extend.Goals as goal

pub returns-clause-ok : goal.returns-clause-ok
returns-clause-ok c =
    let b = c.self.inside in
    let xs = c.args.bytes.now in
    let fits : 16 + b.len ≤ length b.bytes = omega (arith, c.self.invariant.1, c.self.told) in
    let k = 16 + (b.len + length xs) - (16 + b.len) in
    let front = front_stays b.bytes c.copy_from_slice.new.self b.start b.len k fits ∙ ap (λ (v : FramedValue). v.front) c.self.view_is in
    let datagram = ap (λ (w : List ℕ). take (b.len + length xs) (drop 16 (put_mid (16 + b.len) k b.bytes w))) c.copy_from_slice.ensures.after
    ∙ appended b.bytes xs b.len k fits ∙ ap (λ (v : FramedValue). v.datagram ++ xs) c.self.view_is in
    λ i. record { front = front i; datagram = datagram i }
